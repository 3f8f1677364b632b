-- Names of directory entries: the components of a path, without the slashes between them (path_resolution(7)).
use Rattle.std.specs.Prelude.{ℕ, Bool, not, ◌&&◌, ◌||◌, ◌==◌, nat_le, nat_lt, nat_eq, List, ◌++◌, length, codes}
use Rattle.std.specs.List.{list_all, starts_with}
use Rattle.std.specs.Ordering.{nat_cmp}
use Rattle.std.specs.Cmp.Lexicographic.{pointwise, slice_cmp}
use Rattle.std.specs.declared.cmp.Ordering.{Ordering}

-- Whether two names, or two texts, are the same bytes.
abbrev pub same_bytes : List ℕ → List ℕ → Bool
same_bytes = pointwise nat_eq

-- The order of names: by bytes, a prefix before a longer name.
abbrev pub name_cmp : List ℕ → List ℕ → Ordering
name_cmp = slice_cmp nat_cmp

-- Whether a text is `.` or `..`. These stand for a directory itself and for its parent, and are not names.
abbrev pub is_dots : List ℕ → Bool
is_dots name = same_bytes name (codes ".") || same_bytes name (codes "..")

-- Whether a byte may occur in a name: it is neither NUL nor a slash.
abbrev pub is_name_byte : ℕ → Bool
is_name_byte b = nat_lt b 256 && not (b == 0) && not (b == 47)

-- Whether a text is a name. It has 1 to 255 bytes, none of them NUL or a slash, and it is neither `.` nor `..`.
abbrev pub is_name : List ℕ → Bool
is_name name = nat_le 1 (length name) && nat_le (length name) 255 && list_all is_name_byte name && not (is_dots name)

-- The five bytes with which a staging name begins.
abbrev pub staging_mark : List ℕ
staging_mark = codes ".#tf-"

-- Whether a name is a staging name. Such names belong to this program, which builds new objects under them.
abbrev pub is_staging : List ℕ → Bool
is_staging name = starts_with nat_eq name staging_mark

-- The staging name of a name. Example: that of `app` is `.#tf-app`.
abbrev pub staging_name : List ℕ → List ℕ
staging_name name = staging_mark ++ name
