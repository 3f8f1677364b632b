-- The order of creating by ranks, without an insertion for each line. Lines that make objects are sorted by their
-- ranks.
use Rattle.std.specs.Prelude.{◌≡◌, ℕ, Bool, true, ◌&&◌, List, length, Option, None, is_some, unwrap_or, if◌then◌else◌}
use Rattle.std.specs.BTreeMap.{insert_entry}
use Rattle.std.specs.Ordering.{nat_cmp, ordering_then}
use Rattle.std.specs.declared.cmp.Ordering.{Ordering}
use Rattle.pv_lines.specs.declared.line.Line.{Line}
use Rattle.pv_path.specs.Paths.{Path, is_prefix}
use Rattle.pv_table.specs.Active.{Listed}
use Rattle.pv_table.specs.Building.{first_index, makes}
use Rattle.pv_table.specs.Reaching.{is_creating, path_in}

-- Whether a line makes an object at or below a path.
abbrev pub makes_under : Path → Line → Bool
makes_under path line = is_creating line && is_prefix path (path_in line.path)

-- The index of the first line that makes an object at or below a path.
abbrev pub first_under : List Line → Path → Option ℕ
first_under lines path = first_index (makes_under path) lines

-- The same index, if the path is that of a line of the table. Otherwise none.
abbrev pub first_known : List Line → List Line → Path → Option ℕ
first_known table lines path = if is_some (first_index (makes path) table) then first_under lines path else None

-- If a path has an index, each prefix of it that is the path of a line of the table has one too.
abbrev pub HasPrefixes : List Line → (Path → Option ℕ) → Type 0
HasPrefixes table index =
    (p q : Path) → is_some (index p) ≡ true → is_prefix q p ≡ true → is_some (first_index (makes q) table) ≡ true → is_some (index q) ≡ true

-- The rank of a line. First comes the index of the first line that makes an object at or below its path. Then comes
-- the number of components of this path.
abbrev pub Rank : Type 0
Rank = ℕ × ℕ

-- The rank of a line among these lines.
abbrev pub rank_of : List Line → Line → Rank
rank_of lines line = (unwrap_or (first_under lines (path_in line.path)) 0, length (path_in line.path))

-- Ranks are compared by the index first, and then by the number of components.
abbrev pub rank_cmp : Rank → Rank → Ordering
rank_cmp x y = ordering_then (nat_cmp x.0 y.0) (nat_cmp x.1 y.1)

-- The indices of lines that make objects, by their ranks, with one more line.
abbrev pub with_rank : List Line → List (Rank × ℕ) → Listed → List (Rank × ℕ)
with_rank lines ranks line = if is_creating line.1 then insert_entry rank_cmp ranks (rank_of lines line.1) line.0 else ranks
