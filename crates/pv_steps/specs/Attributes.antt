-- Extended attributes of an object: their names, their values, and lists of them in order (xattr(7)).
use Rattle.std.specs.Prelude.{ℕ, ◌-◌, Bool, not, ◌&&◌, ◌==◌, nat_le, nat_lt, nat_eq, List, length, take, drop, fold, codes}
use Rattle.std.specs.List.{list_all, list_any, starts_with}
use Rattle.std.specs.Ordering.{is_lt}
use Rattle.pv_acl.specs.Ordered.{all_before_by, is_ordered_by, put_by}
use Rattle.pv_path.specs.Names.{name_cmp}
use Rattle.pv_steps.specs.declared.attr.Attr.{Attr}

-- The bytes of a name except the first and the last.
abbrev pub inner_bytes : List ℕ → List ℕ
inner_bytes name = drop 1 (take (length name - 1) name)

-- Whether an attribute may have this name. It has 1 to 255 bytes without NUL, and a period that is neither first nor
-- last. It is not in the namespace `system`, where ACLs are kept.
abbrev pub is_attr_name : List ℕ → Bool
is_attr_name name =
    nat_le 1 (length name) && nat_le (length name) 255 && list_all (λ b. not (b == 0)) name
    && list_any (λ b. b == 46) (inner_bytes name) && not (starts_with nat_eq name (codes "system."))

-- Whether these numbers are bytes.
abbrev pub are_bytes : List ℕ → Bool
are_bytes numbers = list_all (λ b. nat_lt b 256) numbers

-- Whether an object may have an attribute with this name and value. The value has at most 65,536 bytes.
abbrev pub is_attr : List ℕ → List ℕ → Bool
is_attr name value = is_attr_name name && nat_le (length value) 65536 && are_bytes name && are_bytes value

-- Whether the name of an attribute comes before that of another, by bytes.
abbrev pub comes_before : Attr → Attr → Bool
comes_before x y = is_lt (name_cmp x.name y.name)

-- Whether each of some attributes comes before this one.
abbrev pub all_before : List Attr → Attr → Bool
all_before = all_before_by comes_before

-- Whether attributes are in order, with each name at most once.
abbrev pub is_ordered : List Attr → Bool
is_ordered = is_ordered_by comes_before

-- Whether an object may have these attributes: each is allowed, and they are in order.
abbrev pub are_attrs : List Attr → Bool
are_attrs xs = list_all (λ x. is_attr x.name x.value) xs && is_ordered xs

-- An attribute put among others in order. It replaces one with the same name.
abbrev pub put_attr : Attr → List Attr → List Attr
put_attr = put_by comes_before

-- Attributes put among others, one after another.
abbrev pub put_attrs : List Attr → List Attr → List Attr
put_attrs given xs = fold (λ xs y. put_attr y xs) xs given
