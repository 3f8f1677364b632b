-- The children of a directory: for each name its number, in byte order of the names (readdir(3)).
use Rattle.std.specs.Prelude.{ℕ, not, List, filter, map, T}
use Rattle.std.specs.FinMap as fin
use Rattle.std.specs.Ordering.{eq_by_cmp}
use Rattle.std.specs.Coded.{Coded, coded_list, coded_ℕ}
use Rattle.std.specs.declared.cmp.Ordering.{Ordering}
use Rattle.pv_path.specs.Names.{name_cmp}

-- A map from names to numbers.
abbrev pub Children : Type 0
Children = fin.FinMap name_cmp ℕ

-- How the prover stores children.
abbrev pub children_code : Coded Children
children_code = fin.code (coded_list coded_ℕ) coded_ℕ

-- Names with numbers are in the order of the names, each name once.
abbrev pub IsSorted : List (List ℕ × ℕ) → Type 0
IsSorted es = T (fin.is_sorted name_cmp es)

-- How each name compares with this one.
abbrev pub orders_of : List ℕ → List (List ℕ × ℕ) → List Ordering
orders_of name es = map (λ e. name_cmp e.0 name) es

-- The entries without the one of this name.
abbrev pub without : List ℕ → List (List ℕ × ℕ) → List (List ℕ × ℕ)
without name es = filter (λ e. not (eq_by_cmp name_cmp name e.0)) es
