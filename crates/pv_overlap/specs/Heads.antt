-- The head of a pattern: the path with which all paths that it matches begin. It is spelled by the first components
-- that have no wildcard (glob(7)).
use Rattle.std.specs.Prelude.{Bool, ◌||◌, List, [], ◌∷◌, if◌then◌else◌}
use Rattle.std.specs.Option.{option_map_or}
use Rattle.pv_path.specs.Names.{is_name, same_bytes}
use Rattle.pv_path.specs.Paths.{Path, is_prefix}
use Rattle.pv_glob.specs.declared.element.Element.{Element}
use Rattle.pv_glob.specs.Written.{written}

-- The path of the first components that are written without wildcards. It ends before the first one that is not a
-- name.
abbrev pub head_of : List (List Element) → Path
head_of [] = []
head_of (component ∷ components) = option_map_or (λ name. if is_name name then name ∷ head_of components else []) (written component) []

-- The longest path that is a prefix of both.
abbrev pub common : Path → Path → Path
common [] q = []
common (name ∷ p) [] = []
common (name ∷ p) (other ∷ q) = if same_bytes name other then name ∷ common p q else []

-- The longest path that is a prefix of a path and of the heads of some expansions.
abbrev pub common_with : Path → List (List (List Element)) → Path
common_with path [] = path
common_with path (plain ∷ plains) = common_with (common path (head_of plain)) plains

-- The head of a pattern with these expansions: the longest path that is a prefix of the head of each.
abbrev pub head_of_all : List (List (List Element)) → Path
head_of_all [] = []
head_of_all (plain ∷ plains) = common_with (head_of plain) plains

-- Whether one of two heads is a prefix of the other.
abbrev pub related : Path → Path → Bool
related p q = is_prefix p q || is_prefix q p
