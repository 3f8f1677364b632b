-- The paths that two patterns both reach (glob(7), tmpfiles.d(5)). A pattern reaches the paths that it matches. With
-- `below` it also reaches all paths below these.
use Rattle.std.specs.Prelude.{ℕ, Bool, true, not, ◌&&◌, ◌||◌, nat_lt, List, [], length, take, slice_index_or, if◌then◌else◌}
use Rattle.std.specs.List.{list_any}
use Rattle.pv_path.specs.Names.{is_name, is_staging}
use Rattle.pv_path.specs.Paths.{Path, has_names, has_staging}
use Rattle.pv_glob.specs.declared.element.Element.{Element}
use Rattle.pv_glob.specs.Matching.{component_matches, matches}

-- Whether a pattern without braces reaches a path: it matches the path or, with `below`, a path above it. A path
-- with a staging name is not reached.
abbrev pub in_reach : List (List Element) → Bool → Path → Bool
in_reach components below path =
    not (has_staging path)
    && (matches components path || (below && nat_lt (length components) (length path) && matches components (take (length components) path)))

-- Whether two patterns without braces both reach a path. Each component of the path is a name.
abbrev pub is_met : List (List Element) → Bool → List (List Element) → Bool → Path → Bool
is_met a a_below b b_below path = has_names path && in_reach a a_below path && in_reach b b_below path

-- Whether a pattern reaches a path: one of its expansions does.
abbrev pub reached : List (List (List Element)) → Bool → Path → Bool
reached plains below path = list_any (λ plain. in_reach plain below path) plains

-- Whether two patterns, given by their expansions, both reach a path. Each component of the path is a name.
abbrev pub are_met : List (List (List Element)) → Bool → List (List (List Element)) → Bool → Path → Bool
are_met a a_below b b_below path = has_names path && reached a a_below path && reached b b_below path

-- Whether two components both match a name that is not a staging name.
abbrev pub shares : List Element → List Element → List ℕ → Bool
shares a b name = is_name name && not (is_staging name) && component_matches a name && component_matches b name

-- Whether some path has a number of names that both patterns allow. They have the same number of components, or the
-- one with fewer also reaches what is below.
abbrev pub has_room : List (List Element) → Bool → List (List Element) → Bool → Bool
has_room a a_below b b_below =
    if nat_lt (length a) (length b) then a_below
    else if nat_lt (length b) (length a) then b_below
    else true

-- The component of the first pattern at an index. If it has fewer components, the component of the second pattern.
abbrev pub met_at : List (List Element) → List (List Element) → ℕ → List Element
met_at a b at = if nat_lt at (length a) then slice_index_or a at [] else slice_index_or b at []
