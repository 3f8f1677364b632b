-- Finding the objects directly below a path whose name matches one component of a pattern (glob(7)).
use Rattle.std.specs.Prelude.{Bool, false, ◌&&◌, List, [], ◌∷◌, is_some}
use Rattle.std.specs.Option.{option_map_or}
use Rattle.pv_glob.specs.declared.element.Element.{Element}
use Rattle.pv_glob.specs.Matching.{matches}
use Rattle.pv_path.specs.Paths.{Path}
use Rattle.pv_steps.specs.Trees.{Files, places, child_name}

-- Whether there is an object at the second path, and it is directly below the first. A pattern of one component
-- matches its name.
abbrev pub extends : Files → List (List Element) → Path → Path → Bool
extends files plain path q = is_some (places files q) && option_map_or (λ name. matches plain (name ∷ [])) (child_name path q) false
