-- Components without wildcards and brackets. Each matches one name alone (glob(7)).
use Rattle.std.specs.Prelude.{ℕ, not, ◌&&◌, List, [], ◌∷◌, Option, Some, None, option_map, if◌then◌else◌}
use Rattle.pv_path.specs.Names.{is_name, is_staging}
use Rattle.pv_glob.specs.declared.element.Element.{Element}
use Rattle.pv_glob.specs.declared.element.Element.TheVariants.{Byte}
use Rattle.pv_glob.specs.Matching.{component_matches}

-- The bytes of the elements, if each is a byte.
abbrev pub written : List Element → Option (List ℕ)
written [] = Some []
written (Byte b ∷ elements) = option_map (λ bytes. b ∷ bytes) (written elements)
written (element ∷ elements) = None

-- The name that these bytes are, if they are a name that the component matches. It is not a staging name.
abbrev pub name_by : List Element → List ℕ → Option (List ℕ)
name_by component bytes = if is_name bytes && not (is_staging bytes) && component_matches component bytes then Some bytes else None
