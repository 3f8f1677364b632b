-- A pattern that was made name by name.
use Rattle.std.proofs.Common.{◌≡◌, ℕ, ◌≤◌, List, map, length, take, ap, ◌∙◌}
use Rattle.std.proofs.lemmas.List.{take_all}
use Rattle.pv_path.specs.Paths.{Path}
use Rattle.pv_glob.specs.declared.element.Element.{Element}
use Rattle.pv_glob.specs.declared.element.Element.TheVariants.{Byte}
use Rattle.pv_glob.specs.Matching.{literal_of}

-- the pattern that was made of all names
pub literal_whole : (plain : List (List Element)) (items path : Path) (i : ℕ) → plain ≡ map (map (λ b. Byte b)) (take i items) → items ≡ path → length items ≤ i → plain ≡ literal_of path
literal_whole plain items path i whole same l = whole ∙ ap literal_of (take_all i items l ∙ same)
