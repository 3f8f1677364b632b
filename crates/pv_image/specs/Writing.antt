-- The lines of an image as they are written, each with its line feed.
use Rattle.std.specs.Prelude.{ℕ, Bool, true, List, [], ◌∷◌, ◌++◌}
use Rattle.std.specs.Option.{option_map_or}
use Rattle.std.specs.FinMap as fin
use Rattle.pv_path.specs.Paths.{Path}
use Rattle.pv_text.specs.Facts.{Values}
use Rattle.pv_steps.specs.declared.object.Object.{Object}
use Rattle.pv_image.specs.Images.{is_byte_fact}
use Rattle.pv_image.specs.Spelling.{fact_text, node_text, line}
use Rattle.pv_image.specs.declared.version.Version.TheVariants.{Two}

-- A text with more fields after it, each after a space.
abbrev pub with_columns : List ℕ → List (List ℕ) → List ℕ
with_columns text [] = text
with_columns text (column ∷ columns) = with_columns (text ++ 32 ∷ column) columns

-- The line of a fact.
abbrev pub fact_line : ℕ × List ℕ → List ℕ
fact_line fact = line (fact_text fact)

-- The line of a node in version 2.
abbrev pub node_line : Path × Object → List ℕ
node_line e = line (node_text Two e)

-- The line of the fact with this letter, if it has a value, otherwise nothing.
abbrev pub fact_line_of : Values → ℕ → List ℕ
fact_line_of facts letter = option_map_or (λ value. fact_line (letter, value)) (fin.get facts letter) []

-- Whether this letter has no value, or a value that can be written.
abbrev pub fact_fits : Values → ℕ → Bool
fact_fits facts letter = option_map_or (λ value. is_byte_fact (letter, value)) (fin.get facts letter) true
