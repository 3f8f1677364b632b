-- What one argument contributes.
use Rattle.std.specs.Prelude.{ℕ, List}
use Rattle.pv_words.specs.Pieces as pieces

-- Nothing, an option with its value, or a FILE argument.
pub data Part : Type 0 where
  Nothing : Part
  Given : pieces.Given → Part
  File : List ℕ → Part
