-- Arguments without `--root`.
use Rattle.std.specs.Prelude.{ℕ, List}

-- The value of `--root`, and the arguments without the option and its value.
pub record Cut : Type 0 where
  pub folder : List ℕ
  pub others : List (List ℕ)
