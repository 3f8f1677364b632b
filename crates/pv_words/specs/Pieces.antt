-- The options and FILE arguments of a command.
use Rattle.std.specs.Prelude.{ℕ, List}
use Rattle.pv_words.specs.declared.option.OptionName.{OptionName}

-- An option with its value. For a flag the value is empty.
pub record Given : Type 0 where
  pub option : OptionName
  pub value : List ℕ

-- The options, and the FILE arguments, each in the order given.
pub record Parts : Type 0 where
  pub given : List Given
  pub files : List (List ℕ)
