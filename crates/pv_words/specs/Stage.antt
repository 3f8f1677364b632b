-- What the next argument may be.
use Rattle.pv_words.specs.declared.option.OptionName.{OptionName}

-- An option or a FILE argument, the value of an option, or (after `--`) only a FILE argument.
pub data Stage : Type 0 where
  Options : Stage
  ValueOf : OptionName → Stage
  Files : Stage
