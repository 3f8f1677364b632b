-- The answer of a call that reads what a definition may or may not give.
use Rattle.std.specs.Prelude.{◌≡◌, Option, Some, None, Result, Ok, Err}
use Rattle.pv_words.specs.declared.words_fault.WordsFault.{WordsFault}
use Rattle.pv_words.specs.declared.words_fault.WordsFault.TheVariants.{Usage, Memory}

-- `Ok` has the value of the definition, and `Usage` means that it has none. Only the answer that memory ran out is
-- always allowed.
abbrev pub Answers : {A : Type 0} → Result A WordsFault → Option A → Type 0
Answers (Ok value) meaning = meaning ≡ Some value
Answers (Err Usage) meaning = meaning ≡ None
Answers (Err Memory) meaning = Unit {0}
