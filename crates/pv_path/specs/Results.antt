-- Results one after another, as Rust's `and_then`, `ok_or` and `map_err` give them: the first fault counts.
use Rattle.std.specs.Prelude.{Option, Some, None, Result, Ok, Err}

-- What one call gives, used by the next call. The fault of the first is that of both.
infixl 10 ◌>>=◌
abbrev pub ◌>>=◌ : {A B E : Type 0} → Result A E → (A → Result B E) → Result B E
(Ok x) >>= f = f x
(Err fault) >>= f = Err fault

-- The value of an option, or this fault if there is none.
abbrev pub or_fault : {A E : Type 0} → E → Option A → Result A E
or_fault fault (Some x) = Ok x
or_fault fault None = Err fault

-- The same result with its fault translated.
abbrev pub in_words : {A E F : Type 0} → (E → F) → Result A E → Result A F
in_words stated (Ok x) = Ok x
in_words stated (Err fault) = Err (stated fault)
