-- Facts: what an image says about the system. Some of twelve letters have a value. The form is this project's own,
-- the letters are specifiers of tmpfiles.d(5).
use Rattle.std.specs.Prelude.{◌≡◌, ℕ, Bool, true, ◌&&◌, ◌==◌, nat_le, List, codes, length, IfSome}
use Rattle.std.specs.List.{list_all, list_any}
use Rattle.std.specs.Ordering.{nat_cmp}
use Rattle.std.specs.FinMap as map

-- The letters that a fact can have, in byte order.
abbrev pub fact_letters : List ℕ
fact_letters = codes "ABHMWablmovw"

-- Whether a fact can have this letter.
abbrev pub is_fact_letter : ℕ → Bool
is_fact_letter letter = list_any (λ l. l == letter) fact_letters

-- Whether a fact can have this value: it has 1 to 255 bytes.
abbrev pub is_fact_value : List ℕ → Bool
is_fact_value value = nat_le 1 (length value) && nat_le (length value) 255

-- Whether a letter and a value are a fact.
abbrev pub is_fact : ℕ → List ℕ → Bool
is_fact letter value = is_fact_letter letter && is_fact_value value

-- Whether each letter with its value is a fact.
abbrev pub are_facts : List (ℕ × List ℕ) → Bool
are_facts entries = list_all (λ e. is_fact e.0 e.1) entries

-- A map from letters to values.
abbrev pub Values : Type 0
Values = map.FinMap nat_cmp (List ℕ)

-- Each letter that has a value in the map is one of the twelve, and its value has 1 to 255 bytes.
abbrev pub HasFactsAlone : Values → Type 0
HasFactsAlone facts = (letter : ℕ) → IfSome (map.get facts letter) (λ value. is_fact letter value ≡ true)
