-- Fields, read one after the other.
use Rattle.std.proofs.Common.{◌≡◌, ℕ, zero, suc, ◌+◌, ◌-◌, ◌<◌, ◌≤◌, ◌++◌, append_assoc, Result, Ok, Err, le-ltb, lt-ltb, Bool, true, false, List, [], ◌∷◌, drop, length, get_or, nat_eq, refl, sym, ap, ◌∙◌, Option, None, if◌then◌else◌, ◌==◌, arith, ne_eqb, add-one}
use Rattle.std.specs.List.{AllByRecursion}
use Rattle.std.proofs.Math.Seq.{drop-cons}
use Rattle.pv_text.specs.declared.text_fault.FieldFault.{FieldFault}
use Rattle.pv_text.specs.Fields.{closing, Span, next_place, field_at, argument_at, fields_from, after_spans, IsChecked}

-- the first quote of what is left of a text, of which a backslash may hide the first byte
abbrev pub closing_left : ℕ → Bool → ℕ → List ℕ → Option ℕ
closing_left quote false at bytes = closing quote at bytes
closing_left quote true at [] = None
closing_left quote true at (b ∷ bytes) = closing quote (at + 1) bytes

none_left_over : (quote : ℕ) (hidden : Bool) (at : ℕ) → closing_left quote hidden at [] ≡ None
none_left_over quote true at = refl
none_left_over quote false at = refl

no_quote_here : (quote at b : ℕ) (bytes : List ℕ) → (b ≡ quote → ⊥) → closing quote at (b ∷ bytes) ≡ closing_left quote (b == 92) (at + 1) bytes
no_quote_here quote at b [] other = rw (ne_eqb b quote other) (sym (none_left_over quote (b == 92) (at + 1)))
no_quote_here quote at b (c ∷ bytes) other = rw (ne_eqb b quote other) (by (b == 92))
  where
    by : (hides : Bool) → (if hides then closing quote (at + 2) bytes else closing quote (at + 1) (c ∷ bytes)) ≡ closing_left quote hides (at + 1) (c ∷ bytes)
    by true = let place : at + 2 ≡ at + 1 + 1 = omega arith in ap (λ n. closing quote n bytes) place
    by false = refl

-- the turns of the loop: past a hidden byte, and past another byte
pub past_hidden : (quote at i : ℕ) (text : List ℕ) (hidden next : Bool) → i < length text → hidden ≡ true → next ≡ false
    → closing_left quote hidden (at + i) (drop i text) ≡ closing_left quote next (at + (i + 1)) (drop (i + 1) text)
past_hidden quote at i text hidden next below is is_next =
    let place : at + i + 1 ≡ at + suc i = omega arith in
    rw (is, is_next, drop-cons text i 0 below, add-one i) (ap (λ n. closing quote n (drop (suc i) text)) place)

pub past_other : (quote at i : ℕ) (text : List ℕ) (hidden next : Bool) → i < length text → hidden ≡ false → (get_or text i 0 ≡ quote → ⊥) → next ≡ nat_eq (get_or text i 0) 92
    → closing_left quote hidden (at + i) (drop i text) ≡ closing_left quote next (at + (i + 1)) (drop (i + 1) text)
past_other quote at i text hidden next below is other is_next =
    let place : at + i + 1 ≡ at + suc i = omega arith in
    rw (is, is_next, drop-cons text i 0 below, add-one i)
    (no_quote_here quote (at + i) (get_or text i 0) (drop (suc i) text) other ∙ ap (λ n. closing_left quote (get_or text i 0 == 92) n (drop (suc i) text)) place)

-- the fields from a place on, by the object there
pub none_left : (left : ℕ) (line : List ℕ) (at : ℕ) → length line ≤ next_place line at → fields_from left line at ≡ Ok []
unfolding fields_from
none_left zero line at end = rw (le-ltb (next_place line at) (length line) end) refl
none_left (suc left) line at end = rw (le-ltb (next_place line at) (length line) end) refl

pub argument_left : (line : List ℕ) (at : ℕ) (span : Span) → next_place line at < length line → argument_at line (next_place line at) ≡ Ok span → fields_from 0 line at ≡ Ok (span ∷ [])
unfolding fields_from
argument_left line at span below is = rw (lt-ltb (next_place line at) (length line) below, is) refl

pub argument_fails : (line : List ℕ) (at : ℕ) (e : FieldFault) → next_place line at < length line → argument_at line (next_place line at) ≡ Err e → fields_from 0 line at ≡ Err e
unfolding fields_from
argument_fails line at e below is = rw (lt-ltb (next_place line at) (length line) below, is) refl

pub field_left : (left : ℕ) (line : List ℕ) (at : ℕ) (span : Span) (after : ℕ) → next_place line at < length line → field_at line (next_place line at) ≡ Ok (span, after)
    → fields_from (suc left) line at ≡ after_spans (span ∷ []) (fields_from left line after)
unfolding fields_from
field_left left line at span after below is = rw (lt-ltb (next_place line at) (length line) below, is) refl

pub field_fails : (left : ℕ) (line : List ℕ) (at : ℕ) (e : FieldFault) → next_place line at < length line → field_at line (next_place line at) ≡ Err e → fields_from (suc left) line at ≡ Err e
unfolding fields_from
field_fails left line at e below is = rw (lt-ltb (next_place line at) (length line) below, is) refl

front_front : (a b : List Span) (read : Result (List Span) FieldFault) → after_spans a (after_spans b read) ≡ after_spans (a ++ b) read
front_front a b (Ok c) = ap Ok (sym (append_assoc a b c))
front_front a b (Err e) = refl

-- at the end of the line no more fields are left
pub at_end : (line : List ℕ) → fields_from 0 line (length line) ≡ Ok []
at_end line = none_left 0 line (length line) (omega arith)

less_one : (counter : ℕ) → counter < 6 → 6 - counter ≡ suc (6 - (counter + 1))
less_one counter below = omega arith

-- the turns of the loop over the fields before the Argument
pub field_turn : (line : List ℕ) (spans : List Span) (counter at : ℕ) (span : Span) (after : ℕ) (whole : Result (List Span) FieldFault) → counter < 6
    → next_place line at < length line → field_at line (next_place line at) ≡ Ok (span, after)
    → after_spans spans (fields_from (6 - counter) line at) ≡ whole → after_spans (spans ++ span ∷ []) (fields_from (6 - (counter + 1)) line after) ≡ whole
field_turn line spans counter at span after whole more below is before =
    sym (front_front spans (span ∷ []) _)
    ∙ ap (after_spans spans) (sym (field_left (6 - (counter + 1)) line at span after below is) ∙ ap (λ n. fields_from n line at) (sym (less_one counter more)))
    ∙ before

pub fails_turn : (line : List ℕ) (spans : List Span) (counter at : ℕ) (e : FieldFault) (whole : Result (List Span) FieldFault) → counter < 6
    → next_place line at < length line → field_at line (next_place line at) ≡ Err e
    → after_spans spans (fields_from (6 - counter) line at) ≡ whole → whole ≡ Err e
fails_turn line spans counter at e whole more below is before =
    sym before ∙ ap (after_spans spans) (ap (λ n. fields_from n line at) (less_one counter more) ∙ field_fails (6 - (counter + 1)) line at e below is)

pub end_turn : (line : List ℕ) (spans : List Span) (left at : ℕ) (whole : Result (List Span) FieldFault) → length line ≤ next_place line at
    → after_spans spans (fields_from left line at) ≡ whole → after_spans spans (fields_from 0 line (length line)) ≡ whole
end_turn line spans left at whole end before = ap (after_spans spans) (at_end line ∙ sym (none_left left line at end)) ∙ before

-- one more checked span
pub checked_more : (line : List ℕ) (spans : List Span) (span : Span) → AllByRecursion (IsChecked line) spans → IsChecked line span → AllByRecursion (IsChecked line) (spans ++ span ∷ [])
checked_more line [] span all one = (one, tt)
checked_more line (first ∷ spans) span all one = (all.0, checked_more line spans span all.1 one)
