use Prim.Native.Char.{code}
use Rattle.std.proofs.Common.{◌≡◌, ℕ, List, ◌+◌, ◌-◌, length, sym, ap, ◌∙◌, drop, take}
use Rattle.std.specs.Prelude.{Bool, true, false, ◌==◌, Option, None, Some, option_and_then, position, if◌then◌else◌}
use Rattle.std.proofs.lemmas.List.{take_rest}
use Rattle.std.proofs.lemmas.Result.{IfOk-from_err}
use Rattle.pv_steps.specs.Attributes.{is_attr}
use Rattle.pv_steps.specs.declared.attr.Attr.{Attr}
use Rattle.pv_lines.specs.ArgumentField.{attr_in}
use Rattle.pv_lines.proofs.attributes.attr_in.Goals as goal

abbrev attr_of : List ℕ → List ℕ → Option Attr
attr_of name value = Some (record { name = name; value = value })

-- the attribute of a word whose first `=` has a known place, if it has one
abbrev attr_at : List ℕ → ℕ → Option Attr
attr_at word at = if is_attr (take at word) (drop (at + 1) word) then attr_of (take at word) (drop (at + 1) word) else None

by_place : (word : List ℕ) (at : Option ℕ) → at ≡ position (λ b. b == code "=") word → option_and_then (attr_at word) at ≡ attr_in word
by_place word at place = ap (option_and_then (attr_at word)) place

spelled : (word name value : List ℕ) (at : ℕ) → Some at ≡ position (λ b. b == code "=") word → name ≡ take at word → value ≡ drop (at + 1) word
    → is_attr (take at word) (drop (at + 1) word) ≡ true → attr_of name value ≡ attr_in word
spelled word name value at place front behind allowed =
    (λ i. attr_of (front i) (behind i)) ∙ sym (ap (λ (b : Bool). if b then attr_of (take at word) (drop (at + 1) word) else None) allowed) ∙ by_place word (Some at) place

unspelled : (word : List ℕ) (at : ℕ) → Some at ≡ position (λ b. b == code "=") word → is_attr (take at word) (drop (at + 1) word) ≡ false → None ≡ attr_in word
unspelled word at place refused =
    sym (ap (λ (b : Bool). if b then attr_of (take at word) (drop (at + 1) word) else None) refused) ∙ by_place word (Some at) place

-- the bytes from a place on are the rest of the word
tested : (word : List ℕ) (at : ℕ) (is result : Bool) → is ≡ is_attr (take at word) (take (length word - (at + 1)) (drop (at + 1) word)) → is ≡ result
    → is_attr (take at word) (drop (at + 1) word) ≡ result
tested word at is result test e = sym (ap (is_attr (take at word)) (take_rest word (at + 1))) ∙ sym test ∙ e

pub returns-clause-value : goal.returns-clause-value
returns-clause-value c =
    spelled c.args.word.now c.in_ok-copy_of.field-0 c.in_ok-copy_of-2.field-0 c.in-Some.at (sym c.in-Some.is ∙ c.equals_at.ensures.place) c.in_ok-copy_of.ensures
    (c.in_ok-copy_of-2.ensures ∙ take_rest c.args.word.now (c.in-Some.at + 1))
    (tested c.args.word.now c.in-Some.at c.is_attr.result true c.is_attr.ensures c.if-not-is_attr.false)

pub returns-clause-allowed : goal.returns-clause-allowed
returns-clause-allowed c =
    let front : c.in_ok-copy_of.field-0 ≡ take c.in-Some.at c.args.word.now = c.in_ok-copy_of.ensures in
    let behind : c.in_ok-copy_of-2.field-0 ≡ drop (c.in-Some.at + 1) c.args.word.now = c.in_ok-copy_of-2.ensures ∙ take_rest c.args.word.now (c.in-Some.at + 1) in
    (λ i. is_attr (front i) (behind i)) ∙ tested c.args.word.now c.in-Some.at c.is_attr.result true c.is_attr.ensures c.if-not-is_attr.false

pub returns-then-not-is_attr-clause-value : goal.returns-then-not-is_attr-clause-value
returns-then-not-is_attr-clause-value c =
    unspelled c.args.word.now c.in-Some.at (sym c.in-Some.is ∙ c.equals_at.ensures.place)
    (tested c.args.word.now c.in-Some.at c.is_attr.result false c.is_attr.ensures c.if-not-is_attr.true)

pub returns-in_default-clause-value : goal.returns-in_default-clause-value
returns-in_default-clause-value c = by_place c.args.word.now None (sym c.in_default.is ∙ c.equals_at.ensures.place)

pub returns-in_err-copy_of-clause-value : goal.returns-in_err-copy_of-clause-value
returns-in_err-copy_of-clause-value c = IfOk-from_err c.from_residual.result _ c.from_residual.ensures.0

pub returns-in_err-copy_of-clause-allowed : goal.returns-in_err-copy_of-clause-allowed
returns-in_err-copy_of-clause-allowed c = IfOk-from_err c.from_residual.result _ c.from_residual.ensures.0

pub returns-in_err-copy_of-2-clause-value : goal.returns-in_err-copy_of-2-clause-value
returns-in_err-copy_of-2-clause-value c = IfOk-from_err c.from_residual-in_err-copy_of-2.result _ c.from_residual-in_err-copy_of-2.ensures.0

pub returns-in_err-copy_of-2-clause-allowed : goal.returns-in_err-copy_of-2-clause-allowed
returns-in_err-copy_of-2-clause-allowed c = IfOk-from_err c.from_residual-in_err-copy_of-2.result _ c.from_residual-in_err-copy_of-2.ensures.0
