-- Three bytes are octal digits or not.
use Rattle.std.proofs.Common.{◌≡◌, ◌<◌, ◌+◌, ◌*◌, ◌∙◌, ℕ, true, false, None, refl, sym, ap, arith}
use Rattle.std.specs.Char.{is_digit, digit_value}
use Rattle.std.proofs.lemmas.Bool.Decides.{nat_tests}
use Rattle.pv_text.specs.Escapes.{numbered, octal_escape}
use Rattle.pv_text.proofs.escapes.octal_escape.Goals as goal

digit_is : (a c : ℕ) → c ≡ a → digit_value c < 8 → is_digit a 8 ≡ true
digit_is a c same small = rw (← same) (grind (arith, nat_tests))

no_digit_is : (a c : ℕ) → c ≡ a → (digit_value c < 8 → ⊥) → is_digit a 8 ≡ false
no_digit_is a c same large = rw (← same) (grind (arith, nat_tests))

none_first : (a b c : ℕ) → is_digit a 8 ≡ false → octal_escape a b c ≡ None
none_first a b c h = rw h refl

none_second : (a b c : ℕ) → is_digit a 8 ≡ true → is_digit b 8 ≡ false → octal_escape a b c ≡ None
none_second a b c h i = rw (h, i) refl

none_third : (a b c : ℕ) → is_digit a 8 ≡ true → is_digit b 8 ≡ true → is_digit c 8 ≡ false → octal_escape a b c ≡ None
none_third a b c h i j = rw (h, i, j) refl

number_is : (a b c x y z : ℕ) → is_digit a 8 ≡ true → is_digit b 8 ≡ true → is_digit c 8 ≡ true → x ≡ digit_value a → y ≡ digit_value b → z ≡ digit_value c → octal_escape a b c ≡ numbered ((x * 8 + y) * 8 + z)
number_is a b c x y z h i j xs ys zs = rw (h, i, j, xs, ys, zs) refl

pub returns-in_err-first : goal.returns-in_err-first
returns-in_err-first c =
    c.from_residual.ensures ∙ sym (none_first c.args.first c.args.second c.args.third (no_digit_is c.args.first c.from.result c.from.ensures c.in_err-first.ensures.value))

pub returns-in_err-second : goal.returns-in_err-second
returns-in_err-second c =
    c.from_residual-in_err-second.ensures
    ∙ sym (none_second c.args.first c.args.second c.args.third (digit_is c.args.first c.from.result c.from.ensures c.in_ok-first.ensures.value.0) (no_digit_is c.args.second c.from-2.result c.from-2.ensures c.in_err-second.ensures.value))

pub returns-in_err-third : goal.returns-in_err-third
returns-in_err-third c =
    c.from_residual-in_err-third.ensures
    ∙ sym (none_third c.args.first c.args.second c.args.third (digit_is c.args.first c.from.result c.from.ensures c.in_ok-first.ensures.value.0) (digit_is c.args.second c.from-2.result c.from-2.ensures c.in_ok-second.ensures.value.0)
    (no_digit_is c.args.third c.from-3.result c.from-3.ensures c.in_err-third.ensures.value))

pub returns : goal.returns
returns c =
    c.numbered.ensures
    ∙ sym (number_is c.args.first c.args.second c.args.third c.in_ok-first.first c.in_ok-second.second c.in_ok-third.third
    (digit_is c.args.first c.from.result c.from.ensures c.in_ok-first.ensures.value.0) (digit_is c.args.second c.from-2.result c.from-2.ensures c.in_ok-second.ensures.value.0) (digit_is c.args.third c.from-3.result c.from-3.ensures c.in_ok-third.ensures.value.0)
    (c.in_ok-first.ensures.value.1 ∙ ap digit_value c.from.ensures) (c.in_ok-second.ensures.value.1 ∙ ap digit_value c.from-2.ensures) (c.in_ok-third.ensures.value.1 ∙ ap digit_value c.from-3.ensures))
