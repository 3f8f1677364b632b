use Rattle.std.proofs.Common.{◌≡◌, true, sym, ◌∙◌, rules}
use Rattle.pv_acl.specs.Numbers.{odd_start}
use Rattle.pv_acl.proofs.Numerals.{number_of-none, odd_is_none, parsed_is, no_text_no_number, short_is}
use Rattle.pv_acl.proofs.numbers.number.Goals as goal

pub returns-then-has_odd_start : goal.returns-then-has_odd_start
returns-then-has_odd_start c =
    let odd : odd_start c.args.text.now ≡ true = sym c.has_odd_start.ensures ∙ c.if-has_odd_start.true in
    sym (number_of-none c.args.text.now (λ n small e. odd_is_none c.args.text.now n odd small e))

pub returns-then-text-le19 : goal.returns-then-text-le19
returns-then-text-le19 c = short_is c.args.text.now c.short_number.result (sym c.has_odd_start.ensures ∙ c.if-has_odd_start.false) (search rules) c.short_number.ensures.some c.short_number.ensures.none

pub returns-in-Ok : goal.returns-in-Ok
returns-in-Ok c = c.ok.ensures.value ∙ parsed_is c.args.text.now c.parse.result (sym c.has_odd_start.ensures ∙ c.if-has_odd_start.false) (rw (← c.in-Ok.ensures.cases.0) c.parse.ensures.value.0)

pub returns-in-Err : goal.returns-in-Err
returns-in-Err c = sym (no_text_no_number c.args.text.now c.in-Err.ensures.cases.0)
