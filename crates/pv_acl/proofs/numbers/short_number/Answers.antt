use Rattle.std.proofs.Common.{arith}
use Rattle.pv_acl.proofs.Numerals.{goes, no_numeral}
use Rattle.pv_acl.proofs.numbers.short_number.Goals as goal

pub returns-in_err-digit-clause-none : goal.returns-in_err-digit-clause-none
returns-in_err-digit-clause-none c =
    rw c.from_residual.ensures (no_numeral c.args.text.now c.loop-byte.byte-index c.loop-byte-test.true c.in_err-digit.ensures.none)

pub overflow_mul-value : goal.overflow_mul-value
overflow_mul-value c =
    let on =
    goes c.args.text.now c.loop-byte.byte-index c.loop-byte.value c.in_ok-digit.digit c.requires c.loop-byte-test.true c.loop-byte.invariant.digits c.loop-byte.invariant.value
    c.in_ok-digit.ensures.some.0 c.in_ok-digit.ensures.some.1
    in
    omega (arith, on.bound)

pub overflow_add-value : goal.overflow_add-value
overflow_add-value c =
    let on =
    goes c.args.text.now c.loop-byte.byte-index c.loop-byte.value c.in_ok-digit.digit c.requires c.loop-byte-test.true c.loop-byte.invariant.digits c.loop-byte.invariant.value
    c.in_ok-digit.ensures.some.0 c.in_ok-digit.ensures.some.1
    in
    omega (arith, on.bound, c.in_ok-digit.ensures.some.1)

pub loop-byte-preserved : goal.loop-byte-preserved
loop-byte-preserved c =
    let on =
    goes c.args.text.now c.loop-byte.byte-index c.loop-byte.value c.in_ok-digit.digit c.requires c.loop-byte-test.true c.loop-byte.invariant.digits c.loop-byte.invariant.value
    c.in_ok-digit.ensures.some.0 c.in_ok-digit.ensures.some.1
    in
    record { digits = on.digits; value = on.next }
