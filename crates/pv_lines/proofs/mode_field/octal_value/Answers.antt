use Rattle.std.proofs.Common.{arith}
use Rattle.pv_lines.proofs.Octal.{goes}
use Rattle.pv_lines.proofs.mode_field.octal_value.Goals as goal

pub overflow_mul-value : goal.overflow_mul-value
overflow_mul-value c =
    let on = goes c.args.text.now c.loop-byte.byte-index c.loop-byte.value c.requires.digits c.requires.short c.loop-byte-test.true c.loop-byte.invariant in
    omega (arith, on.bound)

pub overflow_add-value : goal.overflow_add-value
overflow_add-value c =
    let on = goes c.args.text.now c.loop-byte.byte-index c.loop-byte.value c.requires.digits c.requires.short c.loop-byte-test.true c.loop-byte.invariant in
    omega (arith, on.bound, c.from.ensures)

pub loop-byte-preserved : goal.loop-byte-preserved
loop-byte-preserved c =
    let on = goes c.args.text.now c.loop-byte.byte-index c.loop-byte.value c.requires.digits c.requires.short c.loop-byte-test.true c.loop-byte.invariant in
    omega (arith, on.next, c.from.ensures)
