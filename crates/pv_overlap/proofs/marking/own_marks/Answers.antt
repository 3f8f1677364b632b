use Rattle.std.proofs.lemmas.Result.{IfOk-from_err}
use Rattle.pv_overlap.proofs.OrderLaws.{own_step}
use Rattle.std.proofs.Common.{ap, ◌∙◌, length, arith}
use Rattle.std.proofs.lemmas.List.{length-map, take_all}
use Rattle.pv_overlap.specs.Marks.{own_marks, traits_of}
use Rattle.pv_overlap.proofs.marking.own_marks.Goals as goal

pub loop-i-preserved : goal.loop-i-preserved
loop-i-preserved c = own_step c.args.lines.now c.args.traits.now c.loop-i.i _ c.loop-i.marks.items c.mark_if.new.marks.items c.requires.traits c.loop-i-test.true c.loop-i.invariant c.in_ok-mark_if.ensures

pub returns-in_err-mark_if : goal.returns-in_err-mark_if
returns-in_err-mark_if c = IfOk-from_err c.from_residual.result _ c.from_residual.ensures.0

pub overflow_cast-i : goal.overflow_cast-i
overflow_cast-i c = omega (arith, c.requires.few, c.loop-i-test.true, ap length c.requires.traits, length-map c.args.lines.now traits_of)

pub returns : goal.returns
returns c =
    c.loop-i.invariant
    ∙ ap (own_marks 0) (take_all c.loop-i.i c.args.lines.now (omega (arith, c.loop-i-test.false, ap length c.requires.traits, length-map c.args.lines.now traits_of)))
