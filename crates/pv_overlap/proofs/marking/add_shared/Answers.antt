use Rattle.std.proofs.Common.{◌≡◌, ◌∙◌, List, subst}
use Rattle.std.specs.Prelude.{OnOk}
use Rattle.pv_overlap.specs.Marks.{Mark}
use Rattle.pv_overlap.proofs.OrderLaws.{mixes_is, shared_added}
use Rattle.pv_overlap.proofs.marking.add_shared.Goals as goal

pub returns : goal.returns
returns c = subst (λ (ms : List Mark). OnOk c.mark_if-3.result (c.mark_if-3.new.marks.items ≡ ms))
    (shared_added c.args.marks.now.items c.mark_if.new.marks.items c.mark_if-2.new.marks.items c.args.a.number c.args.b.number c.args.a.line.now c.args.b.line.now c.is_below.result c.is_below-2.result c.mixes.result
    c.in_ok-mark_if.ensures c.in_ok-mark_if-2.ensures c.is_below.ensures c.is_below-2.ensures (c.mixes.ensures ∙ mixes_is c.args.a.line.now c.args.b.line.now c.args.a.traits c.args.b.traits c.requires.a c.requires.b))
    c.mark_if-3.ensures
