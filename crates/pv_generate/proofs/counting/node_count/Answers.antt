use Rattle.std.proofs.Common.{◌≡◌, ap, arith, length, sym, ◌∙◌}
use Rattle.std.specs.FinMap as fin
use Rattle.pv_tree.proofs.GrowLaws.{walk_over}
use Rattle.pv_tree.proofs.PlanLaws.{Planned}
use Rattle.pv_generate.proofs.counting.node_count.Goals as goal

pub returns : goal.returns
returns c =
    let none : length c.loop-place.walk ≡ 0 = ap (λ (es : Planned). length es) (walk_over c.loop-place.walk c.in_default.ensures) in
    let all : c.loop-place.count ≡ length (fin.entries c.args.tree.now.files) = omega (arith, none, c.loop-place.invariant) in
    all ∙ sym (fin.len-entries c.args.tree.now.files)
