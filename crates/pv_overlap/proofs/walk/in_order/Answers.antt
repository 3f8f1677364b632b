use Rattle.std.proofs.Common.{◌≡◌, length, arith, ◌∙◌}
use Rattle.pv_overlap.proofs.Sorted.{in_order}
use Rattle.pv_overlap.proofs.walk.in_order.Goals as goal

pub returns : goal.returns
returns c =
    let count : c.loop-i.i ≡ length c.args.heads.now = omega arith in
    in_order c.args.heads.now c.loop-i.order.items c.sort_unstable.new.self.items (c.loop-i.invariant.count ∙ count) (λ k l. c.loop-i.invariant.heads k (omega (arith, count, l)))
    c.sort_unstable.ensures.permutation c.sort_unstable.ensures.sorted
