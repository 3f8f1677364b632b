use Rattle.std.proofs.Common.{[], ◌∷◌, ◌+◌, Option, rules, subst, sym, take}
use Rattle.pv_path.specs.Paths.{Path}
use Rattle.pv_glob.specs.Meeting.{are_met}
use Rattle.pv_glob.specs.Words.{Finds}
use Rattle.pv_glob.proofs.Expansions.{step_right}
use Rattle.pv_glob.proofs.meeting.meet_each.Goals as goal

pub loop-plain-preserved : goal.loop-plain-preserved
loop-plain-preserved c =
    let a = c.args.a.now in let b = c.args.b.now in let i = c.loop-plain.plain-index in
    let next = c.in_ok-next.ensures in
    subst (λ (found : Option Path). Finds (are_met (a ∷ []) c.args.a_below (take (i + 1) b) c.args.b_below) found) (sym c.earlier-found.ensures)
    (step_right c.args.a_below c.args.b_below a b i c.plain-item.result c.components.result.now c.loop-plain.found c.in_ok-next.next (search rules) c.plain-item.is c.components.ensures c.loop-plain.invariant next.none next.first)
