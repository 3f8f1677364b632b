use Rattle.std.proofs.Common.{◌+◌, Option, rules, subst, sym, take}
use Rattle.pv_path.specs.Paths.{Path}
use Rattle.pv_glob.specs.Meeting.{are_met}
use Rattle.pv_glob.specs.Words.{Finds}
use Rattle.pv_glob.proofs.Expansions.{step_left}
use Rattle.pv_glob.proofs.meeting.meet_all.Goals as goal

pub loop-plain-preserved : goal.loop-plain-preserved
loop-plain-preserved c =
    let a = c.args.a.now in let b = c.args.b.now in let i = c.loop-plain.plain-index in
    subst (λ (found : Option Path). Finds (are_met (take (i + 1) a) c.args.a_below b c.args.b_below) found) (sym c.earlier-found.ensures)
    (step_left c.args.a_below c.args.b_below a b i c.plain-item.result c.components.result.now c.loop-plain.found c.in_ok-next.next (search rules) c.plain-item.is c.components.ensures c.loop-plain.invariant c.in_ok-next.ensures)
