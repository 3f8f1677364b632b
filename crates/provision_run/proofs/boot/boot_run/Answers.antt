use Rattle.pv_create.proofs.RunLaws.{none_staged}
use Rattle.pv_steps.specs.Courses.{Partway, IsStepOfSome}
use Rattle.pv_table.specs.Removed.{removed}
use Rattle.provision_run.specs.Phases.{boot_phases, phases_course}
use Rattle.provision_run.proofs.BootLaws.{boot_amid, boot_given, boot_recovered, boot_recovered_again, boot_stopped}
use Rattle.provision_run.proofs.PhaseFrameLaws.{phases_framed}
use Rattle.provision_run.proofs.InputLaws.{phases_keep_input}
use Rattle.provision_run.proofs.boot.boot_run.Goals as goal

pub returns-clause-staged : goal.returns-clause-staged
returns-clause-staged g c =
    let lines = c.args.table.now in
    let now = c.args.now in
    none_staged lines c.lines-lines.ensures.whole now (removed lines now (g.T.Tree.state c.args.tree.now)) c.remove_then_create.result (g.T.Tree.state c.remove_then_create.new.tree) c.remove_then_create.ensures.ok

pub returns-clause-went : goal.returns-clause-went
returns-clause-went g c = c.remove_then_create.ensures.went

pub returns-clause-recovers : goal.returns-clause-recovers
returns-clause-recovers g c =
    let lines = c.args.table.now in
    let now = c.args.now in
    let t = g.T.Tree.state c.args.tree.now in
    boot_recovered lines c.lines-lines.ensures.whole (IsStepOfSome (phases_course lines now) boot_phases t) now t (g.T.Tree.steps c.args.tree.now)
    (g.T.Tree.state c.remove_then_create.new.tree) (g.T.Tree.steps c.remove_then_create.new.tree) c.ranges.now.fits (g.met.T.Tree.is_tree c.args.tree.now) c.remove_then_create.ensures.acted.ran c.lines-lines.ensures.distinct

pub returns-clause-again : goal.returns-clause-again
returns-clause-again g c =
    let lines = c.args.table.now in
    let now = c.args.now in
    let t = g.T.Tree.state c.args.tree.now in
    boot_recovered_again lines c.lines-lines.ensures.whole (IsStepOfSome (phases_course lines now) boot_phases t) now t (g.T.Tree.steps c.args.tree.now)
    (g.T.Tree.state c.remove_then_create.new.tree) (g.T.Tree.steps c.remove_then_create.new.tree) c.ranges.now.fits (g.met.T.Tree.is_tree c.args.tree.now) c.remove_then_create.ensures.acted.ran c.lines-lines.ensures.distinct

pub returns-clause-one_more : goal.returns-clause-one_more
returns-clause-one_more g c =
    let lines = c.args.table.now in
    let now = c.args.now in
    let t = g.T.Tree.state c.args.tree.now in
    boot_stopped lines c.lines-lines.ensures.whole (IsStepOfSome (phases_course lines now) boot_phases t) now t (g.T.Tree.steps c.args.tree.now)
    (g.T.Tree.state c.remove_then_create.new.tree) (g.T.Tree.steps c.remove_then_create.new.tree) c.ranges.now.fits (g.met.T.Tree.is_tree c.args.tree.now) c.remove_then_create.ensures.acted.ran

pub returns-clause-framed : goal.returns-clause-framed
returns-clause-framed g c =
    let lines = c.args.table.now in
    let now = c.args.now in
    let t = g.T.Tree.state c.args.tree.now in
    phases_framed lines c.lines-lines.ensures.whole now boot_phases (IsStepOfSome (phases_course lines now) boot_phases t) t (g.T.Tree.steps c.args.tree.now)
    (g.T.Tree.state c.remove_then_create.new.tree) (g.T.Tree.steps c.remove_then_create.new.tree) (g.met.T.Tree.is_tree c.args.tree.now) c.remove_then_create.ensures.acted.ran

pub returns-clause-between : goal.returns-clause-between
returns-clause-between g c =
    let lines = c.args.table.now in
    let now = c.args.now in
    let t = g.T.Tree.state c.args.tree.now in
    boot_amid lines c.lines-lines.ensures.whole (IsStepOfSome (phases_course lines now) boot_phases t) now t (g.T.Tree.steps c.args.tree.now)
    (g.T.Tree.state c.remove_then_create.new.tree) (g.T.Tree.steps c.remove_then_create.new.tree) c.ranges.now.fits (g.met.T.Tree.is_tree c.args.tree.now) c.remove_then_create.ensures.acted.ran

pub returns-clause-gives : goal.returns-clause-gives
returns-clause-gives g c =
    let lines = c.args.table.now in
    let now = c.args.now in
    let t = g.T.Tree.state c.args.tree.now in
    boot_given lines c.lines-lines.ensures.whole (Partway (phases_course lines now) boot_phases t) now t (g.T.Tree.steps c.args.tree.now)
    (g.T.Tree.state c.remove_then_create.new.tree) (g.T.Tree.steps c.remove_then_create.new.tree) c.ranges.now.fits (g.met.T.Tree.is_tree c.args.tree.now) c.remove_then_create.ensures.acted.ran

pub returns-clause-input : goal.returns-clause-input
returns-clause-input g c =
    phases_keep_input c.args.table.now c.lines-lines.ensures.whole c.args.now boot_phases c.ranges.now.fits (g.T.Tree.state c.args.tree.now) (g.met.T.Tree.is_tree c.args.tree.now) (g.T.Tree.steps c.args.tree.now)
    (g.T.Tree.state c.remove_then_create.new.tree) (g.T.Tree.steps c.remove_then_create.new.tree) c.remove_then_create.ensures.acted.ran
