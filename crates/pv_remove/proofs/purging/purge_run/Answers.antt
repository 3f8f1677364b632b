use Rattle.std.proofs.Common.{◌≡◌}
use Rattle.pv_steps.specs.Content.{Removes}
use Rattle.pv_steps.proofs.ActingLaws.{Moves}
use Rattle.pv_walk.specs.Removal.{is_one_of}
use Rattle.pv_table.specs.Removed.{is_purged, is_purge_unfinished, purged_messages}
use Rattle.pv_remove.proofs.RunLaws.{purged_together, purge_recovered}
use Rattle.pv_remove.proofs.TakeLaws.{takes_nothing, takes-same}
use Rattle.pv_remove.proofs.purging.purge_run.Goals as goal

pub returns-in_err-plan-clause-run : goal.returns-in_err-plan-clause-run
returns-in_err-plan-clause-run g c =
    let moves : Moves g.T.Tree = record { stays = g.met.T.Tree.reaches_self; goes_on = g.met.T.Tree.reaches_on; never_falls = g.met.T.Tree.never_falls } in
    let t = g.T.Tree.state c.args.tree.now in
    takes_nothing g.T.Tree moves (is_purged c.args.table.now t) (purged_messages c.args.table.now t) (is_purge_unfinished c.args.table.now t) c.args.now c.args.tree.now c.args.messages.now c.from_residual.result c.from_residual.ensures.1

pub returns-in_err-plan-clause-recovers : goal.returns-in_err-plan-clause-recovers
returns-in_err-plan-clause-recovers g c =
    let moves : Moves g.T.Tree = record { stays = g.met.T.Tree.reaches_self; goes_on = g.met.T.Tree.reaches_on; never_falls = g.met.T.Tree.never_falls } in
    let t = g.T.Tree.state c.args.tree.now in
    let h = g.T.Tree.steps c.args.tree.now in
    let none = takes_nothing g.T.Tree moves (is_purged c.args.table.now t) (purged_messages c.args.table.now t) (is_purge_unfinished c.args.table.now t) c.args.now c.args.tree.now c.args.messages.now c.from_residual.result c.from_residual.ensures.1 in
    purge_recovered c.args.table.now (Removes (is_purged c.args.table.now t)) c.args.now t h t h c.ranges.now.fits c.purge_plan.ensures.tree none.acted.ran

pub apply_plan-requires : goal.apply_plan-requires
apply_plan-requires g c = record { whole = purged_together c.in_ok-plan.plan.paths c.args.table.now (g.T.Tree.state c.args.tree.now) c.in_ok-plan.ensures.gone }

pub returns-clause-run : goal.returns-clause-run
returns-clause-run g c =
    let same : is_one_of c.in_ok-plan.plan.paths ≡ is_purged c.args.table.now (g.T.Tree.state c.args.tree.now) = λ i q. c.in_ok-plan.ensures.gone q i in
    takes-same g.T.Tree same c.in_ok-plan.ensures.new_messages c.in_ok-plan.ensures.unfinished c.apply_plan.ensures

pub returns-clause-recovers : goal.returns-clause-recovers
returns-clause-recovers g c =
    let t = g.T.Tree.state c.args.tree.now in
    let same : is_one_of c.in_ok-plan.plan.paths ≡ is_purged c.args.table.now t = λ i q. c.in_ok-plan.ensures.gone q i in
    let took = takes-same g.T.Tree same c.in_ok-plan.ensures.new_messages c.in_ok-plan.ensures.unfinished c.apply_plan.ensures in
    purge_recovered c.args.table.now (Removes (is_purged c.args.table.now t)) c.args.now t (g.T.Tree.steps c.args.tree.now) (g.T.Tree.state c.apply_plan.new.tree) (g.T.Tree.steps c.apply_plan.new.tree) c.ranges.now.fits c.purge_plan.ensures.tree took.acted.ran
