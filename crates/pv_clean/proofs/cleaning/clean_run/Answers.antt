use Rattle.pv_table.specs.Cleaned.{is_aged}
use Rattle.pv_clean.specs.Cleaning.{IsCleanStep}
use Rattle.pv_clean.proofs.CleanLaws.{takes_only}
use Rattle.pv_clean.proofs.cleaning.clean_run.Goals as goal

pub returns-clause-stopped : goal.returns-clause-stopped
returns-clause-stopped g c =
    let t = g.T.Tree.state c.args.tree.now in
    let goes = is_aged c.args.table.now c.args.now t in
    takes_only goes t (IsCleanStep goes t) c.args.now (g.T.Tree.steps c.args.tree.now) (g.T.Tree.state c.clean.new.tree) (g.T.Tree.steps c.clean.new.tree) c.clean.ensures.acted.ran
