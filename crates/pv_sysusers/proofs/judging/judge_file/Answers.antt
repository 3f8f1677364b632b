use Rattle.std.proofs.Common.{◌++◌, ◌∙◌, ap}
use Rattle.pv_path.specs.Paths.{Path}
use Rattle.pv_steps.specs.Trees.{places}
use Rattle.pv_sysusers.specs.Accounted.{unusable_text}
use Rattle.pv_sysusers.proofs.judging.judge_file.Goals as goal
use Rattle.pv_path.proofs.Tests.{on_ok}

pub returns : goal.returns
returns g c =
    let s = places (g.T.Tree.state c.args.tree.now) in
    on_ok c.judge.result (λ e. e ∙ ap (λ (p : Path). c.args.new_messages.now ++ unusable_text s p) c.in_ok-path.ensures) c.judge.ensures
