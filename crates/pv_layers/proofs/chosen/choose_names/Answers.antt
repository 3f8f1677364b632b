use Rattle.std.proofs.Common.{◌∙◌}
use Rattle.pv_layers.proofs.ChoiceLaws.{partly_start, partly_more, partly_messages, next_name}
use Rattle.pv_layers.proofs.chosen.choose_names.Goals as goal

pub loop-name-init : goal.loop-name-init
loop-name-init g c = rw c.new.ensures (partly_start _ _)

pub loop-name-preserved : goal.loop-name-preserved
loop-name-preserved g c =
    partly_more c.loop-name.invariant _ _ _ _ _ (next_name (g.T.Tree.state c.args.tree.now) c.args.folders.now c.args.names.now c.loop-name.name-index c.name-item.result c.loop-name-test.true c.name-item.is)
    c.in_ok-take_name.ensures.made.0 c.in_ok-take_name.ensures.made.1 c.in_ok-take_name.ensures.made.2

pub returns-in_err-take_name-clause-part : goal.returns-in_err-take_name-clause-part
returns-in_err-take_name-clause-part g c = let new_messages = partly_messages c.loop-name.invariant in (new_messages.0, c.in_err-take_name.ensures.err ∙ new_messages.1)

pub returns-clause-part : goal.returns-clause-part
returns-clause-part g c = partly_messages c.loop-name.invariant
