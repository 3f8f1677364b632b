use Rattle.std.proofs.Common.{◌∙◌}
use Rattle.pv_steps.specs.Trees.{places}
use Rattle.pv_create.proofs.RefusingLaws.{owner_user, owner_none}
use Rattle.pv_create.proofs.refusing.owner_made.Goals as goal

pub returns-in-Some : goal.returns-in-Some
returns-in-Some g c =
    owner_user c.args.at.now.line.now c.args.at.now.action.now c.requires c.args.at.now.path.now (places (g.T.Tree.state c.args.tree.now)) c.in-Some.user c.in-Some.is

pub returns-in-None : goal.returns-in-None
returns-in-None g c =
    c.source_owner.ensures ∙ owner_none c.args.at.now.line.now c.args.at.now.action.now c.requires c.args.at.now.path.now (places (g.T.Tree.state c.args.tree.now)) c.in-None.is
