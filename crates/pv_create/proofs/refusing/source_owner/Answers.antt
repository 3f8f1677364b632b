use Rattle.std.proofs.Common.{None, Some, sym, ap, ◌∙◌}
use Rattle.std.specs.Option.{option_copied}
use Rattle.pv_steps.specs.Trees.{places}
use Rattle.pv_create.proofs.RefusingLaws.{owner_of}
use Rattle.pv_create.proofs.refusing.source_owner.Goals as goal

pub returns-in-None : goal.returns-in-None
returns-in-None g c = owner_of c.args.action.now (places (g.T.Tree.state c.args.tree.now)) None (sym c.copied.ensures ∙ ap option_copied c.in-None.is)

pub returns-in-Some : goal.returns-in-Some
returns-in-Some g c =
    c.owner_at.ensures ∙ owner_of c.args.action.now (places (g.T.Tree.state c.args.tree.now)) (Some c.in-Some.source.now) (sym c.copied.ensures ∙ ap option_copied c.in-Some.is)
