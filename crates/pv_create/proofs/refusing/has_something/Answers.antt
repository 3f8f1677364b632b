use Rattle.std.proofs.Common.{None, Some, sym, ap, ◌∙◌}
use Rattle.std.specs.Option.{option_copied}
use Rattle.pv_steps.specs.Trees.{places}
use Rattle.pv_create.proofs.RefusingLaws.{something_is}
use Rattle.pv_create.proofs.refusing.has_something.Goals as goal

pub returns-in-None-clause-something : goal.returns-in-None-clause-something
returns-in-None-clause-something g c = something_is c.args.action.now (places (g.T.Tree.state c.args.tree.now)) None (sym c.copied.ensures ∙ ap option_copied c.in-None.is)

pub returns-in-Some-clause-something : goal.returns-in-Some-clause-something
returns-in-Some-clause-something g c =
    c.is_present.ensures.present ∙ something_is c.args.action.now (places (g.T.Tree.state c.args.tree.now)) (Some c.in-Some.source.now) (sym c.copied.ensures ∙ ap option_copied c.in-Some.is)
