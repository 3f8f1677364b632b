use Rattle.std.proofs.Common.{◌≡◌, option_map, sym, ap, ◌∙◌}
use Rattle.pv_path.proofs.Tests.{if_ok}
use Rattle.pv_steps.specs.Trees.{places}
use Rattle.pv_table.specs.Turns.{named_refusal, refused_at}
use Rattle.pv_create.specs.Refusing.{refused_as}
use Rattle.pv_create.proofs.RefusingLaws.{refused_first, refused_named, refused_none}
use Rattle.pv_create.proofs.refusing.refusal.Goals as goal

pub returns-in-Some : goal.returns-in-Some
returns-in-Some g c =
    refused_first c.args.at.now.line.now c.args.at.now.action.now c.requires.asked c.args.at.now.path.now (places (g.T.Tree.state c.args.tree.now)) (refused_as c.in-Some.refused)
    (sym (ap (option_map refused_as) c.in-Some.is) ∙ c.in_ok-refused.ensures)

pub returns-then-not-has_something : goal.returns-then-not-has_something
returns-then-not-has_something g c =
    refused_none c.args.at.now.line.now c.args.at.now.action.now c.requires.asked c.args.at.now.path.now (places (g.T.Tree.state c.args.tree.now))
    (sym (ap (option_map refused_as) c.in_default.is) ∙ c.in_ok-refused.ensures) (sym c.has_something.ensures.something ∙ c.if-not-has_something.true)

pub returns : goal.returns
returns g c =
    let t = places (g.T.Tree.state c.args.tree.now) in
    let line = c.args.at.now.line.now in
    let path = c.args.at.now.path.now in
    if_ok (λ refused. option_map refused_as refused ≡ named_refusal line path t) (λ refused. option_map refused_as refused ≡ refused_at line path t) c.named_refusal.result
    (λ refused e. e ∙ refused_named line c.args.at.now.action.now c.requires.asked path t
    (sym (ap (option_map refused_as) c.in_default.is) ∙ c.in_ok-refused.ensures) (sym c.has_something.ensures.something ∙ c.if-not-has_something.false))
    c.named_refusal.ensures
