use Rattle.std.proofs.Common.{sym, ap, ◌∙◌}
use Rattle.pv_table.specs.declared.action.Action.TheVariants.{Copy}
use Rattle.pv_table.specs.Turns.{view_of}
use Rattle.pv_create.specs.Deciding.{meant}
use Rattle.pv_create.proofs.DecidingLaws.{copy_over}
use Rattle.pv_create.proofs.deciding.copying_turn.Goals as goal

pub returns-in_ok-empty-in-Some-kind_at-clause-turn : goal.returns-in_ok-empty-in-Some-kind_at-clause-turn
returns-in_ok-empty-in-Some-kind_at-clause-turn g c =
    let u = g.T.Tree.state c.args.tree.now in
    ap (λ v. meant (Copy c.args.copying.now) (view_of u) v) c.kept_copy.ensures
    ∙ copy_over c.args.copying.now c.args.path.now u c.in-Some.kind c.in-Some-kind_at.there c.in_ok-empty-in-Some-kind_at.empty (sym c.kind_at.ensures.kind ∙ c.in-Some.is) (sym c.kind_at-in-Some.ensures.kind ∙ c.in-Some-kind_at.is)
    c.in_ok-empty-in-Some-kind_at.ensures
