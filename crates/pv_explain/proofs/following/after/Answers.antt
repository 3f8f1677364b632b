use Rattle.std.specs.Prelude.{◌≡◌, Some, IfOk}
use Rattle.std.proofs.Common.{sym, subst}
use Rattle.pv_table.specs.Pointwise.{ObjectStates, pointwise_after}
use Rattle.pv_explain.specs.declared.following.Scope.{Scope}
use Rattle.pv_explain.specs.Following.{Follows}
use Rattle.pv_explain.proofs.following.after.Goals as goal

pub returns-in-Along-clause-follows : goal.returns-in-Along-clause-follows
returns-in-Along-clause-follows c =
    subst (λ (scope : Scope). IfOk c.after_along.result (λ next. (s left : ObjectStates) → next ≡ Some left → Follows scope c.args.path.now c.args.before s
    → Follows scope c.args.path.now left (pointwise_after s c.args.line.now))) (sym c.in-Along.is) c.after_along.ensures
