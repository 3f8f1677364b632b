use Rattle.std.proofs.lemmas.Result.{IfOk-from_err}
use Rattle.std.proofs.Common.{◌++◌, List, map, append_assoc, sym, ap, ◌∙◌, [], ◌∷◌}
use Rattle.std.specs.Prelude.{Option}
use Rattle.pv_path.proofs.Tests.{on_ok}
use Rattle.pv_walk.specs.declared.object_state.ObjectState.{ObjectState}
use Rattle.pv_walk.specs.declared.listing.Task.{Task}
use Rattle.pv_walk.specs.declared.listing.Task.TheVariants.{Open, Close}
use Rattle.pv_walk.specs.declared.listing.Piece.TheVariants.{Make}
use Rattle.pv_walk.specs.Pieces.{names_at, what_of, last_piece, tasks_before}
use Rattle.pv_walk.proofs.listing.open.Goals as goal

pub returns-in_ok-add_object-in-Some-clause-left : goal.returns-in_ok-add_object-in-Some-clause-left
returns-in_ok-add_object-in-Some-clause-left g c =
    let names = names_at c.args.source.now (g.T.Tree.state c.args.tree.now) c.args.rest.now in
    let below = map (λ name. Open (c.args.rest.now ++ name ∷ [])) names in
    on_ok c.open_children.result
    (λ e. e ∙ ap (λ (work : List Task). work ++ below) c.in_ok-add_object-in-Some.ensures.left
    ∙ append_assoc c.args.listing.now.work.items (Close (Make c.args.rest.now (what_of c.in-Some.object.body)) ∷ []) below
    ∙ ap (λ (object : Option ObjectState). c.args.listing.now.work.items ++ tasks_before c.args.rest.now names object) (sym c.in-Some.is ∙ c.in_ok-object_at.ensures.object))
    c.open_children.ensures.left

pub returns-in_ok-add_object-in-Some-clause-listed : goal.returns-in_ok-add_object-in-Some-clause-listed
returns-in_ok-add_object-in-Some-clause-listed g c =
    on_ok c.open_children.result
    (λ e. c.in_ok-add_object-in-Some.ensures.listed
    ∙ ap (λ (object : Option ObjectState). c.args.listing.now.pieces.items ++ last_piece c.args.rest.now object) (sym c.in-Some.is ∙ c.in_ok-object_at.ensures.object))
    c.open_children.ensures.left

pub returns-in_err-object_at-clause-left : goal.returns-in_err-object_at-clause-left
returns-in_err-object_at-clause-left g c = IfOk-from_err c.from_residual.result _ c.from_residual.ensures.0

pub returns-in_err-object_at-clause-listed : goal.returns-in_err-object_at-clause-listed
returns-in_err-object_at-clause-listed g c = IfOk-from_err c.from_residual.result _ c.from_residual.ensures.0

pub returns-in_err-add_object-in-Some-clause-left : goal.returns-in_err-add_object-in-Some-clause-left
returns-in_err-add_object-in-Some-clause-left g c = IfOk-from_err c.from_residual-in_err-add_object-in-Some.result _ c.from_residual-in_err-add_object-in-Some.ensures.0

pub returns-in_err-add_object-in-Some-clause-listed : goal.returns-in_err-add_object-in-Some-clause-listed
returns-in_err-add_object-in-Some-clause-listed g c = IfOk-from_err c.from_residual-in_err-add_object-in-Some.result _ c.from_residual-in_err-add_object-in-Some.ensures.0
