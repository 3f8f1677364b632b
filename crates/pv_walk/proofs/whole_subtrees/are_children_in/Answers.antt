use Rattle.std.proofs.lemmas.Result.{IfOk-from_err}
use Rattle.std.proofs.Common.{sym, ap, ◌∙◌, [], ◌∷◌, ◌++◌, List, ℕ}
use Rattle.std.specs.List.{list_all}
use Rattle.std.proofs.lemmas.List.{take_all}
use Rattle.pv_walk.specs.Removal.{is_one_of}
use Rattle.pv_walk.proofs.whole_subtrees.are_children_in.Goals as goal

pub returns : goal.returns
returns c =
    sym c.loop-name.invariant
    ∙ ap (λ (ns : List (List ℕ)). list_all (λ n. is_one_of c.args.whole.now (c.args.path.now ++ n ∷ [])) ns)
    (take_all c.loop-name.name-index c.args.names.now c.loop-name-test.false)

pub returns-in_err-is_child_in : goal.returns-in_err-is_child_in
returns-in_err-is_child_in c = IfOk-from_err c.from_residual.result _ c.from_residual.ensures.0
