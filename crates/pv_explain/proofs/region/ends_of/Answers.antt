use Rattle.std.proofs.lemmas.Result.{IfOk-from_err}
use Rattle.std.proofs.Common.{◌≡◌, ◌+◌, ◌++◌, ◌∷◌, [], List, map, take, sym, ap, ◌∙◌}
use Rattle.std.proofs.lemmas.List.{map_more, take_all}
use Rattle.pv_path.specs.Paths.{Path}
use Rattle.pv_explain.specs.declared.region.Copied.{Copied}
use Rattle.pv_explain.proofs.region.ends_of.Goals as goal

pub returns-in_err-copy : goal.returns-in_err-copy
returns-in_err-copy c = IfOk-from_err c.from_residual.result _ c.from_residual.ensures.0

pub returns-in_err-push : goal.returns-in_err-push
returns-in_err-push c = IfOk-from_err c.from_residual-in_err-push.result _ c.from_residual-in_err-push.ensures.0

pub returns-in_err-copy-2 : goal.returns-in_err-copy-2
returns-in_err-copy-2 c = IfOk-from_err c.from_residual-in_err-copy-2.result _ c.from_residual-in_err-copy-2.ensures.0

pub returns-in_err-push-2 : goal.returns-in_err-push-2
returns-in_err-push-2 c = IfOk-from_err c.from_residual-in_err-push-2.result _ c.from_residual-in_err-push-2.ensures.0

pub loop-copy-preserved : goal.loop-copy-preserved
loop-copy-preserved c =
    let f = λ (copy : Copied). copy.from in
    let path = c.args.path.now in
    let copies = c.args.copies.now in
    let i = c.loop-copy.copy-index in
    c.in_ok-push-2.ensures.items
    ∙ ap (λ (ps : List Path). ps ++ c.in_ok-copy-2.field-0 ∷ []) c.loop-copy.invariant
    ∙ ap (λ (p : Path). path ∷ (map f (take i copies) ++ p ∷ [])) (c.in_ok-copy-2.ensures ∙ ap f c.copy-item.is)
    ∙ ap (λ (ps : List Path). path ∷ ps) (sym (map_more f copies i c.copy-item.result c.loop-copy-test.true))

pub returns : goal.returns
returns c = c.loop-copy.invariant ∙ ap (λ (cs : List Copied). c.args.path.now ∷ map (λ copy. copy.from) cs) (take_all c.loop-copy.copy-index c.args.copies.now c.loop-copy-test.false)
