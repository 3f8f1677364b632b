use Rattle.std.proofs.lemmas.Result.{IfOk-from_err}
use Rattle.std.proofs.Common.{◌≡◌, ◌+◌, ◌++◌, ◌∷◌, [], List, get_or, take, sym, ap, ◌∙◌}
use Rattle.std.specs.List.{flat_map}
use Rattle.std.proofs.lemmas.List.{append-nil, flat_map_more, take_all, take_more}
use Rattle.pv_path.specs.Paths.{Path}
use Rattle.pv_walk.specs.Preparing.{parents_of}
use Rattle.pv_explain.proofs.region.add_above.Goals as goal

pub returns-in_err-more : goal.returns-in_err-more
returns-in_err-more c = IfOk-from_err c.from_residual.result _ c.from_residual.ensures.0

pub returns-in_err-append : goal.returns-in_err-append
returns-in_err-append c = IfOk-from_err c.from_residual-in_err-append.result _ c.from_residual-in_err-append.ensures.0

pub loop-end-init : goal.loop-end-init
loop-end-init c = sym (append-nil c.args.paths.now.items)

pub loop-end-preserved : goal.loop-end-preserved
loop-end-preserved c =
    let f : (Path → List Path) = λ end. [] ∷ end ∷ parents_of end in
    let old = c.args.paths.now.items in
    let ends = c.args.ends.now in
    let i = c.loop-end.end-index in
    let more : c.in_ok-more.more.items ≡ f (get_or ends i c.end-item.result) = c.in_ok-more.ensures ∙ ap f c.end-item.is in
    c.in_ok-append.ensures.items
    ∙ ap (λ (ps : List Path). ps ++ c.in_ok-more.more.items) c.loop-end.invariant
    ∙ ap (λ (ps : List Path). (old ++ flat_map f (take i ends)) ++ ps) more
    ∙ flat_map_more f old (take i ends) (get_or ends i c.end-item.result)
    ∙ ap (λ (ts : List Path). old ++ flat_map f ts) (sym (take_more ends i c.end-item.result c.loop-end-test.true))

pub returns : goal.returns
returns c =
    let f : (Path → List Path) = λ end. [] ∷ end ∷ parents_of end in
    c.loop-end.invariant ∙ ap (λ (ts : List Path). c.args.paths.now.items ++ flat_map f ts) (take_all c.loop-end.end-index c.args.ends.now c.loop-end-test.false)
