use Rattle.std.proofs.lemmas.Result.{IfOk-from_err}
use Rattle.std.proofs.Common.{◌≡◌, ◌+◌, ◌++◌, ◌∷◌, [], List, get_or, take, sym, ap, ◌∙◌}
use Rattle.std.specs.FinMap as fin
use Rattle.std.specs.List.{filter, flat_map}
use Rattle.std.proofs.lemmas.List.{append-nil, flat_map_more, take_all, take_more}
use Rattle.pv_path.specs.Paths.{Path, is_prefix}
use Rattle.pv_explain.proofs.region.add_below.Goals as goal

pub returns-in_err-more : goal.returns-in_err-more
returns-in_err-more g c = IfOk-from_err c.from_residual.result _ c.from_residual.ensures.0

pub returns-in_err-append : goal.returns-in_err-append
returns-in_err-append g c = IfOk-from_err c.from_residual-in_err-append.result _ c.from_residual-in_err-append.ensures.0

pub loop-top-init : goal.loop-top-init
loop-top-init g c = sym (append-nil c.args.paths.now.items)

pub loop-top-preserved : goal.loop-top-preserved
loop-top-preserved g c =
    let f = λ (top : Path). filter (is_prefix top) (fin.keys (g.T.Tree.state c.args.tree.now)) in
    let old = c.args.paths.now.items in
    let tops = c.args.tops.now in
    let i = c.loop-top.top-index in
    let more : c.in_ok-more.more.items ≡ f (get_or tops i c.top-item.result) = c.in_ok-more.ensures.paths ∙ ap f c.top-item.is in
    c.in_ok-append.ensures.items
    ∙ ap (λ (ps : List Path). ps ++ c.in_ok-more.more.items) c.loop-top.invariant
    ∙ ap (λ (ps : List Path). (old ++ flat_map f (take i tops)) ++ ps) more
    ∙ flat_map_more f old (take i tops) (get_or tops i c.top-item.result)
    ∙ ap (λ (ts : List Path). old ++ flat_map f ts) (sym (take_more tops i c.top-item.result c.loop-top-test.true))

pub returns : goal.returns
returns g c =
    let f = λ (top : Path). filter (is_prefix top) (fin.keys (g.T.Tree.state c.args.tree.now)) in
    c.loop-top.invariant ∙ ap (λ (ts : List Path). c.args.paths.now.items ++ flat_map f ts) (take_all c.loop-top.top-index c.args.tops.now c.loop-top-test.false)
