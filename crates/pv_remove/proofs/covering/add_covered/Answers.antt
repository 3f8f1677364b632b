use Rattle.std.proofs.Common.{◌<◌, ◌&&◌, ◌||◌, ◌∙◌, ap, List, length, get_or, filter, is_none, arith}
use Rattle.std.specs.FinMap as fin
use Rattle.std.specs.List.{list_any}
use Rattle.std.proofs.lemmas.List.{take_all}
use Rattle.pv_path.specs.Paths.{Path}
use Rattle.pv_steps.specs.Trees.{places}
use Rattle.pv_walk.specs.Removal.{is_one_of}
use Rattle.pv_table.specs.declared.taking.Taking.{Taking}
use Rattle.pv_table.specs.Reaching.{names}
use Rattle.pv_table.specs.Removed.{refused_place}
use Rattle.pv_remove.specs.Covering.{takes}
use Rattle.pv_remove.proofs.CoverLaws.{covers_named, kept_passes, named_short, or_more}
use Rattle.pv_remove.proofs.covering.add_covered.Goals as goal

pub add_named-requires : goal.add_named-requires
add_named-requires g c =
    let t = g.T.Tree.state c.args.tree.now in
    let items = c.deref-path-items.ensures.value ∙ c.in_ok-paths.ensures in
    let path = c.path-item.result in
    let i = c.loop-path.path-index in
    let within : i < length (filter (names c.args.line.now) (fin.keys t)) = omega (arith, c.loop-path-test.true, ap length items) in
    named_short c.args.line.now path c.requires.line (kept_passes (names c.args.line.now) (fin.keys t) i path within (c.path-item.is ∙ ap (λ (v : List Path). get_or v i path) items))

pub loop-path-preserved : goal.loop-path-preserved
loop-path-preserved g c = λ q.
    let t = g.T.Tree.state c.args.tree.now in
    or_more (λ p. is_none (refused_place c.args.line.now (places t) p) && takes c.taking_of-taking.result t p q) c.deref-path-items.result.now c.loop-path.path-index c.path-item.result
    _ (is_one_of c.args.covered.now.items q) _ c.loop-path-test.true c.path-item.is (c.loop-path.invariant q) (c.in_ok-add_named.ensures q)

pub returns : goal.returns
returns g c = λ q.
    let t = g.T.Tree.state c.args.tree.now in
    let line = c.args.line.now in
    let old = is_one_of c.args.covered.now.items q in
    c.loop-path.invariant q
    ∙ ap (λ (ps : List Path). old || list_any (λ p. is_none (refused_place line (places t) p) && takes c.taking_of-taking.result t p q) ps)
    (take_all c.loop-path.path-index c.deref-path-items.result.now c.loop-path-test.false ∙ c.deref-path-items.ensures.value ∙ c.in_ok-paths.ensures)
    ∙ ap (λ (v : Taking). old || list_any (λ p. is_none (refused_place line (places t) p) && takes v t p q) (filter (names line) (fin.keys t))) c.taking_of-taking.ensures
    ∙ ap (λ b. old || b) (covers_named t c.requires.tree line q)
