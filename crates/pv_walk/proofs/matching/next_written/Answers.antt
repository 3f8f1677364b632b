use Rattle.std.proofs.Common.{sym, ap, ◌∙◌, List}
use Rattle.std.specs.List.{list_any}
use Rattle.std.proofs.lemmas.List.{take_all}
use Rattle.pv_path.specs.Paths.{Path}
use Rattle.pv_glob.specs.Matching.{matches}
use Rattle.pv_walk.specs.Finding.{extends}
use Rattle.pv_walk.specs.Removal.{is_one_of}
use Rattle.pv_walk.proofs.FindingLaws.{added_more, child_matches, nothing_matches}
use Rattle.pv_walk.proofs.matching.next_written.Goals as goal

pub returns-then-not-matches : goal.returns-then-not-matches
returns-then-not-matches g c = λ q.
    ap (λ (xs : List Path). is_one_of xs q) c.new-next.ensures.items
    ∙ nothing_matches (g.T.Tree.state c.args.tree.now) c.args.plain.now c.args.name.now c.requires (ap (matches c.args.plain.now) (sym c.from_ref.ensures.value) ∙ sym c.if-not-matches.ensures) q c.args.paths.now

pub loop-path-init : goal.loop-path-init
loop-path-init g c = λ q. ap (λ (xs : List Path). is_one_of xs q) c.new-next.ensures.items

pub loop-path-preserved : goal.loop-path-preserved
loop-path-preserved g c = λ q.
    added_more (λ p. extends (g.T.Tree.state c.args.tree.now) c.args.plain.now p q) q _ _ _ c.args.paths.now c.loop-path.path-index c.path-item.result c.loop-path-test.true c.path-item.is (c.loop-path.invariant q) c.in_ok-add_present.ensures
    (child_matches (g.T.Tree.state c.args.tree.now) c.args.plain.now c.path-item.result q c.args.name.now c.requires (ap (matches c.args.plain.now) (sym c.from_ref.ensures.value) ∙ sym c.if-not-matches.ensures))

pub returns : goal.returns
returns g c = λ q. c.loop-path.invariant q ∙ ap (λ (ps : List Path). list_any (λ p. extends (g.T.Tree.state c.args.tree.now) c.args.plain.now p q) ps) (take_all c.loop-path.path-index c.args.paths.now c.loop-path-test.false)
