use Rattle.std.proofs.Common.{◌≡◌, sym, ap, ◌∙◌, [], Bool}
use Rattle.std.proofs.lemmas.List.{nil_from_length}
use Rattle.pv_path.specs.Paths.{Path}
use Rattle.pv_walk.specs.Whole.{goes_whole}
use Rattle.pv_walk.proofs.WholeLaws.{decided_after, decided_present, deciding_start, deciding_next, deciding_end}
use Rattle.pv_walk.proofs.whole_subtrees.whole_of.Goals as goal

pub loop-path-init : goal.loop-path-init
loop-path-init g c = deciding_start c.in_order-left.result.items (g.T.Tree.state c.args.tree.now) c.new-whole.result c.new-whole.ensures

pub loop-path-preserved : goal.loop-path-preserved
loop-path-preserved g c =
    deciding_next c.in_order-left.result.items (g.T.Tree.state c.args.tree.now) c.add_whole.ensures.tree c.in_order-left.ensures.rises (λ q h. c.requires q (sym (c.in_order-left.ensures.members q) ∙ h))
    c.pop.new.self.items c.in-Some.path _ _ (rw c.in-Some.ensures.items at c.loop-path.invariant) c.in_ok-add_whole.ensures.added

pub returns : goal.returns
returns g c = λ q.
    let none : c.loop-path.left.items ≡ [] = nil_from_length c.loop-path.left.items (sym c.loop-path.left.ok.0 ∙ c.in_default.ensures.cases.0) in
    deciding_end c.in_order-left.result.items (g.T.Tree.state c.args.tree.now) c.loop-path.whole (rw none at c.loop-path.invariant) q
    ∙ ap (λ (f : Path → Bool). goes_whole f (g.T.Tree.state c.args.tree.now) q) (λ i r. c.in_order-left.ensures.members r i)

pub add_whole-requires : goal.add_whole-requires
add_whole-requires g c = record {
  present = decided_present c.in_order-left.result.items (g.T.Tree.state c.args.tree.now) c.loop-path.left.items c.loop-path.whole c.loop-path.invariant;
  first = decided_after c.in_order-left.result.items (g.T.Tree.state c.args.tree.now) c.pop.new.self.items c.loop-path.whole c.in-Some.path c.in_order-left.ensures.rises (rw c.in-Some.ensures.items at c.loop-path.invariant);
}
