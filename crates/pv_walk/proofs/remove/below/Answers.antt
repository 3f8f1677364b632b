use Rattle.std.proofs.lemmas.Result.{IfOk-from_err}
use Rattle.std.proofs.Common.{◌≡◌, sym, ap, subst, ◌∙◌, [], ◌∷◌, ◌++◌, length, reverse, arith}
use Rattle.std.proofs.Common.{length-append}
use Rattle.std.proofs.lemmas.List.{append-nil, nil_from_length}
use Rattle.pv_walk.specs.Listing.{children_of, AreGathered}
use Rattle.pv_walk.proofs.PostOrderLaws.{Falling, falling_start, falling_next, falling_end}
use Rattle.pv_walk.proofs.GatheredLaws.{gathered_push, gathered_start}
use Rattle.pv_walk.proofs.ListingLaws.{Listing, listing_start, listing_next, listing_room, listing_end}
use Rattle.pv_walk.proofs.remove.below.Goals as goal

pub loop-next-init : goal.loop-next-init
loop-next-init g c =
    let t = g.T.Tree.state c.args.tree.now in
    let path = c.args.path.now in
    let start : Listing t path [] (children_of t path) × AreGathered (reverse (children_of t path)) × Falling [] (children_of t path) =
    (listing_start t path, gathered_start t path, falling_start t path) in
    rw (c.new-listed.ensures.items, c.in_ok-push_children.ensures.added, c.new-work.ensures.items) start

pub loop-next-smaller : goal.loop-next-smaller
loop-next-smaller g c =
    let here = rw c.in-Some.ensures.items at c.loop-next.invariant in
    let room = listing_room (g.T.Tree.state c.args.tree.now) c.args.path.now c.loop-next.listed.items c.pop.new.self.items c.in-Some.next here.0 in
    omega (arith, room, ap length {y = c.loop-next.listed.items ++ c.in-Some.next ∷ []} c.in_ok-push.ensures.items, length-append c.loop-next.listed.items (c.in-Some.next ∷ []))

pub loop-next-preserved : goal.loop-next-preserved
loop-next-preserved g c =
    let here = rw c.in-Some.ensures.items at c.loop-next.invariant in
    let t = g.T.Tree.state c.args.tree.now in
    let path = c.args.path.now in
    let listed = c.loop-next.listed.items in
    let work = c.pop.new.self.items in
    let w = c.in-Some.next in
    let next : Listing t path (listed ++ w ∷ []) (work ++ children_of t w) × AreGathered ((listed ++ w ∷ []) ++ reverse (work ++ children_of t w)) × Falling (listed ++ w ∷ []) (work ++ children_of t w) =
    (listing_next t path listed work w here.0, gathered_push t path listed work w here.0 here.1, falling_next t w listed work here.2) in
    rw (c.in_ok-push.ensures.items, c.in_ok-push_children-2.ensures.added) next

pub returns-clause-all : goal.returns-clause-all
returns-clause-all g c =
    let none : c.loop-next.work.items ≡ [] = nil_from_length c.loop-next.work.items (sym c.loop-next.work.ok.0 ∙ c.in_default.ensures.cases.0) in
    listing_end (g.T.Tree.state c.args.tree.now) c.args.path.now c.push_children.ensures.tree c.loop-next.listed.items (rw none at c.loop-next.invariant.0)

pub returns-clause-gathered : goal.returns-clause-gathered
returns-clause-gathered g c =
    let none : c.loop-next.work.items ≡ [] = nil_from_length c.loop-next.work.items (sym c.loop-next.work.ok.0 ∙ c.in_default.ensures.cases.0) in
    subst AreGathered (append-nil c.loop-next.listed.items) (rw none at c.loop-next.invariant.1)

pub returns-clause-order : goal.returns-clause-order
returns-clause-order g c = falling_end c.loop-next.listed.items c.loop-next.work.items c.loop-next.invariant.2

pub returns-in_err-push_children-clause-all : goal.returns-in_err-push_children-clause-all
returns-in_err-push_children-clause-all g c = IfOk-from_err c.from_residual.result _ c.from_residual.ensures.0

pub returns-in_err-push_children-clause-gathered : goal.returns-in_err-push_children-clause-gathered
returns-in_err-push_children-clause-gathered g c = IfOk-from_err c.from_residual.result _ c.from_residual.ensures.0

pub returns-in_err-push_children-clause-order : goal.returns-in_err-push_children-clause-order
returns-in_err-push_children-clause-order g c = IfOk-from_err c.from_residual.result _ c.from_residual.ensures.0

pub returns-in_err-push_children-clause-tree : goal.returns-in_err-push_children-clause-tree
returns-in_err-push_children-clause-tree g c = g.met.T.Tree.is_tree c.args.tree.now

pub returns-in_err-push_children-2-clause-all : goal.returns-in_err-push_children-2-clause-all
returns-in_err-push_children-2-clause-all g c = IfOk-from_err c.from_residual-in_err-push_children-2.result _ c.from_residual-in_err-push_children-2.ensures.0

pub returns-in_err-push_children-2-clause-gathered : goal.returns-in_err-push_children-2-clause-gathered
returns-in_err-push_children-2-clause-gathered g c = IfOk-from_err c.from_residual-in_err-push_children-2.result _ c.from_residual-in_err-push_children-2.ensures.0

pub returns-in_err-push_children-2-clause-order : goal.returns-in_err-push_children-2-clause-order
returns-in_err-push_children-2-clause-order g c = IfOk-from_err c.from_residual-in_err-push_children-2.result _ c.from_residual-in_err-push_children-2.ensures.0

pub returns-in_err-push_children-2-clause-tree : goal.returns-in_err-push_children-2-clause-tree
returns-in_err-push_children-2-clause-tree g c = g.met.T.Tree.is_tree c.args.tree.now

pub returns-in_err-push-clause-all : goal.returns-in_err-push-clause-all
returns-in_err-push-clause-all g c = IfOk-from_err c.from_residual-in_err-push.result _ c.from_residual-in_err-push.ensures.0

pub returns-in_err-push-clause-gathered : goal.returns-in_err-push-clause-gathered
returns-in_err-push-clause-gathered g c = IfOk-from_err c.from_residual-in_err-push.result _ c.from_residual-in_err-push.ensures.0

pub returns-in_err-push-clause-order : goal.returns-in_err-push-clause-order
returns-in_err-push-clause-order g c = IfOk-from_err c.from_residual-in_err-push.result _ c.from_residual-in_err-push.ensures.0

pub returns-in_err-push-clause-tree : goal.returns-in_err-push-clause-tree
returns-in_err-push-clause-tree g c = g.met.T.Tree.is_tree c.args.tree.now

pub returns-clause-tree : goal.returns-clause-tree
returns-clause-tree g c = g.met.T.Tree.is_tree c.args.tree.now
