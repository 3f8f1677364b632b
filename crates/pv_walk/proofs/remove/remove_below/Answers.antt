use Rattle.std.proofs.Common.{refl, sym, ◌∙◌, length, reverse}
use Rattle.pv_steps.specs.Content.{Removes}
use Rattle.pv_steps.proofs.ContentLaws.{removes-wider}
use Rattle.pv_steps.proofs.ActingLaws.{acted_weaken}
use Rattle.pv_walk.specs.Edits.{Pruned}
use Rattle.pv_walk.specs.Removal.{is_below, is_one_of, count_below}
use Rattle.pv_walk.specs.PostOrder.{DoesInPostOrder}
use Rattle.pv_walk.proofs.ListingLaws.{listing_count}
use Rattle.pv_walk.proofs.FindingLaws.{listed_are}
use Rattle.pv_walk.proofs.PathSetLaws.{one_of-reverse}
use Rattle.pv_walk.proofs.EmptyingLaws.{all_gone-emptied}
use Rattle.pv_walk.proofs.SweepLaws.{pruned-wider}
use Rattle.pv_walk.proofs.TakingLaws.{taken_without, listed_removable, listed_below}
use Rattle.pv_walk.proofs.remove.remove_below.Goals as goal
use Rattle.pv_path.proofs.Tests.{on_ok}

pub remove_all-requires : goal.remove_all-requires
remove_all-requires g c = listed_removable (g.T.Tree.state c.args.tree.now) c.args.path.now c.in_ok-paths.paths.items c.in_ok-paths.ensures.all

pub returns-clause-emptied : goal.returns-clause-emptied
returns-clause-emptied g c =
    let t = g.T.Tree.state c.args.tree.now in
    let path = c.args.path.now in
    let listed = c.in_ok-paths.paths.items in
    let listing = c.in_ok-paths.ensures.all in
    on_ok c.remove_all.result
    (λ e. e ∙ sym (taken_without c.args.now t listed (listed_removable t path listed listing)) ∙ all_gone-emptied c.args.now t path c.below.ensures.tree listed listing)
    c.remove_all.ensures.gone

pub returns-clause-acted : goal.returns-clause-acted
returns-clause-acted g c =
    let t = g.T.Tree.state c.args.tree.now in
    let path = c.args.path.now in
    let listed = c.in_ok-paths.paths.items in
    let inside = listed_below t path listed c.in_ok-paths.ensures.all in
    acted_weaken g.T.Tree (Pruned (is_one_of listed) t) (Pruned (is_below path) t) (Removes (is_one_of listed)) (Removes (is_below path)) (length listed) (count_below t path)
    (λ w p. pruned-wider (is_one_of listed) (is_below path) inside t w p) (removes-wider (is_one_of listed) (is_below path) inside)
    (listing_count t path listed c.in_ok-paths.ensures.all) c.remove_all.ensures.acted

pub returns-in_err-paths-clause-order : goal.returns-in_err-paths-clause-order
returns-in_err-paths-clause-order g c = DoesInPostOrder.nothing refl

pub returns-clause-order : goal.returns-clause-order
returns-clause-order g c =
    let t = g.T.Tree.state c.args.tree.now in
    let listed = c.in_ok-paths.paths.items in
    DoesInPostOrder.first (reverse listed) (λ q. one_of-reverse listed q ∙ listed_are t c.args.path.now listed c.in_ok-paths.ensures.all q) c.in_ok-paths.ensures.order c.remove_all.ensures.order

pub returns-clause-whole : goal.returns-clause-whole
returns-clause-whole g c =
    let t = g.T.Tree.state c.args.tree.now in
    let listed = c.in_ok-paths.paths.items in
    on_ok c.remove_all.result
    (λ e. record { paths = reverse listed; are = λ q. one_of-reverse listed q ∙ listed_are t c.args.path.now listed c.in_ok-paths.ensures.all q; in_order = c.in_ok-paths.ensures.order; all = e })
    c.remove_all.ensures.whole
