use Rattle.std.proofs.Common.{◌≡◌, sym, ap, ◌∙◌, List, [], ◌∷◌, ◌++◌}
use Rattle.std.proofs.lemmas.List.{nil_from_length}
use Rattle.std.proofs.lemmas.Result.{IfOk-from_err}
use Rattle.pv_path.specs.Paths.{Path}
use Rattle.pv_steps.specs.Trees.{places}
use Rattle.pv_walk.specs.declared.listing.Task.{Task}
use Rattle.pv_walk.specs.declared.listing.Task.TheVariants.{Open}
use Rattle.pv_walk.specs.Nodes.{object_states_of}
use Rattle.pv_walk.specs.Copying.{copy_from, topped}
use Rattle.pv_walk.specs.Pieces.{names_at}
use Rattle.pv_walk.proofs.CopiedLaws.{copied_subtree, copied_stands}
use Rattle.pv_walk.proofs.CopyListing.{depth_of, within_depth, listed_started, listed_next, listed_end, hefts_fall, cost_bound}
use Rattle.pv_walk.proofs.listing.pieces_of.Goals as goal

pub loop-task-init : goal.loop-task-init
loop-task-init g c =
    let t = g.T.Tree.state c.args.tree.now in
    let s = copy_from (topped c.args.top.now) c.args.source.now (object_states_of (places t)) in
    listed_started s (names_at c.args.source.now t) (depth_of t) (within_depth s c.args.source.now t (copied_stands (topped c.args.top.now) c.args.source.now t)) c.new-2.ensures.items
    (c.in_ok-push.ensures.items ∙ ap (λ (ws : List Task). ws ++ Open c.root.result ∷ []) c.new.ensures.items ∙ ap (λ (r : Path). Open r ∷ []) c.root.ensures)

pub loop-task-smaller : goal.loop-task-smaller
loop-task-smaller g c =
    let t = g.T.Tree.state c.args.tree.now in
    let s = copy_from (topped c.args.top.now) c.args.source.now (object_states_of (places t)) in
    let fall =
    hefts_fall s (names_at c.args.source.now t) (depth_of t) (within_depth s c.args.source.now t (copied_stands (topped c.args.top.now) c.args.source.now t)) c.pop.new.self.items c.in-Some.task in
    rw (c.in_ok-list_next.ensures.left, c.in-Some.ensures.items) fall

pub loop-task-preserved : goal.loop-task-preserved
loop-task-preserved g c =
    let t = g.T.Tree.state c.args.tree.now in
    let s = copy_from (topped c.args.top.now) c.args.source.now (object_states_of (places t)) in
    let next =
    listed_next s (names_at c.args.source.now t) (depth_of t) (within_depth s c.args.source.now t (copied_stands (topped c.args.top.now) c.args.source.now t)) c.loop-task.listing.pieces.items c.pop.new.self.items c.in-Some.task
    (rw c.in-Some.ensures.items at c.loop-task.invariant) in
    rw (c.in_ok-list_next.ensures.left, c.in_ok-list_next.ensures.listed) next

pub returns-clause-plan : goal.returns-clause-plan
returns-clause-plan g c =
    let t = g.T.Tree.state c.args.tree.now in
    let s = copy_from (topped c.args.top.now) c.args.source.now (object_states_of (places t)) in
    let none : c.loop-task.listing.work.items ≡ [] = nil_from_length c.loop-task.listing.work.items (sym c.loop-task.listing.work.ok.0 ∙ c.in_default.ensures.cases.0) in
    (listed_end s (names_at c.args.source.now t) (depth_of t) (within_depth s c.args.source.now t (copied_stands (topped c.args.top.now) c.args.source.now t))
    (copied_subtree c.args.top.now c.requires.top c.args.source.now t (g.met.T.Tree.is_tree c.args.tree.now)) c.loop-task.listing.pieces.items (rw none at c.loop-task.invariant)).0

pub returns-clause-all : goal.returns-clause-all
returns-clause-all g c =
    let t = g.T.Tree.state c.args.tree.now in
    let s = copy_from (topped c.args.top.now) c.args.source.now (object_states_of (places t)) in
    let none : c.loop-task.listing.work.items ≡ [] = nil_from_length c.loop-task.listing.work.items (sym c.loop-task.listing.work.ok.0 ∙ c.in_default.ensures.cases.0) in
    (listed_end s (names_at c.args.source.now t) (depth_of t) (within_depth s c.args.source.now t (copied_stands (topped c.args.top.now) c.args.source.now t))
    (copied_subtree c.args.top.now c.requires.top c.args.source.now t (g.met.T.Tree.is_tree c.args.tree.now)) c.loop-task.listing.pieces.items (rw none at c.loop-task.invariant)).1.0

pub returns-clause-few : goal.returns-clause-few
returns-clause-few g c =
    let t = g.T.Tree.state c.args.tree.now in
    let s = copy_from (topped c.args.top.now) c.args.source.now (object_states_of (places t)) in
    let there = copied_stands (topped c.args.top.now) c.args.source.now t in
    let none : c.loop-task.listing.work.items ≡ [] = nil_from_length c.loop-task.listing.work.items (sym c.loop-task.listing.work.ok.0 ∙ c.in_default.ensures.cases.0) in
    let end =
    listed_end s (names_at c.args.source.now t) (depth_of t) (within_depth s c.args.source.now t there)
    (copied_subtree c.args.top.now c.requires.top c.args.source.now t (g.met.T.Tree.is_tree c.args.tree.now)) c.loop-task.listing.pieces.items (rw none at c.loop-task.invariant) in
    cost_bound s c.args.source.now t there c.loop-task.listing.pieces.items end.0 end.1.0 end.1.1

pub returns-in_err-push-clause-plan : goal.returns-in_err-push-clause-plan
returns-in_err-push-clause-plan g c = IfOk-from_err c.from_residual.result _ c.from_residual.ensures.0

pub returns-in_err-push-clause-all : goal.returns-in_err-push-clause-all
returns-in_err-push-clause-all g c = IfOk-from_err c.from_residual.result _ c.from_residual.ensures.0

pub returns-in_err-push-clause-few : goal.returns-in_err-push-clause-few
returns-in_err-push-clause-few g c = IfOk-from_err c.from_residual.result _ c.from_residual.ensures.0

pub returns-in_err-list_next-clause-plan : goal.returns-in_err-list_next-clause-plan
returns-in_err-list_next-clause-plan g c = IfOk-from_err c.from_residual-in_err-list_next.result _ c.from_residual-in_err-list_next.ensures.0

pub returns-in_err-list_next-clause-all : goal.returns-in_err-list_next-clause-all
returns-in_err-list_next-clause-all g c = IfOk-from_err c.from_residual-in_err-list_next.result _ c.from_residual-in_err-list_next.ensures.0

pub returns-in_err-list_next-clause-few : goal.returns-in_err-list_next-clause-few
returns-in_err-list_next-clause-few g c = IfOk-from_err c.from_residual-in_err-list_next.result _ c.from_residual-in_err-list_next.ensures.0

pub returns-in_err-push-clause-tree : goal.returns-in_err-push-clause-tree
returns-in_err-push-clause-tree g c = g.met.T.Tree.is_tree c.args.tree.now

pub returns-in_err-list_next-clause-tree : goal.returns-in_err-list_next-clause-tree
returns-in_err-list_next-clause-tree g c = g.met.T.Tree.is_tree c.args.tree.now

pub returns-clause-tree : goal.returns-clause-tree
returns-clause-tree g c = g.met.T.Tree.is_tree c.args.tree.now
