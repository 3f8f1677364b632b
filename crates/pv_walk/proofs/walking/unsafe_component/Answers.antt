use Rattle.std.proofs.lemmas.Result.{IfOk-from_err}
use Rattle.std.proofs.Common.{◌≡◌, ◌<◌, ◌≤◌, ◌+◌, ◌-◌, length, sym, ap, ◌∙◌, arith}
use Rattle.std.specs.List.{range_with_len}
use Rattle.pv_steps.specs.Trees.{places}
use Rattle.pv_walk.specs.Walking.{unsafe_component_from}
use Rattle.pv_walk.proofs.WalkLaws.{range_start, range_step, range_none, seen_along, unsafe_component_here, unsafe_component_next}
use Rattle.pv_walk.proofs.walking.unsafe_component.Goals as goal

pub loop-k-init : goal.loop-k-init
loop-k-init g c = ap (unsafe_component_from (places (g.T.Tree.state c.args.tree.now)) c.args.path.now) (range_start (length c.args.path.now))

pub returns-in-Some-clause-place : goal.returns-in-Some-clause-place
returns-in-Some-clause-place g c =
    let t = places (g.T.Tree.state c.args.tree.now) in
    let path = c.args.path.now in
    let k = c.loop-k.k in
    let below : k < length path = omega arith in
    let within : k ≤ length path = omega arith in
    let seen = seen_along (g.T.Tree.state c.args.tree.now) path k c.deref.result.now c.in_ok-nodes.nodes.items c.seen_in.result c.seen_in.ensures c.deref.ensures.value (c.in_ok-nodes.ensures.nodes k within) in
    sym (c.loop-k.invariant ∙ ap (unsafe_component_from t path) (range_step k (length path) below)
    ∙ unsafe_component_here t path k (range_with_len (k + 1) (length path - (k + 1))) c.seen_in.result c.why_passed.result seen c.why_passed.ensures c.in-Some.why c.in-Some.is)

pub loop-k-preserved : goal.loop-k-preserved
loop-k-preserved g c =
    let t = places (g.T.Tree.state c.args.tree.now) in
    let path = c.args.path.now in
    let k = c.loop-k.k in
    let below : k < length path = omega arith in
    let within : k ≤ length path = omega arith in
    let seen = seen_along (g.T.Tree.state c.args.tree.now) path k c.deref.result.now c.in_ok-nodes.nodes.items c.seen_in.result c.seen_in.ensures c.deref.ensures.value (c.in_ok-nodes.ensures.nodes k within) in
    c.loop-k.invariant ∙ ap (unsafe_component_from t path) (range_step k (length path) below)
    ∙ unsafe_component_next t path k (range_with_len (k + 1) (length path - (k + 1))) c.seen_in.result c.why_passed.result seen c.why_passed.ensures c.in_default.is

pub returns-clause-place : goal.returns-clause-place
returns-clause-place g c =
    let t = places (g.T.Tree.state c.args.tree.now) in
    let path = c.args.path.now in
    let k = c.loop-k.k in
    let end : k ≡ length path = omega (arith, c.loop-k-test.false, c.loop-k.auto.k-end, c.len-k-end.ensures.count) in
    sym (c.loop-k.invariant ∙ ap (unsafe_component_from t path) (range_none k (length path) end))

pub overflow_cast-result : goal.overflow_cast-result
overflow_cast-result g c = omega (arith, c.requires, c.loop-k-test.true, c.len-k-end.ensures.count)

pub returns-in_err-nodes-clause-place : goal.returns-in_err-nodes-clause-place
returns-in_err-nodes-clause-place g c = IfOk-from_err c.from_residual.result _ c.from_residual.ensures.0

pub returns-in_err-nodes-clause-tree : goal.returns-in_err-nodes-clause-tree
returns-in_err-nodes-clause-tree g c = g.met.T.Tree.is_tree c.args.tree.now

pub returns-clause-tree : goal.returns-clause-tree
returns-clause-tree g c = g.met.T.Tree.is_tree c.args.tree.now

pub returns-in-Some-clause-tree : goal.returns-in-Some-clause-tree
returns-in-Some-clause-tree g c = g.met.T.Tree.is_tree c.args.tree.now
