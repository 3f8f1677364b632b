use Rattle.std.proofs.Common.{◌≡◌, ◌∙◌, ◌+◌, ◌++◌, ◌∷◌, [], List, Option, Some, None, take, sym, ap}
use Rattle.std.specs.FinMap as fin
use Rattle.std.proofs.lemmas.List.{take_all, take_more}
use Rattle.pv_walk.specs.declared.object_state.ObjectState.{ObjectState}
use Rattle.pv_walk.specs.Nodes.{object_states_of}
use Rattle.pv_path.specs.Paths.{Path, path_cmp}
use Rattle.pv_explain.proofs.TabulatedLaws.{within, put_more, none_more, all_put}
use Rattle.pv_steps.specs.Trees.{places}
use Rattle.pv_table.specs.Pointwise.{ObjectStates}
use Rattle.pv_explain.proofs.tree_standing.standing_at.Goals as goal
use Rattle.pv_explain.proofs.tree_standing.standing_at.Goals.{in-Some+in_ok-copy+in_ok-put, in_default}

pub loop-path-init : goal.loop-path-init
loop-path-init g c = λ q. ap (λ (m : ObjectStates). fin.get m q) c.new-standing.ensures ∙ fin.get-empty path_cmp q

pub loop-path-preserved : goal.loop-path-preserved
loop-path-preserved g c =
    let f : (Path → Option ObjectState) = object_states_of (places (g.T.Tree.state c.args.tree.now)) in
    let i = c.loop-path.path-index in
    let ps = c.args.paths.now in
    let p = c.path-item.result in
    let old = c.loop-path.standing in
    let more : take (i + 1) ps ≡ take i ps ++ p ∷ [] = take_more ps i p c.loop-path-test.true ∙ ap (λ (q : Path). take i ps ++ q ∷ []) (sym c.path-item.is) in
    elim c.match-branch-2.branch [
      | in-Some+in_ok-copy+in_ok-put w ↦ λ q.
          let object_state = w.in-Some.object_state in
          let is : f p ≡ Some object_state = sym c.in_ok-object_state.ensures ∙ w.in-Some.is in
          let after : c.match-branch-2.standing ≡ fin.insert old p object_state = w.standing-is ∙ w.in_ok-put.ensures ∙ ap (λ (k : Path). fin.insert old k object_state) w.in_ok-copy.ensures in
          ap (λ (m : ObjectStates). fin.get m q) after
          ∙ put_more f (take i ps) p old object_state is c.loop-path.invariant q
          ∙ sym (ap (λ (xs : List Path). within f xs q) more)
      | in_default w ↦ λ q.
          let is : f p ≡ None = sym c.in_ok-object_state.ensures ∙ w.in_default.is in
          ap (λ (m : ObjectStates). fin.get m q) w.standing-is
          ∙ none_more f (take i ps) p old is c.loop-path.invariant q
          ∙ sym (ap (λ (xs : List Path). within f xs q) more)
    ]

pub returns : goal.returns
returns g c =
    let f : (Path → Option ObjectState) = object_states_of (places (g.T.Tree.state c.args.tree.now)) in
    let ps = c.args.paths.now in
    all_put f ps c.loop-path.standing (λ q. c.loop-path.invariant q ∙ ap (λ (xs : List Path). within f xs q) (take_all c.loop-path.path-index ps c.loop-path-test.false))
