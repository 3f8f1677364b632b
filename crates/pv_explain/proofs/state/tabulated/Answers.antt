use Rattle.std.proofs.Common.{◌≡◌, ◌∙◌, ◌+◌, ◌++◌, ◌∷◌, [], List, Option, Some, None, take, sym, ap}
use Rattle.std.specs.FinMap as fin
use Rattle.std.proofs.lemmas.List.{take_all, take_more}
use Rattle.pv_walk.specs.declared.object_state.ObjectState.{ObjectState}
use Rattle.pv_path.specs.Paths.{Path, path_cmp}
use Rattle.pv_table.specs.Pointwise.{ObjectStates, point}
use Rattle.pv_explain.proofs.TabulatedLaws.{within, put_more, none_more, all_put}
use Rattle.pv_explain.proofs.state.tabulated.Goals as goal
use Rattle.pv_explain.proofs.state.tabulated.Goals.{in-Some+in_ok-copy+in_ok-put, in_default}

pub loop-other-init : goal.loop-other-init
loop-other-init c = λ q. ap (λ (m : ObjectStates). fin.get m q) c.new-after.ensures ∙ fin.get-empty path_cmp q

pub loop-other-preserved : goal.loop-other-preserved
loop-other-preserved c =
    let f : (Path → Option ObjectState) = point c.args.turn.now.line.now c.args.turn.now.before.now in
    let i = c.loop-other.other-index in
    let ps = c.args.paths.now in
    let p = c.other-item.result in
    let old = c.loop-other.after in
    let more : take (i + 1) ps ≡ take i ps ++ p ∷ [] = take_more ps i p c.loop-other-test.true ∙ ap (λ (q : Path). take i ps ++ q ∷ []) (sym c.other-item.is) in
    elim c.match-branch-2.branch [
      | in-Some+in_ok-copy+in_ok-put w ↦ λ q.
          let object_state = w.in-Some.object_state in
          let is : f p ≡ Some object_state = sym c.in_ok-object_state.ensures ∙ w.in-Some.is in
          let after : c.match-branch-2.after ≡ fin.insert old p object_state = w.after-is ∙ w.in_ok-put.ensures ∙ ap (λ (k : Path). fin.insert old k object_state) w.in_ok-copy.ensures in
          ap (λ (m : ObjectStates). fin.get m q) after
          ∙ put_more f (take i ps) p old object_state is c.loop-other.invariant q
          ∙ sym (ap (λ (xs : List Path). within f xs q) more)
      | in_default w ↦ λ q.
          let is : f p ≡ None = sym c.in_ok-object_state.ensures ∙ w.in_default.is in
          ap (λ (m : ObjectStates). fin.get m q) w.after-is
          ∙ none_more f (take i ps) p old is c.loop-other.invariant q
          ∙ sym (ap (λ (xs : List Path). within f xs q) more)
    ]

pub returns : goal.returns
returns c =
    let f : (Path → Option ObjectState) = point c.args.turn.now.line.now c.args.turn.now.before.now in
    let ps = c.args.paths.now in
    all_put f ps c.loop-other.after (λ q. c.loop-other.invariant q ∙ ap (λ (xs : List Path). within f xs q) (take_all c.loop-other.other-index ps c.loop-other-test.false))
