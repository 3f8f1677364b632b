use Rattle.std.proofs.Common.{◌≡◌, ◌∙◌, ℕ, ◌+◌, ◌<◌, List, Some, None, is_some, length, get_or, take, drop, fold, sym, ap, subst, arith}
use Rattle.std.specs.Prelude.{slice_get}
use Rattle.std.specs.Option.{option_copied}
use Rattle.pv_lines.specs.declared.line.Line.{Line}
use Rattle.pv_table.specs.Active.{create_order, in_create_order}
use Rattle.pv_table.specs.Pointwise.{ObjectStates, pointwise_after}
use Rattle.pv_explain.proofs.OrderLaws.{is_left, is_there, none_is_left}
use Rattle.pv_explain.proofs.state.state_after.Goals as goal
use Rattle.pv_explain.proofs.state.state_after.Goals.{in-Some+in_ok-standing, in_default}

pub loop-place-preserved : goal.loop-place-preserved
loop-place-preserved c =
    let lines = c.args.table.now in
    let count = c.args.count in
    let i = c.loop-place.place-index in
    let items = c.loop-place.invariant.items in
    let place = get_or c.first-place-items.result.now i 0 in
    let within : i < length (take count (create_order lines)) = subst (λ (ps : List ℕ). i < length ps) items c.loop-place-test.true in
    let is : place ≡ get_or (take count (create_order lines)) i 0 = ap (λ (ps : List ℕ). get_or ps i 0) items in
    let left : List Line = drop (i + 1) (take count (in_create_order lines)) in
    elim c.match-line.branch [
      | in-Some+in_ok-standing w ↦
          let line = w.in-Some.line.now in
          let at : slice_get lines place ≡ Some line = sym c.line.ensures ∙ ap option_copied w.in-Some.is in
          let next = is_left lines count i place line within is at in
          let after : c.match-line.standing ≡ pointwise_after c.loop-place.standing line = w.standing-is ∙ w.in_ok-standing.ensures in
          record {
            items = items;
            state = ap (λ (s : ObjectStates). fold pointwise_after s left) after ∙ sym (ap (fold pointwise_after c.loop-place.standing) next) ∙ c.loop-place.invariant.state;
          }
      | in_default w ↦
          let there = is_there lines count i place within is in
          let at : slice_get lines place ≡ None = sym c.line.ensures ∙ ap option_copied w.in_default.is in
          absurd (let both = sym (ap is_some at) ∙ there in cc)
    ]

pub returns : goal.returns
returns c =
    let lines = c.args.table.now in
    let count = c.args.count in
    let i = c.loop-place.place-index in
    let n = ap length c.loop-place.invariant.items in
    let none = none_is_left lines count i (λ within. omega (arith, within, n, c.loop-place-test.false)) in
    sym (ap (fold pointwise_after c.loop-place.standing) none) ∙ c.loop-place.invariant.state
