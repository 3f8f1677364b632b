use Rattle.std.proofs.Common.{ℕ, List, get_or, arith, rules, ap, ◌∙◌}
use Rattle.std.proofs.lemmas.List.{take_more}
use Rattle.pv_glob.specs.declared.moves.Move.{Move}
use Rattle.pv_glob.specs.Search.{noted}
use Rattle.pv_glob.proofs.Noting.{noted_idle, noted_move, noted_same}
use Rattle.pv_glob.proofs.search.note_moves.Goals as goal
use Rattle.pv_glob.proofs.search.note_moves.Goals.{then-step+in_ok-further+in_ok-note, else-step}

pub loop-step-preserved : goal.loop-step-preserved
loop-step-preserved c =
    let d : Move = record { low = 0; high = 0; to = 0 } in
    let move : Move = get_or c.args.moves.now c.loop-step.step-index d in
    let one = take_more c.args.moves.now c.loop-step.step-index d (search rules) in
    elim c.if-step.branch [
      | then-step+in_ok-further+in_ok-note w ↦ (
          let found = c.loop-step.found.items in
          let first = w.first_rank.ensures.found in
          noted_same _ _ _ _ _ _ _ _ _ one
          (ap (λ v. v.items) w.found-is ∙ w.in_ok-note.ensures.found ∙ ap (λ (x : List ℕ). noted found move.to x) w.in_ok-further.ensures)
          (ap (λ v. v.items) w.next-is ∙ w.in_ok-note.ensures.next)
          (noted_move _ _ _ _ move _ _ c.loop-step.invariant w.first_rank.result first.0 (omega (arith, first.2)) first.1 first.2 first.3 w.first_rank.ensures.first (search rules)))
      | else-step w ↦
          noted_same _ _ _ _ _ _ _ _ _ one (ap (λ v. v.items) w.found-is) (ap (λ v. v.items) w.next-is)
          (noted_idle _ _ _ _ move _ _ c.loop-step.invariant (omega (arith, w.if-step.false)))
    ]
