use Rattle.std.proofs.Common.{◌≡◌, ℕ, ◌+◌, ◌*◌, ◌<◌, length, Option, Some, option_map, subst, sym, ap, ◌∙◌}
use Rattle.std.specs.Prelude.{IfSome}
use Rattle.pv_glob.specs.declared.moves.Move.{Move}
use Rattle.pv_glob.specs.Pairs.{target}
use Rattle.pv_glob.proofs.Runs.{Running, running_longer, running_fresh, running_same}
use Rattle.pv_glob.proofs.pair.add_runs.Goals as goal
use Rattle.pv_glob.proofs.pair.add_runs.Goals.{in-Some, in-None+in_ok-end_run-in-None}

pub loop-low-preserved : goal.loop-low-preserved
loop-low-preserved c =
    let a = c.args.components.left.now in let b = c.args.components.right.now in
    let t = target a b c.args.spot.begun c.args.spot.left c.args.spot.right in
    let places = 7 * ((length a + 1) * (length b + 1)) in
    let low = c.loop-low.low in let high = c.last_alike-high.result in
    let inv = c.loop-low.invariant in
    let below : (to : ℕ) → t low ≡ Some to → to < places = λ to e. subst (λ (o : Option ℕ). IfSome o (λ to. to < places)) (c.target-to.ensures.value ∙ e) c.target-to.ensures.inside in
    let alike = c.last_alike-high.ensures.alike in
    let later = c.last_alike-high.ensures.later in
    subst (λ (m : ℕ). Running t places (m + 1) c.args.moves.now c.match-with_bytes.moves c.match-with_bytes.run) (sym c.from-low.ensures)
    (elim c.match-with_bytes.branch [
      | in-Some w ↦ (
          let longer = w.in-Some.ensures.longer in
          let was = subst (λ (r : Option Move). Running t places low c.args.moves.now c.loop-low.moves r) longer.1 inv in
          running_same t places (high + 1) c.args.moves.now c.loop-low.moves c.match-with_bytes.moves _ c.match-with_bytes.run w.moves-is (w.run-is ∙ ap Some longer.3)
          (running_longer t places low high later c.args.moves.now c.loop-low.moves longer.0 was (λ n l h. alike n l h ∙ sym c.target-to.ensures.value ∙ longer.2)))
      | in-None+in_ok-end_run-in-None w ↦
          running_same t places (high + 1) c.args.moves.now _ c.match-with_bytes.moves _ c.match-with_bytes.run (w.moves-is ∙ w.in_ok-end_run-in-None.ensures) (w.run-is ∙ w.run_of-run.ensures ∙ ap (λ (o : Option ℕ). option_map (λ to. record { low = low; high = high; to = to }) o) c.target-to.ensures.value)
          (running_fresh t places low high later c.args.moves.now c.loop-low.moves c.loop-low.run inv alike below)
    ])
