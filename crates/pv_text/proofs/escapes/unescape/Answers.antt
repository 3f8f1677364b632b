use Rattle.std.proofs.Common.{ℕ, List, [], ◌∷◌, ◌++◌, append_assoc, sym, ap, ◌∙◌}
use Rattle.pv_text.specs.Escapes.{unescaped}
use Rattle.pv_text.proofs.EscapeLaws.{after_unit, undone_turn}
use Rattle.pv_text.proofs.escapes.unescape.Goals as goal

pub loop-rest-preserved : goal.loop-rest-preserved
loop-rest-preserved c =
    let turn = undone_turn c.loop-rest.rest.now c.in-Some.byte c.in-Some.taken c.in-len1-up.len_at_least c.loop-rest.invariant.0 (sym c.in-Some.ensures.value) in
    let left = unescaped (after_unit c.in-Some.taken c.loop-rest.rest.now) in (
      turn.0,
      ap (λ (a : List ℕ). a ++ left) c.in_ok-push.ensures.items
          ∙ append_assoc c.loop-rest.text.items (c.in-Some.byte ∷ []) left
          ∙ ap (λ (a : List ℕ). c.loop-rest.text.items ++ a) (sym turn.1)
          ∙ c.loop-rest.invariant.1,
    )
