use Rattle.std.proofs.Common.{ℕ, List, ◌∷◌, ◌++◌, [], take, get_or, Option, rules, subst, sym, ◌∙◌}
use Rattle.std.proofs.lemmas.List.{take_more, take_all}
use Rattle.std.proofs.lemmas.List.Elements.{Contains-get_or}
use Rattle.pv_glob.specs.Search.{FirstEnd}
use Rattle.pv_glob.proofs.Levels.{place_inside, place_found, end_passed, end_later, end_first}
use Rattle.pv_glob.proofs.search.first_end.Goals as goal
use Rattle.pv_glob.proofs.search.first_end.Goals.{then-end+in_ok-word+then-is_earlier, then-end+in_ok-word+else-is_earlier, else-end}

pub end-requires : goal.end-requires
end-requires g c = (place_inside _ _ _ c.requires _ (Contains-get_or c.args.level.now c.loop-place.place-index 0 c.loop-place-test.true)).0

pub word_to-requires-clause-inside : goal.word_to-requires-clause-inside
word_to-requires-clause-inside g c = (place_inside _ _ _ c.requires _ (Contains-get_or c.args.level.now c.loop-place.place-index 0 c.loop-place-test.true)).1

pub word_to-requires-clause-found : goal.word_to-requires-clause-found
word_to-requires-clause-found g c = place_found _ _ _ c.requires _ (Contains-get_or c.args.level.now c.loop-place.place-index 0 c.loop-place-test.true)

pub loop-place-preserved : goal.loop-place-preserved
loop-place-preserved g c =
    let at = get_or c.args.level.now c.loop-place.place-index 0 in
    let one = take_more c.args.level.now c.loop-place.place-index 0 c.loop-place-test.true in
    subst (λ (xs : List ℕ). FirstEnd (g.M.Moves.machine c.args.machine.now) c.args.found.now.items xs c.if-end.first) (sym one)
    (elim c.if-end.branch [
      | then-end+in_ok-word+then-is_earlier w ↦
          subst (λ (x : Option (List ℕ)). FirstEnd (g.M.Moves.machine c.args.machine.now) c.args.found.now.items (take c.loop-place.place-index c.args.level.now ++ at ∷ []) x) (sym w.first-is)
          (end_first (g.M.Moves.machine c.args.machine.now) c.args.found.now.items _ at w.in_ok-word.word (sym c.end.ensures ∙ w.if-end.true) w.in_ok-word.ensures _ c.loop-place.invariant (w.is_earlier.ensures.yes w.if-is_earlier.true))
      | then-end+in_ok-word+else-is_earlier w ↦ (
          let old = w.is_earlier.ensures.no w.if-is_earlier.false in
          let was = subst (λ (x : Option (List ℕ)). FirstEnd (g.M.Moves.machine c.args.machine.now) c.args.found.now.items (take c.loop-place.place-index c.args.level.now) x) old.1 c.loop-place.invariant in
          subst (λ (x : Option (List ℕ)). FirstEnd (g.M.Moves.machine c.args.machine.now) c.args.found.now.items (take c.loop-place.place-index c.args.level.now ++ at ∷ []) x) (sym old.1 ∙ sym w.first-is)
          (end_later (g.M.Moves.machine c.args.machine.now) c.args.found.now.items _ at w.in_ok-word.word (sym c.end.ensures ∙ w.if-end.true) w.in_ok-word.ensures old.0 was old.2))
      | else-end w ↦ subst (λ (x : Option (List ℕ)). FirstEnd (g.M.Moves.machine c.args.machine.now) c.args.found.now.items (take c.loop-place.place-index c.args.level.now ++ at ∷ []) x) (sym w.first-is)
          (end_passed (g.M.Moves.machine c.args.machine.now) c.args.found.now.items _ at _ c.loop-place.invariant (sym c.end.ensures ∙ w.if-end.false))
    ])

pub returns : goal.returns
returns g c =
    let whole = take_all c.loop-place.place-index c.args.level.now (search rules) in
    subst (λ (xs : List ℕ). FirstEnd (g.M.Moves.machine c.args.machine.now) c.args.found.now.items xs c.loop-place.first) whole c.loop-place.invariant
