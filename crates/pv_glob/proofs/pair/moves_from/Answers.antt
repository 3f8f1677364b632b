-- The moves of one more element of the left component.
use Rattle.std.proofs.Common.{◌≡◌, ◌<◌, ◌+◌, ◌++◌, ◌∷◌, [], ℕ, List, length, get_or, take, refl, subst, ◌∙◌, append-nil}
use Rattle.std.specs.List.{flat_map}
use Rattle.std.specs.Option.{option_to_list}
use Rattle.std.proofs.lemmas.List.{take_more, take_all}
use Rattle.std.proofs.lemmas.List.Concat.{flat_map-append}
use Rattle.pv_glob.specs.Machines.{targets}
use Rattle.pv_glob.specs.Pairs.{target, takers}
use Rattle.pv_glob.proofs.pair.moves_from.Goals as goal

one_more : (f : ℕ → List ℕ) (xs : List ℕ) (i d : ℕ) (old new : List ℕ) → i < length xs → old ≡ flat_map f (take i xs) → new ≡ old ++ f (get_or xs i d) → new ≡ flat_map f (take (i + 1) xs)
one_more f xs i d old new below before more =
    let last : flat_map f (get_or xs i d ∷ []) ≡ f (get_or xs i d) = append-nil (f (get_or xs i d)) in
    rw (take_more xs i d below, flat_map-append, last, more, before) refl

pub loop-left-preserved : goal.loop-left-preserved
loop-left-preserved c =
    let spot = c.args.spot in
    let each = λ (byte i : ℕ) (js : List ℕ). flat_map (λ j. option_to_list (target c.args.components.left.now c.args.components.right.now spot.begun i j byte)) js in
    let rights = c.as_slice.ensures.value ∙ c.in_ok-rights.ensures.value in
    let items = c.deref-left-items.result.now in
    let old = c.loop-left.moves in
    let new = c.add_moves.new.moves in
    record {
      stated = λ byte.
          one_more (λ i. each byte i (takers c.args.components.right.now spot.right)) items c.loop-left.left-index 0 (targets old byte) (targets new byte) c.loop-left-test.true (c.loop-left.invariant.stated byte)
          (subst (λ (js : List ℕ). targets new byte ≡ targets old byte ++ each byte (get_or items c.loop-left.left-index 0) js) rights (c.in_ok-add_moves.ensures.moves byte));
      inside = c.in_ok-add_moves.ensures.inside c.loop-left.invariant.inside;
    }

pub returns-clause-moves : goal.returns-clause-moves
returns-clause-moves c byte =
    let spot = c.args.spot in
    let items = c.deref-left-items.result.now in
    let lefts = take_all c.loop-left.left-index items c.loop-left-test.false ∙ (c.deref-left-items.ensures.value ∙ c.in_ok-lefts.ensures.value) in
    subst (λ (xs : List ℕ). targets c.loop-left.moves byte ≡ flat_map (λ i. flat_map (λ j. option_to_list (target c.args.components.left.now c.args.components.right.now spot.begun i j byte)) (takers c.args.components.right.now spot.right)) xs) lefts (c.loop-left.invariant.stated byte)
