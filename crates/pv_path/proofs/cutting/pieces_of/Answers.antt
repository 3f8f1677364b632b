use Rattle.std.proofs.Common.{◌≡◌, List, [], ◌++◌, map, Option, subst, ap, ◌∙◌, rules, tests}
use Rattle.std.specs.Iterator.{Drains}
use Rattle.std.proofs.lemmas.Iterator.{YieldsList, items_from_drains}
use Rattle.std.proofs.lemmas.Iterator.Splits.{YieldsList-from_slice_split}
use Rattle.pv_path.proofs.cutting.pieces_of.Goals as goal

-- a list that was empty is extended by all that an iterator gives
map_from_extend : {S A B : Type 0} {steps : S → Option A → S → Type 0} {v : A → B} {s : S} {all : List B} (old new : List A) → old ≡ [] → (it : S) (xs : List A)
    → it ≡ s → new ≡ old ++ xs → Drains steps it xs → YieldsList steps v s all → map v new ≡ all
map_from_extend {S} {A} {B} {steps} {v} {s} {all} old new none it xs is grown ran given =
    let drained : Drains steps s xs = subst (λ (i : S). Drains steps i xs) is ran in
    ap (map v) (grown ∙ ap (λ (o : List A). o ++ xs) none) ∙ items_from_drains xs (drained.1.0, drained.1.1, λ _. (drained.0, drained.1.2)) given

pub returns : goal.returns
returns c =
    let ran = c.in_ok-extend.ensures.ran in
    map_from_extend c.in_ok-pieces.pieces.items c.extend.new.self.items c.in_ok-pieces.ensures.items ran.0 ran.1 ran.2 ran.3.0 ran.4
    (YieldsList-from_slice_split _ _ c.args.text.now c.split.ensures.rest c.split.ensures.done c.split.ensures.closure (λ x r q k. search (rules, tests)))
