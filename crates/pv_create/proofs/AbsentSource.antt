-- Laws of a line that finds nothing to copy: preparing its path may put a parent there, but then nothing stands at the path,
-- and so there is nothing to say.
use Rattle.std.specs.Prelude.{◌≡◌, ℕ, zero, suc, ◌+◌, ◌<◌, true, false, List, [], ◌∷◌, length, take, get_or, Option, Some, None, is_some}
use Rattle.std.proofs.Common.{refl, sym, ap, subst, ◌∙◌, inl, inr, ◌⊎◌, arith}
use Rattle.std.proofs.lemmas.List.FromFn.{get_or-map-range_with_len, length-map-range_with_len}
use Rattle.pv_path.specs.Paths.{Path, parent_of, same_path}
use Rattle.pv_path.proofs.PathLaws.{length-parent_of}
use Rattle.pv_steps.specs.declared.object.Object.{Object}
use Rattle.pv_steps.specs.Trees.{Files, places, IsTree}
use Rattle.pv_steps.proofs.StepLaws.{is_among}
use Rattle.pv_walk.proofs.EditLaws.{path_cases}
use Rattle.pv_walk.specs.Preparing.{IsAbove, parents_of}
use Rattle.pv_walk.proofs.PreparedLaws.{among_others, prepared_present}
use Rattle.pv_walk.proofs.PreparingLaws.{above_take, take_parent}
use Rattle.pv_walk.proofs.PuttingLaws.{none_under}
use Rattle.pv_table.specs.declared.action.Copying.{Copying}
use Rattle.pv_table.specs.declared.action.Action.TheVariants.{Copy}
use Rattle.pv_table.specs.Effects.{prepare}
use Rattle.pv_table.specs.Saying.{turn_texts}
use Rattle.pv_table.specs.Turns.{decide, view_of}
use Rattle.pv_table.proofs.EffectLaws.{place-prepare}

-- ---- the parents of a path

-- a path among others is one of them
among_at : (q d : Path) (ps : List Path) → is_among q ps ≡ true → (i : ℕ) × ((i < length ps) × (get_or ps i d ≡ q))
among_at q d [] h = absurd (let no : false ≡ true = h in cc)
among_at q d (p ∷ ps) h = by (among_at q d ps) (path_cases p q)
  where
    by : (is_among q ps ≡ true → (i : ℕ) × ((i < length ps) × (get_or ps i d ≡ q))) → (p ≡ q) ⊎ (same_path p q ≡ false)
        → (i : ℕ) × ((i < length (p ∷ ps)) × (get_or (p ∷ ps) i d ≡ q))
    by later (inl e) = (zero, (omega arith, e))
    by later (inr other) =
        let found = later (among_others q p ps other h) in
        (suc found.0, (let lt = found.1.0 in omega (arith, lt), found.1.1))

above_parent : (path q : Path) → is_among q (parents_of path) ≡ true → IsAbove q path
above_parent path q h =
    let parent = parent_of path in
    let found = among_at q [] (parents_of path) h in
    let within : found.0 < length parent = (let lt = found.1.0 in omega (arith, lt, length-map-range_with_len (λ k. take k parent) 1 (length parent))) in
    let lt : found.0 + 1 < length path = omega (arith, within, length-parent_of path) in
    let is : take (found.0 + 1) path ≡ q = sym (get_or-map-range_with_len (λ k. take k parent) 1 (length parent) found.0 (found.0 + 1) [] within (omega arith) ∙ take_parent (found.0 + 1) path lt) ∙ found.1.1 in
    subst (λ (p : Path). IsAbove p path) is (above_take (found.0 + 1) path lt)

-- ---- a path that is prepared

none_of : {A : Type 0} (o : Option A) → (is_some o ≡ true → false ≡ true) → o ≡ None
none_of None h = refl
none_of (Some x) h = absurd (let no : false ≡ true = h refl in cc)

module _ (now : ℕ) (path : Path) (t : Files) where
  above_or_there : (q : Path) → is_some (places (prepare now path t) q) ≡ true → (IsAbove q path) ⊎ (is_some (places t q) ≡ true)
  above_or_there q h = by (prepared_present now path (places t) q (sym (ap is_some (place-prepare now path t q)) ∙ h))
    where
      by : (is_among q (parents_of path) ≡ true) ⊎ (is_some (places t q) ≡ true) → (IsAbove q path) ⊎ (is_some (places t q) ≡ true)
      by (inl e) = inl (above_parent path q e)
      by (inr e) = inr e

  module _ (tree : IsTree t) (source : Path) (nothing : is_some (places t source) ≡ false) where
    -- where a parent is put at the source, nothing stands at the path
    none_there : is_some (places (prepare now path t) source) ≡ true → places (prepare now path t) path ≡ None
    none_there h = none_of (places (prepare now path t) path) (λ there. by (above_or_there source h) (above_or_there path there))
      where
        by : (IsAbove source path) ⊎ (is_some (places t source) ≡ true) → (IsAbove path path) ⊎ (is_some (places t path) ≡ true) → false ≡ true
        by (inr e) there = sym nothing ∙ e
        by (inl above) (inl over) = absurd (over.1 refl)
        by (inl above) (inr e) =
            sym (ap is_some (none_under (places t) tree source path (none_of (places t source) (λ k. sym nothing ∙ k)) above.0)) ∙ e

-- nothing is said if there is nothing to copy
pub says_nothing : (now : ℕ) (path : Path) (copying : Copying) (t : Files) → IsTree t → is_some (places t copying.source) ≡ false
    → turn_texts path (decide (Copy copying) (view_of (prepare now path t)) path) ≡ []
says_nothing now path copying t tree nothing =
    by (prepare now path t) (places (prepare now path t) copying.source) refl (λ h. none_there now path t tree copying.source nothing h)
  where
    by : (u : Files) (o : Option Object) → places u copying.source ≡ o → (is_some (places u copying.source) ≡ true → places u path ≡ None) → turn_texts path (decide (Copy copying) (view_of u) path) ≡ []
    by u None e h = rw e refl
    by u (Some x) e h =
        let none : places u path ≡ None = h (ap is_some e) in
        rw (e, none) refl
