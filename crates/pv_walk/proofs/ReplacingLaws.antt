-- Laws of what makes way at a path: what one Rename can replace does not.
use Rattle.std.specs.Prelude.{◌≡◌, true, [], ◌∷◌, ◌++◌, Option, Some, None, option_map}
use Rattle.std.proofs.Common.{refl, sym, ap, ◌∙◌, inl, inr, append_assoc}
use Rattle.std.proofs.lemmas.Bool.{cases_Bool}
use Rattle.pv_path.specs.Paths.{Path, is_prefix, staging_of}
use Rattle.pv_steps.specs.declared.node.Kind.TheVariants.{Directory}
use Rattle.pv_steps.specs.declared.object.Object.{Object}
use Rattle.pv_steps.specs.Objects.{object_state}
use Rattle.pv_steps.specs.Same.{object_states}
use Rattle.pv_steps.specs.Steps.{IsOther, Yields, absent, objects, directories}
use Rattle.pv_steps.specs.Trees.{Files, Places, places, kind_of, IsKindIn, IsEmptyIn, IsKind, IsPresent, IsTree}
use Rattle.pv_steps.proofs.ObjectLaws.{is_some-same}
use Rattle.pv_steps.proofs.TreeLaws.{not_absent}
use Rattle.pv_walk.specs.Edits.{Pruned}
use Rattle.pv_walk.specs.Removal.{is_below, Clearing}
use Rattle.pv_walk.proofs.PuttingLaws.{none_below}
use Rattle.pv_walk.proofs.RemovalLaws.{below_parts, not_below_itself}
use Rattle.pv_walk.proofs.SweepLaws.{below_prefix, pruned-none, pruned-wider}

-- ---- timestamps aside

kind_object_state : (o : Option Object) → kind_of (option_map object_state o) ≡ kind_of o
kind_object_state None = refl
kind_object_state (Some x) = refl

pub kind_same : (a b : Option Object) → option_map object_state a ≡ option_map object_state b → kind_of a ≡ kind_of b
kind_same a b e = sym (kind_object_state a) ∙ ap kind_of e ∙ kind_object_state b

absent_same : (a b : Option Object) → option_map object_state a ≡ option_map object_state b → a ≡ None → b ≡ None
absent_same a None e none = refl
absent_same a (Some y) e none = absurd (let no : None ≡ Some (object_state y) = sym (ap (option_map object_state) none) ∙ e in cc)

-- what stands the same yields the same
module _ (x y : Places) (same : (q : Path) → object_states x q ≡ object_states y q) (from to : Path) where
  other_same : (p : Path) → IsOther Directory x p → IsOther Directory y p
  other_same p h = (sym (is_some-same (x p) (y p) (same p)) ∙ h.0, λ e. h.1 (kind_same (x p) (y p) (same p) ∙ e))

  kind_at : (p : Path) → IsKindIn Directory x p → IsKindIn Directory y p
  kind_at p h = sym (kind_same (x p) (y p) (same p)) ∙ h

  pub yields_same : Yields x from to → Yields y from to
  yields_same (absent h) = absent (absent_same (x to) (y to) (same to) h)
  yields_same (objects f g) = objects (other_same from f) (other_same to g)
  yields_same (directories f g empty) = directories (kind_at from f) (kind_at to g) (λ n. absent_same (x (to ++ n ∷ [])) (y (to ++ n ∷ [])) (same (to ++ n ∷ [])) (empty n))

-- ---- what makes way

module _ (path : Path) (t : Files) where
  pub clearing_none : Clearing path t t
  clearing_none = record { pruned = pruned-none (is_prefix path) t; stays = λ x y. refl; needed = λ y q. refl }

  -- below an empty directory there is nothing that could go
  nothing_goes : IsTree t → IsEmptyIn (places t) path → (u : Files) → Pruned (is_below path) t u → (q : Path) → object_states (places u) q ≡ object_states (places t) q
  nothing_goes tree empty u p q = elim (cases_Bool (is_below path q)) [
    | inl e ↦ elim (p.within q e) [
      | inl gone ↦ ap (option_map object_state) (gone ∙ sym (none e))
      | inr same ↦ same
    ]
    | inr e ↦ p.outside q e
  ]
    where
      none : is_below path q ≡ true → places t q ≡ None
      none e =
          let parts = below_parts path q e in
          ap (places t) (parts.2 ∙ sym (append_assoc path (parts.0 ∷ []) parts.1)) ∙ none_below (places t) tree (path ++ parts.0 ∷ []) parts.1 (empty parts.0)

  -- all below a directory, in the place of which a directory comes
  pub clearing_below : IsTree t → IsKind Directory t path → (u : Files) → Pruned (is_below path) t u → Clearing path t u
  clearing_below tree here u p = record { pruned = pruned-wider (is_below path) (is_prefix path) (below_prefix path) t u p; stays = λ x y. p.outside path (not_below_itself path); needed = by }
    where
      by : Yields (places t) (staging_of path) path → (q : Path) → object_states (places u) q ≡ object_states (places t) q
      by (absent h) = absurd (let no : None ≡ Some Directory = sym (ap kind_of h) ∙ here in cc)
      by (objects f g) = absurd (g.1 here)
      by (directories f g empty) = nothing_goes tree empty u p

  -- all at and below a path, where a directory comes in the place of another object, or the other way round
  pub clearing_taken : IsPresent t path → (IsKind Directory t (staging_of path) → IsKind Directory t path → ⊥) → ((IsKind Directory t (staging_of path) → ⊥) → (IsKind Directory t path → ⊥) → ⊥)
      → (u : Files) → Pruned (is_prefix path) t u → Clearing path t u
  clearing_taken present both neither u p = record { pruned = p; stays = λ x y. absurd (both x y); needed = by }
    where
      by : Yields (places t) (staging_of path) path → (q : Path) → object_states (places u) q ≡ object_states (places t) q
      by (absent h) = absurd (not_absent (places t) path present h)
      by (objects f g) = absurd (neither f.1 g.1)
      by (directories f g empty) = absurd (both f g)
