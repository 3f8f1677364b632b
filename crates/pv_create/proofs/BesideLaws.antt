-- Paths below a folder that have a staging name, and steps at places outside of the folder: these bring, take away and
-- rewrite nothing there.
use Rattle.std.specs.Prelude.{◌≡◌, ◌≢◌, ◌⊎◌, ℕ, zero, suc, ◌+◌, ◌≤◌, Bool, true, false, ◌||◌, [], ◌++◌, length, map, take}
use Rattle.std.proofs.Common.{refl, sym, ap, subst, ◌∙◌, inl, inr, arith, append-nil}
use Rattle.std.specs.List.{list_any, range_with_len}
use Rattle.pv_path.specs.Paths.{Path, same_path, is_prefix, has_staging, parent_of, staging_of, same_path-decides}
use Rattle.pv_path.proofs.PathLaws.{is_prefix-append, is_prefix-trans, is_prefix-parent_of, parent_of-is_prefix, parent_of-staging_of, prefixes_compare, has_staging-extends, has_staging-staging_of, is_prefix-take}
use Rattle.pv_steps.specs.declared.step.Step.{Step}
use Rattle.pv_steps.specs.declared.step.Step.TheVariants.{MakeDir, MakeFile, MakeFifo, MakeDevice, MakeLink, Write, SetMode, SetOwner, SetAcl, SetAttrs, SetLetters, Rename, Unlink, RemoveDir}
use Rattle.pv_steps.specs.Content.{alters}
use Rattle.pv_steps.proofs.ContentLaws.{removal_inside}
use Rattle.pv_walk.specs.declared.object_state.ObjectState.{ObjectState}
use Rattle.pv_walk.specs.declared.new_file.NewFile.{NewFile}
use Rattle.pv_walk.specs.Copying.{GivesObjectState}
use Rattle.pv_walk.specs.Staging.{staging_names, is_under_any, GivesNew, IsPublishing}
use Rattle.pv_walk.proofs.PreparingLaws.{nonempty_take}
use Rattle.pv_path.proofs.Tests.{true_not_false}

-- a folder without a staging name, and a path at or below it that has one
module _ (f q : Path) (plain : has_staging f ≡ false) (under : is_prefix f q ≡ true) (staged : has_staging q ≡ true) where
  -- a path without a staging name is another
  pub other_plain : (p : Path) → has_staging p ≡ false → same_path p q ≡ false
  other_plain p h = by (same_path p q) refl
    where
      by : (b : Bool) → same_path p q ≡ b → b ≡ false
      by true e = absurd (true_not_false (has_staging q) staged (ap has_staging (sym ((same_path-decides p q).0 e)) ∙ h))
      by false e = refl

  -- a place that lies neither above the folder nor in it
  pub place_outside : (place : Path) → is_prefix f place ≡ false → (is_prefix place f ≡ true → ⊥) → is_prefix place q ≡ false
  place_outside place out high = by (is_prefix place q) refl
    where
      inside : (is_prefix place f ≡ true) ⊎ (is_prefix f place ≡ true) → ⊥
      inside (inl above) = high above
      inside (inr below) = true_not_false (is_prefix f place) below out

      by : (b : Bool) → is_prefix place q ≡ b → b ≡ false
      by true e = absurd (inside (prefixes_compare place f q e under))
      by false e = refl

  -- a place that does not lie in the folder
  module _ (place : Path) (some : place ≢ []) (out : is_prefix f place ≡ false) where
    pub stage_outside : is_prefix (staging_of place) q ≡ false
    stage_outside = by (is_prefix (staging_of place) q) refl
      where
        differ : f ≢ staging_of place
        differ e = true_not_false (has_staging f) (ap has_staging e ∙ has_staging-staging_of place some) plain

        inside : (is_prefix (staging_of place) f ≡ true) ⊎ (is_prefix f (staging_of place) ≡ true) → ⊥
        inside (inl high) = true_not_false (has_staging f) (has_staging-extends (staging_of place) f high (has_staging-staging_of place some)) plain
        inside (inr low) = true_not_false (is_prefix f place)
            (is_prefix-trans f (parent_of place) place (subst (λ (p : Path). is_prefix f p ≡ true) (parent_of-staging_of place) (is_prefix-parent_of f (staging_of place) low differ)) (parent_of-is_prefix place))
            out

        by : (b : Bool) → is_prefix (staging_of place) q ≡ b → b ≡ false
        by true e = absurd (inside (prefixes_compare (staging_of place) f q e under))
        by false e = refl

    at_stage : (rest : Path) → same_path (staging_of place ++ rest) q ≡ false
    at_stage rest = by (same_path (staging_of place ++ rest) q) refl
      where
        by : (b : Bool) → same_path (staging_of place ++ rest) q ≡ b → b ≡ false
        by true e = absurd (true_not_false (is_prefix (staging_of place) q)
            (subst (λ (r : Path). is_prefix (staging_of place) r ≡ true) ((same_path-decides (staging_of place ++ rest) q).0 e) (is_prefix-append (staging_of place) rest)) stage_outside)
        by false e = refl

    at_own : (at : Path) → at ≡ staging_of place → same_path at q ≡ false
    at_own at e = ap (λ (p : Path). same_path p q) (e ∙ sym (append-nil (staging_of place))) ∙ at_stage []

    -- a step at its staging name
    pub new_outside : (file : NewFile) (step : Step) → GivesNew (staging_of place) file step → alters step q ≡ false
    new_outside file (Write at content) h = at_own at h.0
    new_outside file (MakeLink at target) h = at_own at h.0
    new_outside file (SetOwner at uid gid) h = refl
    new_outside file (SetMode at mode) h = refl
    new_outside file (MakeDir at) h = at_own at h.0
    new_outside file (MakeFile at) h = at_own at h.0
    new_outside file (MakeFifo at) h = at_own at h.0
    new_outside file (MakeDevice at block major minor) h = at_own at h.0
    new_outside file step h = absurd h

    below_own : (rest at : Path) → at ≡ staging_of place ++ rest → same_path at q ≡ false
    below_own rest at e = ap (λ (p : Path). same_path p q) e ∙ at_stage rest

    -- or below it
    pub object_state_outside : (rest : Path) (b : ObjectState) (step : Step) → GivesObjectState (staging_of place ++ rest) b step → alters step q ≡ false
    object_state_outside rest b (Write at content) h = below_own rest at h.0
    object_state_outside rest b (MakeLink at target) h = below_own rest at h.0
    object_state_outside rest b (SetOwner at uid gid) h = refl
    object_state_outside rest b (SetMode at mode) h = refl
    object_state_outside rest b (SetAcl at acl) h = refl
    object_state_outside rest b (SetAttrs at attrs) h = refl
    object_state_outside rest b (SetLetters at letters) h = refl
    object_state_outside rest b (MakeDir at) h = below_own rest at h.0
    object_state_outside rest b (MakeFile at) h = below_own rest at h.0
    object_state_outside rest b (MakeFifo at) h = below_own rest at h.0
    object_state_outside rest b (MakeDevice at block major minor) h = below_own rest at h.0
    object_state_outside rest b step h = absurd h

    -- or one that publishes the place
    pub published_outside : is_prefix place q ≡ false → (step : Step) → IsPublishing place step → alters step q ≡ false
    published_outside off (Unlink at) h = removal_inside (is_prefix place) (Unlink at) q h off
    published_outside off (RemoveDir at) h = removal_inside (is_prefix place) (RemoveDir at) q h off
    published_outside off (Rename from to) h =
        ap (λ (p : Path). is_prefix p q || is_prefix to q) h.0
        ∙ ap (λ b. b || is_prefix to q) stage_outside
        ∙ ap (λ (p : Path). is_prefix p q) h.1 ∙ off
    published_outside off step h = absurd h

  -- the places along a path that does not lie in the folder
  module _ (path : Path) (out : is_prefix f path ≡ false) where
    pub out_above : (place : Path) → is_prefix place path ≡ true → is_prefix f place ≡ false
    out_above place high = by (is_prefix f place) refl
      where
        by : (b : Bool) → is_prefix f place ≡ b → b ≡ false
        by true e = absurd (true_not_false (is_prefix f path) (is_prefix-trans f place path e high) out)
        by false e = refl

    none_swept : (k n : ℕ) → 1 ≤ k → k + n ≤ length path + 1 → list_any (λ p. is_prefix p q) (map staging_of (map (λ j. take j path) (range_with_len k n))) ≡ false
    none_swept k zero some le = refl
    none_swept k (suc n) some le =
        ap (λ b. b || list_any (λ p. is_prefix p q) (map staging_of (map (λ j. take j path) (range_with_len (k + 1) n))))
        (stage_outside (take k path) (nonempty_take k path some (omega arith)) (out_above (take k path) (is_prefix-take k path)))
        ∙ none_swept (k + 1) n (omega arith) (omega arith)

    pub swept_outside : is_under_any (staging_names path) q ≡ false
    swept_outside = none_swept 1 (length path) (omega arith) (omega arith)
