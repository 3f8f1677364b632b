-- Whatever a run on a folder answers, the folder holds an intermediate tree of it between any two changes that it asked for.
use Rattle.std.specs.Prelude.{◌≡◌, ℕ, zero, suc, ◌<◌, ◌^◌, ◌+◌, List, [], ◌∷◌, ◌++◌, take, Option, Some, IfSome}
use Rattle.std.proofs.Common.{refl, sym, ap, subst, ◌∙◌}
use Rattle.pv_path.specs.Paths.{Path}
use Rattle.pv_steps.specs.declared.step.Step.{Step}
use Rattle.pv_words.specs.declared.options.Options.{Options}
use Rattle.pv_folder.specs.Content.{Change, Content, IsContent, held}
use Rattle.pv_folder.specs.Folders.{tree_path}
use Rattle.pv_folder.specs.Made.{all_changed}
use Rattle.pv_folder.specs.Manifest.{manifest_of}
use Rattle.pv_folder.specs.Moments.{CanBeDone, IsBetween, changes_of, closing}
use Rattle.pv_folder.specs.Opening.{IsOpened}
use Rattle.pv_folder.proofs.KeepingLaws.{opened_keeps}
use Rattle.pv_folder.proofs.MadeLaws.{can_along, can_one_more}
use Rattle.pv_folder.proofs.MomentLaws.{between as between_changes}
use Rattle.pv_folder.proofs.ReadyLaws.{ready_of}
use Rattle.provision_run.specs.declared.outcome.Outcome.{Outcome}
use Rattle.provision_run.specs.declared.outcome.Outcome.TheVariants.{Done, ConfigInvalid, NotCarriedOut, Usage, BadImage, NoFreeId, Memory, ReadFault, WriteFault, Stopped, BadFolder, FolderFailed}
use Rattle.provision_run.specs.OnFolder.{AreAsked, HasWrittenOn, HoldsAlways, HostState, IsShortOn, all_done, before_steps, between, in_run, one_step_more, unasked}
use Rattle.provision_run.specs.Whole.{run_way}
use Rattle.provision_run.specs.Words.{moment_of}
use Rattle.provision_run.proofs.FolderLaws.{short_answer}

-- ---- a prefix of a prefix

take_both : {A : Type 0} (n k : ℕ) (xs : List A) → (m : ℕ) × (take n (take k xs) ≡ take m xs)
take_both zero k xs = (0, refl)
take_both (suc n) zero xs = (0, refl)
take_both (suc n) (suc k) [] = (0, refl)
take_both (suc n) (suc k) (x ∷ xs) = let rest = take_both n k xs in (suc rest.0, ap (λ ys. x ∷ ys) rest.1)

take_end : {A : Type 0} (xs ys : List A) (k : ℕ) → (m : ℕ) × (xs ++ take k ys ≡ take m (xs ++ ys))
take_end [] ys k = (k, refl)
take_end (x ∷ xs) ys k = let rest = take_end xs ys k in (suc rest.0, ap (λ zs. x ∷ zs) rest.1)

-- the first changes of some, of which the last may be left out
part_of : {A : Type 0} (xs ys : List A) (k n : ℕ) → (m : ℕ) × (take n (xs ++ take k ys) ≡ take m (xs ++ ys))
part_of xs ys k n =
    let whole = take_end xs ys k in
    let part = take_both n whole.0 (xs ++ ys) in
    (part.0, ap (take n) whole.1 ∙ part.1)

-- ---- a run

module _ (folder : Path) (options : Options) (clock_micros : ℕ) (content : Content) (old new : HostState) (bound : moment_of options clock_micros < 2 ^ 64)
    (is_content : IsContent (held content)) (told : old.content ≡ Some content) where
  abbrev moment : ℕ
  moment = moment_of options clock_micros

  always_short : IsShortOn folder options clock_micros old new → HoldsAlways folder options clock_micros content old new
  always_short (before_steps same still) = unasked same still
  always_short (in_run facts tree left opened gone kept asked steps k made) =
      between facts tree left opened_here gone asked steps (changes_of (tree_path folder) tree asked moment ++ take k (closing folder (manifest_of facts left))) made at
    where
      opened_here : IsOpened folder content facts tree
      opened_here = subst (λ (o : Option Content). IfSome o (λ c. IsOpened folder c facts tree)) told opened.1

      by_steps : AreAsked tree moment gone.steps asked → CanBeDone tree asked moment
      by_steps (all_done is) = subst (λ (s : List Step). CanBeDone tree s moment) (sym is) (can_along (run_way options facts moment tree) tree gone.steps moment gone.way)
      by_steps (one_step_more s can fits is) =
          subst (λ (s : List Step). CanBeDone tree s moment) (sym is)
          (can_one_more tree gone.steps moment s (can_along (run_way options facts moment tree) tree gone.steps moment gone.way) can fits)

      at : (n : ℕ) → IsBetween folder tree asked moment (manifest_of facts left) (held content)
          (all_changed (take n (changes_of (tree_path folder) tree asked moment ++ take k (closing folder (manifest_of facts left)))) (held content))
      at n =
          let some = part_of (changes_of (tree_path folder) tree asked moment) (closing folder (manifest_of facts left)) k n in
          let keeps = opened_keeps folder content facts tree opened_here is_content in
          subst (λ (changes : List Change). IsBetween folder tree asked moment (manifest_of facts left) (held content) (all_changed changes (held content))) (sym some.1)
          (between_changes folder moment bound (manifest_of facts left) asked tree (held content) some.0 opened.0 (by_steps steps) keeps.agrees
          (ready_of (held content) is_content folder keeps.prepared))

  pub always : (found : Outcome) (before after : Option (List ℕ)) → HasWrittenOn folder options clock_micros old new found before after → HoldsAlways folder options clock_micros content old new
  unfolding HasWrittenOn
  always Done before after h = always_short (short_answer folder options clock_micros old new Done h.1.0 h.1.1.0)
  always ConfigInvalid before after h = always_short (short_answer folder options clock_micros old new ConfigInvalid h.1.0 h.1.1.0)
  always NotCarriedOut before after h = always_short (short_answer folder options clock_micros old new NotCarriedOut h.1.0 h.1.1.0)
  always Usage before after h = always_short (short_answer folder options clock_micros old new Usage h.1.0 h.1.1.0)
  always (BadImage f) before after h = always_short (short_answer folder options clock_micros old new (BadImage f) h.1.0 h.1.1.0)
  always (NoFreeId name) before after h = always_short (short_answer folder options clock_micros old new (NoFreeId name) h.1.0 h.1.1.0)
  always Memory before after h = always_short h.0
  always ReadFault before after h = absurd h
  always WriteFault before after h = always_short (short_answer folder options clock_micros old new h.0 h.2.0 h.2.1.0)
  always (Stopped n) before after h = always_short (short_answer folder options clock_micros old new (Stopped n) h.1.0 h.1.1.0)
  always (BadFolder f) before after h = always_short (short_answer folder options clock_micros old new (BadFolder f) h.1.0 h.1.1.0)
  always FolderFailed before after h = always_short (short_answer folder options clock_micros old new FolderFailed h.1.0 h.1.1.0)
