-- A run of systemd-sysusers leaves presence, kind and payload of what its lines are read from, staging names included: where
-- a folder of these is there, no step of the run brings, takes away or rewrites anything below it; if it is absent it
-- stays so, and all below it.
use Rattle.std.specs.Prelude.{◌≡◌, ◌≢◌, ℕ, Bool, true, false, ◌||◌, List, [], ◌∷◌, map, Option, Some, None, is_some, option_map}
use Rattle.std.proofs.Common.{refl, sym, ap, subst, ◌∙◌, inl, inr}
use Rattle.std.specs.List.{AllByRecursion}
use Rattle.pv_path.specs.Paths.{Path, has_staging, is_prefix, same_path, same_path-decides, staging_of}
use Rattle.pv_path.proofs.PathLaws.{is_prefix-refl, prefix_parts}
use Rattle.pv_text.specs.declared.tool.Tool.TheVariants.{Sysusers}
use Rattle.pv_layers.specs.Folders.{folders}
use Rattle.pv_layers.specs.Inputs.{is_within}
use Rattle.pv_read_config.specs.Inputs.{is_request_input}
use Rattle.pv_steps.specs.declared.object.Object.{Object}
use Rattle.pv_steps.specs.declared.step.Step.{Step}
use Rattle.pv_steps.specs.declared.step.Step.TheVariants.{MakeDir, MakeFile, MakeFifo, MakeDevice, MakeLink, Write, SetMode, SetOwner, SetAcl, SetAttrs, SetLetters, SetStamps, Rename, Unlink, RemoveDir}
use Rattle.pv_steps.specs.Content.{content_of, alters}
use Rattle.pv_steps.specs.Objects.{object_state}
use Rattle.pv_steps.specs.Runs.{after_all}
use Rattle.pv_steps.specs.Trees.{Files, places, IsAbsentIn, IsTree}
use Rattle.pv_steps.proofs.ContentLaws.{content-after_all, removal_inside}
use Rattle.pv_steps.proofs.TreeLaws.{present_above}
use Rattle.pv_table.proofs.ListedLaws.{all_map}
use Rattle.pv_walk.specs.Preparing.{parent_file}
use Rattle.pv_walk.specs.Putting.{IsPutStep}
use Rattle.pv_walk.specs.Removal.{is_one_of}
use Rattle.pv_walk.specs.Staging.{GivesNew, is_under_any}
use Rattle.pv_walk.proofs.RemovalLaws.{no_same}
use Rattle.pv_create.proofs.BesideLaws.{new_outside, place_outside, published_outside, stage_outside}
use Rattle.pv_sysusers.specs.declared.edit.Edit.{Edit}
use Rattle.pv_sysusers.specs.Edits.{IsOfSome, PublishesEdit, StagesEdit, new_file}
use Rattle.pv_layers.specs.Places.{etc}
use Rattle.pv_sysusers.specs.FileWriting.{AccountWay, IsAccountStep, IsEditOf, account_paths, swept_names}
use Rattle.pv_sysusers.proofs.BesideLaws.{way_beside}
use Rattle.pv_sysusers.proofs.SameLaws.{seen}
use Rattle.pv_path.proofs.Tests.{true_not_false}

-- ---- folders

-- a path without a staging name that is apart from another, and one that does not lie above another
abbrev IsApart : Path → Path → Type 0
IsApart f p = (is_prefix f p ≡ false) × (is_prefix p f ≡ false)

-- a folder that holds neither /etc nor an account file
record IsFolder (f : Path) : Type 0 where
  plain : has_staging f ≡ false
  above : is_prefix f etc ≡ false
  beside : AllByRecursion (IsApart f) account_paths

-- the folders of systemd-sysusers are such
are_folders : AllByRecursion IsFolder (folders Sysusers)
are_folders = (
  record { plain = refl; above = refl; beside = ((refl, refl), ((refl, refl), ((refl, refl), ((refl, refl), tt)))) },
  (
    record { plain = refl; above = refl; beside = ((refl, refl), ((refl, refl), ((refl, refl), ((refl, refl), tt)))) },
    (
      record { plain = refl; above = refl; beside = ((refl, refl), ((refl, refl), ((refl, refl), ((refl, refl), tt)))) },
      (record { plain = refl; above = refl; beside = ((refl, refl), ((refl, refl), ((refl, refl), ((refl, refl), tt)))) }, tt),
    ),
  ),
)

-- above each path within such folders lies one
folder_of : (fs : List Path) → AllByRecursion IsFolder fs → (q : Path) → is_within fs q ≡ true → (f : Path) × (IsFolder f × (is_prefix f q ≡ true))
folder_of [] all q is = absurd (let no : false ≡ true = is in cc)
folder_of (f ∷ fs) all q is = by (is_prefix f q) refl is (folder_of fs all.1 q)
  where
    by : (b : Bool) → is_prefix f q ≡ b → (b || is_within fs q) ≡ true → (is_within fs q ≡ true → (g : Path) × (IsFolder g × (is_prefix g q ≡ true))) → (g : Path) × (IsFolder g × (is_prefix g q ≡ true))
    by true e h rest = (f, (all.0, e))
    by false e h rest = rest h

-- what is apart from each of some paths is apart from each one of them
apart_of : (f : Path) (ps : List Path) → AllByRecursion (IsApart f) ps → (p : Path) → is_one_of ps p ≡ true → IsApart f p
apart_of f [] all p is = absurd (let no : false ≡ true = is in cc)
apart_of f (x ∷ ps) all p is = by (same_path x p) refl is (apart_of f ps all.1 p)
  where
    by : (b : Bool) → same_path x p ≡ b → (b || is_one_of ps p) ≡ true → (is_one_of ps p ≡ true → IsApart f p) → IsApart f p
    by true e h rest = subst (IsApart f) ((same_path-decides x p).0 e) all.0
    by false e h rest = rest h

-- what lies in a folder is none of the paths that do not
none_of : (f q : Path) → is_prefix f q ≡ true → (ps : List Path) → AllByRecursion (IsApart f) ps → is_one_of ps q ≡ false
none_of f q under [] all = refl
none_of f q under (p ∷ ps) all =
    ap (λ b. b || is_one_of ps q) (no_same p q (λ e. true_not_false (is_prefix f p) (ap (is_prefix f) e ∙ under) all.0.0))
    ∙ none_of f q under ps all.1

-- ---- steps

module _ (f q : Path) (folder : IsFolder f) (under : is_prefix f q ≡ true) (staged : has_staging q ≡ true) where
  -- nothing in the folder is swept
  none_under : (ps : List Path) → AllByRecursion (λ p. (p ≢ []) × (is_prefix f p ≡ false)) ps → is_under_any (map staging_of ps) q ≡ false
  none_under [] all = refl
  none_under (p ∷ ps) all =
      ap (λ b. b || is_under_any (map staging_of ps) q) (stage_outside f q folder.plain under staged p all.0.0 all.0.1) ∙ none_under ps all.1

  unswept : is_under_any swept_names q ≡ false
  unswept = none_under (etc ∷ account_paths)
      ((λ e. cc, folder.above), ((λ e. cc, folder.beside.0.0), ((λ e. cc, folder.beside.1.0.0), ((λ e. cc, folder.beside.1.1.0.0), ((λ e. cc, folder.beside.1.1.1.0.0), tt)))))

  -- nothing there is staged, nor makes way for what is published
  module _ (t : Files) (step : Step) where
    stages_outside : (edit : Edit) → IsEditOf (places t) edit → (s : Step) → StagesEdit edit s → alters s q ≡ false
    stages_outside edit of s g = by s g
      where
        new : (s : Step) → GivesNew (staging_of edit.path) (new_file edit) s → alters s q ≡ false
        new s h = new_outside f q folder.plain under staged edit.path of.is.root (apart_of f account_paths folder.beside edit.path of.listed).0 (new_file edit) s h

        by : (s : Step) → StagesEdit edit s → alters s q ≡ false
        by (MakeDir at) h = new (MakeDir at) h
        by (MakeFile at) h = new (MakeFile at) h
        by (MakeFifo at) h = new (MakeFifo at) h
        by (MakeDevice at block major minor) h = new (MakeDevice at block major minor) h
        by (MakeLink at target) h = new (MakeLink at target) h
        by (Write at content) h = new (Write at content) h
        by (SetMode at mode) h = refl
        by (SetOwner at uid gid) h = refl
        by (SetAcl at acl) h = refl
        by (SetAttrs at attrs) h = refl
        by (SetLetters at letters) h = refl
        by (SetStamps at access modify) h = refl
        by (Rename from to) h = absurd h
        by (Unlink at) h = absurd h
        by (RemoveDir at) h = absurd h

    publishes_outside : (edit : Edit) → IsEditOf (places t) edit → PublishesEdit edit step → alters step q ≡ false
    publishes_outside edit of e =
        let off = apart_of f account_paths folder.beside edit.path of.listed in
        subst (λ (s : Step). alters s q ≡ false) (sym e)
        (published_outside f q folder.plain under staged edit.path of.is.root off.0
        (place_outside f q folder.plain under staged edit.path off.0 (λ high. true_not_false (is_prefix edit.path f) high off.1)) (Rename (staging_of edit.path) edit.path) (refl, refl))

    some_outside : (of : Edit → Step → Type 0) → ((edit : Edit) → IsEditOf (places t) edit → of edit step → alters step q ≡ false) → (cs : List Edit) → AllByRecursion (IsEditOf (places t)) cs → IsOfSome of cs step → alters step q ≡ false
    some_outside of each [] are h = absurd h
    some_outside of each (c ∷ cs) are (inl h) = each c are.0 h
    some_outside of each (c ∷ cs) are (inr h) = some_outside of each cs are.1 h

    -- where the folder is there, /etc is not put above it
    puts_outside : IsTree t → is_some (places t f) ≡ true → IsAbsentIn (places t) etc → IsPutStep etc parent_file step → alters step q ≡ false
    puts_outside tree there none = by
      where
        high : is_prefix etc f ≡ true → ⊥
        high above =
            let parts = prefix_parts etc f above in
            true_not_false (is_some (places t etc)) (present_above (places t) tree etc parts.0 (subst (λ (p : Path). is_some (places t p) ≡ true) parts.1 there)) (ap is_some none)

        by : IsPutStep etc parent_file step → alters step q ≡ false
        by (inl gives) = new_outside f q folder.plain under staged etc (λ e. cc) folder.above parent_file step gives
        by (inr published) = published_outside f q folder.plain under staged etc (λ e. cc) folder.above (place_outside f q folder.plain under staged etc folder.above high) step published

    step_outside : IsTree t → is_some (places t f) ≡ true → (edits : List Edit) → AllByRecursion (IsEditOf (places t)) edits → IsAccountStep edits t step → alters step q ≡ false
    step_outside tree there edits are (IsAccountStep.sweeps h) = removal_inside (is_under_any swept_names) step q h unswept
    step_outside tree there edits are (IsAccountStep.puts h) = puts_outside tree there h.0 h.1
    step_outside tree there edits are (IsAccountStep.stages h) = some_outside StagesEdit (λ edit of g. stages_outside edit of step g) edits are h
    step_outside tree there edits are (IsAccountStep.publishes h) = some_outside PublishesEdit publishes_outside edits are h

-- ---- runs

-- the object at two places alike except for timestamps has one content
same_content : (a b : Option Object) → option_map object_state a ≡ option_map object_state b → content_of a ≡ content_of b
same_content a b e = seen (λ x. (x.node.kind, x.payload)) (λ o. refl) a b e

-- where a folder is absent, so is all that lies in it
none_within : (v : Files) → IsTree v → (f q : Path) → is_prefix f q ≡ true → content_of (places v f) ≡ None → content_of (places v q) ≡ None
none_within v is f q under none = at (places v q) refl
  where
    no_content : (o : Option Object) → content_of o ≡ None → is_some o ≡ false
    no_content None e = refl
    no_content (Some x) e = cc

    at : (o : Option Object) → places v q ≡ o → content_of o ≡ None
    at None e = refl
    at (Some x) e =
        let parts = prefix_parts f q under in
        absurd (true_not_false (is_some (places v f)) (present_above (places v) is f parts.0 (subst (λ (p : Path). is_some (places v p) ≡ true) parts.1 (ap is_some e))) (no_content (places v f) none))

module _ (now : ℕ) (t : Files) (tree : IsTree t) (edits : List Edit) (are : AllByRecursion (IsEditOf (places t)) edits) where
  -- at each moment on the way that was reached by steps of the run
  pub requests_after : (steps : List Step) → IsTree (after_all t steps now) → AccountWay edits t (after_all t steps now) → AllByRecursion (IsAccountStep edits t) steps
      → (q : Path) → is_request_input q ≡ true → content_of (places (after_all t steps now) q) ≡ content_of (places t q)
  requests_after steps there way gives q input = by (has_staging q) refl
    where
      found : (f : Path) × (IsFolder f × (is_prefix f q ≡ true))
      found = folder_of (folders Sysusers) are_folders q input

      plain_kept : (p : Path) → has_staging p ≡ false → is_prefix found.0 p ≡ true → content_of (places (after_all t steps now) p) ≡ content_of (places t p)
      plain_kept p plain under = same_content (places (after_all t steps now) p) (places t p)
          (way_beside edits t (after_all t steps now) are way p plain
          (no_same etc p (λ e. true_not_false (is_prefix found.0 etc) (ap (is_prefix found.0) e ∙ under) found.1.0.above))
          (none_of found.0 p under account_paths found.1.0.beside))

      below : has_staging q ≡ true → (o : Option Object) → places t found.0 ≡ o → content_of (places (after_all t steps now) q) ≡ content_of (places t q)
      below staged None e =
          none_within (after_all t steps now) there found.0 q found.1.1 (plain_kept found.0 found.1.0.plain (is_prefix-refl found.0) ∙ ap content_of e)
          ∙ sym (none_within t tree found.0 q found.1.1 (ap content_of e))
      below staged (Some x) e = content-after_all t steps now q
          (all_map (IsAccountStep edits t) (λ step. alters step q ≡ false)
          (λ step given. step_outside found.0 q found.1.0 found.1.1 staged t step tree (ap is_some e) edits are given) steps gives)

      by : (b : Bool) → has_staging q ≡ b → content_of (places (after_all t steps now) q) ≡ content_of (places t q)
      by true e = below e (places t found.0) refl
      by false e = plain_kept q e found.1.1
