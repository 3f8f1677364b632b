-- A complete run leaves nothing at the staging names of /etc and of the account files.
use Rattle.std.specs.Prelude.{◌≡◌, ℕ, Bool, true, false, cond, List, [], ◌∷◌, fold, Option, None, is_some, Result, OnOk}
use Rattle.std.proofs.Common.{refl, sym, ap, subst, ◌∙◌}
use Rattle.std.specs.List.{AllByRecursion}
use Rattle.pv_layers.specs.Places.{etc, group_path, passwd_path}
use Rattle.pv_path.specs.Paths.{Path, has_staging, same_path, staging_of}
use Rattle.pv_path.proofs.Tests.{true_not_false, on_ok}
use Rattle.pv_requests.specs.declared.request.Request.{Request}
use Rattle.pv_steps.specs.Steps.{made}
use Rattle.pv_steps.specs.Trees.{Files, IsAbsentIn, IsTree, Places, places}
use Rattle.pv_walk.specs.Edits.{all_taken}
use Rattle.pv_walk.specs.Preparing.{parent_file, with_parent}
use Rattle.pv_walk.specs.Staging.{new_object}
use Rattle.pv_walk.proofs.PreparedLaws.{all_taken-stage, stands_in}
use Rattle.pv_walk.proofs.RemovalLaws.{no_same}
use Rattle.pv_sysusers.specs.declared.edit.Edit.{Edit}
use Rattle.pv_sysusers.specs.Accounted.{accounted, accounted_unless, carried_files, edits_at, lacking_at, unusable_texts}
use Rattle.pv_sysusers.specs.FileWriting.{IsEditOf, account_paths, gshadow_path, shadow_path, swept_names, with_directory}
use Rattle.pv_sysusers.specs.Edits.{IsEdit, edited, with_edit}
use Rattle.pv_sysusers.specs.Swept.{LeavesNoStagingName}
use Rattle.pv_sysusers.proofs.BesideLaws.{edits_of_run}
use Rattle.pv_sysusers.proofs.MovingLaws.{made_else}
use Rattle.pv_sysusers.proofs.SameLaws.{places_carried}

-- ---- nothing is put at a path with a staging name

module _ (now : ℕ) (q : Path) (staged : has_staging q ≡ true) where
  plain_else : (p : Path) → has_staging p ≡ false → same_path p q ≡ false
  plain_else p plain = no_same p q (λ e. true_not_false (has_staging q) staged (sym (ap has_staging e) ∙ plain))

  parent_else : (t : Places) → with_parent now t etc q ≡ t q
  parent_else t = by (is_some (t etc))
    where
      by : (b : Bool) → cond b t (made now etc (new_object parent_file now) t) q ≡ t q
      by true = refl
      by false = made_else now etc (new_object parent_file now) t q (plain_else etc refl) (plain_else [] refl)

  directory_else : (cs : List Edit) (t : Places) → with_directory now cs t q ≡ t q
  directory_else [] t = refl
  directory_else (c ∷ cs) t = parent_else t

  edit_else : (c : Edit) → IsEdit c → (t : Places) → with_edit now t c q ≡ t q
  edit_else c is t = made_else now c.path (edited now c) t q (plain_else c.path is.plain) (ap (λ (p : Path). same_path p q) is.parent ∙ plain_else etc refl)

  edits_else : (s : Places) (cs : List Edit) → AllByRecursion (IsEditOf s) cs → (t : Places) → fold (with_edit now) t cs q ≡ t q
  edits_else s [] of t = refl
  edits_else s (c ∷ cs) of t = edits_else s cs of.1 (with_edit now t c) ∙ edit_else c of.0.is t

-- ---- a run

module _ (requests : List Request) (now : ℕ) (t : Files) (tree : IsTree t) where
  abbrev edits : List Edit
  edits = edits_at requests now (places t)

  whole : unusable_texts (places t) ≡ [] → lacking_at requests now (places t) ≡ None → accounted requests now t ≡ carried_files now edits t
  whole usable enough =
      ap (λ (xs : List (List ℕ)). accounted_unless xs (lacking_at requests now (places t)) t (carried_files now edits t)) usable
      ∙ ap (λ (l : Option (List ℕ)). accounted_unless [] l t (carried_files now edits t)) enough

  absent_at : accounted requests now t ≡ carried_files now edits t → (p : Path) → has_staging (staging_of p) ≡ true → stands_in p (etc ∷ account_paths) ≡ true
      → IsAbsentIn (places (accounted requests now t)) (staging_of p)
  absent_at is p staged among =
      ap (λ (u : Files). places u (staging_of p)) is
      ∙ places_carried now edits t (staging_of p)
      ∙ edits_else now (staging_of p) staged (places t) edits (edits_of_run requests now t tree) (with_directory now edits (all_taken now swept_names (places t)))
      ∙ directory_else now (staging_of p) staged edits (all_taken now swept_names (places t))
      ∙ all_taken-stage now (etc ∷ account_paths) (places t) p among

  pub accounted_leaves_none : LeavesNoStagingName requests now t (accounted requests now t)
  accounted_leaves_none usable enough =
      let is = whole usable enough in
      (absent_at is etc refl refl, (absent_at is group_path refl refl, (absent_at is gshadow_path refl refl, (absent_at is shadow_path refl refl, (absent_at is passwd_path refl refl, tt)))))

  pub accounts_leave_none : {A E : Type 0} (r : Result A E) (u : Files) → OnOk r (u ≡ accounted requests now t) → OnOk r (LeavesNoStagingName requests now t u)
  accounts_leave_none r u = on_ok r {X = u ≡ accounted requests now t} {Y = LeavesNoStagingName requests now t u} (λ left. subst (LeavesNoStagingName requests now t) (sym left) accounted_leaves_none)
