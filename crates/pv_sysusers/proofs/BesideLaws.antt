-- A run leaves each path that is neither /etc nor an account file, timestamps and staging names aside.
use Rattle.std.specs.Prelude.{◌≡◌, ℕ, false, List, [], ◌∷◌, take, fold, Some}
use Rattle.std.proofs.Common.{zero, suc, refl, ap, ◌∙◌, inl, inr}
use Rattle.std.specs.List.{AllByRecursion}
use Rattle.pv_path.specs.Paths.{Path, has_staging, same_path}
use Rattle.pv_requests.specs.declared.request.Request.{Request}
use Rattle.pv_steps.specs.Same.{object_states}
use Rattle.pv_steps.specs.Trees.{Files, IsTree, Places, places}
use Rattle.pv_walk.proofs.EditLaws.{object_states-made, object_states-put_else}
use Rattle.pv_walk.specs.Preparing.{with_parent}
use Rattle.pv_walk.specs.Removal.{is_one_of}
use Rattle.pv_walk.proofs.RemovalLaws.{no_same}
use Rattle.pv_sysusers.specs.declared.edit.Edit.{Edit}
use Rattle.pv_sysusers.specs.Edits.{edited, with_edit}
use Rattle.pv_layers.specs.Places.{etc}
use Rattle.pv_sysusers.specs.FileWriting.{AccountWay, IsEditOf, account_paths}
use Rattle.pv_sysusers.specs.Accounted.{edits_at, edits_by, edits_unless, plan_at, unusable_texts}
use Rattle.pv_sysusers.proofs.FileWritingLaws.{directory_object_states}
use Rattle.pv_sysusers.proofs.EditingLaws.{all_usable, of_by}
use Rattle.pv_path.proofs.Tests.{true_not_false}

-- what holds of each edit holds of each of the first
pub first_all : (P : Edit → Type 0) (k : ℕ) (cs : List Edit) → AllByRecursion P cs → AllByRecursion P (take k cs)
first_all P zero cs all = tt
first_all P (suc k) [] all = tt
first_all P (suc k) (c ∷ cs) all = (all.0, first_all P k cs all.1)

-- edits that are not of a path
abbrev pub AreElse : Path → List Edit → Type 0
AreElse q cs = AllByRecursion (λ c. same_path c.path q ≡ false) cs

-- leave it as it is
pub edits_left : (q : Path) (cs : List Edit) → AreElse q cs → (base : Places) → object_states (fold (with_edit 0) base cs) q ≡ object_states base q
edits_left q [] all base = refl
edits_left q (c ∷ cs) all base = edits_left q cs all.1 (with_edit 0 base c) ∙ object_states-made 0 c.path (edited 0 c) base q ∙ object_states-put_else c.path q (Some (edited 0 c)) base all.0

-- the edits of a run are of account files
pub edits_of_run : (requests : List Request) (now : ℕ) (t : Files) → IsTree t → AllByRecursion (IsEditOf (places t)) (edits_at requests now (places t))
edits_of_run requests now t tree = by (unusable_texts (places t)) refl
  where
    by : (xs : List (List ℕ)) → unusable_texts (places t) ≡ xs → AllByRecursion (IsEditOf (places t)) (edits_unless xs (edits_by (places t) (plan_at requests now (places t)).texts))
    by [] none = of_by (places t) tree (all_usable (places t) none) (plan_at requests now (places t)).texts
    by (x ∷ xs) some = tt

-- so they are not of another path
else_of : (t : Places) (q : Path) → is_one_of account_paths q ≡ false → (cs : List Edit) → AllByRecursion (IsEditOf t) cs → AreElse q cs
else_of t q far [] of = tt
else_of t q far (c ∷ cs) of = (
  no_same c.path q (λ e. true_not_false (is_one_of account_paths c.path) of.0.listed (ap (is_one_of account_paths) e ∙ far)),
  else_of t q far cs of.1,
)

-- at each moment of a run
pub way_beside : (edits : List Edit) (t u : Files) → AllByRecursion (IsEditOf (places t)) edits → AccountWay edits t u
    → (q : Path) → has_staging q ≡ false → same_path etc q ≡ false → is_one_of account_paths q ≡ false → object_states (places u) q ≡ object_states (places t) q
way_beside edits t u of (inl same) q plain off far = same q plain
way_beside edits t u of (inr h) q plain off far =
    h.1.1.0 q plain
    ∙ edits_left q (take h.1.0 edits) (first_all (λ c. same_path c.path q ≡ false) h.1.0 edits (else_of (places t) q far edits of)) (with_parent 0 (places t) etc)
    ∙ directory_object_states 0 (places t) q off
