-- Laws of sweeping the staging names of the account files: that of their directory is swept once.
use Rattle.std.specs.Prelude.{◌≡◌, ℕ, ◌+◌, ◌≤◌, Bool, true, false, ◌||◌, List, [], ◌∷◌, ◌++◌, map, Option, Some, None, option_map, Result, Ok}
use Rattle.std.proofs.Common.{refl, sym, ap, ◌∙◌, arith, inl, inr, ◌⊎◌}
use Rattle.std.specs.List.{AllByRecursion}
use Rattle.std.proofs.lemmas.List.Sums.{sum-map, sum_by-cons}
use Rattle.std.proofs.Math.Bool.{or-true}
use Rattle.std.proofs.lemmas.Bool.{cases_Bool}
use Rattle.pv_path.specs.Paths.{Path, is_prefix, staging_of}
use Rattle.pv_steps.specs.Objects.{object_state}
use Rattle.pv_steps.specs.Trees.{Files, places, IsAbsentIn, IsTree}
use Rattle.pv_steps.specs.Content.{Removes}
use Rattle.pv_steps.specs.declared.object.Object.{Object}
use Rattle.pv_steps.specs.declared.tree.Tree.{Ghosts}
use Rattle.pv_steps.specs.declared.tree.TreeFault.{TreeFault}
use Rattle.pv_steps.specs.Acting.{Acted}
use Rattle.pv_steps.proofs.ActingLaws.{Moves, well, acted_none, acted_within}
use Rattle.pv_walk.specs.Edits.{Pruned, count_at}
use Rattle.pv_walk.specs.Staging.{count_at_all, is_under_any, staging_names}
use Rattle.pv_walk.proofs.Removing.{prune_then}
use Rattle.pv_walk.proofs.SweepLaws.{pruned-none, pruned_count}
use Rattle.pv_walk.proofs.PuttingOverLaws.{count_absent}
use Rattle.pv_layers.specs.Places.{etc, group_path, passwd_path}
use Rattle.pv_sysusers.specs.FileWriting.{IsSweptPath, account_paths, gshadow_path, shadow_path, swept_names}

-- ---- among the staging names

under_one : (ps rs : List Path) (p q : Path) → is_prefix p q ≡ true → is_under_any (ps ++ p ∷ rs) q ≡ true
under_one [] rs p q e = ap (λ b. b || is_under_any rs q) e
under_one (x ∷ ps) rs p q e = ap (λ b. is_prefix x q || b) (under_one ps rs p q e) ∙ or-true (is_prefix x q)

pub group_swept : IsSweptPath group_path
group_swept = record { short = refl; some = λ e. cc; above = refl; along = refl; among = λ q e. under_one (staging_of etc ∷ []) (map staging_of (gshadow_path ∷ shadow_path ∷ passwd_path ∷ [])) (staging_of group_path) q e }

pub gshadow_swept : IsSweptPath gshadow_path
gshadow_swept = record { short = refl; some = λ e. cc; above = refl; along = refl; among = λ q e. under_one (map staging_of (etc ∷ group_path ∷ [])) (map staging_of (shadow_path ∷ passwd_path ∷ [])) (staging_of gshadow_path) q e }

pub shadow_swept : IsSweptPath shadow_path
shadow_swept = record { short = refl; some = λ e. cc; above = refl; along = refl; among = λ q e. under_one (map staging_of (etc ∷ group_path ∷ gshadow_path ∷ [])) (map staging_of (passwd_path ∷ [])) (staging_of shadow_path) q e }

pub passwd_swept : IsSweptPath passwd_path
passwd_swept = record { short = refl; some = λ e. cc; above = refl; along = refl; among = λ q e. under_one (map staging_of (etc ∷ group_path ∷ gshadow_path ∷ shadow_path ∷ [])) [] (staging_of passwd_path) q e }

pub all_swept : AllByRecursion IsSweptPath account_paths
all_swept = (group_swept, (gshadow_swept, (shadow_swept, (passwd_swept, tt))))

pub etc_among : (q : Path) → is_under_any (staging_names etc) q ≡ true → is_under_any swept_names q ≡ true
etc_among q e = elim (cases_Bool (is_prefix (staging_of etc) q)) [
  | inl h ↦ under_one [] (map staging_of account_paths) (staging_of etc) q h
  | inr h ↦ absurd (let no : false ≡ true = sym (ap (λ b. b || false) h) ∙ e in cc)
]

-- ---- one file

module _ (path : Path) (is : IsSweptPath path) where
  pub path_among : (q : Path) → is_under_any (staging_names path) q ≡ true → is_under_any swept_names q ≡ true
  path_among q e = by (cases_Bool (is_prefix (staging_of etc) q)) (cases_Bool (is_prefix (staging_of path) q))
    where
      both : (is_prefix (staging_of etc) q || (is_prefix (staging_of path) q || false)) ≡ true
      both = sym (ap (λ (ps : List Path). is_under_any ps q) is.along) ∙ e

      by : (is_prefix (staging_of etc) q ≡ true) ⊎ (is_prefix (staging_of etc) q ≡ false) → (is_prefix (staging_of path) q ≡ true) ⊎ (is_prefix (staging_of path) q ≡ false) → is_under_any swept_names q ≡ true
      by (inl h) other = under_one [] (map staging_of account_paths) (staging_of etc) q h
      by (inr h) (inl g) = is.among q g
      by (inr h) (inr g) = absurd (let no : false ≡ true = sym (ap (λ b. b || (is_prefix (staging_of path) q || false)) h ∙ ap (λ b. b || false) g) ∙ both in cc)

  pub count_one : (t : Files) → IsTree t → IsAbsentIn (places t) (staging_of etc) → count_at_all t (staging_names path) ≤ count_at t (staging_of path)
  count_one t tree none =
      let same : count_at_all t (staging_names path) ≡ count_at_all t (staging_of etc ∷ staging_of path ∷ []) = ap (count_at_all t) is.along in
      omega (arith, same, count_absent (staging_of etc) t tree none)

-- ---- all of them

pub absent_stays : (inside : Path → Bool) (t u : Files) → Pruned inside t u → (q : Path) → IsAbsentIn (places t) q → IsAbsentIn (places u) q
absent_stays inside t u p q none = by (cases_Bool (inside q))
  where
    absent : (x y : Option Object) → option_map object_state y ≡ option_map object_state x → x ≡ None → y ≡ None
    absent x None same gone = refl
    absent x (Some y) same gone = let no : Some (object_state y) ≡ None = same ∙ ap (option_map object_state) gone in cc

    within : IsAbsentIn (places u) q ⊎ (option_map object_state (places u q) ≡ option_map object_state (places t q)) → IsAbsentIn (places u) q
    within (inl gone) = gone
    within (inr same) = absent (places t q) (places u q) same none

    by : (inside q ≡ true) ⊎ (inside q ≡ false) → IsAbsentIn (places u) q
    by (inl e) = within (p.within q e)
    by (inr e) = absent (places t q) (places u q) (p.outside q e) none

pub count_first : (t : Files) (path : Path) (paths : List Path) → count_at_all t (path ∷ paths) ≡ count_at t path + count_at_all t paths
count_first t path paths = sum-map (count_at t) (path ∷ paths) ∙ sum_by-cons (count_at t) path paths ∙ ap (λ n. count_at t path + n) (sym (sum-map (count_at t) paths))

pub count_fewer : (inside : Path → Bool) (t u : Files) → Pruned inside t u → (paths : List Path) → count_at_all u paths ≤ count_at_all t paths
count_fewer inside t u p [] = omega arith
count_fewer inside t u p (path ∷ paths) = omega (arith, pruned_count inside t u p path, count_fewer inside t u p paths, count_first t path paths, count_first u path paths)

pub count_all : (t : Files) → count_at_all t swept_names ≡ count_at_all t (staging_names etc) + count_at_all t (map staging_of account_paths)
count_all t = omega (arith, count_first t (staging_of etc) (map staging_of account_paths), one)
  where
    one : count_at_all t (staging_names etc) ≡ count_at t (staging_of etc) + count_at_all t []
    one = count_first t (staging_of etc) []

module _ {S : Type 0} (tree : Ghosts S) (moves : Moves tree) where
  -- a call that sweeps less sweeps within them
  pub swept_within : {A : Type 0} {n now : ℕ} {a b : S} {r : Result A TreeFault} (narrow : Path → Bool) → ((q : Path) → narrow q ≡ true → is_under_any swept_names q ≡ true)
      → Acted tree (Pruned narrow (tree.state a)) (Removes narrow) n now a b r → Acted tree (Pruned (is_under_any swept_names) (tree.state a)) (Removes (is_under_any swept_names)) n now a b r
  swept_within {n = n} {now = now} {a = a} narrow within last =
      acted_within tree (0 + n) n (omega arith)
      (prune_then tree moves (is_under_any swept_names) (acted_none tree moves (Pruned (is_under_any swept_names) (tree.state a)) (Removes (is_under_any swept_names)) 0 now a well refl (pruned-none (is_under_any swept_names) (tree.state a))) narrow within last)

  -- one call after another
  pub swept_then : {A B : Type 0} {m n k now : ℕ} {a b c : S} {x : A} {r : Result B TreeFault} → n ≤ k
      → Acted tree (Pruned (is_under_any swept_names) (tree.state a)) (Removes (is_under_any swept_names)) m now a b (Ok x)
      → Acted tree (Pruned (is_under_any swept_names) (tree.state b)) (Removes (is_under_any swept_names)) n now b c r
      → Acted tree (Pruned (is_under_any swept_names) (tree.state a)) (Removes (is_under_any swept_names)) (m + k) now a c r
  swept_then {m = m} {n = n} {k = k} le first last =
      acted_within tree (m + n) (m + k) (omega (arith, le)) (prune_then tree moves (is_under_any swept_names) first (is_under_any swept_names) (λ q e. e) last)
