-- Laws of a tree from which paths are gone, and of the moments of a run that takes them away.
use Rattle.std.specs.Prelude.{◌≡◌, ℕ, ◌<◌, Bool, true, ◌-◌, false, cond, List, length, take, drop, Option, Some, None, is_some, option_map, not, ◌||◌, ◌==◌, [], ◌∷◌}
use Rattle.std.proofs.Common.{ap, ◌∙◌, arith, get_or, refl, sym, subst, suc}
use Rattle.std.specs.List.{list_any, range_with_len}
use Rattle.std.proofs.lemmas.List.FromFn.{length-range_with_len, get_or-range_with_len}
use Rattle.std.proofs.lemmas.List.Folds.{list_any_at}
use Rattle.std.proofs.Math.Seq.{drop-append_seam}
use Rattle.std.specs.FinMap as fin
use Rattle.pv_path.specs.Paths.{Path, is_prefix}
use Rattle.pv_steps.specs.declared.object.Object.{Object}
use Rattle.pv_steps.specs.declared.step.Step.{Step}
use Rattle.pv_steps.specs.Runs.{Ran, after_all}
use Rattle.pv_steps.specs.Trees.{Files, places}
use Rattle.pv_steps.proofs.RunLaws.{along_prefix}
use Rattle.pv_steps.proofs.StepLaws.{places-tabulate, among_keys}
use Rattle.pv_walk.specs.Removal.{loses_child, without}
use Rattle.pv_table.specs.Removed.{files_without}
use Rattle.std.proofs.lemmas.Bool.Decides.{nat_tests}
use Rattle.pv_path.proofs.PathLaws.{is_prefix-refl, is_prefix-trans}
use Rattle.pv_walk.specs.Whole.{goes_whole}
use Rattle.pv_walk.proofs.WholeLaws.{goes_parts, goes_from, all_at-each, each-all_at}
use Rattle.pv_path.proofs.Tests.{same_tests}

pub in_range : (f : ℕ → Bool) (n k : ℕ) → k < n → f k ≡ true → list_any f (range_with_len 0 n) ≡ true
in_range f n k within h =
    let len = length-range_with_len 0 n in
    let there : get_or (range_with_len 0 n) k 0 ≡ k = omega (arith, get_or-range_with_len 0 n k 0 within) in
    list_any_at f (range_with_len 0 n) k 0 (omega (arith, len, within)) (ap f there ∙ h)

without_key : (goes : Path → Bool) (change : Object → Object) (t : Files) (q : Path) → is_some (without goes change t q) ≡ true → is_some (places t q) ≡ true
without_key goes change t q = by (goes q) (loses_child goes t q) (places t q)
  where
    by : (g l : Bool) (o : Option Object) → is_some (cond g None (cond l (option_map change o) o)) ≡ true → is_some o ≡ true
    by true l o h = cc
    by false true None h = cc
    by false true (Some x) h = refl
    by false false o h = h

pub places-without : (goes : Path → Bool) (change : Object → Object) (t : Files) (q : Path) → places (files_without goes change t) q ≡ without goes change t q
places-without goes change t q = places-tabulate (fin.keys t) (without goes change t) q (λ h. among_keys t q ∙ without_key goes change t q h)

-- what holds at each moment of a run holds after each number of the steps that it told
pub told_prefix : (P : Files → Type 0) (Q : Step → Type 0) (now : ℕ) (t : Files) (h : List Step) (u : Files) (k : List Step) → Ran P Q now t h u k → (n : ℕ) → P (after_all t (take n (drop (length h) k)) now)
told_prefix P Q now t h u k run n =
    subst (λ (steps : List Step). P (after_all t (take n steps) now)) (sym (ap (drop (length h)) run.recorded ∙ drop-append_seam h run.steps)) (along_prefix P t run.steps now n run.along)

-- what stands below what is not the root is not the root
below_no_root : (p q : Path) → is_prefix p q ≡ true → not (length p == 0) ≡ true → not (length q == 0) ≡ true
below_no_root [] q under h = cc
below_no_root (n ∷ p) [] under h = cc
below_no_root (n ∷ p) (m ∷ q) under h = more (length q)
  where
    more : (k : ℕ) → not (suc k == 0) ≡ true
    more k = let no : (suc k == 0) ≡ false = grind (arith, nat_tests) in ap not no

-- what goes whole goes with all that stands below it
pub goes_below : (test : Path → Bool) (t : Files) (p q : Path) → goes_whole test t p ≡ true → is_prefix p q ≡ true → is_some (places t q) ≡ true → goes_whole test t q ≡ true
goes_below test t p q h under there =
    let parts = goes_parts test t p h in
    goes_from test t q there (below_no_root p q under parts.1) (each-all_at test t q (λ r at below. all_at-each test t p parts.2 r at (is_prefix-trans p q r under below)))

-- what goes whole with others that go whole
pub goes_again : (test : Path → Bool) (t : Files) (q : Path) → goes_whole (goes_whole test t) t q ≡ goes_whole test t q
goes_again test t q = same_tests (goes_whole (goes_whole test t) t q) (goes_whole test t q)
    (λ h.
    let parts = goes_parts (goes_whole test t) t q h in
    all_at-each (goes_whole test t) t q parts.2 q parts.0 (is_prefix-refl q))
    (λ h.
    let parts = goes_parts test t q h in
    goes_from (goes_whole test t) t q parts.0 parts.1 (each-all_at (goes_whole test t) t q (λ r there under. goes_below test t q r h under there)))

-- where one test passes what another does, some pass it where some pass the other
pub any_weaken : {A : Type 0} (f g : A → Bool) → ((x : A) → f x ≡ true → g x ≡ true) → (xs : List A) → list_any f xs ≡ true → list_any g xs ≡ true
any_weaken f g more [] h = cc
any_weaken f g more (x ∷ xs) h = by (f x) refl (any_weaken f g more xs) h
  where
    or_true : (b : Bool) → list_any g xs ≡ true → (b || list_any g xs) ≡ true
    or_true true h = refl
    or_true false h = h

    by : (b : Bool) → f x ≡ b → (list_any f xs ≡ true → list_any g xs ≡ true) → (b || list_any f xs) ≡ true → list_any g (x ∷ xs) ≡ true
    by true e rest h = ap (λ b. b || list_any g xs) (more x e)
    by false e rest h = or_true (g x) (rest h)
