-- Laws of runs: nothing done, one step, one run after another, and what holds on the way.
use Rattle.std.specs.Prelude.{◌≡◌, ℕ, ◌^◌, ◌<◌, List, [], ◌∷◌, ◌++◌, take}
use Rattle.std.proofs.Common.{zero, suc, refl, sym, ap, subst, ◌∙◌, append_assoc}
use Rattle.std.proofs.lemmas.List.{append-nil}
use Rattle.std.specs.List.{AllByRecursion}
use Rattle.pv_steps.specs.declared.step.Step.{Step}
use Rattle.pv_steps.specs.Trees.{Files, IsTree}
use Rattle.pv_steps.specs.Steps.{after}
use Rattle.pv_steps.proofs.TreeLaws.{tree_after}
use Rattle.pv_steps.specs.Runs.{after_all, IsEffective, Along, Ran}

pub after_all-append : (t : Files) (xs ys : List Step) (now : ℕ) → after_all t (xs ++ ys) now ≡ after_all (after_all t xs now) ys now
after_all-append t [] ys now = refl
after_all-append t (x ∷ xs) ys now = after_all-append (after t x now) xs ys now

-- P holds at the beginning of what it holds along, and at its end
pub along_start : (P : Files → Type 0) (t : Files) (steps : List Step) (now : ℕ) → Along P t steps now → P t
along_start P t [] now h = h
along_start P t (s ∷ steps) now h = h.0

pub along_end : (P : Files → Type 0) (t : Files) (steps : List Step) (now : ℕ) → Along P t steps now → P (after_all t steps now)
along_end P t [] now h = h
along_end P t (s ∷ steps) now h = along_end P (after t s now) steps now h.1.1

-- and after each number of steps
pub along_prefix : (P : Files → Type 0) (t : Files) (steps : List Step) (now k : ℕ) → Along P t steps now → P (after_all t (take k steps) now)
along_prefix P t steps now zero h = along_start P t steps now h
along_prefix P t [] now (suc k) h = h
along_prefix P t (s ∷ steps) now (suc k) h = along_prefix P (after t s now) steps now k h.1.1

pub along_append : (P : Files → Type 0) (t : Files) (xs ys : List Step) (now : ℕ) → Along P t xs now → Along P (after_all t xs now) ys now → Along P t (xs ++ ys) now
along_append P t [] ys now h g = g
along_append P t (x ∷ xs) ys now h g = (h.0, (h.1.0, along_append P (after t x now) xs ys now h.1.1 g))

-- what follows from P at each moment
pub along_weaken : (P R : Files → Type 0) → ((u : Files) → P u → R u) → (t : Files) (steps : List Step) (now : ℕ) → Along P t steps now → Along R t steps now
along_weaken P R f t [] now h = f t h
along_weaken P R f t (s ∷ steps) now h = (f t h.0, (h.1.0, along_weaken P R f (after t s now) steps now h.1.1))

-- a run from a tree passes trees alone
pub along_trees : (P : Files → Type 0) (t : Files) (steps : List Step) (now : ℕ) → now < 2 ^ 64 → IsTree t → Along P t steps now → Along IsTree t steps now
along_trees P t [] now fits tree h = tree
along_trees P t (s ∷ steps) now fits tree h =
    (tree, (h.1.0, along_trees P (after t s now) steps now fits (tree_after t s now tree h.1.0.can h.1.0.fits fits) h.1.1))

all_append : (Q : Step → Type 0) (xs ys : List Step) → AllByRecursion Q xs → AllByRecursion Q ys → AllByRecursion Q (xs ++ ys)
all_append Q [] ys h g = g
all_append Q (x ∷ xs) ys h g = (h.0, all_append Q xs ys h.1 g)

all_weaken : (Q R : Step → Type 0) → ((s : Step) → Q s → R s) → (xs : List Step) → AllByRecursion Q xs → AllByRecursion R xs
all_weaken Q R f [] h = tt
all_weaken Q R f (x ∷ xs) h = (f x h.0, all_weaken Q R f xs h.1)

module _ (P : Files → Type 0) (Q : Step → Type 0) (now : ℕ) where
  -- nothing was done
  pub ran_none : (t : Files) (h : List Step) (u : Files) (k : List Step) → P t → u ≡ t → k ≡ h → Ran P Q now t h u k
  ran_none t h u k p same stated = record { steps = []; recorded = stated ∙ sym (append-nil h); reached = same; along = p; gives = tt }

  -- one step was done
  pub ran_one : (t : Files) (h : List Step) (s : Step) (u : Files) (k : List Step) → P t → IsEffective t s now → P u → Q s → u ≡ after t s now → k ≡ h ++ s ∷ [] → Ran P Q now t h u k
  ran_one t h s u k p legal p' q is stated =
      record { steps = s ∷ []; recorded = stated; reached = is; along = (p, (legal, subst P is p')); gives = (q, tt) }

  -- one run after another
  pub ran_then : {t : Files} {h : List Step} {u : Files} {k : List Step} {v : Files} {l : List Step} → Ran P Q now t h u k → Ran P Q now u k v l → Ran P Q now t h v l
  ran_then {t} {h} {u} {k} {v} {l} a b =
      let there = subst (λ w. Along P w b.steps now) a.reached b.along in
      record {
        steps = a.steps ++ b.steps;
        recorded = b.recorded ∙ ap (λ x. x ++ b.steps) a.recorded ∙ append_assoc h a.steps b.steps;
        reached = b.reached ∙ ap (λ w. after_all w b.steps now) a.reached ∙ sym (after_all-append t a.steps b.steps now);
        along = along_append P t a.steps b.steps now a.along there;
        gives = all_append Q a.steps b.steps a.gives b.gives;
      }

  pub ran_end : {t : Files} {h : List Step} {u : Files} {k : List Step} → Ran P Q now t h u k → P u
  ran_end {t} r = subst P (sym r.reached) (along_end P t r.steps now r.along)

-- what follows from P at each moment, and from Q of each step
pub ran_weaken : (P P' : Files → Type 0) (Q Q' : Step → Type 0) (now : ℕ) → ((u : Files) → P u → P' u) → ((s : Step) → Q s → Q' s)
    → {t : Files} {h : List Step} {u : Files} {k : List Step} → Ran P Q now t h u k → Ran P' Q' now t h u k
ran_weaken P P' Q Q' now f g {t} r = record {
  steps = r.steps;
  recorded = r.recorded;
  reached = r.reached;
  along = along_weaken P P' f t r.steps now r.along;
  gives = all_weaken Q Q' g r.steps r.gives;
}
