-- What phases leave on their way, and what their steps give: the way of one phase alone is its own, so that what holds of
-- creating holds of the one phase.
use Rattle.std.specs.Prelude.{◌≡◌, ◌<◌, ◌^◌, ℕ, false, List, [], ◌∷◌, length, take, drop, fold, slice_get, Option, Some, None}
use Rattle.std.specs.FinMap as fin
use Rattle.std.proofs.Common.{refl, sym, ap, subst, ◌∙◌, inl, inr}
use Rattle.std.proofs.Math.Seq.{drop-length, take-nil}
use Rattle.std.specs.List.{AllByRecursion}
use Rattle.pv_create.proofs.StepLaws.{given}
use Rattle.pv_create.proofs.StoppedLaws.{between}
use Rattle.pv_create.specs.OnTheWay.{IsGiven, lines_course}
use Rattle.pv_steps.specs.Courses.{Course, Partway, IsStepOfSome}
use Rattle.pv_walk.specs.declared.object_state.ObjectState.{ObjectState}
use Rattle.pv_walk.specs.Edits.{Pruned}
use Rattle.pv_walk.specs.Nodes.{object_states_of}
use Rattle.pv_laws.specs.Between.{IsBetween, IsOnTheWay}
use Rattle.pv_laws.specs.Moments.{Agree}
use Rattle.pv_lines.specs.declared.line.Line.{Line}
use Rattle.pv_lines.specs.Lines.{IsLine}
use Rattle.pv_path.specs.Paths.{Path, has_staging}
use Rattle.pv_steps.specs.declared.step.Step.{Step}
use Rattle.pv_steps.specs.Runs.{after_all, Ran}
use Rattle.pv_steps.specs.Trees.{Files, IsTree, places}
use Rattle.pv_steps.proofs.RunLaws.{ran_weaken}
use Rattle.pv_table.specs.Active.{in_create_order}
use Rattle.pv_table.specs.Pointwise.{ObjectStates, pointwise_after, state}
use Rattle.pv_table.specs.Removed.{is_gone}
use Rattle.pv_walk.proofs.SweepLaws.{pruned-none}
use Rattle.provision_run.specs.PhasesOnTheWay.{GiveBy, IsBetweenBy}
use Rattle.provision_run.specs.Phases.{boot_phases, phases_course}
use Rattle.provision_run.specs.declared.phase.Phase.{Phase}
use Rattle.provision_run.specs.declared.phase.Phase.TheVariants.{Remove, Clean, Create, Purge}
use Rattle.provision_run.proofs.BootLaws.{boot_amid, boot_given, creating_way}

-- a step of one phase alone is one of its own
own_step : (c : Course Phase) (phase : Phase) (t : Files) (step : Step) → IsStepOfSome c (phase ∷ []) t step → c.steps phase t step
own_step c phase t step (inl h) = h
own_step c phase t step (inr none) = absurd none

module _ (lines : List Line) (are : AllByRecursion IsLine lines) (now : ℕ) (t : Files) (h : List Step) (u : Files) (k : List Step) (fits : now < 2 ^ 64) (tree : IsTree t) where
  abbrev RunOf : List Phase → Type 0
  RunOf phases = Ran (Partway (phases_course lines now) phases t) (IsStepOfSome (phases_course lines now) phases t) now t h u k

  create_ran : RunOf (Create ∷ []) → Ran (Partway (lines_course now) (in_create_order lines) t) (IsStepOfSome (lines_course now) (in_create_order lines) t) now t h u k
  create_ran run = ran_weaken (Partway (phases_course lines now) (Create ∷ []) t) (Partway (lines_course now) (in_create_order lines) t)
      (IsStepOfSome (phases_course lines now) (Create ∷ []) t) (IsStepOfSome (lines_course now) (in_create_order lines) t) now
      (creating_way lines are now t) (own_step (phases_course lines now) Create t) run

  pub phases_between : (phases : List Phase) → RunOf phases → IsBetweenBy phases lines now t (drop (length h) k)
  phases_between (Create ∷ []) run = between lines are (IsStepOfSome (lines_course now) (in_create_order lines) t) now t h u k fits tree (create_ran run)
  phases_between (Remove ∷ Create ∷ []) run = boot_amid lines are (IsStepOfSome (phases_course lines now) boot_phases t) now t h u k fits tree run
  phases_between [] run = tt
  phases_between (Create ∷ next ∷ phases) run = tt
  phases_between (Remove ∷ []) run = tt
  phases_between (Remove ∷ Create ∷ next ∷ phases) run = tt
  phases_between (Remove ∷ Remove ∷ phases) run = tt
  phases_between (Remove ∷ Clean ∷ phases) run = tt
  phases_between (Remove ∷ Purge ∷ phases) run = tt
  phases_between (Clean ∷ phases) run = tt
  phases_between (Purge ∷ phases) run = tt

  pub phases_give : (phases : List Phase) → RunOf phases → GiveBy phases lines now t (drop (length h) k)
  phases_give (Create ∷ []) run = given lines are (Partway (lines_course now) (in_create_order lines) t) now t h u k tree (create_ran run)
  phases_give (Remove ∷ Create ∷ []) run = boot_given lines are (Partway (phases_course lines now) boot_phases t) now t h u k fits tree run
  phases_give [] run = tt
  phases_give (Create ∷ next ∷ phases) run = tt
  phases_give (Remove ∷ []) run = tt
  phases_give (Remove ∷ Create ∷ next ∷ phases) run = tt
  phases_give (Remove ∷ Remove ∷ phases) run = tt
  phases_give (Remove ∷ Clean ∷ phases) run = tt
  phases_give (Remove ∷ Purge ∷ phases) run = tt
  phases_give (Clean ∷ phases) run = tt
  phases_give (Purge ∷ phases) run = tt

-- ---- nothing done

-- before the first line each path is as it was
way_begins : (lines : List Line) (s : ObjectStates) (t : Files) → Agree s t → IsOnTheWay lines s t
way_begins lines s t agree = by (in_create_order lines) refl
  where
    as_it_was : (after : ObjectStates) (line : Line) (q : Path) → has_staging q ≡ false → IsBetween line s after q (object_states_of (places t) q)
    as_it_was after line q plain = at (object_states_of (places t) q) refl
      where
        at : (here : Option ObjectState) → object_states_of (places t) q ≡ here → IsBetween line s after q here
        at None e = IsBetween.absent refl (inl (agree q plain ∙ e))
        at (Some x) e = IsBetween.akin x x refl (inl (agree q plain ∙ e)) (record { kind = refl; uid = refl })

    by : (order : List Line) → in_create_order lines ≡ order → IsOnTheWay lines s t
    by [] e = inl (λ q plain. ap (λ (xs : List Line). fin.get (fold pointwise_after s (take (length xs) xs)) q) e ∙ agree q plain)
    by (line ∷ rest) e = inr (record {
      k = 0;
      line = line;
      at = ap (λ (xs : List Line). slice_get xs 0) e;
      between = λ q plain. subst (λ (before : ObjectStates). IsBetween line before (state lines 1 s) q (object_states_of (places t) q)) (sym none) (as_it_was (state lines 1 s) line q plain);
    })
      where
        none : state lines 0 s ≡ s
        none = ap (λ (xs : List Line). fold pointwise_after s (take 0 xs)) e

module _ (lines : List Line) (now : ℕ) (t : Files) (h : List Step) where
  none_left : (n : ℕ) → after_all t (take n (drop (length h) h)) now ≡ t
  none_left n = ap (λ (steps : List Step). after_all t steps now) (ap (take n) (drop-length h) ∙ take-nil n)

  create_none : (s : ObjectStates) → Agree s t → (n : ℕ) → IsOnTheWay lines s (after_all t (take n (drop (length h) h)) now)
  create_none s agree n = subst (λ (u : Files). IsOnTheWay lines s u) (sym (none_left n)) (way_begins lines s t agree)

  -- a run that has done nothing is where it began
  pub none_between : (phases : List Phase) → IsBetweenBy phases lines now t (drop (length h) h)
  none_between (Create ∷ []) = λ n s repeatable quiet agree. create_none s agree n
  none_between (Remove ∷ Create ∷ []) = λ n. inl (subst (λ (u : Files). Pruned (is_gone lines t) t u) (sym (none_left n)) (pruned-none (is_gone lines t) t))
  none_between [] = tt
  none_between (Create ∷ next ∷ phases) = tt
  none_between (Remove ∷ []) = tt
  none_between (Remove ∷ Create ∷ next ∷ phases) = tt
  none_between (Remove ∷ Remove ∷ phases) = tt
  none_between (Remove ∷ Clean ∷ phases) = tt
  none_between (Remove ∷ Purge ∷ phases) = tt
  none_between (Clean ∷ phases) = tt
  none_between (Purge ∷ phases) = tt

  pub none_give : (phases : List Phase) → GiveBy phases lines now t (drop (length h) h)
  none_give (Create ∷ []) = λ s repeatable quiet agree. subst (AllByRecursion (IsGiven lines s)) (sym (drop-length h)) tt
  none_give (Remove ∷ Create ∷ []) = λ s repeatable quiet agree. subst (AllByRecursion (IsGiven lines s)) (sym (drop-length h)) tt
  none_give [] = tt
  none_give (Create ∷ next ∷ phases) = tt
  none_give (Remove ∷ []) = tt
  none_give (Remove ∷ Create ∷ next ∷ phases) = tt
  none_give (Remove ∷ Remove ∷ phases) = tt
  none_give (Remove ∷ Clean ∷ phases) = tt
  none_give (Remove ∷ Purge ∷ phases) = tt
  none_give (Clean ∷ phases) = tt
  none_give (Purge ∷ phases) = tt
