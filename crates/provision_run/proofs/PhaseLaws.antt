-- Laws of phases carried out one after the other: nothing done, one phase more, one that was stopped, and all done.
use Rattle.std.specs.Prelude.{◌≡◌, ⊤, true, ℕ, ◌+◌, ◌<◌, ◌≤◌, ◌^◌, Bool, false, ◌||◌, List, [], ◌∷◌, ◌++◌, length, take, drop, get_or, Result, Ok, Err, IsErrAnd, IsErrOf}
use Rattle.std.proofs.Common.{zero, suc, refl, sym, ap, subst, ◌∙◌, arith, append-nil}
use Rattle.std.proofs.lemmas.List.{append_cancel_left}
use Rattle.std.proofs.Math.Seq.{drop-length, take-nil}
use Rattle.pv_clean.specs.Cleaning.{IsCleanStep}
use Rattle.pv_clean.proofs.CleanLaws.{takes_only}
use Rattle.pv_create.specs.OnTheWay.{lines_course}
use Rattle.pv_create.proofs.LineLaws.{line_start}
use Rattle.pv_steps.specs.Courses.{AtWork, Cut, HasGone, Partway, IsStepOfSome, single, carried_of}
use Rattle.pv_steps.specs.declared.carried.Carried.{Carried}
use Rattle.pv_steps.specs.declared.carried.Carried.TheVariants.{Whole}
use Rattle.pv_steps.proofs.CourseLaws.{Going, going_start, going_next, none_left, one_gone, one_within, one_part, partway_start, single_gone, end_whole, end_messages, end_part, end_refused, end_acted, end_gone}
use Rattle.pv_steps.proofs.CarryingLaws.{refused_passed}
use Rattle.pv_create.specs.Recovery.{Recovers}
use Rattle.pv_walk.proofs.OperationLaws.{object_states-same}
use Rattle.pv_laws.proofs.Moments.{created_same}
use Rattle.pv_laws.proofs.Sets.{impossible}
use Rattle.pv_steps.specs.Runs.{after_all}
use Rattle.pv_steps.specs.Same.{Same}
use Rattle.pv_walk.specs.Edits.{Pruned}
use Rattle.pv_lines.specs.declared.line.Line.{Line}
use Rattle.pv_remove.proofs.RunLaws.{removal_recovered, purge_recovered}
use Rattle.pv_steps.specs.Acting.{refused, Acted}
use Rattle.pv_steps.specs.Content.{Removes}
use Rattle.pv_steps.specs.declared.step.Step.{Step}
use Rattle.pv_steps.specs.declared.tree.Tree.{Ghosts}
use Rattle.pv_steps.specs.declared.tree.TreeFault.{TreeFault}
use Rattle.pv_steps.specs.declared.tree.TreeFault.TheVariants.{Failed, Memory}
use Rattle.pv_steps.specs.Trees.{Files, IsTree, places}
use Rattle.pv_steps.proofs.ActingLaws.{Moves}
use Rattle.pv_steps.proofs.RunLaws.{ran_none}
use Rattle.pv_table.specs.Active.{in_create_order}
use Rattle.pv_table.specs.Cleaned.{is_aged}
use Rattle.pv_table.specs.Created.{created}
use Rattle.pv_steps.specs.Doing.{after_each, messages_for_each, one_is_refused, taken_by_each}
use Rattle.pv_table.specs.Removed.{is_gone, is_purged}
use Rattle.pv_text.specs.GivenMessages.{MessagesPart}
use Rattle.provision_run.specs.Booted.{booted, BootRecovers}
use Rattle.provision_run.specs.Phases.{boot_phases, is_boot, RecoversBy, is_step_of, left_by, most_steps_of, falls_short, on_way, phase_cut, phase_whole, phases_course, messages_in}
use Rattle.provision_run.specs.declared.phase.Phase.{Phase}
use Rattle.provision_run.specs.declared.phase.Phase.TheVariants.{Remove, Clean, Create, Purge}
use Rattle.provision_run.proofs.BootLaws.{booted_same}
use Rattle.pv_path.proofs.Tests.{next_item}
use Rattle.pv_walk.proofs.SweepLaws.{pruned-none}

-- ---- nothing done

pub phase_start : (lines : List Line) (now : ℕ) (phase : Phase) (t : Files) → on_way lines now phase t t
phase_start lines now Remove t = pruned-none (is_gone lines t) t
phase_start lines now Clean t = pruned-none (is_aged lines now t) t
phase_start lines now Create t = partway_start (lines_course now) (line_start now) (in_create_order lines) t
phase_start lines now Purge t = pruned-none (is_purged lines t) t

-- a create run that has done nothing recovers
nothing_recovered : (lines : List Line) (now : ℕ) (t : Files) (h : List Step) → Recovers lines now t (drop (length h) h)
nothing_recovered lines now t h n later repeatable quiet again =
    let none : take n (drop (length h) h) ≡ [] = ap (take n) (drop-length h) ∙ take-nil n in
    subst (λ (steps : List Step). Same (created lines later (after_all t steps now)) (created lines now t)) (sym none)
    (λ q plain. object_states-same (places (created lines later t)) (places (created lines now t)) q (created_same lines later now t t (λ p. refl) q))

-- of a run of one phase what its stop law says; of several phases nothing
abbrev pub RecoversAlone : List Phase → List Line → ℕ → Files → List Step → Type 0
RecoversAlone (phase ∷ []) lines now t steps = RecoversBy (phase ∷ []) lines now t steps
RecoversAlone phases lines now t steps = ⊤

-- ---- the boot command

-- of phases one after the other that are not its own nothing is said
module _ (lines : List Line) (now : ℕ) (t : Files) (steps : List Step) where
  pub phases_recover : (phases : List Phase) → is_boot phases ≡ false → RecoversAlone phases lines now t steps → RecoversBy phases lines now t steps
  phases_recover [] e alone = tt
  phases_recover (phase ∷ []) e alone = alone
  phases_recover (Remove ∷ Create ∷ []) e alone = impossible (sym e)
  phases_recover (Remove ∷ Create ∷ more ∷ phases) e alone = tt
  phases_recover (Remove ∷ Remove ∷ phases) e alone = tt
  phases_recover (Remove ∷ Clean ∷ phases) e alone = tt
  phases_recover (Remove ∷ Purge ∷ phases) e alone = tt
  phases_recover (Clean ∷ more ∷ phases) e alone = tt
  phases_recover (Create ∷ more ∷ phases) e alone = tt
  phases_recover (Purge ∷ more ∷ phases) e alone = tt

-- the phases of the boot command are these
pub boot_is : (phases : List Phase) → is_boot phases ≡ true → phases ≡ boot_phases
boot_is [] e = impossible e
boot_is (Remove ∷ []) e = impossible e
boot_is (Remove ∷ Create ∷ []) e = refl
boot_is (Remove ∷ Create ∷ more ∷ phases) e = impossible e
boot_is (Remove ∷ Remove ∷ phases) e = impossible e
boot_is (Remove ∷ Clean ∷ phases) e = impossible e
boot_is (Remove ∷ Purge ∷ phases) e = impossible e
boot_is (Clean ∷ phases) e = impossible e
boot_is (Create ∷ phases) e = impossible e
boot_is (Purge ∷ phases) e = impossible e

-- a run that has done nothing recovers
module _ (lines : List Line) (now : ℕ) (t : Files) (h : List Step) (fits : now < 2 ^ 64) (tree : IsTree t) where
  one_none : (phase : Phase) → RecoversBy (phase ∷ []) lines now t (drop (length h) h)
  one_none Remove =
      removal_recovered lines (Removes (is_gone lines t)) now t h t h fits tree
      (ran_none (Pruned (is_gone lines t) t) (Removes (is_gone lines t)) now t h t h (pruned-none (is_gone lines t) t) refl refl)
  one_none Clean =
      takes_only (is_aged lines now t) t (IsCleanStep (is_aged lines now t) t) now h t h
      (ran_none (Pruned (is_aged lines now t) t) (IsCleanStep (is_aged lines now t) t) now t h t h (pruned-none (is_aged lines now t) t) refl refl)
  one_none Create = nothing_recovered lines now t h
  one_none Purge =
      purge_recovered lines (Removes (is_purged lines t)) now t h t h fits tree
      (ran_none (Pruned (is_purged lines t) t) (Removes (is_purged lines t)) now t h t h (pruned-none (is_purged lines t) t) refl refl)

  alone_none : (phases : List Phase) → RecoversAlone phases lines now t (drop (length h) h)
  alone_none [] = tt
  alone_none (phase ∷ []) = one_none phase
  alone_none (phase ∷ other ∷ phases) = tt

  boot_none : BootRecovers lines now t (drop (length h) h)
  boot_none n later repeatable copies whole quiet again =
      let none : take n (drop (length h) h) ≡ [] = ap (take n) (drop-length h) ∙ take-nil n in
      subst (λ (steps : List Step). Same (booted lines later (after_all t steps now)) (booted lines now t)) (sym none) (booted_same lines later now t)

  pub none_recovered : (phases : List Phase) → RecoversBy phases lines now t (drop (length h) h)
  none_recovered phases = by (is_boot phases) refl
    where
      by : (b : Bool) → is_boot phases ≡ b → RecoversBy phases lines now t (drop (length h) h)
      by true e = subst (λ (ps : List Phase). RecoversBy ps lines now t (drop (length h) h)) (sym (boot_is phases e)) boot_none
      by false e = phases_recover lines now t (drop (length h) h) phases e (alone_none phases)

-- ---- a phase that was cut short

-- one that says what it says after its last step
module _ {S : Type 0} (tree : Ghosts S) (lines : List Line) (now : ℕ) (phase : Phase) (a d : S) (old new : List (List ℕ)) (r : Result Carried TreeFault) (silent : IsErrOf r Failed → new ≡ old) where
  failed_of : (v : Result Carried TreeFault) → refused v ≡ 1 → IsErrOf v Failed
  failed_of (Ok x) one = absurd (let no : ◌≡◌ {A = ℕ} 0 1 = one in omega (arith, no))
  failed_of (Err Failed) one = refl
  failed_of (Err Memory) one = absurd (let no : ◌≡◌ {A = ℕ} 0 1 = one in omega (arith, no))

  pub quiet_gone : MessagesPart (messages_in lines now phase (tree.state a)) old new
      → Acted tree (on_way lines now phase (tree.state a)) (is_step_of lines now phase (tree.state a)) (most_steps_of lines now phase (tree.state a)) now a d r
      → HasGone tree (λ steps new_messages. AtWork (phase_whole lines now) (on_way lines now) (is_step_of lines now) now (refused r) phase (tree.state a) steps new_messages × (refused r ≡ 1 → new_messages ≡ [])) now a d old new
  quiet_gone part acted =
      let one = single_gone (single (phase_whole lines now) (on_way lines now) (is_step_of lines now)) (λ moment refused x t done new_messages work. work) tree phase now a d old new part acted in
      record {
        steps = one.steps;
        texts = one.texts;
        recorded = one.recorded;
        reached = one.reached;
        new_messages = one.new_messages;
        is = (one.is, λ failed. append_cancel_left old one.texts [] (sym one.new_messages ∙ silent (failed_of r failed) ∙ sym (append-nil old)));
      }

-- ---- some phases are done

-- the first phase begins where the run began, and crash safety holds so far
pub record Recovering {S : Type 0} (tree : Ghosts S) (lines : List Line) (now : ℕ) (all : List Phase) (i : ℕ) (a b : S) : Type 0 where
  pub still : i ≡ 0 → b ≡ a
  pub law : RecoversAlone all lines now (tree.state a) (drop (length (tree.steps a)) (tree.steps b))

pub record OnPhases {S : Type 0} (tree : Ghosts S) (lines : List Line) (now : ℕ) (all : List Phase) (i : ℕ) (carried : Carried) (a b : S) (old new : List (List ℕ)) : Type 0 where
  pub refused : Bool
  pub ended : carried ≡ carried_of refused
  pub going : Going (phases_course lines now) tree all (drop i all) now refused a b old new
  pub recovering : Recovering tree lines now all i a b

module _ {S : Type 0} (tree : Ghosts S) (moves : Moves tree) (lines : List Line) (now : ℕ) (all : List Phase) (a : S) (old : List (List ℕ)) where
  abbrev t : Files
  t = tree.state a

  abbrev start : (x : Phase) (u : Files) → on_way lines now x u u
  start = phase_start lines now

  pub phases_start : now < 2 ^ 64 → IsTree t → OnPhases tree lines now all 0 Whole a a old old
  phases_start fits is = record {
    refused = false;
    ended = refl;
    going = going_start (phases_course lines now) tree moves start all now a old;
    recovering = record { still = λ none. refl; law = alone_none lines now t (tree.steps a) fits is all };
  }

  -- ---- one more

  module _ (i : ℕ) (phase : Phase) (within : i < length all) (is : phase ≡ get_or all i phase) (carried : Carried) (b : S) (new : List (List ℕ)) (run : OnPhases tree lines now all i carried a b old new) where
    abbrev rest : List Phase
    rest = drop (i + 1) all

    next : drop i all ≡ phase ∷ rest
    next = next_item all i phase within is

    going : Going (phases_course lines now) tree all (phase ∷ rest) now run.refused a b old new
    going = subst (λ ps. Going (phases_course lines now) tree all ps now run.refused a b old new) next run.going

    pub phases_part : (new_messages : List (List ℕ)) → MessagesPart (messages_in lines now phase (tree.state b)) new new_messages → MessagesPart (messages_for_each (phases_course lines now).whole all t) old new_messages
    phases_part new_messages part = one_part (phases_course lines now) tree moves start all now a old rest phase run.refused b new going new_messages part

    pub phases_acted : {B : Type 0} {d : S} {r : Result B TreeFault} → Acted tree (on_way lines now phase (tree.state b)) (is_step_of lines now phase (tree.state b)) (most_steps_of lines now phase (tree.state b)) now b d r
        → Acted tree (Partway (phases_course lines now) all t) (IsStepOfSome (phases_course lines now) all t) (taken_by_each (phases_course lines now).whole all t) now a d r
    phases_acted one = one_within (phases_course lines now) tree moves start all now a old rest phase run.refused b new going one

    pub phases_gone : {B C : Type 0} {e : TreeFault} (d : S) (new_messages : List (List ℕ)) (q : Result B TreeFault) (r : Result C TreeFault) → q ≡ Err e → IsErrAnd r (λ y. y ≡ e)
        → HasGone tree (phase_cut lines now (refused q) phase (tree.state b)) now b d new new_messages → HasGone tree (Cut (phases_course lines now) now (refused r) all t) now a d old new_messages
    phases_gone d new_messages q r was passed one =
        subst (λ n. HasGone tree (Cut (phases_course lines now) now n all t) now a d old new_messages) (refused_passed q r was passed)
        (one_gone (phases_course lines now) tree moves start all now a old rest phase run.refused b new going (refused q) d new_messages one)

    pub phases_recovered : (d : S) → RecoversBy (phase ∷ []) lines now (tree.state b) (drop (length (tree.steps b)) (tree.steps d)) → RecoversAlone all lines now t (drop (length (tree.steps a)) (tree.steps d))
    phases_recovered d one = by all i within is run.recovering.still
      where
        by : (phases : List Phase) (j : ℕ) → j < length phases → phase ≡ get_or phases j phase → (j ≡ 0 → b ≡ a) → RecoversAlone phases lines now t (drop (length (tree.steps a)) (tree.steps d))
        by [] j in_it at still = tt
        by (p ∷ []) zero in_it at still =
            subst (λ (x : Phase). RecoversBy (x ∷ []) lines now t (drop (length (tree.steps a)) (tree.steps d))) at
            (subst (λ (x : S). RecoversBy (phase ∷ []) lines now (tree.state x) (drop (length (tree.steps x)) (tree.steps d))) (still refl) one)
        by (p ∷ []) (suc j) in_it at still = absurd (omega (arith, in_it))
        by (p ∷ q ∷ phases) j in_it at still = tt

    pub phases_next : {B : Type 0} (d : S) {y : B} (new_messages : List (List ℕ)) (ended : Carried) → tree.state d ≡ left_by lines now phase (tree.state b) → new_messages ≡ new ++ messages_in lines now phase (tree.state b)
        → Acted tree (on_way lines now phase (tree.state b)) (is_step_of lines now phase (tree.state b)) (most_steps_of lines now phase (tree.state b)) now b d (Ok y)
        → HasGone tree (phase_cut lines now 0 phase (tree.state b)) now b d new new_messages
        → RecoversBy (phase ∷ []) lines now (tree.state b) (drop (length (tree.steps b)) (tree.steps d))
        → ((yet : Bool) → carried ≡ carried_of yet → ended ≡ carried_of (yet || falls_short lines now phase (tree.state b)))
        → OnPhases tree lines now all (i + 1) ended a d old new_messages
    phases_next d {y} new_messages ended done says one gone law counts = record {
      refused = run.refused || falls_short lines now phase (tree.state b);
      ended = counts run.refused run.ended;
      going = going_next (phases_course lines now) tree moves start all now a old rest phase run.refused b new going d {y = y} new_messages done says one gone;
      recovering = record { still = λ none. absurd (omega (arith, none)); law = phases_recovered d law };
    }

  -- ---- all are done

  module _ (i : ℕ) (past : length all ≤ i) (carried : Carried) (b : S) (new : List (List ℕ)) (run : OnPhases tree lines now all i carried a b old new) where
    all_done : Going (phases_course lines now) tree all [] now run.refused a b old new
    all_done = subst (λ ps. Going (phases_course lines now) tree all ps now run.refused a b old new) (none_left all i past) run.going

    pub phases_whole : tree.state b ≡ after_each (phases_course lines now).whole all t
    phases_whole = end_whole (phases_course lines now) tree moves start all now a old run.refused b new all_done

    pub phases_messages : new ≡ old ++ messages_for_each (phases_course lines now).whole all t
    phases_messages = end_messages (phases_course lines now) tree moves start all now a old run.refused b new all_done

    pub phases_told : MessagesPart (messages_for_each (phases_course lines now).whole all t) old new
    phases_told = end_part (phases_course lines now) tree moves start all now a old run.refused b new all_done

    pub phases_ended : carried ≡ carried_of (one_is_refused (phases_course lines now).whole all t)
    phases_ended = run.ended ∙ ap carried_of (end_refused (phases_course lines now) tree moves start all now a old run.refused b new all_done)

    pub phases_done : {B : Type 0} (r : Result B TreeFault) → refused r ≡ 0
        → Acted tree (Partway (phases_course lines now) all t) (IsStepOfSome (phases_course lines now) all t) (taken_by_each (phases_course lines now).whole all t) now a b r
    phases_done r none_refused = end_acted (phases_course lines now) tree moves start all now a old run.refused b new all_done r none_refused

    pub phases_went : HasGone tree (Cut (phases_course lines now) now 0 all t) now a b old new
    phases_went = end_gone (phases_course lines now) tree moves start all now a old run.refused b new all_done

-- what holds of some lines and phases holds of those that are the same
pub both : (P : List Line → List Phase → Type 0) {lines others : List Line} {phases more : List Phase} → lines ≡ others → phases ≡ more → P lines phases → P others more
both P {lines} {others} {phases} {more} e f x = subst (λ (ps : List Phase). P others ps) f (subst (λ (ls : List Line). P ls phases) e x)

-- a step that was refused to a call was refused to the one that passed its fault on
pub failed_before : {A B : Type 0} {e : TreeFault} (q : Result A TreeFault) (r : Result B TreeFault) → q ≡ Err e → IsErrAnd r (λ y. y ≡ e) → IsErrOf r Failed → IsErrOf q Failed
failed_before q (Ok x) was given failed = absurd given
failed_before q (Err f) was given failed = let is : f ≡ Failed = cc in was ∙ ap Err (sym given) ∙ ap Err is
