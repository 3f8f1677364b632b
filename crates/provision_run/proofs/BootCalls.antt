-- Removing and creating as the two phases of the boot command: one that failed, and both.
use Rattle.std.specs.Prelude.{◌≡◌, ℕ, Bool, true, false, ◌||◌, List, [], ◌∷◌, ◌++◌, Result, Ok, Err, IfOk, IsErrAnd, OnOk}
use Rattle.std.proofs.Common.{refl}
use Rattle.pv_create.specs.OnTheWay.{lines_course}
use Rattle.pv_steps.specs.Courses.{Partway, IsStepOfSome, carried_of, each_of, CarriesOut, Cut, HasGone}
use Rattle.pv_steps.specs.declared.carried.Carried.{Carried}
use Rattle.pv_steps.specs.declared.carried.Carried.TheVariants.{Whole, NotCarriedOut}
use Rattle.pv_steps.proofs.CarryingLaws.{Underway, underway_start, underway_failed, underway_next, underway_end}
use Rattle.pv_lines.specs.declared.line.Line.{Line}
use Rattle.pv_remove.specs.Ended.{TakesAway}
use Rattle.pv_steps.specs.declared.tree.Tree.{Ghosts}
use Rattle.pv_steps.specs.declared.tree.TreeFault.{TreeFault}
use Rattle.pv_steps.specs.Acting.{refused, Acted}
use Rattle.pv_steps.proofs.ActingLaws.{Moves}
use Rattle.pv_table.specs.Active.{in_create_order}
use Rattle.pv_table.specs.Created.{created, created_messages, some_refusal_counts, work}
use Rattle.pv_table.specs.Removed.{is_gone, is_unfinished, removed_messages}
use Rattle.pv_text.specs.GivenMessages.{MessagesPart}
use Rattle.provision_run.specs.Phases.{boot_phases, phases_course}
use Rattle.provision_run.specs.declared.phase.Phase.TheVariants.{Remove, Create}
use Rattle.provision_run.proofs.PhaseLaws.{phase_start, quiet_gone}

module _ {S : Type 0} (tree : Ghosts S) (lines : List Line) (now : ℕ) where
  -- ---- each call as a phase

  pub removing_out : (a d : S) (old new : List (List ℕ)) (r : Result Carried TreeFault)
      → TakesAway tree (is_gone lines (tree.state a)) (removed_messages lines (tree.state a)) (is_unfinished lines (tree.state a)) now a d old new r
      → CarriesOut tree (phases_course lines now) Remove now a d old new r
  removing_out a d old new r took = record {
    ok = took.ok;
    new_messages = took.new_messages;
    carried = took.carried;
    part = took.part;
    acted = took.acted;
    went = quiet_gone tree lines now Remove a d old new r took.silent took.part took.acted;
  }

  pub creating_out : (a d : S) (old new : List (List ℕ)) (r : Result Carried TreeFault)
      → OnOk r (tree.state d ≡ created lines now (tree.state a)) → OnOk r (new ≡ old ++ created_messages lines now (tree.state a)) → IfOk r (λ c. c ≡ carried_of (some_refusal_counts lines now (tree.state a)))
      → MessagesPart (created_messages lines now (tree.state a)) old new
      → Acted tree (Partway (lines_course now) (in_create_order lines) (tree.state a)) (IsStepOfSome (lines_course now) (in_create_order lines) (tree.state a)) (work lines now (tree.state a)) now a d r
      → HasGone tree (Cut (lines_course now) now (refused r) (in_create_order lines) (tree.state a)) now a d old new
      → CarriesOut tree (phases_course lines now) Create now a d old new r
  creating_out a d old new r ok new_messages carried part acted went = record { ok = ok; new_messages = new_messages; carried = carried; part = part; acted = acted; went = went }

  -- ---- one after the other

  -- the first ends as it does
  first_ended : (one : Carried) (p q : Bool) → Whole ≡ carried_of p → one ≡ carried_of q → one ≡ carried_of (p || q)
  first_ended one true q e h = absurd (let no : Whole ≡ NotCarriedOut = e in cc)
  first_ended one false q e h = h

  module _ (moves : Moves tree) (a : S) (old : List (List ℕ)) where
    begun : Underway tree (phases_course lines now) boot_phases boot_phases now Whole a a old old
    begun = underway_start tree moves (phases_course lines now) (phase_start lines now) boot_phases now a old

    pub removing_failed : (d : S) (new : List (List ℕ)) {e : TreeFault} (q r : Result Carried TreeFault) → q ≡ Err e → IsErrAnd r (λ y. y ≡ e) → CarriesOut tree (phases_course lines now) Remove now a d old new q
        → CarriesOut tree (each_of (phases_course lines now)) boot_phases now a d old new r
    removing_failed d new q r was passed one =
        underway_failed tree moves (phases_course lines now) (phase_start lines now) boot_phases now a old boot_phases (Create ∷ []) Remove refl Whole a old begun d new q r was passed one

    module _ (b : S) (mid : List (List ℕ)) (one : Carried) (done : CarriesOut tree (phases_course lines now) Remove now a b old mid (Ok one)) (d : S) (new : List (List ℕ)) where
      half : Underway tree (phases_course lines now) boot_phases (Create ∷ []) now one a b old mid
      half = underway_next tree moves (phases_course lines now) (phase_start lines now) boot_phases now a old boot_phases (Create ∷ []) Remove refl Whole a old begun b mid one one done (first_ended one)

      pub creating_failed : {e : TreeFault} (q r : Result Carried TreeFault) → q ≡ Err e → IsErrAnd r (λ y. y ≡ e) → CarriesOut tree (phases_course lines now) Create now b d mid new q
          → CarriesOut tree (each_of (phases_course lines now)) boot_phases now a d old new r
      creating_failed q r was passed two =
          underway_failed tree moves (phases_course lines now) (phase_start lines now) boot_phases now a old (Create ∷ []) [] Create refl one b mid half d new q r was passed two

      pub both_done : (two ended : Carried) → CarriesOut tree (phases_course lines now) Create now b d mid new (Ok two) → ((p q : Bool) → one ≡ carried_of p → two ≡ carried_of q → ended ≡ carried_of (p || q))
          → CarriesOut tree (each_of (phases_course lines now)) boot_phases now a d old new (Ok ended)
      both_done two ended made counts =
          underway_end tree moves (phases_course lines now) (phase_start lines now) boot_phases now a old [] refl ended d new
          (underway_next tree moves (phases_course lines now) (phase_start lines now) boot_phases now a old (Create ∷ []) [] Create refl one b mid half d new two ended made counts)
