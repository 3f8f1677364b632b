-- Phases none of whose lines may change what lines are read from leave presence, kind and payload at each path from which
-- lines are read, after each of their steps, whatever is refused.
use Rattle.std.specs.Prelude.{◌≡◌, ◌<◌, ◌^◌, ℕ, Bool, true, false, List, [], ◌∷◌, length, take, drop, is_some}
use Rattle.std.proofs.Common.{refl, sym, ap, subst, ◌∙◌, inl, inr}
use Rattle.std.proofs.Math.Seq.{drop-append_seam}
use Rattle.std.specs.List.{AllByRecursion}
use Rattle.pv_clean.proofs.InputLaws.{cleaning_leaves, named_unaged}
use Rattle.pv_create.proofs.BridgeLaws.{partway_whole}
use Rattle.pv_create.proofs.InputLaws.{all_away, held, held_of, lines_held}
use Rattle.pv_create.proofs.LeavingInput.{all_input_left, held_some, IsOutsideFolders, lines_outside}
use Rattle.pv_create.specs.OnTheWay.{lines_course}
use Rattle.pv_steps.specs.Courses.{Partway, IsStepOfSome}
use Rattle.pv_walk.specs.Nodes.{object_states_of}
use Rattle.pv_walk.proofs.OperationLaws.{object_states_of-same}
use Rattle.pv_laws.proofs.Making.{IsShaped, nothing_unnamed}
use Rattle.pv_laws.proofs.Shapes.{tree_shaped}
use Rattle.pv_layers.specs.Places.{is_input}
use Rattle.pv_lines.specs.declared.line.Line.{Line}
use Rattle.pv_lines.specs.Lines.{IsLine}
use Rattle.pv_path.specs.Paths.{Path, has_names, has_staging, is_prefix}
use Rattle.pv_path.proofs.Tests.{all_take}
use Rattle.pv_remove.proofs.InputLaws.{named_ungone, named_unpurged}
use Rattle.pv_steps.specs.declared.step.Step.{Step}
use Rattle.pv_steps.specs.Content.{alters, content_of}
use Rattle.pv_steps.specs.Objects.{changed, modified}
use Rattle.pv_steps.specs.Runs.{after_all, Ran}
use Rattle.pv_steps.specs.Trees.{Files, IsTree, places}
use Rattle.pv_steps.proofs.ContentLaws.{removal_inside}
use Rattle.pv_steps.proofs.RunLaws.{along_prefix, along_trees}
use Rattle.pv_table.proofs.ListedLaws.{all_in_order, all_map}
use Rattle.pv_table.specs.declared.reason.Reason.TheVariants as reason
use Rattle.pv_table.specs.Active.{in_create_order}
use Rattle.pv_table.specs.Cleaned.{is_aged}
use Rattle.pv_table.specs.Created.{created}
use Rattle.pv_table.specs.Removed.{is_gone, is_purged}
use Rattle.pv_table.specs.Repeatable.{HasReason}
use Rattle.provision_run.specs.Booted.{KeepsInput}
use Rattle.provision_run.specs.Phases.{is_step_of, left_by, on_way, phases_course}
use Rattle.provision_run.specs.declared.phase.Phase.{Phase}
use Rattle.provision_run.specs.declared.phase.Phase.TheVariants.{Remove, Clean, Create, Purge}
use Rattle.provision_run.proofs.PhaseFrameLaws.{kept_object_state, left_shaped}

module _ (lines : List Line) (are : AllByRecursion IsLine lines) (free : (i : ℕ) → HasReason lines i reason.Input → ⊥) (now : ℕ) where
  -- what can be seen of a path without a staging name
  module _ (q : Path) (input : is_input q ≡ true) (named : has_names q ≡ true) (plain : has_staging q ≡ false) where
    lines_stay : (t u : Files) → IsShaped (object_states_of (places t)) → Partway (lines_course now) (in_create_order lines) t u → held (object_states_of (places u) q) ≡ held (object_states_of (places t) q)
    lines_stay t u shape way = lines_held now q input named plain (in_create_order lines) (all_in_order IsLine lines are) (all_away lines are free) t u shape way

    way_held : (phase : Phase) (t u : Files) → IsShaped (object_states_of (places t)) → on_way lines now phase t u → held (object_states_of (places u) q) ≡ held (object_states_of (places t) q)
    way_held Remove t u shape way = ap held (object_states_of-same (places u) (places t) q (way.outside q (named_ungone lines are free t q input named)))
    way_held Clean t u shape way = ap held (object_states_of-same (places u) (places t) q (way.outside q (named_unaged lines free now t q input named)))
    way_held Create t u shape way = lines_stay t u shape way
    way_held Purge t u shape way = ap held (object_states_of-same (places u) (places t) q (way.outside q (named_unpurged lines are free t q input named)))

    left_held : (phase : Phase) (t : Files) → IsShaped (object_states_of (places t)) → held (object_states_of (places (left_by lines now phase t)) q) ≡ held (object_states_of (places t) q)
    left_held Remove t shape = ap held (kept_object_state (is_gone lines t) (modified now) (λ o. refl) t q (named_ungone lines are free t q input named))
    left_held Clean t shape = ap held (kept_object_state (is_aged lines now t) (changed now) (λ o. refl) t q (named_unaged lines free now t q input named))
    left_held Create t shape = lines_stay t (created lines now t) shape (partway_whole (lines_course now) (in_create_order lines) t (created lines now t) (λ p object_state. refl))
    left_held Purge t shape = ap held (kept_object_state (is_purged lines t) (modified now) (λ o. refl) t q (named_unpurged lines are free t q input named))

    phases_held : (phases : List Phase) (t u : Files) → IsShaped (object_states_of (places t)) → Partway (phases_course lines now) phases t u → held (object_states_of (places u) q) ≡ held (object_states_of (places t) q)
    phases_held [] t u shape same = ap held (sym (object_states_of-same (places t) (places u) q (same q plain)))
    phases_held (phase ∷ phases) t u shape (inl way) = way_held phase t u shape way
    phases_held (phase ∷ phases) t u shape (inr later) = phases_held phases (left_by lines now phase t) u (left_shaped lines are now phase t shape) later ∙ left_held phase t shape

  -- what lies under a staging name below a folder
  module _ (f q : Path) (plain : has_staging f ≡ false) (under : is_prefix f q ≡ true) (staged : has_staging q ≡ true) (own : is_input f ≡ true) (known : has_names f ≡ true)
      (input : is_input q ≡ true) (named : has_names q ≡ true) (step : Step) where
    phase_outside : (phase : Phase) (t : Files) → IsShaped (object_states_of (places t)) → is_some (object_states_of (places t) f) ≡ true → is_step_of lines now phase t step → alters step q ≡ false
    phase_outside Remove t shape there given = removal_inside (is_gone lines t) step q given (named_ungone lines are free t q input named)
    phase_outside Clean t shape there given = cleaning_leaves (is_aged lines now t) t step q given (named_unaged lines free now t q input named)
    phase_outside Create t shape there given =
        lines_outside f q plain under staged step now own known (in_create_order lines) (all_in_order IsLine lines are) (all_away lines are free) t shape there given
    phase_outside Purge t shape there given = removal_inside (is_purged lines t) step q given (named_unpurged lines are free t q input named)

    phases_outside : (phases : List Phase) (t : Files) → IsShaped (object_states_of (places t)) → is_some (object_states_of (places t) f) ≡ true → IsStepOfSome (phases_course lines now) phases t step → alters step q ≡ false
    phases_outside [] t shape there none = absurd none
    phases_outside (phase ∷ phases) t shape there (inl given) = phase_outside phase t shape there given
    phases_outside (phase ∷ phases) t shape there (inr later) =
        phases_outside phases (left_by lines now phase t) (left_shaped lines are now phase t shape)
        (sym (held_some (object_states_of (places (left_by lines now phase t)) f)) ∙ ap is_some (left_held f own known plain phase t shape) ∙ held_some (object_states_of (places t) f) ∙ there)
        later

  -- at each moment on the way that was reached by steps of the phases
  pub phases_leave_input : (phases : List Phase) (t : Files) (steps : List Step) → IsTree t → IsTree (after_all t steps now) → Partway (phases_course lines now) phases t (after_all t steps now)
      → AllByRecursion (IsStepOfSome (phases_course lines now) phases t) steps → (q : Path) → is_input q ≡ true → content_of (places (after_all t steps now) q) ≡ content_of (places t q)
  phases_leave_input phases t steps tree there way gives = all_input_left now t tree steps there plain_left
      (all_map (IsStepOfSome (phases_course lines now) phases t) (IsOutsideFolders t)
      (λ step given f q plain under staged own known input named found. phases_outside f q plain under staged own known input named step phases t shape found given)
      steps gives)
    where
      shape : IsShaped (object_states_of (places t))
      shape = tree_shaped (places t) tree

      plain_left : (q : Path) → is_input q ≡ true → has_staging q ≡ false → content_of (places (after_all t steps now) q) ≡ content_of (places t q)
      plain_left q input plain =
          held_of (places (after_all t steps now) q)
          ∙ by (has_names q) refl
          ∙ sym (held_of (places t q))
        where
          by : (b : Bool) → has_names q ≡ b → held (object_states_of (places (after_all t steps now)) q) ≡ held (object_states_of (places t) q)
          by true named = phases_held q input named plain phases t (after_all t steps now) shape way
          by false none = ap held (nothing_unnamed (object_states_of (places (after_all t steps now))) (tree_shaped (places (after_all t steps now)) there) q plain none ∙ sym (nothing_unnamed (object_states_of (places t)) shape q plain none))

-- so after each number of the steps of a run
module _ (lines : List Line) (are : AllByRecursion IsLine lines) (now : ℕ) (phases : List Phase) (fits : now < 2 ^ 64) (t : Files) (tree : IsTree t) where
  pub phases_keep_input : (h : List Step) (u : Files) (k : List Step) → Ran (Partway (phases_course lines now) phases t) (IsStepOfSome (phases_course lines now) phases t) now t h u k → KeepsInput lines now t (drop (length h) k)
  phases_keep_input h u k run =
      subst (KeepsInput lines now t) (sym (ap (drop (length h)) run.recorded ∙ drop-append_seam h run.steps)) (λ free n.
      phases_leave_input lines are free now phases t (take n run.steps) tree
      (along_prefix IsTree t run.steps now n (along_trees (Partway (phases_course lines now) phases t) t run.steps now fits tree run.along))
      (along_prefix (Partway (phases_course lines now) phases t) t run.steps now n run.along)
      (all_take (IsStepOfSome (phases_course lines now) phases t) n run.steps run.gives))
