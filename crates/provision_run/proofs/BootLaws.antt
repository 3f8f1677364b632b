-- Crash safety of the boot command: a run of removing and then creating that was stopped recovers by a complete one.
use Rattle.std.specs.Prelude.{◌≡◌, ◌⊎◌, ℕ, ◌<◌, ◌^◌, Bool, true, false, cond, List, [], ◌∷◌, ◌++◌, length, take, drop, Option, Some, None, is_some, option_map}
use Rattle.std.proofs.Common.{refl, sym, ap, subst, ◌∙◌, inl, inr, arith}
use Rattle.std.proofs.Math.Seq.{drop-append_seam}
use Rattle.std.specs.List.{AllByRecursion}
use Rattle.pv_create.specs.OnTheWay.{IsGiven, GiveWhatLinesLeave, lines_course}
use Rattle.pv_create.proofs.BridgeLaws.{partway_whole, run_way}
use Rattle.pv_create.proofs.StepLaws.{removed_gives, step_given}
use Rattle.pv_steps.specs.Courses.{Partway, IsStepOfSome}
use Rattle.pv_walk.specs.declared.object_state.ObjectState.{ObjectState}
use Rattle.pv_walk.specs.Edits.{Pruned}
use Rattle.pv_walk.specs.Nodes.{object_state_of, object_states_of}
use Rattle.pv_walk.specs.Operations.{run}
use Rattle.pv_walk.proofs.OperationLaws.{object_states_of-same, object_states-same}
use Rattle.pv_laws.specs.Between.{IsOnTheWay}
use Rattle.pv_laws.specs.Moments.{Agree, SameObjectStates}
use Rattle.pv_laws.specs.Copying.{PartwayOf}
use Rattle.pv_laws.specs.Stopping.{CopiesNothing, IsPiece}
use Rattle.pv_laws.proofs.CopyWays.{copies_on_the_way}
use Rattle.pv_laws.proofs.Making.{is_dir, IsShaped, same_unnamed}
use Rattle.pv_laws.proofs.Moments.{created_same, quiet_same}
use Rattle.pv_laws.proofs.Sets.{impossible}
use Rattle.pv_laws.proofs.Shapes.{tree_shaped}
use Rattle.pv_laws.proofs.Stops.{created_point, in_order_plain, partway_piece, piece_recovers}
use Rattle.pv_lines.specs.declared.line.Line.{Line}
use Rattle.pv_lines.specs.Lines.{IsLine}
use Rattle.pv_path.specs.Paths.{Path, has_names, has_staging}
use Rattle.pv_remove.proofs.AgainLaws.{goes_too, removed_tree}
use Rattle.pv_remove.proofs.StopLaws.{object_states-without, removal_recovers}
use Rattle.pv_table.proofs.GoingLaws.{told_prefix}
use Rattle.pv_steps.specs.declared.object.Object.{Object}
use Rattle.pv_steps.specs.declared.step.Step.{Step}
use Rattle.pv_steps.specs.Objects.{modified}
use Rattle.pv_steps.specs.Runs.{after_all, Ran}
use Rattle.pv_steps.specs.Same.{object_states, Same}
use Rattle.pv_steps.specs.Trees.{Files, IsTree, places}
use Rattle.pv_steps.proofs.RunLaws.{along_prefix, along_trees}
use Rattle.pv_table.specs.Active.{are_distinct, in_create_order}
use Rattle.pv_table.specs.Asked.{operations_of}
use Rattle.pv_table.specs.Created.{created, RefusesNoLine}
use Rattle.pv_table.specs.Pointwise.{ObjectStates}
use Rattle.pv_table.specs.Removed.{is_gone, is_unfinished, removed}
use Rattle.pv_table.specs.Repeatable.{IsRepeatable}
use Rattle.pv_table.proofs.ListedLaws.{all_in_order, all_map}
use Rattle.provision_run.specs.Booted.{booted, IsBootBetween, BootRecovers}
use Rattle.provision_run.specs.BootedAgain.{BootRecoversAgain, IsBootStoppedAgain, StoppedBoots}
use Rattle.provision_run.specs.Phases.{boot_phases, phases_course}
use Rattle.provision_run.specs.declared.phase.Phase.TheVariants.{Remove, Create}
use Rattle.provision_run.proofs.PhaseFrameLaws.{left_shaped}

-- a directory is there
some_directory : (b : Option ObjectState) → is_dir b ≡ true → (x : ObjectState) × (b ≡ Some x)
some_directory None h = impossible h
some_directory (Some x) h = (x, refl)

module _ (lines : List Line) where
  -- ---- what removing leaves, timestamps aside

  removed_object_state : (now : ℕ) (t : Files) (q : Path) → object_states (places (removed lines now t)) q ≡ cond (is_gone lines t q) None (object_states (places t) q)
  removed_object_state now t q = object_states-without (is_gone lines t) (modified now) (λ o. refl) t q

  absent : (now : ℕ) (t : Files) (q : Path) → is_gone lines t q ≡ true → object_states_of (places (removed lines now t)) q ≡ None
  absent now t q h = object_states_of-same (places (removed lines now t)) (λ p. None) q (removed_object_state now t q ∙ ap (λ b. cond b None (object_states (places t) q)) h)

  kept : (now : ℕ) (t : Files) (q : Path) → is_gone lines t q ≡ false → object_states_of (places (removed lines now t)) q ≡ object_states_of (places t) q
  kept now t q h = object_states_of-same (places (removed lines now t)) (places t) q (removed_object_state now t q ∙ ap (λ b. cond b None (object_states (places t) q)) h)

  -- it needs no moment
  pub removed_same : (now later : ℕ) (t : Files) → SameObjectStates (removed lines now t) (removed lines later t)
  removed_same now later t q = object_states_of-same (places (removed lines now t)) (places (removed lines later t)) q (removed_object_state now t q ∙ sym (removed_object_state later t q))

  -- nor does a complete run
  pub booted_same : (now later : ℕ) (t : Files) → Same (booted lines now t) (booted lines later t)
  booted_same now later t q plain =
      object_states-same (places (booted lines now t)) (places (booted lines later t)) q
      (created_same lines now later (removed lines now t) (removed lines later t) (removed_same now later t) q)

module _ (lines : List Line) (are : AllByRecursion IsLine lines) where
  shaped : (now : ℕ) (t : Files) → IsTree t → IsShaped (object_states_of (places (removed lines now t)))
  shaped now t tree = left_shaped lines are now Remove t (tree_shaped (places t) tree)

  -- ---- what a second removal takes was not there after the first

  module _ (t u : Files) (tree : IsTree t) (whole : is_unfinished lines t ≡ false) where
    gone_absent : (now : ℕ) (q : Path) → is_gone lines u q ≡ true → object_states_of (places (removed lines now t)) q ≡ None
    gone_absent now q gone = by (is_some (places t q)) refl (is_gone lines t q) refl
      where
        none : (o : Option Object) → is_some o ≡ false → option_map object_state_of o ≡ None
        none None e = refl
        none (Some x) e = cc

        by : (b : Bool) → is_some (places t q) ≡ b → (g : Bool) → is_gone lines t q ≡ g → object_states_of (places (removed lines now t)) q ≡ None
        by true there g h = absent lines now t q (goes_too lines are t tree whole u q gone there)
        by false unknown true h = absent lines now t q h
        by false unknown false h = kept lines now t q h ∙ none (places t q) unknown

  -- ---- on the way

  -- creating is on its way or done
  pub creating_way : (now : ℕ) (r u : Files) → Partway (phases_course lines now) (Create ∷ []) r u → Partway (lines_course now) (in_create_order lines) r u
  creating_way now r u (inl way) = way
  creating_way now r u (inr same) = partway_whole (lines_course now) (in_create_order lines) r u same

  -- after removing, as the laws of lines say
  law_way : (now : ℕ) (t u : Files) → IsTree t → Partway (phases_course lines now) (Create ∷ []) (removed lines now t) u → PartwayOf (in_create_order lines) now (removed lines now t) u
  law_way now t u tree way = run_way now (in_create_order lines) (removed lines now t) u (all_in_order IsLine lines are) (shaped now t tree) (creating_way now (removed lines now t) u way)

  -- on its way it removes, or each path is between two lines of creating
  pub boot_between : (now : ℕ) (t u : Files) → now < 2 ^ 64 → IsTree t → Partway (phases_course lines now) boot_phases t u
      → Pruned (is_gone lines t) t u ⊎ ((s : ObjectStates) → IsRepeatable lines → RefusesNoLine lines now (removed lines now t) → Agree s (removed lines now t) → IsOnTheWay lines s u)
  boot_between now t u fits tree (inl pruned) = inl pruned
  boot_between now t u fits tree (inr way) = inr (λ s repeatable quiet agree.
      copies_on_the_way lines now s (removed lines now t) u (removed_tree lines now t fits tree) quiet agree are repeatable (law_way now t u tree way))

  -- ---- any number of stopped runs

  none_past : 0 < 2 ^ 64
  none_past = omega arith

  -- from the first of these trees creating refuses no line after removing, at some moment
  quiet_first : (moments : List ℕ) (later : ℕ) (t u : Files) → StoppedBoots lines moments t u → RefusesNoLine lines later (removed lines later u) → (now : ℕ) × RefusesNoLine lines now (removed lines now t)
  quiet_first [] later t u same quiet = (later, subst (λ (v : Files). RefusesNoLine lines later (removed lines later v)) same quiet)
  quiet_first (now ∷ moments) later t u runs quiet = (now, runs.0)

  module _ (none : AllByRecursion CopiesNothing lines) (distinct : are_distinct lines ≡ true) (repeatable : IsRepeatable lines) (s : Files) (start : IsTree s) (whole : is_unfinished lines s ≡ false) where
    -- after removing, what the lines ask for ends at each path as from the first tree
    EndsAlike : Files → Type 0
    EndsAlike x = (q : Path) → has_staging q ≡ false → has_names q ≡ true
        → run (operations_of (in_create_order lines) q) (object_states_of (places (removed lines 0 x)) q) ≡ run (operations_of (in_create_order lines) q) (object_states_of (places (removed lines 0 s)) q)

    -- so after one more run that was cut short
    still_alike : (now : ℕ) (x v : Files) → IsTree x → IsTree v → RefusesNoLine lines now (removed lines now x) → Partway (phases_course lines now) boot_phases x v → EndsAlike x → EndsAlike v
    unfolding EndsAlike
    still_alike now x v tree there quiet (inl pruned) ends q plain named =
        ap (run (operations_of (in_create_order lines) q)) (object_states_of-same (places (removed lines 0 v)) (places (removed lines 0 x)) q (removal_recovers lines 0 0 x v there pruned q plain))
        ∙ ends q plain named
    still_alike now x v tree there quiet (inr way) ends q plain named = by (is_gone lines v q) refl
      where
        piece : IsPiece (in_create_order lines) q (object_states_of (places (removed lines now x)) q) (object_states_of (places v) q)
        piece = partway_piece (in_create_order lines) now (removed lines now x) v (in_order_plain lines are none) (shaped now x tree) quiet (law_way now x v tree way) q plain

        by : (b : Bool) → is_gone lines v q ≡ b → run (operations_of (in_create_order lines) q) (object_states_of (places (removed lines 0 v)) q) ≡ run (operations_of (in_create_order lines) q) (object_states_of (places (removed lines 0 s)) q)
        by true gone = ap (run (operations_of (in_create_order lines) q)) (absent lines 0 v q gone ∙ sym (gone_absent s v start whole 0 q gone))
        by false stays =
            ap (run (operations_of (in_create_order lines) q)) (kept lines 0 v q stays)
            ∙ piece_recovers lines are distinct repeatable q named (object_states_of (places (removed lines now x)) q) (object_states_of (places v) q) piece
            ∙ ap (run (operations_of (in_create_order lines) q)) (removed_same lines now 0 x q)
            ∙ ends q plain named

    all_alike : (moments : List ℕ) (x u : Files) → IsTree x → StoppedBoots lines moments x u → EndsAlike x → EndsAlike u
    all_alike [] x u tree same ends = subst EndsAlike (sym same) ends
    all_alike (now ∷ moments) x u tree runs ends = all_alike moments runs.1.0 u runs.1.1 runs.1.3 (still_alike now x runs.1.0 tree runs.1.1 runs.0 runs.1.2 ends)

    begins_alike : EndsAlike s
    unfolding EndsAlike
    begins_alike = λ q plain named. refl

    pub boots_recover : (moments : List ℕ) (now later : ℕ) (u : Files) → IsTree u → StoppedBoots lines moments s u → RefusesNoLine lines later (removed lines later u) → Same (booted lines later u) (booted lines now s)
    unfolding EndsAlike
    boots_recover moments now later u there runs again q plain =
        booted_same lines later 0 u q plain
        ∙ object_states-same (places (created lines 0 (removed lines 0 u))) (places (created lines 0 (removed lines 0 s))) q (
        same_unnamed (object_states_of (places (created lines 0 (removed lines 0 u)))) (object_states_of (places (created lines 0 (removed lines 0 s)))) (made_shaped u there) (made_shaped s start) q plain (λ named.
        created_point lines are none 0 (removed lines 0 u) (removed_tree lines 0 u none_past there) (quiet_same lines later 0 (removed lines later u) (removed lines 0 u) (removed_same lines later 0 u) again) q plain
        ∙ all_alike moments s u start runs begins_alike q plain named
        ∙ sym (created_point lines are none 0 (removed lines 0 s) (removed_tree lines 0 s none_past start) (quiet_same lines first.0 0 (removed lines first.0 s) (removed lines 0 s) (removed_same lines first.0 0 s) first.1) q plain)))
        ∙ booted_same lines 0 now s q plain
      where
        first : (m : ℕ) × RefusesNoLine lines m (removed lines m s)
        first = quiet_first moments later s u runs again

        made_shaped : (v : Files) → IsTree v → IsShaped (object_states_of (places (created lines 0 (removed lines 0 v))))
        made_shaped v is = left_shaped lines are 0 Create (removed lines 0 v) (shaped 0 v is)

  -- one more
  then_stopped : (moments : List ℕ) (now : ℕ) (s t u : Files) → StoppedBoots lines moments s t → StoppedBoots lines (now ∷ []) t u → StoppedBoots lines (moments ++ now ∷ []) s u
  then_stopped [] now s t u same one = subst (λ (v : Files). StoppedBoots lines (now ∷ []) v u) same one
  then_stopped (first ∷ moments) now s t u runs one = (runs.0, (runs.1.0, runs.1.1, runs.1.2, then_stopped moments now runs.1.0 t u runs.1.3 one))

  -- ---- runs

  module _ (Q : Step → Type 0) (now : ℕ) (t : Files) (h : List Step) (u : Files) (k : List Step) (fits : now < 2 ^ 64) (tree : IsTree t) (run : Ran (Partway (phases_course lines now) boot_phases t) Q now t h u k) where
    abbrev at_moment : ℕ → Files
    at_moment n = after_all t (take n (drop (length h) k)) now

    way_at : (n : ℕ) → Partway (phases_course lines now) boot_phases t (at_moment n)
    way_at n = told_prefix (Partway (phases_course lines now) boot_phases t) Q now t h u k run n

    tree_at : (n : ℕ) → IsTree (at_moment n)
    tree_at n =
        subst (λ (steps : List Step). IsTree (after_all t (take n steps) now)) (sym (ap (drop (length h)) run.recorded ∙ drop-append_seam h run.steps))
        (along_prefix IsTree t run.steps now n (along_trees (Partway (phases_course lines now) boot_phases t) t run.steps now fits tree run.along))

    pub boot_recovered : are_distinct lines ≡ true → BootRecovers lines now t (drop (length h) k)
    boot_recovered distinct = λ n later repeatable none whole quiet again.
        boots_recover none distinct repeatable t tree whole (now ∷ []) now later (at_moment n) (tree_at n) (quiet, (at_moment n, tree_at n, way_at n, refl)) again

    pub boot_amid : IsBootBetween lines now t (drop (length h) k)
    boot_amid = λ n. boot_between now t (at_moment n) fits tree (way_at n)

    pub boot_stopped : IsBootStoppedAgain lines now t (drop (length h) k)
    boot_stopped = λ s moments n before quiet. then_stopped moments now s t (at_moment n) before (quiet, (at_moment n, tree_at n, way_at n, refl))

    pub boot_recovered_again : are_distinct lines ≡ true → BootRecoversAgain lines now t (drop (length h) k)
    boot_recovered_again distinct = λ s moments n first later start repeatable none whole before quiet again.
        boots_recover none distinct repeatable s start whole (moments ++ now ∷ []) first later (at_moment n) (tree_at n) (boot_stopped s moments n before quiet) again

  -- ---- each step gives what lines leave, from what removing leaves

  module _ (now : ℕ) (fits : now < 2 ^ 64) (t : Files) (tree : IsTree t) (s : ObjectStates) (repeatable : IsRepeatable lines) (quiet : RefusesNoLine lines now (removed lines now t)) (agree : Agree s (removed lines now t)) where
    boot_step_given : (step : Step) → IsStepOfSome (phases_course lines now) boot_phases t step → IsGiven lines s step
    boot_step_given step (inl removes) =
        let root = some_directory (object_states_of (places (removed lines now t)) []) (shaped now t tree).root in
        record { k = 0; path = []; object = root.0; there = agree [] refl ∙ root.1; gives = removed_gives (is_gone lines t) root.0 step removes }
    boot_step_given step (inr (inl own)) = step_given lines are now (removed lines now t) (removed_tree lines now t fits tree) s repeatable quiet agree step own
    boot_step_given step (inr (inr nothing)) = absurd nothing

  pub boot_given : (P : Files → Type 0) (now : ℕ) (t : Files) (h : List Step) (u : Files) (k : List Step) → now < 2 ^ 64 → IsTree t → Ran P (IsStepOfSome (phases_course lines now) boot_phases t) now t h u k
      → GiveWhatLinesLeave lines now (removed lines now t) (drop (length h) k)
  boot_given P now t h u k fits tree run =
      subst (λ (steps : List Step). GiveWhatLinesLeave lines now (removed lines now t) steps) (sym (ap (drop (length h)) run.recorded ∙ drop-append_seam h run.steps)) (λ s repeatable quiet agree.
      all_map (IsStepOfSome (phases_course lines now) boot_phases t) (IsGiven lines s) (boot_step_given now fits t tree s repeatable quiet agree) run.steps run.gives)
