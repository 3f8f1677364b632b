-- A run of creating on a folder that was killed is completed by a complete run, where merging gives back a tree of the run.
use Rattle.std.specs.Prelude.{◌≡◌, ℕ, List, [], ◌∷◌, take, Option, Some, None, option_map}
use Rattle.std.proofs.Common.{refl, sym, ap, subst, ◌∙◌}
use Rattle.pv_folder.specs.Content.{Content, Held, held, spelled}
use Rattle.pv_folder.specs.Moments.{IsBetween, closed, in_closing, in_steps}
use Rattle.pv_folder.specs.Opening.{IsOpened}
use Rattle.pv_laws.proofs.Moments.{created_same, quiet_same}
use Rattle.pv_laws.proofs.Stops.{created_point}
use Rattle.pv_laws.specs.Moments.{SameObjectStates}
use Rattle.pv_lines.specs.declared.line.Line.{Line}
use Rattle.pv_path.specs.Paths.{Path}
use Rattle.pv_read_config.proofs.InputLaws.{configured-same}
use Rattle.pv_steps.specs.Content.{content_of}
use Rattle.pv_steps.specs.declared.object.Object.{Object}
use Rattle.pv_steps.specs.declared.step.Step.{Step}
use Rattle.pv_steps.specs.Doing.{after_each}
use Rattle.pv_steps.specs.Runs.{after_all}
use Rattle.pv_steps.specs.Same.{Same}
use Rattle.pv_steps.specs.Trees.{Files, IsTree, places}
use Rattle.pv_table.specs.Created.{RefusesNoLine, created}
use Rattle.pv_text.specs.Facts.{Values}
use Rattle.pv_walk.proofs.OperationLaws.{object_states-same}
use Rattle.pv_walk.specs.Nodes.{object_state_of}
use Rattle.pv_walk.specs.declared.object_state.ObjectState.{ObjectState}
use Rattle.pv_words.specs.declared.options.Options.{Options}
use Rattle.provision_run.specs.declared.phase.Phase.{Phase}
use Rattle.provision_run.specs.declared.phase.Phase.TheVariants.{Create}
use Rattle.provision_run.specs.declared.task.Task.{Task}
use Rattle.provision_run.specs.declared.task.Task.TheVariants.{Phases}
use Rattle.provision_run.specs.FolderKills.{HasKilledOn, IsMergedBack, SayAll}
use Rattle.provision_run.specs.FolderStops.{AreFolders, HasEndedOn}
use Rattle.provision_run.specs.OnFolder.{IsSameBeside}
use Rattle.provision_run.specs.Phased.{phased, run_lines}
use Rattle.provision_run.specs.Phases.{phases_course, phases_of}
use Rattle.provision_run.specs.Rereading.{ArePlain, IsFinishedBy, RefusesNoLineBy, MayRepeat}
use Rattle.provision_run.specs.Stops.{HasStopped, IsCalm, unlimited}
use Rattle.provision_run.specs.Tasks.{task_of}
use Rattle.provision_run.specs.Whole.{final, final_by}
use Rattle.provision_run.specs.Words.{moment_of}
use Rattle.provision_run.proofs.FolderRecovery.{kept_from, opened_once, whole_kept, whole_same}
use Rattle.provision_run.proofs.RereadingLaws.{lines_reread}
use Rattle.provision_run.proofs.StopsLaws.{broken_at, phases_recovered}

-- ---- runs from trees that are the same, timestamps aside

content_like : (a b : Option Object) → option_map object_state_of a ≡ option_map object_state_of b → content_of a ≡ content_of b
content_like None None e = refl
content_like None (Some y) e = cc
content_like (Some x) None e = cc
content_like (Some x) (Some y) e =
    let same : Some (object_state_of x) ≡ Some (object_state_of y) = e in
    let is : object_state_of x ≡ object_state_of y = cc in
    ap (λ (s : ObjectState). Some (s.body.kind, s.body.payload)) is

module _ (options : Options) (facts : Values) (plain : ArePlain options) (v u : Files) (same : SameObjectStates v u) where
  lines_like : run_lines options facts v ≡ run_lines options facts u
  lines_like = lines_reread options facts u v (configured-same v u (λ q input. content_like (places v q) (places u q) (same q)) facts options.words plain)

  module _ (alone : phases_of options ≡ Create ∷ []) where
    calm_like : IsCalm options facts v → IsCalm options facts u
    calm_like calm =
        let lines = run_lines options facts v in
        let at : IsFinishedBy (Create ∷ []) lines v × ((moment : ℕ) × RefusesNoLineBy (Create ∷ []) lines moment v) =
        subst (λ (phases : List Phase). IsFinishedBy phases lines v × ((moment : ℕ) × RefusesNoLineBy phases lines moment v)) alone calm in
        let then : IsFinishedBy (Create ∷ []) (run_lines options facts u) u × ((moment : ℕ) × RefusesNoLineBy (Create ∷ []) (run_lines options facts u) moment u) =
        (tt, (at.1.0, subst (λ (ls : List Line). RefusesNoLine ls at.1.0 u) lines_like (quiet_same lines at.1.0 at.1.0 v u same at.1.1))) in
        subst (λ (phases : List Phase). IsFinishedBy phases (run_lines options facts u) u × ((moment : ℕ) × RefusesNoLineBy phases (run_lines options facts u) moment u)) (sym alone) then

    phased_like : (now : ℕ) → Same (phased options facts now v) (phased options facts now u)
    phased_like now =
        subst (λ (phases : List Phase). Same (after_each (phases_course (run_lines options facts v) now).whole phases v) (after_each (phases_course (run_lines options facts u) now).whole phases u)) (sym alone)
        (subst (λ (ls : List Line). Same (created (run_lines options facts v) now v) (created ls now u)) lines_like (λ q out.
        object_states-same (places (created (run_lines options facts v) now v)) (places (created (run_lines options facts v) now u)) q
        (created_same (run_lines options facts v) now now v u same q)))

-- ---- a folder

beside_between : (folder : Path) (t : Files) (steps : List Step) (now : ℕ) (text : List ℕ) (old new : Held) → IsBetween folder t steps now text old new → IsSameBeside folder old new
beside_between folder t steps now text old new (in_steps n here same) = λ path out no no_new. same path out
beside_between folder t steps now text old new (in_closing here same) = λ path out no no_new. same path out no_new
beside_between folder t steps now text old new (closed here there same) = same

module _ (options : Options) (folder : Path) (moment : ℕ) (old new : Content) (facts : Values) (t v : Files) (opened : IsOpened folder old facts t)
    (run : HasKilledOn options folder moment old new) where
  beside_killed : IsSameBeside folder (held old) (held new)
  beside_killed =
      let killed = run.killed in
      subst (λ (f : Path). IsSameBeside f (held old) (held new)) run.like.named
      (beside_between (spelled run.like.own.folder) killed.tree killed.asked (moment_of run.like.own.options run.clock_micros) killed.text (held old) (held new) killed.between)

  module _ (first later : ℕ) (one again : Content) (opens : IsOpened folder new facts v) (whole : HasEndedOn options folder first old one) (second : HasEndedOn options folder later new again)
      (is : task_of options ≡ Phases) where
    -- what both runs leave, if it is the same over trees
    both_killed : Same (phased (unlimited options) facts later v) (phased (unlimited options) facts first t) → AreFolders (λ one two. Same two one) folder old one again
    unfolding final_by
    both_killed holds = record {
      facts = facts;
      tree = final (unlimited options) facts first t;
      other = final (unlimited options) facts later v;
      first = whole_kept options folder facts t old one (opened_once folder old facts t opened) first whole;
      second = kept_from folder facts (final (unlimited options) facts later v) (held old) (held new) (held again) beside_killed
          (whole_kept options folder facts v new again (opened_once folder new facts v opens) later second);
      holds = subst (λ (task : Task). Same (final_by task (unlimited options) facts later v) (final_by task (unlimited options) facts first t)) (sym is) holds;
    }

    -- ---- where merging gives back a tree of the run

    module _ (back : IsMergedBack options folder moment old new run v) where
      -- a stop after some of the steps has left the same, timestamps aside
      abbrev IsAsStopped : Values → Files → ℕ → Type 0
      IsAsStopped f s now = (u : Files) × (HasStopped (unlimited options) f now s u × SameObjectStates v u)

      as_stopped : IsAsStopped facts t moment
      as_stopped =
          let killed = run.killed in
          let there = opened_once folder old facts t opened killed.facts killed.tree
          (subst (λ (f : Path). IsOpened f old killed.facts killed.tree) run.like.named killed.opened) in
          subst (λ (now : ℕ). IsAsStopped facts t now) (sym run.like.when)
          (subst (λ (s : Files). IsAsStopped facts s (moment_of run.like.own.options run.clock_micros)) there.1
          (subst (λ (f : Values). IsAsStopped f killed.tree (moment_of run.like.own.options run.clock_micros)) there.0 (
            after_all killed.tree (take back.0 killed.gone.steps) (moment_of run.like.own.options run.clock_micros),
            (broken_at options run.like.own.options run.like.alike killed.facts (moment_of run.like.own.options run.clock_micros) killed.tree killed.left killed.gone back.0, back.1),
          )))

      pub killed_back : phases_of options ≡ Create ∷ [] → ArePlain options → MayRepeat (phases_of options) (run_lines options facts t)
          → IsCalm options facts t → IsCalm options facts v → AreFolders (λ one two. Same two one) folder old one again
      killed_back alone plain may calm still =
          let stop = as_stopped in
          both_killed (λ q out.
          phased_like (unlimited options) facts plain v stop.0 stop.1.1 alone later q out
          ∙ phases_recovered (unlimited options) facts plain is [] moment first later t stop.0 may
          (calm, (stop.0, (stop.1.0, refl))) (calm_like (unlimited options) facts plain v stop.0 stop.1.1 alone still) q out)

    -- ---- where the lines say all

    tree_before : IsTree t
    tree_before = subst IsTree (whole_same options folder facts t old one (opened_once folder old facts t opened) first whole).1 whole.run.opened.0

    tree_then : IsTree v
    tree_then = subst IsTree (whole_same options folder facts v new again (opened_once folder new facts v opens) later second).1 second.run.opened.0

    -- a run of creating is quiet at any moment
    quiet_at : (lines : List Line) (u : Files) → phases_of options ≡ Create ∷ [] → (now : ℕ) → (IsFinishedBy (phases_of options) lines u × ((m : ℕ) × RefusesNoLineBy (phases_of options) lines m u)) → RefusesNoLine lines now u
    quiet_at lines u alone now calm =
        let at : IsFinishedBy (Create ∷ []) lines u × ((m : ℕ) × RefusesNoLineBy (Create ∷ []) lines m u) =
        subst (λ (phases : List Phase). IsFinishedBy phases lines u × ((m : ℕ) × RefusesNoLineBy phases lines m u)) alone calm in
        quiet_same lines at.1.0 now u u (λ q. refl) at.1.1

    pub killed_said : phases_of options ≡ Create ∷ [] → run_lines options facts v ≡ run_lines options facts t
        → SayAll (run_lines options facts t) t v → IsCalm options facts t → IsCalm options facts v → AreFolders (λ one two. Same two one) folder old one again
    killed_said alone same says calm still =
        let lines = run_lines options facts t in
        let quiet_then : RefusesNoLine lines later v =
        subst (λ (ls : List Line). RefusesNoLine ls later v) same (quiet_at (run_lines options facts v) v alone later still) in
        let holds : Same (created lines later v) (created lines first t) = λ q out.
        object_states-same (places (created lines later v)) (places (created lines first t)) q
        (created_point lines says.are_lines says.copy_nothing later v tree_then quiet_then q out
        ∙ says.end_alike q out
        ∙ sym (created_point lines says.are_lines says.copy_nothing first t tree_before (quiet_at lines t alone first calm) q out)) in
        both_killed
        (subst (λ (phases : List Phase). Same (after_each (phases_course (run_lines (unlimited options) facts v) later).whole phases v) (after_each (phases_course (run_lines (unlimited options) facts t) first).whole phases t)) (sym alone)
        (subst (λ (ls : List Line). Same (created ls later v) (created lines first t)) (sym same) holds))
