-- A run of phases, none of whose lines may change what lines are read from, stopped after any of its steps, has left a tree of
-- which the same lines are read, so that a complete run from there completes it.
use Rattle.std.specs.Prelude.{◌^◌, ◌<◌, ◌≡◌, ℕ, List, [], ◌∷◌, length, take, drop}
use Rattle.std.proofs.Common.{sym, ap, subst, ◌∙◌}
use Rattle.std.proofs.Math.Seq.{drop-append_seam, drop-length, take-nil}
use Rattle.std.specs.List.{AllByRecursion}
use Rattle.pv_read_config.specs.Configuration.{Configured}
use Rattle.pv_read_config.specs.Known.{configured}
use Rattle.pv_read_config.proofs.InputLaws.{configured-same}
use Rattle.pv_steps.specs.Courses.{Partway, IsStepOfSome}
use Rattle.pv_lines.specs.declared.line.Line.{Line}
use Rattle.pv_lines.specs.Lines.{IsLine}
use Rattle.provision_run.specs.Phases.{RecoversBy, phases_course, phases_of}
use Rattle.provision_run.proofs.InputLaws.{phases_leave_input}
use Rattle.provision_run.proofs.PhaseLaws.{both}
use Rattle.provision_run.specs.declared.phase.Phase.{Phase}
use Rattle.provision_run.specs.declared.phase.Phase.TheVariants.{Remove, Clean, Create, Purge}
use Rattle.pv_steps.specs.declared.step.Step.{Step}
use Rattle.pv_steps.specs.Runs.{after_all, Ran}
use Rattle.pv_steps.specs.Same.{Same}
use Rattle.pv_steps.specs.Trees.{Files, IsTree}
use Rattle.pv_steps.proofs.RunLaws.{along_trees, along_prefix}
use Rattle.pv_table.specs.declared.reason.Reason.TheVariants as reason
use Rattle.pv_table.specs.Active.{active}
use Rattle.pv_steps.specs.Doing.{after_each}
use Rattle.pv_text.specs.Facts.{Values}
use Rattle.pv_words.specs.declared.options.Options.{Options}
use Rattle.provision_run.specs.Rereading.{RecoversAnew, IsReread, LeaveInput, MayRecover, MayRepeat}
use Rattle.provision_run.specs.Phased.{is_phases_step, phases_way, run_lines}
use Rattle.pv_path.proofs.Tests.{all_take}

-- where the same is read the same lines are active
pub lines_reread : (options : Options) (facts : Values) (t u : Files) → configured u facts options.words ≡ configured t facts options.words → run_lines options facts u ≡ run_lines options facts t
lines_reread options facts t u same = ap (λ (c : Configured Line). active options.boot options.prefix options.exclude_prefix c.lines) same

-- lines that may be carried out again leave what lines are read from
pub leaves_input : (phases : List Phase) (lines : List Line) → MayRepeat phases lines → LeaveInput lines
leaves_input (Remove ∷ []) lines may = may
leaves_input (Purge ∷ []) lines may = may
leaves_input (Create ∷ []) lines may = λ i. may i reason.Input
leaves_input (Remove ∷ Create ∷ []) lines may = λ i. may.0 i reason.Input
leaves_input [] lines may = absurd may
leaves_input (Remove ∷ Create ∷ next ∷ phases) lines may = absurd may
leaves_input (Remove ∷ Remove ∷ phases) lines may = absurd may
leaves_input (Remove ∷ Clean ∷ phases) lines may = absurd may
leaves_input (Remove ∷ Purge ∷ phases) lines may = absurd may
leaves_input (Purge ∷ next ∷ phases) lines may = absurd may
leaves_input (Create ∷ next ∷ phases) lines may = absurd may
leaves_input (Clean ∷ phases) lines may = absurd may

-- a run of the same lines completes what a stopped one has left
module _ (lines : List Line) (moment : ℕ) (t : Files) (steps : List Step) (n later : ℕ) where
  abbrev left_then : Files
  left_then = after_all t (take n steps) moment

  same_lines_recover : (phases : List Phase) → RecoversBy phases lines moment t steps → MayRecover phases lines moment t later left_then
      → Same (after_each (phases_course lines later).whole phases left_then) (after_each (phases_course lines moment).whole phases t)
  same_lines_recover (Remove ∷ []) law may = law n later
  same_lines_recover (Purge ∷ []) law may = law n later
  same_lines_recover (Create ∷ []) law may = law n later may.0 may.1.1.0 may.1.1.1
  same_lines_recover (Remove ∷ Create ∷ []) law may = law n later may.0.0 may.0.1 may.1.0 may.1.1.0 may.1.1.1
  same_lines_recover [] law may = absurd may.0
  same_lines_recover (Remove ∷ Create ∷ next ∷ phases) law may = absurd may.0
  same_lines_recover (Remove ∷ Remove ∷ phases) law may = absurd may.0
  same_lines_recover (Remove ∷ Clean ∷ phases) law may = absurd may.0
  same_lines_recover (Remove ∷ Purge ∷ phases) law may = absurd may.0
  same_lines_recover (Purge ∷ next ∷ phases) law may = absurd may.0
  same_lines_recover (Create ∷ next ∷ phases) law may = absurd may.0
  same_lines_recover (Clean ∷ phases) law may = absurd may.0

module _ (options : Options) (facts : Values) (moment : ℕ) (t : Files) where
  module _ (fits : moment < 2 ^ 64) (tree : IsTree t) (are : AllByRecursion IsLine (run_lines options facts t)) where
    pub reread : (h : List Step) (u : Files) (k : List Step) → Ran (phases_way options facts moment t) (is_phases_step options facts moment t) moment t h u k → IsReread options facts moment t (drop (length h) k)
    reread h u k run n plain free =
        let added : drop (length h) k ≡ run.steps = ap (drop (length h)) run.recorded ∙ drop-append_seam h run.steps in
        let left = after_all t (take n run.steps) moment in
        subst (λ (steps : List Step). configured (after_all t (take n steps) moment) facts options.words ≡ configured t facts options.words) (sym added)
        (configured-same left t (λ q input.
        phases_leave_input (run_lines options facts t) are free moment (phases_of options) t (take n run.steps) tree
        (along_prefix IsTree t run.steps moment n (along_trees (phases_way options facts moment t) t run.steps moment fits tree run.along))
        (along_prefix (phases_way options facts moment t) t run.steps moment n run.along)
        (all_take (is_phases_step options facts moment t) n run.steps run.gives)
        q input) facts options.words plain)

  -- after a run that has done nothing the same is read
  pub nothing_reread : (h : List Step) → IsReread options facts moment t (drop (length h) h)
  nothing_reread h n plain free =
      ap (λ (steps : List Step). configured (after_all t steps moment) facts options.words) (ap (take n) (drop-length h) ∙ take-nil n)

  -- what recovers by a run of the same lines recovers by one that reads them anew
  pub recovered_anew : (steps : List Step) → IsReread options facts moment t steps → RecoversBy (phases_of options) (run_lines options facts t) moment t steps
      → RecoversAnew options facts moment t steps
  recovered_anew steps again recovers n later plain may =
      let left = after_all t (take n steps) moment in
      let phases = phases_of options in
      subst (λ (lines : List Line). Same (after_each (phases_course lines later).whole phases left) (after_each (phases_course (run_lines options facts t) moment).whole phases t))
      (sym (lines_reread options facts t left (again n plain (leaves_input phases (run_lines options facts t) may.0))))
      (same_lines_recover (run_lines options facts t) moment t steps n later phases recovers may)

  -- so a run of the phases that are asked for, over the lines that it has read
  module _ (fits : moment < 2 ^ 64) (lines : List Line) (e : lines ≡ run_lines options facts t) (phases : List Phase) (f : phases ≡ phases_of options) (are : AllByRecursion IsLine lines) (tree : IsTree t)
      (h : List Step) (u : Files) (k : List Step) (run : Ran (Partway (phases_course lines moment) phases t) (IsStepOfSome (phases_course lines moment) phases t) moment t h u k) where
    pub run_reread : IsReread options facts moment t (drop (length h) k)
    run_reread = reread fits tree (subst (AllByRecursion IsLine) e are) h u k
        (both (λ (ls : List Line) (ps : List Phase). Ran (Partway (phases_course ls moment) ps t) (IsStepOfSome (phases_course ls moment) ps t) moment t h u k) e f run)

    pub run_anew : RecoversBy phases lines moment t (drop (length h) k) → RecoversAnew options facts moment t (drop (length h) k)
    run_anew recovers = recovered_anew (drop (length h) k) run_reread (both (λ (ls : List Line) (ps : List Phase). RecoversBy ps ls moment t (drop (length h) k)) e f recovers)
