-- A complete run of systemd-tmpfiles(8) that carries out lines. Here are the lines that it reads from the tree, the
-- tree that its phases leave, its messages, how it ends, and the most steps that it takes.
use Rattle.std.specs.Prelude.{ℕ, Bool, List, ◌++◌}
use Rattle.pv_steps.specs.Courses.{Cut, Partway, IsStepOfSome, carried_of}
use Rattle.pv_lines.specs.declared.line.Line.{Line}
use Rattle.pv_text.specs.Facts.{Values}
use Rattle.pv_steps.specs.declared.step.Step.{Step}
use Rattle.pv_steps.specs.Trees.{Files}
use Rattle.pv_read_config.specs.Known.{configured}
use Rattle.pv_table.specs.Active.{active, duplicates}
use Rattle.pv_steps.specs.Doing.{after_each, messages_for_each, one_is_refused, taken_by_each}
use Rattle.pv_words.specs.declared.options.Options.{Options}
use Rattle.provision_run.specs.Phases.{phases_course, phases_of}
use Rattle.provision_run.specs.declared.ending.RunEnd.{RunEnd}
use Rattle.provision_run.specs.Ending.{end_of, is_uncarried}

-- The active lines of the configuration.
abbrev pub run_lines : Options → Values → Files → List Line
run_lines options facts t = active options.boot options.prefix options.exclude_prefix (configured t facts options.words).lines

-- The tree that all phases leave.
abbrev pub phased : Options → Values → ℕ → Files → Files
phased options facts moment t = after_each (phases_course (run_lines options facts t) moment).whole (phases_of options) t

-- The messages about duplicate lines, which come before any line is carried out.
abbrev pub listed_messages : Options → List Line → List (List ℕ)
listed_messages options lines = duplicates options.boot options.prefix options.exclude_prefix lines

-- The messages about reading the configuration, and then those about duplicate lines.
abbrev pub lines_messages : Options → Values → Files → List (List ℕ)
lines_messages options facts t = (configured t facts options.words).messages ++ listed_messages options (configured t facts options.words).lines

-- The messages of the phases about lines.
abbrev pub phase_messages : Options → Values → ℕ → Files → List (List ℕ)
phase_messages options facts moment t = messages_for_each (phases_course (run_lines options facts t) moment).whole (phases_of options) t

-- An intermediate state: some phases are done, and the next one is at work.
abbrev pub phases_way : Options → Values → ℕ → Files → Files → Type 0
phases_way options facts moment t u = Partway (phases_course (run_lines options facts t) moment) (phases_of options) t u

-- A step of one of the phases.
abbrev pub is_phases_step : Options → Values → ℕ → Files → Step → Type 0
is_phases_step options facts moment t step = IsStepOfSome (phases_course (run_lines options facts t) moment) (phases_of options) t step

-- The steps and messages of phases where a run was cut short. The phases before the one at work are done, and those
-- after it have not begun. In creating the same holds of the lines.
abbrev pub phases_cut : Options → Values → ℕ → ℕ → Files → List Step → List (List ℕ) → Type 0
phases_cut options facts moment refused t steps new_messages = Cut (phases_course (run_lines options facts t) moment) moment refused (phases_of options) t steps new_messages

-- Whether a line of the configuration is invalid.
abbrev pub is_invalid : Options → Values → Files → Bool
is_invalid options facts t = (configured t facts options.words).invalid

-- How a complete run ends.
abbrev pub phases_end : Options → Values → ℕ → Files → RunEnd
phases_end options facts moment t = end_of
    (is_uncarried
    (carried_of (one_is_refused (phases_course (run_lines options facts t) moment).whole (phases_of options) t))
    (configured t facts options.words).missing)
    (is_invalid options facts t)

-- The most steps that a run takes.
abbrev pub phases_work : Options → Values → ℕ → Files → ℕ
phases_work options facts moment t = taken_by_each (phases_course (run_lines options facts t) moment).whole (phases_of options) t
