-- The phases of a run of systemd-tmpfiles(8), one after another: removing, cleaning and creating, or purging alone.
-- All phases use the lines that are active at the beginning of the run. Each begins with the tree that those before
-- it leave.
use Rattle.std.specs.Prelude.{◌≡◌, ℕ, Bool, true, false, List, [], ◌∷◌, ◌++◌, if◌then◌else◌, ⊤}
use Rattle.pv_clean.specs.Cleaning.{IsCleanStep, TakesOnly, most_steps}
use Rattle.pv_create.specs.Recovery as create
use Rattle.pv_create.specs.OnTheWay.{lines_course}
use Rattle.pv_steps.specs.Courses.{AtWork, Course, Cut, Partway, IsStepOfSome}
use Rattle.pv_walk.specs.Edits.{Pruned}
use Rattle.pv_walk.specs.Whole.{count_of}
use Rattle.pv_lines.specs.declared.line.Line.{Line}
use Rattle.pv_remove.specs.Ended as remove
use Rattle.pv_steps.specs.Content.{Removes}
use Rattle.pv_steps.specs.declared.step.Step.{Step}
use Rattle.pv_steps.specs.Trees.{Files}
use Rattle.pv_table.specs.Active.{in_create_order}
use Rattle.pv_table.specs.Cleaned.{cleaned, is_aged}
use Rattle.pv_table.specs.Created.{created, created_messages, some_refusal_counts, work}
use Rattle.pv_steps.specs.Doing.{Doing}
use Rattle.pv_table.specs.Removed.{is_gone, is_purge_unfinished, is_purged, is_unfinished, purged, purged_messages, removed, removed_messages}
use Rattle.pv_words.specs.declared.options.Options.{Options}
use Rattle.provision_run.specs.Booted.{BootRecovers}
use Rattle.provision_run.specs.declared.phase.Phase.{Phase}
use Rattle.provision_run.specs.declared.phase.Phase.TheVariants.{Remove, Clean, Create, Purge}

-- A phase, if the options ask for it.
abbrev pub asked : Bool → Phase → List Phase
asked wanted phase = if wanted then phase ∷ [] else []

-- The phases of the boot command.
abbrev pub boot_phases : List Phase
boot_phases = Remove ∷ Create ∷ []

-- Whether some phases are these.
abbrev pub is_boot : List Phase → Bool
is_boot (Remove ∷ Create ∷ []) = true
is_boot phases = false

-- The phases that options ask for, in their order. With `--report` there are none.
abbrev pub phases_of : Options → List Phase
phases_of options = if options.report then [] else asked options.remove Remove ++ asked options.clean Clean ++ asked options.create Create ++ asked options.purge Purge

-- ---- one phase

-- The tree that a phase leaves.
abbrev pub left_by : List Line → ℕ → Phase → Files → Files
left_by lines now Remove t = removed lines now t
left_by lines now Clean t = cleaned lines now t
left_by lines now Create t = created lines now t
left_by lines now Purge t = purged lines now t

-- The messages of a phase about its lines.
abbrev pub messages_in : List Line → ℕ → Phase → Files → List (List ℕ)
messages_in lines now Remove t = removed_messages lines t
messages_in lines now Clean t = []
messages_in lines now Create t = created_messages lines now t
messages_in lines now Purge t = purged_messages lines t

-- Whether something in a phase is not carried out.
abbrev pub falls_short : List Line → ℕ → Phase → Files → Bool
falls_short lines now Remove t = is_unfinished lines t
falls_short lines now Clean t = false
falls_short lines now Create t = some_refusal_counts lines now t
falls_short lines now Purge t = is_purge_unfinished lines t

-- The most steps that a phase takes.
abbrev pub most_steps_of : List Line → ℕ → Phase → Files → ℕ
most_steps_of lines now Remove t = count_of (is_gone lines t) t
most_steps_of lines now Clean t = most_steps (is_aged lines now t) t
most_steps_of lines now Create t = work lines now t
most_steps_of lines now Purge t = count_of (is_purged lines t) t

-- An intermediate state of a phase. In creating, some lines are done, and the next one is at work. In the other
-- phases, some of what is removed is gone.
abbrev pub on_way : List Line → ℕ → Phase → Files → Files → Type 0
on_way lines now Remove t u = Pruned (is_gone lines t) t u
on_way lines now Clean t u = Pruned (is_aged lines now t) t u
on_way lines now Create t u = Partway (lines_course now) (in_create_order lines) t u
on_way lines now Purge t u = Pruned (is_purged lines t) t u

-- A step of a phase.
abbrev pub is_step_of : List Line → ℕ → Phase → Files → Step → Type 0
is_step_of lines now Remove t step = Removes (is_gone lines t) step
is_step_of lines now Clean t step = IsCleanStep (is_aged lines now t) t step
is_step_of lines now Create t step = IsStepOfSome (lines_course now) (in_create_order lines) t step
is_step_of lines now Purge t step = Removes (is_purged lines t) step

-- A phase as a `Doing`: the tree that it leaves, its messages, whether it falls short, and the most steps that it
-- takes.
abbrev pub phase_whole : List Line → ℕ → Doing Phase
phase_whole lines now = record { after = left_by lines now; says = messages_in lines now; is_refused = falls_short lines now; takes = most_steps_of lines now }

-- What a phase has done and said where it was cut short. In creating, the lines before the one at work are done, and
-- those after it have not begun. Other phases give their messages after their last step. So if a step was refused,
-- they have given none.
abbrev pub phase_cut : List Line → ℕ → ℕ → Phase → Files → List Step → List (List ℕ) → Type 0
phase_cut lines now refused Create t steps new_messages = Cut (lines_course now) now refused (in_create_order lines) t steps new_messages
phase_cut lines now refused phase t steps new_messages =
    AtWork (phase_whole lines now) (on_way lines now) (is_step_of lines now) now refused phase t steps new_messages × (refused ≡ 1 → new_messages ≡ [])

-- A phase as a `Course`.
abbrev pub phases_course : List Line → ℕ → Course Phase
phases_course lines now = record { whole = phase_whole lines now; way = on_way lines now; steps = is_step_of lines now; cut = phase_cut lines }

-- ---- stopped runs

-- What holds of a run of phases that is stopped after any number of its steps:
-- - Removing, purging, creating and the boot command recover. For the last two there are premises.
-- - A stopped clean has removed only what a complete clean removes.
-- - Of other combinations of phases nothing is said.
abbrev pub RecoversBy : List Phase → List Line → ℕ → Files → List Step → Type 0
RecoversBy (Remove ∷ []) lines now t steps = remove.Recovers (removed lines) now t steps
RecoversBy (Clean ∷ []) lines now t steps = TakesOnly (is_aged lines now t) now t steps
RecoversBy (Create ∷ []) lines now t steps = create.Recovers lines now t steps
RecoversBy (Purge ∷ []) lines now t steps = remove.Recovers (purged lines) now t steps
RecoversBy (Remove ∷ Create ∷ []) lines now t steps = BootRecovers lines now t steps
RecoversBy phases lines now t steps = ⊤
