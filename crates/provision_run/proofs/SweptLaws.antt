-- Creating as the last of some phases leaves nothing at the staging names of what it made.
use Rattle.std.specs.Prelude.{ℕ, List, [], ◌∷◌}
use Rattle.std.specs.List.{AllByRecursion}
use Rattle.pv_laws.proofs.Staged.{run_leaves_none}
use Rattle.pv_lines.specs.declared.line.Line.{Line}
use Rattle.pv_lines.specs.Lines.{IsLine}
use Rattle.pv_steps.specs.Trees.{Files}
use Rattle.pv_steps.specs.Doing.{after_each}
use Rattle.provision_run.specs.Phases.{left_by, phases_course}
use Rattle.provision_run.specs.PhasesSwept.{IsSweptBy}
use Rattle.provision_run.specs.declared.phase.Phase.{Phase}
use Rattle.provision_run.specs.declared.phase.Phase.TheVariants.{Remove, Clean, Create, Purge}

pub phases_swept : (lines : List Line) → AllByRecursion IsLine lines → (now : ℕ) (phases : List Phase) (t : Files) → IsSweptBy phases lines now t (after_each (phases_course lines now).whole phases t)
phases_swept lines are now [] t = tt
phases_swept lines are now (Create ∷ []) t = run_leaves_none lines are now t
phases_swept lines are now (Create ∷ next ∷ phases) t = phases_swept lines are now (next ∷ phases) (left_by lines now Create t)
phases_swept lines are now (Remove ∷ phases) t = phases_swept lines are now phases (left_by lines now Remove t)
phases_swept lines are now (Clean ∷ phases) t = phases_swept lines are now phases (left_by lines now Clean t)
phases_swept lines are now (Purge ∷ phases) t = phases_swept lines are now phases (left_by lines now Purge t)
