-- The boot command after several stops (systemd-tmpfiles(8), --remove --create).
use Rattle.std.specs.Prelude.{◌≡◌, ℕ, false, List, [], ◌∷◌, ◌++◌, take}
use Rattle.std.specs.List.{AllByRecursion}
use Rattle.pv_steps.specs.Courses.{Partway}
use Rattle.pv_laws.specs.Stopping.{CopiesNothing}
use Rattle.pv_lines.specs.declared.line.Line.{Line}
use Rattle.pv_steps.specs.declared.step.Step.{Step}
use Rattle.pv_steps.specs.Runs.{after_all}
use Rattle.pv_steps.specs.Same.{Same}
use Rattle.pv_steps.specs.Trees.{Files, IsTree}
use Rattle.pv_table.specs.Created.{RefusesNoLine}
use Rattle.pv_table.specs.Removed.{is_unfinished, removed}
use Rattle.pv_table.specs.Repeatable.{IsRepeatable}
use Rattle.provision_run.specs.Booted.{booted}
use Rattle.provision_run.specs.Phases.{boot_phases, phases_course}

-- One run of the boot command at each of some times. Each run begins with the tree that the last one left, and leaves
-- some intermediate state. From the tree with which each begins, creating after a complete removal would refuse no
-- line.
abbrev pub StoppedBoots : List Line → List ℕ → Files → Files → Type 0
StoppedBoots lines [] t u = u ≡ t
StoppedBoots lines (now ∷ moments) t u =
    RefusesNoLine lines now (removed lines now t)
    × ((v : Files) × IsTree v × Partway (phases_course lines now) boot_phases t v × StoppedBoots lines moments v u)

-- Stopped runs at some times led from a tree s to the tree t, and the run from t is stopped after any number n of its
-- steps. Then a complete run from this stop leaves the same tree as one complete run from s, if
-- - no line has a hazard, and no line copies,
-- - a complete removal over s leaves nothing unfinished,
-- - and creating after a complete removal refuses no line, neither from t nor from this stop.
-- For the stopped runs before, `StoppedBoots` says the same of creating. The runs may begin at different times. Over
-- the later trees a removal may be unfinished. Example: an `r` line names a directory that creating has filled.
abbrev pub BootRecoversAgain : List Line → ℕ → Files → List Step → Type 0
BootRecoversAgain lines now t steps = (s : Files) (moments : List ℕ) (n first later : ℕ) → IsTree s → IsRepeatable lines →
    AllByRecursion CopiesNothing lines →
    is_unfinished lines s ≡ false →
    StoppedBoots lines moments s t →
    RefusesNoLine lines now (removed lines now t) →
    RefusesNoLine lines later (removed lines later (after_all t (take n steps) now)) →
    Same (booted lines later (after_all t (take n steps) now)) (booted lines first s)

-- If creating after a complete removal refuses no line, then a run that is stopped after several stopped runs is one
-- more of them.
abbrev pub IsBootStoppedAgain : List Line → ℕ → Files → List Step → Type 0
IsBootStoppedAgain lines now t steps = (s : Files) (moments : List ℕ) (n : ℕ) →
    StoppedBoots lines moments s t →
    RefusesNoLine lines now (removed lines now t) →
    StoppedBoots lines (moments ++ now ∷ []) s (after_all t (take n steps) now)
