-- Creating is crash-safe (tmpfiles.d(5)).
use Rattle.std.specs.Prelude.{ℕ, List, [], ◌∷◌, ◌++◌, take}
use Rattle.pv_lines.specs.declared.line.Line.{Line}
use Rattle.pv_steps.specs.declared.step.Step.{Step}
use Rattle.pv_steps.specs.Runs.{after_all}
use Rattle.pv_steps.specs.Same.{Same}
use Rattle.pv_steps.specs.Trees.{Files, IsTree}
use Rattle.pv_laws.specs.Copying.{StoppedRuns}
use Rattle.pv_table.specs.Created.{created, RefusesNoLine}
use Rattle.pv_table.specs.Repeatable.{IsRepeatable}

-- A run of lines is stopped after any number n of its steps. Then a complete run over the tree at the stop leaves the
-- same tree as one complete run from the start, if
-- - no line has a hazard,
-- - and neither a complete run from the start nor one from the stop refuses a line.
-- The runs may begin at different times. `Same` leaves out timestamps and staging names.
abbrev pub Recovers : List Line → ℕ → Files → List Step → Type 0
Recovers lines now t steps = (n later : ℕ) → IsRepeatable lines →
    RefusesNoLine lines now t →
    RefusesNoLine lines later (after_all t (take n steps) now) →
    Same (created lines later (after_all t (take n steps) now)) (created lines now t)

-- The same after several stops. Stopped runs at some times led from a tree s to the tree t, and the run from t is
-- stopped after any number n of its steps. Then a complete run from this stop leaves the same tree as one complete
-- run from s, if
-- - no line has a hazard,
-- - and neither a complete run from t nor one from this stop refuses a line.
-- For the stopped runs before, `StoppedRuns` says the same. The runs may begin at different times.
abbrev pub RecoversAgain : List Line → ℕ → Files → List Step → Type 0
RecoversAgain lines now t steps = (s : Files) (moments : List ℕ) (n first later : ℕ) → IsTree s → IsRepeatable lines →
    StoppedRuns lines moments s t →
    RefusesNoLine lines now t →
    RefusesNoLine lines later (after_all t (take n steps) now) →
    Same (created lines later (after_all t (take n steps) now)) (created lines first s)

-- If no line has a hazard, and a complete run refuses no line, then a run that is stopped after several stopped runs
-- is one more of them.
abbrev pub IsStoppedAgain : List Line → ℕ → Files → List Step → Type 0
IsStoppedAgain lines now t steps = (s : Files) (moments : List ℕ) (n : ℕ) → IsRepeatable lines →
    StoppedRuns lines moments s t →
    RefusesNoLine lines now t →
    StoppedRuns lines (moments ++ now ∷ []) s (after_all t (take n steps) now)
