-- Runs that were cut short, however many, each begun on what the last one left, a complete run completes.
use Rattle.std.specs.Prelude.{◌≡◌, ℕ, true, List, [], ◌∷◌, ◌++◌}
use Rattle.std.proofs.Common.{refl, sym, subst, ◌∙◌}
use Rattle.std.specs.List.{AllByRecursion}
use Rattle.pv_steps.specs.Same.{Same}
use Rattle.pv_steps.specs.Trees.{Files, places, IsTree}
use Rattle.pv_walk.proofs.OperationLaws.{object_states-same}
use Rattle.pv_lines.specs.declared.line.Line.{Line}
use Rattle.pv_lines.specs.Lines.{IsLine}
use Rattle.pv_table.specs.Active.{are_distinct}
use Rattle.pv_table.specs.Created.{created, RefusesNoLine}
use Rattle.pv_table.specs.Repeatable.{IsRepeatable}
use Rattle.pv_laws.specs.Copying.{StoppedRuns}
use Rattle.pv_laws.proofs.StateStops.{run_recovers}
use Rattle.pv_laws.proofs.Moments.{created_same}

module _ (lines : List Line) (are : AllByRecursion IsLine lines) (distinct : are_distinct lines ≡ true) (repeatable : IsRepeatable lines) where
  -- a run needs no moment
  any_moment : (now later : ℕ) (t : Files) → Same (created lines now t) (created lines later t)
  any_moment now later t q plain = object_states-same (places (created lines now t)) (places (created lines later t)) q (created_same lines now later t t (λ p. refl) q)

  -- a complete run from the first of these trees refuses no line at some moment
  quiet_first : (moments : List ℕ) (later : ℕ) (t u : Files) → StoppedRuns lines moments t u → RefusesNoLine lines later u → (now : ℕ) × RefusesNoLine lines now t
  quiet_first [] later t u same quiet = (later, subst (RefusesNoLine lines later) same quiet)
  quiet_first (now ∷ moments) later t u runs quiet = (now, runs.0)

  pub again_recovered : (moments : List ℕ) (now later : ℕ) (t u : Files) → IsTree t → IsTree u → StoppedRuns lines moments t u → RefusesNoLine lines later u → Same (created lines later u) (created lines now t)
  again_recovered [] now later t u tree there same again = subst (λ (v : Files). Same (created lines later v) (created lines now t)) (sym same) (any_moment later now t)
  again_recovered (first ∷ moments) now later t u tree there runs again = λ q plain.
      again_recovered moments next.0 later v u runs.1.1 there runs.1.3 again q plain
      ∙ run_recovers lines are distinct repeatable first next.0 t v tree runs.1.1 runs.0 next.1 runs.1.2 q plain
      ∙ any_moment first now t q plain
    where
      v : Files
      v = runs.1.0

      next : (m : ℕ) × RefusesNoLine lines m v
      next = quiet_first moments later v u runs.1.3 again

-- one more run that is cut short
pub stopped_then : (lines : List Line) (moments : List ℕ) (now : ℕ) (s t u : Files) → StoppedRuns lines moments s t → StoppedRuns lines (now ∷ []) t u → StoppedRuns lines (moments ++ now ∷ []) s u
stopped_then lines [] now s t u same one = subst (λ (v : Files). StoppedRuns lines (now ∷ []) v u) same one
stopped_then lines (first ∷ moments) now s t u runs one = (runs.0, (runs.1.0, runs.1.1, runs.1.2, stopped_then lines moments now runs.1.0 t u runs.1.3 one))
