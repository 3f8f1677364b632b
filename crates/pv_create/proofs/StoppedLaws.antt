-- A run of the lines of a table that was stopped: it is on its way as the laws of lines say, so that the next run completes it,
-- no path is but between two lines, and what no line governs is as it was.
use Rattle.std.specs.Prelude.{◌≡◌, ℕ, ◌^◌, ◌<◌, true, List, [], ◌∷◌, ◌++◌, length, take, drop}
use Rattle.std.proofs.Common.{refl, sym, ap, subst, ◌∙◌}
use Rattle.std.proofs.Math.Seq.{drop-append_seam}
use Rattle.std.specs.List.{AllByRecursion}
use Rattle.pv_steps.specs.declared.step.Step.{Step}
use Rattle.pv_steps.specs.Runs.{after_all, Ran}
use Rattle.pv_steps.specs.Trees.{Files, places, IsTree}
use Rattle.pv_steps.proofs.RunLaws.{along_prefix, along_trees}
use Rattle.pv_lines.specs.declared.line.Line.{Line}
use Rattle.pv_lines.specs.Lines.{IsLine}
use Rattle.pv_table.specs.Active.{are_distinct, in_create_order}
use Rattle.pv_table.proofs.ListedLaws.{all_in_order}
use Rattle.pv_steps.specs.Courses.{Partway}
use Rattle.pv_laws.specs.Copying.{PartwayOf}
use Rattle.pv_laws.proofs.AgainStops.{again_recovered, stopped_then}
use Rattle.pv_laws.proofs.AllFrames.{stopped_frame}
use Rattle.pv_laws.proofs.CopyWays.{copies_on_the_way}
use Rattle.pv_laws.proofs.Shapes.{tree_shaped}
use Rattle.pv_create.specs.Recovery.{Recovers, RecoversAgain, IsStoppedAgain}
use Rattle.pv_create.specs.OnTheWay.{IsFramed, IsStoppedBetween, lines_course}
use Rattle.pv_create.proofs.BridgeLaws.{run_way}

module _ (table : List Line) (are : AllByRecursion IsLine table) (Q : Step → Type 0) (now : ℕ) (t : Files) (h : List Step) (u : Files) (k : List Step) (fits : now < 2 ^ 64) (tree : IsTree t)
    (run : Ran (Partway (lines_course now) (in_create_order table) t) Q now t h u k) where
  abbrev at_moment : ℕ → Files
  at_moment n = after_all t (take n (drop (length h) k)) now

  -- after each number of its steps
  at_each : (P : Files → Type 0) → ((n : ℕ) → P (after_all t (take n run.steps) now)) → (n : ℕ) → P (at_moment n)
  at_each P = subst (λ (steps : List Step). (n : ℕ) → P (after_all t (take n steps) now)) (sym (ap (drop (length h)) run.recorded ∙ drop-append_seam h run.steps))

  tree_at : (n : ℕ) → IsTree (at_moment n)
  tree_at = at_each IsTree (λ n. along_prefix IsTree t run.steps now n (along_trees (Partway (lines_course now) (in_create_order table) t) t run.steps now fits tree run.along))

  way_at : (n : ℕ) → PartwayOf (in_create_order table) now t (at_moment n)
  way_at n = run_way now (in_create_order table) t (at_moment n) (all_in_order IsLine table are) (tree_shaped (places t) tree) (
      at_each (Partway (lines_course now) (in_create_order table) t) (λ m. along_prefix (Partway (lines_course now) (in_create_order table) t) t run.steps now m run.along) n)

  -- it is one more of those that were cut short
  pub stopped : IsStoppedAgain table now t (drop (length h) k)
  stopped = λ s moments n repeatable before quiet. stopped_then table moments now s t (at_moment n) before (quiet, (at_moment n, tree_at n, way_at n, refl))

  -- so all of them recover by the next, and it alone
  pub recovered_again : are_distinct table ≡ true → RecoversAgain table now t (drop (length h) k)
  recovered_again distinct = λ s moments n first later start repeatable before quiet again.
      again_recovered table are distinct repeatable (moments ++ now ∷ []) first later s (at_moment n) start (tree_at n) (stopped s moments n repeatable before quiet) again

  pub recovers : are_distinct table ≡ true → Recovers table now t (drop (length h) k)
  recovers distinct = λ n later repeatable quiet again. recovered_again distinct t [] n now later tree repeatable refl quiet again

  -- at each moment each path is between two lines
  pub between : IsStoppedBetween table now t (drop (length h) k)
  between = λ n s repeatable quiet agree. copies_on_the_way table now s t (at_moment n) tree quiet agree are repeatable (way_at n)

  -- and what no line governs is as it was
  pub framed : IsFramed table now t (drop (length h) k)
  framed = λ n q plain free. stopped_frame now q plain table are free t tree (at_moment n) (way_at n)
