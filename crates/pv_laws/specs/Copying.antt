-- Intermediate states of a run of lines, some of which may copy. Timestamps and staging names are left out
-- (tmpfiles.d(5)).
use Rattle.std.specs.Prelude.{⊤, ◌≡◌, ◌≢◌, ℕ, true, false, List, [], ◌∷◌, take, Option, Some, None, is_some}
use Rattle.pv_path.specs.Paths.{Path, is_prefix, has_staging}
use Rattle.pv_steps.specs.Same.{Same}
use Rattle.pv_steps.specs.Trees.{Files, places, IsTree}
use Rattle.pv_walk.specs.declared.object_state.ObjectState.{ObjectState}
use Rattle.pv_walk.specs.Dividing.{parts}
use Rattle.pv_walk.specs.Nodes.{object_states_of}
use Rattle.pv_walk.specs.Operations.{run}
use Rattle.pv_steps.specs.Courses.{Course, Partway}
use Rattle.pv_lines.specs.declared.line.Line.{Line}
use Rattle.pv_table.specs.declared.action.Copying.{Copying}
use Rattle.pv_table.specs.declared.action.Action.TheVariants.{Copy}
use Rattle.pv_table.specs.Active.{in_create_order}
use Rattle.pv_table.specs.ActionTable.{action_of}
use Rattle.pv_table.specs.Created.{by_line, RefusesNoLine}
use Rattle.pv_table.specs.Effects.{prepare}
use Rattle.pv_table.specs.Pointwise.{parent_object_state}
use Rattle.pv_table.specs.Reaching.{path_in}
use Rattle.pv_table.specs.Turns.{Turn, view_of, copied, decide}
use Rattle.pv_walk.specs.Copying.{Subtree}
use Rattle.pv_laws.specs.Stopping.{OnWay}

-- What is at a path q before the copy of a line is renamed into place, compared with what was there when the line
-- began:
-- - kept: The same.
-- - parent: Above the line's path, a new parent if there was no object.
-- - some_set: At the line's path, if the object there stays, the first k of the changes to it are done.
-- - gone: At or below the line's path, no object, if the copy is to be put there.
pub data IsCopyMidway (path : Path) (copying : Copying) (turn : Turn) (q : Path) (old new : Option ObjectState) : Type 0 where
  kept : new ≡ old → IsCopyMidway path copying turn q old new
  parent : is_prefix q path ≡ true → q ≢ path → old ≡ None → new ≡ Some parent_object_state → IsCopyMidway path copying turn q old new
  some_set : (k : ℕ) → q ≡ path → turn ≡ Turn.Become copying.sets → new ≡ run (take k (parts copying.sets)) old → IsCopyMidway path copying turn q old new
  gone : (subtree : Subtree) → is_prefix path q ≡ true → turn ≡ Turn.Put subtree → new ≡ None → IsCopyMidway path copying turn q old new

-- What a line does at its path after it has prepared it.
abbrev pub turn_of : Line → Copying → ℕ → Files → Turn
turn_of line copying now t = decide (Copy copying) (view_of (prepare now (path_in line.path) t)) (path_in line.path)

-- The copy of a line is not yet renamed into place. What it copies exists, and each path without a staging name is as
-- in `IsCopyMidway`.
abbrev pub BeforeCopy : Line → Copying → ℕ → Files → Files → Type 0
BeforeCopy line copying now t u =
    (is_some (places t copying.source) ≡ true)
    × ((q : Path) → has_staging q ≡ false → IsCopyMidway (path_in line.path) copying (turn_of line copying now t) q (object_states_of (places t) q) (object_states_of (places u) q))

-- An intermediate state of one line. The copy of a line that copies is not yet in place, or the line is done. For a
-- line that does not copy, `OnWay` says it path by path.
pub data OnWayOf (line : Line) (now : ℕ) (t u : Files) : Type 0 where
  copy_before : (copying : Copying) → action_of line ≡ Copy copying → BeforeCopy line copying now t u → OnWayOf line now t u
  copy_done : (copying : Copying) → action_of line ≡ Copy copying → Same ((by_line now).after line t) u → OnWayOf line now t u
  other : copied (action_of line) ≡ None → OnWay line t u → OnWayOf line now t u

-- A line as a `Course`. Its intermediate states are those of `OnWayOf`. Of its steps, and of where it is stopped,
-- nothing is said.
abbrev pub law_course : ℕ → Course Line
law_course now = record {
  whole = by_line now;
  way = λ line t u. OnWayOf line now t u;
  steps = λ line t step. ⊤;
  cut = λ moment refused line t steps new_messages. ⊤;
}

-- An intermediate state of lines that are carried out one after the other.
abbrev pub PartwayOf : List Line → ℕ → Files → Files → Type 0
PartwayOf lines now t u = Partway (law_course now) lines t u

-- One run of the same lines at each of some times. Each run begins with the tree that the last one left, and leaves
-- some intermediate state. A complete run from the tree with which each begins would refuse no line.
abbrev pub StoppedRuns : List Line → List ℕ → Files → Files → Type 0
StoppedRuns lines [] t u = u ≡ t
StoppedRuns lines (now ∷ moments) t u =
    RefusesNoLine lines now t
    × ((v : Files) × IsTree v × PartwayOf (in_create_order lines) now t v × StoppedRuns lines moments v u)
