-- Intermediate states of a line that copies nothing, and of a run of such lines, at each path. Timestamps and staging
-- names are left out (tmpfiles.d(5)).
use Rattle.std.specs.Prelude.{◌≡◌, ℕ, false, List, ◌∷◌, ◌++◌, take, Option, Some, None}
use Rattle.pv_path.specs.Paths.{Path, has_staging}
use Rattle.pv_steps.specs.Trees.{Files, places}
use Rattle.pv_walk.specs.declared.object_state.ObjectState.{ObjectState}
use Rattle.pv_walk.specs.declared.operation.Test.{Test}
use Rattle.pv_walk.specs.Dividing.{parts}
use Rattle.pv_walk.specs.Nodes.{object_state_of, object_states_of}
use Rattle.pv_walk.specs.Operations.{stays, run}
use Rattle.pv_lines.specs.declared.line.Line.{Line}
use Rattle.pv_walk.specs.Staging.{new_object}
use Rattle.pv_table.specs.declared.action.Action.TheVariants.{Create}
use Rattle.pv_table.specs.declared.action.Making.{Making}
use Rattle.pv_table.specs.Asked.{operations, operations_of}
use Rattle.pv_table.specs.ActionTable.{action_of}
use Rattle.pv_table.specs.Reaching.{path_in}
use Rattle.pv_table.specs.Turns.{copied}

-- A line copies nothing.
abbrev pub CopiesNothing : Line → Type 0
CopiesNothing line = copied (action_of line) ≡ None

-- A line makes its object at this path, and replaces the object there because it does not pass the test.
pub record IsRenewal (line : Line) (q : Path) (b : ObjectState) : Type 0 where
  pub making : Making
  pub test : Test
  pub makes : action_of line ≡ Create making
  pub at : path_in line.path ≡ q
  pub renews : making.renew ≡ Some test
  pub fails : stays test (object_state_of (new_object making.new 0)).body b.body ≡ false

-- What is at a path q while a line is carried out, compared with what was there when the line began:
-- - piece: The result of the first k operations that the line asks for at this path.
-- - gap: No object, if the line replaces the object there.
pub data IsMidway (line : Line) (q : Path) (old new : Option ObjectState) : Type 0 where
  piece : (k : ℕ) → new ≡ run (take k (parts (operations line q))) old → IsMidway line q old new
  gap : (b : ObjectState) → old ≡ Some b → IsRenewal line q b → new ≡ None → IsMidway line q old new

-- An intermediate state of a line: each path without a staging name is as in `IsMidway`.
abbrev pub OnWay : Line → Files → Files → Type 0
OnWay line t u = (q : Path) → has_staging q ≡ false → IsMidway line q (object_states_of (places t) q) (object_states_of (places u) q)

-- What is at a path q during a run of lines, compared with what was there at the start:
-- - piece: The result of the first k operations that all lines ask for at this path.
-- - gap: No object, if some line replaces the object that the lines before it left there.
pub data IsPiece (lines : List Line) (q : Path) (old new : Option ObjectState) : Type 0 where
  piece : (k : ℕ) → new ≡ run (take k (operations_of lines q)) old → IsPiece lines q old new
  gap : (before after : List Line) (line : Line) (b : ObjectState) → lines ≡ before ++ line ∷ after → run (operations_of before q) old ≡ Some b
      → IsRenewal line q b → new ≡ None → IsPiece lines q old new
