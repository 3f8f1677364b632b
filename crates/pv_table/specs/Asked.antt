-- What lines ask of the object at one path (tmpfiles.d(5)). Lines that copy ask for nothing here, since what they
-- leave depends on other paths.
use Rattle.std.specs.Prelude.{Bool, false, not, ◌&&◌, List, [], ◌∷◌, Option, Some, None, if◌then◌else◌}
use Rattle.std.specs.List.{flat_map}
use Rattle.pv_walk.specs.declared.operation.Operation.{Operation}
use Rattle.pv_walk.specs.declared.operation.Operation.TheVariants.{Make, Renew, Erase}
use Rattle.pv_walk.specs.declared.operation.Test.{Test}
use Rattle.pv_walk.specs.Dividing.{parts}
use Rattle.pv_walk.specs.Nodes.{object_state_of}
use Rattle.pv_lines.specs.declared.line.Line.{Line}
use Rattle.pv_path.specs.Paths.{Path, is_prefix, same_path}
use Rattle.pv_steps.specs.Objects.{is_directory}
use Rattle.pv_walk.specs.Staging.{new_object, new_kind}
use Rattle.pv_table.specs.declared.action.Action.{Action}
use Rattle.pv_table.specs.declared.action.Action.TheVariants.{Create, Copy, Adjust, Idle}
use Rattle.pv_table.specs.declared.action.Making.{Making}
use Rattle.pv_table.specs.ActionTable.{action_of}
use Rattle.pv_table.specs.Pointwise.{parent_object_state, adjusts_path}
use Rattle.pv_table.specs.Reaching.{path_in}

-- What a line that makes an object does first at its path. The object is made if there is none, or it replaces one
-- that does not stay.
abbrev pub first_of : Making → Operation
first_of making = by making.renew
  where
    by : Option Test → Operation
    by None = Make (object_state_of (new_object making.new 0))
    by (Some test) = Renew test (object_state_of (new_object making.new 0))

-- Whether everything below the path is removed. This is so if the line may replace a directory, and the new object is
-- not a directory.
abbrev pub clears_below : Making → Bool
clears_below making = by making.renew
  where
    by : Option Test → Bool
    by None = false
    by (Some test) = not test.spares_directories && not (is_directory (new_kind making.new.what))

-- What a line that makes an object asks of a path:
-- - At its own path, the object is made, and then what the line sets.
-- - Above its path, a directory is made if there is none.
-- - Below its path, the object is removed if `clears_below` says so.
abbrev pub made_at : Making → Path → Path → List Operation
made_at making path q =
    if same_path path q then first_of making ∷ making.sets
    else if is_prefix q path then Make parent_object_state ∷ []
    else if is_prefix path q && clears_below making then Erase ∷ []
    else []

-- What a line asks of the object at a path.
abbrev pub operations : Line → Path → List Operation
operations line q = by (action_of line)
  where
    by : Action → List Operation
    by (Create making) = made_at making (path_in line.path) q
    by (Copy copying) = []
    by (Adjust adjustment) = if adjusts_path line adjustment q then adjustment.sets else []
    by Idle = []

-- What several lines ask of the object at a path, one after the other. Operations that take more than one step are
-- split into their parts.
abbrev pub operations_of : List Line → Path → List Operation
operations_of lines q = flat_map (λ line. parts (operations line q)) lines
