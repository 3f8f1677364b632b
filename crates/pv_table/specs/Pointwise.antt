-- What lines that are not refused leave at each path, timestamps aside (tmpfiles.d(5)). Here a path is understood by
-- itself, without a tree that changes line by line.
use Rattle.std.specs.Prelude.{ℕ, Bool, not, ◌&&◌, ◌||◌, List, [], ◌∷◌, ◌++◌, map, fold, take, Option, Some, is_some, unwrap_or, option_map, if◌then◌else◌}
use Rattle.std.specs.FinMap as fin
use Rattle.std.specs.List.{filter_map}
use Rattle.std.specs.Option.{option_map_or}
use Rattle.pv_walk.specs.declared.object_state.ObjectState.{ObjectState}
use Rattle.pv_walk.specs.Nodes.{object_state_of}
use Rattle.pv_walk.specs.Operations.{run}
use Rattle.pv_lines.specs.declared.line.Line.{Line}
use Rattle.pv_path.specs.Paths.{Path, path_cmp, is_prefix, same_path, rest_under, has_staging}
use Rattle.pv_walk.specs.Preparing.{parent_file, parents_of}
use Rattle.pv_walk.specs.Staging.{new_object}
use Rattle.pv_table.specs.declared.action.Action.{Action}
use Rattle.pv_table.specs.declared.action.Action.TheVariants.{Create, Copy, Adjust, Idle}
use Rattle.pv_table.specs.declared.action.Adjustment.{Adjustment}
use Rattle.pv_table.specs.Active.{in_create_order}
use Rattle.pv_table.specs.ActionTable.{action_of}
use Rattle.pv_table.specs.Reaching.{names, names_above, path_in}
use Rattle.pv_table.specs.Turns.{Turn, View, decide}

-- The object at each path without its timestamps, as a finite map.
abbrev pub ObjectStates : Type 0
ObjectStates = fin.FinMap path_cmp ObjectState

abbrev pub view : ObjectStates → View
view s = record { paths = fin.keys s; at = fin.get s }

-- The finite map of what a function gives at some paths.
abbrev pub tabulated : List Path → (Path → Option ObjectState) → ObjectStates
tabulated paths t = fin.from_entries (filter_map (λ path. option_map (λ b. (path, b)) (t path)) paths)

-- The directory that a line makes as a parent, without timestamps.
abbrev pub parent_object_state : ObjectState
parent_object_state = object_state_of (new_object parent_file 0)

-- What is left at or below the path at which something is done. `rest` is what follows that path, and `b` is what was
-- there.
abbrev pub after_turn : Turn → Path → Option ObjectState → Option ObjectState
after_turn Turn.Nothing rest b = b
after_turn (Turn.Left kind) rest b = b
after_turn (Turn.Put subtree) rest b = subtree rest
after_turn (Turn.Become operations) [] b = run operations b
after_turn (Turn.Become operations) (name ∷ rest) b = b

-- What a line that makes or copies leaves at a path. Above the line's path it is what was there, or otherwise a new
-- parent. At and below the line's path it is what is done there. Elsewhere it is what was there.
abbrev pub at_made : Action → Path → ObjectStates → Path → Option ObjectState
at_made action path s q =
    if is_prefix q path && not (same_path q path) then Some (unwrap_or (fin.get s q) parent_object_state)
    else option_map_or (λ rest. after_turn (decide action (view s) path) rest (fin.get s q)) (rest_under path q) (fin.get s q)

-- Whether a line adjusts a path: it names the path. If it is deep, it also adjusts what is below a path that it
-- names, except for staging names.
abbrev pub adjusts_path : Line → Adjustment → Path → Bool
adjusts_path line adjustment q = names line q || (adjustment.deep && names_above line q && not (has_staging q))

-- What a line leaves at a path, given the objects at all paths.
abbrev pub point : Line → ObjectStates → Path → Option ObjectState
point line s q = by (action_of line)
  where
    by : Action → Option ObjectState
    by (Create making) = at_made (Create making) (path_in line.path) s q
    by (Copy copying) = if is_some (fin.get s copying.source) then at_made (Copy copying) (path_in line.path) s q else fin.get s q
    by (Adjust adjustment) = if adjusts_path line adjustment q then run adjustment.sets (fin.get s q) else fin.get s q
    by Idle = fin.get s q

-- The paths at which a line may put an object.
abbrev pub point_paths : Line → ObjectStates → List Path
point_paths line s = by (action_of line)
  where
    by : Action → List Path
    by (Create making) = path_in line.path ∷ parents_of (path_in line.path)
    by (Copy copying) = path_in line.path ∷ parents_of (path_in line.path) ++ map (λ rest. path_in line.path ++ rest) (filter_map (rest_under copying.source) (fin.keys s))
    by action = []

-- What a line leaves at all paths.
abbrev pub pointwise_after : ObjectStates → Line → ObjectStates
pointwise_after s line = tabulated (point_paths line s ++ fin.keys s) (point line s)

-- What the first k lines leave at all paths, in the order of creating.
abbrev pub state : List Line → ℕ → ObjectStates → ObjectStates
state lines k s = fold pointwise_after s (take k (in_create_order lines))
