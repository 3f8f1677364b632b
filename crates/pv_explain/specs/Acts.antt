-- Which lines change a path in creating, and what is there after all of them (tmpfiles.d(5)). This is said by what
-- lines leave at each path by itself, timestamps aside.
use Rattle.std.specs.Prelude.{ℕ, ◌+◌, List, length, Option, Some, None, option_map, if◌then◌else◌}
use Rattle.std.specs.FinMap as fin
use Rattle.std.specs.List.{filter_map, enumerate_from}
use Rattle.pv_walk.specs.declared.object_state.ObjectState.{ObjectState}
use Rattle.pv_walk.specs.Nodes.{object_state_of, object_states_of}
use Rattle.pv_lines.specs.declared.line.Line.{Line}
use Rattle.pv_path.specs.Paths.{Path}
use Rattle.pv_steps.specs.declared.node.Node.{Node}
use Rattle.pv_steps.specs.Trees.{Files, places}
use Rattle.pv_table.specs.Active.{in_create_order}
use Rattle.pv_table.specs.Effects.{same_object_state}
use Rattle.pv_table.specs.Pointwise.{ObjectStates, state, tabulated}
use Rattle.pv_explain.specs.declared.explained.Act.{Act}
use Rattle.pv_explain.specs.declared.explained.Act.TheVariants.{Makes, Removes, Changes}
use Rattle.pv_explain.specs.declared.explained.LineAct.{LineAct}

-- All objects of a tree, without timestamps.
abbrev pub standing : Files → ObjectStates
standing t = tabulated (fin.keys t) (object_states_of (places t))

-- How the object at a path is changed: made, removed, changed, or not at all.
abbrev pub act_between : Option ObjectState → Option ObjectState → Option Act
act_between None None = None
act_between None (Some b) = Some Makes
act_between (Some a) None = Some Removes
act_between (Some a) (Some b) = if same_object_state a b then None else Some Changes

-- What the line after the first k lines does at a path, in the order of creating.
abbrev pub act_after : List Line → ObjectStates → Path → ℕ → Option Act
act_after lines s path k = act_between (fin.get (state lines k s) path) (fin.get (state lines (k + 1) s) path)

-- What a line does at a path, with the line's location. The line comes with the number of lines before it.
abbrev pub line_act : List Line → ObjectStates → Path → ℕ × Line → Option LineAct
line_act lines s path line = option_map (λ act. record { place = line.1.place; act = act }) (act_after lines s path line.0)

-- What all lines do at a path, in the order of creating. Lines that do nothing there are left out.
abbrev pub acts : List Line → ObjectStates → Path → List LineAct
acts lines s path = filter_map (line_act lines s path) (enumerate_from 0 (in_create_order lines))

-- The object at a path after all lines.
abbrev pub last : List Line → ObjectStates → Path → Option ObjectState
last lines s path = fin.get (state lines (length (in_create_order lines)) s) path

-- A node and its payload as an object without timestamps.
abbrev pub object_state_in : Node × List ℕ → ObjectState
object_state_in object = object_state_of (record { node = object.0; payload = object.1 })
