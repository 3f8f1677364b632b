-- Lines that are carried out one after the other (tmpfiles.d(5)): the tree that they leave, the messages, whether one
-- was refused, and the most steps that they take.
use Rattle.std.specs.Prelude.{◌≡◌, ℕ, ◌+◌, ◌*◌, Bool, false, not, ◌&&◌, List, map, filter, sum, Option, Some, None, is_some, if◌then◌else◌}
use Rattle.std.specs.FinMap as fin
use Rattle.pv_walk.specs.declared.operation.Operation.{Operation}
use Rattle.pv_walk.specs.Edits.{count_at}
use Rattle.pv_walk.specs.Nodes.{object_state_of}
use Rattle.pv_lines.specs.declared.line.Line.{Line}
use Rattle.pv_path.specs.Paths.{Path}
use Rattle.pv_steps.specs.declared.object.Object.{Object}
use Rattle.pv_steps.specs.Trees.{Files, places}
use Rattle.pv_walk.specs.Copying.{Subtree, copied_count}
use Rattle.pv_walk.specs.Preparing.{parent_count}
use Rattle.pv_walk.specs.Staging.{staging_names, count_at_all, most_new}
use Rattle.pv_table.specs.declared.action.Action.{Action}
use Rattle.pv_table.specs.declared.action.Action.TheVariants.{Create, Copy, Adjust, Idle}
use Rattle.pv_table.specs.declared.action.Adjustment.{Adjustment}
use Rattle.pv_table.specs.Active.{in_create_order}
use Rattle.pv_table.specs.ActionTable.{action_of}
use Rattle.pv_table.specs.Effects.{same_object_state, become, prepare, is_adjusted, turn_after, turns}
use Rattle.pv_table.specs.Saying.{turn_messages}
use Rattle.pv_table.specs.Turns.{Turn, view_of, has_something, decide, refused_at}
use Rattle.pv_steps.specs.Doing.{Doing, after_each, messages_for_each, one_is_refused, taken_by_each}

-- ---- the most steps for one line at one path

-- At most how many steps change an existing object.
abbrev pub most_changed : ℕ
most_changed = 4

-- At most how many steps some operations take on an object. If they change nothing but timestamps, or there is no
-- object, they take none.
abbrev pub change_work : List Operation → Option Object → ℕ
change_work operations None = 0
change_work operations (Some o) = if same_object_state (object_state_of (become 0 operations o)) (object_state_of o) then 0 else most_changed

-- How many objects are put at and below a path. A line that makes an object puts one. A copy puts each object of the
-- source that is copied.
abbrev pub put_count : Action → Subtree → Files → ℕ
put_count (Copy copying) subtree t = copied_count subtree copying.source t
put_count action subtree t = 1

-- At most how many steps a line takes at a path. It is one for each object that is removed and eight for each new
-- one, or the steps of a change.
abbrev pub turn_work : Action → Path → Turn → Files → ℕ
turn_work action path Turn.Nothing t = 0
turn_work action path (Turn.Left kind) t = 0
turn_work action path (Turn.Put subtree) t = count_at t path + most_new * put_count action subtree t
turn_work action path (Turn.Become operations) t = change_work operations (places t path)

-- At most how many steps a line takes that makes an object and is not refused. It is one for each object at a staging
-- name along the path, eight for each new parent, and those of `turn_work`.
abbrev pub prepared_work : ℕ → Action → Path → Files → ℕ
prepared_work now action path t =
    count_at_all t (staging_names path) + most_new * parent_count path t
    + turn_work action path (decide action (view_of (prepare now path t)) path) (prepare now path t)

-- At most how many steps a line takes that adjusts: four for each object that it reaches and changes.
abbrev pub adjust_work : Adjustment → Path → Files → ℕ
adjust_work adjustment path t =
    sum (map (λ q. change_work adjustment.sets (places t q)) (filter (is_adjusted adjustment path) (fin.keys t)))

-- At most how many steps a line takes at a path where it is not refused. A copy of what does not exist takes none.
abbrev pub action_work : ℕ → Action → Path → Files → ℕ
action_work now (Create making) path t = prepared_work now (Create making) path t
action_work now (Copy copying) path t = if has_something (places t) (Copy copying) then prepared_work now (Copy copying) path t else 0
action_work now (Adjust adjustment) path t = adjust_work adjustment path t
action_work now Idle path t = 0

-- ---- lines at a path, lines, runs

-- A line at one path. If it is refused there, it takes no step.
abbrev pub by_turn : ℕ → Line → Doing Path
by_turn now line = record {
  after = turn_after now line;
  says = turn_messages now line;
  is_refused = λ path t. is_some (refused_at line path (places t));
  takes = λ path t. if is_some (refused_at line path (places t)) then 0 else action_work now (action_of line) path t;
}

-- A line at each path that it names in the tree in which it begins.
abbrev pub by_line : ℕ → Doing Line
by_line now = record {
  after = λ line t. after_each (by_turn now line) (turns line t) t;
  says = λ line t. messages_for_each (by_turn now line) (turns line t) t;
  is_refused = λ line t. one_is_refused (by_turn now line) (turns line t) t;
  takes = λ line t. taken_by_each (by_turn now line) (turns line t) t;
}

-- The same, but a refusal of a line with `-` does not count.
abbrev pub by_line_that_counts : ℕ → Doing Line
by_line_that_counts now = record (by_line now) { is_refused = λ line t. not line.minus && (by_line now).is_refused line t }

-- The tree that a complete create run leaves, if these are the active lines.
abbrev pub created : List Line → ℕ → Files → Files
created lines now t = after_each (by_line now) (in_create_order lines) t

-- The messages of a complete create run about its lines, in the order in which they are carried out.
abbrev pub created_messages : List Line → ℕ → Files → List (List ℕ)
created_messages lines now t = messages_for_each (by_line now) (in_create_order lines) t

-- Whether a line without `-` is refused at some path.
abbrev pub some_refusal_counts : List Line → ℕ → Files → Bool
some_refusal_counts lines now t = one_is_refused (by_line_that_counts now) (in_create_order lines) t

-- No line is refused at any path. This includes lines with `-`.
abbrev pub RefusesNoLine : List Line → ℕ → Files → Type 0
RefusesNoLine lines now t = one_is_refused (by_line now) (in_create_order lines) t ≡ false

-- At most how many steps a create run takes.
abbrev pub work : List Line → ℕ → Files → ℕ
work lines now t = taken_by_each (by_line now) (in_create_order lines) t
