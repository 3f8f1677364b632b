-- The tree that a line leaves, timestamps included (tmpfiles.d(5)). Intermediate states and staged objects of the run
-- itself do not occur here.
use Rattle.std.specs.Prelude.{ℕ, Bool, not, ◌&&◌, ◌||◌, ◌==◌, List, [], ◌∷◌, ◌++◌, map, filter, fold, Option, Some, None, option_map, if◌then◌else◌}
use Rattle.std.specs.FinMap as fin
use Rattle.std.specs.List.{filter_map}
use Rattle.std.specs.Cmp.Lexicographic.{pointwise}
use Rattle.pv_walk.specs.declared.object_state.ObjectState.{ObjectState}
use Rattle.pv_walk.specs.declared.operation.Operation.{Operation}
use Rattle.pv_acl.specs.contracts.part.AclPartialEq as acl_eq
use Rattle.pv_walk.specs.Nodes.{object_state_of, same_kind}
use Rattle.pv_walk.specs.Operations.{done}
use Rattle.pv_lines.specs.declared.line.Line.{Line}
use Rattle.pv_path.specs.Names.{same_bytes}
use Rattle.pv_path.specs.Paths.{Path, same_path, is_prefix, rest_under, has_staging}
use Rattle.pv_steps.specs.declared.attr.Attr.{Attr}
use Rattle.pv_steps.specs.declared.object.Object.{Object}
use Rattle.pv_steps.specs.Objects.{changed, modified}
use Rattle.pv_steps.specs.Steps.{on_at}
use Rattle.pv_steps.specs.Trees.{Files, places, tabulate}
use Rattle.pv_walk.specs.Copying.{with_stamps, with_subtree}
use Rattle.pv_walk.specs.Preparing.{parents_of, prepared}
use Rattle.pv_table.specs.declared.action.Action.{Action}
use Rattle.pv_table.specs.declared.action.Action.TheVariants.{Create, Copy, Adjust, Idle}
use Rattle.pv_table.specs.declared.action.Adjustment.{Adjustment}
use Rattle.pv_table.specs.ActionTable.{action_of}
use Rattle.pv_table.specs.Reaching.{names, path_in}
use Rattle.pv_table.specs.Turns.{Refused, Turn, view_of, decide, has_something, refused_at}

-- ---- one object

-- Whether two extended attributes have the same name and value.
abbrev pub same_attr : Attr → Attr → Bool
same_attr a b = same_bytes a.name b.name && same_bytes a.value b.value

-- Whether two objects are the same except for timestamps.
abbrev pub same_object_state : ObjectState → ObjectState → Bool
same_object_state a b =
    same_kind a.body.kind b.body.kind && same_bytes a.body.payload b.body.payload && a.body.major == b.body.major
    && a.body.minor == b.body.minor && a.metadata.uid == b.metadata.uid && a.metadata.gid == b.metadata.gid
    && a.metadata.special == b.metadata.special && (acl_eq.TheImpl.eq-value).it a.metadata.acl b.metadata.acl
    && pointwise same_attr a.metadata.attrs b.metadata.attrs && a.metadata.letters == b.metadata.letters

-- An object with this state, and with the timestamps of another one.
abbrev pub as_object_state : ObjectState → Object → Object
as_object_state b o = with_stamps o.node.stamps b

-- An object that gets a new state. If nothing differs, it keeps all timestamps. Otherwise the change timestamp is
-- now. If its bytes differ, the modification timestamp is now too.
abbrev pub restamped : ℕ → ObjectState → Object → Object
restamped now b o =
    if same_object_state b (object_state_of o) then o
    else if same_bytes b.body.payload o.payload then changed now (as_object_state b o)
    else modified now (as_object_state b o)

-- An object after an operation that leaves it there, timestamps included.
abbrev pub adjusted : ℕ → Object → Operation → Object
adjusted now o operation = by (done operation (Some (object_state_of o)))
  where
    by : Option ObjectState → Object
    by None = o
    by (Some b) = restamped now b o

-- An object after some such operations.
abbrev pub become : ℕ → List Operation → Object → Object
become now operations o = fold (adjusted now) o operations

-- ---- a tree

-- The paths at which a line may put an object: its own, and one for each path below what it copies.
abbrev pub put_paths : Action → Path → Files → List Path
put_paths (Copy copying) path t = path ∷ map (λ rest. path ++ rest) (filter_map (rest_under copying.source) (fin.keys t))
put_paths action path t = path ∷ []

-- The tree after what is done at a path: nothing, a new subtree in place of what was there, or operations on the
-- object there.
abbrev pub turned : ℕ → Action → Path → Turn → Files → Files
turned now action path Turn.Nothing t = t
turned now action path (Turn.Left kind) t = t
turned now action path (Turn.Put subtree) t = tabulate (put_paths action path t ++ fin.keys t) (with_subtree now path subtree (places t))
turned now action path (Turn.Become operations) t = tabulate (fin.keys t) (on_at path (become now operations) (places t))

-- The tree after a path is prepared. All objects at staging names along the path are removed, and absent parents are
-- made.
unfoldable pub prepare : ℕ → Path → Files → Files
prepare now path t = tabulate (parents_of path ++ fin.keys t) (prepared now path (places t))

-- Whether what a line adjusts at one path reaches another. It reaches the path itself. If it is deep, it also reaches
-- every path below in which no component is a staging name.
abbrev pub is_adjusted : Adjustment → Path → Path → Bool
is_adjusted adjustment path q = same_path path q || (adjustment.deep && is_prefix path q && not (has_staging q))

-- The tree after the object at a path is adjusted, and everything below it if the line is deep.
abbrev pub adjust_at : ℕ → Adjustment → Path → Files → Files
adjust_at now adjustment path t = tabulate (fin.keys t) (λ q. if is_adjusted adjustment path q then option_map (become now adjustment.sets) (places t q) else places t q)

-- The tree after a line that is not refused at a path. A line that makes or copies prepares the path first. A copy of
-- what does not exist does nothing.
abbrev pub carried_out : ℕ → Action → Path → Files → Files
carried_out now (Create making) path t = turned now (Create making) path (decide (Create making) (view_of (prepare now path t)) path) (prepare now path t)
carried_out now (Copy copying) path t =
    if has_something (places t) (Copy copying) then turned now (Copy copying) path (decide (Copy copying) (view_of (prepare now path t)) path) (prepare now path t)
    else t
carried_out now (Adjust adjustment) path t = adjust_at now adjustment path t
carried_out now Idle path t = t

-- The tree after a line at a path that it names. A refused line does nothing.
abbrev pub turn_after : ℕ → Line → Path → Files → Files
turn_after now line path t = by (refused_at line path (places t))
  where
    by : Option Refused → Files
    by (Some place) = t
    by None = carried_out now (action_of line) path t

-- The paths at which a line is carried out, in byte order. A line that makes or copies has its own path. A line that
-- adjusts has the paths that it names and that exist.
abbrev pub turns : Line → Files → List Path
turns line t = by (action_of line)
  where
    by : Action → List Path
    by (Create making) = path_in line.path ∷ []
    by (Copy copying) = path_in line.path ∷ []
    by (Adjust adjustment) = filter (names line) (fin.keys t)
    by Idle = []
