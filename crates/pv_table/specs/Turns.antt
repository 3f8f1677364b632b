-- What a line does at a path that it names: whether it is refused there, and otherwise what it does, by the object
-- there without its timestamps (tmpfiles.d(5)).
use Rattle.std.specs.Prelude.{ℕ, Bool, true, false, not, ◌&&◌, List, length, take, Option, Some, None, is_some, option_map, unwrap_or, if◌then◌else◌}
use Rattle.std.specs.List.{list_all, range_with_len}
use Rattle.std.specs.Option.{option_map_or, option_or, option_and_then}
use Rattle.std.specs.FinMap as fin
use Rattle.pv_walk.specs.declared.object_state.ObjectState.{ObjectState}
use Rattle.pv_walk.specs.declared.operation.Operation.{Operation}
use Rattle.pv_walk.specs.Nodes.{object_state_of, object_states_of, same_kind}
use Rattle.pv_walk.specs.Operations.{admits, stays}
use Rattle.pv_lines.specs.declared.line.Line.{Line}
use Rattle.pv_path.specs.Names.{is_staging}
use Rattle.pv_path.specs.Paths.{Path}
use Rattle.pv_steps.specs.declared.node.Kind.{Kind}
use Rattle.pv_steps.specs.declared.why.Why.{Why}
use Rattle.pv_steps.specs.Objects.{is_directory}
use Rattle.pv_steps.specs.Refusal.{refusal, first_refused, why_unsafe}
use Rattle.pv_steps.specs.Trees.{Files, Places, places, kind_of, child_name}
use Rattle.pv_walk.specs.declared.copying.TopNode.{TopNode}
use Rattle.pv_walk.specs.Copying.{Subtree, single, copy_from, topped}
use Rattle.pv_walk.specs.Staging.{new_object}
use Rattle.pv_table.specs.declared.action.Copying.{Copying}
use Rattle.pv_table.specs.declared.action.Action.{Action}
use Rattle.pv_table.specs.declared.action.Action.TheVariants.{Create, Copy, Adjust, Idle}
use Rattle.pv_table.specs.declared.action.Making.{Making}
use Rattle.pv_table.specs.declared.action.Adjustment.{Adjustment}
use Rattle.pv_table.specs.ActionTable.{action_of, id_for_new, mode_for_new}

-- ---- refusals

-- A refusal: the first k components of a path are refused for a reason. The path is the one that the line copies, or
-- the one at which it is carried out.
pub data Refused : Type 0 where
  source : (path : Path) → ℕ → Why → Refused
  named : (path : Path) → ℕ → Why → Refused

-- The refusal of a path that is copied: the first directory above it that is a symbolic link or not a directory.
-- Owners do not count.
abbrev pub source_refusal : Places → Path → Option (ℕ × Why)
source_refusal t path = first_refused (λ k. why_unsafe (kind_of (t (take k path)))) (range_with_len 0 (length path))

-- The path that a line copies, if it copies.
abbrev pub copied : Action → Option Path
copied (Copy copying) = Some copying.source
copied action = None

-- The owner of the object that a line copies.
abbrev pub source_owner : Places → Action → Option ℕ
source_owner t action = option_map (λ o. o.node.uid) (option_and_then t (copied action))

-- The user that an absent last component of a path counts as owned by: the user of the line, otherwise the owner of
-- what it copies, otherwise root.
abbrev pub owner_made : Line → Places → ℕ
owner_made line t = unwrap_or (option_or (id_for_new line.user) (source_owner t (action_of line))) 0

-- Whether there is something to do. A copy of what does not exist does nothing.
abbrev pub has_something : Places → Action → Bool
has_something t action = option_map_or (λ path. is_some (t path)) (copied action) true

-- The refusal of the path at which a line is carried out.
abbrev pub named_refusal : Line → Path → Places → Option Refused
named_refusal line path t = option_map (λ place. Refused.named path place.0 place.1) (refusal t path (owner_made line t))

-- The refusal of a line at a path that it names. The refusal of the source of a copy comes first. If there is nothing
-- to do, there is no other.
abbrev pub refused_at : Line → Path → Places → Option Refused
refused_at line path t =
    option_or
    (option_and_then (λ source. option_map (λ place. Refused.source source place.0 place.1) (source_refusal t source)) (copied (action_of line)))
    (if has_something t (action_of line) then named_refusal line path t else None)

-- ---- what is done

-- Objects without timestamps: the paths that have an object, and the object at each path.
pub record View : Type 0 where
  pub paths : List Path
  pub at : Path → Option ObjectState

-- The objects of a tree, without timestamps.
abbrev pub view_of : Files → View
view_of t = record { paths = fin.keys t; at = object_states_of (places t) }

-- What is done at a path. Nothing is done. Or an object of another kind is left, with a message. Or a subtree
-- replaces the object there and everything below. Or operations change the object.
pub data Turn : Type 0 where
  Nothing : Turn
  Left : Kind → Turn
  Put : Subtree → Turn
  Become : List Operation → Turn

-- The mode and the owners that the top of a copy gets.
abbrev pub top_of : Copying → Bool → TopNode
top_of copying directory = record {
  mode = option_map (λ mode. mode_for_new (Some mode) directory) copying.mode;
  uid = copying.uid;
  gid = copying.gid;
}

-- A copied object with the mode and the owners of a line. A symbolic link gets only the owners.
abbrev pub topped_by : Copying → ObjectState → ObjectState
topped_by copying b = topped (top_of copying (is_directory b.body.kind)) b

-- The copy of what is at and below a path, without what has a staging name.
abbrev pub copy_of : Copying → View → Subtree
copy_of copying view = copy_from (topped_by copying) copying.source view.at

-- Whether a path is directly below another, and its last component is not a staging name.
abbrev pub is_visible_child : Path → Path → Bool
is_visible_child path q = option_map_or (λ name. not (is_staging name)) (child_name path q) false

-- Whether there is nothing in a directory, staging names aside.
abbrev pub is_childless : View → Path → Bool
is_childless view path = list_all (λ q. not (is_visible_child path q)) view.paths

-- What a line does at its path that makes an object:
-- - If there is none, the new one is put there.
-- - If there is one that is to be replaced (see `renewal`), the new one is put in its place.
-- - If there is one of the same kind, it is adjusted. An object of another kind is left with a message.
abbrev pub making_turn : Making → Option ObjectState → Turn
making_turn making None = Put (single (object_state_of (new_object making.new 0)))
making_turn making (Some b) =
    let new = object_state_of (new_object making.new 0) in
    if not (option_map_or (λ test. stays test new.body b.body) making.renew true) then Put (single new)
    else if same_kind new.body.kind b.body.kind then Become making.sets
    else Left b.body.kind

-- What a line does at its path that copies an object of this kind:
-- - If there is no object, the copy is put there.
-- - If there is an object of the same kind, it is adjusted. But an empty directory is replaced by the copy of a
--   directory.
-- - If there is an object of another kind, the copy replaces it with `=`. Otherwise it is left with a message.
abbrev pub copying_turn : Copying → View → Path → Kind → Option ObjectState → Turn
copying_turn copying view path kind None = Put (copy_of copying view)
copying_turn copying view path kind (Some b) =
    if same_kind kind b.body.kind then
    (if is_directory kind && is_childless view path then Put (copy_of copying view) else Become copying.sets)
    else if copying.renews then Put (copy_of copying view)
    else Left b.body.kind

-- What a line does that adjusts. If there is no object, it does nothing. An object of the wanted kind is adjusted,
-- and any other is left with a message.
abbrev pub adjustment_turn : Adjustment → Option ObjectState → Turn
adjustment_turn adjustment None = Nothing
adjustment_turn adjustment (Some b) = if admits adjustment.wanted b.body.kind then Become adjustment.sets else Left b.body.kind

-- What a line that is not refused does at a path that it names. A copy of what does not exist does nothing.
abbrev pub decide : Action → View → Path → Turn
decide (Create making) view path = making_turn making (view.at path)
decide (Copy copying) view path = by (view.at copying.source)
  where
    by : Option ObjectState → Turn
    by None = Nothing
    by (Some b) = copying_turn copying view path b.body.kind (view.at path)
decide (Adjust adjustment) view path = adjustment_turn adjustment (view.at path)
decide Idle view path = Nothing
