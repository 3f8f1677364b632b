-- Intermediate states of a run, path by path: each path has what it has after some lines or after one more. Only the
-- kind and the owner are compared, since walking a path depends on nothing else (path_resolution(7)).
use Rattle.std.specs.Prelude.{◌≡◌, ◌⊎◌, ℕ, suc, true, false, List, length, Option, Some, None}
use Rattle.std.specs.FinMap as fin
use Rattle.pv_path.specs.Paths.{Path, is_prefix, has_staging}
use Rattle.pv_steps.specs.Trees.{Files, places}
use Rattle.pv_walk.specs.declared.object_state.ObjectState.{ObjectState}
use Rattle.pv_walk.specs.Nodes.{object_states_of}
use Rattle.pv_lines.specs.declared.line.Line.{Line}
use Rattle.pv_table.specs.Active.{in_create_order}
use Rattle.pv_table.specs.ActionTable.{action_of}
use Rattle.pv_table.specs.Pointwise.{ObjectStates, view, state}
use Rattle.pv_table.specs.Reaching.{path_in}
use Rattle.pv_table.specs.Repeatable.{IsAt}
use Rattle.pv_table.specs.Turns.{Turn, decide}
use Rattle.pv_walk.specs.Copying.{Subtree}
use Rattle.pv_laws.specs.Moments.{Agree}

-- Two objects have the same kind and the same owner.
pub record IsAkin (a b : ObjectState) : Type 0 where
  pub kind : a.body.kind ≡ b.body.kind
  pub uid : a.metadata.uid ≡ b.metadata.uid

-- A line replaces the object at a path. This is the line's own path, and the line puts its new object or its copy
-- there.
pub record Replaces (line : Line) (s : ObjectStates) (path : Path) : Type 0 where
  pub object : ObjectState
  pub subtree : Subtree
  pub at : path_in line.path ≡ path
  pub there : fin.get s path ≡ Some object
  pub puts : decide (action_of line) (view s) path ≡ Turn.Put subtree

-- What is at a path while a line is carried out, between what the line finds and what it leaves:
-- - akin: An object is there, of the same kind and owner as the one before the line or the one after it.
-- - absent: No object is there, and there is none before the line, or none after it.
-- - gap: No object is there, and the line replaces an object at this path or above it.
pub data IsBetween (line : Line) (before after : ObjectStates) (q : Path) (here : Option ObjectState) : Type 0 where
  akin : (x y : ObjectState) → here ≡ Some x → (fin.get before q ≡ Some y) ⊎ (fin.get after q ≡ Some y) → IsAkin x y → IsBetween line before after q here
  absent : here ≡ None → (fin.get before q ≡ None) ⊎ (fin.get after q ≡ None) → IsBetween line before after q here
  gap : (path : Path) → here ≡ None → is_prefix path q ≡ true → Replaces line before path → IsBetween line before after q here

-- The first k lines are done, and the next one is being carried out. Staging names aside, each path is between what
-- these k lines leave and what one more leaves.
pub record IsAtLine (lines : List Line) (s : ObjectStates) (u : Files) : Type 0 where
  pub k : ℕ
  pub line : Line
  pub at : IsAt (in_create_order lines) k line
  pub between : (q : Path) → has_staging q ≡ false → IsBetween line (state lines k s) (state lines (suc k) s) q (object_states_of (places u) q)

-- All lines are done, or one is being carried out.
abbrev pub IsOnTheWay : List Line → ObjectStates → Files → Type 0
IsOnTheWay lines s u = Agree (state lines (length (in_create_order lines)) s) u ⊎ IsAtLine lines s u
