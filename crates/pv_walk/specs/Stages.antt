-- The stages of a new object at a staging name. First it is as its Make step leaves it, then it has its content.
-- Then it gets its owners, mode, ACL, extended attributes and file attribute flags, in this order. The mode comes
-- after the owners because chown(2) clears set-user-ID bits, as write(2) does. So no object has its mode while it
-- has other owners.
use Rattle.std.specs.Prelude.{◌≡◌, ◌⊎◌, ℕ, ◌++◌, Option, Some, None}
use Rattle.pv_walk.specs.declared.object_state.ObjectState.{ObjectState}
use Rattle.pv_walk.specs.SettingMetadata.{with_first_changes}
use Rattle.pv_walk.specs.Edits.{SameOutside}
use Rattle.pv_walk.specs.Nodes.{object_state_of, object_states_of}
use Rattle.pv_path.specs.Paths.{Path, is_prefix}
use Rattle.pv_steps.specs.declared.node.Kind.TheVariants.{Directory}
use Rattle.pv_steps.specs.Trees.{Files, places}
use Rattle.pv_walk.specs.declared.new_file.NewKind.TheVariants as new
use Rattle.pv_walk.specs.Copying.{Subtree}
use Rattle.pv_walk.specs.Making.{IsBegun, first_object, held_object}
use Rattle.pv_walk.specs.Pieces.{what_of, IsFilledBelow}

-- An object is in one of its stages, timestamps left out: it is only begun, or it has its content and the first k of
-- the five changes of metadata.
pub data IsStage (object there : ObjectState) : Type 0 where
  begun : IsBegun (what_of object.body) there → IsStage object there
  setting_metadata : (k : ℕ) → there ≡ object_state_of (with_first_changes k object.metadata (held_object (what_of object.body) 0)) → IsStage object there

-- At one path there is nothing, or a stage of the object that is wanted there.
pub data IsAtStage (wanted there : Option ObjectState) : Type 0 where
  none : there ≡ None → IsAtStage wanted there
  stage : (object found : ObjectState) → wanted ≡ Some object → there ≡ Some found → IsStage object found → IsAtStage wanted there

-- The objects at and below a path, without timestamps.
abbrev pub standing_at : Path → Files → Subtree
standing_at path u = λ rest. object_states_of (places u) (path ++ rest)

-- A directory as its Make step leaves it.
abbrev pub made_directory : ObjectState
made_directory = object_state_of (first_object new.Directory 0)

-- Each directory is as its Make step leaves it, or all below it is complete. So it gets its owners and its mode only
-- when it is filled.
abbrev pub AreFilledFirst : Subtree → Subtree → Type 0
AreFilledFirst subtree there = (rest : Path) (found : ObjectState) → there rest ≡ Some found → found.body.kind ≡ Directory
    → (found ≡ made_directory) ⊎ IsFilledBelow subtree there rest

-- At and below a path there are only stages of the objects of a subtree, and each directory is filled first.
pub record InStages (path : Path) (subtree : Subtree) (u : Files) : Type 0 where
  pub each : (rest : Path) → IsAtStage (subtree rest) (standing_at path u rest)
  pub filled : AreFilledFirst subtree (standing_at path u)

-- An intermediate state of making a subtree at a path: its objects are in their stages, and nothing else has changed
-- except timestamps.
pub record Staging (path : Path) (subtree : Subtree) (t u : Files) : Type 0 where
  pub outside : SameOutside (is_prefix path) t u
  pub stages : InStages path subtree u
