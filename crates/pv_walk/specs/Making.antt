-- How a new object is made at its staging path: the step that makes it, its content, and its metadata (mkdir(2),
-- mknod(2), symlink(2)).
use Rattle.std.specs.Prelude.{◌≡◌, ◌⊎◌, ℕ, List, [], ◌∷◌, Option, Some, None}
use Rattle.pv_path.specs.Paths.{Path, same_path}
use Rattle.pv_acl.specs.Parts.{special_of, acl_of_mode}
use Rattle.pv_steps.specs.declared.object.Object.{Object}
use Rattle.pv_steps.specs.declared.step.Step.{Step}
use Rattle.pv_steps.specs.declared.step.Step.TheVariants.{MakeDir, MakeFile, MakeFifo, MakeDevice, MakeLink, Write}
use Rattle.pv_steps.specs.Objects.{fresh}
use Rattle.pv_steps.specs.Trees.{Files, places}
use Rattle.pv_walk.specs.declared.object_state.ObjectState.{ObjectState}
use Rattle.pv_walk.specs.declared.object_state.Metadata.{Metadata}
use Rattle.pv_walk.specs.Edits.{SameOutside}
use Rattle.pv_walk.specs.Nodes.{object_state_of, object_states_of}
use Rattle.pv_walk.specs.declared.new_file.NewFile.{NewFile}
use Rattle.pv_walk.specs.declared.new_file.NewKind.{NewKind}
use Rattle.pv_walk.specs.declared.new_file.NewKind.TheVariants as new
use Rattle.pv_walk.specs.Staging.{new_kind, new_payload, new_major, new_minor, new_mode}

-- The Make step for a new object.
abbrev pub make_step : Path → NewKind → Step
make_step path new.Directory = MakeDir path
make_step path (new.File content) = MakeFile path
make_step path (new.Link target) = MakeLink path target
make_step path new.Fifo = MakeFifo path
make_step path (new.Device block major minor) = MakeDevice path block major minor

-- The content that is written after this step, if the object is a file that is not empty.
abbrev pub content_of : NewKind → Option (List ℕ)
content_of (new.File []) = None
content_of (new.File (b ∷ bytes)) = Some (b ∷ bytes)
content_of kind = None

-- The mode that this step gives: 0700 for a directory, 0777 for a link, otherwise 0600.
abbrev pub made_mode : NewKind → ℕ
made_mode new.Directory = 0o700
made_mode (new.Link target) = 0o777
made_mode kind = 0o600

-- The payload after this step: the target of a link, otherwise nothing.
abbrev pub first_payload : NewKind → List ℕ
first_payload (new.Link target) = target
first_payload kind = []

-- The object as this step leaves it.
abbrev pub first_object : NewKind → ℕ → Object
first_object what now = fresh (new_kind what) (made_mode what) (first_payload what) (new_major what) (new_minor what) now

-- The object with its content. Mode and owners are still those that the Make step gives.
abbrev pub held_object : NewKind → ℕ → Object
held_object what now = fresh (new_kind what) (made_mode what) (new_payload what) (new_major what) (new_minor what) now

-- The metadata of a new object.
abbrev pub new_metadata : NewFile → Metadata
new_metadata file = record {
  uid = file.uid;
  gid = file.gid;
  special = special_of (new_mode file.what file.mode);
  acl = acl_of_mode (new_mode file.what file.mode);
  attrs = [];
  letters = 0;
}

-- An object without timestamps is as its Make step leaves it, or it has its content too.
abbrev pub IsBegun : NewKind → ObjectState → Type 0
IsBegun what there = (there ≡ object_state_of (first_object what 0)) ⊎ (there ≡ object_state_of (held_object what 0))

-- A step makes an object, or writes its content.
abbrev pub BeginsNew : Path → NewKind → Step → Type 0
BeginsNew path what step = (step ≡ make_step path what) ⊎ ((content : List ℕ) × ((step ≡ Write path content) × (what ≡ new.File content)))

-- An intermediate state of making an object where nothing was. Nothing else has changed except timestamps. The
-- object is not there yet, or it is as its Make step leaves it, or it has its content too.
pub record Beginning (path : Path) (what : NewKind) (t u : Files) : Type 0 where
  pub outside : SameOutside (same_path path) t u
  pub here : (object_states_of (places u) path ≡ None) ⊎ ((there : ObjectState) × ((object_states_of (places u) path ≡ Some there) × IsBegun what there))
