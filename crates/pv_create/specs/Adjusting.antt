-- Adjusting an existing object: its steps, and the intermediate states (write(2), chown(2), chmod(2), acl(5),
-- xattr(7), chattr(1)).
use Rattle.std.specs.Prelude.{◌≡◌, ◌⊎◌, ℕ, List, take, Option, Some, None, if◌then◌else◌}
use Rattle.pv_path.specs.Names.{same_bytes}
use Rattle.pv_path.specs.Paths.{Path, same_path}
use Rattle.pv_steps.specs.declared.node.Kind.TheVariants.{File}
use Rattle.pv_steps.specs.declared.object.Object.{Object}
use Rattle.pv_steps.specs.declared.step.Step.{Step}
use Rattle.pv_steps.specs.declared.step.Step.TheVariants.{Write}
use Rattle.pv_steps.specs.Objects.{with_content}
use Rattle.pv_steps.specs.Trees.{Files, places}
use Rattle.pv_walk.specs.declared.object_state.ObjectState.{ObjectState}
use Rattle.pv_walk.specs.declared.operation.Operation.{Operation}
use Rattle.pv_walk.specs.Dividing.{parts}
use Rattle.pv_walk.specs.SettingMetadata.{Lacks, GivesMetadata}
use Rattle.pv_walk.specs.Nodes.{object_state_of, object_states_of}
use Rattle.pv_walk.specs.Operations.{run}
use Rattle.pv_create.specs.declared.wanted.Wanted.{Wanted}

-- An intermediate state, timestamps aside. The first k of the changes are done to the object at the path, and nothing
-- else has changed.
abbrev pub Adjusting : Path → List Operation → Files → Files → Type 0
Adjusting path sets t u =
    (k : ℕ) × ((q : Path) → object_states_of (places u) q ≡ (if same_path path q then run (take k (parts sets)) (object_states_of (places t) q) else object_states_of (places t) q))

-- A step writes bytes to the file at the path, which has other bytes.
abbrev pub GivesBytes : Path → List ℕ → Files → Step → Type 0
GivesBytes path bytes t step = (step ≡ Write path bytes) × Lacks (λ o. o.payload) bytes path t

-- A step gives the object at the path one part of what it has after all changes: bytes, owners, mode, ACL, extended
-- attributes, or file attribute flags.
pub record GivesSet (path : Path) (sets : List Operation) (t : Files) (step : Step) : Type 0 where
  pub new : ObjectState
  pub is : run sets (object_states_of (places t) path) ≡ Some new
  pub gives : GivesBytes path new.body.payload t step ⊎ GivesMetadata path new.metadata t step

-- ---- bytes

-- An object with these bytes, and the same timestamps. If none are given, it keeps its own bytes.
abbrev pub holding : Option (List ℕ) → Object → Object
holding None o = o
holding (Some bytes) o = record o { payload = bytes }

-- An object after these bytes are written to it. If it has them already, it stays as it is.
abbrev pub written : ℕ → Option (List ℕ) → Object → Object
written now None o = o
written now (Some bytes) o = if same_bytes bytes o.payload then o else with_content bytes now o

-- A step writes the wanted bytes, if there are any.
abbrev pub GivesWanted : Path → Option (List ℕ) → Files → Step → Type 0
GivesWanted path None t step = ⊥
GivesWanted path (Some bytes) t step = GivesBytes path bytes t step

-- What an object has after all changes: its metadata, and its bytes if the changes set bytes and it is a file.
pub record IsWanted (sets : List Operation) (o : Object) (wanted : Wanted) : Type 0 where
  pub new : ObjectState
  pub is : run sets (Some (object_state_of o)) ≡ Some new
  pub metadata : wanted.metadata ≡ new.metadata
  pub bytes : (holding wanted.bytes o).payload ≡ new.body.payload
  pub file : (wanted.bytes ≡ None) ⊎ (o.node.kind ≡ File)
