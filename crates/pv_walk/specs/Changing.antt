-- One change at a time: which metadata a node already has, and the intermediate states of a change (chown(2),
-- chmod(2), acl(5)).
use Rattle.std.specs.Prelude.{◌≡◌, ◌⊎◌}
use Rattle.pv_path.specs.Paths.{Path}
use Rattle.pv_acl.specs.declared.part.Part.{Part}
use Rattle.pv_steps.specs.declared.node.Node.{Node}
use Rattle.pv_steps.specs.declared.object.Object.{Object}
use Rattle.pv_steps.specs.declared.step.Step.{Step}
use Rattle.pv_steps.specs.declared.step.Step.TheVariants.{SetAcl, SetAttrs, SetLetters}
use Rattle.pv_steps.specs.Trees.{Files, places}
use Rattle.pv_steps.specs.Steps.{on_at}
use Rattle.pv_steps.specs.Same.{object_states}
use Rattle.pv_walk.specs.declared.object_state.Metadata.{Metadata}
use Rattle.pv_walk.specs.SettingMetadata.{Lacks}

-- Two parts of an ACL have the same base entries.
pub record SameBase (a b : Part) : Type 0 where
  pub owner : a.owner ≡ b.owner
  pub group : a.group ≡ b.group
  pub other : a.other ≡ b.other

-- A node has the owner and the owning group of this metadata.
pub record HasOwner (new : Metadata) (node : Node) : Type 0 where
  pub uid : node.uid ≡ new.uid
  pub gid : node.gid ≡ new.gid

-- A node has the special bits and the base entries of this metadata.
pub record HasMode (new : Metadata) (node : Node) : Type 0 where
  pub special : node.special ≡ new.special
  pub base : SameBase node.acl.access new.acl.access

-- A node has the part of this metadata's ACL that the mode does not give: named entries, mask and default part.
pub record HasExtended (new : Metadata) (node : Node) : Type 0 where
  pub mask : node.acl.access.mask ≡ new.acl.access.mask
  pub named : node.acl.access.named ≡ new.acl.access.named
  pub default_part : node.acl.default_part ≡ new.acl.default_part

-- An object with that part of the ACL. Its timestamps stay.
abbrev pub with_extended_of : Metadata → Object → Object
with_extended_of new o = record o { node = record o.node { acl = record { access = record o.node.acl.access { mask = new.acl.access.mask; named = new.acl.access.named }; default_part = new.acl.default_part } } }

-- An intermediate state of one change: the change is not done yet, or it is done. Timestamps are left out.
abbrev pub Changing : Path → (Object → Object) → Files → Files → Type 0
Changing path change t u =
    ((q : Path) → object_states (places u) q ≡ object_states (places t) q) ⊎ ((q : Path) → object_states (places u) q ≡ object_states (on_at path change (places t)) q)

-- A step is this one, and the object at the path does not yet have this part of its metadata.
pub record Gives {A : Type 0} (part : Object → A) (new : A) (given : Step) (path : Path) (t : Files) (step : Step) : Type 0 where
  pub is : step ≡ given
  pub other : Lacks part new path t

-- A step sets the ACL of this metadata, which the object does not yet have.
abbrev pub GivesAcl : Path → Metadata → Files → Step → Type 0
GivesAcl path new t step = Gives (λ o. o.node.acl) new.acl (SetAcl path new.acl) path t step

-- A step sets the extended attributes of this metadata, which the object does not yet have.
abbrev pub GivesAttrs : Path → Metadata → Files → Step → Type 0
GivesAttrs path new t step = Gives (λ o. o.node.attrs) new.attrs (SetAttrs path new.attrs) path t step

-- A step sets the file attribute flags of this metadata, which the object does not yet have.
abbrev pub GivesLetters : Path → Metadata → Files → Step → Type 0
GivesLetters path new t step = Gives (λ o. o.node.letters) new.letters (SetLetters path new.letters) path t step

-- An object with the owners, the mode and the ACL of this metadata. Its timestamps stay.
abbrev pub with_access_of : Metadata → Object → Object
with_access_of new o = record o { node = record o.node { uid = new.uid; gid = new.gid; special = new.special; acl = new.acl } }
