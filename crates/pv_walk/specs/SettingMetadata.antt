-- The metadata of an object: its owners, mode, ACL, extended attributes and file attribute flags. Each part is set
-- only if this changes something (chown(2), chmod(2), acl(5), xattr(7), chattr(1)).
use Rattle.std.specs.Prelude.{◌≡◌, ◌≢◌, ◌⊎◌, ℕ, ◌≤◌, true, List, [], ◌∷◌, take, fold, Some}
use Rattle.pv_path.specs.Paths.{Path}
use Rattle.pv_acl.specs.Parts as parts
use Rattle.pv_acl.specs.Parts.{is_acl, mode_of}
use Rattle.pv_steps.specs.declared.node.Kind.{Kind}
use Rattle.pv_steps.specs.declared.object.Object.{Object}
use Rattle.pv_steps.specs.declared.step.Step.{Step}
use Rattle.pv_steps.specs.declared.step.Step.TheVariants.{SetOwner, SetMode, SetAcl, SetAttrs, SetLetters}
use Rattle.pv_steps.specs.Objects.{IsId, AclFits, AttrsFit, LettersFit, changed}
use Rattle.pv_steps.specs.Trees.{Files, places, IsKind}
use Rattle.pv_steps.specs.Steps.{on_at, put_at}
use Rattle.pv_steps.specs.Same.{object_states}
use Rattle.pv_walk.specs.declared.object_state.Metadata.{Metadata}

-- ---- the metadata of an object

-- An object of this kind may have this metadata.
pub record IsMetadata (kind : Kind) (new : Metadata) : Type 0 where
  pub owner : IsId new.uid × IsId new.gid
  pub special : new.special ≤ 7
  pub acl : is_acl new.acl ≡ true
  pub fits : AclFits kind new.special new.acl
  pub attrs : AttrsFit kind new.attrs
  pub letters : LettersFit kind new.letters

-- The mode of metadata.
abbrev pub metadata_mode : Metadata → ℕ
metadata_mode new = mode_of new.special new.acl.access

-- An object with the owners of metadata. Its timestamps stay.
abbrev pub with_owner_of : Metadata → Object → Object
with_owner_of new o = record o { node = record o.node { uid = new.uid; gid = new.gid } }

-- An object with the mode of metadata. Its timestamps stay.
abbrev pub with_mode_of : Metadata → Object → Object
with_mode_of new o = record o { node = record o.node { special = new.special; acl = record o.node.acl { access = parts.with_mode (metadata_mode new) o.node.acl.access } } }

-- An object with the ACL of metadata. Its timestamps stay.
abbrev pub with_acl_of : Metadata → Object → Object
with_acl_of new o = record o { node = record o.node { acl = new.acl } }

-- An object with the extended attributes of metadata. Its timestamps stay.
abbrev pub with_attrs_of : Metadata → Object → Object
with_attrs_of new o = record o { node = record o.node { attrs = new.attrs } }

-- An object with the file attribute flags of metadata. Its timestamps stay.
abbrev pub with_letters_of : Metadata → Object → Object
with_letters_of new o = record o { node = record o.node { letters = new.letters } }

-- An object with all of this metadata. Its timestamps stay.
abbrev pub with_metadata : Metadata → Object → Object
with_metadata new o = record o { node = record o.node { uid = new.uid; gid = new.gid; special = new.special; acl = new.acl; attrs = new.attrs; letters = new.letters } }

-- The five changes, in this order: owners, mode, ACL, extended attributes, file attribute flags.
abbrev pub metadata_changes : Metadata → List (Object → Object)
metadata_changes new = with_owner_of new ∷ with_mode_of new ∷ with_acl_of new ∷ with_attrs_of new ∷ with_letters_of new ∷ []

-- An object after the first k of these changes.
abbrev pub with_first_changes : ℕ → Metadata → Object → Object
with_first_changes k new o = fold (λ x change. change x) o (take k (metadata_changes new))

-- There is an object at the path, and its kind may have this metadata.
pub record CanSetMetadata (t : Files) (path : Path) (new : Metadata) : Type 0 where
  pub kind : Kind
  pub there : IsKind kind t path
  pub metadata : IsMetadata kind new

-- A change does not change the object at a path.
abbrev pub IsKeptBy : (Object → Object) → Path → Files → Type 0
IsKeptBy change path t = (o : Object) → places t path ≡ Some o → change o ≡ o

-- ---- what setting metadata does

-- An intermediate state of setting metadata: the object at the path has the first few changes, and nothing else has
-- changed. Timestamps are left out.
abbrev pub SettingMetadata : Path → Metadata → Files → Files → Type 0
SettingMetadata path new t u = (k : ℕ) × ((q : Path) → object_states (places u) q ≡ object_states (on_at path (with_first_changes k new) (places t)) q)

-- The object at a path, if there is one, has another value than this in one part.
abbrev pub Lacks : {A : Type 0} → (Object → A) → A → Path → Files → Type 0
Lacks part new path t = (o : Object) → places t path ≡ Some o → part o ≢ new

-- The object at a path does not get this ACL by setting its owners and mode alone.
abbrev pub NeedsAcl : Path → Metadata → Files → Type 0
NeedsAcl path new t = Lacks (λ o. (with_first_changes 2 new o).node.acl) new.acl path t

-- A step sets a part of this metadata. It sets the ACL only if owners and mode do not give it, and attributes and
-- flags only if the object has others.
abbrev pub GivesMetadata : Path → Metadata → Files → Step → Type 0
GivesMetadata path new t step =
    (step ≡ SetOwner path new.uid new.gid) ⊎ ((step ≡ SetMode path (metadata_mode new)) ⊎ (((step ≡ SetAcl path new.acl) × NeedsAcl path new t)
    ⊎ (((step ≡ SetAttrs path new.attrs) × Lacks (λ o. o.node.attrs) new.attrs path t) ⊎ ((step ≡ SetLetters path new.letters) × Lacks (λ o. o.node.letters) new.letters path t))))

-- An object after a change. If the change changes nothing, it is the same object, otherwise its change timestamp is
-- `now`.
abbrev pub IsChanged : (Object → Object) → ℕ → Object → Object → Type 0
IsChanged change now old o =
    ((change old ≡ old) × (o ≡ old)) ⊎ ((change old ≢ old) × (o ≡ changed now (change old)))

-- The object at a path was changed so, and nothing else of the tree has changed.
pub record ChangedAt (change : Object → Object) (path : Path) (now : ℕ) (t u : Files) : Type 0 where
  pub old : Object
  pub object : Object
  pub there : places t path ≡ Some old
  pub is : IsChanged change now old object
  pub left : places u ≡ put_at path (Some object) (places t)
