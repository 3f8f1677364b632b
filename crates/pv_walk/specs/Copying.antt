-- Copies: the objects at and below one path are made again at another path, with everything except their timestamps
-- (tmpfiles.d(5), type `C`; cp(1), `-a`).
use Rattle.std.specs.Prelude.{◌≡◌, ◌≢◌, ◌⊎◌, ℕ, ◌≤◌, false, [], ◌∷◌, ◌++◌, length, filter, filter_map, Option, Some, None, IfSome, is_some, option_map, unwrap_or, if◌then◌else◌}
use Rattle.std.specs.FinMap as fin
use Rattle.pv_acl.specs.Parts.{acl_of_mode}
use Rattle.pv_walk.specs.declared.object_state.ObjectState.{ObjectState}
use Rattle.pv_walk.specs.SettingMetadata.{metadata_mode}
use Rattle.pv_walk.specs.Nodes.{is_link}
use Rattle.pv_walk.specs.Operations.{with_mode}
use Rattle.pv_path.specs.Paths.{Path, rest_under, has_staging, staging_of}
use Rattle.pv_steps.specs.declared.node.Kind.TheVariants.{Directory, File, Link, Fifo}
use Rattle.pv_steps.specs.declared.node.Stamps.{Stamps}
use Rattle.pv_steps.specs.declared.object.Object.{Object}
use Rattle.pv_steps.specs.declared.step.Step.{Step}
use Rattle.pv_steps.specs.declared.step.Step.TheVariants.{MakeDir, MakeFile, MakeFifo, MakeDevice, MakeLink, Write, SetMode, SetOwner, SetAcl, SetAttrs, SetLetters}
use Rattle.pv_steps.specs.Objects.{stamped, IsId}
use Rattle.pv_steps.specs.Steps.{device_kind, touched}
use Rattle.pv_steps.specs.Trees.{Files, Places}
use Rattle.pv_walk.specs.declared.copying.TopNode.{TopNode}
use Rattle.pv_walk.specs.Staging.{IsPublishing}

-- ---- what is copied

-- What the top of a copy gets is in range: its mode, its owner and its owning group, as far as they are given.
pub record IsTopNode (top : TopNode) : Type 0 where
  pub mode : IfSome top.mode (λ mode. mode ≤ 0o7777)
  pub uid : IfSome top.uid IsId
  pub gid : IfSome top.gid IsId

-- An object with this mode, if one is given. A link keeps its own.
abbrev pub moded : Option ℕ → ObjectState → ObjectState
moded None b = b
moded (Some mode) b = if is_link b.body.kind then b else record b { metadata = with_mode b.body.kind mode false b.metadata }

-- The top of a copy: the object with the mode and the owners that are given.
abbrev pub topped : TopNode → ObjectState → ObjectState
topped top b = moded top.mode (record b { metadata = record b.metadata { uid = unwrap_or top.uid b.metadata.uid; gid = unwrap_or top.gid b.metadata.gid } })

-- The objects at and below a path. The argument is the rest of their path.
abbrev pub Subtree : Type 0
Subtree = Path → Option ObjectState

-- One object with nothing below it.
abbrev pub single : ObjectState → Subtree
single b [] = Some b
single b (name ∷ rest) = None

-- The copy of the objects at and below a path. `top` says what becomes of the object at the path. Objects at or
-- below staging names are left out.
abbrev pub copy_from : (ObjectState → ObjectState) → Path → (Path → Option ObjectState) → Subtree
copy_from top source at [] = option_map top (at source)
copy_from top source at (name ∷ rest) = if has_staging (name ∷ rest) then None else at (source ++ name ∷ rest)

-- How many objects a copy has.
abbrev pub copied_count : Subtree → Path → Files → ℕ
copied_count subtree source t = length (filter (λ rest. is_some (subtree rest)) (filter_map (rest_under source) (fin.keys t)))

-- ---- what it leaves, with timestamps

-- An object with these timestamps.
abbrev pub with_stamps : Stamps → ObjectState → Object
with_stamps stamps b = record {
  node = record {
    kind = b.body.kind;
    special = b.metadata.special;
    uid = b.metadata.uid;
    gid = b.metadata.gid;
    acl = b.metadata.acl;
    stamps = stamps;
    major = b.body.major;
    minor = b.body.minor;
    attrs = b.metadata.attrs;
    letters = b.metadata.letters;
  };
  payload = b.body.payload;
}

-- A new object: all its timestamps are `now`.
abbrev pub object_of : ℕ → ObjectState → Object
object_of now b = with_stamps (stamped now) b

-- The object at a path after a subtree was put. If the path is at or below that of the subtree, it is the new object
-- or none. Otherwise it is the old one.
abbrev pub standing : ℕ → Subtree → Option Object → Option Path → Option Object
standing now subtree old None = old
standing now subtree old (Some rest) = option_map (object_of now) (subtree rest)

-- The objects after a subtree of new objects was put at a path. It replaces all at and below it, and the directory
-- above has new timestamps.
abbrev pub with_subtree : ℕ → Path → Subtree → Places → Places
with_subtree now path subtree t = touched now path (λ q. standing now subtree (t q) (rest_under path q))

-- ---- single steps

-- A step contributes to making this object at a path. It makes an object of its kind, with its target or its device
-- numbers, writes its content, or sets a part of its metadata.
abbrev pub GivesObjectState : Path → ObjectState → Step → Type 0
GivesObjectState path b (MakeDir at) = (at ≡ path) × (b.body.kind ≡ Directory)
GivesObjectState path b (MakeFile at) = (at ≡ path) × (b.body.kind ≡ File)
GivesObjectState path b (MakeFifo at) = (at ≡ path) × (b.body.kind ≡ Fifo)
GivesObjectState path b (MakeDevice at block major minor) = (at ≡ path) × ((b.body.kind ≡ device_kind block) × ((b.body.major ≡ major) × (b.body.minor ≡ minor)))
GivesObjectState path b (MakeLink at target) = (at ≡ path) × ((b.body.kind ≡ Link) × (b.body.payload ≡ target))
GivesObjectState path b (Write at content) = (at ≡ path) × ((b.body.kind ≡ File) × (b.body.payload ≡ content))
GivesObjectState path b (SetOwner at uid gid) = (at ≡ path) × ((uid ≡ b.metadata.uid) × (gid ≡ b.metadata.gid))
GivesObjectState path b (SetMode at mode) = (at ≡ path) × (mode ≡ metadata_mode b.metadata)
GivesObjectState path b (SetAcl at acl) = (at ≡ path) × (acl ≡ b.metadata.acl)
GivesObjectState path b (SetAttrs at attrs) = (at ≡ path) × (attrs ≡ b.metadata.attrs)
GivesObjectState path b (SetLetters at letters) = (at ≡ path) × (letters ≡ b.metadata.letters)
GivesObjectState path b step = ⊥

-- ACL, extended attributes and file attribute flags are set only if the object does not have them after its owners
-- and mode were set.
abbrev pub IsNeeded : ObjectState → Step → Type 0
IsNeeded b (SetAcl at acl) = acl_of_mode (metadata_mode b.metadata) ≢ b.metadata.acl
IsNeeded b (SetAttrs at attrs) = [] ≢ b.metadata.attrs
IsNeeded b (SetLetters at letters) = 0 ≢ b.metadata.letters
IsNeeded b step = Unit {0}

-- A step contributes to making an object of a subtree, if the subtree is made at this path.
pub record GivesPart (path : Path) (subtree : Path → Option ObjectState) (step : Step) : Type 0 where
  pub rest : Path
  pub object : ObjectState
  pub is : subtree rest ≡ Some object
  pub gives : GivesObjectState (path ++ rest) object step
  pub needed : IsNeeded object step

-- The same at the staging path of a path.
abbrev pub IsStagingOf : Path → Subtree → Step → Type 0
IsStagingOf path subtree step = GivesPart (staging_of path) subtree step

-- A step contributes to making a copy at the staging path, or to publishing it.
abbrev pub IsCopyStep : Path → Subtree → Step → Type 0
IsCopyStep path subtree step = IsStagingOf path subtree step ⊎ IsPublishing path step
