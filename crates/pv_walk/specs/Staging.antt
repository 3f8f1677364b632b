-- Staging: a new object is made under a staging name, and then renamed into place (rename(2)).
use Rattle.std.specs.Prelude.{◌≡◌, ℕ, ◌≤◌, Bool, true, List, [], map, length, take, sum, nat_le}
use Rattle.std.specs.List.{list_all, list_any, range_with_len}
use Rattle.pv_path.specs.Paths.{Path, is_prefix, staging_of}
use Rattle.pv_steps.specs.declared.node.Kind.{Kind}
use Rattle.pv_steps.specs.declared.node.Kind.TheVariants.{Directory, File, Link, Fifo}
use Rattle.pv_steps.specs.declared.object.Object.{Object}
use Rattle.pv_steps.specs.declared.step.Step.{Step}
use Rattle.pv_steps.specs.declared.step.Step.TheVariants.{MakeDir, MakeFile, MakeFifo, MakeDevice, MakeLink, Write, SetMode, SetOwner, Rename, Unlink, RemoveDir}
use Rattle.pv_steps.specs.Objects.{fresh, IsId, IsTarget}
use Rattle.pv_steps.specs.Steps.{device_kind}
use Rattle.pv_steps.specs.Trees.{Files}
use Rattle.pv_walk.specs.Edits.{count_at}
use Rattle.pv_walk.specs.declared.new_file.NewFile.{NewFile}
use Rattle.pv_walk.specs.declared.new_file.NewKind.{NewKind}
use Rattle.pv_walk.specs.declared.new_file.NewKind.TheVariants as new

-- ---- staging names along a path

-- The prefixes of a path, except the root, from the root on. The path itself is the last.
abbrev pub prefixes : Path → List Path
prefixes path = map (λ k. take k path) (range_with_len 1 (length path))

-- The staging paths of these prefixes.
abbrev pub staging_names : Path → List Path
staging_names path = map staging_of (prefixes path)

-- Whether a path is at or below one of these paths.
abbrev pub is_under_any : List Path → Path → Bool
is_under_any paths q = list_any (λ p. is_prefix p q) paths

-- How many objects are at and below these paths, counted for each of them.
abbrev pub count_at_all : Files → List Path → ℕ
count_at_all files paths = sum (map (count_at files) paths)

-- Whether each name of a path leaves room for the five bytes of a staging name: it has at most 250 bytes.
abbrev pub can_stage : Path → Bool
can_stage path = list_all (λ name. nat_le (length name) 250) path

-- ---- new objects

-- The kind of a new object.
abbrev pub new_kind : NewKind → Kind
new_kind new.Directory = Directory
new_kind (new.File content) = File
new_kind (new.Link target) = Link
new_kind new.Fifo = Fifo
new_kind (new.Device block major minor) = device_kind block

-- The payload of a new object: the content of a file, the target of a link, otherwise no bytes.
abbrev pub new_payload : NewKind → List ℕ
new_payload (new.File content) = content
new_payload (new.Link target) = target
new_payload kind = []

-- The major number of a device, otherwise 0.
abbrev pub new_major : NewKind → ℕ
new_major (new.Device block major minor) = major
new_major kind = 0

-- The minor number of a device, otherwise 0.
abbrev pub new_minor : NewKind → ℕ
new_minor (new.Device block major minor) = minor
new_minor kind = 0

-- The mode of a new object. A link always has 0777.
abbrev pub new_mode : NewKind → ℕ → ℕ
new_mode (new.Link target) mode = 0o777
new_mode kind mode = mode

-- A new link has a target that is allowed. Other objects need none.
abbrev pub HasTarget : NewKind → Type 0
HasTarget (new.Link target) = IsTarget target
HasTarget kind = Unit {0}

-- A new object is in range: its mode, its owner and owning group, and its target if it is a link.
pub record IsNewFile (file : NewFile) : Type 0 where
  pub mode : file.mode ≤ 0o7777
  pub owner : IsId file.uid × IsId file.gid
  pub target : HasTarget file.what

-- The new object: all its timestamps are `now`.
abbrev pub new_object : NewFile → ℕ → Object
new_object file now =
    let o = fresh (new_kind file.what) (new_mode file.what file.mode) (new_payload file.what) (new_major file.what) (new_minor file.what) now in
    record o { node = record o.node { uid = file.uid; gid = file.gid } }

-- ---- steps

-- At most how many steps make a new object with its content and its metadata.
abbrev pub most_staged : ℕ
most_staged = 7

-- The same with the Rename that brings it into place.
abbrev pub most_new : ℕ
most_new = 8

-- A step contributes to making the new object at a path. It makes it, with its target or its device numbers, writes
-- its content, or sets its owners or its mode.
abbrev pub GivesNew : Path → NewFile → Step → Type 0
GivesNew path file (MakeDir at) = (at ≡ path) × (file.what ≡ new.Directory)
GivesNew path file (MakeFile at) = (at ≡ path) × (new_kind file.what ≡ File)
GivesNew path file (MakeFifo at) = (at ≡ path) × (file.what ≡ new.Fifo)
GivesNew path file (MakeDevice at block major minor) = (at ≡ path) × (file.what ≡ new.Device block major minor)
GivesNew path file (MakeLink at target) = (at ≡ path) × (file.what ≡ new.Link target)
GivesNew path file (Write at content) = (at ≡ path) × (file.what ≡ new.File content)
GivesNew path file (SetOwner at uid gid) = (at ≡ path) × ((uid ≡ file.uid) × (gid ≡ file.gid))
GivesNew path file (SetMode at mode) = (at ≡ path) × (mode ≡ new_mode file.what file.mode)
GivesNew path file step = ⊥

-- A step belongs to publishing a path: it removes something at or below the path, or it is the Rename into place.
abbrev pub IsPublishing : Path → Step → Type 0
IsPublishing path (Unlink at) = is_prefix path at ≡ true
IsPublishing path (RemoveDir at) = is_prefix path at ≡ true
IsPublishing path (Rename from to) = (from ≡ staging_of path) × (to ≡ path)
IsPublishing path step = ⊥
