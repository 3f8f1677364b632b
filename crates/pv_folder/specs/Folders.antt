-- A folder of a host. `tree` has the directories and files of a tree, and `manifest` everything else that is said of
-- it (this project's own).
use Rattle.std.specs.Prelude.{◌≡◌, ◌⊎◌, ℕ, false, List, [], ◌∷◌, ◌++◌, codes, Option, Some, None, option_map}
use Rattle.std.specs.List.{filter_map}
use Rattle.std.specs.FinMap as fin
use Rattle.pv_path.specs.Paths.{Path, is_prefix, rest_under}
use Rattle.pv_steps.specs.declared.node.Kind.{Kind}
use Rattle.pv_steps.specs.declared.node.Kind.TheVariants as kind
use Rattle.pv_steps.specs.declared.object.Object.{Object}
use Rattle.pv_steps.specs.Objects.{fresh}
use Rattle.pv_steps.specs.Trees.{Files, places}
use Rattle.pv_folder.specs.Content.{Content, Held, HostObject, IsAbsent, IsDirectory, IsFile}
use Rattle.pv_folder.specs.Content as host

-- ---- what is in a folder

-- The path of `tree` in a folder.
abbrev pub tree_path : Path → Path
tree_path folder = folder ++ codes "tree" ∷ []

-- The path of `manifest` in a folder.
abbrev pub manifest_path : Path → Path
manifest_path folder = folder ++ codes "manifest" ∷ []

-- The path at which a manifest is written before it replaces the old one.
abbrev pub new_manifest_path : Path → Path
new_manifest_path folder = folder ++ codes "manifest.new" ∷ []

-- A file may be written at a path: there is a file or nothing.
abbrev pub IsFree : Held → Path → Type 0
IsFree t path = IsAbsent t path ⊎ IsFile t path

-- A run can use a folder: it has the directory `tree`, and nothing but a file as `manifest` and as `manifest.new`,
-- or nothing there.
pub record IsPrepared (folder : Path) (t : Held) : Type 0 where
  pub tree : IsDirectory t (tree_path folder)
  pub manifest : IsFree t (manifest_path folder)
  pub new_manifest : IsFree t (new_manifest_path folder)

-- ---- a tree in a folder

-- An object of a tree as a host has it: a directory, or a file with its bytes. A host has no other objects.
abbrev pub real_as : Kind → List ℕ → Option HostObject
real_as kind.Directory payload = Some host.Directory
real_as kind.File payload = Some (host.File payload)
real_as other payload = None

-- The same of an object that may be absent.
abbrev pub real_of : Option Object → Option HostObject
real_of None = None
real_of (Some o) = real_as o.node.kind o.payload

-- The folder's `tree` has exactly the directories and files of a tree, with their bytes.
abbrev pub Agrees : Path → Files → Held → Type 0
Agrees folder files t = (path : Path) → t (tree_path folder ++ path) ≡ real_of (places files path)

-- Two contents are the same, except at and below `tree`.
abbrev pub IsSameElse : Path → Held → Held → Type 0
IsSameElse folder t u = (path : Path) → is_prefix (tree_path folder) path ≡ false → u path ≡ t path

-- ---- what is real

-- An object of a host as a tree has it before a manifest says more. It belongs to root and has timestamps of 0. A
-- directory has mode 0755, and a file 0644.
abbrev pub object_of : HostObject → Option Object
object_of host.Directory = Some (fresh kind.Directory 0o755 [] 0 0 0)
object_of (host.File bytes) = Some (fresh kind.File 0o644 bytes 0 0 0)
object_of host.Other = None

-- An object in the folder's `tree`, with its path there.
abbrev pub object_below : Path → Path × HostObject → Option (Path × HostObject)
object_below folder e = option_map (λ rest. (rest, e.1)) (rest_under (tree_path folder) e.0)

-- The objects in the folder's `tree` in the order of their paths, the root first.
abbrev pub objects_in : Path → Content → List (Path × HostObject)
objects_in folder content = filter_map (object_below folder) (fin.entries content)

-- The tree of what is real in a folder: its directories and files.
abbrev pub real_in : Path → Content → Files
real_in folder content = fin.from_entries (filter_map (λ e. option_map (λ o. (e.0, o)) (object_of e.1)) (objects_in folder content))
