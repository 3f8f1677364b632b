-- What a host holds, and what each of its calls asks for and changes (mkdir(2), rename(2), unlink(2), rmdir(2)). A
-- file is written as a whole. A host knows directories, and files with their bytes. Of any other object it knows
-- only the name.
use Rattle.std.specs.Prelude.{◌≡◌, ◌≢◌, ◌⊎◌, ℕ, true, false, ◌==◌, List, [], ◌∷◌, ◌++◌, filter, length, nat_lt, Option, Some, None, is_some, option_map, if◌then◌else◌}
use Rattle.std.specs.List.{filter_map, slice_split}
use Rattle.std.specs.FinMap as fin
use Rattle.pv_path.specs.Paths.{Path, path_cmp, same_path, is_prefix, rest_under, parent_of, has_names}
use Rattle.pv_steps.specs.Trees.{child_name}
use Rattle.pv_folder.specs.declared.host.FileBytes.{FileBytes}
use Rattle.pv_folder.specs.declared.host.FileBytes.TheVariants.{Whole, Longer}
use Rattle.pv_folder.specs.declared.item.HostItem.{HostItem}
use Rattle.pv_folder.specs.declared.item.HostKind.{HostKind}
use Rattle.pv_folder.specs.declared.item.HostKind.TheVariants as kind

-- ---- contents

-- An object of a host.
pub data HostObject : Type 0 where
  Directory : HostObject
  File : List ℕ → HostObject
  Other : HostObject

-- What a host holds: the objects at some paths.
abbrev pub Content : Type 0
Content = fin.FinMap path_cmp HostObject

-- The object at each path, if there is one.
abbrev pub Held : Type 0
Held = Path → Option HostObject

-- The object at each path of a content.
abbrev pub held : Content → Held
held content = fin.get content

-- The pieces between slashes that are not empty.
abbrev pub names_among : List (List ℕ) → Path
names_among pieces = filter (λ piece. nat_lt 0 (length piece)) pieces

-- The path that bytes spell: the names between the slashes. A slash at the beginning, at the end or after another
-- one does not count (path_resolution(7)).
abbrev pub spelled : List ℕ → Path
spelled bytes = names_among (slice_split (λ b. b == 47) bytes)

-- The kind of an object.
abbrev pub kind_of : HostObject → HostKind
kind_of Directory = kind.Directory
kind_of (File bytes) = kind.File
kind_of Other = kind.Other

-- The kind of the object at a path, if there is one.
abbrev pub kind_at : Held → Path → Option HostKind
kind_at t path = option_map kind_of (t path)

-- There is a directory at a path.
abbrev pub IsDirectory : Held → Path → Type 0
IsDirectory t path = kind_at t path ≡ Some kind.Directory

-- There is a file at a path.
abbrev pub IsFile : Held → Path → Type 0
IsFile t path = kind_at t path ≡ Some kind.File

-- There is no object at a path.
abbrev pub IsAbsent : Held → Path → Type 0
IsAbsent t path = t path ≡ None

-- There is an object at a path.
abbrev pub IsPresent : Held → Path → Type 0
IsPresent t path = is_some (t path) ≡ true

-- There is no object directly below a path.
abbrev pub IsEmpty : Held → Path → Type 0
IsEmpty t path = (name : List ℕ) → IsAbsent t (path ++ name ∷ [])

-- A content is well formed: the root is a directory, and the path above each other object is a directory. The
-- components of each path are names.
pub record IsContent (t : Held) : Type 0 where
  pub root : IsDirectory t []
  pub parents : (path : Path) → IsPresent t path → path ≢ [] → IsDirectory t (parent_of path)
  pub names : (path : Path) → IsPresent t path → has_names path ≡ true

-- ---- what a host says of its content

-- How a listing names an object directly below a path: by its name and its kind.
abbrev pub item_below : Path → Path × HostObject → Option HostItem
item_below path e = option_map (λ name. record { name = name; kind = kind_of e.1 }) (child_name path e.0)

-- The objects in a directory, in byte order of their names.
abbrev pub items_in : Content → Path → List HostItem
items_in content path = filter_map (item_below path) (fin.entries content)

-- The listing of the directory at a path. If this object is not a directory, there is none.
abbrev pub listing_of : Content → Option HostObject → Path → Option (List HostItem)
listing_of content (Some Directory) path = Some (items_in content path)
listing_of content o path = None

-- The listing of the directory at a path, if there is one.
abbrev pub listing : Content → Path → Option (List HostItem)
listing content path = listing_of content (held content path) path

-- The bytes of a file, if the object is one.
abbrev pub bytes_of : Option HostObject → Option (List ℕ)
bytes_of (Some (File bytes)) = Some bytes
bytes_of o = None

-- The bytes, if there are at most `most`.
abbrev pub within : ℕ → List ℕ → Option (List ℕ)
within most bytes = if nat_lt most (length bytes) then None else Some bytes

-- The bytes that a reader was given, if the file was not longer than its limit.
abbrev pub given : FileBytes → Option (List ℕ)
given (Whole bytes) = Some bytes.items
given Longer = None

-- ---- changes

-- The changes that a host can be asked for.
pub data Change : Type 0 where
  MakeDir : Path → Change
  WriteFile : Path → List ℕ → Change
  Rename : Path → Path → Change
  RemoveFile : Path → Change
  RemoveDir : Path → Change

-- An object may be put at a path: the path above is a directory, and the components of the path are names.
abbrev pub HasPlace : Held → Path → Type 0
HasPlace t path = IsDirectory t (parent_of path) × (has_names path ≡ true)

-- There is an object at a path, and it is not a directory.
abbrev pub IsNoDirectory : Held → Path → Type 0
IsNoDirectory t path = IsPresent t path × (kind_at t path ≢ Some kind.Directory)

-- What a Rename may find at its destination: nothing, an object that is not a directory if what it moves is not one,
-- or an empty directory if what it moves is a directory.
pub data Yields (t : Held) (from to : Path) : Type 0 where
  absent : IsAbsent t to → Yields t from to
  objects : IsNoDirectory t from → IsNoDirectory t to → Yields t from to
  directories : IsDirectory t from → IsDirectory t to → IsEmpty t to → Yields t from to

-- A Rename may be done.
pub record IsMovable (t : Held) (from to : Path) : Type 0 where
  pub present : IsPresent t from
  -- The root is not moved.
  pub no_root : from ≢ []
  -- The destination is neither the moved object nor below it.
  pub outside : is_prefix from to ≡ false
  pub place : HasPlace t to
  pub yields : Yields t from to

-- Each change may be asked for under this condition.
abbrev pub May : Held → Change → Type 0
May t (MakeDir path) = IsAbsent t path × HasPlace t path
May t (WriteFile path bytes) = (IsAbsent t path ⊎ IsFile t path) × HasPlace t path
May t (Rename from to) = IsMovable t from to
May t (RemoveFile path) = IsFile t path
May t (RemoveDir path) = IsDirectory t path × (IsEmpty t path × (path ≢ []))

-- The objects with this one at a path, or with none there.
abbrev pub put_at : Path → Option HostObject → Held → Held
put_at path o t = λ q. if same_path path q then o else t q

-- The object at a path after a Rename. At and below the destination it is what was moved there. At and below the old
-- path there is none. Elsewhere it is as before.
abbrev pub moved_at : Path → Held → Path → Option Path → Option HostObject
moved_at from t q (Some rest) = t (from ++ rest)
moved_at from t q None = if is_prefix from q then None else t q

-- The objects after a change.
abbrev pub changed : Change → Held → Held
changed (MakeDir path) t = put_at path (Some Directory) t
changed (WriteFile path bytes) t = put_at path (Some (File bytes)) t
changed (Rename from to) t = λ q. moved_at from t q (rest_under to q)
changed (RemoveFile path) t = put_at path None t
changed (RemoveDir path) t = put_at path None t

-- ---- what a host tells

-- A host may be asked for a change. If it does not tell its content, there is no condition.
abbrev pub MayAsk : Option Content → Change → Type 0
MayAsk (Some content) change = May (held content) change
MayAsk None change = Unit {0}

-- The content of a host has changed so. If the host did not tell its content, it still does not.
abbrev pub IsChanged : Change → Option Content → Option Content → Type 0
IsChanged change old new = option_map held new ≡ option_map (λ c. changed change (held c)) old
