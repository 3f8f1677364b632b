-- The tree of a folder as it is read: what listings name, and the objects there.
use Rattle.std.specs.Prelude.{◌≡◌, ℕ, Bool, true, false, ◌&&◌, codes, List, [], ◌∷◌, ◌++◌, length, map, Option, Some, None, if◌then◌else◌}
use Rattle.pv_path.specs.Names.{same_bytes}
use Rattle.pv_path.specs.Paths.{Path}
use Rattle.pv_steps.specs.declared.node.Kind.TheVariants as node
use Rattle.pv_steps.specs.declared.object.Object.{Object}
use Rattle.pv_steps.specs.Objects.{fresh}
use Rattle.pv_folder.specs.declared.item.HostItem.{HostItem}
use Rattle.pv_folder.specs.declared.item.HostKind.{HostKind}
use Rattle.pv_folder.specs.declared.item.HostKind.TheVariants as kind
use Rattle.pv_folder.specs.Content.{Content, held, listing}
use Rattle.pv_folder.specs.Content as host
use Rattle.pv_folder.specs.declared.found.Found.{Found}
use Rattle.pv_folder.specs.declared.found.Seen.{Seen}
use Rattle.pv_folder.specs.declared.found.Seen.TheVariants as seen

-- The path of what a listing names.
abbrev pub path_of : Found → Path
path_of found = found.directory ++ found.name ∷ []

-- What a listing of a directory names.
abbrev pub found_in : Path → HostItem → Found
found_in directory item = record { directory = directory; name = item.name; kind = item.kind }

-- The kind that a listing gives for a name, if it has the name.
abbrev pub kind_named : List ℕ → List HostItem → Option HostKind
kind_named name [] = None
kind_named name (item ∷ items) = if same_bytes name item.name then Some item.kind else kind_named name items

-- Whether a file may be written here: there is a file or nothing.
abbrev pub is_free : Option HostKind → Bool
is_free None = true
is_free (Some kind.File) = true
is_free other = false

-- Whether there is a directory here.
abbrev pub is_directory : Option HostKind → Bool
is_directory (Some kind.Directory) = true
is_directory other = false

-- Whether a folder with this listing is prepared.
abbrev pub lists_prepared : List HostItem → Bool
lists_prepared items =
    is_directory (kind_named (codes "tree") items) && (is_free (kind_named (codes "manifest") items) && is_free (kind_named (codes "manifest.new") items))

-- A content has at a path what was seen.
abbrev pub Shows : Content → Path → Seen → Type 0
Shows content path (seen.Directory items) = listing content path ≡ Some items
Shows content path (seen.File bytes) = held content path ≡ Some (host.File bytes)

-- What was seen, as a tree has it before a manifest says more.
abbrev pub seen_object : Seen → Object
seen_object (seen.Directory items) = fresh node.Directory 0o755 [] 0 0 0
seen_object (seen.File bytes) = fresh node.File 0o644 bytes 0 0 0

-- What a listing of what was seen names. A file lists nothing.
abbrev pub items_of : Seen → List HostItem
items_of (seen.Directory items) = items
items_of (seen.File bytes) = []

-- What is found in what was seen.
abbrev pub found_below : Path → Seen → List Found
found_below path what = map (found_in path) (items_of what)

-- The number of bytes of what was seen.
abbrev pub seen_size : Seen → ℕ
seen_size (seen.Directory items) = 0
seen_size (seen.File bytes) = length bytes
