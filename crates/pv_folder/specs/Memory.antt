-- What a host over a tree in memory holds.
use Rattle.std.specs.Prelude.{◌≡◌, ℕ, List, [], ◌∷◌, ◌++◌, map}
use Rattle.std.specs.Option.{option_map_or}
use Rattle.std.specs.FinMap as fin
use Rattle.pv_path.specs.Paths.{Path}
use Rattle.pv_steps.specs.declared.node.Kind.{Kind}
use Rattle.pv_steps.specs.declared.node.Kind.TheVariants as kind
use Rattle.pv_steps.specs.declared.object.Object.{Object}
use Rattle.pv_steps.specs.Trees.{Files, places}
use Rattle.pv_folder.specs.declared.item.HostItem.{HostItem}
use Rattle.pv_folder.specs.declared.item.HostKind.{HostKind}
use Rattle.pv_folder.specs.declared.item.HostKind.TheVariants as named
use Rattle.pv_folder.specs.declared.change.HostChange.{HostChange}
use Rattle.pv_folder.specs.declared.change.HostChange.TheVariants as record_of
use Rattle.pv_folder.specs.Content.{Change, Content, HostObject, changed, held}
use Rattle.pv_folder.specs.Content as host

-- The kind that a host gives for an object of a tree.
abbrev pub host_kind : Kind → HostKind
host_kind kind.Directory = named.Directory
host_kind kind.File = named.File
host_kind other = named.Other

-- An object of a tree as a host has it: a directory, a file with its bytes, or another object.
abbrev pub seen_as : Kind → List ℕ → HostObject
seen_as kind.Directory payload = host.Directory
seen_as kind.File payload = host.File payload
seen_as other payload = host.Other

-- The same of an object.
abbrev pub seen : Object → HostObject
seen o = seen_as o.node.kind o.payload

-- The content of a host over this tree.
abbrev pub content_of : Files → Content
content_of files = fin.from_sorted (map (λ e. (e.0, seen e.1)) (fin.entries files))

-- An object in a directory of a tree as a host lists it. If nothing is there, it is listed as another object.
abbrev pub item_at : Files → Path → List ℕ → HostItem
item_at files path name = record { name = name; kind = option_map_or (λ o. host_kind o.node.kind) (places files (path ++ name ∷ [])) named.Other }

-- A tree has changed as a host sees it: from the content of the old one to that of the new one by this change.
abbrev pub Becomes : Change → Files → Files → Type 0
Becomes change old new = held (content_of new) ≡ changed change (held (content_of old))

-- A change as it was recorded.
abbrev pub change_of : HostChange → Change
change_of (record_of.MakeDir path) = host.MakeDir path
change_of (record_of.WriteFile path bytes) = host.WriteFile path bytes
change_of (record_of.Rename from to) = host.Rename from to
change_of (record_of.RemoveFile path) = host.RemoveFile path
change_of (record_of.RemoveDir path) = host.RemoveDir path
