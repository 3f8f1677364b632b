-- A manifest merged with what is real. The host has directories and files with their bytes. The manifest has
-- everything else that is said of them, and the objects that a host does not have (this project's own).
use Rattle.std.specs.Prelude.{◌≡◌, ℕ, Bool, true, false, ◌++◌, Option, Some, None, IfSome, option_map, if◌then◌else◌}
use Rattle.std.specs.FinMap as fin
use Rattle.pv_path.specs.Paths.{Path, parent_of}
use Rattle.pv_steps.specs.declared.node.Kind.{Kind}
use Rattle.pv_steps.specs.declared.node.Kind.TheVariants.{Directory, File, Link}
use Rattle.pv_steps.specs.declared.node.Node.{Node}
use Rattle.pv_steps.specs.declared.object.Object.{Object}
use Rattle.pv_steps.specs.Objects.{fresh}
use Rattle.pv_steps.specs.Trees.{Files, kind_of, places, tabulate}
use Rattle.pv_walk.specs.Nodes.{same_kind}

-- The mode of a real object of which the manifest says nothing.
abbrev pub plain_mode : Kind → ℕ
plain_mode Directory = 0o755
plain_mode Link = 0o777
plain_mode kind = 0o644

-- A real object of which the manifest says nothing. It belongs to root, and has no extended attributes, no flags and
-- timestamps of 0.
abbrev pub plain : Object → Object
plain r = fresh r.node.kind (plain_mode r.node.kind) r.payload r.node.major r.node.minor 0

-- A real object. Its bytes are its own, and everything else is that of the manifest's node at its path, if this has
-- the same kind. Otherwise the manifest says nothing of it.
abbrev pub with_metadata : Option Node → Object → Object
with_metadata None r = plain r
with_metadata (Some node) r = if same_kind node.kind r.node.kind then record r { node = node } else plain r

-- Whether a host has objects of this kind: directories and files. Links, FIFOs and devices are only in the manifest.
abbrev pub is_real_kind : Kind → Bool
is_real_kind Directory = true
is_real_kind File = true
is_real_kind kind = false

-- The object at a path. `m` is what the manifest has there, the second object is real, and `parent` is the kind of
-- what is real above. A real object stays. An object that only the manifest has stays if it is of a kind that a host
-- does not have, and a real directory is above it.
abbrev pub merged_of : Option Object → Option Object → Option Kind → Option Object
merged_of m (Some r) parent = Some (with_metadata (option_map (λ o. o.node) m) r)
merged_of (Some m) None (Some Directory) = if is_real_kind m.node.kind then None else Some m
merged_of m None parent = None

-- The object at a path of the merged tree.
abbrev pub merged_at : Files → Files → Path → Option Object
merged_at manifest real path = merged_of (places manifest path) (places real path) (kind_of (places real (parent_of path)))

-- The tree of a manifest merged with what is real.
abbrev pub merged : Files → Files → Files
merged manifest real = tabulate (fin.keys real ++ fin.keys manifest) (merged_at manifest real)

-- An object at a path, if there is one, is as if the manifest said nothing of it.
abbrev pub IsPlainAt : Files → Path → Type 0
IsPlainAt t path = IfSome (places t path) (λ o. plain o ≡ o)

-- All objects of a tree are so.
abbrev pub IsPlain : Files → Type 0
IsPlain t = (path : Path) → IsPlainAt t path

-- A tree as if the manifest said nothing of its objects.
abbrev pub plained : Files → Files
plained t = tabulate (fin.keys t) (λ path. option_map plain (places t path))
