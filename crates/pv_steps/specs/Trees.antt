-- Trees: finite maps from paths to objects, in which the path above each object is a directory (inode(7),
-- path_resolution(7)).
use Rattle.std.specs.Prelude.{◌≡◌, ◌≢◌, ℕ, true, List, [], ◌∷◌, ◌++◌, map, Option, Some, None, is_some, option_map, option_and_then}
use Rattle.std.specs.List.{filter_map}
use Rattle.std.specs.FinMap as fin
use Rattle.pv_path.specs.Paths.{Path, path_cmp, rest_under, parent_of, has_names}
use Rattle.pv_steps.specs.declared.node.Kind.{Kind}
use Rattle.pv_steps.specs.declared.node.Kind.TheVariants.{Directory}
use Rattle.pv_steps.specs.declared.node.Node.{Node}
use Rattle.pv_steps.specs.declared.object.Object.{Object}
use Rattle.pv_steps.specs.Objects.{IsObject}

-- A tree as a finite map.
abbrev pub Files : Type 0
Files = fin.FinMap path_cmp Object

-- A tree as the function that gives the object at each path.
abbrev pub Places : Type 0
Places = Path → Option Object

-- The object at each path of a tree.
abbrev pub places : Files → Places
places files = fin.get files

-- ---- the object at a path

-- The node of the object at a path, if there is one: the object without its payload.
abbrev pub node_at : Files → Path → Option Node
node_at files path = option_map (λ o. o.node) (places files path)

-- The payload of the object at a path, if there is one: the bytes of a file, the target of a link, otherwise no
-- bytes.
abbrev pub payload_at : Files → Path → Option (List ℕ)
payload_at files path = option_map (λ o. o.payload) (places files path)

-- The kind of an object, if there is one.
abbrev pub kind_of : Option Object → Option Kind
kind_of o = option_map (λ o. o.node.kind) o

-- There is an object at a path.
abbrev pub IsPresentIn : Places → Path → Type 0
IsPresentIn t path = is_some (t path) ≡ true

-- There is no object at a path.
abbrev pub IsAbsentIn : Places → Path → Type 0
IsAbsentIn t path = t path ≡ None

-- There is an object of this kind at a path.
abbrev pub IsKindIn : Kind → Places → Path → Type 0
IsKindIn kind t path = kind_of (t path) ≡ Some kind

-- The same of a tree as a map: there is an object of this kind at a path.
abbrev pub IsKind : Kind → Files → Path → Type 0
IsKind kind files path = IsKindIn kind (places files) path

-- The same of a tree as a map: there is an object at a path.
abbrev pub IsPresent : Files → Path → Type 0
IsPresent files path = IsPresentIn (places files) path

-- There is no object directly below a path.
abbrev pub IsEmptyIn : Places → Path → Type 0
IsEmptyIn t path = (name : List ℕ) → IsAbsentIn t (path ++ name ∷ [])

-- The name of a path of one name.
abbrev pub single : Path → Option (List ℕ)
single [] = None
single (name ∷ []) = Some name
single (name ∷ other ∷ rest) = None

-- The name of the second path in the directory at the first, if it lies directly there.
abbrev pub child_name : Path → Path → Option (List ℕ)
child_name path q = option_and_then single (rest_under path q)

-- The names in a directory, in byte order.
abbrev pub names_below : Files → Path → List (List ℕ)
names_below files path = filter_map (child_name path) (fin.keys files)

-- The path of the first of these names in the root, of the second in the directory at the first name of a path, and so
-- on. There are as many as the shorter list has names. Example: for `/run/app` with the names `a` and `b` they are `/a`
-- and `/run/b`.
abbrev pub beside : Path → List (List ℕ) → List Path
beside [] names = []
beside (name ∷ path) [] = []
beside (name ∷ path) (other ∷ names) = (other ∷ []) ∷ map (λ p. name ∷ p) (beside path names)

-- ---- what makes a map a tree

-- A function is a tree: the root is a directory, and the path above each other object is a directory. Where there is
-- an object, the components of the path are names, and the object is allowed in a tree.
pub record IsTreeIn (t : Places) : Type 0 where
  pub root : IsKindIn Directory t []
  pub parents : (path : Path) → IsPresentIn t path → path ≢ [] → IsKindIn Directory t (parent_of path)
  pub names : (path : Path) → IsPresentIn t path → has_names path ≡ true
  pub objects : (path : Path) (o : Object) → t path ≡ Some o → IsObject o

-- A map is a tree.
abbrev pub IsTree : Files → Type 0
IsTree files = IsTreeIn (places files)

-- ---- trees made from a function

-- The objects that a function gives at some paths, with these paths.
abbrev pub entries_at : List Path → Places → List (Path × Object)
entries_at paths t = filter_map (λ path. option_map (λ o. (path, o)) (t path)) paths

-- The map of the objects that a function gives at some paths.
abbrev pub tabulate : List Path → Places → Files
tabulate paths t = fin.from_entries (entries_at paths t)
