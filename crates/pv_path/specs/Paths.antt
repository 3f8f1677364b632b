-- Paths. A path is the list of its names from the root on, and the root is the empty list (path_resolution(7)).
use Rattle.std.specs.Prelude.{◌≡◌, ℕ, ◌-◌, Bool, true, false, ◌&&◌, List, [], ◌∷◌, length, take, Option, Some, None, slice_get, if◌then◌else◌}
use Rattle.std.specs.List.{list_all, list_any}
use Rattle.std.specs.Bool.{Decides}
use Rattle.std.specs.Cmp.{IsTotalOrder}
use Rattle.std.specs.Cmp.Lexicographic.{slice_cmp, pointwise, pointwise_decides, bytes_decides, lists_total, nat_list_cmp_total}
use Rattle.std.specs.FinMap.{IsAntisymmetric, slice_cmp-IsAntisymmetric, nat_cmp-IsAntisymmetric}
use Rattle.std.specs.declared.cmp.Ordering.{Ordering}
use Rattle.pv_path.specs.Names.{name_cmp, same_bytes, is_name, is_staging, staging_name}

-- A path: its names, each as its bytes.
abbrev pub Path : Type 0
Path = List (List ℕ)

-- Whether each component of a path is a name.
abbrev pub has_names : Path → Bool
has_names path = list_all is_name path

-- The order of paths: component by component, each compared by bytes. A prefix comes before a longer path.
abbrev pub path_cmp : Path → Path → Ordering
path_cmp = slice_cmp name_cmp

-- The order of paths is total.
pub path_total : IsTotalOrder path_cmp
path_total = lists_total nat_list_cmp_total

-- Paths that the order finds equal are the same path.
pub path_exact : IsAntisymmetric path_cmp
path_exact = slice_cmp-IsAntisymmetric (slice_cmp-IsAntisymmetric nat_cmp-IsAntisymmetric)

-- Whether two paths are the same.
abbrev pub same_path : Path → Path → Bool
same_path = pointwise same_bytes

-- The test above says exactly whether two paths are equal.
pub same_path-decides : (p q : Path) → Decides (same_path p q) (p ≡ q)
same_path-decides = pointwise_decides bytes_decides

-- What follows a prefix in a path, or nothing if the path does not begin with it. Example: `tmp` follows `/var` in
-- `/var/tmp`.
abbrev pub rest_under : Path → Path → Option Path
rest_under [] path = Some path
rest_under (name ∷ prefix) [] = None
rest_under (name ∷ prefix) (other ∷ path) = if same_bytes name other then rest_under prefix path else None

-- Whether the first path is a prefix of the second. A path is a prefix of itself.
abbrev pub is_prefix : Path → Path → Bool
is_prefix [] path = true
is_prefix (name ∷ prefix) [] = false
is_prefix (name ∷ prefix) (other ∷ path) = same_bytes name other && is_prefix prefix path

-- The directory that contains a path: the path without its last name. That of the root is the root.
abbrev pub parent_of : Path → Path
parent_of path = take (length path - 1) path

-- The last name of a path. The root has none.
abbrev pub last_name : Path → Option (List ℕ)
last_name path = slice_get path (length path - 1)

-- Whether any name of a path is a staging name.
abbrev pub has_staging : Path → Bool
has_staging path = list_any is_staging path

-- The staging path of a path: its last name is replaced by the staging name. Example: that of `/run/app` is
-- `/run/.#tf-app`. That of the root is the root.
abbrev pub staging_of : Path → Path
staging_of [] = []
staging_of (name ∷ []) = staging_name name ∷ []
staging_of (name ∷ other ∷ path) = name ∷ staging_of (other ∷ path)
