-- The fifteen atomic steps: when each can be done, and the tree that it leaves, with its timestamps (inode(7)). They
-- are those of mkdir(2), mknod(2), symlink(2), rename(2), unlink(2), rmdir(2), chmod(2), chown(2), setxattr(2),
-- chattr(1) and utimensat(2), and of acl(5) for ACLs.
use Rattle.std.specs.Prelude.{◌≡◌, ◌≢◌, ◌⊎◌, ℕ, ◌^◌, ◌<◌, ◌≤◌, Bool, true, false, List, [], ◌∷◌, ◌++◌, map, Option, Some, None, nat_lt, option_map, if◌then◌else◌}
use Rattle.std.specs.List.{list_all}
use Rattle.std.specs.Option.{option_map_or}
use Rattle.std.specs.FinMap as fin
use Rattle.pv_path.specs.Paths.{Path, same_path, is_prefix, rest_under, parent_of, has_names}
use Rattle.pv_acl.specs.declared.part.Acl.{Acl}
use Rattle.pv_acl.specs.Parts.{is_acl}
use Rattle.pv_steps.specs.Attributes.{are_attrs}
use Rattle.pv_steps.specs.declared.node.Kind.{Kind}
use Rattle.pv_steps.specs.declared.node.Kind.TheVariants.{Directory, File, Link, Fifo, CharDevice, BlockDevice}
use Rattle.pv_steps.specs.declared.object.Object.{Object}
use Rattle.pv_steps.specs.declared.step.Step.{Step}
use Rattle.pv_steps.specs.declared.step.Step.TheVariants.{MakeDir, MakeFile, MakeFifo, MakeDevice, MakeLink, Write, SetMode, SetOwner, SetAcl, SetAttrs, SetLetters, SetStamps, Rename, Unlink, RemoveDir}
use Rattle.pv_steps.specs.Objects.{fresh, changed, modified, with_mode, with_owner, with_acl, with_attrs, with_letters, with_stamps, with_content, IsTarget, IsId}
use Rattle.pv_steps.specs.Trees.{Files, Places, places, kind_of, tabulate, IsPresentIn, IsAbsentIn, IsKindIn, IsEmptyIn}

-- ---- when a step may be done

-- A new object can be made at a path: nothing is there, and the path above is a directory.
abbrev pub HasRoom : Places → Path → Type 0
HasRoom t path = IsAbsentIn t path × IsKindIn Directory t (parent_of path)

-- There is an object at a path, and it is of another kind than this.
abbrev pub IsOther : Kind → Places → Path → Type 0
IsOther kind t path = IsPresentIn t path × (kind_of (t path) ≢ Some kind)

-- The object at a path may have this ACL: the ACL has no default part, or the object is a directory.
abbrev pub TakesAcl : Places → Path → Acl → Type 0
TakesAcl t path acl = (acl.default_part ≡ None) ⊎ IsKindIn Directory t path

-- What a Rename may find at its destination: nothing, an object that is not a directory if what it moves is not one,
-- or an empty directory if what it moves is a directory.
pub data Yields (t : Places) (from to : Path) : Type 0 where
  absent : IsAbsentIn t to → Yields t from to
  objects : IsOther Directory t from → IsOther Directory t to → Yields t from to
  directories : IsKindIn Directory t from → IsKindIn Directory t to → IsEmptyIn t to → Yields t from to

-- A Rename can be done.
pub record Movable (t : Places) (from to : Path) : Type 0 where
  pub present : IsPresentIn t from
  -- The root is not moved.
  pub no_root : from ≢ []
  -- The destination is neither the moved object nor below it.
  pub outside : is_prefix from to ≡ false
  -- The path above the destination is a directory.
  pub parent : IsKindIn Directory t (parent_of to)
  pub yields : Yields t from to

-- Each step can be done in a tree under this condition.
abbrev pub Can : Places → Step → Type 0
Can t (MakeDir path) = HasRoom t path
Can t (MakeFile path) = HasRoom t path
Can t (MakeFifo path) = HasRoom t path
Can t (MakeDevice path block major minor) = HasRoom t path
Can t (MakeLink path target) = HasRoom t path × IsTarget target
Can t (Write path content) = IsKindIn File t path
Can t (SetMode path mode) = IsOther Link t path × (mode ≤ 0o7777)
Can t (SetOwner path uid gid) = IsPresentIn t path × (IsId uid × IsId gid)
Can t (SetAcl path acl) = IsOther Link t path × (TakesAcl t path acl × (is_acl acl ≡ true))
Can t (SetAttrs path attrs) = IsOther Link t path × (are_attrs attrs ≡ true)
Can t (SetLetters path letters) = IsKindIn File t path ⊎ IsKindIn Directory t path
Can t (SetStamps path access modify) = IsPresentIn t path
Can t (Rename from to) = Movable t from to
Can t (Unlink path) = IsOther Directory t path
Can t (RemoveDir path) = IsKindIn Directory t path × (IsEmptyIn t path × (path ≢ []))

-- The parts of a step are in range, as their types say: names are names, bytes are bytes, numbers have their size.
abbrev pub StepFits : Step → Type 0
StepFits (MakeDir path) = has_names path ≡ true
StepFits (MakeFile path) = has_names path ≡ true
StepFits (MakeFifo path) = has_names path ≡ true
StepFits (MakeDevice path block major minor) = (has_names path ≡ true) × ((major < 2 ^ 32) × (minor < 2 ^ 32))
StepFits (MakeLink path target) = (has_names path ≡ true) × (list_all (λ b. nat_lt b 256) target ≡ true)
StepFits (Write path content) = (has_names path ≡ true) × (list_all (λ b. nat_lt b 256) content ≡ true)
StepFits (SetMode path mode) = has_names path ≡ true
StepFits (SetOwner path uid gid) = has_names path ≡ true
StepFits (SetAcl path acl) = has_names path ≡ true
StepFits (SetAttrs path attrs) = has_names path ≡ true
StepFits (SetLetters path letters) = (has_names path ≡ true) × (letters < 2 ^ 15)
StepFits (SetStamps path access modify) = (has_names path ≡ true) × ((access < 2 ^ 64) × (modify < 2 ^ 64))
StepFits (Rename from to) = (has_names from ≡ true) × (has_names to ≡ true)
StepFits (Unlink path) = has_names path ≡ true
StepFits (RemoveDir path) = has_names path ≡ true

-- ---- what a step leaves

-- The objects with this one at a path, or with none there.
abbrev pub put_at : Path → Option Object → Places → Places
put_at path o t = λ q. if same_path path q then o else t q

-- The objects with the one at a path changed, if there is one.
abbrev pub on_at : Path → (Object → Object) → Places → Places
on_at path f t = λ q. if same_path path q then option_map f (t q) else t q

-- The objects after the directory of a path has gained or lost a name.
abbrev pub touched : ℕ → Path → Places → Places
touched now path t = on_at (parent_of path) (modified now) t

-- The objects after a new one was made at a path. The directory above has gained a name.
abbrev pub made : ℕ → Path → Object → Places → Places
made now path o t = touched now path (put_at path (Some o) t)

-- The objects after the one at a path was removed. The directory above has lost a name.
abbrev pub gone : ℕ → Path → Places → Places
gone now path t = touched now path (put_at path None t)

-- What a Rename brings to its destination: the moved object with its change timestamp set, and everything below it
-- as it was. The last argument is the path below the destination.
abbrev pub carried : ℕ → Path → Places → Path → Option Object
carried now from t [] = option_map (changed now) (t from)
carried now from t (name ∷ rest) = t (from ++ name ∷ rest)

-- The object at a path after a Rename. At and below the destination it is what was brought there. At and below the
-- old path there is none. Elsewhere it is as before, but the two directories above were changed.
abbrev pub moved_at : ℕ → Path → Path → Places → Path → Option Path → Option Object
moved_at now from to t q (Some rest) = carried now from t rest
moved_at now from to t q None = if is_prefix from q then None else touched now from (touched now to t) q

-- The objects after a Rename. What was at the destination is replaced.
abbrev pub moved : ℕ → Path → Path → Places → Places
moved now from to t = λ q. moved_at now from to t q (rest_under to q)

-- The kind of a block device, or of a character device.
abbrev pub device_kind : Bool → Kind
device_kind block = if block then BlockDevice else CharDevice

-- The object at each path after a step with the time `now`. A new directory has mode 0700, a new link 0777, and any
-- other new object 0600.
abbrev pub after_at : Places → Step → ℕ → Places
after_at t (MakeDir path) now = made now path (fresh Directory 0o700 [] 0 0 now) t
after_at t (MakeFile path) now = made now path (fresh File 0o600 [] 0 0 now) t
after_at t (MakeFifo path) now = made now path (fresh Fifo 0o600 [] 0 0 now) t
after_at t (MakeDevice path block major minor) now = made now path (fresh (device_kind block) 0o600 [] major minor now) t
after_at t (MakeLink path target) now = made now path (fresh Link 0o777 target 0 0 now) t
after_at t (Write path content) now = on_at path (with_content content now) t
after_at t (SetMode path mode) now = on_at path (with_mode mode now) t
after_at t (SetOwner path uid gid) now = on_at path (with_owner uid gid now) t
after_at t (SetAcl path acl) now = on_at path (with_acl acl now) t
after_at t (SetAttrs path attrs) now = on_at path (with_attrs attrs now) t
after_at t (SetLetters path letters) now = on_at path (with_letters letters now) t
after_at t (SetStamps path access modify) now = on_at path (with_stamps access modify now) t
after_at t (Rename from to) now = moved now from to t
after_at t (Unlink path) now = gone now path t
after_at t (RemoveDir path) now = gone now path t

-- The path of an object after a Rename.
abbrev pub moved_path : Path → Path → Path → Path
moved_path from to path = option_map_or (λ rest. to ++ rest) (rest_under from path) path

-- Paths among which are all paths of the tree after a step.
abbrev pub paths_after : List Path → Step → List Path
paths_after paths (MakeDir path) = path ∷ paths
paths_after paths (MakeFile path) = path ∷ paths
paths_after paths (MakeFifo path) = path ∷ paths
paths_after paths (MakeDevice path block major minor) = path ∷ paths
paths_after paths (MakeLink path target) = path ∷ paths
paths_after paths (Rename from to) = map (moved_path from to) paths ++ paths
paths_after paths step = paths

-- The tree after a step with the time `now`. Its object at each path is that of `after_at`.
unfoldable pub after : Files → Step → ℕ → Files
after files step now = tabulate (paths_after (fin.keys files) step) (after_at (places files) step now)
