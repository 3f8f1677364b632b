-- What reading sees of the object at a path, and where a step may create, remove or rewrite an object (this
-- project's own).
use Rattle.std.specs.Prelude.{◌≡◌, ℕ, Bool, true, false, ◌||◌, List, [], ◌∷◌, Option, option_map, ⊤}
use Rattle.pv_path.specs.Paths.{Path, same_path, is_prefix}
use Rattle.pv_steps.specs.declared.node.Kind.{Kind}
use Rattle.pv_steps.specs.declared.object.Object.{Object}
use Rattle.pv_steps.specs.declared.step.Step.{Step}
use Rattle.pv_steps.specs.declared.step.Step.TheVariants.{MakeDir, MakeFile, MakeFifo, MakeDevice, MakeLink, Write, SetMode, SetOwner, SetAcl, SetAttrs, SetLetters, SetStamps, Rename, Unlink, RemoveDir}
use Rattle.pv_steps.specs.Trees.{Files, Places, places, IsEmptyIn}
use Rattle.pv_steps.specs.Steps.{after}

-- The content of an object, if there is one: its kind and its payload.
abbrev pub content_of : Option Object → Option (Kind × List ℕ)
content_of o = option_map (λ (x : Object). (x.node.kind, x.payload)) o

-- Whether a step may create, remove or rewrite the object at a path. A Rename does so at and below both of its
-- paths. Steps that set metadata do not.
abbrev pub alters : Step → Path → Bool
alters (MakeDir path) q = same_path path q
alters (MakeFile path) q = same_path path q
alters (MakeFifo path) q = same_path path q
alters (MakeDevice path block major minor) q = same_path path q
alters (MakeLink path target) q = same_path path q
alters (Write path content) q = same_path path q
alters (SetMode path mode) q = false
alters (SetOwner path uid gid) q = false
alters (SetAcl path acl) q = false
alters (SetAttrs path attrs) q = false
alters (SetLetters path letters) q = false
alters (SetStamps path access modify) q = false
alters (Rename from to) q = is_prefix from q || is_prefix to q
alters (Unlink path) q = same_path path q
alters (RemoveDir path) q = same_path path q

-- A step removes the object at one of these paths: it is an Unlink or a RemoveDir. `inside` says which paths they
-- are.
abbrev pub Removes : (Path → Bool) → Step → Type 0
Removes inside (Unlink path) = inside path ≡ true
Removes inside (RemoveDir path) = inside path ≡ true
Removes inside step = ⊥

-- A step does not create, remove, rewrite or move an object at one of these paths. If it is a Rename, nothing is
-- below the path from which it moves. Steps that set metadata are always outside.
abbrev pub IsOutside : (Path → Bool) → Places → Step → Type 0
IsOutside inside t (MakeDir path) = inside path ≡ false
IsOutside inside t (MakeFile path) = inside path ≡ false
IsOutside inside t (MakeFifo path) = inside path ≡ false
IsOutside inside t (MakeDevice path block major minor) = inside path ≡ false
IsOutside inside t (MakeLink path target) = inside path ≡ false
IsOutside inside t (Write path content) = inside path ≡ false
IsOutside inside t (Rename from to) = IsEmptyIn t from × ((inside from ≡ false) × (inside to ≡ false))
IsOutside inside t (Unlink path) = inside path ≡ false
IsOutside inside t (RemoveDir path) = inside path ≡ false
IsOutside inside t step = ⊤

-- Each of these steps is outside of these paths in the tree in which it is done.
abbrev pub AreOutside : (Path → Bool) → Files → List Step → ℕ → Type 0
AreOutside inside t [] now = ⊤
AreOutside inside t (step ∷ steps) now = IsOutside inside (places t) step × AreOutside inside (after t step now) steps now
