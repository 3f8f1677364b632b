-- Where the last step was done. No public clause cites this module.
use Rattle.std.specs.Prelude.{◌≡◌, ℕ, ◌-◌, List, length, Some, slice_get}
use Rattle.pv_path.specs.Paths.{Path, parent_of}
use Rattle.pv_steps.specs.declared.step.Step.{Step}
use Rattle.pv_steps.specs.declared.step.Step.TheVariants.{MakeDir, MakeFile, MakeFifo, MakeDevice, MakeLink, Write, SetMode, SetOwner, SetAcl, SetAttrs, SetLetters, SetStamps, Rename, Unlink, RemoveDir}
use Rattle.pv_tree.specs.declared.slot.Slot.{Slot}
use Rattle.pv_tree.specs.Slots.{number_in, IsTreeOf}

-- The path of the object that a step makes, changes or removes. For a Rename it is the new path.
abbrev pub place_of : Step → Path
place_of (MakeDir path) = path
place_of (MakeFile path) = path
place_of (MakeFifo path) = path
place_of (MakeDevice path block major minor) = path
place_of (MakeLink path target) = path
place_of (Write path content) = path
place_of (SetMode path mode) = path
place_of (SetOwner path uid gid) = path
place_of (SetAcl path acl) = path
place_of (SetAttrs path attrs) = path
place_of (SetLetters path letters) = path
place_of (SetStamps path access modify) = path
place_of (Rename from to) = to
place_of (Unlink path) = path
place_of (RemoveDir path) = path

-- The number is that of the directory in which the path of the last step lies. Without a step it may be any number.
abbrev pub IsNear : List Slot → List Step → ℕ → Type 0
IsNear slots steps near =
    (step : Step) → slice_get steps (length steps - 1) ≡ Some step → number_in slots (parent_of (place_of step)) ≡ Some near

-- Slots hold a tree, some numbers of slots are free, and one is that of the directory of the last step.
pub record IsHeld (slots : List Slot) (free : List ℕ) (steps : List Step) (number : ℕ) : Type 0 where
  pub whole : IsTreeOf slots free
  pub near : IsNear slots steps number
