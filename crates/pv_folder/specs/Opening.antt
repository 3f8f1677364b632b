-- Opening a folder: what is read of it, and why it is not opened. First the folder is listed, then its manifest is
-- read, and then `tree` is read. There each object comes before those below it, and these before the next. The first
-- fault decides.
use Rattle.std.specs.Prelude.{◌≡◌, ◌≢◌, ◌⊎◌, ◌||◌, ℕ, suc, ◌+◌, nat_lt, Bool, true, false, List, [], ◌∷◌, codes, length, drop, Option, Some, None, if◌then◌else◌}
use Rattle.std.specs.FinMap as fin
use Rattle.pv_path.specs.Paths.{Path}
use Rattle.pv_path.specs.Printing.{printed_path}
use Rattle.pv_steps.specs.declared.node.Kind.TheVariants.{Directory}
use Rattle.pv_steps.specs.Objects.{fresh}
use Rattle.pv_steps.specs.Trees.{Files}
use Rattle.pv_text.specs.Facts.{Values}
use Rattle.pv_tree.specs.Held.{root_alone}
use Rattle.pv_image.specs.declared.image_fault.ImageFault.{ImageFault}
use Rattle.pv_image.specs.declared.image_fault.ImageFault.TheVariants as image_fault
use Rattle.pv_image.specs.Images.{HasImageFault, IsImage}
use Rattle.pv_folder.specs.Content.{Content, HostObject, held}
use Rattle.pv_folder.specs.Content as host
use Rattle.pv_folder.specs.declared.host.HostFault.{HostFault}
use Rattle.pv_folder.specs.declared.host.HostFault.TheVariants as host_fault
use Rattle.pv_folder.specs.declared.open_fault.OpenFault.{OpenFault}
use Rattle.pv_folder.specs.declared.open_fault.OpenFault.TheVariants.{HostFailed, NotPrepared, BadManifest, OddObject, TooLarge, Memory}
use Rattle.pv_folder.specs.Folders.{IsPrepared, manifest_path, objects_in, real_in}
use Rattle.pv_folder.specs.Merge.{merged}

-- ---- the manifest

-- What the manifest of a folder says: these facts and this tree. If there is no manifest, there are no facts, and
-- the tree is a root alone.
pub data Says (folder : Path) (content : Content) (facts : Values) (files : Files) : Type 0 where
  absent : held content (manifest_path folder) ≡ None → facts ≡ fin.empty
      → files ≡ root_alone (fresh Directory 0o755 [] 0 0 0).node → Says folder content facts files
  present : (bytes : List ℕ) → held content (manifest_path folder) ≡ Some (host.File bytes) → IsImage bytes facts files
      → Says folder content facts files

-- ---- what is real

-- The most objects that may be below `tree`.
abbrev pub most_objects : ℕ
most_objects = 1000000

-- The most bytes that its files may have together: 64 MiB.
abbrev pub most_bytes : ℕ
most_bytes = 67108864

-- The number of bytes of a file. Another object has none.
abbrev pub size : HostObject → ℕ
size (host.File bytes) = length bytes
size o = 0

-- Whether there are more objects or bytes than a run takes.
abbrev pub is_over : ℕ → ℕ → Bool
is_over objects bytes = nat_lt most_objects objects || nat_lt most_bytes bytes

-- A file has more bytes than there is room for.
abbrev pub IsLonger : ℕ → Option (List ℕ) → Type 0
IsLonger room (Some bytes) = nat_lt room (length bytes) ≡ true
IsLonger room None = ⊥

-- The fault of an odd object, which is named by its path in the folder.
abbrev pub odd : Path → OpenFault
odd path = OddObject (printed_path (codes "tree" ∷ path))

-- The first fault among these objects, if there is one. Before them there were this many objects and bytes. An
-- object that is neither a directory nor a file is odd.
abbrev pub fault_among : ℕ → ℕ → List (Path × HostObject) → Option OpenFault
fault_among objects bytes [] = None
fault_among objects bytes ((path, host.Other) ∷ es) = Some (odd path)
fault_among objects bytes ((path, o) ∷ es) =
    if is_over (suc objects) (bytes + size o) then Some TooLarge
    else fault_among (suc objects) (bytes + size o) es

-- The objects below `tree`.
abbrev pub objects_below : Path → Content → List (Path × HostObject)
objects_below folder content = drop 1 (objects_in folder content)

-- ---- the answer

-- A folder is not opened, for this reason: it is not prepared, its manifest is not an image, or there is a fault
-- below `tree`. The first of these counts.
pub data IsRefused (folder : Path) (content : Content) : OpenFault → Type 0 where
  not_prepared : (IsPrepared folder (held content) → ⊥) → IsRefused folder content NotPrepared
  bad_manifest : (bytes : List ℕ) (f : ImageFault) → IsPrepared folder (held content)
      → held content (manifest_path folder) ≡ Some (host.File bytes) → HasImageFault bytes f → IsRefused folder content (BadManifest f)
  real : (facts : Values) (files : Files) (fault : OpenFault) → IsPrepared folder (held content) → Says folder content facts files
      → fault_among 0 0 (objects_below folder content) ≡ Some fault → IsRefused folder content fault

-- A folder is opened with these facts and this tree: those of its manifest, merged with what is real. It has no
-- fault.
pub record IsOpened (folder : Path) (content : Content) (facts : Values) (tree : Files) : Type 0 where
  pub manifest : Files
  pub prepared : IsPrepared folder (held content)
  pub says : Says folder content facts manifest
  pub sound : fault_among 0 0 (objects_below folder content) ≡ None
  pub is_merged : tree ≡ merged manifest (real_in folder content)

-- ---- other faults

-- The fault of opening for a fault of the host.
abbrev pub of_host : HostFault → OpenFault
of_host host_fault.Failed = HostFailed
of_host host_fault.Memory = Memory

-- The fault of opening for a fault of an image.
abbrev pub of_image : ImageFault → OpenFault
of_image image_fault.Memory = Memory
of_image fault = BadManifest fault

-- Whether a fault is not one of the folder: the host failed, or memory ran out.
abbrev pub is_outer : OpenFault → Bool
is_outer HostFailed = true
is_outer Memory = true
is_outer fault = false

-- ---- a manifest that was listed

-- What a manifest says that was listed and then read. If it could not be read, it says nothing.
abbrev pub SaysRead : Option (List ℕ) → Values → Files → Type 0
SaysRead (Some bytes) facts files = IsImage bytes facts files
SaysRead None facts files = ⊥

-- Why a manifest that was listed says nothing. If it was read, it is not an image. If it was gone, it is an odd
-- object. In both cases memory may have run out.
abbrev pub IsUnsaid : Option (List ℕ) → OpenFault → Type 0
IsUnsaid (Some bytes) fault = (f : ImageFault) × (fault ≡ of_image f) × (f ≢ image_fault.Memory → HasImageFault bytes f)
IsUnsaid None fault = (fault ≡ OddObject (codes "/manifest")) ⊎ (fault ≡ Memory)
