-- What is asked of a host that has a tree: the change of a removal and of a move, by what stands in the tree.
use Rattle.std.proofs.Common.{◌≡◌, ◌∙◌, ◌++◌, ◌∷◌, [], ℕ, List, true, Some, None, Option, Result, Ok, Err, is_some, map, refl, sym, ap}
use Rattle.std.specs.Prelude.{IsErrOf, OnOk}
use Rattle.std.specs.Result.{IsErrAnd}
use Rattle.std.proofs.lemmas.List.{map-append}
use Rattle.std.proofs.lemmas.Option.{same_Some}
use Rattle.pv_io.specs.Faults.{HasRisen}
use Rattle.pv_path.specs.Paths.{Path}
use Rattle.pv_steps.specs.declared.node.Kind.{Kind}
use Rattle.pv_steps.specs.declared.node.Kind.TheVariants.{File}
use Rattle.pv_steps.specs.declared.object.Object.{Object}
use Rattle.pv_steps.specs.Trees.{kind_of}
use Rattle.pv_folder.specs.Content.{Change, HostObject}
use Rattle.pv_folder.specs.Content as host
use Rattle.pv_folder.specs.Counts.{count_after}
use Rattle.pv_folder.specs.declared.host.HostFault.{HostFault}
use Rattle.pv_folder.specs.declared.host.HostFault.TheVariants.{Failed, Memory}
use Rattle.pv_folder.specs.Folders.{real_as, real_of}
use Rattle.pv_folder.specs.Keeping.{move, removal}
use Rattle.pv_folder.specs.Memory.{change_of}
use Rattle.pv_folder.specs.declared.change.HostChange.{HostChange}

-- a file that a host has is removed
pub file_removed : (path : Path) (o : Option Object) → kind_of o ≡ Some File → removal path (real_of o) ≡ Some (host.RemoveFile path)
file_removed path None is = cc
file_removed path (Some o) is = ap (λ (o : Option HostObject). removal path o) (ap (λ (k : Kind). real_as k o.payload) (same_Some o.node.kind File is))

-- what a host has is moved
pub real_moved : (from to : Path) (o there : Option HostObject) → is_some o ≡ true → move from to o there ≡ Some (host.Rename from to)
real_moved from to (Some o) there is = refl
real_moved from to None there is = cc

-- ---- a call that runs out of memory

-- it is no fault of the host
pub memory_caused : {A : Type 0} (r : Result A HostFault) (old new : ℕ) → IsErrAnd r (λ fault. fault ≡ Memory) → IsErrOf r Failed → HasRisen old new
memory_caused (Ok x) old new is failed = absurd is
memory_caused (Err fault) old new is failed = cc

-- and the count of faults stays
pub memory_counted : {A : Type 0} (r : Result A HostFault) (faults : ℕ) → IsErrAnd r (λ fault. fault ≡ Memory) → faults ≡ count_after r faults
memory_counted (Ok x) faults is = absurd is
memory_counted {A = A} (Err fault) faults is = sym (ap (λ (fault : HostFault). count_after {A = A} (Err fault) faults) is)

-- ---- what was recorded

-- a change as it is told
pub recorded_as : {A E : Type 0} (r : Result A E) (old new : List HostChange) (change : HostChange) (told : Change) → OnOk r (new ≡ old ++ change ∷ []) → change_of change ≡ told → OnOk r (map change_of new ≡ map change_of old ++ told ∷ [])
recorded_as (Ok x) old new change told is same = ap (map change_of) is ∙ map-append change_of old (change ∷ []) ∙ ap (λ (c : Change). map change_of old ++ c ∷ []) same
recorded_as (Err e) old new change told is same = is
