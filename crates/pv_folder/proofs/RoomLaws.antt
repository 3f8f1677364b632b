-- Files that are read with a limit, and a manifest that was listed and then read.
use Rattle.std.proofs.Common.{◌≡◌, ◌≢◌, ◌∙◌, ◌⊎◌, inl, inr, ◌≤◌, ◌+◌, ◌-◌, suc, true, false, List, [], ◌∷◌, ◌++◌, length, Option, Some, None, IfSome, is_some, option_map, Result, Ok, Err, IfOk, IfErr, refl, sym, ap, subst, ℕ, arith}
use Rattle.std.specs.Prelude.{nat_lt}
use Rattle.std.proofs.lemmas.Bool.Decides.{nat_tests}
use Rattle.std.proofs.Math.Bool.{or-true}
use Rattle.pv_path.specs.Paths.{Path}
use Rattle.pv_steps.specs.Trees.{Files}
use Rattle.pv_folder.specs.declared.item.HostKind.TheVariants as kind
use Rattle.pv_folder.specs.Content.{Content, HostObject, bytes_of, held, kind_at, kind_of, within}
use Rattle.pv_folder.specs.Content as host
use Rattle.pv_image.specs.declared.Image.{Image}
use Rattle.pv_folder.specs.declared.found.Found.{Found}
use Rattle.pv_folder.specs.declared.found.Seen.{Seen}
use Rattle.pv_folder.specs.declared.found.Seen.TheVariants as seen
use Rattle.pv_folder.specs.declared.open_fault.OpenFault.{OpenFault}
use Rattle.pv_folder.specs.declared.open_fault.OpenFault.TheVariants.{TooLarge}
use Rattle.pv_folder.specs.Folders.{IsPrepared, manifest_path, tree_path}
use Rattle.pv_folder.specs.Opening.{IsLonger, IsRefused, IsUnsaid, Says, SaysRead, is_outer, is_over, most_bytes, most_objects}
use Rattle.pv_folder.specs.Reading.{path_of}
use Rattle.pv_folder.proofs.GoingLaws.{Faulty, IsGoing, going_over, going_same}
use Rattle.pv_folder.proofs.OpeningLaws.{manifest_bad, manifest_says}

-- ---- a limit

-- with a file that is longer than the room that is left there are too many bytes
too_many : (objects bytes size room : ℕ) → room ≡ most_bytes - bytes → bytes ≤ most_bytes → nat_lt room size ≡ true → is_over objects (bytes + size) ≡ true
too_many objects bytes size room left within longer =
    let over : nat_lt most_bytes (bytes + size) ≡ true = grind (arith, nat_tests, left, within, longer) in
    rw over (or-true (nat_lt most_objects objects))

pub going_large : (content : Option Content) (folder : Path) (objects bytes : ℕ) (files : Files) (last : Path) (pending : List Found) (x : Found) (room : ℕ)
    → IsGoing content folder objects bytes files last (pending ++ x ∷ []) → room ≡ most_bytes - bytes → bytes ≤ most_bytes
    → IfSome content (λ c. IsLonger room (bytes_of (held c (tree_path folder ++ path_of x)))) → IfSome content (Faulty folder TooLarge)
going_large None folder objects bytes files last pending x room going left within longer = tt
going_large (Some c) folder objects bytes files last pending x room going left within longer = by (held c (tree_path folder ++ path_of x)) refl longer
  where
    by : (o : Option HostObject) → held c (tree_path folder ++ path_of x) ≡ o → IsLonger room (bytes_of o) → Faulty folder TooLarge c
    by None at longer = absurd longer
    by (Some host.Directory) at longer = absurd longer
    by (Some (host.File b)) at longer = going_over (Some c) folder objects bytes files last pending x going (seen.File b) refl at
        (too_many (suc objects) bytes (length b) room left within longer)
    by (Some host.Other) at longer = absurd longer

-- ---- a manifest

-- what was read of a manifest that is there says what the folder's manifest says
pub read_says : (content : Option Content) (folder : Path) (read : Option (List ℕ)) (result : Result Image OpenFault)
    → IfSome content (λ c. read ≡ bytes_of (held c (manifest_path folder))) → IfOk result (λ image. SaysRead read image.facts image.tree.files)
    → IfOk result (λ image. IfSome content (λ c. Says folder c image.facts image.tree.files))
read_says content folder read (Err e) at says = tt
read_says content folder None (Ok image) at says = absurd says
read_says content folder (Some bytes) (Ok image) at says = manifest_says content folder bytes image.facts image.tree.files at says

-- a manifest that is a file is not gone
not_gone : (o : Option HostObject) → (o ≡ None) ⊎ (option_map kind_of o ≡ Some kind.File) → is_some o ≡ true → None ≡ bytes_of o → ⊥
not_gone None free there none = cc
not_gone (Some host.Directory) (inl e) there none = cc
not_gone (Some host.Directory) (inr e) there none = cc
not_gone (Some (host.File b)) free there none = cc
not_gone (Some host.Other) (inl e) there none = cc
not_gone (Some host.Other) (inr e) there none = cc

-- and a fault of what was read is the folder's
pub read_unsaid : (content : Option Content) (folder : Path) (read : Option (List ℕ)) (fault : OpenFault)
    → IfSome content (λ c. IsPrepared folder (held c)) → IfSome content (λ c. is_some (held c (manifest_path folder)) ≡ true)
    → IfSome content (λ c. read ≡ bytes_of (held c (manifest_path folder))) → IsUnsaid read fault
    → is_outer fault ≡ false → IfSome content (λ c. IsRefused folder c fault)
read_unsaid content folder (Some bytes) fault prepared there at (f, is, has) own =
    subst (λ (e : OpenFault). IfSome content (λ c. IsRefused folder c e)) (sym is)
    (manifest_bad content folder bytes f prepared at has (ap is_outer (sym is) ∙ own))
read_unsaid None folder None fault prepared there at unsaid own = tt
read_unsaid (Some c) folder None fault prepared there at unsaid own = absurd (not_gone (held c (manifest_path folder)) prepared.manifest there at)

-- what follows from each fault
pub err_on : {A : Type 0} {P Q : OpenFault → Type 0} (r : Result A OpenFault) → ((fault : OpenFault) → P fault → Q fault) → IfErr r P → IfErr r Q
err_on (Ok x) f h = tt
err_on (Err e) f h = f e h

-- the fault of what was looked at is that of the folder
pub going_unseen : (content after : Option Content) (folder : Path) (objects bytes : ℕ) (files : Files) (last : Path) (pending : List Found) (x : Found) (p : Path) (room : ℕ) (f : OpenFault)
    → IsGoing content folder objects bytes files last (pending ++ x ∷ []) → after ≡ content → p ≡ path_of x → room ≡ most_bytes - bytes → bytes ≤ most_bytes
    → (◌≡◌ {A = Result Seen OpenFault} (Err f) (Err TooLarge) → IfSome after (λ c. IsLonger room (bytes_of (held c (tree_path folder ++ p)))))
    → (is_outer f ≡ false → f ≢ TooLarge → IfSome after (λ c. kind_at (held c) (tree_path folder ++ p) ≢ Some x.kind))
    → is_outer f ≡ false → IfSome content (Faulty folder f)
going_unseen content after folder objects bytes files last pending x p room TooLarge going kept at left within large other own =
    going_large content folder objects bytes files last pending x room going left within
    (subst (λ (q : Path). IfSome content (λ c. IsLonger room (bytes_of (held c (tree_path folder ++ q))))) at
    (subst (λ (o : Option Content). IfSome o (λ c. IsLonger room (bytes_of (held c (tree_path folder ++ p))))) kept (large refl)))
going_unseen content after folder objects bytes files last pending x p room f going kept at left within large other own =
    going_same content folder objects bytes files last pending x going f
    (subst (λ (q : Path). IfSome content (λ c. kind_at (held c) (tree_path folder ++ q) ≢ Some x.kind)) at
    (subst (λ (o : Option Content). IfSome o (λ c. kind_at (held c) (tree_path folder ++ p) ≢ Some x.kind)) kept (other own (λ e. cc))))
