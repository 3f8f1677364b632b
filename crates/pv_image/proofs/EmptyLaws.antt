-- Laws of a tree with empty files, and of how much of a tree is written.
use Rattle.std.specs.Prelude.{◌≡◌, ℕ, true, List, [], ◌∷◌, map, nat_lt, Option, Some, None, option_map}
use Rattle.std.proofs.Common.{refl, ap}
use Rattle.std.specs.FinMap as fin
use Rattle.std.specs.List.{list_all}
use Rattle.pv_path.specs.Paths.{Path}
use Rattle.pv_steps.specs.declared.node.Kind.{Kind}
use Rattle.pv_steps.specs.declared.node.Kind.TheVariants.{Directory, File, Link, Fifo, CharDevice, BlockDevice}
use Rattle.pv_steps.specs.declared.object.Object.{Object}
use Rattle.pv_steps.specs.Objects.{IsObject, PayloadFits}
use Rattle.pv_steps.specs.Trees.{Files, IsTree, kind_of, places}
use Rattle.pv_image.specs.declared.extent.Extent.{Extent}
use Rattle.pv_image.specs.declared.extent.Extent.TheVariants.{Whole, EmptyFiles}
use Rattle.pv_image.specs.Emptied.{emptied, emptied_payload, with_empty_files}
use Rattle.pv_image.specs.Written.{written_object, written_payload, written_tree}
use Rattle.pv_image.proofs.MappedLaws.{entries-mapped, places-mapped, shown_by, tree_mapped}

-- ---- with empty files

payload_fits : (k : Kind) (payload : List ℕ) → PayloadFits k payload → PayloadFits k (emptied_payload k payload)
payload_fits Directory payload h = h
payload_fits File payload h = tt
payload_fits Link payload h = h
payload_fits Fifo payload h = h
payload_fits CharDevice payload h = h
payload_fits BlockDevice payload h = h

bytes_fit : (k : Kind) (payload : List ℕ) → list_all (λ b. nat_lt b 256) payload ≡ true → list_all (λ b. nat_lt b 256) (emptied_payload k payload) ≡ true
bytes_fit Directory payload h = h
bytes_fit File payload h = refl
bytes_fit Link payload h = h
bytes_fit Fifo payload h = h
bytes_fit CharDevice payload h = h
bytes_fit BlockDevice payload h = h

IsObject-emptied : (o : Object) → IsObject o → IsObject (emptied o)
IsObject-emptied o h = record {
  payload = payload_fits o.node.kind o.payload h.payload;
  bytes = bytes_fit o.node.kind o.payload h.bytes;
  numbers = h.numbers;
  special = h.special;
  owner = h.owner;
  acl = h.acl;
  kind_acl = h.kind_acl;
  stamps = h.stamps;
  attrs = h.attrs;
  letters = h.letters;
}

pub places-emptied : (t : Files) (q : Path) → places (with_empty_files t) q ≡ option_map emptied (places t q)
places-emptied = places-mapped emptied

pub kind_of-emptied : (o : Option Object) → kind_of (option_map emptied o) ≡ kind_of o
kind_of-emptied None = refl
kind_of-emptied (Some o) = refl

pub tree_emptied : (t : Files) → IsTree t → IsTree (with_empty_files t)
tree_emptied = tree_mapped emptied (λ o. refl) IsObject-emptied

-- ---- what is written

entries_as_they_are : (es : List (Path × Object)) → map (shown_by (written_object Whole)) es ≡ es
entries_as_they_are [] = refl
entries_as_they_are (e ∷ es) = ap (λ (v : List (Path × Object)). e ∷ v) (entries_as_they_are es)

pub entries_told : (extent : Extent) (t : Files) → map (shown_by (written_object extent)) (fin.entries t) ≡ fin.entries (written_tree extent t)
entries_told Whole t = entries_as_they_are (fin.entries t)
entries_told EmptyFiles t = entries-mapped emptied t

pub tree_told : (extent : Extent) (t : Files) → IsTree t → IsTree (written_tree extent t)
tree_told Whole t tree = tree
tree_told EmptyFiles t tree = tree_emptied t tree

-- an object of which so much is written
pub told_parts : (extent : Extent) (o : Object) → record o { payload = written_payload extent o.node.kind o.payload } ≡ written_object extent o
told_parts Whole o = refl
told_parts EmptyFiles o = refl
