-- Laws of a manifest merged with what is real: the object at each path, and that it is a tree.
use Rattle.std.proofs.Common.{◌≡◌, ◌∙◌, ◌⊎◌, inl, inr, Bool, true, false, cond, List, ◌++◌, Option, Some, None, is_some, option_map, refl, sym, ap, subst, ℕ, ◌≤◌, lit≤}
use Rattle.std.specs.FinMap as fin
use Rattle.pv_acl.specs.Parts.{acl_of_mode, special_of}
use Rattle.pv_path.specs.Paths.{Path, parent_of}
use Rattle.pv_steps.specs.declared.node.Kind.{Kind}
use Rattle.pv_steps.specs.declared.node.Kind.TheVariants.{Directory, File, Link, Fifo, CharDevice, BlockDevice}
use Rattle.pv_steps.specs.declared.node.Node.{Node}
use Rattle.pv_steps.specs.declared.object.Object.{Object}
use Rattle.pv_steps.specs.Objects.{AclFits, IsObject, PayloadFits}
use Rattle.pv_steps.specs.Trees.{Files, kind_of, places}
use Rattle.pv_steps.proofs.ObjectLaws.{IsObject-fresh}
use Rattle.pv_steps.proofs.StepLaws.{among_keys, among_left, among_right, is_among, places-tabulate}
use Rattle.pv_walk.specs.Nodes.{same_kind}
use Rattle.pv_folder.specs.Merge.{with_metadata, merged, merged_at, merged_of, plain, plain_mode}

-- ---- the object at each path

-- where something stands, something is real or the manifest says something
present_of : (m r : Option Object) (p : Option Kind) → is_some (merged_of m r p) ≡ true → (is_some r ≡ true) ⊎ (is_some m ≡ true)
present_of m (Some r) p h = inl refl
present_of (Some m) None p h = inr refl
present_of None None p h = let no : false ≡ true = h in cc

module _ (manifest real : Files) where
  held : (q : Path) → is_some (merged_at manifest real q) ≡ true → is_among q (fin.keys real ++ fin.keys manifest) ≡ true
  held q h = by (present_of (places manifest q) (places real q) (kind_of (places real (parent_of q))) h)
    where
      by : (is_some (places real q) ≡ true) ⊎ (is_some (places manifest q) ≡ true) → is_among q (fin.keys real ++ fin.keys manifest) ≡ true
      by (inl e) = among_left q (fin.keys real) (fin.keys manifest) (among_keys real q ∙ e)
      by (inr e) = among_right q (fin.keys real) (fin.keys manifest) (among_keys manifest q ∙ e)

  pub places-merged : (q : Path) → places (merged manifest real) q ≡ merged_at manifest real q
  places-merged q = places-tabulate (fin.keys real ++ fin.keys manifest) (merged_at manifest real) q (held q)

-- ---- kinds

pub same_kind-exact : (a b : Kind) → same_kind a b ≡ true → a ≡ b
same_kind-exact Directory Directory e = refl
same_kind-exact File File e = refl
same_kind-exact Link Link e = refl
same_kind-exact Fifo Fifo e = refl
same_kind-exact CharDevice CharDevice e = refl
same_kind-exact BlockDevice BlockDevice e = refl
same_kind-exact a b e = cc

kind-with_metadata : (n : Option Node) (r : Object) → (with_metadata n r).node.kind ≡ r.node.kind
kind-with_metadata None r = refl
kind-with_metadata (Some n) r = by (same_kind n.kind r.node.kind) refl
  where
    by : (b : Bool) → same_kind n.kind r.node.kind ≡ b → (cond b (record r { node = n }) (plain r)).node.kind ≡ r.node.kind
    by true e = same_kind-exact n.kind r.node.kind e
    by false e = refl

-- what is real keeps its kind
pub kind_of-merged : (m r : Option Object) (p : Option Kind) (k : Kind) → kind_of r ≡ Some k → kind_of (merged_of m r p) ≡ Some k
kind_of-merged m (Some r) p k e = ap Some (kind-with_metadata (option_map (λ o. o.node) m) r) ∙ e
kind_of-merged m None p k e = cc

-- ---- objects

plain-special : (k : Kind) → AclFits k (special_of (plain_mode k)) (acl_of_mode (plain_mode k))
plain-special Directory = tt
plain-special File = refl
plain-special Link = (refl, refl)
plain-special Fifo = refl
plain-special CharDevice = refl
plain-special BlockDevice = refl

plain-bound : (k : Kind) → plain_mode k ≤ 4095
plain-bound Directory = lit≤ tt
plain-bound File = lit≤ tt
plain-bound Link = lit≤ tt
plain-bound Fifo = lit≤ tt
plain-bound CharDevice = lit≤ tt
plain-bound BlockDevice = lit≤ tt

pub IsObject-plain : (r : Object) → IsObject r → IsObject (plain r)
IsObject-plain r h =
    IsObject-fresh r.node.kind (plain_mode r.node.kind) r.payload r.node.major r.node.minor 0 (lit≤ tt) (plain-bound r.node.kind)
    h.payload h.bytes h.numbers (plain-special r.node.kind)

-- a node with the bytes of an object of its kind
pub metadata_again : (n : Node) (payload : List ℕ) (r : Object) → n.kind ≡ r.node.kind → IsObject (record { node = n; payload = payload }) → IsObject r
    → IsObject (record r { node = n })
metadata_again n payload r e m h = record {
  payload = subst (λ (k : Kind). PayloadFits k r.payload) (sym e) h.payload;
  bytes = h.bytes;
  numbers = m.numbers;
  special = m.special;
  owner = m.owner;
  acl = m.acl;
  kind_acl = m.kind_acl;
  stamps = m.stamps;
  attrs = m.attrs;
  letters = m.letters;
}
