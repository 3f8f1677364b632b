-- Being a tree has at most one proof. So it can be kept in a field of a type without making equal trees different.
use Rattle.std.specs.Prelude.{◌≡◌, ℕ, List, [], None}
use Rattle.std.specs.Coded.{Coded-set, Unit-prop, ×_prop, coded_bool, coded_list, coded_option, coded_ℕ, le_prop}
use Rattle.pv_acl.specs.contracts.part.Acl as acl
use Rattle.pv_acl.specs.contracts.part.Part as part
use Rattle.pv_acl.specs.declared.part.Acl.{Acl}
use Rattle.pv_path.specs.Paths.{Path}
use Rattle.pv_steps.specs.contracts.attr.Attr as attr
use Rattle.pv_steps.specs.contracts.node.Kind as kinds
use Rattle.pv_steps.specs.declared.attr.Attr.{Attr}
use Rattle.pv_steps.specs.declared.node.Kind.{Kind}
use Rattle.pv_steps.specs.declared.node.Kind.TheVariants as kind
use Rattle.pv_steps.specs.declared.node.Stamps.{Stamps}
use Rattle.pv_steps.specs.declared.object.Object.{Object}
use Rattle.pv_steps.specs.Objects.{AclFits, AttrsFit, IsObject, IsTarget, LettersFit, NumbersFit, PayloadFits, StampsFit}
use Rattle.pv_steps.specs.Trees.{Files, IsKindIn, IsTree, IsTreeIn, Places, places}

-- ---- the parts of an object

target_prop : (target : List ℕ) → IsProp (IsTarget target)
target_prop target x y = λ j. record {
  some = le_prop x.some y.some j;
  bound = le_prop x.bound y.bound j;
  no_nul = Coded-set coded_bool _ _ x.no_nul y.no_nul j;
}

payload_prop : (k : Kind) (payload : List ℕ) → IsProp (PayloadFits k payload)
payload_prop kind.File payload = Unit-prop
payload_prop kind.Link payload = target_prop payload
payload_prop kind.Directory payload = Coded-set (coded_list coded_ℕ) _ _
payload_prop kind.Fifo payload = Coded-set (coded_list coded_ℕ) _ _
payload_prop kind.CharDevice payload = Coded-set (coded_list coded_ℕ) _ _
payload_prop kind.BlockDevice payload = Coded-set (coded_list coded_ℕ) _ _

no_numbers : (major minor : ℕ) → IsProp ((major ≡ 0) × (minor ≡ 0))
no_numbers major minor = ×_prop (Coded-set coded_ℕ _ _) (Coded-set coded_ℕ _ _)

numbers_prop : (k : Kind) (major minor : ℕ) → IsProp (NumbersFit k major minor)
numbers_prop kind.CharDevice major minor = ×_prop le_prop le_prop
numbers_prop kind.BlockDevice major minor = ×_prop le_prop le_prop
numbers_prop kind.File major minor = no_numbers major minor
numbers_prop kind.Link major minor = no_numbers major minor
numbers_prop kind.Directory major minor = no_numbers major minor
numbers_prop kind.Fifo major minor = no_numbers major minor

no_default : (a : Acl) → IsProp (a.default_part ≡ None)
no_default a = Coded-set (coded_option (part.the_row).coded) _ _

acl_prop : (k : Kind) (special : ℕ) (a : Acl) → IsProp (AclFits k special a)
acl_prop kind.Directory special a = Unit-prop
acl_prop kind.Link special a = ×_prop (Coded-set coded_ℕ _ _) (Coded-set (acl.the_row).coded _ _)
acl_prop kind.File special a = no_default a
acl_prop kind.Fifo special a = no_default a
acl_prop kind.CharDevice special a = no_default a
acl_prop kind.BlockDevice special a = no_default a

attrs_prop : (k : Kind) (attrs : List Attr) → IsProp (AttrsFit k attrs)
attrs_prop kind.Link attrs = Coded-set (coded_list (attr.the_row).coded) _ _
attrs_prop kind.Directory attrs = Coded-set coded_bool _ _
attrs_prop kind.File attrs = Coded-set coded_bool _ _
attrs_prop kind.Fifo attrs = Coded-set coded_bool _ _
attrs_prop kind.CharDevice attrs = Coded-set coded_bool _ _
attrs_prop kind.BlockDevice attrs = Coded-set coded_bool _ _

letters_prop : (k : Kind) (letters : ℕ) → IsProp (LettersFit k letters)
letters_prop kind.Directory letters = le_prop
letters_prop kind.File letters = le_prop
letters_prop kind.Link letters = Coded-set coded_ℕ _ _
letters_prop kind.Fifo letters = Coded-set coded_ℕ _ _
letters_prop kind.CharDevice letters = Coded-set coded_ℕ _ _
letters_prop kind.BlockDevice letters = Coded-set coded_ℕ _ _

stamps_prop : (stamps : Stamps) → IsProp (StampsFit stamps)
stamps_prop stamps x y = λ j. record {
  access = le_prop x.access y.access j;
  birth = le_prop x.birth y.birth j;
  change = le_prop x.change y.change j;
  modify = le_prop x.modify y.modify j;
}

object_prop : (o : Object) → IsProp (IsObject o)
object_prop o x y = λ j. record {
  payload = payload_prop o.node.kind o.payload x.payload y.payload j;
  bytes = Coded-set coded_bool _ _ x.bytes y.bytes j;
  numbers = numbers_prop o.node.kind o.node.major o.node.minor x.numbers y.numbers j;
  special = le_prop x.special y.special j;
  owner = ×_prop le_prop le_prop x.owner y.owner j;
  acl = Coded-set coded_bool _ _ x.acl y.acl j;
  kind_acl = acl_prop o.node.kind o.node.special o.node.acl x.kind_acl y.kind_acl j;
  stamps = stamps_prop o.node.stamps x.stamps y.stamps j;
  attrs = attrs_prop o.node.kind o.node.attrs x.attrs y.attrs j;
  letters = letters_prop o.node.kind o.node.letters x.letters y.letters j;
}

-- ---- trees

kind_prop : (k : Kind) (t : Places) (path : Path) → IsProp (IsKindIn k t path)
kind_prop k t path = Coded-set (coded_option (kinds.the_row).coded) _ _

tree_in_prop : (t : Places) → IsProp (IsTreeIn t)
tree_in_prop t x y = λ j. record {
  root = kind_prop kind.Directory t [] x.root y.root j;
  parents = λ path some below. kind_prop kind.Directory t _ (x.parents path some below) (y.parents path some below) j;
  names = λ path some. Coded-set coded_bool _ _ (x.names path some) (y.names path some) j;
  objects = λ path o is. object_prop o (x.objects path o is) (y.objects path o is) j;
}

-- There is at most one proof that a map is a tree.
pub tree_prop : (files : Files) → IsProp (IsTree files)
tree_prop files = tree_in_prop (places files)
