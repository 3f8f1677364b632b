-- The order of attributes by name, and lists that are in order.
use Rattle.std.proofs.Common.{◌≡◌, ℕ, Bool, true, false, List, [], ◌∷◌, ◌++◌, refl, sym, ap, ◌∙◌, ◌≢◌, Some}
use Rattle.std.specs.List.{prefix_len, insert, slice_get}
use Rattle.std.specs.Option.{option_map}
use Rattle.std.proofs.Math.ListN.{set}
use Rattle.std.specs.Ordering.{is_lt, ordering_reverse}
use Rattle.std.specs.Cmp.Lexicographic.{nat_list_cmp_total}
use Rattle.std.specs.declared.cmp.Ordering.{Ordering}
use Rattle.std.specs.declared.cmp.Ordering.TheVariants.{Less, Equal, Greater}
use Rattle.pv_acl.proofs.Ordered as ordered
use Rattle.pv_path.specs.Names.{name_cmp}
use Rattle.pv_path.proofs.PathLaws.{name_cmp-exact}
use Rattle.pv_steps.specs.declared.attr.Attr.{Attr}
use Rattle.pv_steps.specs.Attributes.{comes_before, all_before, is_ordered, put_attr}
use Rattle.pv_path.proofs.Tests.{less_of}

pub before_trans : (a b c : List ℕ) → is_lt (name_cmp a b) ≡ true → is_lt (name_cmp b c) ≡ true → is_lt (name_cmp a c) ≡ true
before_trans a b c h k = ap is_lt (nat_list_cmp_total.trans a b c (less_of (name_cmp a b) h) (less_of (name_cmp b c) k))

pub before_asym : (a b : List ℕ) → is_lt (name_cmp a b) ≡ true → is_lt (name_cmp b a) ≡ false
before_asym a b h = ap is_lt (nat_list_cmp_total.antisymm b a ∙ ap ordering_reverse (less_of (name_cmp a b) h))

back : (o p : Ordering) → p ≡ ordering_reverse o → is_lt o ≡ false → is_lt p ≡ false → o ≡ Equal
back Less p e h k = let no : true ≡ false = h in cc
back Equal p e h k = refl
back Greater p e h k = let no : true ≡ false = sym (ap is_lt e) ∙ k in cc

pub before_same : (a b : List ℕ) → is_lt (name_cmp a b) ≡ false → is_lt (name_cmp b a) ≡ false → a ≡ b
before_same a b h k = name_cmp-exact a b (back (name_cmp a b) (name_cmp b a) (nat_list_cmp_total.antisymm b a) h k)

-- ---- lists

abbrev named : Attr → List ℕ
named x = x.name

abbrev lower : List ℕ → List ℕ → Bool
lower a b = is_lt (name_cmp a b)

-- how many of the attributes come before one
abbrev pub place_of : Attr → List Attr → ℕ
place_of y xs = prefix_len (λ x. comes_before x y) xs

pub is_ordered-push : (xs : List Attr) (y : Attr) → is_ordered xs ≡ true → all_before xs y ≡ true → is_ordered (xs ++ y ∷ []) ≡ true
is_ordered-push = ordered.is_ordered-push named lower before_trans before_asym before_same

pub is_ordered-put_attr : (y : Attr) (xs : List Attr) → is_ordered xs ≡ true → is_ordered (put_attr y xs) ≡ true
is_ordered-put_attr = ordered.is_ordered-put named lower before_trans before_asym before_same

-- the two ways in which the code puts an attribute, over lists that are all the same
pub set_is : (y : Attr) (xs s t v : List Attr) (at : ℕ) → is_ordered xs ≡ true → s ≡ xs → t ≡ xs → xs ≡ v → at ≡ place_of y s → option_map (λ x. x.name) (slice_get t at) ≡ Some y.name → set xs at y ≡ put_attr y v
set_is = ordered.set_is named lower before_trans before_asym before_same

pub insert_is : (y : Attr) (xs s t v ws : List Attr) (at : ℕ) → is_ordered xs ≡ true → s ≡ xs → t ≡ xs → xs ≡ v → at ≡ place_of y s → option_map (λ x. x.name) (slice_get t at) ≢ Some y.name → ws ≡ insert xs at y → ws ≡ put_attr y v
insert_is = ordered.insert_is named lower before_trans before_asym before_same
