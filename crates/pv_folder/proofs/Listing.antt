-- Listings that are in order.
use Rattle.std.proofs.Common.{◌≡◌, ◌∙◌, ◌≤◌, ◌-◌, suc, ◌&&◌, ℕ, Bool, true, false, List, [], ◌∷◌, ◌++◌, length, get_or, arith, refl, sym, ap}
use Rattle.std.proofs.lemmas.Bool.{and_parts}
use Rattle.std.specs.List.{list_all}
use Rattle.pv_acl.proofs.Ordered as ordered
use Rattle.pv_steps.proofs.AttrOrder.{before_trans, before_asym, before_same}
use Rattle.std.specs.Ordering.{is_lt}
use Rattle.pv_path.specs.Names.{name_cmp}
use Rattle.pv_folder.specs.declared.item.HostItem.{HostItem}
use Rattle.pv_folder.specs.Lists.{all_before, comes_before, is_ordered}

abbrev named : HostItem → List ℕ
named x = x.name

abbrev lower : List ℕ → List ℕ → Bool
lower a b = is_lt (name_cmp a b)

pub is_ordered-push : (xs : List HostItem) (y : HostItem) → is_ordered xs ≡ true → all_before xs y ≡ true → is_ordered (xs ++ y ∷ []) ≡ true
is_ordered-push = ordered.is_ordered-push named lower before_trans before_asym before_same

-- what comes after the last item comes after all
pub last_decides : (xs : List HostItem) (last y : HostItem) → 1 ≤ length xs → last ≡ get_or xs (length xs - 1) last → is_ordered xs ≡ true → comes_before last y ≡ all_before xs y
last_decides [] last y some at o = absurd (omega arith)
last_decides (x ∷ []) last y some at o = ap (λ (v : HostItem). comes_before v y) at ∙ alone (comes_before x y)
  where
    alone : (b : Bool) → b ≡ (b && true)
    alone true = refl
    alone false = refl
last_decides (x ∷ z ∷ xs) last y some at o =
    let parts = and_parts (list_all (comes_before x) (z ∷ xs)) (is_ordered (z ∷ xs)) o in
    let first = and_parts (comes_before x z) (list_all (comes_before x) xs) parts.0 in
    let less : length (x ∷ z ∷ xs) - 1 ≡ suc (length (z ∷ xs) - 1) = omega arith in
    last_decides (z ∷ xs) last y (omega arith) (at ∙ ap (λ i. get_or (x ∷ z ∷ xs) i last) less) parts.1 ∙ by (comes_before z y) refl first.0
  where
    nothing : (b : Bool) → false ≡ (b && false)
    nothing true = refl
    nothing false = refl

    by : (b : Bool) → comes_before z y ≡ b → comes_before x z ≡ true → (b && all_before xs y) ≡ (comes_before x y && (b && all_before xs y))
    by true e h = ap (λ (v : Bool). v && all_before xs y) (sym (before_trans x.name z.name y.name h e))
    by false e h = nothing (comes_before x y)
