-- Bytes that nothing tells apart lead to the same place.
use Rattle.std.proofs.Common.{◌≡◌, ◌≢◌, ◌⊎◌, inl, inr, ℕ, ◌+◌, ◌<◌, slice_index_or, Bool, true, false, ◌&&◌, List, length, Option, Some, None, refl, sym, ap, ◌∙◌, arith, if◌then◌else◌}
use Rattle.std.proofs.lemmas.Bool.Decides.{nat_tests}
use Rattle.std.proofs.lemmas.List.{get_or_default}
use Rattle.pv_glob.specs.declared.element.Element.{Element}
use Rattle.pv_glob.specs.declared.element.Element.TheVariants.{Byte, Any}
use Rattle.pv_glob.specs.declared.beginning.Beginning.{Beginning}
use Rattle.pv_glob.specs.Pairs.{beginning_after, behind, element_at, is_nothing, may_follow, number_of, takes, target}

-- a written byte takes no other one
other_byte : (x c : ℕ) → c ≢ x → (first : Bool) → takes (Byte x) first c ≡ false
other_byte x c differ first = grind (arith, nat_tests)

module _ (a b : List Element) (begun : Beginning) (i j : ℕ) where
  abbrev leads : Beginning → Bool → Option ℕ
  leads next x = if x then Some (number_of (length b + 1) (record { left = behind a i; right = behind b j; begun = next })) else None

  -- all bytes but a written one lead nowhere
  pub target_beside : (x c : ℕ) → ((element_at a i ≡ Byte x) ⊎ (element_at b j ≡ Byte x)) → c ≢ x → target a b begun i j c ≡ None
  target_beside x c (inl e) differ = ap (leads (beginning_after begun c)) (by (may_follow begun c) (takes (element_at b j) (is_nothing begun) c))
    where
      none : takes (element_at a i) (is_nothing begun) c ≡ false
      none = ap (λ (element : Element). takes element (is_nothing begun) c) e ∙ other_byte x c differ (is_nothing begun)

      by : (f r : Bool) → (f && takes (element_at a i) (is_nothing begun) c && r) ≡ false
      by true r = rw none refl
      by false r = refl
  target_beside x c (inr e) differ = ap (leads (beginning_after begun c)) (by (may_follow begun c) (takes (element_at a i) (is_nothing begun) c))
    where
      none : takes (element_at b j) (is_nothing begun) c ≡ false
      none = ap (λ (element : Element). takes element (is_nothing begun) c) e ∙ other_byte x c differ (is_nothing begun)

      by : (f l : Bool) → (f && l && takes (element_at b j) (is_nothing begun) c) ≡ false
      by true true = none
      by true false = refl
      by false l = refl

  pub beside_alike : (x c d : ℕ) → ((element_at a i ≡ Byte x) ⊎ (element_at b j ≡ Byte x)) → ((c ≡ d) ⊎ ((c ≢ x) × (d ≢ x))) → target a b begun i j c ≡ target a b begun i j d
  beside_alike x c d is (inl e) = ap (target a b begun i j) e
  beside_alike x c d is (inr differ) = target_beside x c is differ.0 ∙ sym (target_beside x d is differ.1)

-- the elements that were read
pub written_there : (a b : List Element) (i j x : ℕ) (d e : Element) → i < length a → j < length b → ((slice_index_or a i d ≡ Byte x) ⊎ (slice_index_or b j e ≡ Byte x))
    → (element_at a i ≡ Byte x) ⊎ (element_at b j ≡ Byte x)
written_there a b i j x d e left right (inl is) = inl (get_or_default a i Any d left ∙ is)
written_there a b i j x d e left right (inr is) = inr (get_or_default b j Any e right ∙ is)
