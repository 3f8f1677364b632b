-- Components whose bytes differ match no name together.
use Rattle.std.proofs.Common.{◌≡◌, ℕ, Bool, true, false, not, List, [], ◌∷◌, refl, sym, ◌∙◌}
use Rattle.std.specs.List.{list_any}
use Rattle.pv_glob.specs.declared.element.Element.{Element}
use Rattle.pv_glob.specs.declared.element.Element.TheVariants.{Byte, Any, Many, OneOf}
use Rattle.pv_glob.specs.Matching.{name_matches}
use Rattle.pv_glob.specs.Pairs.{is_many}

-- no name is matched by both, whether its period hides it or not
abbrev pub Disjoint : List Element → List Element → Type 0
Disjoint a b = (first : Bool) (name : List ℕ) → name_matches a first name ≡ true → name_matches b first name ≡ false

abbrev Never : Type 0
Never = ◌≡◌ {A = Bool} false true

-- what needs a byte does not match nothing
pub needs_one : (elements : List Element) (first : Bool) → list_any (λ element. not (is_many element)) elements ≡ true → name_matches elements first [] ≡ false
needs_one [] first e = sym e
needs_one (Byte c ∷ elements) first e = refl
needs_one (Any ∷ elements) first e = refl
needs_one (OneOf set ∷ elements) first e = refl
needs_one (Many ∷ elements) first e = needs_one elements first e

pub disjoint_left : (elements : List Element) → list_any (λ element. not (is_many element)) elements ≡ true → Disjoint [] elements
disjoint_left elements e first [] m = needs_one elements first e
disjoint_left elements e first (x ∷ name) m = absurd (let differ : Never = m in cc)

pub disjoint_right : (elements : List Element) → list_any (λ element. not (is_many element)) elements ≡ true → Disjoint elements []
disjoint_right elements e first [] m = absurd (let differ : Never = sym (needs_one elements first e) ∙ m in cc)
disjoint_right elements e first (x ∷ name) m = refl
