-- A copy of an element is this element.
use Rattle.std.proofs.Common.{◌≡◌, refl, ap, ◌∙◌, rules}
use Rattle.std.proofs.lemmas.List.Elements.{same_from_all_zip}
use Rattle.pv_glob.specs.declared.element.ByteSet.{ByteSet}
use Rattle.pv_glob.specs.declared.element.Element.{Element}
use Rattle.pv_glob.specs.declared.element.Element.TheVariants.{Byte, Any, Many, OneOf}
use Rattle.pv_glob.specs.contracts.element.ElementClone.TheImpl.{by_variants}

same_set : (s t : ByteSet) → t.negated ≡ s.negated → t.ranges ≡ s.ranges → t ≡ s
same_set s t sign ranges = ap (λ n. record { negated = n; ranges = t.ranges }) sign ∙ ap (λ r. record { negated = s.negated; ranges = r }) ranges

pub element_same : (a b : Element) → by_variants a b → b ≡ a
element_same (Byte x) (Byte y) q = search rules
element_same Any Any q = refl
element_same Many Many q = refl
element_same (OneOf s) (OneOf t) q = ap OneOf (same_set s t q.0 (same_from_all_zip _ s.ranges t.ranges q.1 (λ a b r. r)))
element_same a b q = absurd q
