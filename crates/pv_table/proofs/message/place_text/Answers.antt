use Rattle.std.proofs.Common.{◌≡◌, ℕ, List, ◌++◌, ap, ◌∙◌}
use Rattle.pv_table.proofs.message.place_text.Goals as goal

-- five texts one after the other
five : (a b p q r t n1 d n2 n3 w n4 : List ℕ) → t ≡ a → n1 ≡ t ++ b → d ≡ p → n2 ≡ n1 ++ d → n3 ≡ n2 ++ q → w ≡ r → n4 ≡ n3 ++ w → n4 ≡ a ++ b ++ p ++ q ++ r
five a b p q r t n1 d n2 n3 w n4 first one second two three last four =
    four ∙ (λ i. (three ∙ (λ j. (two ∙ (λ l. (one ∙ ap (λ x. x ++ b) first) l ++ second l)) j ++ q)) i ++ last i)

pub returns : goal.returns
returns c =
    five _ _ _ _ _ _ _ _ _ _ _ _ c.in_ok-text.ensures c.in_ok-extend_from_slice.ensures.items (c.deref.ensures.value ∙ c.in_ok-place.ensures)
    c.in_ok-extend_from_slice-2.ensures.items c.in_ok-extend_from_slice-3.ensures.items c.why_text.ensures c.in_ok-extend_from_slice-4.ensures.items
