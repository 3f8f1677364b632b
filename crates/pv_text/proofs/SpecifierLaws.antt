-- Specifiers, expanded one after the other.
use Rattle.std.proofs.Common.{◌≡◌, ℕ, ◌<◌, ◌≤◌, List, [], ◌∷◌, ◌++◌, length, get_or, Result, Ok, Err, append_assoc, append-nil, refl, sym, subst, ap, ◌∙◌, arith, ne_eqb, eq-eqb}
use Rattle.std.proofs.lemmas.List.{take_rest}
use Rattle.pv_text.specs.Facts.{Values}
use Rattle.pv_text.specs.declared.tool.Tool.{Tool}
use Rattle.pv_text.specs.declared.text_fault.ExpandFault.{ExpandFault}
use Rattle.pv_text.specs.declared.text_fault.ExpandFault.TheVariants.{UnknownSpecifier, MissingFact, Memory}
use Rattle.pv_text.specs.Specifiers.{FailsSo, expanded, joined, meaning_of}
use Rattle.pv_text.proofs.EscapeLaws.{after_first}

joined_assoc : (a b : List ℕ) (r : Result (List ℕ) ExpandFault) → joined (Ok a) (joined (Ok b) r) ≡ joined (Ok (a ++ b)) r
joined_assoc a b (Ok c) = ap Ok (sym (append_assoc a b c))
joined_assoc a b (Err fault) = refl

plain : (tool : Tool) (facts : Values) (b : ℕ) (after : List ℕ) → (b ≡ 37 → ⊥) → expanded tool facts (b ∷ after) ≡ joined (Ok (b ∷ [])) (expanded tool facts after)
plain tool facts b [] other = rw (ne_eqb b 37 other) refl
plain tool facts b (c ∷ after) other = rw (ne_eqb b 37 other) refl

special : (tool : Tool) (facts : Values) (b letter : ℕ) (after : List ℕ) → b ≡ 37 → expanded tool facts (b ∷ letter ∷ after) ≡ joined (meaning_of tool facts letter) (expanded tool facts after)
special tool facts b letter after is = rw (eq-eqb b 37 is) refl

-- the turns of the loop, on slices
pub plain_turn : (tool : Tool) (facts : Values) (text written rest : List ℕ) → 1 ≤ length rest → expanded tool facts text ≡ joined (Ok written) (expanded tool facts rest)
    → (get_or rest 0 0 ≡ 37 → ⊥) → expanded tool facts text ≡ joined (Ok (written ++ get_or rest 0 0 ∷ [])) (expanded tool facts (after_first rest))
plain_turn tool facts text written [] some is other = absurd (omega (arith, some))
plain_turn tool facts text written (b ∷ after) some is other =
    is ∙ ap (joined (Ok written)) (plain tool facts b after other) ∙ joined_assoc written (b ∷ []) (expanded tool facts after)
    ∙ ap (λ (a : List ℕ). joined (Ok (written ++ b ∷ [])) (expanded tool facts a)) (sym (take_rest (b ∷ after) 1))

pub special_turn : (tool : Tool) (facts : Values) (text written rest value : List ℕ) → 1 ≤ length rest → expanded tool facts text ≡ joined (Ok written) (expanded tool facts rest)
    → get_or rest 0 0 ≡ 37 → 1 ≤ length (after_first rest) → meaning_of tool facts (get_or (after_first rest) 0 0) ≡ Ok value
    → expanded tool facts text ≡ joined (Ok (written ++ value)) (expanded tool facts (after_first (after_first rest)))
special_turn tool facts text written [] value some is sign more means = absurd (omega (arith, some))
special_turn tool facts text written (b ∷ []) value some is sign more means = absurd (omega (arith, more))
special_turn tool facts text written (b ∷ letter ∷ after) value some is sign more means =
    let rest = take_rest (b ∷ letter ∷ after) 1 in
    let there : after_first (after_first (b ∷ letter ∷ after)) ≡ after = ap after_first rest ∙ take_rest (letter ∷ after) 1 in
    let value_is : meaning_of tool facts letter ≡ Ok value = subst (λ (a : List ℕ). meaning_of tool facts (get_or a 0 0) ≡ Ok value) rest means in
    is ∙ ap (joined (Ok written)) (special tool facts b letter after sign ∙ ap (λ m. joined m (expanded tool facts after)) value_is)
    ∙ joined_assoc written value (expanded tool facts after)
    ∙ ap (λ (a : List ℕ). joined (Ok (written ++ value)) (expanded tool facts a)) (sym there)

-- a specifier that stands for nothing is the fault of the text
pub faulty_turn : (tool : Tool) (facts : Values) (text written rest : List ℕ) (fault : ExpandFault) → 1 ≤ length rest → expanded tool facts text ≡ joined (Ok written) (expanded tool facts rest)
    → get_or rest 0 0 ≡ 37 → 1 ≤ length (after_first rest) → meaning_of tool facts (get_or (after_first rest) 0 0) ≡ Err fault
    → expanded tool facts text ≡ Err fault
faulty_turn tool facts text written [] fault some is sign more means = absurd (omega (arith, some))
faulty_turn tool facts text written (b ∷ []) fault some is sign more means = absurd (omega (arith, more))
faulty_turn tool facts text written (b ∷ letter ∷ after) fault some is sign more means =
    let fault_is : meaning_of tool facts letter ≡ Err fault = subst (λ (a : List ℕ). meaning_of tool facts (get_or a 0 0) ≡ Err fault) (take_rest (b ∷ letter ∷ after) 1) means in
    is ∙ ap (joined (Ok written)) (special tool facts b letter after sign ∙ ap (λ m. joined m (expanded tool facts after)) fault_is)

pub fails_so : (fault : ExpandFault) (read : Result (List ℕ) ExpandFault) → read ≡ Err fault → FailsSo fault read
fails_so UnknownSpecifier read is = is
fails_so MissingFact read is = is
fails_so Memory read is = tt

cut : (tool : Tool) (facts : Values) (b : ℕ) → b ≡ 37 → expanded tool facts (b ∷ []) ≡ Err UnknownSpecifier
cut tool facts b is = rw (eq-eqb b 37 is) refl

-- so is a percent sign at the end
pub cut_turn : (tool : Tool) (facts : Values) (text written rest : List ℕ) → 1 ≤ length rest → expanded tool facts text ≡ joined (Ok written) (expanded tool facts rest)
    → get_or rest 0 0 ≡ 37 → length (after_first rest) < 1 → expanded tool facts text ≡ Err UnknownSpecifier
cut_turn tool facts text written [] some is sign short = absurd (omega (arith, some))
cut_turn tool facts text written (b ∷ []) some is sign short = is ∙ ap (joined (Ok written)) (cut tool facts b sign)
cut_turn tool facts text written (b ∷ letter ∷ after) some is sign short =
    let size : length (after_first (b ∷ letter ∷ after)) ≡ length (letter ∷ after) = ap length (take_rest (b ∷ letter ∷ after) 1) in
    absurd (omega (arith, size, short))

-- where nothing is left, what is written is the whole
pub whole_turn : (tool : Tool) (facts : Values) (text written rest : List ℕ) → length rest < 1 → expanded tool facts text ≡ joined (Ok written) (expanded tool facts rest)
    → expanded tool facts text ≡ Ok written
whole_turn tool facts text written [] less is = is ∙ ap Ok (append-nil written)
whole_turn tool facts text written (b ∷ after) less is = absurd (omega (arith, less))
