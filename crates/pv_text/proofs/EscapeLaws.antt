-- Escapes, read one after the other.
use Rattle.std.proofs.Common.{◌≡◌, ℕ, zero, suc, ◌+◌, ◌-◌, ◌≤◌, List, [], ◌∷◌, take, drop, length, get_or, Option, Some, None, refl, sym, subst, ap, ◌∙◌, arith}
use Rattle.std.proofs.lemmas.List.{take_rest, length-drop}
use Rattle.pv_text.specs.Escapes.{unit_of, bad_escape, undone, HasGoodEscapes, unescaped}

undone_past : (taken : ℕ) (bytes : List ℕ) → undone taken bytes ≡ unescaped (drop taken bytes)
undone_past zero bytes = refl
undone_past (suc taken) [] = refl
undone_past (suc taken) (b ∷ bytes) = undone_past taken bytes

bad_past : (taken at : ℕ) (bytes : List ℕ) → bad_escape taken at bytes ≡ bad_escape 0 (at + taken) (drop taken bytes)
bad_past zero at bytes = let same : at ≡ at + 0 = omega arith in ap (λ n. bad_escape 0 n bytes) same
bad_past (suc taken) at [] = refl
bad_past (suc taken) at (b ∷ bytes) =
    let same : at + 1 + taken ≡ at + suc taken = omega arith in
    bad_past taken (at + 1) bytes ∙ ap (λ n. bad_escape 0 n (drop taken bytes)) same

-- past one unit of a text
pub bad_step : (b : ℕ) (after : List ℕ) (u : ℕ × ℕ) (at : ℕ) → unit_of b after ≡ Some u → bad_escape 0 at (b ∷ after) ≡ bad_escape 0 (at + 1 + u.1) (drop u.1 after)
bad_step b after u at is = rw is (bad_past u.1 (at + 1) after)

pub bad_here : (b : ℕ) (after : List ℕ) (at : ℕ) → unit_of b after ≡ None → bad_escape 0 at (b ∷ after) ≡ Some at
bad_here b after at is = rw is refl

pub undone_step : (b : ℕ) (after : List ℕ) (u : ℕ × ℕ) → unit_of b after ≡ Some u → unescaped (b ∷ after) ≡ u.0 ∷ unescaped (drop u.1 after)
undone_step b after u is = rw is (ap (λ rest. u.0 ∷ rest) (undone_past u.1 after))

-- what stands in a text after its first byte, and the object there after some bytes more, as slices give it
abbrev pub after_first : List ℕ → List ℕ
after_first rest = take (length rest - 1) (drop 1 rest)

abbrev pub after_unit : ℕ → List ℕ → List ℕ
after_unit taken rest = take (length (after_first rest) - taken) (drop taken (after_first rest))

after_is : (taken b : ℕ) (after : List ℕ) → after_unit taken (b ∷ after) ≡ drop taken after
after_is taken b after = take_rest (after_first (b ∷ after)) taken ∙ ap (drop taken) (take_rest (b ∷ after) 1)

-- a turn of the loops over the units
pub bad_turn : (text rest : List ℕ) (begin v taken : ℕ) → 1 ≤ length rest → length rest ≤ length text → bad_escape 0 begin text ≡ bad_escape 0 (begin + (length text - length rest)) rest
    → unit_of (get_or rest 0 0) (after_first rest) ≡ Some (v, taken) → taken ≤ length (after_first rest)
    → (length (after_unit taken rest) ≤ length text) × (bad_escape 0 begin text ≡ bad_escape 0 (begin + (length text - length (after_unit taken rest))) (after_unit taken rest))
bad_turn text [] begin v taken some within is unit fits = absurd (omega (arith, some))
bad_turn text (b ∷ after) begin v taken some within is unit fits =
    let rest = take_rest (b ∷ after) 1 in
    let is_unit : unit_of b after ≡ Some (v, taken) = subst (λ (a : List ℕ). unit_of b a ≡ Some (v, taken)) rest unit in
    let fits_there : taken ≤ length after = subst (λ (a : List ℕ). taken ≤ length a) rest fits in
    let long : length (after_unit taken (b ∷ after)) ≡ length after - taken = ap length (after_is taken b after) ∙ length-drop taken after in
    let at : begin + (length text - length (b ∷ after)) + 1 + taken ≡ begin + (length text - length (after_unit taken (b ∷ after))) = omega (arith, long, within, fits_there) in (
      omega (arith, long, within),
      is ∙ bad_step b after (v, taken) _ is_unit ∙ (λ i. bad_escape 0 (at i) (sym (after_is taken b after) i)),
    )

into_unit : (b : ℕ) (after : List ℕ) (u : ℕ × ℕ) (at : ℕ) → unit_of b after ≡ Some u → bad_escape 0 at (b ∷ after) ≡ bad_escape u.1 (at + 1) after
into_unit b after u at is = rw is refl

-- whether a text has a bad escape does not depend on where it begins
pub good_anywhere : (taken at there : ℕ) (bytes : List ℕ) → bad_escape taken at bytes ≡ None → bad_escape taken there bytes ≡ None
good_anywhere taken at there [] good = refl
good_anywhere (suc taken) at there (b ∷ bytes) good = good_anywhere taken (at + 1) (there + 1) bytes good
good_anywhere zero at there (b ∷ bytes) good = by (unit_of b bytes) refl (λ taken at there. good_anywhere taken at there bytes)
  where
    by : (o : Option (ℕ × ℕ)) → unit_of b bytes ≡ o → ((taken at there : ℕ) → bad_escape taken at bytes ≡ None → bad_escape taken there bytes ≡ None) → bad_escape 0 there (b ∷ bytes) ≡ None
    by None is rest = let here : bad_escape 0 at (b ∷ bytes) ≡ Some at = bad_here b bytes at is in cc
    by (Some u) is rest = into_unit b bytes u there is ∙ rest u.1 (at + 1) (there + 1) (sym (into_unit b bytes u at is) ∙ good)

pub undone_turn : (rest : List ℕ) (v taken : ℕ) → 1 ≤ length rest → HasGoodEscapes rest
    → unit_of (get_or rest 0 0) (after_first rest) ≡ Some (v, taken)
    → HasGoodEscapes (after_unit taken rest) × (unescaped rest ≡ v ∷ unescaped (after_unit taken rest))
undone_turn [] v taken some good unit = absurd (omega (arith, some))
undone_turn (b ∷ after) v taken some good unit =
    let is_unit : unit_of b after ≡ Some (v, taken) = subst (λ (a : List ℕ). unit_of b a ≡ Some (v, taken)) (take_rest (b ∷ after) 1) unit in
    let rest = after_is taken b after in (
      subst HasGoodEscapes (sym rest) (good_anywhere 0 (0 + 1 + taken) 0 (drop taken after) (sym (bad_step b after (v, taken) 0 is_unit) ∙ good)),
      undone_step b after (v, taken) is_unit ∙ ap (λ (a : List ℕ). v ∷ unescaped a) (sym rest),
    )
