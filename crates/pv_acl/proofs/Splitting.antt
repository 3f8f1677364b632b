-- Texts between bytes, and what the text of a permission or of an ID reads as.
use Rattle.std.proofs.Common.{◌≡◌, ℕ, ◌<◌, ◌≤◌, zero, suc, Bool, true, not, ◌==◌, List, [], ◌∷◌, ◌++◌, Some, refl, ap, ◌∙◌, arith, ◌^◌, ◌⊎◌}
use Rattle.std.specs.List.{list_all, slice_split, onto_first, join_with_byte}
use Rattle.std.specs.Fmt.{decimal}
use Rattle.std.specs.Str.Parse.{AllDigits}
use Rattle.std.proofs.lemmas.Bool.Decides.{nat_tests}
use Rattle.std.proofs.lemmas.List.Splits.{slice_split-cons_no, slice_split-cons_yes}
use Rattle.std.proofs.lemmas.Fmt.{decimal_is_IsNumeral}
use Rattle.std.proofs.lemmas.Str.Parse.{digit_from_value}
use Rattle.std.proofs.lemmas.Bool.{and_parts, not-true}
use Rattle.pv_acl.specs.NamedEntries.{is_perm}
use Rattle.pv_acl.specs.Texts.{perm_text}
use Rattle.pv_acl.specs.Entries.{perm_of}
use Rattle.pv_path.proofs.Tests.{same_number}

-- whether a byte stands nowhere in a text
abbrev pub lacks : ℕ → List ℕ → Bool
lacks c text = list_all (λ b. not (b == c)) text

pub split_none : (c : ℕ) (xs : List ℕ) → lacks c xs ≡ true → slice_split (λ b. b == c) xs ≡ xs ∷ []
split_none c [] h = refl
split_none c (x ∷ xs) h =
    let parts = and_parts (not (x == c)) (lacks c xs) h in
    slice_split-cons_no (λ b. b == c) x xs (not-true (x == c) parts.0) ∙ ap (onto_first x) (split_none c xs parts.1)

pub split_at : (c : ℕ) (xs ys : List ℕ) → lacks c xs ≡ true → slice_split (λ b. b == c) (xs ++ c ∷ ys) ≡ xs ∷ slice_split (λ b. b == c) ys
split_at c [] ys h = slice_split-cons_yes (λ b. b == c) c ys (same_number c)
split_at c (x ∷ xs) ys h =
    let parts = and_parts (not (x == c)) (lacks c xs) h in
    slice_split-cons_no (λ b. b == c) x (xs ++ c ∷ ys) (not-true (x == c) parts.0) ∙ ap (onto_first x) (split_at c xs ys parts.1)

-- joined texts without the byte come apart again
pub split_join : (t : List ℕ) (ts : List (List ℕ)) → list_all (lacks 44) (t ∷ ts) ≡ true → slice_split (λ b. b == 44) (join_with_byte 44 (t ∷ ts)) ≡ t ∷ ts
split_join t [] h = let parts = and_parts (lacks 44 t) true h in split_none 44 t parts.0
split_join t (u ∷ us) h =
    let parts = and_parts (lacks 44 t) (list_all (lacks 44) (u ∷ us)) h in
    split_at 44 t (join_with_byte 44 (u ∷ us)) parts.0 ∙ ap (λ (ts : List (List ℕ)). t ∷ ts) (split_join u us parts.1)

-- a fact of each permission
pub each_perm : (P : ℕ → Type 0) → P 0 → P 1 → P 2 → P 3 → P 4 → P 5 → P 6 → P 7 → (p : ℕ) → is_perm p ≡ true → P p
each_perm P p0 p1 p2 p3 p4 p5 p6 p7 zero h = p0
each_perm P p0 p1 p2 p3 p4 p5 p6 p7 (suc zero) h = p1
each_perm P p0 p1 p2 p3 p4 p5 p6 p7 (suc (suc zero)) h = p2
each_perm P p0 p1 p2 p3 p4 p5 p6 p7 (suc (suc (suc zero))) h = p3
each_perm P p0 p1 p2 p3 p4 p5 p6 p7 (suc (suc (suc (suc zero)))) h = p4
each_perm P p0 p1 p2 p3 p4 p5 p6 p7 (suc (suc (suc (suc (suc zero))))) h = p5
each_perm P p0 p1 p2 p3 p4 p5 p6 p7 (suc (suc (suc (suc (suc (suc zero)))))) h = p6
each_perm P p0 p1 p2 p3 p4 p5 p6 p7 (suc (suc (suc (suc (suc (suc (suc zero))))))) h = p7
each_perm P p0 p1 p2 p3 p4 p5 p6 p7 (suc (suc (suc (suc (suc (suc (suc (suc n)))))))) h = absurd (too_high n h)
  where
    too_high : (n : ℕ) → is_perm (suc (suc (suc (suc (suc (suc (suc (suc n)))))))) ≡ true → ⊥
    too_high n h = grind (arith, nat_tests)

pub perm_of-perm_text : (p : ℕ) → is_perm p ≡ true → perm_of (perm_text p) ≡ Some p
perm_of-perm_text = each_perm (λ p. perm_of (perm_text p) ≡ Some p) refl refl refl refl refl refl refl refl

pub no_comma-perm_text : (p : ℕ) → is_perm p ≡ true → lacks 44 (perm_text p) ≡ true
no_comma-perm_text = each_perm (λ p. lacks 44 (perm_text p) ≡ true) refl refl refl refl refl refl refl refl

pub no_colon-perm_text : (p : ℕ) → is_perm p ≡ true → lacks 58 (perm_text p) ≡ true
no_colon-perm_text = each_perm (λ p. lacks 58 (perm_text p) ≡ true) refl refl refl refl refl refl refl refl

apart : (d c : ℕ) → 48 ≤ d → d ≤ 57 → 57 < c ⊎ c < 48 → not (d == c) ≡ true
apart d c low high far = grind (arith, nat_tests)

-- the digits of an ID lack a byte that is no digit
pub lacks-digits : (c : ℕ) (ds : List ℕ) → 57 < c ⊎ c < 48 → AllDigits 10 ds → lacks c ds ≡ true
lacks-digits c [] far all = refl
lacks-digits c (d ∷ ds) far all =
    let near = digit_from_value d all.0 in
    rw (apart d c near.0 near.1 far) (lacks-digits c ds far all.1)

pub lacks-decimal : (c n : ℕ) → 57 < c ⊎ c < 48 → n < 2 ^ 64 → lacks c (decimal n) ≡ true
lacks-decimal c n far small = lacks-digits c (decimal n) far (decimal_is_IsNumeral n small).0.1
