-- The heads of names: where they differ they are in the order of the names, and a head that ends in a zero byte is that
-- of one name alone.
use Rattle.std.proofs.Common.{◌≡◌, ◌≢◌, ℕ, Bool, false, suc, zero, ◌+◌, ◌*◌, ◌%◌, ◌<◌, ◌≤◌, List, [], ◌∷◌, length, true, refl, sym, ap, subst, ◌∙◌, arith}
use Rattle.std.proofs.lemmas.Bool.Decides.{nat_tests}
use Rattle.std.proofs.lemmas.Cmp.{ranked}
use Rattle.std.specs.List.{list_all}
use Rattle.std.specs.Bool.{⊤}
use Rattle.std.specs.Ordering.{nat_cmp, ordering_reverse, MatchOrdering}
use Rattle.std.specs.Cmp.Lexicographic.{nat_list_cmp_total}
use Rattle.std.specs.declared.cmp.Ordering.{Ordering}
use Rattle.std.specs.declared.cmp.Ordering.TheVariants.{Less, Equal, Greater}
use Rattle.std.proofs.lemmas.Bool.{and_parts}
use Rattle.pv_path.specs.Heads.{head_of}
use Rattle.pv_path.specs.Names.{is_name, is_name_byte, name_cmp, same_bytes}
use Rattle.pv_path.proofs.PathLaws.{is_name-parts, name_cmp-exact, same_bytes-decides}

-- bytes of a name: no NUL is among them
abbrev Plain : List ℕ → Type 0
Plain [] = ⊤
Plain (x ∷ xs) = (0 < x) × (x < 256) × Plain xs

plain_byte : (x : ℕ) → is_name_byte x ≡ true → (0 < x) × (x < 256)
plain_byte x e = (grind (arith, nat_tests), grind (arith, nat_tests))

plain_bytes : (xs : List ℕ) → list_all is_name_byte xs ≡ true → Plain xs
plain_bytes [] e = tt
plain_bytes (x ∷ xs) e =
    let both = and_parts (is_name_byte x) (list_all is_name_byte xs) e in
    let byte = plain_byte x both.0 in
    (byte.0, byte.1, plain_bytes xs both.1)

plain : (xs : List ℕ) → is_name xs ≡ true → Plain xs
plain xs e = plain_bytes xs (is_name-parts xs e).2

-- n bytes, with zeros past the end, after bytes that make the number a
abbrev joined : ℕ → List ℕ → ℕ → ℕ
joined zero xs a = a
joined (suc n) [] a = joined n [] (a * 256)
joined (suc n) (x ∷ xs) a = joined n xs (a * 256 + x)

head_is : (xs : List ℕ) → head_of xs ≡ joined 8 xs 0
head_is [] = omega arith
head_is (a ∷ []) = omega arith
head_is (a ∷ b ∷ []) = omega arith
head_is (a ∷ b ∷ c ∷ []) = omega arith
head_is (a ∷ b ∷ c ∷ d ∷ []) = omega arith
head_is (a ∷ b ∷ c ∷ d ∷ e ∷ []) = omega arith
head_is (a ∷ b ∷ c ∷ d ∷ e ∷ f ∷ []) = omega arith
head_is (a ∷ b ∷ c ∷ d ∷ e ∷ f ∷ g ∷ []) = omega arith
head_is (a ∷ b ∷ c ∷ d ∷ e ∷ f ∷ g ∷ h ∷ xs) = omega arith

-- what differs stays so, whatever comes after
apart : (n : ℕ) (xs ys : List ℕ) (a b : ℕ) → Plain xs → a < b → joined n xs a < joined n ys b
apart zero xs ys a b s h = h
apart (suc n) [] [] a b s h = apart n [] [] (a * 256) (b * 256) tt (omega arith)
apart (suc n) [] (y ∷ ys) a b s h = apart n [] ys (a * 256) (b * 256 + y) tt (omega arith)
apart (suc n) (x ∷ xs) [] a b s h = apart n xs [] (a * 256 + x) (b * 256) s.2 (omega (arith, s.1, h))
apart (suc n) (x ∷ xs) (y ∷ ys) a b s h = apart n xs ys (a * 256 + x) (b * 256 + y) s.2 (omega (arith, s.1, h))

joined_less : (n : ℕ) (xs ys : List ℕ) (a : ℕ) → Plain xs → Plain ys → joined n xs a < joined n ys a → name_cmp xs ys ≡ Less
joined_less zero xs ys a s t h = absurd (omega (arith, h))
joined_less (suc n) [] [] a s t h = absurd (omega (arith, h))
joined_less (suc n) [] (y ∷ ys) a s t h = refl
joined_less (suc n) (x ∷ xs) [] a s t h =
    let back = apart n [] xs (a * 256) (a * 256 + x) tt (omega (arith, s.0)) in
    absurd (omega (arith, h, back))
joined_less (suc n) (x ∷ xs) (y ∷ ys) a s t h = by_order (nat_cmp x y) refl (ranked x y (nat_cmp x y) refl) (joined_less n xs ys (a * 256 + x) s.2 t.2)
  where
    by_order : (o : Ordering) → nat_cmp x y ≡ o → MatchOrdering o (x < y) (x ≡ y) (y < x) → (joined n xs (a * 256 + x) < joined n ys (a * 256 + x) → name_cmp xs ys ≡ Less) → name_cmp (x ∷ xs) (y ∷ ys) ≡ Less
    by_order Less is r rest = rw is
    by_order Equal is r rest = rw is (rest (subst (λ v. joined n xs (a * 256 + x) < joined n ys (a * 256 + v)) (sym r) h))
    by_order Greater is r rest =
        let back = apart n ys xs (a * 256 + y) (a * 256 + x) t.2 (omega (arith, r)) in
        absurd (omega (arith, h, back))

joined_same : (n : ℕ) (xs ys : List ℕ) (a : ℕ) → Plain xs → Plain ys → length xs ≤ n → length ys ≤ n → joined n xs a ≡ joined n ys a → name_cmp xs ys ≡ Equal
joined_same zero [] [] a s t k l h = refl
joined_same zero [] (y ∷ ys) a s t k l h = absurd (omega (arith, l))
joined_same zero (x ∷ xs) ys a s t k l h = absurd (omega (arith, k))
joined_same (suc n) [] [] a s t k l h = refl
joined_same (suc n) [] (y ∷ ys) a s t k l h =
    let less = apart n [] ys (a * 256) (a * 256 + y) tt (omega (arith, t.0)) in
    absurd (omega (arith, h, less))
joined_same (suc n) (x ∷ xs) [] a s t k l h =
    let less = apart n [] xs (a * 256) (a * 256 + x) tt (omega (arith, s.0)) in
    absurd (omega (arith, h, less))
joined_same (suc n) (x ∷ xs) (y ∷ ys) a s t k l h = by_order (nat_cmp x y) refl (ranked x y (nat_cmp x y) refl) (joined_same n xs ys (a * 256 + x) s.2 t.2 (omega (arith, k)) (omega (arith, l)))
  where
    by_order : (o : Ordering) → nat_cmp x y ≡ o → MatchOrdering o (x < y) (x ≡ y) (y < x) → (joined n xs (a * 256 + x) ≡ joined n ys (a * 256 + x) → name_cmp xs ys ≡ Equal) → name_cmp (x ∷ xs) (y ∷ ys) ≡ Equal
    by_order Less is r rest =
        let less = apart n xs ys (a * 256 + x) (a * 256 + y) s.2 (omega (arith, r)) in
        absurd (omega (arith, h, less))
    by_order Equal is r rest = rw is (rest (subst (λ v. joined n xs (a * 256 + x) ≡ joined n ys (a * 256 + v)) (sym r) h))
    by_order Greater is r rest =
        let less = apart n ys xs (a * 256 + y) (a * 256 + x) t.2 (omega (arith, r)) in
        absurd (omega (arith, h, less))

-- a last byte that is zero lies past the end
ends : (n : ℕ) (xs : List ℕ) (a : ℕ) → Plain xs → joined (suc n) xs a % 256 ≡ 0 → length xs ≤ n
ends zero [] a s h = omega arith
ends zero (x ∷ xs) a s h = absurd (omega (arith, s.0, s.1, h))
ends (suc n) [] a s h = omega arith
ends (suc n) (x ∷ xs) a s h = omega (arith, ends n xs (a * 256 + x) s.2 h)

-- ---- what the heads of two names tell of their order

less_of_heads : (xs ys : List ℕ) → is_name xs ≡ true → is_name ys ≡ true → head_of xs < head_of ys → name_cmp xs ys ≡ Less
less_of_heads xs ys s t h = joined_less 8 xs ys 0 (plain xs s) (plain ys t) (omega (arith, h, head_is xs, head_is ys))

equal_of_heads : (xs ys : List ℕ) → is_name xs ≡ true → is_name ys ≡ true → head_of xs ≡ head_of ys → head_of xs % 256 ≡ 0 → name_cmp xs ys ≡ Equal
equal_of_heads xs ys s t h zero_byte =
    let same : joined 8 xs 0 ≡ joined 8 ys 0 = sym (head_is xs) ∙ h ∙ head_is ys in
    let first = ends 7 xs 0 (plain xs s) (ap (λ v. v % 256) (sym (head_is xs)) ∙ zero_byte) in
    let second = ends 7 ys 0 (plain ys t) (ap (λ v. v % 256) (sym (h ∙ head_is ys)) ∙ zero_byte) in
    joined_same 8 xs ys 0 (plain xs s) (plain ys t) (omega (arith, first)) (omega (arith, second)) same

pub told_less : (k l : ℕ) (xs ys : List ℕ) → k ≡ head_of xs → is_name xs ≡ true → l ≡ head_of ys → is_name ys ≡ true → k < l → Less ≡ name_cmp xs ys
told_less k l xs ys one s other t is = sym (less_of_heads xs ys s t (omega (arith, is, one, other)))

pub told_greater : (k l : ℕ) (xs ys : List ℕ) → k ≡ head_of xs → is_name xs ≡ true → l ≡ head_of ys → is_name ys ≡ true → l < k → Greater ≡ name_cmp xs ys
told_greater k l xs ys one s other t is = sym (nat_list_cmp_total.antisymm xs ys ∙ ap ordering_reverse (less_of_heads ys xs t s (omega (arith, is, one, other))))

pub told_equal : (k l : ℕ) (xs ys : List ℕ) → k ≡ head_of xs → is_name xs ≡ true → l ≡ head_of ys → is_name ys ≡ true → l ≤ k → k ≤ l → k % 256 ≡ 0 → Equal ≡ name_cmp xs ys
told_equal k l xs ys one s other t least most short =
    let same : k ≡ l = omega (arith, least, most) in
    sym (equal_of_heads xs ys s t (sym one ∙ same ∙ other) (ap (λ v. v % 256) (sym one) ∙ short))

-- ---- what the heads of two names tell of whether they are the same

-- bytes with different heads differ
pub told_different : (k l : ℕ) (xs ys : List ℕ) → k ≡ head_of xs → l ≡ head_of ys → k ≢ l → false ≡ same_bytes xs ys
told_different k l xs ys one other differ = by_test (same_bytes xs ys) refl
  where
    by_test : (t : Bool) → same_bytes xs ys ≡ t → false ≡ same_bytes xs ys
    by_test true e = absurd (differ (one ∙ ap head_of ((same_bytes-decides xs ys).0 e) ∙ sym other))
    by_test false e = sym e

pub told_same : (k l : ℕ) (xs ys : List ℕ) → k ≡ head_of xs → is_name xs ≡ true → l ≡ head_of ys → is_name ys ≡ true → k ≡ l → k % 256 ≡ 0 → true ≡ same_bytes xs ys
told_same k l xs ys one s other t same short =
    let equal = equal_of_heads xs ys s t (sym one ∙ same ∙ other) (ap (λ v. v % 256) (sym one) ∙ short) in
    sym ((same_bytes-decides xs ys).1 (name_cmp-exact xs ys equal))
