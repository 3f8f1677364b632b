-- No text is the spelling of two values.
use Rattle.std.proofs.Common.{◌≡◌, ℕ, zero, suc, ◌+◌, ◌-◌, ◌*◌, ◌/◌, ◌%◌, ◌<◌, Bool, true, false, not, ◌&&◌, ◌==◌, nat_lt, List, [], ◌∷◌, ◌++◌, length, get_or, replicate, refl, sym, ap, ◌∙◌, subst, arith, if◌then◌else◌}
use Rattle.std.specs.List.{list_all}
use Rattle.std.proofs.lemmas.Bool.{eqb-true, and_parts}
use Rattle.std.proofs.lemmas.Bool.Decides.{nat_tests}
use Rattle.base64.specs.GeneralPurpose.{encode_of}
use Rattle.base64.specs.Engines.{standard}
use Rattle.base64.specs.Rfc4648.{encode_symbols, padding_len}
use Rattle.pv_text.specs.Lines.{lacks}
use Rattle.pv_steps.specs.Attributes.{are_bytes}
use Rattle.pv_image.specs.Spelling.{content_text}
use Rattle.pv_image.proofs.Contents.{byte_below, symbols_all, encoded_no_dash}

-- ---- lists in parts

first_no : (c x : ℕ) (t : List ℕ) → lacks c (x ∷ t) ≡ true → x ≡ c → ⊥
first_no c x t e is =
    let here : not (x == c) ≡ true = (and_parts (not (x == c)) (lacks c t) e).0 in
    let bad : not (c == c) ≡ true = subst (λ (y : ℕ). not (y == c) ≡ true) is here in
    let same : (c == c) ≡ true = grind arith in
    let no : not (c == c) ≡ false = rw same refl in
    cc

-- a text is cut at its first byte of a kind in one way
pub fronts : (c : ℕ) (t u r s : List ℕ) → lacks c t ≡ true → lacks c u ≡ true → t ++ c ∷ r ≡ u ++ c ∷ s → (t ≡ u) × (r ≡ s)
fronts c [] [] r s p q e = (refl, cc)
fronts c [] (y ∷ u) r s p q e = absurd (first_no c y u q (let h : y ≡ c = cc in h))
fronts c (x ∷ t) [] r s p q e = absurd (first_no c x t p (let h : x ≡ c = cc in h))
fronts c (x ∷ t) (y ∷ u) r s p q e =
    let rest : t ++ c ∷ r ≡ u ++ c ∷ s = cc in
    let first : x ≡ y = cc in
    let below = fronts c t u r s (and_parts (not (x == c)) (lacks c t) p).1 (and_parts (not (y == c)) (lacks c u) q).1 rest in
    (let same : t ≡ u = below.0 in cc, below.1)

module _ {A : Type 0} (p : A → Bool) where
  clash : (x y : A) → p x ≡ true → not (p y) ≡ true → x ≡ y → ⊥
  clash x y e f is = let g : p y ≡ true = subst (λ (z : A). p z ≡ true) is e in let bad : not true ≡ true = rw g at f in cc

  -- items that pass a test, and then items that do not, are told apart
  pub parted : (xs ys r s : List A) → list_all p xs ≡ true → list_all p ys ≡ true → list_all (λ x. not (p x)) r ≡ true → list_all (λ x. not (p x)) s ≡ true → xs ++ r ≡ ys ++ s → (xs ≡ ys) × (r ≡ s)
  parted [] [] r s a b c d e = (refl, e)
  parted [] (y ∷ ys) [] s a b c d e = cc
  parted [] (y ∷ ys) (z ∷ r) s a b c d e =
      absurd (clash y z (and_parts (p y) (list_all p ys) b).0 (and_parts (not (p z)) (list_all (λ x. not (p x)) r) c).0 (let h : y ≡ z = cc in h))
  parted (x ∷ xs) [] r [] a b c d e = cc
  parted (x ∷ xs) [] r (z ∷ s) a b c d e =
      absurd (clash x z (and_parts (p x) (list_all p xs) a).0 (and_parts (not (p z)) (list_all (λ y. not (p y)) s) d).0 (let h : x ≡ z = cc in h))
  parted (x ∷ xs) (y ∷ ys) r s a b c d e =
      let rest : xs ++ r ≡ ys ++ s = cc in
      let first : x ≡ y = cc in
      let below = parted xs ys r s (and_parts (p x) (list_all p xs) a).1 (and_parts (p y) (list_all p ys) b).1 c d rest in
      (let same : xs ≡ ys = below.0 in cc, below.1)

-- ---- Base64

abbrev table : List ℕ
table = standard.encode_table

value : ℕ → ℕ
value c =
    if nat_lt c 44 then 62
    else if nat_lt c 48 then 63
    else if nat_lt c 58 then c + 4
    else if nat_lt c 91 then c - 65
    else c - 71

unfoldable pub all_to : (ℕ → Bool) → ℕ → Bool
all_to p zero = true
all_to p (suc n) = p n && all_to p n

pub all_to_is : (p : ℕ → Bool) (n i : ℕ) → all_to p n ≡ true → i < n → p i ≡ true
unfolding all_to
all_to_is p zero i e h = absurd (omega arith)
all_to_is p (suc n) i e h = by_test (i == n) refl (and_parts (p n) (all_to p n) e).0 (all_to_is p n i (and_parts (p n) (all_to p n) e).1)
  where
    by_test : (t : Bool) → (i == n) ≡ t → p n ≡ true → (i < n → p i ≡ true) → p i ≡ true
    by_test true q here below = let same : i ≡ n = eqb-true i n q in rw same here
    by_test false q here below = below (grind (arith, nat_tests))

backs : all_to (λ i. value (get_or table i 0) == i) 64 ≡ true
unfolding all_to value
backs = refl

symbol_once : (i j : ℕ) → i < 64 → j < 64 → get_or table i 0 ≡ get_or table j 0 → i ≡ j
symbol_once i j small fits e =
    let a = eqb-true (value (get_or table i 0)) i (all_to_is (λ k. value (get_or table k 0) == k) 64 i backs small) in
    let b = eqb-true (value (get_or table j 0)) j (all_to_is (λ k. value (get_or table k 0) == k) 64 j backs fits) in
    sym a ∙ ap value e ∙ b

one_byte : (a b : ℕ) → a < 256 → b < 256 → a / 4 ≡ b / 4 → a % 4 * 16 ≡ b % 4 * 16 → a ≡ b
one_byte a b f g p q = omega arith

two_bytes : (a b c d : ℕ) → a < 256 → b < 256 → c < 256 → d < 256 → a / 4 ≡ b / 4 → a % 4 * 16 + c / 16 ≡ b % 4 * 16 + d / 16 → c % 16 * 4 ≡ d % 16 * 4 → (a ≡ b) × (c ≡ d)
two_bytes a b c d f g h k p q r = (omega arith, omega arith)

three_bytes : (a b c d x y : ℕ) → a < 256 → b < 256 → c < 256 → d < 256 → x < 256 → y < 256 → a / 4 ≡ b / 4 → a % 4 * 16 + c / 16 ≡ b % 4 * 16 + d / 16 → c % 16 * 4 + x / 64 ≡ d % 16 * 4 + y / 64 → x % 64 ≡ y % 64
    → (a ≡ b) × (c ≡ d) × (x ≡ y)
three_bytes a b c d x y f g h k l m p q r s = (omega arith, omega arith, omega arith)

symbols_once : (m n : List ℕ) → are_bytes m ≡ true → are_bytes n ≡ true → encode_symbols table m ≡ encode_symbols table n → m ≡ n
unfolding encode_symbols
symbols_once [] [] f g e = refl
symbols_once [] (b ∷ []) f g e = cc
symbols_once [] (b ∷ d ∷ []) f g e = cc
symbols_once [] (b ∷ d ∷ y ∷ n) f g e = cc
symbols_once (a ∷ []) [] f g e = cc
symbols_once (a ∷ c ∷ []) [] f g e = cc
symbols_once (a ∷ c ∷ x ∷ m) [] f g e = cc
symbols_once (a ∷ []) (b ∷ []) f g e =
    let fa = byte_below a (and_parts (nat_lt a 256) true f).0 in
    let fb = byte_below b (and_parts (nat_lt b 256) true g).0 in
    let first : get_or table (a / 4) 0 ≡ get_or table (b / 4) 0 = cc in
    let second : get_or table (a % 4 * 16) 0 ≡ get_or table (b % 4 * 16) 0 = cc in
    ap (λ (z : ℕ). z ∷ []) (one_byte a b fa fb (symbol_once (a / 4) (b / 4) (omega arith) (omega arith) first) (symbol_once (a % 4 * 16) (b % 4 * 16) (omega arith) (omega arith) second))
symbols_once (a ∷ []) (b ∷ d ∷ []) f g e = cc
symbols_once (a ∷ []) (b ∷ d ∷ y ∷ n) f g e = cc
symbols_once (a ∷ c ∷ []) (b ∷ []) f g e = cc
symbols_once (a ∷ c ∷ x ∷ m) (b ∷ []) f g e = cc
symbols_once (a ∷ c ∷ []) (b ∷ d ∷ []) f g e =
    let pf = and_parts (nat_lt a 256) (are_bytes (c ∷ [])) f in
    let pg = and_parts (nat_lt b 256) (are_bytes (d ∷ [])) g in
    let fa = byte_below a pf.0 in
    let fb = byte_below b pg.0 in
    let fc = byte_below c (and_parts (nat_lt c 256) true pf.1).0 in
    let fd = byte_below d (and_parts (nat_lt d 256) true pg.1).0 in
    let first : get_or table (a / 4) 0 ≡ get_or table (b / 4) 0 = cc in
    let second : get_or table (a % 4 * 16 + c / 16) 0 ≡ get_or table (b % 4 * 16 + d / 16) 0 = cc in
    let third : get_or table (c % 16 * 4) 0 ≡ get_or table (d % 16 * 4) 0 = cc in
    let both = two_bytes a b c d fa fb fc fd (symbol_once (a / 4) (b / 4) (omega arith) (omega arith) first) (symbol_once (a % 4 * 16 + c / 16) (b % 4 * 16 + d / 16) (omega arith) (omega arith) second) (symbol_once (c % 16 * 4) (d % 16 * 4) (omega arith) (omega arith) third) in
    let one = both.0 in
    let two = both.1 in
    cc
symbols_once (a ∷ c ∷ []) (b ∷ d ∷ y ∷ n) f g e = cc
symbols_once (a ∷ c ∷ x ∷ m) (b ∷ d ∷ []) f g e = cc
symbols_once (a ∷ c ∷ x ∷ m) (b ∷ d ∷ y ∷ n) f g e =
    let pf = and_parts (nat_lt a 256) (are_bytes (c ∷ x ∷ m)) f in
    let pg = and_parts (nat_lt b 256) (are_bytes (d ∷ y ∷ n)) g in
    let qf = and_parts (nat_lt c 256) (are_bytes (x ∷ m)) pf.1 in
    let qg = and_parts (nat_lt d 256) (are_bytes (y ∷ n)) pg.1 in
    let rf = and_parts (nat_lt x 256) (are_bytes m) qf.1 in
    let rg = and_parts (nat_lt y 256) (are_bytes n) qg.1 in
    let fa = byte_below a pf.0 in
    let fb = byte_below b pg.0 in
    let fc = byte_below c qf.0 in
    let fd = byte_below d qg.0 in
    let fx = byte_below x rf.0 in
    let fy = byte_below y rg.0 in
    let first : get_or table (a / 4) 0 ≡ get_or table (b / 4) 0 = cc in
    let second : get_or table (a % 4 * 16 + c / 16) 0 ≡ get_or table (b % 4 * 16 + d / 16) 0 = cc in
    let third : get_or table (c % 16 * 4 + x / 64) 0 ≡ get_or table (d % 16 * 4 + y / 64) 0 = cc in
    let fourth : get_or table (x % 64) 0 ≡ get_or table (y % 64) 0 = cc in
    let rest : encode_symbols table m ≡ encode_symbols table n = cc in
    let all = three_bytes a b c d x y fa fb fc fd fx fy (symbol_once (a / 4) (b / 4) (omega arith) (omega arith) first) (symbol_once (a % 4 * 16 + c / 16) (b % 4 * 16 + d / 16) (omega arith) (omega arith) second)
    (symbol_once (c % 16 * 4 + x / 64) (d % 16 * 4 + y / 64) (omega arith) (omega arith) third) (symbol_once (x % 64) (y % 64) (omega arith) (omega arith) fourth) in
    let one = all.0 in
    let two = all.1 in
    let three = all.2 in
    let below = symbols_once m n rf.1 rg.1 rest in
    cc

abbrev is_symbol : ℕ → Bool
is_symbol c = not (c == 61)

pads : (n : ℕ) → list_all (λ c. not (is_symbol c)) (replicate n 61) ≡ true
pads zero = refl
pads (suc n) = pads n

encoded_once : (m n : List ℕ) → are_bytes m ≡ true → are_bytes n ≡ true → encode_of standard m ≡ encode_of standard n → m ≡ n
encoded_once m n f g e =
    symbols_once m n f g
    (parted is_symbol (encode_symbols table m) (encode_symbols table n) (replicate (padding_len (length m)) 61) (replicate (padding_len (length n)) 61)
    (symbols_all is_symbol refl table refl m) (symbols_all is_symbol refl table refl n) (pads (padding_len (length m))) (pads (padding_len (length n))) e).0

pub content_once : (m n : List ℕ) → are_bytes m ≡ true → are_bytes n ≡ true → content_text m ≡ content_text n → m ≡ n
content_once [] [] f g e = refl
content_once [] (b ∷ n) f g e = absurd (encoded_no_dash (b ∷ n) (sym e))
content_once (a ∷ m) [] f g e = absurd (encoded_no_dash (a ∷ m) e)
content_once (a ∷ m) (b ∷ n) f g e = encoded_once (a ∷ m) (b ∷ n) f g e
