-- Which bytes stand in decimals and in printed bytes, and that texts made of them have one line.
use Rattle.std.proofs.Common.{◌≡◌, ℕ, ◌+◌, ◌%◌, ◌/◌, ◌<◌, ◌^◌, Bool, true, false, not, ◌&&◌, ◌||◌, ◌==◌, nat_le, nat_lt, List, [], ◌∷◌, ◌++◌, codes, refl, ap, subst, arith, ◌∙◌}
use Rattle.std.specs.List.{list_all, flat_map, join_with_byte}
use Rattle.std.specs.Fmt.{decimal}
use Rattle.std.proofs.lemmas.Bool.Decides.{nat_tests}
use Rattle.std.proofs.lemmas.Fmt.{decimal_by_steps}
use Rattle.std.proofs.lemmas.Bool.{and_parts, and_from}
use Rattle.pv_path.specs.Paths.{Path}
use Rattle.pv_path.specs.Printing.{hex_digit, is_plain, printed, printed_by, printed_byte_by, printed_path}
use Rattle.pv_text.specs.declared.place.Place.{Place}
use Rattle.pv_text.specs.Lines.{lacks, is_line}
use Rattle.pv_text.specs.GivenMessages.{message_text_at}

-- ---- tests of all bytes

pub all_weaker : {A : Type 0} (p q : A → Bool) → ((x : A) → p x ≡ true → q x ≡ true) → (xs : List A) → list_all p xs ≡ true → list_all q xs ≡ true
all_weaker p q more [] e = refl
all_weaker p q more (x ∷ xs) e =
    let parts = and_parts (p x) (list_all p xs) e in
    and_from (q x) (list_all q xs) (more x parts.0) (all_weaker p q more xs parts.1)

pub all_append : {A : Type 0} (p : A → Bool) (xs ys : List A) → list_all p xs ≡ true → list_all p ys ≡ true → list_all p (xs ++ ys) ≡ true
all_append p [] ys e f = f
all_append p (x ∷ xs) ys e f =
    let parts = and_parts (p x) (list_all p xs) e in
    and_from (p x) (list_all p (xs ++ ys)) parts.0 (all_append p xs ys parts.1 f)

pub all_front : {A : Type 0} (p : A → Bool) (xs ys : List A) → list_all p (xs ++ ys) ≡ true → list_all p xs ≡ true
all_front p [] ys e = refl
all_front p (x ∷ xs) ys e =
    let parts = and_parts (p x) (list_all p (xs ++ ys)) e in
    and_from (p x) (list_all p xs) parts.0 (all_front p xs ys parts.1)

pub all_back : {A : Type 0} (p : A → Bool) (xs ys : List A) → list_all p (xs ++ ys) ≡ true → list_all p ys ≡ true
all_back p [] ys e = e
all_back p (x ∷ xs) ys e = all_back p xs ys (and_parts (p x) (list_all p (xs ++ ys)) e).1

pub all_joined : (p : ℕ → Bool) (c : ℕ) → p c ≡ true → (pieces : List (List ℕ)) → list_all (list_all p) pieces ≡ true → list_all p (join_with_byte c pieces) ≡ true
all_joined p c fits [] e = refl
all_joined p c fits (piece ∷ []) e = (and_parts (list_all p piece) true e).0
all_joined p c fits (piece ∷ next ∷ pieces) e =
    let parts = and_parts (list_all p piece) (list_all (list_all p) (next ∷ pieces)) e in
    all_append p piece (c ∷ join_with_byte c (next ∷ pieces)) parts.0 (and_from (p c) (list_all p (join_with_byte c (next ∷ pieces))) fits (all_joined p c fits (next ∷ pieces) parts.1))

-- ---- digits

abbrev pub is_digit : ℕ → Bool
is_digit b = nat_le 48 b && nat_le b 57

digit_is : (d : ℕ) → d < 10 → is_digit (48 + d) ≡ true
digit_is d small = grind (arith, nat_tests)

-- a decimal text has digits alone
pub digits_alone : (n : ℕ) → n < 2 ^ 64 → list_all is_digit (decimal n) ≡ true
digits_alone n small =
    decimal_by_steps (λ _ text. list_all is_digit text ≡ true) (λ m lt. and_from (is_digit (48 + m)) true (digit_is m lt) refl)
    (λ m text le e. all_append is_digit text ((48 + m % 10) ∷ []) e (and_from (is_digit (48 + m % 10)) true (digit_is (m % 10) (omega arith)) refl)) n small

pub digit_lacks : (c : ℕ) → is_digit c ≡ false → (b : ℕ) → is_digit b ≡ true → not (b == c) ≡ true
digit_lacks c odd b digit = by_test (b == c) refl
  where
    by_test : (t : Bool) → (b == c) ≡ t → not (b == c) ≡ true
    by_test true e = absurd (let same : b ≡ c = grind (arith, nat_tests) in let bad : is_digit c ≡ true = subst (λ (x : ℕ). is_digit x ≡ true) same digit in cc)
    by_test false e = rw e refl

pub decimal_lacks : (c n : ℕ) → is_digit c ≡ false → n < 2 ^ 64 → lacks c (decimal n) ≡ true
decimal_lacks c n odd small = all_weaker is_digit (λ b. not (b == c)) (digit_lacks c odd) (decimal n) (digits_alone n small)

-- ---- printed bytes

pub hex_is : (d : ℕ) → (not (hex_digit d == 47) && nat_le 33 (hex_digit d)) ≡ true
hex_is d = by_test (nat_lt d 10) refl
  where
    by_test : (t : Bool) → nat_lt d 10 ≡ t → (not (hex_digit d == 47) && nat_le 33 (hex_digit d)) ≡ true
    by_test true e = rw e (grind (arith, nat_tests))
    by_test false e = rw e (grind (arith, nat_tests))

-- a test that the letters of an escape pass is passed by printed bytes, where those that are printed as themselves pass it
pub printed_all : (plain p : ℕ → Bool) → p 92 ≡ true → p 120 ≡ true → ((d : ℕ) → p (hex_digit d) ≡ true) → (bytes : List ℕ) → list_all (λ b. not (plain b) || p b) bytes ≡ true → list_all p (printed_by plain bytes) ≡ true
printed_all plain p slash letter digit [] e = refl
printed_all plain p slash letter digit (b ∷ bytes) e =
    let parts = and_parts (not (plain b) || p b) (list_all (λ x. not (plain x) || p x) bytes) e in
    all_append p (printed_byte_by plain b) (printed_by plain bytes) (by_test (plain b) refl parts.0) (printed_all plain p slash letter digit bytes parts.1)
  where
    by_test : (t : Bool) → plain b ≡ t → (not (plain b) || p b) ≡ true → list_all p (printed_byte_by plain b) ≡ true
    by_test true q f = let is : p b ≡ true = rw q at f in rw (q, is) refl
    by_test false q f = rw (q, slash, letter, digit (b / 16), digit (b % 16)) refl

pub hex_lacks : (c : ℕ) → nat_lt c 48 ≡ true → (d : ℕ) → not (hex_digit d == c) ≡ true
hex_lacks c low d = by_test (nat_lt d 10) refl
  where
    by_test : (t : Bool) → nat_lt d 10 ≡ t → not (hex_digit d == c) ≡ true
    by_test true e = rw e (grind (arith, nat_tests))
    by_test false e = rw e (grind (arith, nat_tests))

or_yes : (t : Bool) → (not t || true) ≡ true
or_yes true = refl
or_yes false = refl

-- a byte that is printed as itself is no hidden one
pub plain_lacks : (plain : ℕ → Bool) (c : ℕ) → plain c ≡ false → (bytes : List ℕ) → list_all (λ b. not (plain b) || not (b == c)) bytes ≡ true
plain_lacks plain c hidden [] = refl
plain_lacks plain c hidden (b ∷ bytes) = and_from (not (plain b) || not (b == c)) (list_all (λ x. not (plain x) || not (x == c)) bytes) (by_test (b == c) refl) (plain_lacks plain c hidden bytes)
  where
    by_test : (t : Bool) → (b == c) ≡ t → (not (plain b) || not (b == c)) ≡ true
    by_test true e = let same : b ≡ c = grind (arith, nat_tests) in let none : plain b ≡ false = ap plain same ∙ hidden in ap (λ (t : Bool). not t || not (b == c)) none
    by_test false e = rw e (or_yes (plain b))

-- ---- texts of one line

pub one_line-append : (a b : List ℕ) → is_line a ≡ true → is_line b ≡ true → is_line (a ++ b) ≡ true
one_line-append = all_append (λ b. not (b == 10))

-- what is printed has one line
pub one_line-printed : (bytes : List ℕ) → is_line (printed bytes) ≡ true
one_line-printed bytes = printed_all is_plain (λ b. not (b == 10)) refl refl (hex_lacks 10 refl) bytes (plain_lacks is_plain 10 refl bytes)

pub one_line-printed_path : (path : Path) → is_line (printed_path path) ≡ true
one_line-printed_path [] = refl
one_line-printed_path (name ∷ path) = names (name ∷ path)
  where
    names : (path : Path) → is_line (flat_map (λ n. 47 ∷ printed n) path) ≡ true
    names [] = refl
    names (name ∷ path) = one_line-append (47 ∷ printed name) (flat_map (λ n. 47 ∷ printed n) path) (one_line-printed name) (names path)

pub one_line-decimal : (n : ℕ) → n < 2 ^ 64 → is_line (decimal n) ≡ true
one_line-decimal n = decimal_lacks 10 n refl

-- what is said of a line has one line where the text has
pub one_line-new_messages : (place : Place) (text : List ℕ) → is_line place.file ≡ true → place.number < 2 ^ 64 → is_line text ≡ true → is_line (message_text_at place text) ≡ true
one_line-new_messages place text file small one =
    let front : is_line (place.file ++ codes ":") ≡ true = one_line-append place.file (codes ":") file refl in
    let number : is_line (place.file ++ codes ":" ++ decimal place.number) ≡ true = one_line-append (place.file ++ codes ":") (decimal place.number) front (one_line-decimal place.number small) in
    one_line-append (place.file ++ codes ":" ++ decimal place.number ++ codes ": ") text (one_line-append (place.file ++ codes ":" ++ decimal place.number) (codes ": ") number refl) one
