-- Printed bytes are read back in one way.
use Rattle.std.proofs.Common.{◌≡◌, ◌≢◌, ℕ, ◌+◌, ◌/◌, ◌%◌, ◌<◌, Bool, true, false, nat_lt, List, [], ◌∷◌, ◌++◌, take, drop, subst, refl, sym, ap, ◌∙◌, arith, append_assoc, append-nil}
use Rattle.std.specs.List.{list_all, prefix_len}
use Rattle.std.proofs.lemmas.Bool.Decides.{nat_tests}
use Rattle.std.proofs.lemmas.List.{take-append-drop}
use Rattle.std.proofs.lemmas.List.Concat.{flat_map-append}
use Rattle.std.proofs.lemmas.Bool.{and_parts, and_from}
use Rattle.pv_path.specs.Printing.{hex_digit, is_plain, is_plain_but, printed, printed_by, printed_byte_by}
use Rattle.pv_path.proofs.Printed.{hidden_none, plain_front}
use Rattle.pv_steps.specs.Attributes.{are_bytes}
use Rattle.pv_image.specs.Reading.{BeginsWithByte}
use Rattle.pv_text.proofs.Characters.{all_append, all_back, all_front}

pub hex_digit-injective : (d e : ℕ) → hex_digit d ≡ hex_digit e → d ≡ e
hex_digit-injective d e same = by_tests (nat_lt d 10) refl (nat_lt e 10) refl
  where
    by_tests : (a : Bool) → nat_lt d 10 ≡ a → (b : Bool) → nat_lt e 10 ≡ b → d ≡ e
    by_tests true p true q = let s : 48 + d ≡ 48 + e = rw (p, q) at same in omega arith
    by_tests true p false q = let s : 48 + d ≡ 87 + e = rw (p, q) at same in grind (arith, nat_tests)
    by_tests false p true q = let s : 87 + d ≡ 48 + e = rw (p, q) at same in grind (arith, nat_tests)
    by_tests false p false q = let s : 87 + d ≡ 87 + e = rw (p, q) at same in omega arith

same_halves : (b c : ℕ) → b / 16 ≡ c / 16 → b % 16 ≡ c % 16 → b ≡ c
same_halves b c p q = omega arith

consed : (d b : ℕ) (bytes others : List ℕ) → d ≡ b → bytes ≡ others → b ∷ bytes ≡ d ∷ others
consed d b bytes others p q = cc

bytes_back : (done more : List ℕ) → are_bytes (done ++ more) ≡ true → are_bytes more ≡ true
bytes_back [] more e = e
bytes_back (d ∷ done) more e = bytes_back done more (and_parts (nat_lt d 256) (are_bytes (done ++ more)) e).1

-- what is printed where those that pass a test stand for themselves, and a backslash does not
module _ (plain : ℕ → Bool) (slash : plain 92 ≡ false) where
  not_backslash : plain 92 ≡ true → ⊥
  not_backslash e = cc

  -- no printed byte begins another
  pub first_printed : (b c : ℕ) (x y : List ℕ) → printed_byte_by plain b ++ x ≡ printed_byte_by plain c ++ y → (b ≡ c) × (x ≡ y)
  first_printed b c x y same = by_tests (plain b) refl (plain c) refl
    where
      by_tests : (p : Bool) → plain b ≡ p → (q : Bool) → plain c ≡ q → (b ≡ c) × (x ≡ y)
      by_tests true p true q = let s : b ∷ x ≡ c ∷ y = rw (p, q) at same in (cc, cc)
      by_tests true p false q =
          let s : b ∷ x ≡ 92 ∷ 120 ∷ hex_digit (c / 16) ∷ hex_digit (c % 16) ∷ y = rw (p, q) at same in
          let bad : b ≡ 92 = cc in
          absurd (not_backslash (sym (ap plain bad) ∙ p))
      by_tests false p true q =
          let s : 92 ∷ 120 ∷ hex_digit (b / 16) ∷ hex_digit (b % 16) ∷ x ≡ c ∷ y = rw (p, q) at same in
          let bad : c ≡ 92 = cc in
          absurd (not_backslash (sym (ap plain bad) ∙ q))
      by_tests false p false q =
          let s : 92 ∷ 120 ∷ hex_digit (b / 16) ∷ hex_digit (b % 16) ∷ x ≡ 92 ∷ 120 ∷ hex_digit (c / 16) ∷ hex_digit (c % 16) ∷ y = rw (p, q) at same in
          let high : hex_digit (b / 16) ≡ hex_digit (c / 16) = cc in
          let low : hex_digit (b % 16) ≡ hex_digit (c % 16) = cc in
          (same_halves b c (hex_digit-injective (b / 16) (c / 16) high) (hex_digit-injective (b % 16) (c % 16) low), cc)

  pub some_printed : (b : ℕ) (x : List ℕ) → printed_byte_by plain b ++ x ≢ []
  some_printed b x e = by_test (plain b) refl
    where
      by_test : (p : Bool) → plain b ≡ p → ⊥
      by_test true p = let s : b ∷ x ≡ [] = rw p at e in cc
      by_test false p = let s : 92 ∷ 120 ∷ hex_digit (b / 16) ∷ hex_digit (b % 16) ∷ x ≡ [] = rw p at e in cc

  -- printed bytes that begin with printed bytes go on with printed bytes
  pub printed_rest : (done bytes rest : List ℕ) → printed_by plain done ++ rest ≡ printed_by plain bytes → (more : List ℕ) × (bytes ≡ done ++ more) × (rest ≡ printed_by plain more)
  printed_rest [] bytes rest e = (bytes, refl, e)
  printed_rest (d ∷ done) [] rest e = absurd (some_printed d (printed_by plain done ++ rest) (sym (append_assoc (printed_byte_by plain d) (printed_by plain done) rest) ∙ e))
  printed_rest (d ∷ done) (b ∷ bytes) rest e =
      let first = first_printed d b (printed_by plain done ++ rest) (printed_by plain bytes) (sym (append_assoc (printed_byte_by plain d) (printed_by plain done) rest) ∙ e) in
      let below = printed_rest done bytes rest first.1 in
      (below.0, consed d b bytes (done ++ below.0) first.0 below.1, below.2)

  pub printed_by-injective : (a b : List ℕ) → printed_by plain a ≡ printed_by plain b → a ≡ b
  printed_by-injective a b e =
      let rest = printed_rest a b [] (append-nil (printed_by plain a) ∙ e) in
      sym (rest.1 ∙ ap (λ (m : List ℕ). a ++ m) (nothing rest.0 rest.2) ∙ append-nil a)
    where
      nothing : (m : List ℕ) → [] ≡ printed_by plain m → m ≡ []
      nothing [] e = refl
      nothing (x ∷ m) e = absurd (some_printed x (printed_by plain m) (sym e))

  -- where no printed byte goes on, the text prints nothing
  pub none_printed : (text done rest : List ℕ) → text ≡ printed_by plain done ++ rest → rest ≢ [] → ((x : ℕ × List ℕ) → BeginsWithByte x → rest ≢ printed_byte_by plain x.0 ++ x.1) → (bytes : List ℕ) → are_bytes bytes ≡ true → text ≢ printed_by plain bytes
  none_printed text done rest so_far some none bytes fit e =
      let more = printed_rest done bytes rest (sym so_far ∙ e) in
      by_more more.0 (bytes_back done more.0 (rw more.1 at fit)) more.2
    where
      small : (b : ℕ) → nat_lt b 256 ≡ true → b < 256
      small b t = grind (arith, nat_tests)

      by_more : (m : List ℕ) → are_bytes m ≡ true → rest ≡ printed_by plain m → ⊥
      by_more [] fit is = some is
      by_more (b ∷ m) fit is = none (b, printed_by plain m) (small b (and_parts (nat_lt b 256) (are_bytes m) fit).0) is

-- one printed byte, and the run of plain ones after it, are read
pub printed_more : (plain : ℕ → Bool) (text bytes new rest after left : List ℕ) (byte : ℕ) → are_bytes text ≡ true → text ≡ printed_by plain bytes ++ rest → are_bytes bytes ≡ true → byte < 256 → rest ≡ printed_byte_by plain byte ++ after
    → new ≡ (bytes ++ byte ∷ []) ++ take (prefix_len plain after) after → left ≡ drop (prefix_len plain after) after → (text ≡ printed_by plain new ++ left) × (are_bytes new ≡ true)
printed_more plain text bytes new rest after left byte ok so_far are small is grown others =
    let run = take (prefix_len plain after) after in
    let front = printed_by plain bytes in
    let one = printed_byte_by plain byte in
    let whole : after ≡ run ++ left = sym (take-append-drop (prefix_len plain after) after) ∙ ap (λ (t : List ℕ). run ++ t) (sym others) in
    let spelled : printed_by plain new ≡ (front ++ (one ++ [])) ++ run =
    ap (printed_by plain) grown ∙ flat_map-append (printed_byte_by plain) (bytes ++ byte ∷ []) run
    ∙ ap (λ (t : List ℕ). t ++ printed_by plain run) (flat_map-append (printed_byte_by plain) bytes (byte ∷ []))
    ∙ ap (λ (t : List ℕ). (front ++ (one ++ [])) ++ t) (plain_front plain after) in
    let joined : printed_by plain new ++ left ≡ front ++ (one ++ (run ++ left)) =
    ap (λ (t : List ℕ). t ++ left) spelled ∙ append_assoc (front ++ (one ++ [])) run left ∙ ap (λ (t : List ℕ). (front ++ t) ++ (run ++ left)) (append-nil one) ∙ append_assoc front one (run ++ left) in
    let parts : text ≡ front ++ (one ++ (run ++ left)) = so_far ∙ ap (λ (t : List ℕ). front ++ t) (is ∙ ap (λ (t : List ℕ). one ++ t) whole) in
    let all : are_bytes (front ++ (one ++ (run ++ left))) ≡ true = subst (λ (t : List ℕ). are_bytes t ≡ true) parts ok in
    let last : are_bytes run ≡ true = all_front (λ b. nat_lt b 256) run left (all_back (λ b. nat_lt b 256) one (run ++ left) (all_back (λ b. nat_lt b 256) front (one ++ (run ++ left)) all)) in
    let byte_fits : nat_lt byte 256 ≡ true = grind (arith, nat_tests) in
    let first : are_bytes (bytes ++ byte ∷ []) ≡ true = all_append (λ b. nat_lt b 256) bytes (byte ∷ []) are (and_from (nat_lt byte 256) true byte_fits refl) in
    (parts ∙ sym joined, subst (λ (t : List ℕ). are_bytes t ≡ true) (sym grown) (all_append (λ b. nat_lt b 256) (bytes ++ byte ∷ []) run first last))

pub printed_injective : (a b : List ℕ) → printed a ≡ printed b → a ≡ b
printed_injective a b e = printed_by-injective is_plain refl a b e

-- a text whose bytes are printed as themselves prints itself
pub plain_prints : (p : ℕ → Bool) (text : List ℕ) → list_all p text ≡ true → printed_by p text ≡ text
plain_prints p [] plain = refl
plain_prints p (b ∷ text) plain =
    let both = and_parts (p b) (list_all p text) plain in
    rw both.0 (ap (λ (t : List ℕ). b ∷ t) (plain_prints p text both.1))

pub plain_itself : (text : List ℕ) → list_all (is_plain_but []) text ≡ true → printed text ≡ text
plain_itself text plain = subst (λ (p : ℕ → Bool). printed_by p text ≡ text) hidden_none (plain_prints (is_plain_but []) text plain)
