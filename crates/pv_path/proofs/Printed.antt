-- Bytes are printed in runs.
use Rattle.std.proofs.Common.{◌≡◌, ◌≤◌, ℕ, suc, ◌+◌, ◌-◌, Bool, true, false, cond, List, [], ◌∷◌, ◌++◌, take, drop, length, get_or, refl, sym, ap, ◌∙◌, arith, append_assoc}
use Rattle.std.specs.List.{prefix_len}
use Rattle.std.proofs.lemmas.List.{take_rest}
use Rattle.std.proofs.Math.Bool.{and-true}
use Rattle.pv_path.specs.Printing.{is_plain, is_plain_but, printed_by, printed_byte_by}

-- with nothing more hidden, the plain bytes are as ever
pub hidden_none : is_plain_but [] ≡ is_plain
hidden_none j b = and-true (is_plain b) j

-- the bytes in front that are printed as themselves, and what stands after them
pub plain_run : (p : ℕ → Bool) (bytes : List ℕ) → printed_by p bytes ≡ take (prefix_len p bytes) bytes ++ printed_by p (drop (prefix_len p bytes) bytes)
plain_run p [] = refl
plain_run p (b ∷ bytes) = by_test (plain_run p bytes) (p b) refl
  where
    by_test : printed_by p bytes ≡ take (prefix_len p bytes) bytes ++ printed_by p (drop (prefix_len p bytes) bytes) → (t : Bool) → p b ≡ t
        → printed_by p (b ∷ bytes) ≡ take (prefix_len p (b ∷ bytes)) (b ∷ bytes) ++ printed_by p (drop (prefix_len p (b ∷ bytes)) (b ∷ bytes))
    by_test below true e = let more : 1 + prefix_len p bytes ≡ suc (prefix_len p bytes) = omega arith in rw (e, more) (ap (λ (t : List ℕ). b ∷ t) below)
    by_test below false e =
        let none : prefix_len p (b ∷ bytes) ≡ 0 = ap (λ (t : Bool). cond t (1 + prefix_len p bytes) 0) e in
        ap (λ (n : ℕ). take n (b ∷ bytes) ++ printed_by p (drop n (b ∷ bytes))) (sym none)

-- the run in front is printed as itself
pub plain_front : (p : ℕ → Bool) (bytes : List ℕ) → printed_by p (take (prefix_len p bytes) bytes) ≡ take (prefix_len p bytes) bytes
plain_front p [] = refl
plain_front p (b ∷ bytes) = by_test (plain_front p bytes) (p b) refl
  where
    by_test : printed_by p (take (prefix_len p bytes) bytes) ≡ take (prefix_len p bytes) bytes → (t : Bool) → p b ≡ t
        → printed_by p (take (prefix_len p (b ∷ bytes)) (b ∷ bytes)) ≡ take (prefix_len p (b ∷ bytes)) (b ∷ bytes)
    by_test below true e = let more : 1 + prefix_len p bytes ≡ suc (prefix_len p bytes) = omega arith in rw (e, more, e) (ap (λ (t : List ℕ). b ∷ t) below)
    by_test below false e = rw e refl

-- the first byte and the run after it are printed
pub run_more : (p : ℕ → Bool) (whole text with_byte with_run rest after left : List ℕ) (b : ℕ) → rest ≡ b ∷ after → whole ≡ text ++ printed_by p rest → with_byte ≡ text ++ printed_byte_by p b
    → with_run ≡ with_byte ++ take (prefix_len p after) after → left ≡ drop (prefix_len p after) after → whole ≡ with_run ++ printed_by p left
run_more p whole text with_byte with_run rest after left b is so_far first run others =
    so_far ∙ ap (λ (r : List ℕ). text ++ printed_by p r) is ∙ sym (append_assoc text (printed_byte_by p b) (printed_by p after)) ∙ ap (λ (t : List ℕ). t ++ printed_by p after) (sym first)
    ∙ ap (λ (t : List ℕ). with_byte ++ t) (plain_run p after) ∙ sym (append_assoc with_byte (take (prefix_len p after) after) (printed_by p (drop (prefix_len p after) after)))
    ∙ ap (λ (t : List ℕ). t ++ printed_by p (drop (prefix_len p after) after)) (sym run) ∙ ap (λ (t : List ℕ). with_run ++ printed_by p t) (sym others)

-- a list that is not empty is its first element and the others
pub first_and_rest : {A : Type 0} (xs : List A) (d : A) → 1 ≤ length xs → xs ≡ get_or xs 0 d ∷ take (length xs - 1) (drop 1 xs)
first_and_rest [] d some = absurd (omega arith)
first_and_rest {A = A} (x ∷ xs) d some = ap (λ (ys : List A). x ∷ ys) (sym (take_rest (x ∷ xs) 1))
