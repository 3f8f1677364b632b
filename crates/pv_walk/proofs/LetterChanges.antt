-- What changes make of letters, one by one.
use Rattle.std.specs.Prelude.{◌≡◌, ℕ, ◌<◌, ◌-◌, ◌^◌, min, max}
use Rattle.std.proofs.Common.{refl, inl, inr, arith, zero, suc}
use Rattle.std.specs.Int.{bit_at}
use Rattle.std.proofs.lemmas.Nat.Bits.{bit_at_and, bit_at_or, bit_at-lt}
use Rattle.pv_steps.specs.declared.letters.LetterHow.{LetterHow}
use Rattle.pv_steps.specs.declared.letters.LetterHow.TheVariants.{Add, Take, Put}
use Rattle.pv_steps.specs.Letters.{letters_after}
use Rattle.pv_walk.proofs.Settling.{Settled}

-- the greater, and the smaller, of a bit and another is one value, or the other
settled_max : {A : Type 0} (bit : A → ℕ) (f : A → A) → ((a : A) → bit a < 2) → (n : ℕ) → n < 2 → ((a : A) → bit (f a) ≡ max (bit a) n) → Settled bit f
settled_max bit f small zero h e = inl (λ a. let s = small a in let is = e a in omega arith)
settled_max bit f small (suc n) h e = inr (λ a b. let s = small a in let t = small b in let is = e a in let also = e b in omega arith)

settled_min : {A : Type 0} (bit : A → ℕ) (f : A → A) → ((a : A) → bit a < 2) → (n : ℕ) → n < 2 → ((a : A) → bit (f a) ≡ min (bit a) n) → Settled bit f
settled_min bit f small zero h e = inr (λ a b. let is = e a in let also = e b in omega arith)
settled_min bit f small (suc n) h e = inl (λ a. let s = small a in let is = e a in omega arith)

-- each letter is added, taken or left
pub settled-letter : (how : LetterHow) (letters i : ℕ) → Settled (λ (set : ℕ). bit_at set i) (λ set. letters_after how letters set)
settled-letter Add letters i = settled_max (λ (set : ℕ). bit_at set i) (λ set. letters_after Add letters set) (λ set. bit_at-lt set i) (bit_at letters i) (bit_at-lt letters i) (λ set. bit_at_or set letters i)
settled-letter Take letters i =
    settled_min (λ (set : ℕ). bit_at set i) (λ set. letters_after Take letters set) (λ set. bit_at-lt set i) (bit_at (2 ^ 15 - 1 - letters) i) (bit_at-lt (2 ^ 15 - 1 - letters) i)
    (λ set. bit_at_and set (2 ^ 15 - 1 - letters) i)
settled-letter Put letters i = inr (λ a b. refl)
