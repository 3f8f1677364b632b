-- Tests of the numbers of a range.
use Rattle.std.proofs.Common.{◌≡◌, ◌∙◌, ℕ, ◌+◌, ◌<◌, Bool, true, false, ◌||◌, zero, suc, sym, ap, arith}
use Rattle.std.specs.List.{list_any, range_with_len}
use Rattle.std.proofs.lemmas.Bool.{or_right}

module _ (f : ℕ → Bool) where
  -- one that passes
  pub any_there : (a n j m : ℕ) → j < n → a + j ≡ m → f m ≡ true → list_any f (range_with_len a n) ≡ true
  any_there a zero j m within is h = absurd (omega (arith, within))
  any_there a (suc n) zero m within is h =
      let same : m ≡ a = omega (arith, is) in
      ap (λ b. b || list_any f (range_with_len (a + 1) n)) (sym (ap f same) ∙ h)
  any_there a (suc n) (suc j) m within is h =
      let less : j < n = omega (arith, within) in
      let sum : a + 1 + j ≡ m = omega (arith, is) in
      or_right (f a) (list_any f (range_with_len (a + 1) n)) (any_there (a + 1) n j m less sum h)

  -- none passes of one number more
  pub none_more : (a n m : ℕ) → a + n ≡ m → list_any f (range_with_len a n) ≡ false → f m ≡ false → list_any f (range_with_len a (suc n)) ≡ false
  none_more a zero m is none h =
      let same : m ≡ a = omega (arith, is) in
      ap (λ b. b || false) (sym (ap f same) ∙ h)
  none_more a (suc n) m is none h =
      let sum : a + 1 + n ≡ m = omega (arith, is) in
      both (f a) (list_any f (range_with_len (a + 1) n)) (list_any f (range_with_len (a + 1) (suc n))) none (λ e. none_more (a + 1) n m sum e h)
    where
      both : (b c d : Bool) → (b || c) ≡ false → (c ≡ false → d ≡ false) → (b || d) ≡ false
      both true c d e g = e
      both false c d e g = g e
