-- The first line of a content.
use Rattle.std.proofs.Common.{◌≡◌, ℕ, suc, ◌+◌, ◌-◌, ◌<◌, ◌≤◌, Bool, true, false, ◌==◌, List, [], ◌∷◌, length, take, drop, refl, sym, ap, ◌∙◌, arith}
use Rattle.std.proofs.lemmas.List.{take_rest, take_all, drop_all}
use Rattle.std.specs.List.{onto_first, position_or_len}
use Rattle.pv_read_config.specs.Configuration.{lines_in}

abbrev end_of : List ℕ → ℕ
end_of text = position_or_len (λ b. b == 10) text

-- the first line stands before the first line feed, and the others after it
pub lines_in-first : (text : List ℕ) → 0 < length text → lines_in text ≡ take (end_of text) text ∷ lines_in (drop (end_of text + 1) text)
lines_in-first [] some = absurd (omega arith)
lines_in-first (b ∷ []) some = by_test (b == 10) refl
  where
    by_test : (t : Bool) → (b == 10) ≡ t → lines_in (b ∷ []) ≡ take (end_of (b ∷ [])) (b ∷ []) ∷ lines_in (drop (end_of (b ∷ []) + 1) (b ∷ []))
    by_test true e = rw e refl
    by_test false e = rw e refl
lines_in-first (b ∷ c ∷ text) some = by_test (b == 10) refl (lines_in-first (c ∷ text) (omega arith))
  where
    by_test : (t : Bool) → (b == 10) ≡ t → lines_in (c ∷ text) ≡ take (end_of (c ∷ text)) (c ∷ text) ∷ lines_in (drop (end_of (c ∷ text) + 1) (c ∷ text))
        → lines_in (b ∷ c ∷ text) ≡ take (end_of (b ∷ c ∷ text)) (b ∷ c ∷ text) ∷ lines_in (drop (end_of (b ∷ c ∷ text) + 1) (b ∷ c ∷ text))
    by_test true e below = rw e refl
    by_test false e below =
        let more : 1 + end_of (c ∷ text) ≡ suc (end_of (c ∷ text)) = omega arith in
        let next : suc (end_of (c ∷ text)) + 1 ≡ suc (end_of (c ∷ text) + 1) = omega arith in
        rw (e, more, next) (ap (onto_first b) below)

-- where it ends in a line feed
pub lines_in-cut : (text : List ℕ) (end : ℕ) → 0 < length text → end ≡ end_of text → lines_in text ≡ take end text ∷ lines_in (take (length text - (end + 1)) (drop (end + 1) text))
lines_in-cut text end some is = rw (take_rest, is) (lines_in-first text some)

-- if it is the last one
pub lines_in-last : (text : List ℕ) (end : ℕ) → 0 < length text → end ≡ end_of text → end ≡ length text → lines_in text ≡ text ∷ []
lines_in-last text end some is last =
    let all : end_of text ≡ length text = sym is ∙ last in
    let whole : length text ≤ length text = omega arith in
    let past : length text ≤ length text + 1 = omega arith in
    let first : lines_in text ≡ take (length text) text ∷ lines_in (drop (length text + 1) text) = rw all at (lines_in-first text some) in
    rw (take_all (length text) text whole, drop_all (length text + 1) text past) at first
