-- Texts that are cut at the first place of a byte.
use Rattle.std.proofs.Common.{◌≡◌, ℕ, zero, suc, ◌+◌, ◌-◌, ◌<◌, ◌≤◌, Bool, true, false, not, ◌==◌, List, [], ◌∷◌, ◌++◌, length, take, drop, Option, Some, None, IfSome, Bor, slice_index, slice_set, refl, sym, ap, ◌∙◌, arith, append_assoc, le_refl, take_all}
use Rattle.std.specs.List.{slice_split}
use Rattle.std.proofs.lemmas.List.{length-append, length-map, take_rest, take-append-drop, drop_more}
use Rattle.std.proofs.lemmas.List.Splits.{length-slice_split}
use Rattle.std.proofs.lemmas.Bool.{and_from}
use Rattle.std.proofs.lemmas.Bool.Decides.{nat_tests}
use Rattle.memchr.specs.Find.{IsFirstByte, is_byte}
use Rattle.pv_acl.proofs.Splitting.{split_at, split_none}
use Rattle.pv_text.specs.Lines.{lacks}
use Rattle.pv_image.specs.Images.{IsCut}
use Rattle.pv_image.specs.Reading.{IsCutAt, texts}

same_byte : (b c : ℕ) → (b == c) ≡ true → b ≡ c
same_byte b c e = grind (arith, nat_tests)

other_byte : (t : Bool) → (t ≡ true → ⊥) → not t ≡ true
other_byte true never = absurd (never refl)
other_byte false never = refl

-- a byte that stands at no place before one
lacks_before : (c : ℕ) (text : List ℕ) (at : ℕ) → ((k : ℕ) → k < at → (slice_index text k == c) ≡ true → ⊥) → lacks c (take at text) ≡ true
lacks_before c [] zero none = refl
lacks_before c [] (suc at) none = refl
lacks_before c (b ∷ text) zero none = refl
lacks_before c (b ∷ text) (suc at) none =
    and_from (not (b == c)) (lacks c (take at text)) (other_byte (b == c) (none 0 (omega arith)))
    (lacks_before c text at (λ k below hit. none (suc k) (omega arith) hit))

pub cut_first : (c : ℕ) (text : List ℕ) (at : ℕ) → IsFirstByte (is_byte c) text (Some at) → IsCutAt c text (take at text) (take (length text - (at + 1)) (drop (at + 1) text))
cut_first c text at (none, hit) =
    let here : slice_index text at ≡ c = same_byte (slice_index text at) c hit in
    let cut : take at text ++ drop at text ≡ take at text ++ c ∷ drop (at + 1) text = ap (λ (t : List ℕ). take at text ++ t) (drop_more text at 0 none.high ∙ ap (λ (b : ℕ). b ∷ drop (at + 1) text) here) in
    record {
      whole = rw take_rest (sym (take-append-drop at text) ∙ cut);
      before = lacks_before c text at (λ k below hit. none.before k (omega arith) below hit);
    }

pub cut_none : (c : ℕ) (text : List ℕ) → IsFirstByte (is_byte c) text None → lacks c text ≡ true
cut_none c text none =
    ap (lacks c) (sym (take_all (length text) text (le_refl (length text)))) ∙ lacks_before c text (length text) (λ k below hit. none k (omega arith) below hit)

-- a line is cut at its line feed
pub line_cut : (bytes front rest : List ℕ) → IsCutAt 10 bytes front rest → IsCut bytes front rest
line_cut bytes front rest cut = record { bytes_are = cut.whole ∙ sym (append_assoc front (10 ∷ []) rest); whole = cut.before }

pub line_cuts : (bytes : List ℕ) (o : Option (Bor (List ℕ) × Bor (List ℕ))) → IfSome o (λ cut. IsCutAt 10 bytes cut.0.now cut.1.now) → IfSome o (λ cut. IsCut bytes cut.0.now cut.1.now)
line_cuts bytes None cut = cut
line_cuts bytes (Some (front, rest)) cut = line_cut bytes front.now rest.now cut

-- what follows a cut is shorter
pub cut_shorter : (c : ℕ) (text front rest : List ℕ) → IsCutAt c text front rest → length rest < length text
cut_shorter c text front rest cut = rw (cut.whole, length-append) (omega arith)

-- ---- all pieces

pub put_more : (pieces : List (Bor (List ℕ))) (i : ℕ) (piece : Bor (List ℕ)) → i < length pieces → texts (take (i + 1) (slice_set pieces i piece)) ≡ texts (take i pieces) ++ piece.now ∷ []
put_more [] i piece h = absurd (omega arith)
put_more (p ∷ pieces) zero piece h = refl
put_more (p ∷ pieces) (suc i) piece h =
    let next : suc i + 1 ≡ suc (i + 1) = omega arith in
    rw next (ap (λ (ts : List (List ℕ)). p.now ∷ ts) (put_more pieces i piece (omega arith)))

-- one piece more before what is left, and the last one
pub split_next : (c : ℕ) (done whole : List (List ℕ)) (text front rest : List ℕ) → done ++ slice_split (λ b. b == c) text ≡ whole → IsCutAt c text front rest → done ++ front ∷ slice_split (λ b. b == c) rest ≡ whole
split_next c done whole text front rest so_far cut =
    let cut_is : slice_split (λ b. b == c) text ≡ front ∷ slice_split (λ b. b == c) rest = ap (slice_split (λ b. b == c)) cut.whole ∙ split_at c front rest cut.before in
    ap (λ (ts : List (List ℕ)). done ++ ts) (sym cut_is) ∙ so_far

pub split_last : (c : ℕ) (done whole : List (List ℕ)) (text : List ℕ) → done ++ slice_split (λ b. b == c) text ≡ whole → lacks c text ≡ true → done ++ text ∷ [] ≡ whole
split_last c done whole text so_far none = ap (λ (ts : List (List ℕ)). done ++ ts) (sym (split_none c text none)) ∙ so_far

-- a piece is put where the next one stands
pub put_next : (pieces : List (Bor (List ℕ))) (i : ℕ) (piece : Bor (List ℕ)) (whole more : List (List ℕ)) → i < length pieces → texts (take i pieces) ++ piece.now ∷ more ≡ whole → texts (take (i + 1) (slice_set pieces i piece)) ++ more ≡ whole
put_next pieces i piece whole more h so_far =
    ap (λ (ts : List (List ℕ)). ts ++ more) (put_more pieces i piece h) ∙ append_assoc (texts (take i pieces)) (piece.now ∷ []) more ∙ so_far

-- there is at least one piece
pub split_some : (c : ℕ) (text : List ℕ) → 1 ≤ length (slice_split (λ b. b == c) text)
split_some c text = omega (arith, length-slice_split (λ b. b == c) text)

-- the pieces are full, and something is left
pub split_over : (c n : ℕ) (pieces : List (Bor (List ℕ))) (i : ℕ) (rest text : List ℕ) → length pieces ≡ n → length pieces ≤ i → texts (take i pieces) ++ slice_split (λ b. b == c) rest ≡ slice_split (λ b. b == c) text
    → n < length (slice_split (λ b. b == c) text)
split_over c n pieces i rest text same full so_far =
    let some : 1 ≤ length (slice_split (λ b. b == c) rest) = split_some c rest in
    let all : length (texts (take i pieces)) ≡ length pieces = ap (λ (ps : List (Bor (List ℕ))). length (texts ps)) (take_all i pieces full) ∙ length-map pieces (λ s. s.now) in
    rw (← so_far, length-append, all, same) (omega arith)
