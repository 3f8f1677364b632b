use Rattle.std.proofs.Common.{◌≡◌, ◌≢◌, ◌≤◌, ℕ, List, [], ◌∷◌, length, Option, None, sym, subst, ◌∙◌, arith}
use Rattle.std.specs.Fmt.{decimal}
use Rattle.pv_image.specs.Reading.{Reads, AreNumbers, texts}
use Rattle.pv_image.specs.Spelling.{number_texts}
use Rattle.pv_image.proofs.Paths.{as_many, two_texts_of}
use Rattle.pv_image.proofs.payload.numbers_of.Goals as goal

both : (ts : List (List ℕ)) (a b : List ℕ) (m n : ℕ) → a ∷ b ∷ [] ≡ ts → (m ≤ 4294967295) × (a ≡ decimal m) → (n ≤ 4294967295) × (b ≡ decimal n)
    → AreNumbers (m, n) × (ts ≡ number_texts (m, n))
both ts a b m n is f g = ((let first = f.0 in omega arith, let second = g.0 in omega arith), sym is ∙ (λ i. f.1 i ∷ g.1 i ∷ []))

no_first : (ts : List (List ℕ)) (a b : List ℕ) (r : Option (ℕ × ℕ)) → a ∷ b ∷ [] ≡ ts → ((n : ℕ) → n ≤ 4294967295 → a ≢ decimal n) → r ≡ None → Reads number_texts AreNumbers ts r
no_first ts a b r is never e = subst (Reads number_texts AreNumbers ts) (sym e) (λ x fit same.
    never x.0 (let small = fit.0 in omega arith) (let all : a ∷ b ∷ [] ≡ decimal x.0 ∷ decimal x.1 ∷ [] = is ∙ same in cc))

no_second : (ts : List (List ℕ)) (a b : List ℕ) (r : Option (ℕ × ℕ)) → a ∷ b ∷ [] ≡ ts → ((n : ℕ) → n ≤ 4294967295 → b ≢ decimal n) → r ≡ None → Reads number_texts AreNumbers ts r
no_second ts a b r is never e = subst (Reads number_texts AreNumbers ts) (sym e) (λ x fit same.
    never x.1 (let small = fit.1 in omega arith) (let all : a ∷ b ∷ [] ≡ decimal x.0 ∷ decimal x.1 ∷ [] = is ∙ same in cc))

pub returns-in_err-read_up_to-in-len2 : goal.returns-in_err-read_up_to-in-len2
returns-in_err-read_up_to-in-len2 c =
    no_first (texts c.args.pieces.now) _ _ c.from_residual.result (two_texts_of c.args.pieces.now _ (record { ref_ptr = (0, 0); now = [] }) c.in-len2.len_at_least c.in-len2.len_below) c.in_err-read_up_to-in-len2.ensures c.from_residual.ensures

pub returns-in_err-read_up_to-in-len2-2 : goal.returns-in_err-read_up_to-in-len2-2
returns-in_err-read_up_to-in-len2-2 c =
    no_second (texts c.args.pieces.now) _ _ c.from_residual-in_err-read_up_to-in-len2-2.result (two_texts_of c.args.pieces.now (record { ref_ptr = (0, 0); now = [] }) _ c.in-len2.len_at_least c.in-len2.len_below) c.in_err-read_up_to-in-len2-2.ensures c.from_residual-in_err-read_up_to-in-len2-2.ensures

pub returns-in_ok-read_up_to-in-len2-2 : goal.returns-in_ok-read_up_to-in-len2-2
returns-in_ok-read_up_to-in-len2-2 c =
    both (texts c.args.pieces.now) _ _ c.in_ok-read_up_to-in-len2.field-0 c.in_ok-read_up_to-in-len2-2.field-0 (two_texts_of c.args.pieces.now _ _ c.in-len2.len_at_least c.in-len2.len_below) c.in_ok-read_up_to-in-len2.ensures c.in_ok-read_up_to-in-len2-2.ensures

pub returns-in_default : goal.returns-in_default
returns-in_default c = λ x fit e. let two : length c.args.pieces.now ≡ 2 = as_many c.args.pieces.now (number_texts x) e in omega (arith, two, c.in_default.len_below)
