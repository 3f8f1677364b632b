-- The lines of facts.
use Rattle.std.proofs.Common.{◌≡◌, ℕ, Bool, true, false, ◌&&◌, ◌==◌, List, [], ◌∷◌, codes, refl, subst, arith}
use Rattle.std.specs.List.{list_all, list_any, slice_split, join_with_byte}
use Rattle.std.proofs.lemmas.Bool.Decides.{nat_tests}
use Rattle.std.proofs.lemmas.Bool.{and_parts}
use Rattle.pv_path.specs.Printing.{printed}
use Rattle.pv_text.specs.Facts.{fact_letters, is_fact_letter, is_fact_value}
use Rattle.pv_steps.specs.Attributes.{are_bytes}
use Rattle.pv_image.specs.Spelling.{fact_text, fact_texts}
use Rattle.pv_text.specs.Lines.{is_line}
use Rattle.pv_image.specs.Images.{IsByteFact}
use Rattle.pv_image.proofs.Cutting.{split_join}
use Rattle.pv_image.proofs.Solid.{AllSolid, is_solid, pieces_apart, pieces_whole, printed_solid}

solid_any : (letters : List ℕ) (letter : ℕ) → list_all is_solid letters ≡ true → list_any (λ l. l == letter) letters ≡ true → is_solid letter ≡ true
solid_any [] letter all e = cc
solid_any (l ∷ letters) letter all e = by_test (solid_any letters letter (and_parts (is_solid l) (list_all is_solid letters) all).1) (and_parts (is_solid l) (list_all is_solid letters) all).0 (l == letter) refl
  where
    by_test : (list_any (λ x. x == letter) letters ≡ true → is_solid letter ≡ true) → is_solid l ≡ true → (t : Bool) → (l == letter) ≡ t → is_solid letter ≡ true
    by_test below here true q = let same : l ≡ letter = grind (arith, nat_tests) in subst (λ (x : ℕ). is_solid x ≡ true) same here
    by_test below here false q = below (rw q at e)

letter_solid : (fact : ℕ × List ℕ) → IsByteFact fact → is_solid fact.0 ≡ true
letter_solid fact is =
    let letter = is_fact_letter fact.0 in
    let value = is_fact_value fact.1 in
    let known = (and_parts (letter && value) (are_bytes fact.1) is).0 in
    solid_any fact_letters fact.0 refl (and_parts letter value known).0

pub fact_solid : (fact : ℕ × List ℕ) → IsByteFact fact → AllSolid (fact_texts fact)
fact_solid fact is = rw (letter_solid fact is, printed_solid fact.1) refl

pub fact_again : (fact : ℕ × List ℕ) → IsByteFact fact → slice_split (λ b. b == 32) (join_with_byte 32 (fact_texts fact)) ≡ fact_texts fact
fact_again fact is = split_join 32 (codes "fact") ((fact.0 ∷ []) ∷ printed fact.1 ∷ []) (pieces_apart (fact_texts fact) (fact_solid fact is))

pub fact_whole : (fact : ℕ × List ℕ) → IsByteFact fact → is_line (fact_text fact) ≡ true
fact_whole fact is = pieces_whole (fact_texts fact) (fact_solid fact is)
