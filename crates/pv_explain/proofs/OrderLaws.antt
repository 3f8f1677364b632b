-- The lines in the order of the create phase, by their places.
use Rattle.std.specs.Prelude.{◌≡◌, ℕ, ◌+◌, ◌<◌, true, List, [], ◌∷◌, length, map, take, drop, get_or, slice_get, Some, is_some}
use Rattle.std.proofs.Common.{zero, suc, refl, sym, ap, subst, ◌∙◌, arith}
use Rattle.std.specs.List.{enumerate_from, AllByRecursion}
use Rattle.pv_lines.specs.declared.line.Line.{Line}
use Rattle.pv_table.proofs.ListedLaws.{left_of, order_at, same_length, there_of}
use Rattle.pv_table.specs.Active.{Listed, ordered, create_order, in_create_order}
use Rattle.pv_table.specs.Repeatable.{IsAt}

module _ (P : Listed → Type 0) where
  all_taken : (n : ℕ) (xs : List Listed) → AllByRecursion P xs → AllByRecursion P (take n xs)
  all_taken zero xs h = tt
  all_taken (suc n) [] h = tt
  all_taken (suc n) (x ∷ xs) h = (h.0, all_taken n xs h.1)

taken_map : {X : Type 0} (f : Listed → X) (n : ℕ) (xs : List Listed) → take n (map f xs) ≡ map f (take n xs)
taken_map f zero xs = refl
taken_map f (suc n) [] = refl
taken_map f (suc n) (x ∷ xs) = ap (λ ys. f x ∷ ys) (taken_map f n xs)

drop_past : (i : ℕ) (ls : List Line) → (i < length ls → ⊥) → drop i ls ≡ []
drop_past zero [] h = refl
drop_past (suc i) [] h = refl
drop_past zero (l ∷ ls) h = absurd (h (omega arith))
drop_past (suc i) (l ∷ ls) h = drop_past i ls (λ g. h (omega (arith, g)))

module _ (lines : List Line) where
  abbrev all : List Listed
  all = ordered (enumerate_from 0 lines)

  are_at : (count : ℕ) → AllByRecursion (λ (x : Listed). IsAt lines x.0 x.1) (take count all)
  are_at count = all_taken (λ (x : Listed). IsAt lines x.0 x.1) count all (order_at lines)

  -- the line at a place of the order is the next of those that are left
  pub is_left : (count i place : ℕ) (line : Line) → i < length (take count (create_order lines)) → place ≡ get_or (take count (create_order lines)) i 0 → slice_get lines place ≡ Some line
      → drop i (take count (in_create_order lines)) ≡ line ∷ drop (i + 1) (take count (in_create_order lines))
  is_left count i place line within is at =
      let zeros = taken_map (λ (x : Listed). x.0) count all in
      let ones = taken_map (λ (x : Listed). x.1) count all in
      let next : suc i ≡ i + 1 = omega arith in
      let within' : i < length (map (λ (x : Listed). x.0) (take count all)) = subst (λ ps. i < length ps) zeros within in
      ap (drop i) ones ∙ left_of lines (take count all) (are_at count) i place line within' (is ∙ ap (λ (ps : List ℕ). get_or ps i 0) zeros) at ∙ ap (λ (ls : List Line). line ∷ drop (suc i) ls) (sym ones) ∙ ap (λ n. line ∷ drop n (take count (in_create_order lines))) next

  -- a line stands at a place of the order
  pub is_there : (count i place : ℕ) → i < length (take count (create_order lines)) → place ≡ get_or (take count (create_order lines)) i 0 → is_some (slice_get lines place) ≡ true
  is_there count i place within is =
      let zeros = taken_map (λ (x : Listed). x.0) count all in
      let within' : i < length (map (λ (x : Listed). x.0) (take count all)) = subst (λ (ps : List ℕ). i < length ps) zeros within in
      there_of lines (take count all) (are_at count) i place within' (is ∙ ap (λ (ps : List ℕ). get_or ps i 0) zeros)

  -- none is left behind the last place
  pub none_is_left : (count i : ℕ) → (i < length (take count (create_order lines)) → ⊥) → drop i (take count (in_create_order lines)) ≡ []
  none_is_left count i past =
      let same : length (take count (create_order lines)) ≡ length (take count (in_create_order lines)) =
      ap length (taken_map (λ (x : Listed). x.0) count all) ∙ same_length (take count all) ∙ ap length (sym (taken_map (λ (x : Listed). x.1) count all)) in
      drop_past i (take count (in_create_order lines)) (λ h. past (subst (λ n. i < n) (sym same) h))
