-- What lines have left and done, one line more at a time, in the order of the create phase.
use Rattle.std.specs.Prelude.{◌≡◌, ℕ, ◌+◌, ◌<◌, ◌≤◌, true, List, [], ◌∷◌, ◌++◌, length, map, take, get_or, fold, slice_get, Some, is_some}
use Rattle.std.proofs.Common.{zero, suc, refl, sym, ap, ◌∙◌, arith}
use Rattle.std.proofs.lemmas.List.{take_all}
use Rattle.std.proofs.lemmas.List.Elements.{filter_map-append}
use Rattle.std.specs.FinMap as fin
use Rattle.std.specs.List.{filter_map, cons_option, enumerate_from, AllByRecursion}
use Rattle.pv_lines.specs.declared.line.Line.{Line}
use Rattle.pv_path.specs.Paths.{Path}
use Rattle.pv_path.proofs.PathLaws.{is_prefix-refl}
use Rattle.pv_table.proofs.ListedLaws.{order_at, same_length, there_of}
use Rattle.pv_table.specs.Active.{Listed, ordered, create_order, in_create_order}
use Rattle.pv_table.specs.Pointwise.{ObjectStates, pointwise_after, state}
use Rattle.pv_table.specs.Repeatable.{IsAt}
use Rattle.pv_explain.specs.declared.following.Scope.{Scope}
use Rattle.pv_explain.specs.declared.following.Scope.TheVariants.{Along, Within}
use Rattle.pv_explain.specs.Acts.{line_act, acts, last}
use Rattle.pv_explain.specs.Following.{Fits, Follows, Suits}
use Rattle.pv_explain.proofs.RegionLaws.{holds_path, holds_copy}

-- ---- lists

take_suc : {A : Type 0} (xs : List A) (i : ℕ) (x : A) → slice_get xs i ≡ Some x → take (suc i) xs ≡ take i xs ++ x ∷ []
take_suc [] i x e = absurd cc
take_suc (y ∷ xs) zero x e = let same : y ≡ x = cc in ap (λ z. z ∷ []) same
take_suc (y ∷ xs) (suc i) x e = ap (λ ys. y ∷ ys) (take_suc xs i x e)

pub take_next : {A : Type 0} (xs : List A) (i : ℕ) (x : A) → slice_get xs i ≡ Some x → take (i + 1) xs ≡ take i xs ++ x ∷ []
take_next xs i x e = let next : i + 1 ≡ suc i = omega arith in ap (λ n. take n xs) next ∙ take_suc xs i x e

numbered : {A : Type 0} (xs : List A) (n i : ℕ) (x : A) → slice_get xs i ≡ Some x → slice_get (enumerate_from n xs) i ≡ Some (n + i, x)
numbered [] n i x e = absurd cc
numbered (y ∷ xs) n zero x e = let same : y ≡ x = cc in let none : n ≡ n + 0 = omega arith in λ j. Some (none j, same j)
numbered (y ∷ xs) n (suc i) x e = let next : n + 1 + i ≡ n + suc i = omega arith in numbered xs (n + 1) i x e ∙ ap (λ k. Some (k, x)) next

fold_more : (xs : List Line) (x : Line) (s : ObjectStates) → fold pointwise_after s (xs ++ x ∷ []) ≡ pointwise_after (fold pointwise_after s xs) x
fold_more [] x s = refl
fold_more (y ∷ xs) x s = fold_more xs x (pointwise_after s y)

length_numbered : {A : Type 0} (xs : List A) (n : ℕ) → length (enumerate_from n xs) ≡ length xs
length_numbered [] n = refl
length_numbered (x ∷ xs) n = ap suc (length_numbered xs (n + 1))

-- ---- the lines by their places

module _ (lines : List Line) where
  line_of : (listed : List Listed) → AllByRecursion (λ (x : Listed). IsAt lines x.0 x.1) listed → (i place : ℕ) (line : Line)
      → i < length (map (λ (x : Listed). x.0) listed) → place ≡ get_or (map (λ (x : Listed). x.0) listed) i 0 → slice_get lines place ≡ Some line
      → slice_get (map (λ (x : Listed). x.1) listed) i ≡ Some line
  line_of [] are i place line within is at = absurd (omega (arith, within))
  line_of (x ∷ listed) are zero place line within is at = sym are.0 ∙ ap (slice_get lines) (sym is) ∙ at
  line_of (x ∷ listed) are (suc i) place line within is at = line_of listed are.1 i place line (omega (arith, within)) is at

  module _ (i place : ℕ) (within : i < length (create_order lines)) (is : place ≡ get_or (create_order lines) i 0) where
    pub is_there : is_some (slice_get lines place) ≡ true
    is_there = there_of lines (ordered (enumerate_from 0 lines)) (order_at lines) i place within is

    pub is_next : (line : Line) → slice_get lines place ≡ Some line → slice_get (in_create_order lines) i ≡ Some line
    is_next line at = line_of (ordered (enumerate_from 0 lines)) (order_at lines) i place line within is at

  pub order-length : length (create_order lines) ≡ length (in_create_order lines)
  order-length = same_length (ordered (enumerate_from 0 lines))

  -- ---- one line more

  module _ (s : ObjectStates) (i : ℕ) (line : Line) (at : slice_get (in_create_order lines) i ≡ Some line) where
    pub state_more : state lines (i + 1) s ≡ pointwise_after (state lines i s) line
    state_more = ap (fold pointwise_after s) (take_next (in_create_order lines) i line at) ∙ fold_more (take i (in_create_order lines)) line s

    -- the acts of the first lines, with that of one more
    pub acts_more : (path : Path) → filter_map (line_act lines s path) (take (i + 1) (enumerate_from 0 (in_create_order lines)))
        ≡ filter_map (line_act lines s path) (take i (enumerate_from 0 (in_create_order lines))) ++ cons_option (line_act lines s path (i, line)) []
    acts_more path =
        let none : 0 + i ≡ i = omega arith in
        let here : slice_get (enumerate_from 0 (in_create_order lines)) i ≡ Some (i, line) = numbered (in_create_order lines) 0 i line at ∙ ap (λ k. Some (k, line)) none in
        ap (filter_map (line_act lines s path)) (take_next (enumerate_from 0 (in_create_order lines)) i (i, line) here)
        ∙ filter_map-append (line_act lines s path) (take i (enumerate_from 0 (in_create_order lines))) ((i, line) ∷ [])

  -- ---- after all

  module _ (s : ObjectStates) (i : ℕ) (past : length (in_create_order lines) ≤ i) where
    pub state_end : (path : Path) → fin.get (state lines i s) path ≡ last lines s path
    state_end path =
        ap (λ ls. fin.get (fold pointwise_after s ls) path) (
        take_all i (in_create_order lines) (omega (arith, past)) ∙ sym (take_all (length (in_create_order lines)) (in_create_order lines) (omega arith)))

    pub acts_end : (path : Path) → filter_map (line_act lines s path) (take i (enumerate_from 0 (in_create_order lines))) ≡ acts lines s path
    acts_end path =
        let long = length_numbered (in_create_order lines) 0 in
        ap (filter_map (line_act lines s path)) (take_all i (enumerate_from 0 (in_create_order lines)) (omega (arith, past, long)))

-- ---- what is followed

-- it has at the path the object there
pub follows_path : (lines : List Line) (scope : Scope) (path : Path) → Fits scope path lines → (r s : ObjectStates) → Follows scope path r s → fin.get r path ≡ fin.get s path
follows_path lines (Along places) path fits r s f = f.same path (is_prefix-refl path)
follows_path lines (Within region) path fits r s f = f.same path (holds_path lines path region fits)

-- each line suits it
pub suits_line : (lines : List Line) (scope : Scope) (path : Path) → Fits scope path lines → (place : ℕ) (line : Line) → slice_get lines place ≡ Some line → Suits scope path line
suits_line lines (Along places) path fits place line at = fits
suits_line lines (Within region) path fits place line at = holds_copy lines path region fits place line at
