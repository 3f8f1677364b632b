-- Laws of the lines in the order of the create phase: what holds of all lines holds of those that are carried out, and each of
-- them stands at its place.
use Rattle.std.specs.Prelude.{◌≡◌, ℕ, ◌+◌, ◌<◌, Bool, true, false, not, cond, ◌&&◌, List, [], ◌∷◌, ◌++◌, length, map, filter, fold, drop, get_or, slice_get, Some, is_some}
use Rattle.std.proofs.Common.{zero, suc, refl, sym, ap, ◌∙◌, arith}
use Rattle.std.specs.List.{enumerate_from, AllByRecursion}
use Rattle.pv_path.specs.Paths.{same_path, is_prefix}
use Rattle.pv_lines.specs.declared.line.Line.{Line}
pub use Rattle.pv_walk.proofs.OrderLaws.{all_map}
use Rattle.pv_table.specs.Active.{Listed, placed, is_adjusting_line, ordered, in_create_order}
use Rattle.pv_table.specs.Reaching.{path_in, is_creating}
use Rattle.pv_table.specs.Repeatable.{IsAt}

-- ---- what holds of all lines holds of those that are carried out

module _ {A : Type 0} (P : A → Type 0) where
  pub all_append : (xs ys : List A) → AllByRecursion P xs → AllByRecursion P ys → AllByRecursion P (xs ++ ys)
  all_append [] ys h g = g
  all_append (x ∷ xs) ys h g = (h.0, all_append xs ys h.1 g)

  pub all_filter : (test : A → Bool) (xs : List A) → AllByRecursion P xs → AllByRecursion P (filter test xs)
  all_filter test [] h = tt
  all_filter test (x ∷ xs) h =
      let rest = all_filter test xs h.1 in
      elim (test x) as (λ b. AllByRecursion P (cond b (x ∷ filter test xs) (filter test xs))) [ true ↦ (h.0, rest) | false ↦ rest ]

pub all_tests : {A : Type 0} (test : A → Bool) (xs : List A) → AllByRecursion (λ x. test x ≡ true) (filter test xs)
all_tests test [] = tt
all_tests test (x ∷ xs) = by (test x) refl (all_tests test xs)
  where
    by : (b : Bool) → test x ≡ b → AllByRecursion (λ x. test x ≡ true) (filter test xs) → AllByRecursion (λ x. test x ≡ true) (cond b (x ∷ filter test xs) (filter test xs))
    by true e rest = (e, rest)
    by false e rest = rest

module _ (P : Listed → Type 0) where
  pub all_placed : (xs : List Listed) (x : Listed) → AllByRecursion P xs → P x → AllByRecursion P (placed xs x)
  all_placed [] x h g = (g, tt)
  all_placed (first ∷ xs) x h g =
      let rest = all_placed xs x h.1 g in
      elim (is_prefix (path_in x.1.path) (path_in first.1.path) && not (same_path (path_in x.1.path) (path_in first.1.path))) as (λ b. AllByRecursion P (cond b (x ∷ first ∷ xs) (first ∷ placed xs x))) [
        | true ↦ (g, h)
        | false ↦ (h.0, rest)
      ]

  all_folded : (xs acc : List Listed) → AllByRecursion P acc → AllByRecursion P xs → AllByRecursion P (fold placed acc xs)
  all_folded [] acc h g = h
  all_folded (x ∷ xs) acc h g = all_folded xs (placed acc x) (all_placed acc x h g.0) g.1

  -- the lines that make an object, in their order
  abbrev pub makers : List Listed → List Listed
  makers lines = fold placed [] (filter (λ line. is_creating line.1) lines)

  -- and those that adjust what is there
  abbrev pub adjusters : List Listed → List Listed
  adjusters lines = filter (λ line. is_adjusting_line line.1) lines

  pub all_makers : (lines : List Listed) → AllByRecursion P lines → AllByRecursion P (makers lines)
  all_makers lines h = all_folded (filter (λ line. is_creating line.1) lines) [] tt (all_filter P (λ line. is_creating line.1) lines h)

  pub all_ordered : (lines : List Listed) → AllByRecursion P lines → AllByRecursion P (ordered lines)
  all_ordered lines h = all_append P (makers lines) (adjusters lines) (all_makers lines h) (all_filter P (λ line. is_adjusting_line line.1) lines h)

-- each of them makes an object
pub makers_create : (lines : List Listed) → AllByRecursion (λ (line : Listed). is_creating line.1 ≡ true) (fold placed [] (filter (λ line. is_creating line.1) lines))
makers_create lines = all_folded (λ (line : Listed). is_creating line.1 ≡ true) (filter (λ line. is_creating line.1) lines) [] tt (all_tests (λ (line : Listed). is_creating line.1) lines)

pub all_listed : (P : Line → Type 0) (n : ℕ) (lines : List Line) → AllByRecursion P lines → AllByRecursion (λ (line : Listed). P line.1) (enumerate_from n lines)
all_listed P n [] h = tt
all_listed P n (line ∷ lines) h = (h.0, all_listed P (n + 1) lines h.1)

all_unlisted : (P : Line → Type 0) (lines : List Listed) → AllByRecursion (λ (line : Listed). P line.1) lines → AllByRecursion P (map (λ line. line.1) lines)
all_unlisted P [] h = tt
all_unlisted P (line ∷ lines) h = (h.0, all_unlisted P lines h.1)

pub all_in_order : (P : Line → Type 0) (lines : List Line) → AllByRecursion P lines → AllByRecursion P (in_create_order lines)
all_in_order P lines h = all_unlisted P (ordered (enumerate_from 0 lines)) (all_ordered (λ (line : Listed). P line.1) (enumerate_from 0 lines) (all_listed P 0 lines h))

-- each stands at its place
pub all_at : (lines rest : List Line) (n : ℕ) → ((i : ℕ) → slice_get lines (n + i) ≡ slice_get rest i) → AllByRecursion (λ (line : Listed). IsAt lines line.0 line.1) (enumerate_from n rest)
all_at lines [] n h = tt
all_at lines (line ∷ rest) n h = (
  (let same : n ≡ n + 0 = omega arith in ap (slice_get lines) same ∙ h 0),
  all_at lines rest (n + 1) (λ i. (let same : n + 1 + i ≡ n + suc i = omega arith in ap (slice_get lines) same ∙ h (suc i))),
)

pub order_at : (lines : List Line) → AllByRecursion (λ (x : Listed). IsAt lines x.0 x.1) (ordered (enumerate_from 0 lines))
order_at lines =
    all_ordered (λ (x : Listed). IsAt lines x.0 x.1) (enumerate_from 0 lines) (all_at lines lines 0 (λ j. let same : 0 + j ≡ j = omega arith in ap (slice_get lines) same))

-- ---- the lines by their places

pub same_length : (listed : List Listed) → length (map (λ (x : Listed). x.0) listed) ≡ length (map (λ (x : Listed). x.1) listed)
same_length [] = refl
same_length (x ∷ listed) = ap suc (same_length listed)

module _ (lines : List Line) where
  -- the line at a place is the next of those that are left
  pub left_of : (listed : List Listed) → AllByRecursion (λ (x : Listed). IsAt lines x.0 x.1) listed → (i place : ℕ) (line : Line)
      → i < length (map (λ (x : Listed). x.0) listed) → place ≡ get_or (map (λ (x : Listed). x.0) listed) i 0 → slice_get lines place ≡ Some line
      → drop i (map (λ (x : Listed). x.1) listed) ≡ line ∷ drop (suc i) (map (λ (x : Listed). x.1) listed)
  left_of [] are i place line within is at = absurd (omega (arith, within))
  left_of (x ∷ listed) are zero place line within is at =
      let both : Some x.1 ≡ Some line = sym are.0 ∙ ap (slice_get lines) (sym is) ∙ at in
      let same : x.1 ≡ line = cc in
      ap (λ (l : Line). l ∷ map (λ (y : Listed). y.1) listed) same
  left_of (x ∷ listed) are (suc i) place line within is at = left_of listed are.1 i place line (omega (arith, within)) is at

  -- and it is there
  pub there_of : (listed : List Listed) → AllByRecursion (λ (x : Listed). IsAt lines x.0 x.1) listed → (i place : ℕ)
      → i < length (map (λ (x : Listed). x.0) listed) → place ≡ get_or (map (λ (x : Listed). x.0) listed) i 0 → is_some (slice_get lines place) ≡ true
  there_of [] are i place within is = absurd (omega (arith, within))
  there_of (x ∷ listed) are zero place within is = ap is_some (ap (slice_get lines) is ∙ are.0)
  there_of (x ∷ listed) are (suc i) place within is = there_of listed are.1 i place (omega (arith, within)) is
