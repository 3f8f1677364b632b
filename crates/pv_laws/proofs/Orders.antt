-- The order of the create phase: a line that makes an object comes before those that make one below it.
use Rattle.std.specs.Prelude.{⊤, ◌≡◌, ◌≢◌, ℕ, ◌+◌, Bool, true, false, not, cond, ◌&&◌, ◌||◌, List, [], ◌∷◌, filter, fold}
use Rattle.std.proofs.Common.{refl, sym, ap, ◌∙◌}
use Rattle.std.specs.List.{list_any, enumerate_from, AllByRecursion}
use Rattle.std.proofs.lemmas.Bool.{not-true, and_parts, false_from_ne_true}
use Rattle.pv_path.specs.Paths.{Path, same_path, is_prefix, same_path-decides}
use Rattle.pv_path.proofs.PathLaws.{is_prefix-trans, is_prefix-antisym}
use Rattle.pv_lines.specs.declared.line.Line.{Line}
use Rattle.pv_table.specs.Active.{make_same, are_distinct, Listed, placed}
use Rattle.pv_table.specs.Reaching.{path_in, is_creating}
use Rattle.pv_table.proofs.ListedLaws.{all_map, all_placed}
use Rattle.pv_path.proofs.Tests.{true_not_false, first_false, second_false}

-- ---- what lies above comes first

-- a relation between each element and each after it
abbrev pub Pairwise : {A : Type 0} → (A → A → Type 0) → List A → Type 0
Pairwise R [] = ⊤
Pairwise R (x ∷ xs) = AllByRecursion (R x) xs × Pairwise R xs

-- the path of a line
abbrev pub path_of : Listed → Path
path_of line = path_in line.1.path

-- two lines make different objects
abbrev pub Differ : Listed → Listed → Type 0
Differ a b = path_of a ≢ path_of b

-- the path of the second is not above that of the first, nor the same
abbrev pub ComesAfter : Listed → Listed → Type 0
ComesAfter a b = is_prefix (path_of b) (path_of a) ≡ false

placed_ordered : (xs : List Listed) (x : Listed) → Pairwise ComesAfter xs → AllByRecursion (λ y. Differ y x) xs → Pairwise ComesAfter (placed xs x)
placed_ordered [] x h other = (tt, tt)
placed_ordered (first ∷ xs) x h other = by (is_prefix (path_of x) (path_of first)) refl (same_path (path_of x) (path_of first)) refl (placed_ordered xs x h.1 other.1)
  where
    not_above : is_prefix (path_of x) (path_of first) ≡ true → (y : Listed) → (is_prefix (path_of y) (path_of x) ≡ true → ⊥) → ComesAfter x y
    not_above below y never = false_from_ne_true _ (λ e. never e)

    before : is_prefix (path_of x) (path_of first) ≡ true → AllByRecursion (ComesAfter x) (first ∷ xs)
    before below = (
      not_above below first (λ e. other.0 (is_prefix-antisym (path_of first) (path_of x) e below)),
      all_map (ComesAfter first) (ComesAfter x) (λ y after. not_above below y (λ e. true_not_false (is_prefix (path_of y) (path_of first)) (is_prefix-trans (path_of y) (path_of x) (path_of first) e below) after)) xs h.0,
    )

    by : (a : Bool) → is_prefix (path_of x) (path_of first) ≡ a → (s : Bool) → same_path (path_of x) (path_of first) ≡ s → Pairwise ComesAfter (placed xs x)
        → Pairwise ComesAfter (cond (a && not s) (x ∷ first ∷ xs) (first ∷ placed xs x))
    by true e true d rest = absurd (other.0 (sym ((same_path-decides (path_of x) (path_of first)).0 d)))
    by true e false d rest = (before e, h)
    by false e s d rest = (all_placed (ComesAfter first) xs x h.0 e, rest)

folded_ordered : (xs acc : List Listed) → Pairwise ComesAfter acc → Pairwise Differ xs → AllByRecursion (λ x. AllByRecursion (λ y. Differ y x) acc) xs → Pairwise ComesAfter (fold placed acc xs)
folded_ordered [] acc h differ other = h
folded_ordered (x ∷ xs) acc h differ other = folded_ordered xs (placed acc x) (placed_ordered acc x h other.0) differ.1 (further xs differ.0 other.1)
  where
    further : (zs : List Listed) → AllByRecursion (Differ x) zs → AllByRecursion (λ z. AllByRecursion (λ y. Differ y z) acc) zs → AllByRecursion (λ z. AllByRecursion (λ y. Differ y z) (placed acc x)) zs
    further [] f g = tt
    further (z ∷ zs) f g = (all_placed (λ y. Differ y z) acc x g.0 f.0, further zs f.1 g.1)

-- ---- no two lines make one object

others : (line : Line) → is_creating line ≡ true → (n m : ℕ) (lines : List Line) → list_any (make_same line) lines ≡ false → AllByRecursion (Differ (n, line)) (filter (λ (l : Listed). is_creating l.1) (enumerate_from m lines))
others line creates n m [] h = tt
others line creates n m (l ∷ lines) h = by (is_creating l) refl (list_any (make_same line) lines) (others line creates n (m + 1) lines) h
  where
    differ : is_creating l ≡ true → make_same line l ≡ false → path_in line.path ≢ path_in l.path
    differ c g e = true_not_false (same_path (path_in line.path) (path_in l.path)) ((same_path-decides (path_in line.path) (path_in l.path)).1 e) (
        sym (ap (λ b. b && is_creating l && same_path (path_in line.path) (path_in l.path)) creates ∙ ap (λ b. b && same_path (path_in line.path) (path_in l.path)) c) ∙ g)

    by : (c : Bool) → is_creating l ≡ c → (any : Bool) → (list_any (make_same line) lines ≡ false → AllByRecursion (Differ (n, line)) (filter (λ (k : Listed). is_creating k.1) (enumerate_from (m + 1) lines))) → (make_same line l || list_any (make_same line) lines) ≡ false
        → AllByRecursion (Differ (n, line)) (cond c ((m, l) ∷ filter (λ (k : Listed). is_creating k.1) (enumerate_from (m + 1) lines)) (filter (λ (k : Listed). is_creating k.1) (enumerate_from (m + 1) lines)))
    by true e any rest g = (differ e (first_false (make_same line l) (list_any (make_same line) lines) g), rest (second_false (make_same line l) (list_any (make_same line) lines) g))
    by false e any rest g = rest (second_false (make_same line l) (list_any (make_same line) lines) g)

distinct_listed : (n : ℕ) (lines : List Line) → are_distinct lines ≡ true → Pairwise Differ (filter (λ (l : Listed). is_creating l.1) (enumerate_from n lines))
distinct_listed n [] h = tt
distinct_listed n (line ∷ lines) h =
    by (is_creating line) refl (and_parts (not (list_any (make_same line) lines)) (are_distinct lines) h) (distinct_listed (n + 1) lines)
  where
    by : (c : Bool) → is_creating line ≡ c → (not (list_any (make_same line) lines) ≡ true) × (are_distinct lines ≡ true)
        → (are_distinct lines ≡ true → Pairwise Differ (filter (λ (l : Listed). is_creating l.1) (enumerate_from (n + 1) lines)))
        → Pairwise Differ (cond c ((n, line) ∷ filter (λ (l : Listed). is_creating l.1) (enumerate_from (n + 1) lines)) (filter (λ (l : Listed). is_creating l.1) (enumerate_from (n + 1) lines)))
    by true e two rest = (others line e n (n + 1) lines (not-true (list_any (make_same line) lines) two.0), rest two.1)
    by false e two rest = rest two.1

-- so a line that makes an object comes before those that make one below it
pub makers_ordered : (lines : List Line) → are_distinct lines ≡ true → Pairwise ComesAfter (fold placed [] (filter (λ (l : Listed). is_creating l.1) (enumerate_from 0 lines)))
makers_ordered lines h = folded_ordered (filter (λ (l : Listed). is_creating l.1) (enumerate_from 0 lines)) [] tt (distinct_listed 0 lines h) (none (filter (λ (l : Listed). is_creating l.1) (enumerate_from 0 lines)))
  where
    none : (xs : List Listed) → AllByRecursion (λ (x : Listed). AllByRecursion (λ y. Differ y x) []) xs
    none [] = tt
    none (x ∷ xs) = (tt, none xs)
