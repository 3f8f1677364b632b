-- Creating lines that are placed one by one rise by their ranks.
use Rattle.std.proofs.Common.{◌≡◌, ◌∙◌, sym, ap, refl, arith, add-one, suc, zero, inl, inr}
use Rattle.std.specs.Prelude.{ℕ, ◌+◌, ◌<◌, ◌≤◌, ◌≢◌, ◌⊎◌, Bool, true, false, not, cond, ◌&&◌, List, [], ◌∷◌, ◌++◌, length, map, filter, fold, Option, Some, None, option_map, unwrap_or, slice_get, drop}
use Rattle.std.specs.List.{list_any, enumerate_from}
use Rattle.std.specs.Cmp.{nat_cmp_is}
use Rattle.std.specs.declared.cmp.Ordering.TheVariants.{Less, Equal, Greater}
use Rattle.std.proofs.lemmas.Bool.{cases_lt, and_parts, or_parts, not-false, not-true}
use Rattle.std.specs.BTreeMap.{insert_entry}
use Rattle.pv_path.specs.Paths.{Path, is_prefix, same_path, same_path-decides}
use Rattle.std.proofs.Common.{get_or}
use Rattle.std.proofs.lemmas.Option.{slice_get_read}
use Rattle.pv_lines.specs.declared.line.LinePath.{LinePath}
use Rattle.pv_lines.specs.declared.line.LinePath.TheVariants.{Literal}
use Rattle.pv_table.specs.Building.{makes}
use Rattle.pv_table.specs.Ranking.{first_known}
use Rattle.pv_path.proofs.PathLaws.{same_path-refl}
use Rattle.pv_path.proofs.PathLaws.{is_prefix-refl, is_prefix-trans, prefix_whole, prefixes_compare}
use Rattle.pv_lines.specs.declared.line.Line.{Line}
use Rattle.pv_table.specs.Active.{Listed, are_distinct, make_same, placed}
use Rattle.pv_table.specs.Reaching.{is_creating, path_in}
use Rattle.pv_table.specs.Building.{first_index}
use Rattle.pv_table.specs.Ranking.{Rank, first_under, makes_under, rank_cmp, rank_of, with_rank}
use Rattle.pv_path.proofs.Tests.{next_item}

-- ---- the first place

-- the object at the first place passes
pub record IsFirst {A : Type 0} (test : A → Bool) (xs : List A) (i : ℕ) : Type 0 where
  pub item : A
  pub there : slice_get xs i ≡ Some item
  pub passes : test item ≡ true

pub first_index-passes : {A : Type 0} (test : A → Bool) (xs : List A) (i : ℕ) → first_index test xs ≡ Some i → IsFirst test xs i
first_index-passes test [] i e = cc
first_index-passes {A} test (x ∷ xs) i e = by_test (first_index-passes test xs) (test x) refl e
  where
    later : (k : ℕ) → IsFirst test xs k → IsFirst test (x ∷ xs) (suc k)
    later k w = record { item = w.item; there = w.there; passes = w.passes }

    here : (i : ℕ) → test x ≡ true → ◌≡◌ {A = Option ℕ} (Some 0) (Some i) → IsFirst test (x ∷ xs) i
    here zero t h = record { item = x; there = refl; passes = t }
    here (suc j) t h = cc

    below : ((k : ℕ) → first_index test xs ≡ Some k → IsFirst test xs k) → (i : ℕ) (o : Option ℕ) → first_index test xs ≡ o → option_map suc o ≡ Some i → IsFirst test (x ∷ xs) i
    below rest i None s h = cc
    below rest zero (Some k) s h = cc
    below rest (suc j) (Some k) s h = later j (let same : k ≡ j = cc in rest j (s ∙ ap (λ (n : ℕ). Some n) same))

    by_test : ((k : ℕ) → first_index test xs ≡ Some k → IsFirst test xs k) → (b : Bool) → test x ≡ b → cond b (Some 0) (option_map suc (first_index test xs)) ≡ Some i → IsFirst test (x ∷ xs) i
    by_test rest true t h = here i t h
    by_test rest false t h = below rest i (first_index test xs) refl h

-- no item that passes stands before it
pub record IsLeast {A : Type 0} (test : A → Bool) (xs : List A) (j : ℕ) : Type 0 where
  pub place : ℕ
  pub is : first_index test xs ≡ Some place
  pub least : place ≤ j

pub first_index-least : {A : Type 0} (test : A → Bool) (xs : List A) (j : ℕ) (x : A) → slice_get xs j ≡ Some x → test x ≡ true → IsLeast test xs j
first_index-least test [] j x there passes = cc
first_index-least {A} test (y ∷ xs) j x there passes = by_test (λ k h. first_index-least test xs k x h passes) (test y) refl j there
  where
    none : (j : ℕ) → test y ≡ true → IsLeast test (y ∷ xs) j
    none j t = record { place = 0; is = rw t refl; least = omega arith }

    later : (j : ℕ) → test y ≡ false → IsLeast test xs j → IsLeast test (y ∷ xs) (suc j)
    later j t w = record { place = suc w.place; is = rw (t, w.is) refl; least = omega (arith, w.least) }

    by_test : ((k : ℕ) → slice_get xs k ≡ Some x → IsLeast test xs k) → (b : Bool) → test y ≡ b → (j : ℕ) → slice_get (y ∷ xs) j ≡ Some x → IsLeast test (y ∷ xs) j
    by_test rest true t j h = none j t
    by_test rest false t zero h = absurd (let same : y ≡ x = cc in let yes : test y ≡ true = ap test same ∙ passes in cc)
    by_test rest false t (suc k) h = later k t (rest k h)

-- ---- lines that make different paths

none_passes : {A : Type 0} (test : A → Bool) (xs : List A) (j : ℕ) (x : A) → list_any test xs ≡ false → slice_get xs j ≡ Some x → test x ≡ false
none_passes test [] j x none there = cc
none_passes test (y ∷ xs) zero x none there = let same : y ≡ x = cc in let u = or_parts (test y) (list_any test xs) none in ap test (sym same) ∙ u.0
none_passes test (y ∷ xs) (suc j) x none there = let u = or_parts (test y) (list_any test xs) none in none_passes test xs j x u.1 there

pub distinct-apart : (lines : List Line) (i j : ℕ) (a b : Line) → are_distinct lines ≡ true → slice_get lines i ≡ Some a → slice_get lines j ≡ Some b → i < j → make_same a b ≡ false
distinct-apart [] i j a b e at_i at_j l = cc
distinct-apart (line ∷ lines) i zero a b e at_i at_j l = absurd (omega arith)
distinct-apart (line ∷ lines) zero (suc j) a b e at_i at_j l =
    let same : line ≡ a = cc in
    let u = and_parts (not (list_any (make_same line) lines)) (are_distinct lines) e in
    ap (λ (c : Line). make_same c b) (sym same) ∙ none_passes (make_same line) lines j b (not-true (list_any (make_same line) lines) u.0) at_j
distinct-apart (line ∷ lines) (suc i) (suc j) a b e at_i at_j l =
    let u = and_parts (not (list_any (make_same line) lines)) (are_distinct lines) e in
    distinct-apart lines i j a b u.1 at_i at_j (omega arith)

-- ---- ranks

-- a creating line at its place
pub record IsItem (lines : List Line) (x : Listed) : Type 0 where
  pub at : slice_get lines x.0 ≡ Some x.1
  pub creates : is_creating x.1 ≡ true

abbrev path_at : Listed → Path
path_at x = path_in x.1.path

abbrev first_of : List Line → Listed → ℕ
first_of lines x = (rank_of lines x.1).0

-- something is made at or below the path of a line, at its own place at the latest
pub record HasFirst (lines : List Line) (x : Listed) : Type 0 where
  pub is : first_under lines (path_at x) ≡ Some (first_of lines x)
  pub own : first_of lines x ≤ x.0

passes_under : (q : Path) (line : Line) → is_creating line ≡ true → is_prefix q (path_in line.path) ≡ true → makes_under q line ≡ true
passes_under q line creates under = rw (creates, under) refl

has_first : (lines : List Line) (x : Listed) → IsItem lines x → HasFirst lines x
has_first lines x i =
    let w = first_index-least (makes_under (path_at x)) lines x.0 x.1 i.at (passes_under (path_at x) x.1 i.creates (is_prefix-refl (path_at x))) in
    let first : first_of lines x ≡ w.place = ap (λ (o : Option ℕ). unwrap_or o 0) w.is in
    record { is = w.is ∙ ap (λ (n : ℕ). Some n) (sym first); own = omega (arith, w.least) }

-- what is made first below a path is made no earlier than what is made first at or below a path above it
first-below : (lines : List Line) (x e : Listed) → IsItem lines x → IsItem lines e → is_prefix (path_at x) (path_at e) ≡ true → first_of lines x ≤ first_of lines e
first-below lines x e is_x is_e under =
    let w = first_index-passes (makes_under (path_at e)) lines (first_of lines e) (has_first lines e is_e).is in
    let u = and_parts (is_creating w.item) (is_prefix (path_at e) (path_in w.item.path)) w.passes in
    let passes = passes_under (path_at x) w.item u.0 (is_prefix-trans (path_at x) (path_at e) (path_in w.item.path) under u.1) in
    let v = first_index-least (makes_under (path_at x)) lines (first_of lines e) w.item w.there passes in
    let same : Some v.place ≡ Some (first_of lines x) = sym v.is ∙ (has_first lines x is_x).is in
    let first : v.place ≡ first_of lines x = cc in
    omega (arith, v.least)

-- whether one path lies strictly below another
abbrev lies_below : Path → Path → Bool
lies_below p q = is_prefix p q && not (same_path p q)

strictly : (p q : Path) → lies_below p q ≡ true → (is_prefix p q ≡ true) × (length p < length q)
strictly p q e =
    let u = and_parts (is_prefix p q) (not (same_path p q)) e in
    let other = not-true (same_path p q) u.1 in
    (u.0, by_length (cases_lt (length p) (length q)) u.0 other)
  where
    by_length : (length p < length q) ⊎ (length q ≤ length p) → is_prefix p q ≡ true → same_path p q ≡ false → length p < length q
    by_length (inl l) u other = l
    by_length (inr l) u other = absurd (let same : same_path p q ≡ true = (same_path-decides p q).1 (prefix_whole p q u l) in cc)

-- of two prefixes of one path, one that does not lie above the other is shorter, or the same
shorter : (p q r : Path) → is_prefix p r ≡ true → is_prefix q r ≡ true → lies_below p q ≡ false → q ≢ p → length q < length p
shorter p q r a b beside other = by_prefix (prefixes_compare p q r a b)
  where
    by_length : is_prefix q p ≡ true → (length q < length p) ⊎ (length p ≤ length q) → length q < length p
    by_length u (inl l) = l
    by_length u (inr l) = absurd (other (prefix_whole q p u l))

    by_prefix : (is_prefix p q ≡ true) ⊎ (is_prefix q p ≡ true) → length q < length p
    by_prefix (inl u) = absurd (other (sym ((same_path-decides p q).0 (let e : not (same_path p q) ≡ false = rw u at beside in not-false (same_path p q) e))))
    by_prefix (inr u) = by_length u (cases_lt (length q) (length p))

-- one rank comes before another
abbrev pub IsBefore : Rank → Rank → Type 0
IsBefore a b = (a.0 < b.0) ⊎ ((a.0 ≡ b.0) × (a.1 < b.1))

less-before : (a b : Rank) → IsBefore a b → rank_cmp a b ≡ Less
less-before a b (inl l) = rw (sym (nat_cmp_is a.0 b.0 Less l)) refl
less-before a b (inr l) = rw (sym (nat_cmp_is a.0 b.0 Equal l.0)) (sym (nat_cmp_is a.1 b.1 Less l.1))

greater-before : (a b : Rank) → IsBefore a b → rank_cmp b a ≡ Greater
greater-before a b (inl l) = rw (sym (nat_cmp_is b.0 a.0 Greater l)) refl
greater-before a b (inr l) = rw (sym (nat_cmp_is b.0 a.0 Equal (sym l.0))) (sym (nat_cmp_is b.1 a.1 Greater l.1))

-- a line ranks before one whose path lies below its own
before-below : (lines : List Line) (x e : Listed) → IsItem lines x → IsItem lines e → lies_below (path_at x) (path_at e) ≡ true → IsBefore (rank_of lines x.1) (rank_of lines e.1)
before-below lines x e is_x is_e below =
    let u = strictly (path_at x) (path_at e) below in
    let l = first-below lines x e is_x is_e u.0 in
    by_first l u.1 (cases_lt (first_of lines x) (first_of lines e))
  where
    by_first : first_of lines x ≤ first_of lines e → length (path_at x) < length (path_at e) → (first_of lines x < first_of lines e) ⊎ (first_of lines e ≤ first_of lines x) → IsBefore (rank_of lines x.1) (rank_of lines e.1)
    by_first l s (inl h) = inl h
    by_first l s (inr h) = inr (omega arith, s)

-- a line whose path does not lie below that of another ranks before it, where what is made first at or below its path is no later
before-beside : (lines : List Line) (x e : Listed) → IsItem lines x → IsItem lines e → lies_below (path_at x) (path_at e) ≡ false → path_at e ≢ path_at x → first_of lines e ≤ first_of lines x
    → IsBefore (rank_of lines e.1) (rank_of lines x.1)
before-beside lines x e is_x is_e beside other l = by_first (cases_lt (first_of lines e) (first_of lines x))
  where
    at_one : first_of lines e ≡ first_of lines x → length (path_at e) < length (path_at x)
    at_one same =
        let v = first_index-passes (makes_under (path_at x)) lines (first_of lines x) (has_first lines x is_x).is in
        let w = first_index-passes (makes_under (path_at e)) lines (first_of lines e) (has_first lines e is_e).is in
        let one : Some v.item ≡ Some w.item = sym v.there ∙ ap (slice_get lines) (sym same) ∙ w.there in
        let item : w.item ≡ v.item = cc in
        let u = and_parts (is_creating v.item) (is_prefix (path_at x) (path_in v.item.path)) v.passes in
        let t = and_parts (is_creating w.item) (is_prefix (path_at e) (path_in w.item.path)) w.passes in
        shorter (path_at x) (path_at e) (path_in v.item.path) u.1 (sym (ap (λ (c : Line). is_prefix (path_at e) (path_in c.path)) item) ∙ t.1) beside other

    by_first : (first_of lines e < first_of lines x) ⊎ (first_of lines x ≤ first_of lines e) → IsBefore (rank_of lines e.1) (rank_of lines x.1)
    by_first (inl h) = inl h
    by_first (inr h) = let same : first_of lines e ≡ first_of lines x = omega arith in inr (same, at_one same)

-- ---- lines that are placed

-- what holds of each item
abbrev pub Each : {A : Type 0} → (A → Type 0) → List A → Type 0
Each P [] = Unit {0}
Each P (x ∷ xs) = P x × Each P xs

each-of : {A : Type 0} (P Q : A → Type 0) (xs : List A) → ((x : A) → P x → Q x) → Each P xs → Each Q xs
each-of P Q [] f h = tt
each-of P Q (x ∷ xs) f h = (f x h.0, each-of P Q xs f h.1)

each-placed : (P : Listed → Type 0) (s : List Listed) (x : Listed) → Each P s → P x → Each P (placed s x)
each-placed P [] x each here = (here, tt)
each-placed P (e ∷ s) x each here = by_test (lies_below (path_at x) (path_at e)) (each-placed P s x each.1 here)
  where
    by_test : (b : Bool) → Each P (placed s x) → Each P (cond b (x ∷ e ∷ s) (e ∷ placed s x))
    by_test true rest = (here, (each.0, each.1))
    by_test false rest = (each.0, rest)

-- a line of this place is among them
abbrev pub Has : ℕ → List Listed → Type 0
Has j [] = ⊥
Has j (x ∷ xs) = (x.0 ≡ j) ⊎ Has j xs

has-placed : (j : ℕ) (s : List Listed) (x : Listed) → (x.0 ≡ j) ⊎ Has j s → Has j (placed s x)
has-placed j [] x h = h
has-placed j (e ∷ s) x h = by_test (lies_below (path_at x) (path_at e)) (has-placed j s x) h
  where
    later : ((x.0 ≡ j) ⊎ Has j s → Has j (placed s x)) → (x.0 ≡ j) ⊎ ((e.0 ≡ j) ⊎ Has j s) → (e.0 ≡ j) ⊎ Has j (placed s x)
    later rest (inl h) = inr (rest (inl h))
    later rest (inr (inl h)) = inl h
    later rest (inr (inr h)) = inr (rest (inr h))

    by_test : (b : Bool) → ((x.0 ≡ j) ⊎ Has j s → Has j (placed s x)) → (x.0 ≡ j) ⊎ ((e.0 ≡ j) ⊎ Has j s) → Has j (cond b (x ∷ e ∷ s) (e ∷ placed s x))
    by_test true rest h = h
    by_test false rest h = later rest h

-- what is made first at or below their paths comes no earlier from line to line
abbrev pub Rises : List Line → List Listed → Type 0
Rises lines [] = Unit {0}
Rises lines (x ∷ xs) = Each (λ e. first_of lines x ≤ first_of lines e) xs × Rises lines xs

-- a creating line of an earlier place
abbrev pub IsOld : List Line → ℕ → Listed → Type 0
IsOld lines n x = IsItem lines x × (x.0 < n)

-- with a line of a place that some line has nothing before it is later than that place
rises-to : (lines : List Line) (n j m : ℕ) (s : List Listed) → Each (IsOld lines n) s → Each (λ e. m ≤ first_of lines e) s → Has j s → m ≤ j
rises-to lines n j m [] old rises h = absurd h
rises-to lines n j m (e ∷ s) old rises (inl h) = let own = (has_first lines e old.0.0).own in omega (arith, own, rises.0, h)
rises-to lines n j m (e ∷ s) old rises (inr h) = rises-to lines n j m s old.1 rises.1 h

-- a line with its rank, as it is kept
abbrev pub entry_of : List Line → Listed → Rank × ℕ
entry_of lines x = (rank_of lines x.1, x.0)

-- a line goes to the same place by its rank
pub record IsPlaced (lines : List Line) (s : List Listed) (x : Listed) : Type 0 where
  pub same : insert_entry rank_cmp (map (entry_of lines) s) (rank_of lines x.1) x.0 ≡ map (entry_of lines) (placed s x)
  pub rises : Rises lines (placed s x)

-- an earlier line has another path
other_path : (lines : List Line) (x e : Listed) → are_distinct lines ≡ true → IsItem lines x → IsOld lines x.0 e → path_at e ≢ path_at x
other_path lines x e distinct is_x old same =
    let apart = distinct-apart lines e.0 x.0 e.1 x.1 distinct old.0.at is_x.at old.1 in
    let no : same_path (path_at e) (path_at x) ≡ false = rw (old.0.creates, is_x.creates) at apart in
    let yes : same_path (path_at e) (path_at x) ≡ true = (same_path-decides (path_at e) (path_at x)).1 same in
    cc

-- the line that stands first at or below a path lies below it or has that path
not_first : (lines : List Line) (x e : Listed) → IsItem lines x → IsItem lines e → lies_below (path_at x) (path_at e) ≡ false → path_at e ≢ path_at x → e.0 ≡ first_of lines x → ⊥
not_first lines x e is_x is_e beside other here =
    let v = first_index-passes (makes_under (path_at x)) lines (first_of lines x) (has_first lines x is_x).is in
    let one : Some v.item ≡ Some e.1 = sym v.there ∙ ap (slice_get lines) (sym here) ∙ is_e.at in
    let item : v.item ≡ e.1 = cc in
    let u = and_parts (is_creating v.item) (is_prefix (path_at x) (path_in v.item.path)) v.passes in
    let under : is_prefix (path_at x) (path_at e) ≡ true = sym (ap (λ (c : Line). is_prefix (path_at x) (path_in c.path)) item) ∙ u.1 in
    let same : not (same_path (path_at x) (path_at e)) ≡ false = rw under at beside in
    other (sym ((same_path-decides (path_at x) (path_at e)).0 (not-false (same_path (path_at x) (path_at e)) same)))

insert-placed : (lines : List Line) → are_distinct lines ≡ true → (x : Listed) → IsItem lines x → (s : List Listed) → Each (IsOld lines x.0) s → Rises lines s → (first_of lines x ≡ x.0) ⊎ Has (first_of lines x) s → IsPlaced lines s x
insert-placed lines distinct x is_x [] old rises first = record { same = refl; rises = (tt, tt) }
insert-placed lines distinct x is_x (e ∷ s) old rises first =
    by_test (insert-placed lines distinct x is_x s old.1 rises.1) (lies_below (path_at x) (path_at e)) refl
  where
    below : lies_below (path_at x) (path_at e) ≡ true → IsPlaced lines (e ∷ s) x
    below test =
        let before = before-below lines x e is_x old.0.0 test in
        let less = less-before (rank_of lines x.1) (rank_of lines e.1) before in
        let u = strictly (path_at x) (path_at e) test in
        let l = first-below lines x e is_x old.0.0 u.0 in
        record {
          same = rw (test, less) refl;
          rises = rw test ((l, each-of (λ y. first_of lines e ≤ first_of lines y) (λ y. first_of lines x ≤ first_of lines y) s (λ y h. omega arith) rises.0), rises);
        }

    no_later : path_at e ≢ path_at x → (first_of lines x ≡ x.0) ⊎ Has (first_of lines x) (e ∷ s) → first_of lines e ≤ first_of lines x
    no_later other (inl own) = let l = (has_first lines e old.0.0).own in omega (arith, l, old.0.1, own)
    no_later other (inr h) = rises-to lines x.0 (first_of lines x) (first_of lines e) (e ∷ s) old (omega arith, rises.0) h

    further : lies_below (path_at x) (path_at e) ≡ false → path_at e ≢ path_at x → (first_of lines x ≡ x.0) ⊎ Has (first_of lines x) (e ∷ s) → (first_of lines x ≡ x.0) ⊎ Has (first_of lines x) s
    further test other (inl own) = inl own
    further test other (inr (inl here)) = absurd (not_first lines x e is_x old.0.0 test other here)
    further test other (inr (inr h)) = inr h

    beside : ((first_of lines x ≡ x.0) ⊎ Has (first_of lines x) s → IsPlaced lines s x) → lies_below (path_at x) (path_at e) ≡ false → path_at e ≢ path_at x → IsPlaced lines (e ∷ s) x
    beside rest test other =
        let l = no_later other first in
        let before = before-beside lines x e is_x old.0.0 test other l in
        let greater = greater-before (rank_of lines e.1) (rank_of lines x.1) before in
        let w = rest (further test other first) in
        record {
          same = rw (test, greater) (ap (λ r. entry_of lines e ∷ r) w.same);
          rises = rw test (each-placed (λ y. first_of lines e ≤ first_of lines y) s x rises.0 l, w.rises);
        }

    by_test : ((first_of lines x ≡ x.0) ⊎ Has (first_of lines x) s → IsPlaced lines s x) → (b : Bool) → lies_below (path_at x) (path_at e) ≡ b → IsPlaced lines (e ∷ s) x
    by_test rest true test = below test
    by_test rest false test = beside rest test (other_path lines x e distinct is_x old.0)

-- ---- all lines

drop_cell : {A : Type 0} (n : ℕ) (xs : List A) (x : A) (ys : List A) → drop n xs ≡ x ∷ ys → (slice_get xs n ≡ Some x) × (drop (suc n) xs ≡ ys)
drop_cell zero [] x ys e = cc
drop_cell zero (z ∷ xs) x ys e = (let same : z ≡ x = cc in ap (λ c. Some c) same, let rest : xs ≡ ys = cc in rest)
drop_cell (suc n) [] x ys e = cc
drop_cell (suc n) (z ∷ xs) x ys e = drop_cell n xs x ys e

-- the creating lines of earlier places are all there
abbrev pub AreThere : List Line → ℕ → List Listed → Type 0
AreThere lines n s = (j : ℕ) (line : Line) → j < n → slice_get lines j ≡ Some line → is_creating line ≡ true → Has j s

-- lines that are ranked are the same as lines that are placed
abbrev pub Agrees : List Line → ℕ → List Line → List Listed → Type 0
Agrees lines n todo s =
    fold (with_rank lines) (map (entry_of lines) s) (enumerate_from n todo)
    ≡ map (entry_of lines) (fold placed s (filter (λ line. is_creating line.1) (enumerate_from n todo)))

-- where the lines before a place are placed
pub record IsUpTo (lines : List Line) (n : ℕ) (s : List Listed) : Type 0 where
  pub old : Each (IsOld lines n) s
  pub there : AreThere lines n s
  pub rises : Rises lines s

-- a line that makes nothing goes nowhere
up_to-other : (lines : List Line) (n : ℕ) (line : Line) (s : List Listed) → slice_get lines n ≡ Some line → is_creating line ≡ false → IsUpTo lines n s → IsUpTo lines (n + 1) s
up_to-other lines n line s at other u = record {
  old = each-of (IsOld lines n) (IsOld lines (n + 1)) s (λ x h. (h.0, omega (arith, h.1))) u.old;
  there = λ j l below at_j creates. by_place j l at_j creates (cases_lt j n) below;
  rises = u.rises;
}
  where
    by_place : (j : ℕ) (l : Line) → slice_get lines j ≡ Some l → is_creating l ≡ true → (j < n) ⊎ (n ≤ j) → j < n + 1 → Has j s
    by_place j l at_j creates (inl h) below = u.there j l h at_j creates
    by_place j l at_j creates (inr h) below =
        let here : n ≡ j = omega arith in
        let one : Some line ≡ Some l = sym at ∙ ap (slice_get lines) here ∙ at_j in
        let same : line ≡ l = cc in
        absurd (let yes : is_creating line ≡ true = ap is_creating same ∙ creates in cc)

-- a creating line goes to its place
up_to-placed : (lines : List Line) (n : ℕ) (line : Line) (s : List Listed) → IsItem lines (n, line) → IsPlaced lines s (n, line) → IsUpTo lines n s → IsUpTo lines (n + 1) (placed s (n, line))
up_to-placed lines n line s item w u = record {
  old = each-placed (IsOld lines (n + 1)) s (n, line) (each-of (IsOld lines n) (IsOld lines (n + 1)) s (λ x h. (h.0, omega (arith, h.1))) u.old) (item, omega arith);
  there = λ j l below at_j creates. has-placed j s (n, line) (by_place j l at_j creates (cases_lt j n) below);
  rises = w.rises;
}
  where
    by_place : (j : ℕ) (l : Line) → slice_get lines j ≡ Some l → is_creating l ≡ true → (j < n) ⊎ (n ≤ j) → j < n + 1 → (n ≡ j) ⊎ Has j s
    by_place j l at_j creates (inl h) below = inr (u.there j l h at_j creates)
    by_place j l at_j creates (inr h) below = inl (omega arith)

-- at its own place or before it something is made at or below the path of a line
first_there : (lines : List Line) (n : ℕ) (line : Line) (s : List Listed) → IsItem lines (n, line) → AreThere lines n s → (first_of lines (n, line) ≡ n) ⊎ Has (first_of lines (n, line)) s
first_there lines n line s item there = by_place (cases_lt (first_of lines (n, line)) n)
  where
    by_place : (first_of lines (n, line) < n) ⊎ (n ≤ first_of lines (n, line)) → (first_of lines (n, line) ≡ n) ⊎ Has (first_of lines (n, line)) s
    by_place (inl l) =
        let v = first_index-passes (makes_under (path_in line.path)) lines (first_of lines (n, line)) (has_first lines (n, line) item).is in
        let u = and_parts (is_creating v.item) (is_prefix (path_in line.path) (path_in v.item.path)) v.passes in
        inr (there (first_of lines (n, line)) v.item l v.there u.0)
    by_place (inr l) = let own = (has_first lines (n, line) item).own in inl (omega (arith, l, own))

with_rank-creating : (lines : List Line) (es : List (Rank × ℕ)) (n : ℕ) (line : Line) → is_creating line ≡ true → with_rank lines es (n, line) ≡ insert_entry rank_cmp es (rank_of lines line) n
with_rank-creating lines es n line test = rw (test, with_rank) refl

with_rank-other : (lines : List Line) (es : List (Rank × ℕ)) (n : ℕ) (line : Line) → is_creating line ≡ false → with_rank lines es (n, line) ≡ es
with_rank-other lines es n line test = rw (test, with_rank) refl

placed-ranks : (lines : List Line) → are_distinct lines ≡ true → (n : ℕ) (todo : List Line) (s : List Listed) → drop n lines ≡ todo → IsUpTo lines n s → Agrees lines n todo s
placed-ranks lines distinct n [] s front u = refl
placed-ranks lines distinct n (line ∷ todo) s front u =
    let cell = drop_cell n lines line todo front in
    let next : drop (n + 1) lines ≡ todo = rw add-one cell.1 in
    by_test cell.0 (λ s. placed-ranks lines distinct (n + 1) todo s next) (is_creating line) refl
  where
    creating : slice_get lines n ≡ Some line → ((s : List Listed) → IsUpTo lines (n + 1) s → Agrees lines (n + 1) todo s) → is_creating line ≡ true → Agrees lines n (line ∷ todo) s
    creating at rest test =
        let item : IsItem lines (n, line) = record { at = at; creates = test } in
        let w = insert-placed lines distinct (n, line) item s u.old u.rises (first_there lines n line s item u.there) in
        let step = rest (placed s (n, line)) (up_to-placed lines n line s item w u) in
        let kept : with_rank lines (map (entry_of lines) s) (n, line) ≡ map (entry_of lines) (placed s (n, line)) = with_rank-creating lines (map (entry_of lines) s) n line test ∙ w.same in
        rw test (ap (λ (es : List (Rank × ℕ)). fold (with_rank lines) es (enumerate_from (n + 1) todo)) kept ∙ step)

    by_test : slice_get lines n ≡ Some line → ((s : List Listed) → IsUpTo lines (n + 1) s → Agrees lines (n + 1) todo s) → (b : Bool) → is_creating line ≡ b → Agrees lines n (line ∷ todo) s
    by_test at rest true test = creating at rest test
    by_test at rest false test = let kept = with_rank-other lines (map (entry_of lines) s) n line test in
        rw test (ap (λ (es : List (Rank × ℕ)). fold (with_rank lines) es (enumerate_from (n + 1) todo)) kept ∙ rest s (up_to-other lines n line s at test u))

-- creating lines that rise by their ranks are those that are placed one by one
pub ranks_are_placed : (lines : List Line) → are_distinct lines ≡ true → Agrees lines 0 lines []
ranks_are_placed lines distinct = placed-ranks lines distinct 0 lines [] refl (record { old = tt; there = λ j l below at creates. absurd (omega arith); rises = tt })

-- ---- line by line

-- a line that makes something is the first of some place among those that make the object at its path
pub first_known-own : (lines : List Line) (i : ℕ) (line : Line) (path : Path) → i < length lines → line ≡ get_or lines i line → line.path ≡ Literal path → first_known lines lines path ≡ first_under lines path
first_known-own lines i line path within there is =
    let at : slice_get lines i ≡ Some line = slice_get_read lines (length lines) i line refl within there in
    let passes : makes path line ≡ true = rw is (same_path-refl path) in
    let w = first_index-least (makes path) lines i line at passes in
    rw w.is refl

-- a line goes to its rank
ranked_more : (lines : List Line) (i : ℕ) (line : Line) (es : List (Rank × ℕ)) → i < length lines → line ≡ get_or lines i line
    → fold (with_rank lines) (with_rank lines es (i, line)) (enumerate_from (i + 1) (drop (i + 1) lines)) ≡ fold (with_rank lines) es (enumerate_from i (drop i lines))
ranked_more lines i line es within there =
    let cell = next_item lines i line within there in
    sym (ap (λ (ls : List Line). fold (with_rank lines) es (enumerate_from i ls)) cell)

pub ranked_literal : (lines : List Line) (i : ℕ) (line : Line) (path : Path) (first : ℕ) (es new : List (Rank × ℕ)) → i < length lines → line ≡ get_or lines i line → line.path ≡ Literal path
    → first ≡ unwrap_or (first_known lines lines path) 0 → new ≡ insert_entry rank_cmp es (first, length path) i
    → fold (with_rank lines) new (enumerate_from (i + 1) (drop (i + 1) lines)) ≡ fold (with_rank lines) es (enumerate_from i (drop i lines))
ranked_literal lines i line path first es new within there is first_is new_is =
    let creates : is_creating line ≡ true = rw is refl in
    let rank : first ≡ unwrap_or (first_under lines path) 0 = first_is ∙ ap (λ (o : Option ℕ). unwrap_or o 0) (first_known-own lines i line path within there is) in
    let own : rank_of lines line ≡ (unwrap_or (first_under lines path) 0, length path) = ap (λ (p : LinePath). (unwrap_or (first_under lines (path_in p)) 0, length (path_in p))) is in
    let same : new ≡ with_rank lines es (i, line) =
    new_is ∙ ap (λ (n : ℕ). insert_entry rank_cmp es (n, length path) i) rank ∙ ap (λ (r : Rank). insert_entry rank_cmp es r i) (sym own) ∙ sym (with_rank-creating lines es i line creates)
    in
    ap (λ (e : List (Rank × ℕ)). fold (with_rank lines) e (enumerate_from (i + 1) (drop (i + 1) lines))) same ∙ ranked_more lines i line es within there

pub ranked_other : (lines : List Line) (i : ℕ) (line : Line) (es : List (Rank × ℕ)) → i < length lines → line ≡ get_or lines i line → is_creating line ≡ false
    → fold (with_rank lines) es (enumerate_from (i + 1) (drop (i + 1) lines)) ≡ fold (with_rank lines) es (enumerate_from i (drop i lines))
ranked_other lines i line es within there other =
    ap (λ (e : List (Rank × ℕ)). fold (with_rank lines) e (enumerate_from (i + 1) (drop (i + 1) lines))) (sym (with_rank-other lines es i line other)) ∙ ranked_more lines i line es within there

-- the places of ranked lines
pub places-ranked : (lines : List Line) (s : List Listed) → map (λ (e : Rank × ℕ). e.1) (map (entry_of lines) s) ≡ map (λ (x : Listed). x.0) s
places-ranked lines [] = refl
places-ranked lines (x ∷ s) = ap (λ (ns : List ℕ). x.0 ∷ ns) (places-ranked lines s)

pub places-append : (a b : List Listed) → map (λ (x : Listed). x.0) (a ++ b) ≡ map (λ (x : Listed). x.0) a ++ map (λ (x : Listed). x.0) b
places-append [] b = refl
places-append (x ∷ a) b = ap (λ (ns : List ℕ). x.0 ∷ ns) (places-append a b)
