-- The marks are the reasons, where the pairs are all that share a path.
use Rattle.std.proofs.Common.{◌≡◌, ◌≢◌, ℕ, zero, suc, ◌+◌, ◌-◌, ◌<◌, ◌≤◌, ◌⊎◌, inl, inr, Bool, true, false, not, ◌&&◌, nat_lt, List, [], ◌∷◌, ◌++◌, length, map, filter, get_or, All, AllPairs, if◌then◌else◌, Contains, Option, Some, None, is_some, refl, sym, ap, ◌∙◌, subst, arith}
use Rattle.std.specs.Prelude.{slice_get}
use Rattle.std.specs.List.{cons_option, flat_map}
use Rattle.std.proofs.lemmas.Bool.{cases_lt, and_parts, or_cases, or_left, or_right, and_from}
use Rattle.std.proofs.lemmas.Bool.Decides.{nat_tests}
use Rattle.std.proofs.lemmas.List.{get_or_append_left, get_or-append_right, get_or-map, length-append, length-map}
use Rattle.std.proofs.lemmas.List.Elements.{Contains-append_cases, Contains-append_left, Contains-append_right}
use Rattle.std.proofs.lemmas.List.Kept.{AllPairs-filter}
use Rattle.std.proofs.lemmas.Option.{get_or_from_slice_get, slice_get-get_or, slice_get_past, slice_get_within}
use Rattle.pv_path.specs.Paths.{Path, has_names, has_staging, is_prefix, same_path, same_path-decides}
use Rattle.pv_path.proofs.PathLaws.{is_prefix-trans, same_path-refl}
use Rattle.pv_lines.specs.declared.line.Line.{Line}
use Rattle.pv_lines.specs.declared.line.LinePath.{LinePath}
use Rattle.pv_lines.specs.declared.line.LinePath.TheVariants.{Literal, Glob}
use Rattle.pv_lines.specs.Lines.{IsLine}
use Rattle.pv_glob.specs.declared.meeting.Reach.{Reach}
use Rattle.pv_glob.specs.Words.{Finds, IsFirst, shared_cmp}
use Rattle.pv_overlap.specs.declared.pair.Pair.{Pair}
use Rattle.pv_overlap.specs.Answers.{ComesBefore, IsAnswered, IsReported}
use Rattle.pv_table.specs.declared.reason.Reason.{Reason}
use Rattle.pv_table.specs.declared.reason.Reason.TheVariants as reason
use Rattle.pv_table.specs.ActionTable.{action_of}
use Rattle.pv_table.specs.Reaching.{governs, is_creating, names, names_above, names_in, path_in, reaches, reaches_below}
use Rattle.pv_layers.specs.Places.{inputs, is_input}
use Rattle.pv_table.specs.Repeatable.{appends, changes_content, has_masked_mode, HasReason, IsAt, below as made_below, Overlap, sets_base}
use Rattle.pv_table.specs.Turns.{copied}
use Rattle.pv_overlap.specs.Marks.{is_below, Mark, mark_if, marks_by, marks_of, mixes, outer_marks, own_marks, pair_marks, rank, reason_at, shared_marks}
use Rattle.pv_overlap.specs.Reporting.{both_reach, IsShared, ListsOverlaps}
use Rattle.pv_overlap.specs.Subjects.{MayAnswer, meets, no_reach, reach_at, reach_of, reach_under, reaches_of, sources_of}
use Rattle.pv_overlap.proofs.CopyLaws.{copy_reaches, named_there, source_unstaged, unstaged}
use Rattle.pv_overlap.proofs.Members.{filter_in, first_in, flat_in, in_filter, in_flat, in_none, in_one}
use Rattle.pv_overlap.proofs.ReachLaws.{any_at, any_from, both_from, both_met, both_parts, first_both, IsUnstaged, MetBefore, met_under, under_met}

abbrev Never : Type 0
Never = ◌≡◌ {A = Bool} false true

-- ---- what lines copy

-- a path that is copied, by the line that copies it
abbrev pub IsSource : List Line → Path → Type 0
IsSource lines source = (j : ℕ) × (other : Line) × IsAt lines j other × (copied (action_of other) ≡ Some source)

pub source_of : (lines : List Line) (k : ℕ) → k < length (sources_of lines) → IsSource lines (get_or (sources_of lines) k [])
source_of [] k l = absurd (omega (arith, l))
source_of (line ∷ lines) k l = by (copied (action_of line)) refl k l (source_of lines)
  where
    later : (source : Path) → IsSource lines source → IsSource (line ∷ lines) source
    later source found = (suc found.0, found.1, found.2, found.3)

    by : (o : Option Path) → copied (action_of line) ≡ o → (k : ℕ) → k < length (cons_option o (sources_of lines)) → ((m : ℕ) → m < length (sources_of lines) → IsSource lines (get_or (sources_of lines) m []))
        → IsSource (line ∷ lines) (get_or (cons_option o (sources_of lines)) k [])
    by None e k l on = later (get_or (sources_of lines) k []) (on k l)
    by (Some source) e zero l on = (zero, line, refl, e)
    by (Some source) e (suc k) l on = later (get_or (sources_of lines) k []) (on k (omega (arith, l)))

-- the place of a path among those that are copied
abbrev pub HasSource : List Line → Path → Type 0
HasSource lines source = (k : ℕ) × (k < length (sources_of lines)) × (get_or (sources_of lines) k [] ≡ source)

pub source_from : (lines : List Line) (j : ℕ) (other : Line) (source : Path) → IsAt lines j other → copied (action_of other) ≡ Some source → HasSource lines source
source_from [] j other source at e = absurd (let no : None ≡ Some other = at in cc)
source_from (line ∷ lines) zero other source at e = by (copied (action_of line)) own
  where
    own : copied (action_of line) ≡ Some source
    own = let same : line ≡ other = (let some : Some line ≡ Some other = at in cc) in ap (λ (l : Line). copied (action_of l)) same ∙ e

    by : (o : Option Path) → o ≡ Some source → (k : ℕ) × (k < length (cons_option o (sources_of lines))) × (get_or (cons_option o (sources_of lines)) k [] ≡ source)
    by None f = absurd (let no : None ≡ Some source = f in cc)
    by (Some path) f = (zero, omega arith, (let same : path ≡ source = cc in same))
source_from (line ∷ lines) (suc j) other source at e = by (copied (action_of line)) (source_from lines j other source at e)
  where
    by : (o : Option Path) → HasSource lines source → (k : ℕ) × (k < length (cons_option o (sources_of lines))) × (get_or (cons_option o (sources_of lines)) k [] ≡ source)
    by None found = found
    by (Some path) found = let l = found.1 in (suc found.0, omega (arith, l), found.2)

-- ---- single marks

pub in_mark : (test : Bool) (line place : ℕ) (m : Mark) → Contains (mark_if test line place) m → (test ≡ true) × ((line, place) ≡ m)
in_mark true line place m c = (refl, in_one (line, place) m c)
in_mark false line place m c = absurd (in_none m c)

mark_in : (test : Bool) (line place : ℕ) → test ≡ true → Contains (mark_if test line place) (line, place)
mark_in true line place e = first_in (line, place) []
mark_in false line place e = absurd (let differ : Never = e in cc)

pub in_own : (i : ℕ) (lines : List Line) (m : Mark) → Contains (own_marks i lines) m → (k : ℕ) × (line : Line) × IsAt lines k line × (appends line ≡ true) × ((i + k, 0) ≡ m)
in_own i [] m c = absurd (in_none m c)
in_own i (line ∷ lines) m c = by (Contains-append_cases (mark_if (appends line) i 0) (own_marks (i + 1) lines) m c) (in_own (i + 1) lines m)
  where
    by : Contains (mark_if (appends line) i 0) m ⊎ Contains (own_marks (i + 1) lines) m
        → (Contains (own_marks (i + 1) lines) m → (k : ℕ) × (other : Line) × IsAt lines k other × (appends other ≡ true) × ((i + 1 + k, 0) ≡ m))
        → (k : ℕ) × (other : Line) × IsAt (line ∷ lines) k other × (appends other ≡ true) × ((i + k, 0) ≡ m)
    by (inl own) on = let found = in_mark (appends line) i 0 m own in (zero, line, refl, found.0, ap (λ (x : ℕ). (x, 0)) (let e : i + 0 ≡ i = omega arith in e) ∙ found.1)
    by (inr more) on = let found = on more in (suc found.0, found.1, found.2, found.3, ap (λ (x : ℕ). (x, 0)) (let e : i + suc found.0 ≡ i + 1 + found.0 = omega arith in e) ∙ found.4)

own_in : (i : ℕ) (lines : List Line) (k : ℕ) (line : Line) → IsAt lines k line → appends line ≡ true → Contains (own_marks i lines) (i + k, 0)
own_in i [] k line at e = absurd (let no : None ≡ Some line = at in cc)
own_in i (first ∷ lines) zero line at e =
    let same : first ≡ line = (let some : Some first ≡ Some line = at in cc) in
    let here : i ≡ i + 0 = omega arith in
    Contains-append_left (mark_if (appends first) i 0) (own_marks (i + 1) lines) (i + 0, 0) (subst (λ (x : ℕ). Contains (mark_if (appends first) i 0) (x, 0)) here (mark_in (appends first) i 0 (ap appends same ∙ e)))
own_in i (first ∷ lines) (suc k) line at e =
    let here : i + 1 + k ≡ i + suc k = omega arith in
    Contains-append_right (mark_if (appends first) i 0) (own_marks (i + 1) lines) (i + suc k, 0) (subst (λ (x : ℕ). Contains (own_marks (i + 1) lines) (x, 0)) here (own_in (i + 1) lines k line at e))

pub reason_at-rank : (r : Reason) → reason_at (rank r) ≡ r
reason_at-rank reason.Append = refl
reason_at-rank reason.Source = refl
reason_at-rank reason.Below = refl
reason_at-rank reason.Input = refl
reason_at-rank reason.Mask = refl

-- a mark stands for its reason
there : (lines : List Line) (i j k : ℕ) (r : Reason) → ◌≡◌ {A = Mark} (j, k) (i, rank r) → HasReason lines j (reason_at k) → HasReason lines i r
there lines i j k r e h =
    subst (λ (x : Reason). HasReason lines i x) (ap (λ (m : Mark). reason_at m.1) e ∙ reason_at-rank r)
    (subst (λ (x : ℕ). HasReason lines x (reason_at k)) (ap (λ (m : Mark). m.0) e) h)

-- ---- a line that makes something names its path

own_name : (line : Line) → is_creating line ≡ true → names line (path_in line.path) ≡ true
own_name line h = by line.path h
  where
    by : (path : LinePath) → is_creating (record line { path = path }) ≡ true → names_in path (path_in path) ≡ true
    by (Literal path) g = same_path-refl path
    by (Glob pattern) g = absurd (let differ : Never = g in cc)

own_reach : (line : Line) → is_creating line ≡ true → reaches line (path_in line.path) ≡ true
own_reach line h = or_left (names line (path_in line.path)) (reaches_below line && names_above line (path_in line.path)) (own_name line h)

some_of : (o : Option Path) → is_some o ≡ true → (p : Path) × (o ≡ Some p)
some_of None e = absurd (let differ : Never = e in cc)
some_of (Some p) e = (p, refl)

-- ---- the pairs

module _ (lines : List Line) (are : All IsLine lines) (pairs : List Pair)
    (listed : (pair : Pair) → Contains pairs pair → IsAnswered (MayAnswer (reaches_of lines) (length lines)) (length (reaches_of lines)) pair)
    (recorded : (i j : ℕ) → i < j → j < length (reaches_of lines) → IsReported (MayAnswer (reaches_of lines) (length lines)) pairs i j) where
  abbrev count : ℕ
  count = length lines

  abbrev copies : ℕ
  copies = length (sources_of lines)

  -- the object at each number
  abbrev first_part : List Reach
  first_part = map reach_of lines ++ map reach_under (sources_of lines)

  first_size : length first_part ≡ count + copies
  first_size =
      let a = length-append (map reach_of lines) (map reach_under (sources_of lines)) in
      let b = length-map lines reach_of in
      let c = length-map (sources_of lines) reach_under in
      omega (arith, a, b, c)

  size : length (reaches_of lines) ≡ count + (copies + length inputs)
  size =
      let a : length (reaches_of lines) ≡ length first_part + length (map reach_under inputs) = length-append first_part (map reach_under inputs) in
      let b = first_size in
      let c = length-map inputs reach_under in
      omega (arith, a, b, c)

  inside : (i : ℕ) (line : Line) → IsAt lines i line → i < count
  inside i line at = slice_get_within lines i line at

  at_line : (i : ℕ) (line : Line) → IsAt lines i line → reach_at (reaches_of lines) i ≡ reach_of line
  at_line i line at =
      let l = inside i line at in
      let long = length-map lines reach_of in
      let both_long = first_size in
      get_or_append_left first_part (map reach_under inputs) no_reach i (omega (arith, l, both_long))
      ∙ get_or_append_left (map reach_of lines) (map reach_under (sources_of lines)) no_reach i (omega (arith, l, long))
      ∙ get_or-map reach_of lines i line no_reach l ∙ ap reach_of (get_or_from_slice_get lines i line line at)

  at_source : (j : ℕ) → count ≤ j → j - count < copies → reach_at (reaches_of lines) j ≡ reach_under (get_or (sources_of lines) (j - count) [])
  at_source j l m =
      let both_long = first_size in
      get_or_append_left first_part (map reach_under inputs) no_reach j (omega (arith, l, m, both_long))
      ∙ get_or-append_right (map reach_of lines) (map reach_under (sources_of lines)) count j no_reach (length-map lines reach_of) l
      ∙ get_or-map reach_under (sources_of lines) (j - count) [] no_reach m

  at_input : (j : ℕ) → count + copies ≤ j → j - count - copies < length inputs → reach_at (reaches_of lines) j ≡ reach_under (get_or inputs (j - count - copies) [])
  at_input j l m =
      let e : j - (count + copies) ≡ j - count - copies = omega arith in
      get_or-append_right first_part (map reach_under inputs) (count + copies) j no_reach first_size l
      ∙ ap (λ (k : ℕ). get_or (map reach_under inputs) k no_reach) e
      ∙ get_or-map reach_under inputs (j - count - copies) [] no_reach m

  line_of : (i : ℕ) (line : Line) → IsAt lines i line → IsLine line
  line_of i line at = subst IsLine (get_or_from_slice_get lines i line line at) (are i line (inside i line at))

  named_of : (i : ℕ) (line : Line) → IsAt lines i line → has_names (path_in line.path) ≡ true
  named_of i line at = named_there line (line_of i line at)

  clear_of : (i : ℕ) (line : Line) → IsAt lines i line → IsUnstaged line.path
  clear_of i line at = unstaged line (line_of i line at)

  -- what a pair says
  first_is : (pair : Pair) → Contains pairs pair → (pair.first < count) × IsFirst shared_cmp (meets (reach_at (reaches_of lines) pair.first) (reach_at (reaches_of lines) pair.second)) pair.path
  first_is pair c = elim (cases_lt pair.first count) [
    | inl less ↦ (less, (listed pair c).2.0 less)
    | inr more ↦ absurd (let no : Some pair.path ≡ None = (listed pair c).2.1 more in cc)
  ]

  first_shared : (pair : Pair) → Contains pairs pair → (a b : Line) → IsAt lines pair.first a → IsAt lines pair.second b → IsFirst shared_cmp (both_reach a b) pair.path
  first_shared pair c a b at bt =
      first_both a b (clear_of pair.first a at) (clear_of pair.second b bt) pair.path
      (subst (λ (x : Reach). IsFirst shared_cmp (meets (reach_of a) x) pair.path) (at_line pair.second b bt)
      (subst (λ (x : Reach). IsFirst shared_cmp (meets x (reach_at (reaches_of lines) pair.second)) pair.path) (at_line pair.first a at) (first_is pair c).1))

  -- the pair of two numbers
  abbrev HasPair : ℕ → ℕ → Type 0
  HasPair i j = (path : Path) × Contains pairs (record { first = i; second = j; path = path })

  pair_of : (i j : ℕ) (a : Line) (b : Reach) (q : Path) → i < j → IsAt lines i a → j < length (reaches_of lines) → reach_at (reaches_of lines) j ≡ b → MetBefore (reach_of a) b q → HasPair i j
  pair_of i j a b q less at l same met = by (recorded i j less l)
    where
      by : IsReported (MayAnswer (reaches_of lines) count) pairs i j → HasPair i j
      by (inl found) = found
      by (inr none) = absurd (
          let finds : Finds (meets (reach_of a) b) None = subst (λ (x : Reach). Finds (meets (reach_of a) x) None) same (subst (λ (x : Reach). Finds (meets x (reach_at (reaches_of lines) j)) None) (at_line i a at) (none.0 (inside i a at))) in
          let differ : Never = sym (finds met.0) ∙ met.1 in cc)

  shared_pair : (i j : ℕ) (a b : Line) → i < j → IsAt lines i a → IsAt lines j b → (q : Path) → both_reach a b q ≡ true → HasPair i j
  shared_pair i j a b less at bt q e =
      let l = inside j b bt in
      let long = size in
      pair_of i j a (reach_of b) q less at (omega (arith, l, long)) (at_line j b bt) (both_met a b (clear_of i a at) (clear_of j b bt) q e)

  -- ---- the overlaps

  pub lists_overlaps : AllPairs ComesBefore pairs → ListsOverlaps lines (filter (λ pair. nat_lt pair.second count) pairs)
  lists_overlaps ordered = record { each = each; all = all; ordered = AllPairs-filter ComesBefore (λ pair. nat_lt pair.second count) pairs ordered }
    where
      each : (pair : Pair) → Contains (filter (λ p. nat_lt p.second count) pairs) pair → IsShared lines pair
      each pair c =
          let found = in_filter (λ p. nat_lt p.second count) pairs pair c in
          let test = found.1 in
          let second : pair.second < count = grind (arith, nat_tests) in
          let before = (listed pair found.0).0 in
          let one = slice_get-get_or lines pair.first in
          by found.0 before (slice_get lines pair.first) refl (slice_get lines pair.second) refl second
        where
          past : (i : ℕ) → i < count → slice_get lines i ≡ None → ⊥
          past i l e = elim lines_are [ inl none ↦ omega (arith, l, none) | inr some ↦ (let no : Some (get_or lines i some.0) ≡ None = sym (slice_get-get_or lines i some.0 l) ∙ e in cc) ]
            where
              lines_are : (count ≡ 0) ⊎ ((line : Line) × Unit {0})
              lines_are = by_lines lines refl
                where
                  by_lines : (ls : List Line) → length lines ≡ length ls → (count ≡ 0) ⊎ ((line : Line) × Unit {0})
                  by_lines [] e = inl e
                  by_lines (line ∷ ls) e = inr (line, tt)

          by : Contains pairs pair → pair.first < pair.second → (o : Option Line) → slice_get lines pair.first ≡ o → (p : Option Line) → slice_get lines pair.second ≡ p → pair.second < count → IsShared lines pair
          by d before (Some a) e (Some b) f l =
              let first = first_shared pair d a b e f in
              let parts = both_parts a b (clear_of pair.first a e) (clear_of pair.second b f) pair.path first.passes in
              record {
                overlap = record { first = a; second = b; path = pair.path; named = parts.0; before = before; is_first = e; is_second = f; shared = (parts.1, parts.2) };
                path = first;
              }
          by d before None e p f l = absurd (past pair.first (omega (arith, before, l)) e)
          by d before (Some a) e None f l = absurd (past pair.second l f)

      all : (i j : ℕ) → Overlap lines i j → (path : Path) × Contains (filter (λ p. nat_lt p.second count) pairs) (record { first = i; second = j; path = path })
      all i j overlap =
          let l = inside j overlap.second overlap.is_second in
          let found = shared_pair i j overlap.first overlap.second overlap.before overlap.is_first overlap.is_second overlap.path
          (both_from overlap.first overlap.second (clear_of i overlap.first overlap.is_first) (clear_of j overlap.second overlap.is_second) overlap.path overlap.named overlap.shared.0 overlap.shared.1) in
          let test : nat_lt j count ≡ true = grind (arith, nat_tests) in
          (found.0, filter_in (λ p. nat_lt p.second count) pairs (record { first = i; second = j; path = found.0 }) found.1 test)

  -- ---- each mark is a reason

  -- what a pair of two lines is marked by
  shared_is : (pair : Pair) → Contains pairs pair → (a b : Line) → IsAt lines pair.first a → IsAt lines pair.second b → (i : ℕ) (r : Reason) → Contains (shared_marks pair.first a pair.second b) (i, rank r) → HasReason lines i r
  shared_is pair c a b at bt i r m =
      elim (Contains-append_cases (mark_if (is_below b a) pair.second 2 ++ mark_if (is_below a b) pair.first 2) (mark_if (mixes a b) pair.second 4) (i, rank r) m) [
        | inl other ↦ elim (Contains-append_cases (mark_if (is_below b a) pair.second 2) (mark_if (is_below a b) pair.first 2) (i, rank r) other) [
          | inl second ↦ (let found = in_mark (is_below b a) pair.second 2 (i, rank r) second in there lines i pair.second 2 r found.1 (below_is pair.second pair.first b a bt at found.0))
          | inr first ↦ (let found = in_mark (is_below a b) pair.first 2 (i, rank r) first in there lines i pair.first 2 r found.1 (below_is pair.first pair.second a b at bt found.0))
        ]
        | inr mask ↦ (let found = in_mark (mixes a b) pair.second 4 (i, rank r) mask in there lines i pair.second 4 r found.1 (mask_is found.0))
      ]
    where
      below_is : (i j : ℕ) (line other : Line) → IsAt lines i line → IsAt lines j other → is_below line other ≡ true → HasReason lines i reason.Below
      below_is i j line other at there e =
          let w = and_parts (is_creating line && is_some (copied (action_of other)) && is_prefix (path_in other.path) (path_in line.path)) (not (same_path (path_in other.path) (path_in line.path))) e in
          let v = and_parts (is_creating line && is_some (copied (action_of other))) (is_prefix (path_in other.path) (path_in line.path)) w.0 in
          let u = and_parts (is_creating line) (is_some (copied (action_of other))) v.0 in
          let source = some_of (copied (action_of other)) u.1 in
          made_below line other j source.0 at there u.0 source.1 v.1 (λ same. (let differ : Never = sym (ap not (same_path-self (path_in other.path) (path_in line.path) same)) ∙ w.1 in cc))
        where
          same_path-self : (p q : Path) → p ≡ q → same_path p q ≡ true
          same_path-self p q e = subst (λ (x : Path). same_path p x ≡ true) e (same_path-refl p)

      mask_is : mixes a b ≡ true → HasReason lines pair.second reason.Mask
      mask_is e =
          let first = first_shared pair c a b at bt in
          let parts = both_parts a b (clear_of pair.first a at) (clear_of pair.second b bt) pair.path first.passes in
          HasReason.mask b a pair.first pair.path bt at ((listed pair c).0) parts.0 (parts.1, parts.2) (by (or_cases (has_masked_mode a && sets_base b) (sets_base a && has_masked_mode b) e))
        where
          by : ((has_masked_mode a && sets_base b) ≡ true) ⊎ ((sets_base a && has_masked_mode b) ≡ true) → ((has_masked_mode a ≡ true) × (sets_base b ≡ true)) ⊎ ((sets_base a ≡ true) × (has_masked_mode b ≡ true))
          by (inl f) = inl (and_parts (has_masked_mode a) (sets_base b) f)
          by (inr f) = inr (and_parts (sets_base a) (has_masked_mode b) f)

  -- a path from which lines are read is configured without staging names
  input_clear : (k : ℕ) → k < length inputs → has_staging (get_or inputs k []) ≡ false
  input_clear zero l = refl
  input_clear (suc zero) l = refl
  input_clear (suc (suc zero)) l = refl
  input_clear (suc (suc (suc zero))) l = refl
  input_clear (suc (suc (suc (suc zero)))) l = refl
  input_clear (suc (suc (suc (suc (suc zero))))) l = refl
  input_clear (suc (suc (suc (suc (suc (suc k)))))) l = absurd (omega (arith, l))

  source_clear : (k : ℕ) → k < copies → has_staging (get_or (sources_of lines) k []) ≡ false
  source_clear k l =
      let found = source_of lines k l in
      source_unstaged found.1 (line_of found.0 found.1 found.2) (get_or (sources_of lines) k []) found.3

  -- what a pair of a line and a path with all below it says
  met_is : (pair : Pair) → Contains pairs pair → (a : Line) → IsAt lines pair.first a → (path : Path) → has_staging path ≡ false → reach_at (reaches_of lines) pair.second ≡ reach_under path
      → (has_names pair.path ≡ true) × (reaches a pair.path ≡ true) × (is_prefix path pair.path ≡ true)
  met_is pair c a at path clear same =
      met_under a (clear_of pair.first a at) path clear pair.path
      (subst (λ (x : Reach). meets (reach_of a) x pair.path ≡ true) same (subst (λ (x : Reach). meets x (reach_at (reaches_of lines) pair.second) pair.path ≡ true) (at_line pair.first a at) (first_is pair c).1.passes))

  outer_is : (pair : Pair) → Contains pairs pair → (a : Line) → IsAt lines pair.first a → count ≤ pair.second → (i : ℕ) (r : Reason) → Contains (outer_marks (count + copies) pair.first a pair.second) (i, rank r) → HasReason lines i r
  outer_is pair c a at past i r m = by (nat_lt pair.second (count + copies)) refl m
    where
      own : reaches a pair.path ≡ true → governs a pair.path ≡ true
      own e = or_left (reaches a pair.path) (is_creating a && is_prefix pair.path (path_in a.path)) e

      by : (t : Bool) → nat_lt pair.second (count + copies) ≡ t → Contains (if t then (pair.first, 1) ∷ [] else mark_if (changes_content a) pair.first 3) (i, rank r) → HasReason lines i r
      by true e d =
          let less : pair.second < count + copies = grind (arith, nat_tests) in
          let k : pair.second - count < copies = omega (arith, less, past) in
          let found = source_of lines (pair.second - count) k in
          let parts = met_is pair c a at (get_or (sources_of lines) (pair.second - count) []) (source_clear (pair.second - count) k) (at_source pair.second past k) in
          there lines i pair.first 1 r (in_one (pair.first, 1) (i, rank r) d)
          (HasReason.source a found.1 found.0 (get_or (sources_of lines) (pair.second - count) []) pair.path at found.2 found.3 parts.2 parts.0 (own parts.1))
      by false e d =
          let more : count + copies ≤ pair.second = grind (arith, nat_tests) in
          let long = size in
          let inside_all = (listed pair c).1 in
          let k : pair.second - count - copies < length inputs = omega (arith, more, long, inside_all) in
          let parts = met_is pair c a at (get_or inputs (pair.second - count - copies) []) (input_clear (pair.second - count - copies) k) (at_input pair.second more k) in
          let found = in_mark (changes_content a) pair.first 3 (i, rank r) d in
          there lines i pair.first 3 r found.1
          (HasReason.input a pair.path at found.0 (any_from (λ path. is_prefix path pair.path) [] inputs (pair.second - count - copies) k parts.2) parts.0 (own parts.1))

  pub each_reason : (i : ℕ) (r : Reason) → Contains (marks_of lines pairs) (i, rank r) → HasReason lines i r
  each_reason i r c = by (Contains-append_cases (own_marks 0 lines) (flat_map (pair_marks lines (count + copies)) pairs) (i, rank r) c)
    where
      by_pair : (pair : Pair) → Contains pairs pair → (o : Option Line) → slice_get lines pair.first ≡ o → (p : Option Line) → slice_get lines pair.second ≡ p → Contains (marks_by (count + copies) pair o p) (i, rank r) → HasReason lines i r
      by_pair pair d (Some a) e (Some b) f m = shared_is pair d a b e f i r m
      by_pair pair d (Some a) e None f m = outer_is pair d a e (elim (cases_lt pair.second count) [ inl less ↦ absurd (let no : Some (get_or lines pair.second a) ≡ None = sym (slice_get-get_or lines pair.second a less) ∙ f in cc) | inr more ↦ more ]) i r m
      by_pair pair d None e p f m = absurd (in_none (i, rank r) m)

      by : Contains (own_marks 0 lines) (i, rank r) ⊎ Contains (flat_map (pair_marks lines (count + copies)) pairs) (i, rank r) → HasReason lines i r
      by (inl own) =
          let found = in_own 0 lines (i, rank r) own in
          there lines i (0 + found.0) 0 r found.4 (HasReason.append found.1 (subst (λ (k : ℕ). IsAt lines k found.1) (let z : found.0 ≡ 0 + found.0 = omega arith in z) found.2) found.3)
      by (inr more) =
          let found = in_flat (pair_marks lines (count + copies)) pairs (i, rank r) more in
          by_pair found.0 found.1 (slice_get lines found.0.first) refl (slice_get lines found.0.second) refl found.2

  -- ---- each reason is a mark

  -- the marks of a pair are among all
  marked : (pair : Pair) → Contains pairs pair → (o p : Option Line) → slice_get lines pair.first ≡ o → slice_get lines pair.second ≡ p → (m : Mark) → Contains (marks_by (count + copies) pair o p) m → Contains (marks_of lines pairs) m
  marked pair c o p e f m d =
      Contains-append_right (own_marks 0 lines) (flat_map (pair_marks lines (count + copies)) pairs) m
      (flat_in (pair_marks lines (count + copies)) pairs pair m c
      (subst (λ (x : Option Line). Contains (marks_by (count + copies) pair x (slice_get lines pair.second)) m) (sym e) (subst (λ (x : Option Line). Contains (marks_by (count + copies) pair o x) m) (sym f) d)))

  -- what is governed at or below a path is reached there, be it as the line's own path
  abbrev ReachedUnder : Line → Path → Type 0
  ReachedUnder line path = (q : Path) × (has_names q ≡ true) × (reaches line q ≡ true) × (is_prefix path q ≡ true)

  governed : (i : ℕ) (line : Line) → IsAt lines i line → (path q : Path) → is_prefix path q ≡ true → has_names q ≡ true → governs line q ≡ true → ReachedUnder line path
  governed i line at path q above named e = by (or_cases (reaches line q) (is_creating line && is_prefix q (path_in line.path)) e)
    where
      by : (reaches line q ≡ true) ⊎ ((is_creating line && is_prefix q (path_in line.path)) ≡ true) → ReachedUnder line path
      by (inl f) = (q, named, f, above)
      by (inr f) =
          let w = and_parts (is_creating line) (is_prefix q (path_in line.path)) f in
          (path_in line.path, named_of i line at, own_reach line w.0, is_prefix-trans path q (path_in line.path) above w.1)

  under_pair : (i : ℕ) (line : Line) → IsAt lines i line → (path : Path) → has_staging path ≡ false → ReachedUnder line path → (j : ℕ) → count ≤ j → j < length (reaches_of lines) → reach_at (reaches_of lines) j ≡ reach_under path → HasPair i j
  under_pair i line at path clear found j past l same =
      let li = inside i line at in
      pair_of i j line (reach_under path) found.0 (omega (arith, li, past)) at l same (under_met line (clear_of i line at) path clear found.0 found.1 found.2 found.3)

  source_mark : (i : ℕ) (line other : Line) (j : ℕ) (path q : Path) → IsAt lines i line → IsAt lines j other → copied (action_of other) ≡ Some path → is_prefix path q ≡ true → has_names q ≡ true → governs line q ≡ true → Contains (marks_of lines pairs) (i, 1)
  source_mark i line other j path q at there e above named g =
      let found = source_from lines j other path there e in
      let k = found.1 in
      let n : ℕ = count + found.0 in
      let long = size in
      let less : n - count ≡ found.0 = omega arith in
      let inside_sources : n - count < copies = omega (arith, k) in
      let same : get_or (sources_of lines) (n - count) [] ≡ path = ap (λ (x : ℕ). get_or (sources_of lines) x []) less ∙ found.2 in
      let here : reach_at (reaches_of lines) n ≡ reach_under path = at_source n (omega arith) inside_sources ∙ ap reach_under same in
      let pair = under_pair i line at path (source_unstaged other (line_of j other there) path e) (governed i line at path q above named g) n (omega arith) (omega (arith, k, long)) here in
      let test : nat_lt n (count + copies) ≡ true = grind (arith, nat_tests, k) in
      marked (record { first = i; second = n; path = pair.0 }) pair.1 (Some line) None at (slice_get_past lines n (omega arith)) (i, 1)
      (subst (λ (t : Bool). Contains (if t then (i, 1) ∷ [] else mark_if (changes_content line) i 3) (i, 1)) (sym test) (first_in (i, 1) []))

  input_mark : (i : ℕ) (line : Line) (q : Path) → IsAt lines i line → changes_content line ≡ true → is_input q ≡ true → has_names q ≡ true → governs line q ≡ true → Contains (marks_of lines pairs) (i, 3)
  input_mark i line q at changes is named g =
      let found = any_at (λ path. is_prefix path q) [] inputs is in
      let k = found.1 in
      let n : ℕ = count + copies + found.0 in
      let long = size in
      let less : n - count - copies ≡ found.0 = omega arith in
      let same : get_or inputs (n - count - copies) [] ≡ get_or inputs found.0 [] = ap (λ (x : ℕ). get_or inputs x []) less in
      let here : reach_at (reaches_of lines) n ≡ reach_under (get_or inputs found.0 []) = at_input n (omega arith) (omega (arith, k)) ∙ ap reach_under same in
      let pair = under_pair i line at (get_or inputs found.0 []) (input_clear found.0 k) (governed i line at (get_or inputs found.0 []) q found.2 named g) n (omega arith) (omega (arith, k, long)) here in
      let test : nat_lt n (count + copies) ≡ false = grind (arith, nat_tests) in
      marked (record { first = i; second = n; path = pair.0 }) pair.1 (Some line) None at (slice_get_past lines n (omega arith)) (i, 3)
      (subst (λ (t : Bool). Contains (if t then (i, 1) ∷ [] else mark_if (changes_content line) i 3) (i, 3)) (sym test) (mark_in (changes_content line) i 3 changes))

  below_mark : (i : ℕ) (line other : Line) (j : ℕ) (path : Path) → IsAt lines i line → IsAt lines j other → is_creating line ≡ true → copied (action_of other) ≡ Some path
      → is_prefix (path_in other.path) (path_in line.path) ≡ true → path_in other.path ≢ path_in line.path → Contains (marks_of lines pairs) (i, 2)
  below_mark i line other j path at there creates e above differ = elim (cases_lt i j) [
    | inl less ↦ (
        let pair = shared_pair i j line other less at there p (both_from line other (clear_of i line at) (clear_of j other there) p own_named line_reaches other_reaches) in
        marked (record { first = i; second = j; path = pair.0 }) pair.1 (Some line) (Some other) at there (i, 2)
        (Contains-append_left (mark_if (is_below other line) j 2 ++ mark_if (is_below line other) i 2) (mark_if (mixes line other) j 4) (i, 2)
        (Contains-append_right (mark_if (is_below other line) j 2) (mark_if (is_below line other) i 2) (i, 2) (mark_in (is_below line other) i 2 is))))
    | inr more ↦ elim (cases_lt j i) [
      | inl less ↦ (
          let pair = shared_pair j i other line less there at p (both_from other line (clear_of j other there) (clear_of i line at) p own_named other_reaches line_reaches) in
          marked (record { first = j; second = i; path = pair.0 }) pair.1 (Some other) (Some line) there at (i, 2)
          (Contains-append_left (mark_if (is_below line other) i 2 ++ mark_if (is_below other line) j 2) (mark_if (mixes other line) i 4) (i, 2)
          (Contains-append_left (mark_if (is_below line other) i 2) (mark_if (is_below other line) j 2) (i, 2) (mark_in (is_below line other) i 2 is))))
      | inr same ↦ absurd (differ (
          let one : i ≡ j = omega (arith, more, same) in
          let lines_same : Some line ≡ Some other = sym at ∙ ap (slice_get lines) one ∙ there in
          let equal : line ≡ other = cc in
          ap (λ (l : Line). path_in l.path) (sym equal)))
    ]
  ]
    where
      p : Path
      p = path_in line.path

      own_named : has_names p ≡ true
      own_named = named_of i line at

      line_reaches : reaches line p ≡ true
      line_reaches = own_reach line creates

      other_reaches : reaches other p ≡ true
      other_reaches = copy_reaches other (line_of j other there) path e p above

      not_same : not (same_path (path_in other.path) p) ≡ true
      not_same = by (same_path (path_in other.path) p) refl
        where
          by : (t : Bool) → same_path (path_in other.path) p ≡ t → not t ≡ true
          by true f = absurd (differ ((same_path-decides (path_in other.path) p).0 f))
          by false f = refl

      is : is_below line other ≡ true
      is = and_from (is_creating line && is_some (copied (action_of other)) && is_prefix (path_in other.path) p) (not (same_path (path_in other.path) p))
          (and_from (is_creating line && is_some (copied (action_of other))) (is_prefix (path_in other.path) p) (and_from (is_creating line) (is_some (copied (action_of other))) creates (ap is_some e)) above) not_same

  mask_mark : (i : ℕ) (line other : Line) (j : ℕ) (q : Path) → IsAt lines i line → IsAt lines j other → j < i → has_names q ≡ true → (reaches other q ≡ true) × (reaches line q ≡ true)
      → ((has_masked_mode other ≡ true) × (sets_base line ≡ true)) ⊎ ((sets_base other ≡ true) × (has_masked_mode line ≡ true)) → Contains (marks_of lines pairs) (i, 4)
  mask_mark i line other j q at there before named reach mixed =
      let pair = shared_pair j i other line before there at q (both_from other line (clear_of j other there) (clear_of i line at) q named reach.0 reach.1) in
      marked (record { first = j; second = i; path = pair.0 }) pair.1 (Some other) (Some line) there at (i, 4)
      (Contains-append_right (mark_if (is_below line other) i 2 ++ mark_if (is_below other line) j 2) (mark_if (mixes other line) i 4) (i, 4) (mark_in (mixes other line) i 4 (by mixed)))
    where
      by : ((has_masked_mode other ≡ true) × (sets_base line ≡ true)) ⊎ ((sets_base other ≡ true) × (has_masked_mode line ≡ true)) → mixes other line ≡ true
      by (inl f) = or_left (has_masked_mode other && sets_base line) (sets_base other && has_masked_mode line) (and_from (has_masked_mode other) (sets_base line) f.0 f.1)
      by (inr f) = or_right (has_masked_mode other && sets_base line) (sets_base other && has_masked_mode line) (and_from (sets_base other) (has_masked_mode line) f.0 f.1)

  pub mark_of : (i : ℕ) (r : Reason) → HasReason lines i r → Contains (marks_of lines pairs) (i, rank r)
  mark_of i r (HasReason.append line at e) = Contains-append_left (own_marks 0 lines) (flat_map (pair_marks lines (count + copies)) pairs) (i, 0) (subst (λ (k : ℕ). Contains (own_marks 0 lines) (k, 0)) (let z : 0 + i ≡ i = omega arith in z) (own_in 0 lines i line at e))
  mark_of i r (HasReason.source line other j path q at there e above named g) = source_mark i line other j path q at there e above named g
  mark_of i r (made_below line other j path at there creates e above differ) = below_mark i line other j path at there creates e above differ
  mark_of i r (HasReason.input line q at changes is named g) = input_mark i line q at changes is named g
  mark_of i r (HasReason.mask line other j q at there before named reach mixed) = mask_mark i line other j q at there before named reach mixed
