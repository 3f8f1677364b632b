-- Marks in order, each once, are reasons in order.
use Rattle.std.proofs.Common.{◌≡◌, ℕ, zero, suc, ◌+◌, ◌<◌, ◌⊎◌, inl, inr, Bool, true, false, nat_lt, List, [], ◌∷◌, ◌++◌, length, map, take, get_or, AllPairs, Contains, if◌then◌else◌, Option, Some, None, refl, sym, ap, ◌∙◌, subst, arith, append_assoc}
use Rattle.std.specs.Prelude.{◌↔◌, slice_get}
use Rattle.std.specs.List.{flat_map}
use Rattle.std.specs.List.Sorted.{IsStrictlySortedBy}
use Rattle.std.specs.Ordering.{nat_cmp, ordering_then}
use Rattle.std.specs.declared.cmp.Ordering.{Ordering}
use Rattle.std.specs.declared.cmp.Ordering.TheVariants.{Less, Greater}
use Rattle.std.proofs.lemmas.Cmp.{ranked, by_ranked}
use Rattle.std.proofs.lemmas.List.{get_or-map, length-map}
use Rattle.std.proofs.lemmas.List.Elements.{All-from_recursion, Contains-append_cases, Contains-get_or}
use Rattle.std.proofs.lemmas.List.Kept.{AllPairs-cons}
use Rattle.pv_lines.specs.declared.line.Line.{Line}
use Rattle.pv_overlap.specs.declared.pair.Pair.{Pair}
use Rattle.pv_table.specs.Repeatable.{appends, changes_content}
use Rattle.pv_overlap.specs.declared.listing.Unrepeatable.{Unrepeatable}
use Rattle.pv_overlap.specs.Marks.{is_below, Mark, mark_cmp, mark_if, marks_by, marks_of, mixes, outer_marks, own_marks, pair_marks, rank, reason_at, reason_of, shared_marks}
use Rattle.pv_overlap.specs.Reporting.{ComesFirst}
use Rattle.pv_overlap.specs.Subjects.{sources_of}
use Rattle.std.specs.Prelude.{IfOk, Result, Ok, Err, ◌&&◌, ◌||◌}
use Rattle.std.specs.declared.alloc.AllocError.{AllocError}
use Rattle.pv_overlap.specs.declared.traits.Traits.{Traits}
use Rattle.pv_overlap.specs.Marks.{traits_of}
use Rattle.pv_overlap.proofs.MarkLaws.{in_mark, in_own, reason_at-rank}
use Rattle.pv_overlap.proofs.Members.{in_flat, in_map, in_none, in_one, map_in}

-- ---- the places of marks are those of the table

abbrev IsPlaced : Mark → Type 0
IsPlaced m = rank (reason_at m.1) ≡ m.1

by_mark : (line place : ℕ) (m : Mark) → IsPlaced (line, place) → (line, place) ≡ m → IsPlaced m
by_mark line place m is e = subst IsPlaced e is

pub placed : (lines : List Line) (pairs : List Pair) (m : Mark) → Contains (marks_of lines pairs) m → IsPlaced m
placed lines pairs m c = by (Contains-append_cases (own_marks 0 lines) (flat_map (pair_marks lines bound) pairs) m c)
  where
    bound : ℕ
    bound = length lines + length (sources_of lines)

    outer : (t : Bool) (i : ℕ) (a : Line) → Contains (if t then (i, 1) ∷ [] else mark_if (changes_content a) i 3) m → IsPlaced m
    outer true i a d = by_mark i 1 m refl (in_one (i, 1) m d)
    outer false i a d = by_mark i 3 m refl (in_mark (changes_content a) i 3 m d).1

    by_lines : (pair : Pair) (o p : Option Line) → Contains (marks_by bound pair o p) m → IsPlaced m
    by_lines pair (Some a) (Some b) d =
        elim (Contains-append_cases (mark_if (is_below b a) pair.second 2 ++ mark_if (is_below a b) pair.first 2) (mark_if (mixes a b) pair.second 4) m d) [
          | inl e ↦ elim (Contains-append_cases (mark_if (is_below b a) pair.second 2) (mark_if (is_below a b) pair.first 2) m e) [
            | inl f ↦ by_mark pair.second 2 m refl (in_mark (is_below b a) pair.second 2 m f).1
            | inr f ↦ by_mark pair.first 2 m refl (in_mark (is_below a b) pair.first 2 m f).1
          ]
          | inr e ↦ by_mark pair.second 4 m refl (in_mark (mixes a b) pair.second 4 m e).1
        ]
    by_lines pair (Some a) None d = outer (nat_lt pair.second bound) pair.first a d
    by_lines pair None p d = absurd (in_none m d)

    by : Contains (own_marks 0 lines) m ⊎ Contains (flat_map (pair_marks lines bound) pairs) m → IsPlaced m
    by (inl own) = let found = in_own 0 lines m own in by_mark (0 + found.0) 0 m refl found.4
    by (inr more) = let found = in_flat (pair_marks lines bound) pairs m more in by_lines found.0 (slice_get lines found.0.first) (slice_get lines found.0.second) found.2

-- ---- the reasons that marks stand for

module _ (marks : List Mark) (are : (m : Mark) → Contains marks m → IsPlaced m) where
  pub reasons_are : (u : Unrepeatable) → Contains (map reason_of marks) u ↔ Contains marks (u.line, rank u.reason)
  reasons_are u = (
    λ c. (let found = in_map reason_of marks u c in
        let same : found.0 ≡ (u.line, rank u.reason) =
        ap (λ (k : ℕ). (found.0.0, k)) (sym (are found.0 found.1)) ∙ ap (λ (v : Unrepeatable). (v.line, rank v.reason)) found.2 in
        subst (λ (m : Mark). Contains marks m) same found.1),
    λ c. subst (λ (r : _). Contains (map reason_of marks) (record { line = u.line; reason = r })) (reason_at-rank u.reason) (map_in reason_of marks (u.line, rank u.reason) c),
  )

  mark_first : (x y : Mark) → IsPlaced x → IsPlaced y → mark_cmp x y ≡ Less → ComesFirst (reason_of x) (reason_of y)
  mark_first x y p q e = by_ranked (x.0 < y.0) (x.0 ≡ y.0) (y.0 < x.0) (nat_cmp x.0 y.0) (ranked x.0 y.0 (nat_cmp x.0 y.0) refl)
      (λ _ less. inl less)
      (λ f same. inr (same, (let l = second (sym (ap (λ (o : Ordering). ordering_then o (nat_cmp x.1 y.1)) f) ∙ e) in omega (arith, l, p, q))))
      (λ f _. absurd (let differ : Greater ≡ Less = sym (ap (λ (o : Ordering). ordering_then o (nat_cmp x.1 y.1)) f) ∙ e in cc))
    where
      second : nat_cmp x.1 y.1 ≡ Less → x.1 < y.1
      second f = by_ranked (x.1 < y.1) (x.1 ≡ y.1) (y.1 < x.1) (nat_cmp x.1 y.1) (ranked x.1 y.1 (nat_cmp x.1 y.1) refl) (λ _ less. less) (λ g _. cc) (λ g _. cc)

  pub reasons_ordered : AllPairs (λ x y. mark_cmp x y ≡ Less) marks → AllPairs ComesFirst (map reason_of marks)
  reasons_ordered all = λ i j d l m. (
      let long = length-map marks reason_of in
      let inside : j < length marks = omega (arith, m, long) in
      let first : i < length marks = omega (arith, l, inside) in
      let zero_mark : Mark = (0, 0) in
      subst (λ (v : Unrepeatable). ComesFirst (get_or (map reason_of marks) i d) v) (sym (get_or-map reason_of marks j zero_mark d inside))
      (subst (λ (u : Unrepeatable). ComesFirst u (reason_of (get_or marks j zero_mark))) (sym (get_or-map reason_of marks i zero_mark d first))
      (mark_first (get_or marks i zero_mark) (get_or marks j zero_mark) (are (get_or marks i zero_mark) (Contains-get_or marks i zero_mark first)) (are (get_or marks j zero_mark) (Contains-get_or marks j zero_mark inside)) (all i j zero_mark l inside))))

pub strict_pairs : (marks : List Mark) → IsStrictlySortedBy mark_cmp marks → AllPairs (λ x y. mark_cmp x y ≡ Less) marks
unfolding IsStrictlySortedBy
strict_pairs [] s = λ i j d l m. absurd (omega (arith, m))
strict_pairs (x ∷ marks) s = AllPairs-cons (λ x y. mark_cmp x y ≡ Less) x marks (All-from_recursion (λ y. mark_cmp x y ≡ Less) marks s.0) (strict_pairs marks s.1)

-- ---- one line more

pub append_nil : (ms : List Mark) → ms ++ [] ≡ ms
append_nil [] = refl
append_nil (m ∷ ms) = ap (λ (xs : List Mark). m ∷ xs) (append_nil ms)

pub own_marks-more : (lines : List Line) (i start : ℕ) (d : Line) → i < length lines → own_marks start (take (suc i) lines) ≡ own_marks start (take i lines) ++ mark_if (appends (get_or lines i d)) (start + i) 0
own_marks-more [] i start d l = absurd (omega (arith, l))
own_marks-more (line ∷ lines) zero start d l =
    append_nil (mark_if (appends line) start 0) ∙ ap (λ (k : ℕ). mark_if (appends line) k 0) (let e : start ≡ start + 0 = omega arith in e)
own_marks-more (line ∷ lines) (suc i) start d l =
    let e : start + 1 + i ≡ start + suc i = omega arith in
    ap (λ (ms : List Mark). mark_if (appends line) start 0 ++ ms) (own_marks-more lines i (start + 1) d (omega (arith, l)) ∙ ap (λ (k : ℕ). own_marks (start + 1) (take i lines) ++ mark_if (appends (get_or lines i d)) k 0) e)
    ∙ sym (append_assoc (mark_if (appends line) start 0) (own_marks (start + 1) (take i lines)) (mark_if (appends (get_or lines i d)) (start + suc i) 0))

-- ---- the reasons of marks in order

module _ (lines : List Line) (pairs : List Pair) (all ordered : List Mark) (list : List Unrepeatable) (whole : all ≡ marks_of lines pairs) (same : (m : Mark) → Contains ordered m ↔ Contains all m) (is : list ≡ map reason_of ordered) where
  all_placed : (m : Mark) → Contains ordered m → IsPlaced m
  all_placed m c = placed lines pairs m (subst (λ (ms : List Mark). Contains ms m) whole ((same m).0 c))

  pub reasons_exact : (u : Unrepeatable) → Contains list u ↔ Contains (marks_of lines pairs) (u.line, rank u.reason)
  reasons_exact u =
      let m : Mark = (u.line, rank u.reason) in
      let on = reasons_are ordered all_placed u in (
        λ c. subst (λ (ms : List Mark). Contains ms m) whole ((same m).0 (on.0 (subst (λ (us : List Unrepeatable). Contains us u) is c))),
        λ c. subst (λ (us : List Unrepeatable). Contains us u) (sym is) (on.1 ((same m).1 (subst (λ (ms : List Mark). Contains ms m) (sym whole) c))),
      )

  pub reasons_in_order : IsStrictlySortedBy mark_cmp ordered → AllPairs ComesFirst list
  reasons_in_order sorted = subst (λ (us : List Unrepeatable). AllPairs ComesFirst us) (sym is) (reasons_ordered ordered all_placed (strict_pairs ordered sorted))

-- ---- the marks that are added

pub own_step : (lines : List Line) (traits : List Traits) (i : ℕ) (d : Traits) (old new : List Mark) → traits ≡ map traits_of lines → i < length traits → old ≡ own_marks 0 (take i lines) → new ≡ old ++ mark_if (get_or traits i d).appends i 0 → new ≡ own_marks 0 (take (i + 1) lines)
own_step [] traits i d old new same l before added = absurd (let none : length traits ≡ 0 = ap length same in omega (arith, l, none))
own_step (first ∷ lines) traits i d old new same l before added =
    let all : List Line = first ∷ lines in
    let long = length-map all traits_of in
    let count : length traits ≡ length (map traits_of all) = ap length same in
    let inside : i < length all = omega (arith, l, long, count) in
    let known : get_or traits i d ≡ traits_of (get_or all i first) = ap (λ (ts : List Traits). get_or ts i d) same ∙ get_or-map traits_of all i first d inside in
    let more : i + 1 ≡ suc i = omega arith in
    let from_zero : i ≡ 0 + i = omega arith in
    added ∙ ap (λ (ms : List Mark). ms ++ mark_if (get_or traits i d).appends i 0) before
    ∙ ap (λ (t : Traits). own_marks 0 (take i all) ++ mark_if t.appends i 0) known
    ∙ ap (λ (k : ℕ). own_marks 0 (take i all) ++ mark_if (appends (get_or all i first)) k 0) from_zero
    ∙ sym (own_marks-more all i 0 first inside) ∙ ap (λ (k : ℕ). own_marks 0 (take k all)) (sym more)

pub shared_added : (old one two : List Mark) (i j : ℕ) (a b : Line) (x y z : Bool) → one ≡ old ++ mark_if x j 2 → two ≡ one ++ mark_if y i 2 → x ≡ is_below b a → y ≡ is_below a b → z ≡ mixes a b → two ++ mark_if z j 4 ≡ old ++ shared_marks i a j b
shared_added old one two i j a b x y z e f p q r =
    ap (λ (ms : List Mark). ms ++ mark_if z j 4) (f ∙ ap (λ (ms : List Mark). ms ++ mark_if y i 2) e ∙ append_assoc old (mark_if x j 2) (mark_if y i 2))
    ∙ append_assoc old (mark_if x j 2 ++ mark_if y i 2) (mark_if z j 4)
    ∙ ap (λ (t : Bool). old ++ (mark_if t j 2 ++ mark_if y i 2 ++ mark_if z j 4)) p
    ∙ ap (λ (t : Bool). old ++ (mark_if (is_below b a) j 2 ++ mark_if t i 2 ++ mark_if z j 4)) q
    ∙ ap (λ (t : Bool). old ++ (mark_if (is_below b a) j 2 ++ mark_if (is_below a b) i 2 ++ mark_if t j 4)) r

pub mixes_is : (a b : Line) (x y : Traits) → x ≡ traits_of a → y ≡ traits_of b → ((x.masked && y.base) || (x.base && y.masked)) ≡ mixes a b
mixes_is a b x y e f = ap (λ (t : Traits). (t.masked && y.base) || (t.base && y.masked)) e ∙ ap (λ (t : Traits). ((traits_of a).masked && t.base) || ((traits_of a).base && t.masked)) f

module _ (lines : List Line) (sources : ℕ) (pair : Pair) where
  by_lines : (x y : Option Line) → x ≡ slice_get lines pair.first → y ≡ slice_get lines pair.second → marks_by sources pair x y ≡ pair_marks lines sources pair
  by_lines x y e f = ap (λ (o : Option Line). marks_by sources pair o y) e ∙ ap (λ (o : Option Line). marks_by sources pair (slice_get lines pair.first) o) f

  pub pair_none : None ≡ slice_get lines pair.first → [] ≡ pair_marks lines sources pair
  pair_none e = by_lines None (slice_get lines pair.second) e refl

  pub pair_one : (a : Line) (i : ℕ) → i ≡ pair.first → Some a ≡ slice_get lines pair.first → None ≡ slice_get lines pair.second
      → outer_marks sources i a pair.second ≡ pair_marks lines sources pair
  pair_one a i n e f = ap (λ (k : ℕ). outer_marks sources k a pair.second) n ∙ by_lines (Some a) None e f

-- ---- the reasons that were listed

module _ (lines : List Line) (pairs : List Pair) (all ordered slice : List Mark) (whole : all ≡ marks_of lines pairs) (same : (m : Mark) → Contains ordered m ↔ Contains all m) (own : slice ≡ ordered) where
  pub exact_ok : (result : Result (List Unrepeatable) AllocError) → IfOk result (λ list. list ≡ map reason_of slice) → IfOk result (λ list. (u : Unrepeatable) → Contains list u ↔ Contains (marks_of lines pairs) (u.line, rank u.reason))
  exact_ok (Ok list) is = reasons_exact lines pairs all ordered list whole same (is ∙ ap (map reason_of) own)
  exact_ok (Err e) is = is

  pub ordered_ok : IsStrictlySortedBy mark_cmp ordered → (result : Result (List Unrepeatable) AllocError) → IfOk result (λ list. list ≡ map reason_of slice) → IfOk result (AllPairs ComesFirst)
  ordered_ok sorted (Ok list) is = reasons_in_order lines pairs all ordered list whole same (is ∙ ap (map reason_of) own) sorted
  ordered_ok sorted (Err e) is = is
