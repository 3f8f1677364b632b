-- The verdict, and that there is one list of reasons.
use Rattle.std.proofs.Common.{◌≡◌, ℕ, zero, suc, ◌-◌, ◌<◌, inl, inr, List, [], ◌∷◌, ◌++◌, Some, nat_lt, length, filter, All, AllPairs, Contains, refl, sym, ap, ◌∙◌, subst, arith}
use Rattle.std.specs.Prelude.{◌↔◌, slice_get}
use Rattle.std.specs.List.{AllByRecursion}
use Rattle.std.proofs.lemmas.List.{get_or_push, length_push}
use Rattle.std.proofs.lemmas.List.Elements.{All-from_recursion}
use Rattle.std.proofs.lemmas.Option.{slice_get-get_or, same_Some}
use Rattle.pv_lines.specs.declared.line.Line.{Line}
use Rattle.pv_lines.specs.Lines.{IsLine}
use Rattle.pv_glob.specs.declared.meeting.Reach.{Reach}
use Rattle.pv_overlap.specs.declared.pair.Pair.{Pair}
use Rattle.pv_overlap.specs.Answers.{ComesBefore, IsAnswered, IsReported}
use Rattle.pv_table.specs.Repeatable.{IsRepeatable}
use Rattle.pv_overlap.specs.declared.listing.Unrepeatable.{Unrepeatable}
use Rattle.pv_overlap.specs.Marks.{marks_of, rank}
use Rattle.pv_overlap.specs.Reporting.{ComesFirst, ListsOverlaps, ListsReasons}
use Rattle.pv_overlap.specs.GivenMessages.{repeatable, SaysRepeatable, verdict}
use Rattle.pv_overlap.specs.Subjects.{MayAnswer, reaches_of}
use Rattle.pv_overlap.proofs.MarkLaws.{each_reason, lists_overlaps, mark_of}
use Rattle.pv_overlap.proofs.Members.{first_in, in_cases, in_none, later_in}

-- no reason is listed exactly if the lines may be carried out twice
pub none_listed : (lines : List Line) (list : List Unrepeatable) → ListsReasons lines list → (list ≡ []) ↔ IsRepeatable lines
none_listed lines [] lists = (λ e i r has. in_none (record { line = i; reason = r }) ((lists.exact (record { line = i; reason = r })).1 has), λ none. refl)
none_listed lines (u ∷ list) lists = (
  λ e. absurd (let long : suc (length list) ≡ 0 = ap length e in omega (arith, long)),
  λ none. absurd (none u.line u.reason ((lists.exact u).0 (first_in u list))),
)

verdict_none : (list : List Unrepeatable) → (verdict list ≡ repeatable) ↔ (list ≡ [])
verdict_none [] = (λ e. refl, λ e. refl)
verdict_none (u ∷ list) = (λ e. absurd (let long : 14 ≡ 10 = ap length e in omega (arith, long)), λ e. absurd (let long : suc (length list) ≡ 0 = ap length e in omega (arith, long)))

last_pushed : (old : List (List ℕ)) (text : List ℕ) → slice_get (old ++ text ∷ []) (length (old ++ text ∷ []) - 1) ≡ Some text
last_pushed old text =
    let long = length_push old text in
    slice_get-get_or (old ++ text ∷ []) (length (old ++ text ∷ []) - 1) [] (omega (arith, long)) ∙ ap Some (get_or_push old text [] (length (old ++ text ∷ []) - 1) (omega (arith, long)))

-- the last message of a report is the verdict on its lines
pub verdict_message : (lines : List Line) (list : List Unrepeatable) (old new : List (List ℕ)) → new ≡ old ++ verdict list ∷ [] → ListsReasons lines list → SaysRepeatable new ↔ IsRepeatable lines
verdict_message lines list old new e lists = (
  λ says. (none_listed lines list lists).0 ((verdict_none list).0 (same_Some (verdict list) repeatable (sym last ∙ says))),
  λ none. last ∙ ap Some ((verdict_none list).1 ((none_listed lines list lists).1 none)),
)
  where
    last : slice_get new (length new - 1) ≡ Some (verdict list)
    last = subst (λ (ms : List (List ℕ)). slice_get ms (length ms - 1) ≡ Some (verdict list)) (sym e) (last_pushed old (verdict list))

-- ---- lists in order with the same elements

module _ {X : Type 0} (R : X → X → Type 0) (never : (x y : X) → R x y → R y x → ⊥) where
  tail_ordered : (x : X) (xs : List X) → AllPairs R (x ∷ xs) → AllPairs R xs
  tail_ordered x xs all = λ i j d l m. all (suc i) (suc j) d (omega (arith, l)) (omega (arith, m))

  head_before : (x : X) (xs : List X) (y : X) → AllPairs R (x ∷ xs) → Contains xs y → R x y
  head_before x xs y all c = let l = c.1 in subst (λ (z : X). R x z) c.2 (all zero (suc c.0) y (omega arith) (omega (arith, l)))

  pub one_list : (xs ys : List X) → AllPairs R xs → AllPairs R ys → ((x : X) → Contains xs x → Contains ys x) → ((x : X) → Contains ys x → Contains xs x) → xs ≡ ys
  one_list [] [] p q there back = refl
  one_list [] (y ∷ ys) p q there back = absurd (in_none y (back y (first_in y ys)))
  one_list (x ∷ xs) [] p q there back = absurd (in_none x (there x (first_in x xs)))
  one_list (x ∷ xs) (y ∷ ys) p q there back =
      ap (λ (z : X). z ∷ xs) same ∙ ap (λ (zs : List X). y ∷ zs) (one_list xs ys (tail_ordered x xs p) (tail_ordered y ys q) on off)
    where
      same : x ≡ y
      same = elim (in_cases y ys x (there x (first_in x xs))) [
        | inl e ↦ sym e
        | inr c ↦ elim (in_cases x xs y (back y (first_in y ys))) [ inl e ↦ e | inr d ↦ absurd (never x y (head_before x xs y p d) (head_before y ys x q c)) ]
      ]

      on : (z : X) → Contains xs z → Contains ys z
      on z c = elim (in_cases y ys z (there z (later_in x xs z c))) [
        | inl e ↦ absurd (let own = subst (λ (w : X). R w z) (same ∙ e) (head_before x xs z p c) in never z z own own)
        | inr d ↦ d
      ]

      off : (z : X) → Contains ys z → Contains xs z
      off z c = elim (in_cases x xs z (back z (later_in y ys z c))) [
        | inl e ↦ absurd (let own = subst (λ (w : X). R w z) (sym same ∙ e) (head_before y ys z q c) in never z z own own)
        | inr d ↦ d
      ]

never_both : (u v : Unrepeatable) → ComesFirst u v → ComesFirst v u → ⊥
never_both u v (inl l) (inl m) = omega (arith, l, m)
never_both u v (inl l) (inr m) = let e = m.0 in omega (arith, l, e)
never_both u v (inr l) (inl m) = let e = l.0 in omega (arith, m, e)
never_both u v (inr l) (inr m) = let a = l.1 in let b = m.1 in omega (arith, a, b)

pub one_report : (lines : List Line) (list other : List Unrepeatable) → ListsReasons lines list → ListsReasons lines other → list ≡ other
one_report lines list other a b =
    one_list ComesFirst never_both list other a.ordered b.ordered
    (λ u c. (b.exact u).1 ((a.exact u).0 c)) (λ u c. (a.exact u).1 ((b.exact u).0 c))

-- ---- the lists of a report

module _ (lines : List Line) (are : AllByRecursion IsLine lines) (reaches : List Reach) (is : reaches ≡ reaches_of lines) (pairs : List Pair)
    (listed : (pair : Pair) → Contains pairs pair → IsAnswered (MayAnswer reaches (length lines)) (length reaches) pair)
    (recorded : (i j : ℕ) → i < j → j < length reaches → IsReported (MayAnswer reaches (length lines)) pairs i j) where
  each_line : All IsLine lines
  each_line = All-from_recursion IsLine lines are

  listed_there : (pair : Pair) → Contains pairs pair → IsAnswered (MayAnswer (reaches_of lines) (length lines)) (length (reaches_of lines)) pair
  listed_there = subst (λ (rs : List Reach). (pair : Pair) → Contains pairs pair → IsAnswered (MayAnswer rs (length lines)) (length rs) pair) is listed

  told_there : (i j : ℕ) → i < j → j < length (reaches_of lines) → IsReported (MayAnswer (reaches_of lines) (length lines)) pairs i j
  told_there = subst (λ (rs : List Reach). (i j : ℕ) → i < j → j < length rs → IsReported (MayAnswer rs (length lines)) pairs i j) is recorded

  pub report_overlaps : AllPairs ComesBefore pairs → (overlaps : List Pair) → overlaps ≡ filter (λ pair. nat_lt pair.second (length lines)) pairs → ListsOverlaps lines overlaps
  report_overlaps ordered overlaps e = subst (ListsOverlaps lines) (sym e) (lists_overlaps lines each_line pairs listed_there told_there ordered)

  pub report_reasons : (list : List Unrepeatable) → ((u : Unrepeatable) → Contains list u ↔ Contains (marks_of lines pairs) (u.line, rank u.reason)) → AllPairs ComesFirst list → ListsReasons lines list
  report_reasons list exact ordered = record {
    exact = λ u. (λ c. each_reason lines each_line pairs listed_there told_there u.line u.reason ((exact u).0 c), λ h. (exact u).1 (mark_of lines each_line pairs listed_there told_there u.line u.reason h));
    ordered = ordered;
  }

-- the same of what the calls have answered
module _ (lines known : List Line) (same : known ≡ lines) (are : AllByRecursion IsLine lines) (reaches slice : List Reach) (is : reaches ≡ reaches_of known) (own : slice ≡ reaches) (count : ℕ) (counted : count ≡ length lines) (pairs : List Pair)
    (listed : (pair : Pair) → Contains pairs pair → IsAnswered (MayAnswer slice count) (length slice) pair)
    (recorded : (i j : ℕ) → i < j → j < length slice → IsReported (MayAnswer slice count) pairs i j) where
  whole : slice ≡ reaches_of lines
  whole = own ∙ is ∙ ap reaches_of same

  listed_all : (pair : Pair) → Contains pairs pair → IsAnswered (MayAnswer slice (length lines)) (length slice) pair
  listed_all = subst (λ (n : ℕ). (pair : Pair) → Contains pairs pair → IsAnswered (MayAnswer slice n) (length slice) pair) counted listed

  told_all : (i j : ℕ) → i < j → j < length slice → IsReported (MayAnswer slice (length lines)) pairs i j
  told_all = subst (λ (n : ℕ). (i j : ℕ) → i < j → j < length slice → IsReported (MayAnswer slice n) pairs i j) counted recorded

  pub made_overlaps : AllPairs ComesBefore pairs → (number : ℕ) → number ≡ length lines → (overlaps : List Pair) → overlaps ≡ filter (λ pair. nat_lt pair.second number) pairs → ListsOverlaps lines overlaps
  made_overlaps ordered number e overlaps f = report_overlaps lines are slice whole pairs listed_all told_all ordered overlaps (f ∙ ap (λ (n : ℕ). filter (λ pair. nat_lt pair.second n) pairs) e)

  pub made_reasons : (others : List Line) → others ≡ lines → (given : List Pair) → given ≡ pairs → (list : List Unrepeatable) → ((u : Unrepeatable) → Contains list u ↔ Contains (marks_of others given) (u.line, rank u.reason)) → AllPairs ComesFirst list → ListsReasons lines list
  made_reasons others e given f list exact ordered =
      report_reasons lines are slice whole pairs listed_all told_all list
      (λ u. subst (λ (ps : List Pair). Contains list u ↔ Contains (marks_of lines ps) (u.line, rank u.reason)) f (subst (λ (ls : List Line). Contains list u ↔ Contains (marks_of ls given) (u.line, rank u.reason)) e (exact u))) ordered
