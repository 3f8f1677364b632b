-- What is asked while heads are walked: each query about related heads once, and nothing else.
use Rattle.std.proofs.Common.{◌≡◌, ◌≢◌, ℕ, ◌+◌, ◌<◌, ◌≤◌, ◌⊎◌, inl, inr, min, max, Bool, true, false, ◌||◌, List, [], ◌++◌, length, map, filter, take, get_or, All, AllPairs, Contains, Result, Ok, Err, IsErr, is_ok, refl, sym, ap, ◌∙◌, subst, arith}
use Rattle.std.specs.declared.alloc.AllocError.{AllocError}
use Rattle.std.proofs.Math.Bool.{or-true}
use Rattle.std.proofs.lemmas.Bool.{cases_eq, cases_lt, or_cases}
use Rattle.std.proofs.lemmas.List.{get_or-map, length-map}
use Rattle.std.proofs.lemmas.List.Elements.{All-append, All-contains, All-filter, All-map, All-take, All-weaker, Contains-append_left, Contains-append_right, filter_passes}
use Rattle.std.proofs.lemmas.List.Kept.{AllPairs-filter}
use Rattle.pv_path.specs.Paths.{Path, is_prefix}
use Rattle.pv_overlap.specs.declared.pair.Pair.{Pair}
use Rattle.pv_overlap.specs.declared.walk.Head.{Head}
use Rattle.pv_overlap.specs.Heads.{related}
use Rattle.pv_overlap.specs.Questions.{IsQuestion, Question, WasAsked}
use Rattle.pv_overlap.specs.Walk.{IsHeadOf, IsOpen, IsOrderOf, head_at, question_of, questions_at}
use Rattle.pv_overlap.proofs.Pairs.{AllPairs-append, AllPairs-map, AllPairs-none, AllPairs-take}
use Rattle.pv_overlap.proofs.Related.{first_begins, kept_open}

-- a query about heads at two places below one, of which the first begins the second
pub record IsAskedOf (order : List Head) (at : ℕ) (question : Question) : Type 0 where
  pub first : ℕ
  pub second : ℕ
  pub less : first < second
  pub below : second < at
  pub begins : is_prefix (head_at order first).path (head_at order second).path ≡ true
  pub is : question ≡ question_of (head_at order first) (head_at order second)

-- such queries, none twice
pub record AreAskedOf (order : List Head) (at : ℕ) (questions : List Question) : Type 0 where
  pub each : All (IsAskedOf order at) questions
  pub once : AllPairs ◌≢◌ questions

-- when the heads below a place have been walked, all of them were asked
pub record AskedBelow (asked : List Question → Type 0) (order : List Head) (at : ℕ) : Type 0 where
  pub questions : List Question
  pub recorded : asked questions
  pub are : AreAskedOf order at questions
  pub all : (q p : ℕ) → q < p → p < at → is_prefix (head_at order q).path (head_at order p).path ≡ true → Contains questions (question_of (head_at order q) (head_at order p))

pub question_up : (a b : Head) → a.index < b.index → question_of a b ≡ (a.index, b.index)
question_up a b less =
    let low : min a.index b.index ≡ a.index = omega arith in
    let high : max a.index b.index ≡ b.index = omega arith in
    ap (λ (x : ℕ). (x, max a.index b.index)) low ∙ ap (λ (x : ℕ). (a.index, x)) high

pub question_down : (a b : Head) → b.index < a.index → question_of a b ≡ (b.index, a.index)
question_down a b less =
    let low : min a.index b.index ≡ b.index = omega arith in
    let high : max a.index b.index ≡ a.index = omega arith in
    ap (λ (x : ℕ). (x, max a.index b.index)) low ∙ ap (λ (x : ℕ). (b.index, x)) high

not_both : (result : Result (List Pair) AllocError) → IsErr result → is_ok result ≡ true → ⊥
not_both (Ok pairs) failed e = let differ : ◌≡◌ {A = Bool} false true = failed in cc
not_both (Err fault) failed e = let differ : ◌≡◌ {A = Bool} false true = e in cc

pub was_none : (asked : List Question → Type 0) (heads : List Path) → asked [] → (result : Result (List Pair) AllocError) → IsErr result → WasAsked asked heads (is_ok result)
was_none asked heads none result failed = record {
  questions = [];
  recorded = none;
  each = λ k d l. absurd (omega arith);
  once = AllPairs-none ◌≢◌;
  all = λ e. absurd (not_both result failed e);
}

related_of : (p q : Path) → is_prefix p q ≡ true → related p q ≡ true
related_of p q e = ap (λ t. t || is_prefix q p) e

related_back : (p q : Path) → is_prefix q p ≡ true → related p q ≡ true
related_back p q e = ap (λ t. is_prefix p q || t) e ∙ or-true (is_prefix p q)

turned : (p q : Path) → related p q ≡ true → related q p ≡ true
turned p q e = elim (or_cases (is_prefix p q) (is_prefix q p) e) [ inl f ↦ related_back q p f | inr f ↦ related_of q p f ]

-- two numbers are the lesser and the greater of two in one way
same_two : (i j k l : ℕ) → min i j ≡ min k l → max i j ≡ max k l → ((i ≡ k) × (j ≡ l)) ⊎ ((i ≡ l) × (j ≡ k))
same_two i j k l low high = elim (cases_eq i k) [
  | inl e ↦ inl (e, omega arith)
  | inr differ ↦ inr ((omega arith), (omega arith))
]

module _ (heads : List Path) (order : List Head) (is_order : IsOrderOf heads order) where
  one_place : (k l : ℕ) → k < length order → l < length order → (head_at order k).index ≡ (head_at order l).index → k ≡ l
  one_place k l a b e = elim (cases_lt k l) [
    | inl less ↦ absurd (is_order.once k l less b e)
    | inr more ↦ elim (cases_lt l k) [
      | inl less ↦ absurd (is_order.once l k less a (sym e))
      | inr same ↦ omega arith
    ]
  ]

  -- queries about other places differ
  one_question : (q p r s : ℕ) → q < p → p < length order → r < s → s < length order → question_of (head_at order q) (head_at order p) ≡ question_of (head_at order r) (head_at order s) → (q ≡ r) × (p ≡ s)
  one_question q p r s less inside fewer within e =
      elim (same_two (head_at order q).index (head_at order p).index (head_at order r).index (head_at order s).index (ap (λ (x : Question). x.0) e) (ap (λ (x : Question). x.1) e)) [
        | inl w ↦ (one_place q r (omega arith) (omega arith) w.0, one_place p s inside within w.1)
        | inr w ↦ absurd (let a = one_place q s (omega arith) within w.0 in let b = one_place p r inside (omega arith) w.1 in omega arith)
      ]

  at_heads : (a b : Head) → IsHeadOf heads a → IsHeadOf heads b → related a.path b.path ≡ true → related (get_or heads a.index []) (get_or heads b.index []) ≡ true
  at_heads a b ha hb e = ap (λ (x : Path). related x (get_or heads b.index [])) (sym ha.1) ∙ ap (λ (x : Path). related a.path x) (sym hb.1) ∙ e

  question_between : (a b : Head) → IsHeadOf heads a → IsHeadOf heads b → a.index ≢ b.index → related a.path b.path ≡ true → IsQuestion heads (question_of a b)
  question_between a b ha hb differ e = elim (cases_lt a.index b.index) [
    | inl less ↦ subst (λ (x : Question). IsQuestion heads x) (sym (question_up a b less)) (less, hb.0, at_heads a b ha hb e)
    | inr more ↦ elim (cases_lt b.index a.index) [
      | inl less ↦ subst (λ (x : Question). IsQuestion heads x) (sym (question_down a b less)) (less, ha.0, at_heads b a hb ha (turned a.path b.path e))
      | inr same ↦ absurd (differ (omega arith))
    ]
  ]

  -- what was asked are queries about the heads
  is_question : (at : ℕ) → at ≤ length order → (question : Question) → IsAskedOf order at question → IsQuestion heads question
  is_question at within question of =
      let less = of.less in
      let below = of.below in
      let inside : of.second < length order = omega arith in
      let earlier : of.first < length order = omega arith in
      subst (λ (x : Question). IsQuestion heads x) (sym of.is)
      (question_between (head_at order of.first) (head_at order of.second) (is_order.each of.first earlier) (is_order.each of.second inside) (is_order.once of.first of.second less inside)
      (related_of (head_at order of.first).path (head_at order of.second).path of.begins))

  pub was_some : (asked : List Question → Type 0) (at : ℕ) → at ≤ length order → (questions : List Question) → asked questions → AreAskedOf order at questions → (result : Result (List Pair) AllocError) → IsErr result → WasAsked asked heads (is_ok result)
  was_some asked at within questions recorded are result failed = record {
    questions = questions;
    recorded = recorded;
    each = All-weaker (IsAskedOf order at) (IsQuestion heads) (is_question at within) questions are.each;
    once = are.once;
    all = λ e. absurd (not_both result failed e);
  }

  path_is : (k i : ℕ) → k < length order → (head_at order k).index ≡ i → (head_at order k).path ≡ get_or heads i []
  path_is k i l e = (is_order.each k l).1 ∙ ap (λ x. get_or heads x []) e

  module _ (asked : List Question → Type 0) (at : ℕ) (whole : length order ≤ at) (within : at ≤ length order) (below : AskedBelow asked order at) where
    -- the query about two heads was asked, in whichever order they stand
    among : (k l i j : ℕ) → k < l → l < length order → (head_at order k).index ≡ i → (head_at order l).index ≡ j → related (get_or heads i []) (get_or heads j []) ≡ true → Contains below.questions (question_of (head_at order k) (head_at order l))
    among k l i j less inside a b e =
        let p = (head_at order k).path in
        let q = (head_at order l).path in
        let far : related p q ≡ true = ap (λ (x : Path). related x q) (path_is k i (omega arith) a) ∙ ap (λ (x : Path). related (get_or heads i []) x) (path_is l j inside b) ∙ e in
        below.all k l less (omega arith) (first_begins p q (is_order.sorted k l (omega arith) inside) far)

    all_asked : (i j : ℕ) → i < j → j < length heads → related (get_or heads i []) (get_or heads j []) ≡ true → Contains below.questions (i, j)
    all_asked i j less far e =
        let k = is_order.all i (omega arith) in
        let l = is_order.all j far in
        let lk = k.1 in
        let ll = l.1 in
        let a = k.2 in
        let b = l.2 in
        elim (cases_lt k.0 l.0) [
          | inl before ↦ subst (λ (x : Question). Contains below.questions x)
              (question_up (head_at order k.0) (head_at order l.0) (omega (arith, a, b, less)) ∙ ap (λ (x : ℕ). (x, (head_at order l.0).index)) a ∙ ap (λ (x : ℕ). (i, x)) b)
              (among k.0 l.0 i j before ll a b e)
          | inr behind ↦ elim (cases_lt l.0 k.0) [
            | inl after ↦ subst (λ (x : Question). Contains below.questions x)
                (question_down (head_at order l.0) (head_at order k.0) (omega (arith, a, b, less)) ∙ ap (λ (x : ℕ). (x, (head_at order l.0).index)) a ∙ ap (λ (x : ℕ). (i, x)) b)
                (among l.0 k.0 j i after lk b a (turned (get_or heads i []) (get_or heads j []) e))
            | inr same ↦ absurd (let one : k.0 ≡ l.0 = omega arith in let equal : i ≡ j = sym a ∙ ap (λ x. (head_at order x).index) one ∙ b in omega (arith, less, equal))
          ]
        ]

    pub was_all : (done : Bool) → WasAsked asked heads done
    was_all done = record {
      questions = below.questions;
      recorded = below.recorded;
      each = All-weaker (IsAskedOf order at) (IsQuestion heads) (is_question at within) below.questions below.are.each;
      once = below.are.once;
      all = λ e question is. all_asked question.0 question.1 is.0 is.1 is.2;
    }

  -- the next head is walked
  module _ (at : ℕ) (inside : at < length order) where
    abbrev ask : ℕ → Question
    ask q = question_of (head_at order q) (head_at order at)

    abbrev begins : ℕ → Bool
    begins q = is_prefix (head_at order q).path (head_at order at).path

    later : (x : Question) → IsAskedOf order at x → IsAskedOf order (at + 1) x
    later x of = record { first = of.first; second = of.second; less = of.less; below = (let l = of.below in omega arith); begins = of.begins; is = of.is }

    -- the query is a new one
    abbrev IsNew : Question → Type 0
    IsNew x = (q : ℕ) × (q < at) × (x ≡ ask q)

    other : (x y : Question) → IsAskedOf order at x → IsNew y → x ≢ y
    other x y of new e =
        let less = of.less in
        let below = of.below in
        let same = (one_question of.first of.second new.0 at less (omega arith) new.1 inside (sym of.is ∙ e ∙ new.2)).1 in
        omega arith

    apart : (a b : ℕ) → a < at → b < at → a < b → ask a ≢ ask b
    apart a b below under less e = let same = (one_question a at b at below inside under inside e).0 in omega arith

    asked_more : (questions : List Question) → AreAskedOf order at questions → (places : List ℕ) → All (λ q. q < at) places → All (λ q. begins q ≡ true) places → AllPairs ◌<◌ places → AreAskedOf order (at + 1) (questions ++ questions_at order at places)
    asked_more questions are places below begin rising = record {
      each = All-append (IsAskedOf order (at + 1)) questions (questions_at order at places) (All-weaker (IsAskedOf order at) (IsAskedOf order (at + 1)) later questions are.each)
          (All-map (IsAskedOf order (at + 1)) ask places (λ k d l. record { first = get_or places k d; second = at; less = below k d l; below = omega arith; begins = begin k d l; is = refl }));
      once = AllPairs-append ◌≢◌ questions (questions_at order at places) are.once
          (AllPairs-map ◌≢◌ ◌<◌ ask places (λ a b c d less. apart a b (All-contains (λ q. q < at) places a below c) (All-contains (λ q. q < at) places b below d) less) rising)
          (λ x y c d. other x y (All-contains (IsAskedOf order at) questions x are.each c)
          (All-contains IsNew (questions_at order at places) y (All-map IsNew ask places (λ k e l. (get_or places k e, below k e l, refl))) d));
    }

    module _ (open' : List ℕ) (is_open : IsOpen order at open') where
      low : All (λ q. q < at) (filter begins open')
      low = All-filter begins (λ q. q < at) open' is_open.below

      up : AllPairs ◌<◌ (filter begins open')
      up = AllPairs-filter ◌<◌ begins open' is_open.rising

      -- so many of the queries about the next head were asked
      pub asked_part : (questions : List Question) → AreAskedOf order at questions → (many : ℕ) → AreAskedOf order (at + 1) (questions ++ questions_at order at (take many (filter begins open')))
      asked_part questions are many = asked_more questions are (take many (filter begins open')) (All-take (λ q. q < at) many (filter begins open') low)
          (All-take (λ q. begins q ≡ true) many (filter begins open') (filter_passes begins open')) (AllPairs-take ◌<◌ many (filter begins open') up)

      in_map : (xs : List ℕ) (x : ℕ) → Contains xs x → Contains (map ask xs) (ask x)
      in_map xs x c = (c.0, (let l = c.1 in let n = length-map xs ask in omega (arith, n)), get_or-map ask xs c.0 x (ask x) c.1 ∙ ap ask c.2)

      -- all of them were asked
      pub asked_next : (old new : List Question → Type 0) (before : AskedBelow old order at) → new (before.questions ++ questions_at order at (filter begins open')) → AskedBelow new order (at + 1)
      asked_next old new before recorded = record {
        questions = before.questions ++ questions_at order at (filter begins open');
        recorded = recorded;
        are = asked_more before.questions before.are (filter begins open') low (filter_passes begins open') up;
        all = λ q p less l e. elim (cases_lt p at) [
          | inl m ↦ Contains-append_left before.questions (questions_at order at (filter begins open')) (question_of (head_at order q) (head_at order p)) (before.all q p less m e)
          | inr m ↦ (
              let same : p ≡ at = omega arith in
              let begun : begins q ≡ true = ap (λ x. is_prefix (head_at order q).path (head_at order x).path) (sym same) ∙ e in
              subst (λ x. Contains (before.questions ++ questions_at order at (filter begins open')) (question_of (head_at order q) (head_at order x))) (sym same)
              (Contains-append_right before.questions (questions_at order at (filter begins open')) (ask q) (in_map (filter begins open') q (kept_open heads order is_order at inside open' is_open q (omega arith) begun))))
        ];
      }
