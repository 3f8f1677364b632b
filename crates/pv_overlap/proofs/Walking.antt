-- What is found while heads are walked: all answers for related heads, and nothing else.
use Rattle.std.proofs.Common.{◌≡◌, ℕ, zero, suc, ◌+◌, ◌<◌, ◌≤◌, ◌⊎◌, inl, inr, Bool, true, false, ◌||◌, List, [], ◌∷◌, ◌++◌, length, map, filter, get_or, All, AllPairs, Contains, Option, Some, None, Result, Ok, Err, cond, refl, sym, ap, ◌∙◌, subst, arith}
use Rattle.std.specs.Prelude.{IfOk, ◌↔◌}
use Rattle.std.specs.declared.alloc.AllocError.{AllocError}
use Rattle.std.specs.BTreeMap.{IsOrdered, get, is_at}
use Rattle.std.specs.Map.{keys_of}
use Rattle.std.specs.List.Sorted.{IsStrictlySortedBy}
use Rattle.std.specs.Ordering.{nat_cmp, ordering_then, on}
use Rattle.std.specs.Cmp.{IsTotalOrder}
use Rattle.std.specs.declared.cmp.Ordering.{Ordering}
use Rattle.std.specs.declared.cmp.Ordering.TheVariants.{Less, Equal, Greater}
use Rattle.std.proofs.lemmas.Cmp.{nat_cmp_total, on_total, then_total, ranked, by_ranked}
use Rattle.std.proofs.lemmas.List.{get_or-map, length-map}
use Rattle.std.proofs.lemmas.List.Elements.{All-from_recursion}
use Rattle.std.proofs.lemmas.Bool.{cases_lt}
use Rattle.std.proofs.lemmas.Map.Views.{btree_map_get_iff}
use Rattle.pv_path.specs.Paths.{Path, is_prefix}
use Rattle.pv_overlap.specs.declared.pair.Pair.{Pair}
use Rattle.pv_overlap.specs.declared.walk.Head.{Head}
use Rattle.pv_overlap.specs.Answers.{Answers, ComesBefore, IsAnswered, IsReported, SameAnswers}
use Rattle.pv_overlap.specs.Heads.{related}
use Rattle.pv_overlap.specs.Walk.{Found, Grown, HasAnswer, IsFound, IsOrderOf, IsSound, Walked, found_at, head_at, key_cmp}
use Rattle.pv_overlap.proofs.Related.{first_begins, kept_open, open_next}
use Rattle.pv_path.proofs.Tests.{equal_of}

-- ---- keys

pub key_total : IsTotalOrder key_cmp
key_total = then_total (on_total (λ (p : ℕ × ℕ). p.0) nat_cmp_total) (on_total (λ (p : ℕ × ℕ). p.1) nat_cmp_total)

nat_tied : (a b : ℕ) → nat_cmp a b ≡ Equal → a ≡ b
nat_tied a b e = by_ranked (a < b) (a ≡ b) (b < a) (nat_cmp a b) (ranked a b (nat_cmp a b) refl) (λ f _. cc) (λ f s. s) (λ f _. cc)

then_tied : (o r : Ordering) → ordering_then o r ≡ Equal → (o ≡ Equal) × (r ≡ Equal)
then_tied Less r e = cc
then_tied Equal r e = (refl, e)
then_tied Greater r e = cc

pub key_exact : (x y : ℕ × ℕ) → key_cmp x y ≡ Equal → x ≡ y
key_exact x y e =
    let w = then_tied (nat_cmp x.0 y.0) (nat_cmp x.1 y.1) e in
    let p = nat_tied x.0 y.0 w.0 in
    let q = nat_tied x.1 y.1 w.1 in
    ap (λ a. (a, x.1)) p ∙ ap (λ b. (y.0, b)) q

-- ---- one answer

sound_map : (answers others : Answers) (heads : ℕ) (found : Found) → ((i j : ℕ) (answer : Option Path) → answers i j answer → others i j answer) → IsSound answers heads found → IsSound others heads found
sound_map answers others heads found on sound = λ i j path e. (let s = sound i j path e in (s.0, s.1, on i j (Some path) s.2))

pub sound_same : (answers others : Answers) (heads : ℕ) (found : Found) → SameAnswers answers others → IsSound answers heads found → IsSound others heads found
sound_same answers others heads found same sound = sound_map answers others heads found (λ i j answer a. (same i j answer).0 a) sound

pub grown_same : (answers others : Answers) (heads : ℕ) (old new : Found) → SameAnswers others answers → Grown answers heads old new → Grown others heads old new
grown_same answers others heads old new same grown = record { sound = sound_map answers others heads new (λ i j answer a. (same i j answer).1 a) grown.sound; kept = grown.kept }

pub same_on : (a b c : Answers) → SameAnswers a b → SameAnswers b c → SameAnswers a c
same_on a b c p q = λ i j answer. (λ x. (q i j answer).0 ((p i j answer).0 x), λ x. (p i j answer).1 ((q i j answer).1 x))

none_or : (F A B : Type 0) → (A → B) → F ⊎ A → F ⊎ B
none_or F A B on (inl f) = inl f
none_or F A B on (inr a) = inr (on a)

pub has_same : (answers others : Answers) (found : Found) → SameAnswers others answers → (i j : ℕ) → HasAnswer answers found i j → HasAnswer others found i j
has_same answers others found same i j has =
    (λ l. none_or (IsFound found i j) (answers i j None) (others i j None) ((same i j None).1) (has.0 l), λ l. none_or (IsFound found j i) (answers j i None) (others j i None) ((same j i None).1) (has.1 l))

module _ (answers : Answers) (heads : ℕ) where
  pub grown_on : (old middle new : Found) → Grown answers heads old middle → Grown answers heads middle new → Grown answers heads old new
  grown_on old middle new a b = record { sound = b.sound; kept = λ i j f. b.kept i j (a.kept i j f) }

  found_or : (F G N : Type 0) → (F → G) → F ⊎ N → G ⊎ N
  found_or F G N on (inl f) = inl (on f)
  found_or F G N on (inr n) = inr n

  pub still_has : (old new : Found) → Grown answers heads old new → (i j : ℕ) → HasAnswer answers old i j → HasAnswer answers new i j
  still_has old new grown i j has =
      (λ l. found_or (IsFound old i j) (IsFound new i j) (answers i j None) (grown.kept i j) (has.0 l), λ l. found_or (IsFound old j i) (IsFound new j i) (answers j i None) (grown.kept j i) (has.1 l))

  -- an answer was put in
  module _ (old new : Found) (i j : ℕ) (path : Path) (put : (q : ℕ × ℕ) → get key_cmp new q ≡ cond (is_at (key_cmp (i, j)) q) (Some path) (get key_cmp old q)) where
    at_key : (k l : ℕ) → is_at (key_cmp (i, j)) (k, l) ≡ true → (i ≡ k) × (j ≡ l)
    at_key k l e = let s = key_exact (i, j) (k, l) (equal_of (key_cmp (i, j) (k, l)) e) in (ap (λ (p : ℕ × ℕ). p.0) s, ap (λ (p : ℕ × ℕ). p.1) s)

    at_put : (k l : ℕ) (t : Bool) → is_at (key_cmp (i, j)) (k, l) ≡ t → found_at new k l ≡ cond t (Some path) (found_at old k l)
    at_put k l t e = put (k, l) ∙ ap (λ (b : Bool). cond b (Some path) (get key_cmp old (k, l))) e

    pub grown_by : i < j → j < heads → answers i j (Some path) → IsSound answers heads old → Grown answers heads old new
    grown_by less inside is sound = record { sound = λ k l other e. sound_at k l other e (is_at (key_cmp (i, j)) (k, l)) refl; kept = λ k l f. kept k l f (is_at (key_cmp (i, j)) (k, l)) refl }
      where
        sound_at : (k l : ℕ) (other : Path) → found_at new k l ≡ Some other → (t : Bool) → is_at (key_cmp (i, j)) (k, l) ≡ t → (k < l) × (l < heads) × answers k l (Some other)
        sound_at k l other e true t =
            let w = at_key k l t in
            let w0 = w.0 in
            let w1 = w.1 in
            let same : Some path ≡ Some other = sym (at_put k l true t) ∙ e in
            (omega arith, omega arith, subst (λ x. answers x l (Some other)) w0 (subst (λ x. answers i x (Some other)) w1 (subst (λ (o : Option Path). answers i j o) same is)))
        sound_at k l other e false t = sound k l other (sym (at_put k l false t) ∙ e)

        kept : (k l : ℕ) → IsFound old k l → (t : Bool) → is_at (key_cmp (i, j)) (k, l) ≡ t → IsFound new k l
        kept k l f true t = (path, at_put k l true t)
        kept k l f false t = (f.0, at_put k l false t ∙ f.1)

-- ---- the pairs that were found

abbrev pub pair_of : (ℕ × ℕ) × Path → Pair
pair_of e = record { first = e.0.0; second = e.0.1; path = e.1 }

abbrev pair_from : Pair → (ℕ × ℕ) × Path
pair_from p = ((p.first, p.second), p.path)

comes_from : (x y : ℕ × ℕ) (p q : Path) → key_cmp x y ≡ Less → ComesBefore (pair_of (x, p)) (pair_of (y, q))
comes_from x y p q e = by_ranked (x.0 < y.0) (x.0 ≡ y.0) (y.0 < x.0) (nat_cmp x.0 y.0) (ranked x.0 y.0 (nat_cmp x.0 y.0) refl)
    (λ _ less. inl less)
    (λ f same. inr (same, second (sym (ap (λ o. ordering_then o (nat_cmp x.1 y.1)) f) ∙ e)))
    (λ f _. absurd (let differ : Greater ≡ Less = sym (ap (λ o. ordering_then o (nat_cmp x.1 y.1)) f) ∙ e in cc))
  where
    second : nat_cmp x.1 y.1 ≡ Less → x.1 < y.1
    second f = by_ranked (x.1 < y.1) (x.1 ≡ y.1) (y.1 < x.1) (nat_cmp x.1 y.1) (ranked x.1 y.1 (nat_cmp x.1 y.1) refl) (λ _ less. less) (λ g _. cc) (λ g _. cc)

-- entries whose keys ascend are pairs in order
pub pairs_ordered : (es : List ((ℕ × ℕ) × Path)) → IsStrictlySortedBy key_cmp (keys_of es) → AllPairs ComesBefore (map pair_of es)
unfolding IsStrictlySortedBy
pairs_ordered [] s i j d l m = absurd (omega arith)
pairs_ordered (e ∷ es) s i zero d l m = absurd (omega arith)
pairs_ordered (e ∷ es) s zero (suc j) d l m =
    let inside : j < length es = (let n = length-map es pair_of in omega (arith, m, n)) in
    let first = All-from_recursion (λ y. key_cmp e.0 y ≡ Less) (keys_of es) s.0 j e.0 (let n = length-map es (λ (x : (ℕ × ℕ) × Path). x.0) in omega (arith, n, inside)) in
    let at : get_or (keys_of es) j e.0 ≡ (get_or es j e).0 = get_or-map (λ (x : (ℕ × ℕ) × Path). x.0) es j e e.0 inside in
    subst (λ (x : Pair). ComesBefore (pair_of e) x) (sym (get_or-map pair_of es j e d inside))
    (comes_from e.0 (get_or es j e).0 e.1 (get_or es j e).1 (ap (key_cmp e.0) (sym at) ∙ first))
pairs_ordered (e ∷ es) s (suc i) (suc j) d l m = pairs_ordered es s.1 i j d (omega arith) (omega arith)

contains_map : (es : List ((ℕ × ℕ) × Path)) (e : (ℕ × ℕ) × Path) → Contains es e → Contains (map pair_of es) (pair_of e)
contains_map es e h = (h.0, (let l = h.1 in let n = length-map es pair_of in omega (arith, n)), get_or-map pair_of es h.0 e (pair_of e) h.1 ∙ ap pair_of h.2)

contains_unmap : (es : List ((ℕ × ℕ) × Path)) (p : Pair) → Contains (map pair_of es) p → Contains es (pair_from p)
contains_unmap es p h =
    let l = h.1 in
    let inside : h.0 < length es = (let n = length-map es pair_of in omega (arith, n, l)) in
    (h.0, inside, ap pair_from (sym (get_or-map pair_of es h.0 (pair_from p) p inside) ∙ h.2))

-- exactly what was found is listed
pub pairs_exact : (found : Found) → IsOrdered key_cmp found → (pair : Pair) → (Contains (map pair_of found.entries) pair → found_at found pair.first pair.second ≡ Some pair.path) × (found_at found pair.first pair.second ≡ Some pair.path → Contains (map pair_of found.entries) pair)
pairs_exact found ordered pair =
    let w = btree_map_get_iff key_total key_exact found ordered (pair.first, pair.second) pair.path in
    (λ c. w.1 (contains_unmap found.entries pair c), λ e. contains_map found.entries (pair_from pair) (w.0 e))

-- ---- the walk

module _ (answers : Answers) (heads : List Path) (order : List Head) (is_order : IsOrderOf heads order) (at : ℕ) (inside : at < length order) (open' : List ℕ) (found new : Found)
    (unrelated : (i j : ℕ) → i < j → j < length heads → related (get_or heads i []) (get_or heads j []) ≡ false → answers i j None)
    (walked : Walked answers (length heads) order at open' found) where
  abbrev begins_at : ℕ → Bool
  begins_at q = is_prefix (head_at order q).path (head_at order at).path

  module _ (grown : Grown answers (length heads) found new) (noted : All (λ q. HasAnswer answers new (head_at order q).index (head_at order at).index) (filter begins_at open')) where
    nothing : (i j : ℕ) → i < length heads → j < length heads → related (get_or heads i []) (get_or heads j []) ≡ false → related (get_or heads j []) (get_or heads i []) ≡ false → HasAnswer answers new i j
    nothing i j li lj e f = (λ l. inr (unrelated i j l lj e), λ l. inr (unrelated j i l li f))

    turned : (p q : Path) → related p q ≡ false → related q p ≡ false
    turned p q e = by (is_prefix p q) (is_prefix q p) e
      where
        by : (a b : Bool) → (a || b) ≡ false → (b || a) ≡ false
        by true b e = cc
        by false true e = cc
        by false false e = refl

    apart : (p q : Path) → (related p q ≡ true → is_prefix p q ≡ true) → is_prefix p q ≡ false → related p q ≡ false
    apart p q begins e = by (related p q) refl
      where
        by : (t : Bool) → related p q ≡ t → t ≡ false
        by true f = sym (begins f) ∙ e
        by false f = refl

    here : (q : ℕ) → q < at → (t : Bool) → begins_at q ≡ t → HasAnswer answers new (head_at order q).index (head_at order at).index
    here q l true e =
        let c = kept_open heads order is_order at inside open' walked.is_open q l e in
        subst (λ x. HasAnswer answers new (head_at order x).index (head_at order at).index) c.2 (noted c.0 q c.1)
    here q l false e =
        let a = is_order.each q (omega arith) in
        let b = is_order.each at inside in
        let p = (head_at order q).path in
        let r = (head_at order at).path in
        let far : related p r ≡ false = apart p r (first_begins p r (is_order.sorted q at (omega arith) inside)) e in
        let far_heads : related (get_or heads (head_at order q).index []) (get_or heads (head_at order at).index []) ≡ false = ap (λ x. related x (get_or heads (head_at order at).index [])) (sym a.1) ∙ ap (λ x. related p x) (sym b.1) ∙ far in
        nothing (head_at order q).index (head_at order at).index a.0 b.0 far_heads (turned (get_or heads (head_at order q).index []) (get_or heads (head_at order at).index []) far_heads)

    pub walked_next : Walked answers (length heads) order (at + 1) (filter begins_at open' ++ at ∷ []) new
    walked_next = record {
      is_open = open_next heads order is_order at inside open' walked.is_open;
      sound = grown.sound;
      all = λ q p l m. elim (cases_lt p at) [
        | inl less ↦ still_has answers (length heads) found new grown (head_at order q).index (head_at order p).index (walked.all q p l less)
        | inr more ↦ (let same : at ≡ p = omega arith in subst (λ x. HasAnswer answers new (head_at order q).index (head_at order x).index) same (here q (omega arith) (begins_at q) refl))
      ];
    }

-- after the walk each two heads were told
pub walked_all : (answers : Answers) (heads : List Path) (order : List Head) → IsOrderOf heads order → (at : ℕ) → length order ≤ at → (open' : List ℕ) (found : Found) → Walked answers (length heads) order at open' found
    → (i j : ℕ) → i < j → j < length heads → IsFound found i j ⊎ answers i j None
walked_all answers heads order is_order at whole open' found walked i j less far =
    let q = is_order.all i (omega arith) in
    let p = is_order.all j far in
    let lq = q.1 in
    let lp = p.1 in
    elim (cases_lt q.0 p.0) [
      | inl before ↦ (
          let recorded : HasAnswer answers found i j = subst (λ x. HasAnswer answers found x j) q.2 (subst (λ x. HasAnswer answers found (head_at order q.0).index x) p.2 (walked.all q.0 p.0 before (omega arith))) in
          recorded.0 less)
      | inr behind ↦ elim (cases_lt p.0 q.0) [
        | inl after ↦ (
            let recorded : HasAnswer answers found j i = subst (λ x. HasAnswer answers found x i) p.2 (subst (λ x. HasAnswer answers found (head_at order p.0).index x) q.2 (walked.all p.0 q.0 after (omega arith))) in
            recorded.1 less)
        | inr same ↦ absurd (let one : q.0 ≡ p.0 = omega arith in let equal : i ≡ j = sym q.2 ∙ ap (λ x. (head_at order x).index) one ∙ p.2 in omega (arith, less, equal))
      ]
    ]

-- what is listed was answered
pub all_answered : (found : Found) (answers : Answers) (heads : ℕ) (result : Result (List Pair) AllocError) → IsSound answers heads found
    → IfOk result (λ pairs. (pair : Pair) → Contains pairs pair ↔ (found_at found pair.first pair.second ≡ Some pair.path)) → IfOk result (λ pairs. (pair : Pair) → Contains pairs pair → IsAnswered answers heads pair)
all_answered found answers heads (Ok pairs) sound exact = λ pair c. sound pair.first pair.second pair.path ((exact pair).0 c)
all_answered found answers heads (Err e) sound exact = exact

-- what was answered is listed
pub all_told : (found : Found) (answers : Answers) (heads : ℕ) (result : Result (List Pair) AllocError) → ((i j : ℕ) → i < j → j < heads → IsFound found i j ⊎ answers i j None)
    → IfOk result (λ pairs. (pair : Pair) → Contains pairs pair ↔ (found_at found pair.first pair.second ≡ Some pair.path)) → IfOk result (λ pairs. (i j : ℕ) → i < j → j < heads → IsReported answers pairs i j)
all_told found answers heads (Ok pairs) all exact = λ i j less far. by i j (all i j less far)
  where
    by : (i j : ℕ) → IsFound found i j ⊎ answers i j None → IsReported answers pairs i j
    by i j (inl f) = inl (f.0, (exact (record { first = i; second = j; path = f.0 })).1 f.1)
    by i j (inr n) = inr n
all_told found answers heads (Err e) all exact = exact
