-- A path lies in two reaches where it is long enough and each name is one that the components there share.
use Rattle.std.proofs.Common.{◌≡◌, ℕ, zero, suc, ◌<◌, ◌≤◌, max, ◌⊎◌, inl, inr, Bool, true, false, not, ◌&&◌, ◌||◌, nat_lt, List, [], ◌∷◌, length, take, get_or, refl, sym, ap, ◌∙◌, arith, if◌then◌else◌}
use Rattle.std.specs.List.{list_all, list_any}
use Rattle.std.specs.Ordering.{nat_cmp, is_gt, ordering_then}
use Rattle.std.specs.declared.cmp.Ordering.{Ordering}
use Rattle.std.specs.Cmp.Lexicographic.{pointwise, slice_cmp}
use Rattle.std.proofs.lemmas.Bool.{cases_lt, and_parts, not-true, or_cases}
use Rattle.std.proofs.lemmas.Bool.Decides.{nat_tests}
use Rattle.std.proofs.lemmas.Cmp.{ranked, by_ranked}
use Rattle.std.proofs.lemmas.List.{get_or-take, length-take-le}
use Rattle.std.proofs.Math.Bool.{or-true}
use Rattle.pv_path.specs.Names.{is_name, is_staging}
use Rattle.pv_path.specs.Paths.{Path, has_names, has_staging}
use Rattle.pv_glob.specs.declared.element.Element.{Element}
use Rattle.pv_glob.specs.Matching.{component_matches, matches}
use Rattle.pv_glob.specs.Meeting.{has_room, in_reach, is_met, met_at, shares}
use Rattle.pv_glob.specs.Words.{IsFirst, shared_cmp, word_cmp}
use Rattle.pv_glob.proofs.Shortlex.{then_first}
use Rattle.pv_path.proofs.Tests.{first_false, second_false}

abbrev Never : Type 0
Never = ◌≡◌ {A = Bool} false true

-- ---- tests of lists, place by place

module _ {X : Type 0} (p : X → Bool) (d : X) where
  all_at : (xs : List X) → list_all p xs ≡ true → (k : ℕ) → k < length xs → p (get_or xs k d) ≡ true
  all_at [] e k l = absurd (omega arith)
  all_at (x ∷ xs) e zero l = (and_parts (p x) (list_all p xs) e).0
  all_at (x ∷ xs) e (suc k) l = all_at xs (and_parts (p x) (list_all p xs) e).1 k (omega arith)

  all_from : (xs : List X) → ((k : ℕ) → k < length xs → p (get_or xs k d) ≡ true) → list_all p xs ≡ true
  all_from [] at = refl
  all_from (x ∷ xs) at = ap (λ t. t && list_all p xs) (at 0 (omega arith)) ∙ all_from xs (λ k l. at (suc k) (omega arith))

  none_at : (xs : List X) → list_any p xs ≡ false → (k : ℕ) → k < length xs → p (get_or xs k d) ≡ false
  none_at [] e k l = absurd (omega arith)
  none_at (x ∷ xs) e zero l = first_false (p x) (list_any p xs) e
  none_at (x ∷ xs) e (suc k) l = none_at xs (second_false (p x) (list_any p xs) e) k (omega arith)

  none_from : (xs : List X) → ((k : ℕ) → k < length xs → p (get_or xs k d) ≡ false) → list_any p xs ≡ false
  none_from [] at = refl
  none_from (x ∷ xs) at = ap (λ t. t || list_any p xs) (at 0 (omega arith)) ∙ none_from xs (λ k l. at (suc k) (omega arith))

module _ {X Y : Type 0} (test : X → Y → Bool) (d : X) (e : Y) where
  pairs_long : (xs : List X) (ys : List Y) → pointwise test xs ys ≡ true → length xs ≡ length ys
  pairs_long [] [] h = refl
  pairs_long [] (y ∷ ys) h = absurd (let differ : Never = h in cc)
  pairs_long (x ∷ xs) [] h = absurd (let differ : Never = h in cc)
  pairs_long (x ∷ xs) (y ∷ ys) h = ap suc (pairs_long xs ys (and_parts (test x y) (pointwise test xs ys) h).1)

  pairs_at : (xs : List X) (ys : List Y) → pointwise test xs ys ≡ true → (k : ℕ) → k < length xs → test (get_or xs k d) (get_or ys k e) ≡ true
  pairs_at [] ys h k l = absurd (omega arith)
  pairs_at (x ∷ xs) [] h k l = absurd (let differ : Never = h in cc)
  pairs_at (x ∷ xs) (y ∷ ys) h zero l = (and_parts (test x y) (pointwise test xs ys) h).0
  pairs_at (x ∷ xs) (y ∷ ys) h (suc k) l = pairs_at xs ys (and_parts (test x y) (pointwise test xs ys) h).1 k (omega arith)

  pairs_from : (xs : List X) (ys : List Y) → length xs ≡ length ys → ((k : ℕ) → k < length xs → test (get_or xs k d) (get_or ys k e) ≡ true) → pointwise test xs ys ≡ true
  pairs_from [] [] long at = refl
  pairs_from [] (y ∷ ys) long at = absurd (omega (arith, long))
  pairs_from (x ∷ xs) [] long at = absurd (omega (arith, long))
  pairs_from (x ∷ xs) (y ∷ ys) long at = ap (λ t. t && pointwise test xs ys) (at 0 (omega arith)) ∙ pairs_from xs ys (omega (arith, long)) (λ k l. at (suc k) (omega arith))

-- lists as long are in order where each of their elements is
slices_first : {X : Type 0} (order : X → X → Ordering) (d : X) (xs ys : List X) → length xs ≡ length ys → ((k : ℕ) → k < length xs → is_gt (order (get_or xs k d) (get_or ys k d)) ≡ false) → is_gt (slice_cmp order xs ys) ≡ false
slices_first order d [] [] long at = refl
slices_first order d [] (y ∷ ys) long at = absurd (omega (arith, long))
slices_first order d (x ∷ xs) [] long at = absurd (omega (arith, long))
slices_first order d (x ∷ xs) (y ∷ ys) long at =
    then_first (order x y) (slice_cmp order xs ys) (at 0 (omega arith)) (slices_first order d xs ys (omega (arith, long)) (λ k l. at (suc k) (omega arith)))

-- ---- one reach

module _ (components : List (List Element)) (below : Bool) (path : Path) where
  -- what a reach asks of a path
  pub record Reached : Type 0 where
    pub clear : has_staging path ≡ false
    pub long : (length components ≡ length path) ⊎ ((below ≡ true) × (length components < length path))
    pub names : (k : ℕ) → k < length components → component_matches (get_or components k []) (get_or path k []) ≡ true

  matched : (names : Path) → matches components names ≡ true → (length components ≡ length names) × ((k : ℕ) → k < length components → component_matches (get_or components k []) (get_or names k []) ≡ true)
  matched names e =
      let w = (and_parts (not (has_staging names)) (pointwise component_matches components names) e).1 in
      (pairs_long component_matches [] [] components names w, pairs_at component_matches [] [] components names w)

  pub reached : in_reach components below path ≡ true → Reached
  reached e =
      let w = and_parts (not (has_staging path)) _ e in
      by (not-true (has_staging path) w.0) (or_cases (matches components path) _ w.1)
    where
      by : has_staging path ≡ false → (matches components path ≡ true) ⊎ ((below && nat_lt (length components) (length path) && matches components (take (length components) path)) ≡ true) → Reached
      by clear (inl whole) = let m = matched path whole in record { clear = clear; long = inl m.0; names = m.1 }
      by clear (inr part) =
          let w = and_parts (below && nat_lt (length components) (length path)) (matches components (take (length components) path)) part in
          let v = and_parts below (nat_lt (length components) (length path)) w.0 in
          let v1 = v.1 in
          let less : length components < length path = grind (arith, nat_tests) in
          let m = matched (take (length components) path) w.1 in
          record {
            clear = clear;
            long = inr (v.0, less);
            names = λ k l. ap (component_matches (get_or components k [])) (sym (get_or-take (length components) path k [] l)) ∙ m.1 k l;
          }

  pub reach_from : Reached → in_reach components below path ≡ true
  reach_from r = ap (λ t. not t && (matches components path || (below && nat_lt (length components) (length path) && matches components (take (length components) path)))) r.clear ∙ by r.long
    where
      by : (length components ≡ length path) ⊎ ((below ≡ true) × (length components < length path))
          → (matches components path || (below && nat_lt (length components) (length path) && matches components (take (length components) path))) ≡ true
      by (inl same) =
          ap (λ t. (not t && pointwise component_matches components path) || (below && nat_lt (length components) (length path) && matches components (take (length components) path))) r.clear
          ∙ ap (λ t. t || (below && nat_lt (length components) (length path) && matches components (take (length components) path))) (pairs_from component_matches [] [] components path same r.names)
      by (inr less) =
          let n = length components in
          let lt = less.1 in
          let test : nat_lt n (length path) ≡ true = grind (arith, nat_tests) in
          let long : length (take n path) ≡ n = length-take-le n path (omega arith) in
          let clear : has_staging (take n path) ≡ false = none_from is_staging [] (take n path) (λ k l. ap is_staging (get_or-take n path k [] (omega (arith, l, long))) ∙ none_at is_staging [] path r.clear k (omega (arith, l, long))) in
          let whole : matches components (take n path) ≡ true =
          ap (λ t. not t && pointwise component_matches components (take n path)) clear
          ∙ pairs_from component_matches [] [] components (take n path) (sym long) (λ k l. ap (component_matches (get_or components k [])) (get_or-take n path k [] l) ∙ r.names k l) in
          ap (λ t. matches components path || (t && nat_lt n (length path) && matches components (take n path))) less.0
          ∙ ap (λ t. matches components path || (t && matches components (take n path))) test
          ∙ ap (λ t. matches components path || t) whole ∙ or-true (matches components path)

-- ---- two reaches

module _ (a b : List Element) (name : List ℕ) where
  pub shares_facts : shares a b name ≡ true → (is_name name ≡ true) × (is_staging name ≡ false) × (component_matches a name ≡ true) × (component_matches b name ≡ true)
  shares_facts e =
      let w = and_parts (is_name name && not (is_staging name) && component_matches a name) (component_matches b name) e in
      let v = and_parts (is_name name && not (is_staging name)) (component_matches a name) w.0 in
      let u = and_parts (is_name name) (not (is_staging name)) v.0 in
      (u.0, not-true (is_staging name) u.1, v.1, w.1)

  pub shares_from : is_name name ≡ true → is_staging name ≡ false → component_matches a name ≡ true → component_matches b name ≡ true → shares a b name ≡ true
  shares_from p q r s =
      ap (λ t. t && not (is_staging name) && component_matches a name && component_matches b name) p
      ∙ ap (λ t. not t && component_matches a name && component_matches b name) q
      ∙ ap (λ t. t && component_matches b name) r ∙ s

  -- components that are apart share nothing
  pub apart_shares : (component_matches a name ≡ true → component_matches b name ≡ false) → shares a b name ≡ false
  apart_shares apart = by (shares a b name) refl
    where
      by : (t : Bool) → shares a b name ≡ t → t ≡ false
      by true e = absurd (let w = shares_facts e in let differ : Never = sym (apart w.2) ∙ w.3 in cc)
      by false e = refl

at_front : (a b : List (List Element)) (k : ℕ) → k < length a → met_at a b k ≡ get_or a k []
at_front a b k l = let test : nat_lt k (length a) ≡ true = grind (arith, nat_tests) in ap (λ (t : Bool). if t then get_or a k [] else get_or b k []) test

at_back : (a b : List (List Element)) (k : ℕ) → length a ≤ k → met_at a b k ≡ get_or b k []
at_back a b k l = let test : nat_lt k (length a) ≡ false = grind (arith, nat_tests) in ap (λ (t : Bool). if t then get_or a k [] else get_or b k []) test

-- at a place of one of two patterns each of the two matches what each component there matches
both_at : (a b : List (List Element)) (k : ℕ) (name : List ℕ) → k < max (length a) (length b)
    → (k < length a → component_matches (get_or a k []) name ≡ true) → (k < length b → component_matches (get_or b k []) name ≡ true) → component_matches (met_at a b k) name ≡ true
both_at a b k name l p q = elim (cases_lt k (length a)) [
  | inl f ↦ ap (λ (x : List Element). component_matches x name) (at_front a b k f) ∙ p f
  | inr f ↦ ap (λ (x : List Element). component_matches x name) (at_back a b k f) ∙ q (omega arith)
]

module _ (a : List (List Element)) (a_below : Bool) (b : List (List Element)) (b_below : Bool) where
  -- what is known of a path that is met
  pub record Met (path : Path) : Type 0 where
    pub room : has_room a a_below b b_below ≡ true
    pub long : max (length a) (length b) ≤ length path
    pub names : (k : ℕ) → k < max (length a) (length b) → shares (met_at a b k) (met_at b a k) (get_or path k []) ≡ true

  room_of : (path : Path) → Reached a a_below path → Reached b b_below path → has_room a a_below b b_below ≡ true
  room_of path r s = by (nat_lt (length a) (length b)) refl (nat_lt (length b) (length a)) refl
    where
      by : (t : Bool) → nat_lt (length a) (length b) ≡ t → (u : Bool) → nat_lt (length b) (length a) ≡ u → (if t then a_below else if u then b_below else true) ≡ true
      by true e u f = elim r.long [
        | inl same ↦ absurd (let less : length a < length b = grind (arith, nat_tests) in elim s.long [ inl other ↦ omega (arith, same, other) | inr other ↦ (let o = other.1 in omega (arith, same, o)) ])
        | inr below ↦ below.0
      ]
      by false e true f = elim s.long [
        | inl same ↦ absurd (let less : length b < length a = grind (arith, nat_tests) in elim r.long [ inl other ↦ omega (arith, same, other) | inr other ↦ (let o = other.1 in omega (arith, same, o)) ])
        | inr below ↦ below.0
      ]
      by false e false f = refl

  long_of : (c : List (List Element)) (below : Bool) (path : Path) → Reached c below path → length c ≤ length path
  long_of c below path r = elim r.long [ inl same ↦ omega (arith, same) | inr less ↦ (let l = less.1 in omega arith) ]

  pub met : (path : Path) → is_met a a_below b b_below path ≡ true → Met path
  met path e =
      let w = and_parts (has_names path && in_reach a a_below path) (in_reach b b_below path) e in
      let v = and_parts (has_names path) (in_reach a a_below path) w.0 in
      let r = reached a a_below path v.1 in
      let s = reached b b_below path w.1 in
      let la = long_of a a_below path r in
      let lb = long_of b b_below path s in
      record {
        room = room_of path r s;
        long = omega arith;
        names = λ k l. (let inside : k < length path = omega arith in
            shares_from (met_at a b k) (met_at b a k) (get_or path k []) (all_at is_name [] path v.0 k inside) (none_at is_staging [] path r.clear k inside)
            (both_at a b k (get_or path k []) l (r.names k) (s.names k)) (both_at b a k (get_or path k []) (omega arith) (s.names k) (r.names k)));
      }

  pub met_from : (path : Path) → has_room a a_below b b_below ≡ true → length path ≡ max (length a) (length b)
      → ((k : ℕ) → k < max (length a) (length b) → shares (met_at a b k) (met_at b a k) (get_or path k []) ≡ true) → is_met a a_below b b_below path ≡ true
  met_from path room long names =
      let facts : (k : ℕ) → k < length path → (is_name (get_or path k []) ≡ true) × (is_staging (get_or path k []) ≡ false) × (component_matches (met_at a b k) (get_or path k []) ≡ true) × (component_matches (met_at b a k) (get_or path k []) ≡ true)
      = λ k l. shares_facts (met_at a b k) (met_at b a k) (get_or path k []) (names k (omega (arith, long))) in
      let clear : has_staging path ≡ false = none_from is_staging [] path (λ k l. (facts k l).1) in
      let bytes : has_names path ≡ true = all_from is_name [] path (λ k l. (facts k l).0) in
      let r : Reached a a_below path = record {
        clear = clear;
        long = long_a (nat_lt (length a) (length b)) refl;
        names = λ k l. ap (λ (x : List Element). component_matches x (get_or path k [])) (sym (at_front a b k l)) ∙ (facts k (omega (arith, long))).2;
      } in
      let s : Reached b b_below path = record {
        clear = clear;
        long = long_b (nat_lt (length a) (length b)) refl (nat_lt (length b) (length a)) refl;
        names = λ k l. ap (λ (x : List Element). component_matches x (get_or path k [])) (sym (at_front b a k l)) ∙ (facts k (omega (arith, long))).3;
      } in
      ap (λ t. t && in_reach a a_below path && in_reach b b_below path) bytes ∙ ap (λ t. t && in_reach b b_below path) (reach_from a a_below path r) ∙ reach_from b b_below path s
    where
      long_a : (t : Bool) → nat_lt (length a) (length b) ≡ t → (length a ≡ length path) ⊎ ((a_below ≡ true) × (length a < length path))
      long_a true e = let less : length a < length b = grind (arith, nat_tests) in
          inr (sym (ap (λ (x : Bool). if x then a_below else if nat_lt (length b) (length a) then b_below else true) e) ∙ room, omega (arith, long))
      long_a false e = let less : length b ≤ length a = grind (arith, nat_tests) in inl (omega (arith, long))

      long_b : (t : Bool) → nat_lt (length a) (length b) ≡ t → (u : Bool) → nat_lt (length b) (length a) ≡ u → (length b ≡ length path) ⊎ ((b_below ≡ true) × (length b < length path))
      long_b true e u f = let less : length a < length b = grind (arith, nat_tests) in inl (omega (arith, long))
      long_b false e true f = let less : length b < length a = grind (arith, nat_tests) in
          inr (sym (ap (λ (x : Bool). if x then a_below else if nat_lt (length b) (length a) then b_below else true) e ∙ ap (λ (x : Bool). if x then b_below else true) f) ∙ room, omega (arith, long))
      long_b false e false f = let less : length b ≤ length a = grind (arith, nat_tests) in let more : length a ≤ length b = grind (arith, nat_tests) in inl (omega (arith, long))

  -- no path is met where none is long enough, and where some components share nothing
  pub no_room : has_room a a_below b b_below ≡ false → (path : Path) → is_met a a_below b b_below path ≡ false
  no_room e path = by (is_met a a_below b b_below path) refl
    where
      by : (t : Bool) → is_met a a_below b b_below path ≡ t → t ≡ false
      by true is = absurd (let differ : Never = sym e ∙ (met path is).room in cc)
      by false is = refl

  pub none_met : (k : ℕ) → k < max (length a) (length b) → ((name : List ℕ) → shares (met_at a b k) (met_at b a k) name ≡ false) → (path : Path) → is_met a a_below b b_below path ≡ false
  none_met k l none path = by (is_met a a_below b b_below path) refl
    where
      by : (t : Bool) → is_met a a_below b b_below path ≡ t → t ≡ false
      by true is = absurd (let differ : Never = sym (none (get_or path k [])) ∙ (met path is).names k l in cc)
      by false is = refl

  pub apart_met : (k : ℕ) → k < length a → k < length b → ((name : List ℕ) → shares (get_or a k []) (get_or b k []) name ≡ false) → (path : Path) → is_met a a_below b b_below path ≡ false
  apart_met k l r none path =
      none_met k (omega arith) (λ name. ap (λ (x : List Element). shares x (met_at b a k) name) (at_front a b k l) ∙ ap (λ (x : List Element). shares (get_or a k []) x name) (at_front b a k r) ∙ none name) path

  -- the first names make the first path
  pub first_met : (path : Path) → has_room a a_below b b_below ≡ true → length path ≡ max (length a) (length b)
      → ((k : ℕ) → k < max (length a) (length b) → IsFirst word_cmp (shares (met_at a b k) (met_at b a k)) (get_or path k [])) → IsFirst shared_cmp (is_met a a_below b b_below) path
  first_met path room long firsts = record {
    passes = met_from path room long (λ k l. (firsts k l).passes);
    least = λ other e. by other (met other e);
  }
    where
      by : (other : Path) → Met other → is_gt (shared_cmp path other) ≡ false
      by other m =
          let far = m.long in
          by_ranked (length path < length other) (length path ≡ length other) (length other < length path) (nat_cmp (length path) (length other)) (ranked (length path) (length other) (nat_cmp (length path) (length other)) refl)
          (λ e _. ap (λ o. is_gt (ordering_then o (slice_cmp word_cmp path other))) e)
          (λ e same. ap (λ o. is_gt (ordering_then o (slice_cmp word_cmp path other))) e
          ∙ slices_first word_cmp [] path other same (λ k l. (firsts k (omega (arith, long))).least (get_or other k []) (m.names k (omega (arith, long)))))
          (λ e less. absurd (omega (arith, long)))
