-- Lists of items with keys that are in order by the keys, and an item put at its place in one.
use Rattle.std.proofs.Common.{◌≡◌, ◌≢◌, ℕ, ◌+◌, suc, Bool, true, false, List, [], ◌∷◌, ◌++◌, refl, sym, ap, arith, filter, Some, if◌then◌else◌}
use Rattle.std.specs.List.{list_all, prefix_len, insert, slice_get}
use Rattle.std.specs.Option.{option_map}
use Rattle.std.proofs.Math.ListN.{set}
use Rattle.std.proofs.lemmas.Bool.{and_parts, true_from_ne_false}
use Rattle.std.proofs.lemmas.List.Folds.{list_all-append}
use Rattle.std.proofs.lemmas.Option.{same_Some}
use Rattle.pv_acl.specs.Ordered.{is_ordered_by, all_before_by, put_by}
use Rattle.pv_acl.proofs.Filters.{filter_whole, list_all-filter, list_all-filtered}

suc_is : (n : ℕ) → 1 + n ≡ suc n
suc_is n = omega arith

module _ {X K : Type 0} (key : X → K) (lower : K → K → Bool) (trans : (a b c : K) → lower a b ≡ true → lower b c ≡ true → lower a c ≡ true) (asym : (a b : K) → lower a b ≡ true → lower b a ≡ false)
    (same_key : (a b : K) → lower a b ≡ false → lower b a ≡ false → a ≡ b) where
  abbrev before : X → X → Bool
  before x y = lower (key x) (key y)

  -- ---- the order

  -- what comes after a comes after b too, where b does not come after a
  pub above : (a b c : K) → lower a b ≡ false → lower a c ≡ true → lower b c ≡ true
  above a b c h k = by (lower b a) refl
    where
      by : (t : Bool) → lower b a ≡ t → lower b c ≡ true
      by true e = trans b a c e k
      by false e = let same : a ≡ b = same_key a b h e in rw same at k

  -- what comes after a later item comes after an earlier one
  pub all_after_earlier : (x y : X) (xs : List X) → before x y ≡ true → list_all (before y) xs ≡ true → list_all (before x) xs ≡ true
  all_after_earlier x y [] h all = refl
  all_after_earlier x y (z ∷ zs) h all =
      let parts = and_parts (before y z) (list_all (before y) zs) all in
      rw (trans (key x) (key y) (key z) h parts.0) (all_after_earlier x y zs h parts.1)

  -- what comes after x comes after y too, where y does not come after x
  all_after : (x y : X) (xs : List X) → before x y ≡ false → list_all (before x) xs ≡ true → list_all (before y) xs ≡ true
  all_after x y [] h all = refl
  all_after x y (z ∷ zs) h all =
      let parts = and_parts (before x z) (list_all (before x) zs) all in
      rw (above (key x) (key y) (key z) h parts.0) (all_after x y zs h parts.1)

  -- nothing that comes after x comes before y, where x does not
  none_before : (x y : X) (xs : List X) → before x y ≡ false → list_all (before x) xs ≡ true → filter (λ z. before z y) xs ≡ []
  none_before x y [] h all = refl
  none_before x y (z ∷ zs) h all =
      let parts = and_parts (before x z) (list_all (before x) zs) all in
      rw (asym (key y) (key z) (above (key x) (key y) (key z) h parts.0)) (none_before x y zs h parts.1)

  -- ---- lists that are in order

  pub is_ordered-push : (xs : List X) (y : X) → is_ordered_by before xs ≡ true → all_before_by before xs y ≡ true → is_ordered_by before (xs ++ y ∷ []) ≡ true
  is_ordered-push [] y ordered last = refl
  is_ordered-push (x ∷ xs) y ordered last =
      let o = and_parts (list_all (before x) xs) (is_ordered_by before xs) ordered in
      let b = and_parts (before x y) (all_before_by before xs y) last in
      rw (list_all-append (before x) xs (y ∷ []), o.0, b.0) (is_ordered-push xs y o.1 b.1)

  pub is_ordered-filter : (p : X → Bool) (xs : List X) → is_ordered_by before xs ≡ true → is_ordered_by before (filter p xs) ≡ true
  is_ordered-filter p [] h = refl
  is_ordered-filter p (x ∷ xs) h = by_test (is_ordered-filter p xs parts.1) (p x)
    where
      parts : (list_all (before x) xs ≡ true) × (is_ordered_by before xs ≡ true)
      parts = and_parts (list_all (before x) xs) (is_ordered_by before xs) h

      by_test : is_ordered_by before (filter p xs) ≡ true → (b : Bool) → is_ordered_by before (if b then x ∷ filter p xs else filter p xs) ≡ true
      by_test rest true = rw (list_all-filter p (before x) xs parts.0) rest
      by_test rest false = rest

  -- items before one, that one, and items after it are in order together
  is_ordered-join : (xs : List X) (y : X) (zs : List X) → is_ordered_by before xs ≡ true → all_before_by before xs y ≡ true → list_all (before y) zs ≡ true → is_ordered_by before zs ≡ true
      → is_ordered_by before (xs ++ y ∷ zs) ≡ true
  is_ordered-join [] y zs o b a p = rw a p
  is_ordered-join (x ∷ xs) y zs o b a p =
      let os = and_parts (list_all (before x) xs) (is_ordered_by before xs) o in
      let bs = and_parts (before x y) (all_before_by before xs y) b in
      rw (list_all-append (before x) xs (y ∷ zs), os.0, bs.0, all_after_earlier x y zs bs.0 a) (is_ordered-join xs y zs os.1 bs.1 a p)

  pub is_ordered-put : (y : X) (xs : List X) → is_ordered_by before xs ≡ true → is_ordered_by before (put_by before y xs) ≡ true
  is_ordered-put y xs h =
      is_ordered-join (filter (λ x. before x y) xs) y (filter (before y) xs) (is_ordered-filter (λ x. before x y) xs h)
      (list_all-filtered (λ x. before x y) xs) (list_all-filtered (before y) xs) (is_ordered-filter (before y) xs h)

  -- ---- an item put at its place

  -- how many of the items come before one
  abbrev index_of : X → List X → ℕ
  index_of y xs = prefix_len (λ x. before x y) xs

  put-insert : (y : X) (xs : List X) → is_ordered_by before xs ≡ true → option_map key (slice_get xs (index_of y xs)) ≢ Some (key y) → put_by before y xs ≡ insert xs (index_of y xs) y
  put-insert y [] o other = refl
  put-insert y (x ∷ xs) o other = by_test (put-insert y xs parts.1) (before x y) refl
    where
      parts : (list_all (before x) xs ≡ true) × (is_ordered_by before xs ≡ true)
      parts = and_parts (list_all (before x) xs) (is_ordered_by before xs) o

      by_test : (option_map key (slice_get xs (index_of y xs)) ≢ Some (key y) → put_by before y xs ≡ insert xs (index_of y xs) y) → (b : Bool) → before x y ≡ b → put_by before y (x ∷ xs) ≡ insert (x ∷ xs) (index_of y (x ∷ xs)) y
      by_test rest true e = rw (e, asym (key x) (key y) e, suc_is (index_of y xs)) (ap (λ (zs : List X). x ∷ zs) (rest (rw (e, suc_is (index_of y xs)) at other)))
      by_test rest false e =
          let after : before y x ≡ true = true_from_ne_false (before y x) (λ same. absurd (rw e at other (ap (λ (w : K). Some w) (same_key (key x) (key y) e same)))) in
          rw (e, none_before x y xs e parts.0, after, filter_whole (before y) xs (all_after x y xs e parts.0))

  put-set : (y : X) (xs : List X) → is_ordered_by before xs ≡ true → option_map key (slice_get xs (index_of y xs)) ≡ Some (key y) → put_by before y xs ≡ set xs (index_of y xs) y
  put-set y [] o same = cc
  put-set y (x ∷ xs) o same = by_test (put-set y xs parts.1) (before x y) refl
    where
      parts : (list_all (before x) xs ≡ true) × (is_ordered_by before xs ≡ true)
      parts = and_parts (list_all (before x) xs) (is_ordered_by before xs) o

      by_test : (option_map key (slice_get xs (index_of y xs)) ≡ Some (key y) → put_by before y xs ≡ set xs (index_of y xs) y) → (b : Bool) → before x y ≡ b → put_by before y (x ∷ xs) ≡ set (x ∷ xs) (index_of y (x ∷ xs)) y
      by_test rest true e = rw (e, asym (key x) (key y) e, suc_is (index_of y xs)) (ap (λ (zs : List X). x ∷ zs) (rest (rw (e, suc_is (index_of y xs)) at same)))
      by_test rest false e =
          let here : Some (key x) ≡ Some (key y) = rw e at same in
          let is : key x ≡ key y = same_Some (key x) (key y) here in
          let after : before y x ≡ false = rw is (rw is at e) in
          rw (e, none_before x y xs e parts.0, after, filter_whole (before y) xs (all_after x y xs e parts.0))

  -- the two ways in which code puts an item, over lists that are all the same
  pub set_is : (y : X) (xs s t v : List X) (at : ℕ) → is_ordered_by before xs ≡ true → s ≡ xs → t ≡ xs → xs ≡ v → at ≡ index_of y s → option_map key (slice_get t at) ≡ Some (key y) → set xs at y ≡ put_by before y v
  set_is y xs s t v at o es et ev place same =
      let place' : at ≡ index_of y xs = rw (← es) place in
      let same' : option_map key (slice_get xs (index_of y xs)) ≡ Some (key y) = rw (← place', ← et) same in
      rw (place', ← ev) (sym (put-set y xs o same'))

  pub insert_is : (y : X) (xs s t v ws : List X) (at : ℕ) → is_ordered_by before xs ≡ true → s ≡ xs → t ≡ xs → xs ≡ v → at ≡ index_of y s → option_map key (slice_get t at) ≢ Some (key y) → ws ≡ insert xs at y → ws ≡ put_by before y v
  insert_is y xs s t v ws at o es et ev place other put =
      let place' : at ≡ index_of y xs = rw (← es) place in
      let other' : option_map key (slice_get xs (index_of y xs)) ≢ Some (key y) = rw (← place', ← et) other in
      rw (put, place', ← ev) (sym (put-insert y xs o other'))
