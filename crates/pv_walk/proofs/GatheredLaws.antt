-- Laws of lists in which all that lies below a path of the list follows it in one piece.
use Rattle.std.specs.Prelude.{◌≡◌, ℕ, ◌+◌, ◌≤◌, Bool, true, false, cond, ◌&&◌, List, [], ◌∷◌, ◌++◌, length, filter, reverse, is_some}
use Rattle.std.proofs.Common.{refl, sym, ap, subst, ◌∙◌, arith, append_assoc, inl, inr, ◌⊎◌, zero, suc}
use Rattle.std.proofs.lemmas.Bool.{cases_Bool, and_parts}
use Rattle.std.proofs.lemmas.List.{append-nil, reverse-append}
use Rattle.pv_path.specs.Paths.{Path, same_path, parent_of}
use Rattle.pv_path.proofs.PathLaws.{same_path-refl, length-parent_of}
use Rattle.pv_path.proofs.Tests.{true_not_false}
use Rattle.pv_steps.specs.Trees.{Files, places}
use Rattle.pv_walk.specs.Removal.{is_below}
use Rattle.pv_walk.specs.Listing.{times, is_child, children_of, stands_below, AreGathered, IsGatheredBelow}
use Rattle.pv_walk.proofs.CountLaws.{times-append, times-children, times-filter, times-push, times-self, same_or_not}
use Rattle.pv_walk.proofs.ListingLaws.{Listing, cond-le}
use Rattle.pv_walk.proofs.RemovalLaws.{below_nonempty, cond-true, is_below-below, is_below-child, is_below-parent_of, not_below_itself, parent_of-child, zero_or_more}

-- ---- counts

times_more : (q x : Path) (xs : List Path) → times q xs ≤ times q (x ∷ xs)
times_more q x xs = omega arith

times_first : (x : Path) (xs : List Path) → 1 ≤ times x (x ∷ xs)
times_first x xs = let self = times-self x xs in omega (arith, self)

-- a list from its end has what it has
pub times-reverse : (q : Path) (xs : List Path) → times q (reverse xs) ≡ times q xs
times-reverse q [] = refl
times-reverse q (x ∷ xs) =
    let pushed = ap (times q) (reverse-append (x ∷ []) xs) ∙ times-push q (reverse xs) x in
    let rest = times-reverse q xs in
    omega (arith, pushed, rest)

-- ---- below a path

-- nothing below a child of a path is a child of it
no_sibling : (w x y : Path) → is_child w x ≡ true → is_child w y ≡ true → is_below x y ≡ true → ⊥
no_sibling w x y child other h = elim (same_or_not x (parent_of y)) [
  | inl s ↦ true_not_false (is_below w w) (subst (λ (p : Path). is_below w p ≡ true) (s.0 ∙ parent_of-child w y other) (is_below-child w x child)) (not_below_itself w)
  | inr d ↦ true_not_false (is_below w w)
      (is_below-below w x w (is_below-child w x child) (subst (λ (p : Path). is_below x p ≡ true) (parent_of-child w y other) (is_below-parent_of x y h d)))
      (not_below_itself w)
]

-- where nothing below a path follows
gathered_none : (p : Path) (ps : List Path) → ((q : Path) → is_below p q ≡ true → 1 ≤ times q ps → ⊥) → IsGatheredBelow p ps
gathered_none p [] none = tt
gathered_none p (x ∷ xs) none = (
  λ q b some. absurd (none q b (let more = times_more q x xs in omega (arith, some, more))),
  gathered_none p xs (λ q b some. none q b (let more = times_more q x xs in omega (arith, some, more))),
)

-- where all of some paths are below, before the others
gathered_over : (p : Path) (xs back : List Path) → ((x : Path) → 1 ≤ times x xs → is_below p x ≡ true) → IsGatheredBelow p back → IsGatheredBelow p (xs ++ back)
gathered_over p [] back under g = g
gathered_over p (x ∷ xs) back under g = (
  λ q b some. under x (times_first x xs),
  gathered_over p xs back (λ y some. under y (let more = times_more y x xs in omega (arith, some, more))) g,
)

-- ---- a path that stands before its children

module _ (w : Path) (back xs : List Path) (child : (x : Path) → 1 ≤ times x xs → is_child w x ≡ true) where
  either : (q : Path) → 1 ≤ times q (xs ++ back) → (1 ≤ times q xs) ⊎ (1 ≤ times q back)
  either q some = elim (zero_or_more (times q xs)) [
    | inl z ↦ inr (let sum = times-append q xs back in omega (arith, some, sum, z))
    | inr m ↦ inl m
  ]

  either_of : (mid : List Path) (q : Path) → 1 ≤ times q (mid ++ w ∷ (xs ++ back)) → (1 ≤ times q xs) ⊎ (1 ≤ times q (mid ++ w ∷ back))
  either_of mid q some = elim (zero_or_more (times q xs)) [
    | inl z ↦
        inr (let all = times-append q mid (w ∷ (xs ++ back)) in let sum = times-append q xs back in let old = times-append q mid (w ∷ back) in
        omega (arith, some, all, sum, old, z))
    | inr m ↦ inl m
  ]

  -- where a child of it is below another path, so is it
  child_under : (p : Path) → same_path p w ≡ false → (q : Path) → is_below p q ≡ true → 1 ≤ times q xs → is_below p w ≡ true
  child_under p apart q b some =
      let up = parent_of-child w q (child q some) in
      subst (λ (r : Path). is_below p r ≡ true) up (is_below-parent_of p q b (ap (same_path p) up ∙ apart))

  gathered_before : (p : Path) (mid : List Path) → same_path p w ≡ false → IsGatheredBelow p (mid ++ w ∷ back) → IsGatheredBelow p (mid ++ w ∷ (xs ++ back))
  gathered_before p [] apart g = (first, last)
    where
      first : (q : Path) → is_below p q ≡ true → 1 ≤ times q (xs ++ back) → is_below p w ≡ true
      first q b some = elim (either q some) [
        | inl new ↦ child_under p apart q b new
        | inr old ↦ g.0 q b old
      ]

      last : IsGatheredBelow p (xs ++ back)
      last = elim (cases_Bool (is_below p w)) [
        | inl under ↦ gathered_over p xs back (λ x some. is_below-below p w x under (is_below-child w x (child x some))) g.1
        | inr off ↦ gathered_none p (xs ++ back) (λ q b some. true_not_false (is_below p w) (first q b some) off)
      ]
  gathered_before p (m ∷ mid) apart g = (
    λ q b some. elim (either_of mid q some) [
      | inl new ↦ g.0 w (child_under p apart q b new) (let sum = times-append w mid (w ∷ back) in let self = times_first w back in omega (arith, sum, self))
      | inr old ↦ g.0 q b old
    ],
    gathered_before p mid apart g.1,
  )

-- the children of a path, before paths that are not below it
pub gathered_children : (w : Path) (back xs : List Path) → ((x : Path) → 1 ≤ times x xs → is_child w x ≡ true) → ((q : Path) → is_below w q ≡ true → 1 ≤ times q back → ⊥)
    → AreGathered back → AreGathered (xs ++ back)
gathered_children w back [] child none g = g
gathered_children w back (y ∷ ys) child none g = (
  gathered_none y (ys ++ back) nothing,
  gathered_children w back ys (λ z some. child z (let more = times_more z y ys in omega (arith, some, more))) none g,
)
  where
    first : is_child w y ≡ true
    first = child y (times_first y ys)

    nothing : (q : Path) → is_below y q ≡ true → 1 ≤ times q (ys ++ back) → ⊥
    nothing q b some = elim (zero_or_more (times q ys)) [
      | inl z ↦ none q (is_below-below w y q (is_below-child w y first) b) (let sum = times-append q ys back in omega (arith, some, sum, z))
      | inr m ↦ no_sibling w y q first (child q (let more = times_more q y ys in omega (arith, m, more))) b
    ]

-- a path in such a list, its children put right after it
pub gathered_next : (w : Path) (back xs : List Path) → ((x : Path) → 1 ≤ times x xs → is_child w x ≡ true) → ((q : Path) → is_below w q ≡ true → 1 ≤ times q back → ⊥)
    → (front : List Path) → times w front ≡ 0 → AreGathered (front ++ w ∷ back) → AreGathered (front ++ w ∷ (xs ++ back))
gathered_next w back xs child none [] new g = (gathered_over w xs back (λ x some. is_below-child w x (child x some)) g.0, gathered_children w back xs child none g.1)
gathered_next w back xs child none (p ∷ front) new g = (
  gathered_before w back xs child p front (apart (same_path p w) refl) g.0,
  gathered_next w back xs child none front (omega (arith, new)) g.1,
)
  where
    apart : (b : Bool) → same_path p w ≡ b → same_path p w ≡ false
    apart true e =
        let one : ◌≡◌ {A = ℕ} (cond (same_path p w) 1 0) 1 = ap (λ c. cond {A = ℕ} c 1 0) e in
        let none : cond (same_path p w) 1 0 + times w front ≡ 0 = new in
        absurd (omega (arith, one, none))
    apart false e = e

-- what is left of such a list is such a list
pub gathered_filter : (f : Path → Bool) (ps : List Path) → AreGathered ps → AreGathered (filter f ps)
gathered_filter f [] g = tt
gathered_filter f (p ∷ ps) g = by (f p) (gathered_filter f ps g.1)
  where
    some_of : (b : Bool) (n : ℕ) → cond b n 0 ≤ n
    some_of true n = omega arith
    some_of false n = omega arith

    fewer : (q : Path) (xs : List Path) → times q (filter f xs) ≤ times q xs
    fewer q xs = let is = times-filter f q xs in let less = some_of (f q) (times q xs) in omega (arith, is, less)

    one : (xs : List Path) → IsGatheredBelow p xs → IsGatheredBelow p (filter f xs)
    one [] h = tt
    one (x ∷ xs) h = each (f x) (one xs h.1)
      where
        each : (b : Bool) → IsGatheredBelow p (filter f xs) → IsGatheredBelow p (cond b (x ∷ filter f xs) (filter f xs))
        each true rest = (λ q b some. h.0 q b (let less = fewer q xs in omega (arith, some, less)), rest)
        each false rest = rest

    by : (b : Bool) → AreGathered (filter f ps) → AreGathered (cond b (p ∷ filter f ps) (filter f ps))
    by true rest = (one ps g.0, rest)
    by false rest = rest

-- ---- listings

nil_path : (q : Path) → length q ≤ 0 → q ≡ []
nil_path [] h = refl
nil_path (n ∷ q) h = absurd (omega (arith, h))

module _ (files : Files) where
  child_of : (p q : Path) → 1 ≤ times q (reverse (children_of files p)) → is_child p q ≡ true
  child_of p q h =
      let back = times-reverse q (children_of files p) in
      let is = times-children files p q in
      (and_parts (is_child p q) (is_some (places files q)) (cond-true (is_child p q && is_some (places files q)) (omega (arith, h, back, is)))).0

  -- in the beginning the children of the path are the work
  pub gathered_start : (path : Path) → AreGathered (reverse (children_of files path))
  gathered_start path = subst AreGathered (append-nil (reverse (children_of files path)))
      (gathered_children path [] (reverse (children_of files path)) (child_of path) (λ q b some. omega (arith, some)) tt)

  module _ (path : Path) (listed work : List Path) (w : Path) (l : Listing files path listed (work ++ w ∷ [])) where
    itself : times w (work ++ w ∷ []) ≡ times w work + 1
    itself = times-push w work w ∙ ap (λ b. times w work + cond b 1 0) (same_path-refl w)

    new : times w listed ≡ 0
    new = let most = l.members w in let one = cond-le (stands_below files path w) in omega (arith, most, one, itself)

    under : is_below path w ≡ true
    under = (and_parts (is_below path w) (is_some (places files w)) (cond-true (stands_below files path w) (let most = l.members w in omega (arith, most, itself)))).0

    -- nothing below a path is listed or work before the path is listed
    clear : (k : ℕ) (q : Path) → length q ≤ k → is_below w q ≡ true → 1 ≤ times q listed + times q (work ++ w ∷ []) → ⊥
    clear zero q short b some = below_nonempty w q b (nil_path q short)
    clear (suc k) q short b some = elim (l.parents q some) [
      | inl top ↦ elim (same_or_not w (parent_of q)) [
        | inl s ↦ true_not_false (is_below path path) (subst (λ (p : Path). is_below path p ≡ true) (s.0 ∙ top) under) (not_below_itself path)
        | inr d ↦ true_not_false (is_below path path)
            (is_below-below path w path under (subst (λ (p : Path). is_below w p ≡ true) top (is_below-parent_of w q b d)))
            (not_below_itself path)
      ]
      | inr above ↦ elim (same_or_not w (parent_of q)) [
        | inl s ↦ let here : 1 ≤ times w listed = subst (λ (p : Path). 1 ≤ times p listed) (sym s.0) above in omega (arith, here, new)
        | inr d ↦ clear k (parent_of q) (let up = length-parent_of q in omega (arith, up, short)) (is_below-parent_of w q b d) (omega (arith, above))
      ]
    ]

    none_below : (q : Path) → is_below w q ≡ true → 1 ≤ times q (reverse work) → ⊥
    none_below q b some =
        let turned = times-reverse q work in
        let pushed = times-push q work w in
        clear (length q) q (omega arith) b (omega (arith, some, turned, pushed))

    -- then one path of the work is listed, and its children are work
    pub gathered_push : AreGathered (listed ++ reverse (work ++ w ∷ [])) → AreGathered ((listed ++ w ∷ []) ++ reverse (work ++ children_of files w))
    gathered_push g =
        subst AreGathered (sym (append_assoc listed (w ∷ []) (reverse (work ++ children_of files w)) ∙ ap (λ (ps : List Path). listed ++ w ∷ ps) (reverse-append work (children_of files w))))
        (gathered_next w (reverse work) (reverse (children_of files w)) (child_of w) none_below listed new
        (subst AreGathered (ap (λ (ps : List Path). listed ++ ps) (reverse-append work (w ∷ []))) g))
