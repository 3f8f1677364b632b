-- Laws of a list of all that stands in a tree: each path once, and all that lies below it right after it.
use Rattle.std.specs.Prelude.{◌≡◌, ◌≢◌, ℕ, ◌+◌, ◌≤◌, ◌<◌, Bool, true, false, cond, not, ◌&&◌, List, [], ◌∷◌, ◌++◌, length, reverse, is_some}
use Rattle.std.specs.List.{AllByRecursion}
use Rattle.std.specs.List.Sorted.{IsStrictlySortedBy}
use Rattle.std.specs.declared.cmp.Ordering.TheVariants.{Less}
use Rattle.std.proofs.Common.{refl, sym, ap, subst, ◌∙◌, inl, inr, arith, length-append}
use Rattle.std.proofs.lemmas.Bool.{and_from, and_parts}
use Rattle.std.proofs.lemmas.List.{reverse-reverse}
use Rattle.pv_path.specs.Paths.{Path, same_path, same_path-decides, parent_of}
use Rattle.pv_path.proofs.PathLaws.{length-parent_of, parent_parts}
use Rattle.pv_steps.specs.declared.node.Kind.TheVariants.{Directory}
use Rattle.pv_steps.specs.Trees.{Files, places, IsPresent, IsTree}
use Rattle.pv_steps.proofs.TreeLaws.{present_of_kind}
use Rattle.pv_walk.specs.Listing.{times, is_child, AreGathered, IsGatheredBelow, IsListing, ParentsFirst}
use Rattle.pv_walk.specs.PostOrder.{post_cmp, AreInPostOrder}
use Rattle.pv_walk.specs.Removal.{is_below}
use Rattle.pv_walk.proofs.CountLaws.{is_child-push, same_or_not, times-append, times-self}
use Rattle.pv_walk.proofs.OrderLaws.{sorted-reverse}
pub use Rattle.pv_walk.proofs.PostOrderLaws.{AreFalling}
use Rattle.pv_walk.proofs.RemovalLaws.{below_parts, cond-true, is_below-child, zero_or_more}

-- all that stands in a tree, each path once, before its children, and all below it right after it
pub record IsWhole (t : Files) (all : List Path) : Type 0 where
  pub once : (q : Path) → times q all ≡ cond (is_some (places t q)) 1 0
  pub order : ParentsFirst t [] all
  pub gathered : AreGathered all

-- ---- the root and a listing of what stands below it

before_root : (p : Path) → is_below [] p ≡ true → post_cmp p [] ≡ Less
before_root [] h = absurd (let no : false ≡ true = h in cc)
before_root (name ∷ p) h = refl

all_before_root : (ps : List Path) → ((q : Path) → 1 ≤ times q ps → is_below [] q ≡ true) → AllByRecursion (λ q. post_cmp q [] ≡ Less) ps
all_before_root [] under = tt
all_before_root (p ∷ ps) under = (
  before_root p (under p (let self = times-self p ps in omega (arith, self))),
  all_before_root ps (λ q some. under q (let more : times q ps ≤ times q (p ∷ ps) = omega arith in omega (arith, some, more))),
)

module _ (t : Files) (tree : IsTree t) where
  under_root : (ps : List Path) → ((q : Path) → 1 ≤ times q ps → is_below [] q ≡ true) → IsGatheredBelow [] ps
  under_root [] under = tt
  under_root (p ∷ ps) under = (
    λ q b some. under p (let self = times-self p ps in omega (arith, self)),
    under_root ps (λ q some. under q (let more : times q ps ≤ times q (p ∷ ps) = omega arith in omega (arith, some, more))),
  )

  root : (b i : Bool) → (b ≡ true → i ≡ true) → ◌≡◌ {A = ℕ} (cond b 1 0 + cond ((true && not b) && i) 1 0) (cond i 1 0)
  root true true h = refl
  root true false h = absurd (let no : false ≡ true = h refl in cc)
  root false true h = refl
  root false false h = refl

  module _ (listed : List Path) (l : IsListing t [] listed) where
    under : (q : Path) → 1 ≤ times q listed → is_below [] q ≡ true
    under q some = (and_parts (is_below [] q) (is_some (places t q)) (cond-true (is_below [] q && is_some (places t q)) (let e = l.once q in omega (arith, e, some)))).0

    -- the root is the last in post-order
    pub falling_from : AreInPostOrder (reverse listed) → AreFalling ([] ∷ listed)
    unfolding IsStrictlySortedBy
    falling_from up = (all_before_root listed under, subst AreFalling (reverse-reverse listed) (sorted-reverse post_cmp (reverse listed) up))

  pub whole_from : (listed : List Path) → IsListing t [] listed → AreGathered listed → IsWhole t ([] ∷ listed)
  whole_from listed l gathered = record {
    once = λ q.
        ap (λ (n : ℕ). cond {A = ℕ} (same_path [] q) 1 0 + n) (l.once q)
        ∙ root (same_path [] q) (is_some (places t q)) (λ e. subst (IsPresent t) (((same_path-decides [] q).0 e)) (present_of_kind (places t) [] Directory tree.root));
    order = (
      (λ q child there. let e = l.once q ∙ ap (λ b. cond {A = ℕ} b 1 0) (and_from (is_below [] q) (is_some (places t q)) (is_below-child [] q child) there) in omega (arith, e)),
      l.order,
    );
    gathered = (
      under_root listed (under listed l),
      gathered,
    );
  }

-- ---- what stands before and behind a path

pub behind_one : (x q : Path) (ps : List Path) → same_path x q ≡ false → 1 ≤ times q (x ∷ ps) → 1 ≤ times q ps
behind_one x q ps d some = let rest : 1 ≤ 0 + times q ps = subst (λ b. 1 ≤ cond b 1 0 + times q ps) d some in omega (arith, rest)

-- a path has more names than one that it lies below
pub longer : (r p : Path) → is_below r p ≡ true → length r < length p
longer r p b = let parts = below_parts r p b in omega (arith, ap length parts.2, length-append r (parts.0 ∷ parts.1))

pub has_names : (p : Path) → p ≢ [] → 1 ≤ length p
has_names [] other = absurd (other refl)
has_names (n ∷ p) other = omega arith

pub child_of_parent : (p : Path) → p ≢ [] → is_child (parent_of p) p ≡ true
child_of_parent p other = let parts = parent_parts p other in subst (λ (s : Path). is_child (parent_of p) s ≡ true) (sym parts.1) (is_child-push (parent_of p) parts.0)

-- where something below a path stands behind another, so does the other lie below the path
below_at : (r p : Path) (mid back : List Path) → IsGatheredBelow r (mid ++ p ∷ back) → (q : Path) → is_below r q ≡ true → 1 ≤ times q back → is_below r p ≡ true
below_at r p [] back g q b some = g.0 q b some
below_at r p (x ∷ mid) back g q b some = below_at r p mid back g.1 q b some

pub gathered_at : (front : List Path) (p : Path) (back : List Path) → AreGathered (front ++ p ∷ back) → (r q : Path) → 1 ≤ times r front → is_below r q ≡ true → 1 ≤ times q back → is_below r p ≡ true
gathered_at [] p back g r q some b there = absurd (omega (arith, some))
gathered_at (x ∷ front) p back g r q some b there = elim (same_or_not x r) [
  | inl s ↦ subst (λ (y : Path). is_below y p ≡ true) s.0 (below_at x p front back g.0 q (subst (λ (y : Path). is_below y q ≡ true) (sym s.0) b) there)
  | inr d ↦ gathered_at front p back g.1 r q (behind_one x r front d some) b there
]

pub gathered_behind : (front : List Path) (p : Path) (back : List Path) → AreGathered (front ++ p ∷ back) → IsGatheredBelow p back
gathered_behind [] p back g = g.0
gathered_behind (x ∷ front) p back g = gathered_behind front p back g.1

pub order_behind : (t : Files) (front back : List Path) → ParentsFirst t [] (front ++ back) → ParentsFirst t [] back
order_behind t [] back h = h
order_behind t (x ∷ front) back h = order_behind t front back h.1

-- a child of a path of a list stands in it
child_there : (t : Files) (ps : List Path) (p q : Path) → ParentsFirst t [] ps → 1 ≤ times p ps → is_child p q ≡ true → IsPresent t q → 1 ≤ times q ps
child_there t [] p q h some c there = absurd (omega (arith, some))
child_there t (r ∷ ps) p q h some c there = elim (same_or_not r p) [
  | inl s ↦ let here : 1 ≤ times q ps + 0 = h.0 q (subst (λ (s : Path). is_child s q ≡ true) (sym s.0) c) there in omega (arith, here)
  | inr d ↦ let more = child_there t ps p q h.1 (behind_one r p ps d some) c there in omega (arith, more)
]

module _ (t : Files) (tree : IsTree t) (front : List Path) (p : Path) (back : List Path) (w : IsWhole t (front ++ p ∷ back)) where
  pub here : 1 ≤ times p (p ∷ back)
  here = let self = times-self p back in omega (arith, self)

  pub there : IsPresent t p
  there = cond-true (is_some (places t p)) (let counts = w.once p in let sum = times-append p front (p ∷ back) in omega (arith, counts, sum, here))

  -- the directory of a path stands before it
  pub parent_before : p ≢ [] → 1 ≤ times (parent_of p) front
  parent_before other = elim (zero_or_more (times (parent_of p) front)) [
    | inr m ↦ m
    | inl z ↦ elim (same_or_not p (parent_of p)) [
      | inl s ↦ absurd (let same = ap length s.0 in let short = length-parent_of p in let some = has_names p other in omega (arith, same, short, some))
      | inr d ↦ absurd (let again = child_there t back (parent_of p) p (order_behind t front (p ∷ back) w.order).1 (behind_one p (parent_of p) back d (in_rest z)) (child_of_parent p other) there in
          let counts = w.once p in let sum = times-append p front (p ∷ back) in let self = times-self p back in omega (arith, again, counts, sum, self, most (is_some (places t p))))
    ]
  ]
    where
      most : (b : Bool) → cond b 1 0 ≤ 1
      most true = omega arith
      most false = omega arith

      in_rest : times (parent_of p) front ≡ 0 → 1 ≤ times (parent_of p) (p ∷ back)
      in_rest z =
          let above : IsPresent t (parent_of p) = present_of_kind (places t) (parent_of p) Directory (tree.parents p there other) in
          let one = w.once (parent_of p) ∙ ap (λ b. cond {A = ℕ} b 1 0) above in
          let sum = times-append (parent_of p) front (p ∷ back) in
          omega (arith, one, sum, z)

  -- a path that stands before has fewer names or is not above what follows
  pub child_behind : (q : Path) → is_child p q ≡ true → IsPresent t q → 1 ≤ times q back
  child_behind q c h = let first : 1 ≤ times q back + 0 = (order_behind t front (p ∷ back) w.order).0 q c h in omega (arith, first)
