-- Laws of the order of a clean phase: a directory has its timestamps back before anything goes that does not lie below it.
use Rattle.std.specs.Prelude.{◌≡◌, ◌≢◌, ℕ, ◌+◌, ◌≤◌, Bool, true, false, cond, ◌&&◌, ◌||◌, not, List, [], ◌∷◌, ◌++◌, length, map, reverse, take, drop, Option, Some, None, is_some, option_map, Result}
use Rattle.std.proofs.Common.{refl, sym, ap, subst, ◌∙◌, append_assoc, inl, inr, ◌⊎◌, arith, length-append, zero, suc}
use Rattle.std.proofs.lemmas.Bool.{cases_Bool, and_parts, and_from}
use Rattle.std.proofs.lemmas.List.{take-append-drop, take-append-le, take_all}
use Rattle.std.proofs.Math.Seq.{drop-append_seam, drop-length, take-append_seam, take-nil}
use Rattle.pv_path.specs.Paths.{Path, same_path, is_prefix, parent_of}
use Rattle.pv_path.proofs.PathLaws.{is_prefix-refl}
use Rattle.pv_path.proofs.Tests.{true_not_false, none_of}
use Rattle.pv_steps.specs.declared.object.Object.{Object}
use Rattle.pv_steps.specs.declared.step.Step.{Step}
use Rattle.pv_steps.specs.declared.tree.Tree.{Ghosts}
use Rattle.pv_steps.specs.declared.tree.TreeFault.{TreeFault}
use Rattle.pv_steps.specs.Objects.{changed}
use Rattle.pv_steps.specs.Runs.{after_all}
use Rattle.pv_steps.specs.Trees.{Files, Places, places}
use Rattle.pv_steps.specs.Trying.{TriedAll}
use Rattle.pv_steps.proofs.TryingLaws.{reverse-first}
use Rattle.pv_walk.specs.Listing.{times, AreGathered, IsGatheredBelow}
use Rattle.pv_walk.specs.Removal.{is_below, loses_child}
use Rattle.pv_walk.proofs.CountLaws.{same_or_not, taken_out, times-append, times-self}
use Rattle.pv_walk.proofs.ListingLaws.{cond-le}
use Rattle.pv_walk.proofs.RemovalLaws.{cond-true, is_below-child, no_same, zero_or_more}
use Rattle.pv_walk.specs.Whole.{goes_whole}
use Rattle.pv_clean.specs.Cleaning.{clean_step, is_task, ArePlanned, AreOnOneWay, GoAfter, IsCleanedInTurn, moments_of}
use Rattle.pv_clean.proofs.CleanSteps.{child_lost, later, no_root, one-set, order_back, own_again, steps_work, worked, worked-append, worked-gone, worked-kept, worked-none, worked-same}

-- ---- lists

times_more : (q x : Path) (xs : List Path) → times q xs ≤ times q (x ∷ xs)
times_more q x xs = omega arith

times_first : (x : Path) (xs : List Path) → 1 ≤ times x (x ∷ xs)
times_first x xs = let self = times-self x xs in omega (arith, self)

le_or : (n m : ℕ) → (n ≤ m) ⊎ (suc m ≤ n)
le_or zero m = inl (omega arith)
le_or (suc n) zero = inr (omega arith)
le_or (suc n) (suc m) = elim (le_or n m) [
  | inl h ↦ inl (omega (arith, h))
  | inr h ↦ inr (omega (arith, h))
]

-- a prefix of what is done from the end of a list is what is done from the end of a back part of it
pub record Cut (f : Path → Step) (n : ℕ) (ps : List Path) : Type 0 where
  pub front : List Path
  pub back : List Path
  pub parts : front ++ back ≡ ps
  pub done : take n (reverse (map f ps)) ≡ reverse (map f back)

pub cut : (f : Path → Step) (n : ℕ) (ps : List Path) → Cut f n ps
cut f n [] = record { front = []; back = []; parts = refl; done = take_all n [] (omega arith) }
cut f n (p ∷ ps) = by (cut f n ps) (le_or n (length (reverse (map f ps))))
  where
    by : Cut f n ps → (n ≤ length (reverse (map f ps))) ⊎ (suc (length (reverse (map f ps))) ≤ n) → Cut f n (p ∷ ps)
    by rest (inl h) = record {
      front = p ∷ rest.front;
      back = rest.back;
      parts = ap (λ xs. p ∷ xs) rest.parts;
      done = ap (take n) (reverse-first (f p) (map f ps)) ∙ take-append-le n (reverse (map f ps)) (f p ∷ []) h ∙ rest.done;
    }
    by rest (inr h) = record {
      front = [];
      back = p ∷ ps;
      parts = refl;
      done = take_all n (reverse (map f (p ∷ ps)))
          (let all = ap length (reverse-first (f p) (map f ps)) ∙ length-append (reverse (map f ps)) (f p ∷ []) in omega (arith, all, h));
    }

-- ---- what is below a path that stands in front

between : (p : Path) (mid back : List Path) → IsGatheredBelow p (mid ++ back) → (r : Path) → is_below p r ≡ true → 1 ≤ times r back → (q : Path) → 1 ≤ times q mid → is_below p q ≡ true
between p [] back g r b some q there = absurd (omega (arith, there))
between p (m ∷ mid) back g r b some q there = elim (same_or_not m q) [
  | inl s ↦ subst (λ (x : Path). is_below p x ≡ true) s.0 (g.0 r b (let sum = times-append r mid back in omega (arith, sum, some)))
  | inr d ↦ between p mid back g.1 r b some q (later m q mid d there)
]

-- of two paths in front, of each of which something below is in the back, one lies in the other
on_one_way : (front back : List Path) → AreGathered (front ++ back) → (p q r s : Path) → 1 ≤ times p front → 1 ≤ times q front
    → 1 ≤ times r back → is_below p r ≡ true → 1 ≤ times s back → is_below q s ≡ true → (is_prefix p q ≡ true) ⊎ (is_prefix q p ≡ true)
on_one_way [] back g p q r s ip iq ir br is bs = absurd (omega (arith, ip))
on_one_way (f ∷ front) back g p q r s ip iq ir br is bs = elim (same_or_not f p) [
  | inl e ↦ elim (same_or_not f q) [
    | inl d ↦ inl (subst (λ (x : Path). is_prefix p x ≡ true) (sym e.0 ∙ d.0) (is_prefix-refl p))
    | inr d ↦ inl (and_parts (is_prefix p q) (not (same_path p q))
        (between p front back (subst (λ (x : Path). IsGatheredBelow x (front ++ back)) e.0 g.0) r br ir q (later f q front d iq))).0
  ]
  | inr e ↦ elim (same_or_not f q) [
    | inl d ↦ inr (and_parts (is_prefix q p) (not (same_path q p))
        (between q front back (subst (λ (x : Path). IsGatheredBelow x (front ++ back)) d.0 g.0) s bs is p (later f p front e ip))).0
    | inr d ↦ on_one_way front back g.1 p q r s (later f p front e ip) (later f q front d iq) ir br is bs
  ]
]

-- ---- a moment on the way

-- a child of a path goes, and is in a list
pub record Lost (goes : Path → Bool) (q : Path) (ps : List Path) : Type 0 where
  pub child : Path
  pub there : 1 ≤ times child ps
  pub going : goes child ≡ true
  pub over : parent_of child ≡ q

lost_or_not : (goes : Path → Bool) (q : Path) (ps : List Path) → Lost goes q ps ⊎ ((r : Path) → 1 ≤ times r ps → goes r ≡ true → same_path (parent_of r) q ≡ false)
lost_or_not goes q [] = inr (λ r some h. absurd (omega (arith, some)))
lost_or_not goes q (p ∷ ps) = elim (lost_or_not goes q ps) [
  | inl l ↦ inl (record { child = l.child; there = let more = times_more l.child p ps in let some = l.there in omega (arith, more, some); going = l.going; over = l.over })
  | inr none ↦ elim (cases_Bool (goes p)) [
    | inl g ↦ elim (same_or_not (parent_of p) q) [
      | inl s ↦ inl (record { child = p; there = times_first p ps; going = g; over = s.0 })
      | inr d ↦ inr (λ r some h. elim (same_or_not p r) [
        | inl e ↦ subst (λ (x : Path). same_path (parent_of x) q ≡ false) e.0 d
        | inr e ↦ none r (later p r ps e some) h
      ])
    ]
    | inr g ↦ inr (λ r some h. elim (same_or_not p r) [
      | inl e ↦ absurd (true_not_false (goes r) h (ap goes (sym e.0) ∙ g))
      | inr e ↦ none r (later p r ps e some) h
    ])
  ]
]

-- the change of its own does not count
own_moments : (now : ℕ) (o : Option Object) → option_map moments_of (option_map (changed now) o) ≡ option_map moments_of o
own_moments now None = refl
own_moments now (Some o) = refl

or_right : (a b : Bool) → b ≡ true → (a || b) ≡ true
or_right true b h = refl
or_right false b h = h

module _ (goes : Path → Bool) (t : Files) (now : ℕ) (steps : List Step) (plan : ArePlanned goes t steps) (whole : (q : Path) → goes q ≡ goes_whole goes t q)
    (front back : List Path) (parts : front ++ back ≡ plan.paths) where
  abbrev then_there : Places
  then_there = worked goes t now back (places t)

  count : (q : Path) → times q front + times q back ≡ cond (is_some (places t q) && is_task goes t q) 1 0
  count q = sym (times-append q front back) ∙ ap (times q) parts ∙ plan.once q

  is_there : (q : Path) → 1 ≤ times q back → is_some (places t q) ≡ true
  is_there q some = (and_parts (is_some (places t q)) (is_task goes t q) (cond-true (is_some (places t q) && is_task goes t q) (let all = count q in omega (arith, all, some)))).0

  no_top : (r : Path) → goes r ≡ true → r ≢ []
  no_top r h root = true_not_false (goes []) (ap goes (sym root) ∙ h) (no_root goes t whole)

  order : GoAfter goes t back
  order = order_back goes t front back (subst (GoAfter goes t) (sym parts) plan.order)

  -- a directory that stays has its timestamps back after its own step
  given_back : (q : Path) → goes q ≡ false → is_some (places t q) ≡ true → 1 ≤ times q back → option_map moments_of (then_there q) ≡ option_map moments_of (places t q)
  given_back q stays there some =
      let split = taken_out q back some in
      let before = split.0 in
      let behind = split.1 in
      let each : (r : Path) → times r back ≡ times r before + times r (q ∷ behind) = λ r. ap (times r) split.2 ∙ times-append r before (q ∷ behind) in
      let most : (r : Path) → times r back ≤ 1 = λ r. let all = count r in let one = cond-le (is_some (places t r) && is_task goes t r) in omega (arith, all, one) in
      let self = times-self q behind in
      let here = each q in
      let one = most q in
      let late = order_back goes t before (q ∷ behind) (subst (GoAfter goes t) split.2 order) in
      let other : (r : Path) → 1 ≤ times r before → goes r ≡ true → same_path (parent_of r) q ≡ false = λ r first h. no_same (parent_of r) q (λ over.
      let part = each r in
      let present = is_there r (omega (arith, part, first)) in
      let child = child_lost goes t q r (no_top r h) over present h in
      let after_it = late.0 r child.0 present h in
      let more = times_more r q behind in
      let twice = most r in
      omega (arith, part, first, after_it, more, twice)) in
      ap (option_map moments_of)
      (ap (λ (ps : List Path). worked goes t now ps (places t) q) split.2
      ∙ ap (λ (x : Places). x q) (worked-append goes t now before (q ∷ behind) (places t))
      ∙ worked-same goes t now (worked goes t now (q ∷ behind) (places t)) q before (omega (arith, here, self, one)) other
      ∙ one-set goes t now q (worked goes t now behind (places t)) q refl stays
      ∙ own_again now (places t q) (worked goes t now behind (places t) q) there (worked-kept goes t now (places t) q behind (omega (arith, here, self, one))))
      ∙ own_moments now (places t q)

  -- what has other timestamps lost a child, and its own step is still to come
  open_of : (q : Path) → is_some (then_there q) ≡ true → (option_map moments_of (then_there q) ≢ option_map moments_of (places t q)) → Lost goes q back × (1 ≤ times q front)
  open_of q present differs = elim (zero_or_more (times q back)) [
    | inl z ↦ elim (lost_or_not goes q back) [
      | inl l ↦ (l, waits l z)
      | inr none ↦ absurd (differs (ap (option_map moments_of) (worked-same goes t now (places t) q back z none)))
    ]
    | inr m ↦ elim (cases_Bool (goes q)) [
      | inl g ↦ absurd (true_not_false (is_some (then_there q)) present (ap is_some (worked-gone goes t now (places t) q back g m)))
      | inr g ↦ absurd (differs (given_back q g (is_there q m) m))
    ]
  ]
    where
      was : is_some (places t q) ≡ true
      was = elim (cases_Bool (is_some (places t q))) [
        | inl h ↦ h
        | inr h ↦ absurd (true_not_false (is_some (then_there q)) present (ap is_some (worked-none goes t now (places t) q back (none_of (places t q) h))))
      ]

      waits : Lost goes q back → times q back ≡ 0 → 1 ≤ times q front
      waits l z =
          let child = child_lost goes t q l.child (no_top l.child l.going) l.over (is_there l.child l.there) l.going in
          let task = and_from (is_some (places t q)) (is_task goes t q) was (or_right (goes q) (loses_child goes t q) child.1) in
          let one : ◌≡◌ {A = ℕ} (cond (is_some (places t q) && is_task goes t q) 1 0) 1 = ap (λ b. cond {A = ℕ} b 1 0) task in
          let all = count q in
          omega (arith, all, one, z)

  below_it : (q : Path) (l : Lost goes q back) → is_below q l.child ≡ true
  below_it q l = is_below-child q l.child (child_lost goes t q l.child (no_top l.child l.going) l.over (is_there l.child l.there) l.going).0

  pub in_turn : AreGathered plan.paths → (u : Files) → u ≡ after_all t (reverse (map (clean_step goes t) back)) now → AreOnOneWay t u
  in_turn gathered u is p q first second =
      let a = open_of p (ap is_some (at p) ∙ first.0) (λ e. first.1 (sym (ap (option_map moments_of) (at p)) ∙ e)) in
      let b = open_of q (ap is_some (at q) ∙ second.0) (λ e. second.1 (sym (ap (option_map moments_of) (at q)) ∙ e)) in
      on_one_way front back (subst AreGathered (sym parts) gathered) p q a.0.child b.0.child a.1 b.1 a.0.there (below_it p a.0) b.0.there (below_it q b.0)
    where
      at : (r : Path) → then_there r ≡ places u r
      at r = sym (ap (λ (x : Places). x r) (steps_work goes t now back u is))

-- if no step was done
pub none_in_turn : (now : ℕ) (t : Files) (h : List Step) → IsCleanedInTurn now t (drop (length h) h)
none_in_turn now t h n p q first second =
    absurd (first.1 (ap (λ (ss : List Step). option_map moments_of (places (after_all t ss now) p)) (ap (take n) (drop-length h) ∙ take-nil n)))

-- after each number of the steps of a plan that were tried from its end
pub tried_in_turn : {S : Type 0} (tree : Ghosts S) (goes : Path → Bool) (now : ℕ) (steps : List Step) (a b : S) (r : Result (Unit {0}) TreeFault)
    (plan : ArePlanned goes (tree.state a) steps) → ((q : Path) → goes q ≡ goes_whole goes (tree.state a) q) → AreGathered plan.paths
    → TriedAll tree (reverse steps) now a b r → IsCleanedInTurn now (tree.state a) (drop (length (tree.steps a)) (tree.steps b))
tried_in_turn tree goes now steps a b r plan whole gathered tried n =
    in_turn goes (tree.state a) now steps plan whole c.front c.back c.parts gathered (after_all (tree.state a) (take n (drop (length (tree.steps a)) (tree.steps b))) now) (ap (λ (ss : List Step). after_all (tree.state a) ss now) there)
  where
    told_is : drop (length (tree.steps a)) (tree.steps b) ≡ tried.done
    told_is = ap (drop (length (tree.steps a))) tried.recorded ∙ drop-append_seam (tree.steps a) tried.done

    c : Cut (clean_step goes (tree.state a)) (length (take n tried.done)) plan.paths
    c = cut (clean_step goes (tree.state a)) (length (take n tried.done)) plan.paths

    -- they are the first of all of them
    there : take n (drop (length (tree.steps a)) (tree.steps b)) ≡ reverse (map (clean_step goes (tree.state a)) c.back)
    there =
        ap (take n) told_is
        ∙ sym (take-append_seam (take n tried.done) (drop n tried.done ++ tried.left))
        ∙ ap (take (length (take n tried.done)))
        (sym (append_assoc (take n tried.done) (drop n tried.done) tried.left)
        ∙ ap (λ (xs : List Step). xs ++ tried.left) (take-append-drop n tried.done)
        ∙ tried.parts ∙ ap (λ (ss : List Step). reverse ss) plan.are)
        ∙ c.done
