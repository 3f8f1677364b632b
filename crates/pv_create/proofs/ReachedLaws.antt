-- Laws of adjusting the object at each path of a list.
use Rattle.std.specs.Prelude.{◌≡◌, ◌⊎◌, ℕ, ◌+◌, ◌≤◌, ◌<◌, Bool, true, false, cond, not, ◌&&◌, ◌||◌, T, List, [], ◌∷◌, ◌++◌, map, filter, fold, sum, length, take, drop, get_or, Option, Some, None, is_some, option_map, Result, Ok, Err, OnOk, if◌then◌else◌}
use Rattle.std.specs.FinMap as fin
use Rattle.std.proofs.Common.{refl, sym, ap, subst, ◌∙◌, inl, inr, arith, zero, suc}
use Rattle.std.proofs.lemmas.List.{get_or-drop, get_or-take, get_or_default, length-drop, length-take-le, take-append-drop, take_all, take_more}
use Rattle.std.proofs.lemmas.List.Folds.{list_all-append}
use Rattle.std.proofs.lemmas.List.MinMax.{ranks_by}
use Rattle.std.proofs.lemmas.List.Kept.{IsSortedBy-filter}
use Rattle.std.proofs.lemmas.List.Sorted.{sorted_far}
use Rattle.std.specs.declared.cmp.Ordering.TheVariants.{Less, Equal, Greater}
use Rattle.std.specs.List.{list_all}
use Rattle.std.specs.Ordering.{is_lt, ordering_reverse}
use Rattle.std.specs.Cmp.{IsStrictWeakOrder}
use Rattle.std.specs.FinMap.Entries.{below_all, is_sorted}
use Rattle.std.specs.Prelude.{IsSorted}
use Rattle.std.proofs.lemmas.Grind.{fold-append}
use Rattle.pv_path.specs.Paths.{Path, path_cmp, path_total, same_path, is_prefix, has_staging}
use Rattle.pv_path.proofs.PathLaws.{path_cmp-refl, same_path-refl, is_prefix-refl, has_staging-extends}
use Rattle.pv_path.proofs.Tests.{true_not_false, less_of-T, each_T}
use Rattle.pv_steps.specs.declared.object.Object.{Object}
use Rattle.pv_steps.specs.declared.step.Step.{Step}
use Rattle.pv_steps.specs.declared.tree.Tree.{Ghosts}
use Rattle.pv_steps.specs.declared.tree.TreeFault.{TreeFault}
use Rattle.pv_steps.specs.Acting.{Acted}
use Rattle.pv_steps.specs.Steps.{on_at}
use Rattle.pv_steps.specs.Trees.{Files, Places, places, IsPresent}
use Rattle.pv_steps.proofs.ActingLaws.{Moves, well, acted_then, acted_weaken, acted_end}
use Rattle.pv_steps.proofs.StepLaws.{same_files, places-tabulate, among_keys}
use Rattle.pv_walk.specs.declared.operation.Change.{Change}
use Rattle.pv_walk.specs.declared.operation.Guard.{Guard}
use Rattle.pv_walk.specs.declared.operation.Operation.{Operation}
use Rattle.pv_walk.specs.declared.operation.Operation.TheVariants.{Make, Renew, Erase, Apply}
use Rattle.pv_walk.specs.declared.object_state.ObjectState.{ObjectState}
use Rattle.pv_walk.specs.Dividing.{parts}
use Rattle.pv_walk.specs.SettingMetadata.{Lacks, GivesMetadata}
use Rattle.pv_walk.specs.Nodes.{object_state_of, object_states_of}
use Rattle.pv_walk.specs.Operations.{run}
use Rattle.pv_walk.proofs.EditLaws.{path_cases, on_at-else}
use Rattle.pv_walk.specs.Listing.{times}
use Rattle.pv_walk.proofs.CountLaws.{times-append, times-push, times-filter, times-keys, times-self, taken_out, same_or_not}
use Rattle.pv_table.specs.declared.action.Adjustment.{Adjustment}
use Rattle.pv_table.specs.Created.{change_work, adjust_work}
use Rattle.pv_table.specs.Effects.{become, is_adjusted, adjust_at}
use Rattle.pv_create.specs.Adjusting.{Adjusting, GivesBytes, GivesSet}
use Rattle.pv_create.specs.Reached.{AdjustingInOrder, AdjustingReached, GivesReached, IsPartSet, IsReached}
use Rattle.pv_create.specs.Sets.{AreSets, AtMostOne, SetsBytes, SetsMode, SetsOther, SetsOwners}
use Rattle.pv_laws.proofs.Comparing.{become-object_state}
use Rattle.pv_laws.proofs.Sets.{adjusted_none, is_adjustment}

-- ---- what is left at each path

module _ (f : Object → Object) where
  -- each object at some paths changed, one after the other
  abbrev pub each_at : List Path → Places → Places
  each_at xs t = fold (λ u q. on_at q f u) t xs

  pub each_at-none : (xs : List Path) (t : Places) (q : Path) → times q xs ≡ 0 → each_at xs t q ≡ t q
  each_at-none [] t q h = refl
  each_at-none (x ∷ xs) t q h = by (same_path x q) refl (each_at-none xs (on_at x f t) q)
    where
      by : (s : Bool) → same_path x q ≡ s → (times q xs ≡ 0 → each_at xs (on_at x f t) q ≡ on_at x f t q) → each_at xs (on_at x f t) q ≡ t q
      by true e rest = absurd (let one : times q (x ∷ xs) ≡ 1 + times q xs = ap (λ b. cond b 1 0 + times q xs) e in omega (arith, h, one))
      by false e rest = rest (let none : times q (x ∷ xs) ≡ 0 + times q xs = ap (λ b. cond b 1 0 + times q xs) e in omega (arith, h, none)) ∙ on_at-else x q f t e

  pub each_at-one : (xs : List Path) (t : Places) (q : Path) → times q xs ≡ 1 → each_at xs t q ≡ option_map f (t q)
  each_at-one [] t q h = absurd (omega (arith, h))
  each_at-one (x ∷ xs) t q h = by (same_path x q) refl (each_at-one xs (on_at x f t) q)
    where
      by : (s : Bool) → same_path x q ≡ s → (times q xs ≡ 1 → each_at xs (on_at x f t) q ≡ option_map f (on_at x f t q)) → each_at xs (on_at x f t) q ≡ option_map f (t q)
      by true e later =
          let rest : times q xs ≡ 0 = (let one : times q (x ∷ xs) ≡ 1 + times q xs = ap (λ b. cond b 1 0 + times q xs) e in omega (arith, h, one)) in
          each_at-none xs (on_at x f t) q rest ∙ ap (λ b. cond b (option_map f (t q)) (t q)) e
      by false e later =
          later (let none : times q (x ∷ xs) ≡ 0 + times q xs = ap (λ b. cond b 1 0 + times q xs) e in omega (arith, h, none))
          ∙ ap (option_map f) (on_at-else x q f t e)

-- ---- counts

pub times-take : (n : ℕ) (xs : List Path) (q : Path) → times q (take n xs) ≤ times q xs
times-take zero xs q = omega arith
times-take (suc n) [] q = omega arith
times-take (suc n) (x ∷ xs) q = let rest = times-take n xs q in omega (arith, rest)

sum_from : (a : ℕ) (ns : List ℕ) → fold (λ s n. s + n) a ns ≡ a + sum ns
sum_from a [] = omega arith
sum_from a (n ∷ ns) = let one = sum_from (a + n) ns in let two = sum_from (0 + n) ns in omega (arith, one, two)

sum-cons : (w : Path → ℕ) (x : Path) (xs : List Path) → sum (map w (x ∷ xs)) ≡ w x + sum (map w xs)
sum-cons w x xs = let all = sum_from (0 + w x) (map w xs) in omega (arith, all)

sum-mid : (w : Path → ℕ) (xs ys : List Path) (x : Path) → sum (map w (xs ++ x ∷ ys)) ≡ w x + sum (map w (xs ++ ys))
sum-mid w [] ys x = sum-cons w x ys
sum-mid w (z ∷ xs) ys x =
    let rest = sum-mid w xs ys x in
    let one = sum-cons w z (xs ++ x ∷ ys) in
    let two = sum-cons w z (xs ++ ys) in
    omega (arith, rest, one, two)

-- a list whose paths stand at least as often in another takes no more steps
pub sum-times : (w : Path → ℕ) (xs ys : List Path) → ((q : Path) → times q xs ≤ times q ys) → sum (map w xs) ≤ sum (map w ys)
sum-times w [] ys h = omega arith
sum-times w (x ∷ xs) ys h =
    let found = taken_out x ys (omega (arith, h x, times-self x xs)) in
    let rest = sum-times w xs (found.0 ++ found.1) (λ q. omega (arith, h q, ap (times q) found.2, times-append q found.0 (x ∷ found.1), times-append q found.0 found.1)) in
    let same : sum (map w ys) ≡ sum (map w (found.0 ++ x ∷ found.1)) = ap (λ (zs : List Path). sum (map w zs)) found.2 in
    let middle = sum-mid w found.0 found.1 x in
    let first = sum-cons w x xs in
    omega (arith, rest, same, middle, first)

pub sum-push : (w : Path → ℕ) (xs : List Path) (x : Path) → sum (map w (xs ++ x ∷ [])) ≡ sum (map w xs) + w x
sum-push w [] x = omega (arith, sum-cons w x [])
sum-push w (z ∷ xs) x =
    let rest = sum-push w xs x in
    let one = sum-cons w z (xs ++ x ∷ []) in
    let two = sum-cons w z xs in
    omega (arith, rest, one, two)

-- ---- the same object

-- what a step gives is told by the object at the path
gives_same : (q : Path) (sets : List Operation) (u t : Files) → places u q ≡ places t q → (s : Step) → GivesSet q sets u s → GivesSet q sets t s
gives_same q sets u t e s h = record { new = h.new; is = ap (λ v. run sets (option_map object_state_of v)) (sym e) ∙ h.is; gives = by h.gives }
  where
    lacks : {A : Type 0} (part : Object → A) (given : A) → Lacks part given q u → Lacks part given q t
    lacks part given other x at = other x (e ∙ at)

    metadata : GivesMetadata q h.new.metadata u s → GivesMetadata q h.new.metadata t s
    metadata (inl d) = inl d
    metadata (inr (inl d)) = inr (inl d)
    metadata (inr (inr (inl d))) = inr (inr (inl (d.0, lacks _ _ d.1)))
    metadata (inr (inr (inr (inl d)))) = inr (inr (inr (inl (d.0, lacks _ _ d.1))))
    metadata (inr (inr (inr (inr d)))) = inr (inr (inr (inr (d.0, lacks _ _ d.1))))

    by : GivesBytes q h.new.body.payload u s ⊎ GivesMetadata q h.new.metadata u s → GivesBytes q h.new.body.payload t s ⊎ GivesMetadata q h.new.metadata t s
    by (inl b) = inl (b.0, lacks (λ o. o.payload) h.new.body.payload b.1)
    by (inr d) = inr (metadata d)

-- ---- all that a line reaches

module _ (now : ℕ) (adjustment : Adjustment) (path : Path) (t : Files) where
  -- the object at each path when all is adjusted
  abbrev pub touched_at : Path → Option Object
  touched_at q = if is_adjusted adjustment path q then option_map (become now adjustment.sets) (places t q) else places t q

  pub is_some-touched : (q : Path) → is_some (touched_at q) ≡ is_some (places t q)
  is_some-touched q = by (is_adjusted adjustment path q) (places t q)
    where
      by : (s : Bool) (v : Option Object) → is_some (if s then option_map (become now adjustment.sets) v else v) ≡ is_some v
      by true None = refl
      by true (Some o) = refl
      by false v = refl

  pub places-adjust_at : (q : Path) → places (adjust_at now adjustment path t) q ≡ touched_at q
  places-adjust_at q = places-tabulate (fin.keys t) touched_at q (λ some. among_keys t q ∙ sym (is_some-touched q) ∙ some)

-- ---- in byte order

-- a path of a list stands at a place of it
place_in : (q : Path) (xs : List Path) → 1 ≤ times q xs → (j : ℕ) × ((j < length xs) × (get_or xs j q ≡ q))
place_in q [] h = absurd (omega (arith, h))
place_in q (x ∷ xs) h = elim (path_cases x q) [
  | inl e ↦ (0, (omega arith, e))
  | inr d ↦ (let rest : 1 ≤ times q xs = (let none = ap {B = ℕ} (λ b. cond b 1 0) d in omega (arith, h, none)) in
      let found = place_in q xs rest in
      (suc found.0, (omega (arith, found.1.0), found.1.1)))
]

module _ (paths : List Path) (sorted : IsSorted path_cmp paths) (i : ℕ) (at : Path) (lt : i < length paths) (is : at ≡ get_or paths i at) where
  -- a path that comes before the one at a place stands before it in the list, and one that comes after it does not
  less_before : (q : Path) → path_cmp q at ≡ Less → times q (drop i paths) ≡ 0
  less_before q less = zero_or (times q (drop i paths)) (λ one. no (place_in q (drop i paths) one))
    where
      zero_or : (n : ℕ) → (1 ≤ n → ⊥) → n ≡ 0
      zero_or zero f = refl
      zero_or (suc n) f = absurd (f (omega arith))

      no : (j : ℕ) × ((j < length (drop i paths)) × (get_or (drop i paths) j q ≡ q)) → ⊥
      no (j, (within, e)) =
          let long = length-drop i paths in
          let there : get_or paths (i + j) q ≡ q = sym (get_or-drop i paths j q) ∙ e in
          let here : get_or paths i q ≡ at = get_or_default paths i q at lt ∙ sym is in
          let far = sorted_far (λ (x y : Path). is_lt (path_cmp x y)) (ranks_by path_total (λ (x : Path). x)) paths sorted i (i + j) q (omega arith) (omega (arith, within, long)) in
          let same : is_lt (path_cmp q at) ≡ is_lt (path_cmp (get_or paths (i + j) q) (get_or paths i q)) = (λ k. is_lt (path_cmp (sym there k) (sym here k))) in
          true_not_false (is_lt (path_cmp q at)) (ap is_lt less) (same ∙ far)

  greater_after : (q : Path) → path_cmp q at ≡ Greater → times q (take i paths) ≡ 0
  greater_after q greater = zero_or (times q (take i paths)) (λ one. no (place_in q (take i paths) one))
    where
      zero_or : (n : ℕ) → (1 ≤ n → ⊥) → n ≡ 0
      zero_or zero f = refl
      zero_or (suc n) f = absurd (f (omega arith))

      less : path_cmp at q ≡ Less
      less = path_total.antisymm at q ∙ ap ordering_reverse greater

      no : (j : ℕ) × ((j < length (take i paths)) × (get_or (take i paths) j q ≡ q)) → ⊥
      no (j, (within, e)) =
          let long = length-take-le i paths (omega (arith, lt)) in
          let there : get_or paths j q ≡ q = sym (get_or-take i paths j q (omega (arith, within, long))) ∙ e in
          let here : get_or paths i q ≡ at = get_or_default paths i q at lt ∙ sym is in
          let far = sorted_far (λ (x y : Path). is_lt (path_cmp x y)) (ranks_by path_total (λ (x : Path). x)) paths sorted j i q (omega (arith, within, long)) lt in
          let same : is_lt (path_cmp at q) ≡ is_lt (path_cmp (get_or paths i q) (get_or paths j q)) = (λ k. is_lt (path_cmp (sym here k) (sym there k))) in
          true_not_false (is_lt (path_cmp at q)) (ap is_lt less) (same ∙ far)

-- nothing is adjusted yet
pub order_start : (adjustment : Adjustment) (path : Path) (t u : Files) → ((q : Path) → object_states_of (places u) q ≡ object_states_of (places t) q) → AdjustingInOrder adjustment path t u
order_start adjustment path t u same = record {
  each = λ q. IsPartSet.kept (same q);
  at = [];
  before = λ q less. absurd (least q less);
  after = λ q greater. same q;
}
  where
    least : (q : Path) → path_cmp q [] ≡ Less → ⊥
    least [] e = let no : Equal ≡ Less = e in cc
    least (n ∷ q) e = let no : Greater ≡ Less = e in cc

-- what sets make of an object, timestamps aside
adjusts_one : (is : Guard → Change → Type 0) (xs : List Operation) → AtMostOne is xs → list_all is_adjustment xs ≡ true
adjusts_one is [] h = refl
adjusts_one is (Apply guard change ∷ []) h = refl
adjusts_one is (Make b ∷ []) h = absurd h
adjusts_one is (Renew test b ∷ []) h = absurd h
adjusts_one is (Erase ∷ []) h = absurd h
adjusts_one is (x ∷ y ∷ xs) h = absurd h

all_adjust : (sets : List Operation) → AreSets sets → list_all is_adjustment sets ≡ true
all_adjust sets (AreSets.several bytes owners mode e one two three) =
    ap (list_all is_adjustment) e
    ∙ list_all-append is_adjustment bytes (owners ++ mode) ∙ ap (λ b. b && list_all is_adjustment (owners ++ mode)) (adjusts_one SetsBytes bytes one)
    ∙ list_all-append is_adjustment owners mode ∙ ap (λ b. b && list_all is_adjustment mode) (adjusts_one SetsOwners owners two) ∙ adjusts_one SetsMode mode three
all_adjust sets (AreSets.alone h) = adjusts_one SetsOther sets h

adjusted_state : (now : ℕ) (sets : List Operation) → AreSets sets → (v : Option Object) → option_map object_state_of (option_map (become now sets) v) ≡ run sets (option_map object_state_of v)
adjusted_state now sets are None = sym (adjusted_none sets (all_adjust sets are))
adjusted_state now sets are (Some o) = become-object_state now sets (all_adjust sets are) o

-- ---- the loop

module _ (adjustment : Adjustment) (path : Path) (t : Files) (paths : List Path) (reached : IsReached adjustment path t paths) (now : ℕ) where
  abbrev sets : List Operation
  sets = adjustment.sets

  abbrev pub weight : Path → ℕ
  weight = λ q. change_work sets (places t q)

  pub at_most : (n : ℕ) → sum (map weight (take n paths)) ≤ adjust_work adjustment path t
  at_most n = sum-times weight (take n paths) (filter (is_adjusted adjustment path) (fin.keys t)) counted
    where
      both_or_none : (a b : Bool) → ◌≡◌ {A = ℕ} (cond (a && b) 1 0) (cond a (cond b 1 0) 0)
      both_or_none true b = refl
      both_or_none false b = refl

      counted : (q : Path) → times q (take n paths) ≤ times q (filter (is_adjusted adjustment path) (fin.keys t))
      counted q = omega (arith, times-take n paths q, reached q, times-filter (is_adjusted adjustment path) q (fin.keys t), ap {B = ℕ} (λ m. cond (is_adjusted adjustment path q) m 0) (times-keys t q), both_or_none (is_adjusted adjustment path q) (is_some (places t q)))

  module _ (i : ℕ) (at : Path) (lt : i < length paths) (is : at ≡ get_or paths i at) where
    abbrev front : List Path
    front = take i paths

    more : take (i + 1) paths ≡ front ++ at ∷ []
    more = take_more paths i at lt ∙ ap (λ q. front ++ q ∷ []) (sym is)

    counts : times at front + 1 ≤ cond (is_adjusted adjustment path at && is_some (places t at)) 1 0
    counts = omega (arith, ap (times at) more, times-push at front at, ap {B = ℕ} (λ b. cond b 1 0) (same_path-refl at), times-take (i + 1) paths at, reached at)

    stands : (is_adjusted adjustment path at ≡ true) × (is_some (places t at) ≡ true)
    stands = by (is_adjusted adjustment path at) (is_some (places t at)) refl refl
      where
        by : (a b : Bool) → is_adjusted adjustment path at ≡ a → is_some (places t at) ≡ b → (is_adjusted adjustment path at ≡ true) × (is_some (places t at) ≡ true)
        by true true e f = (e, f)
        by true false e f = absurd (let none : ◌≡◌ {A = ℕ} (cond (is_adjusted adjustment path at && is_some (places t at)) 1 0) 0 = (λ j. cond (e j && f j) 1 0) in omega (arith, counts, none))
        by false b e f = absurd (let none : ◌≡◌ {A = ℕ} (cond (is_adjusted adjustment path at && is_some (places t at)) 1 0) 0 = (λ j. cond (e j && f j) 1 0) in omega (arith, counts, none))

    not_yet : times at front ≡ 0
    not_yet = let one : ◌≡◌ {A = ℕ} (cond (is_adjusted adjustment path at && is_some (places t at)) 1 0) 1 = (λ j. cond (stands.0 j && stands.1 j) 1 0) in omega (arith, counts, one)

    module _ (u : Files) (here : places u ≡ each_at (become now sets) front (places t)) where
      pub same_here : places u at ≡ places t at
      same_here = ap (λ p. p at) here ∙ each_at-none (become now sets) front (places t) at not_yet

      pub still_present : IsPresent u at
      still_present = ap is_some same_here ∙ stands.1

      pub here_more : (v : Files) → places v ≡ on_at at (become now sets) (places u) → places v ≡ each_at (become now sets) (take (i + 1) paths) (places t)
      here_more v e =
          e ∙ ap (on_at at (become now sets)) here ∙ sym (fold-append (λ u q. on_at q (become now sets) u) (places t) front (at ∷ []))
          ∙ ap (λ xs. each_at (become now sets) xs (places t)) (sym more)

      way : AdjustingReached adjustment path t u → (w : Files) → Adjusting at sets u w → AdjustingReached adjustment path t w
      way before w h q = elim (path_cases at q) [
        | inl e ↦ subst (λ q. IsPartSet (is_adjusted adjustment path q) sets (object_states_of (places t) q) (object_states_of (places w) q)) e
            (IsPartSet.set h.0 stands.0
            (h.1 at ∙ ap (λ s. if s then run (take h.0 (parts sets)) (object_states_of (places u) at) else object_states_of (places u) at) (same_path-refl at)
            ∙ ap (λ v. run (take h.0 (parts sets)) (option_map object_state_of v)) same_here))
        | inr e ↦ moved (object_states_of (places w) q) (h.1 q ∙ ap (λ s. if s then run (take h.0 (parts sets)) (object_states_of (places u) q) else object_states_of (places u) q) e) (before q)
      ]
        where
          moved : (b : Option ObjectState) → b ≡ object_states_of (places u) q → IsPartSet (is_adjusted adjustment path q) sets (object_states_of (places t) q) (object_states_of (places u) q) → IsPartSet (is_adjusted adjustment path q) sets (object_states_of (places t) q) b
          moved b same h = subst (λ b. IsPartSet (is_adjusted adjustment path q) sets (object_states_of (places t) q) b) (sym same) h

      module _ (sorted : IsSorted path_cmp paths) (are : AreSets sets) where
        -- the object at another path is as it is when the object at this one is at work
        beside : (w : Files) → Adjusting at sets u w → (q : Path) → same_path at q ≡ false → object_states_of (places w) q ≡ option_map object_state_of (each_at (become now sets) front (places t) q)
        beside w h q d =
            h.1 q ∙ ap (λ s. if s then run (take h.0 (parts sets)) (object_states_of (places u) q) else object_states_of (places u) q) d
            ∙ ap (λ (p : Places). option_map object_state_of (p q)) here

        order : AdjustingReached adjustment path t u → (w : Files) → Adjusting at sets u w → AdjustingInOrder adjustment path t w
        order before w h = record {
          each = way before w h;
          at = at;
          before = λ q less there is_reached.
              let one : ◌≡◌ {A = ℕ} (cond (is_adjusted adjustment path q && is_some (places t q)) 1 0) 1 = (λ j. cond (is_reached j && there j) 1 0) in
              let once : times q front ≡ 1 = done_before q less one in
              beside w h q (other q (λ e. (let no : Equal ≡ Less = sym (path_cmp-refl at) ∙ ap (λ (x : Path). path_cmp x at) e ∙ less in cc)))
              ∙ ap (option_map object_state_of) (each_at-one (become now sets) front (places t) q once) ∙ adjusted_state now sets are (places t q);
          after = λ q greater.
              beside w h q (other q (λ e. (let no : Equal ≡ Greater = sym (path_cmp-refl at) ∙ ap (λ (x : Path). path_cmp x at) e ∙ greater in cc)))
              ∙ ap (option_map object_state_of) (each_at-none (become now sets) front (places t) q (greater_after paths sorted i at lt is q greater));
        }
          where
            other : (q : Path) → (at ≡ q → ⊥) → same_path at q ≡ false
            other q d = elim (path_cases at q) [
              | inl e ↦ absurd (d e)
              | inr f ↦ f
            ]

            done_before : (q : Path) → path_cmp q at ≡ Less → ◌≡◌ {A = ℕ} (cond (is_adjusted adjustment path q && is_some (places t q)) 1 0) 1 → times q front ≡ 1
            done_before q less one =
                let both = times-append q front (drop i paths) in
                let whole : times q (front ++ drop i paths) ≡ times q paths = ap (times q) (take-append-drop i paths) in
                omega (arith, both, whole, less_before paths sorted i at lt is q less, reached q, one)

      gives : (s : Step) → GivesSet at sets u s → GivesReached adjustment path t s
      gives s h = record { at = at; reached = stands.0; gives = gives_same at sets u t same_here s h }

      work_more : sum (map weight front) + change_work sets (places u at) ≡ sum (map weight (take (i + 1) paths))
      work_more = ap (λ v. sum (map weight front) + change_work sets v) same_here ∙ sym (sum-push weight front at) ∙ ap (λ xs. sum (map weight xs)) (sym more)

      pub acted_more : IsSorted path_cmp paths → AreSets sets → {S : Type 0} (tree : Ghosts S) → Moves tree → (a b c : S) → tree.state a ≡ t → tree.state b ≡ u → (r : Result (Unit {0}) TreeFault)
          → Acted tree (AdjustingInOrder adjustment path t) (GivesReached adjustment path t) (sum (map weight front)) now a b well
          → Acted tree (Adjusting at sets u) (GivesSet at sets u) (change_work sets (places u at)) now b c r
          → Acted tree (AdjustingInOrder adjustment path t) (GivesReached adjustment path t) (sum (map weight (take (i + 1) paths))) now a c r
      acted_more sorted are tree moves a b c is_t is_u r before last =
          let reached_u : AdjustingInOrder adjustment path t u = subst (λ f. AdjustingInOrder adjustment path t f) is_u (acted_end tree (AdjustingInOrder adjustment path t) (GivesReached adjustment path t) before) in
          subst (λ n. Acted tree (AdjustingInOrder adjustment path t) (GivesReached adjustment path t) n now a c r) work_more
          (acted_then tree moves (AdjustingInOrder adjustment path t) (GivesReached adjustment path t) before
          (acted_weaken tree (Adjusting at sets u) (AdjustingInOrder adjustment path t) (GivesSet at sets u) (GivesReached adjustment path t) (change_work sets (places u at)) (change_work sets (places u at))
          (order sorted are reached_u.each) gives (omega arith) last))

  -- ---- when all is done

  all_at : (q : Path) → each_at (become now sets) paths (places t) q ≡ touched_at now adjustment path t q
  all_at q = by (is_adjusted adjustment path q) (places t q) refl refl
    where
      by : (s : Bool) (v : Option Object) → is_adjusted adjustment path q ≡ s → places t q ≡ v → each_at (become now sets) paths (places t) q ≡ (if s then option_map (become now sets) (places t q) else places t q)
      by true None e f =
          each_at-none (become now sets) paths (places t) q (reached q ∙ (λ j. cond (e j && is_some (f j)) 1 0)) ∙ f ∙ ap (option_map (become now sets)) (sym f)
      by true (Some o) e f = each_at-one (become now sets) paths (places t) q (reached q ∙ (λ j. cond (e j && is_some (f j)) 1 0))
      by false v e f = each_at-none (become now sets) paths (places t) q (reached q ∙ (λ j. cond (e j && is_some (places t q)) 1 0))

  all_by : (u : Files) → places u ≡ each_at (become now sets) paths (places t) → u ≡ adjust_at now adjustment path t
  all_by u here = same_files u (adjust_at now adjustment path t) (λ q. ap (λ p. p q) here ∙ all_at q ∙ sym (places-adjust_at now adjustment path t q))

  pub all_done : (i : ℕ) → length paths ≤ i → (u : Files) → places u ≡ each_at (become now sets) (take i paths) (places t) → u ≡ adjust_at now adjustment path t
  all_done i past u here = all_by u (here ∙ ap (λ (xs : List Path). each_at (become now sets) xs (places t)) (take_all i paths past))

-- ---- the list

-- the path alone, for a line that reaches nothing below it
pub reached_alone : (adjustment : Adjustment) (path : Path) (t : Files) → IsPresent t path → (adjustment.deep && not (has_staging path)) ≡ false → IsReached adjustment path t (path ∷ [])
reached_alone adjustment path t present alone q = by (same_or_not path q)
  where
    none : (d p s b : Bool) → (d && not b) ≡ false → (p ≡ true → b ≡ true → s ≡ true) → (d && p && not s) ≡ false
    none true true true b e f = refl
    none true true false true e f = sym (f refl refl)
    none true true false false e f = e
    none true false s b e f = refl
    none false p s b e f = refl

    by : ((path ≡ q) × (same_path path q ≡ true)) ⊎ (same_path path q ≡ false) → times q (path ∷ []) ≡ cond (is_adjusted adjustment path q && is_some (places t q)) 1 0
    by (inl s) =
        let here : is_some (places t q) ≡ true = ap (λ p. is_some (places t p)) (sym s.0) ∙ present in
        (λ j. cond (s.1 j) 1 0 + 0) ∙ sym (ap {B = ℕ} (λ b. cond b 1 0) (λ j. (s.1 j || adjustment.deep && is_prefix path q && not (has_staging q)) && here j))
    by (inr d) =
        let out = none adjustment.deep (is_prefix path q) (has_staging q) (has_staging path) alone (has_staging-extends path q) in
        (λ j. cond (d j) 1 0 + 0) ∙ sym (ap {B = ℕ} (λ b. cond b 1 0) (λ j. (d j || out j) && is_some (places t q)))

pub sorted_alone : (path : Path) → IsSorted path_cmp (path ∷ [])
sorted_alone path k d from within = absurd (omega (arith, within))

-- and all is done when it is
pub all_alone : (adjustment : Adjustment) (path : Path) (t : Files) → IsReached adjustment path t (path ∷ []) → (now : ℕ) → (r : Result (Unit {0}) TreeFault) (u : Files)
    → OnOk r (places u ≡ on_at path (become now adjustment.sets) (places t)) → OnOk r (u ≡ adjust_at now adjustment path t)
all_alone adjustment path t reached now (Ok x) u here = all_done adjustment path t (path ∷ []) reached now 1 (omega arith) u here
all_alone adjustment path t reached now (Err e) u here = tt

-- ---- all at and below the path

module _ (t : Files) (path : Path) (listed paths : List Path) (whole : listed ≡ filter (is_prefix path) (fin.keys t)) (kept : paths ≡ filter (λ q. not (has_staging q)) listed) where
  -- for a line that goes down, those without a staging name
  pub reached_deep : (adjustment : Adjustment) → (adjustment.deep && not (has_staging path)) ≡ true → IsReached adjustment path t paths
  reached_deep adjustment goes q =
      ap (times q) kept ∙ times-filter (λ q. not (has_staging q)) q listed
      ∙ ap (λ n. cond (not (has_staging q)) n 0) (ap (times q) whole ∙ times-filter (is_prefix path) q (fin.keys t) ∙ ap (λ n. cond (is_prefix path q) n 0) (times-keys t q))
      ∙ by (same_or_not path q)
    where
      both : (a b : Bool) → (a && not b) ≡ true → (a ≡ true) × (b ≡ false)
      both true true e = absurd (let no : false ≡ true = e in cc)
      both true false e = (refl, refl)
      both false b e = absurd (let no : false ≡ true = e in cc)

      deep : adjustment.deep ≡ true
      deep = (both adjustment.deep (has_staging path) goes).0

      other : (p s b : Bool) → ◌≡◌ {A = ℕ} (cond (not s) (cond p (cond b 1 0) 0) 0) (cond ((false || true && p && not s) && b) 1 0)
      other true true b = refl
      other true false b = refl
      other false true b = refl
      other false false b = refl

      by : ((path ≡ q) × (same_path path q ≡ true)) ⊎ (same_path path q ≡ false)
          → ◌≡◌ {A = ℕ} (cond (not (has_staging q)) (cond (is_prefix path q) (cond (is_some (places t q)) 1 0) 0) 0) (cond (is_adjusted adjustment path q && is_some (places t q)) 1 0)
      by (inl s) =
          let below : is_prefix path q ≡ true = ap (is_prefix path) (sym s.0) ∙ is_prefix-refl path in
          let unstaged : has_staging q ≡ false = ap has_staging (sym s.0) ∙ (both adjustment.deep (has_staging path) goes).1 in
          (λ j. cond (not (unstaged j)) (cond (below j) (cond (is_some (places t q)) 1 0) 0) 0)
          ∙ sym (ap {B = ℕ} (λ b. cond b 1 0) (λ j. (s.1 j || adjustment.deep && is_prefix path q && not (has_staging q)) && is_some (places t q)))
      by (inr d) =
          other (is_prefix path q) (has_staging q) (is_some (places t q))
          ∙ sym (ap {B = ℕ} (λ b. cond b 1 0) (λ j. (d j || deep j && is_prefix path q && not (has_staging q)) && is_some (places t q)))

  -- in byte order, as the paths of a tree are
  pub in_byte_order : IsSorted path_cmp paths
  in_byte_order = subst (IsSorted path_cmp) (sym (kept ∙ ap (filter (λ q. not (has_staging q))) whole))
      (IsSortedBy-filter (λ x y. is_lt (path_cmp x y)) ranks (λ q. not (has_staging q)) (filter (is_prefix path) (fin.keys t))
      (IsSortedBy-filter (λ x y. is_lt (path_cmp x y)) ranks (is_prefix path) (fin.keys t) (keys_sorted (fin.entries t) (fin.entries_sorted t))))
    where
      ranks : IsStrictWeakOrder (λ (x y : Path). is_lt (path_cmp x y))
      ranks = ranks_by path_total (λ (x : Path). x)

      after : (x y : Path) → T (is_lt (path_cmp x y)) → is_lt (path_cmp y x) ≡ false
      after x y h = ap is_lt (path_total.antisymm y x ∙ ap ordering_reverse (less_of-T (path_cmp x y) h))

      keys_sorted : (es : List (Path × Object)) → T (is_sorted path_cmp es) → IsSorted path_cmp (map (λ e. e.0) es)
      keys_sorted [] h k d from within = absurd (omega (arith, within))
      keys_sorted (e ∷ []) h k d from within = absurd (omega (arith, within))
      keys_sorted (e ∷ f ∷ es) h zero d from within =
          after e.0 f.0 (each_T (is_lt (path_cmp e.0 f.0)) (below_all path_cmp e.0 es) (each_T (below_all path_cmp e.0 (f ∷ es)) (is_sorted path_cmp (f ∷ es)) h).0).0
      keys_sorted (e ∷ f ∷ es) h (suc k) d from within =
          let next : suc (k + 1) ≡ suc k + 1 = omega arith in
          subst (λ n. is_lt (path_cmp (get_or (map {B = Path} (λ e. e.0) (e ∷ f ∷ es)) n d) (get_or (map {B = Path} (λ e. e.0) (f ∷ es)) k d)) ≡ false) next
          (keys_sorted (f ∷ es) (each_T (below_all path_cmp e.0 (f ∷ es)) (is_sorted path_cmp (f ∷ es)) h).1 k d (omega arith) (omega (arith, within)))
