-- Laws of what is known of the children of directories, when a list of all that stands in a tree is gone through from its end.
use Rattle.std.specs.Prelude.{◌≡◌, ◌≢◌, ◌⊎◌, ℕ, ◌+◌, ◌-◌, ◌≤◌, ◌<◌, Bool, true, false, cond, not, ◌&&◌, ◌||◌, ◌==◌, nat_lt, List, [], ◌∷◌, ◌++◌, zero, suc, length, map, filter, replicate, reverse, set, take, is_some, slice_get, unwrap_or}
use Rattle.std.proofs.Common.{refl, sym, ap, subst, ◌∙◌, inl, inr, arith, append_assoc, get_or, length-append}
use Rattle.std.proofs.lemmas.Bool.Decides.{nat_tests}
use Rattle.std.specs.List.{list_all, list_any, AllClonesOf}
use Rattle.std.proofs.lemmas.List.{append-nil, get_or-set_other, get_or-set_same, reverse-append}
use Rattle.std.proofs.Math.Bool.{and-false, or-false}
use Rattle.std.proofs.lemmas.Bool.{and_from, and_parts, cases_Bool, or_right}
use Rattle.pv_lines.specs.declared.line.Line.{Line}
use Rattle.pv_path.specs.Paths.{Path, parent_of}
use Rattle.pv_path.proofs.PathLaws.{length-parent_of}
use Rattle.pv_path.proofs.Tests.{same_tests, true_not_false}
use Rattle.pv_steps.specs.declared.step.Step.{Step}
use Rattle.pv_steps.specs.Trees.{Files, places, names_below, IsPresent, IsTree}
use Rattle.pv_walk.specs.Listing.{times, is_child, IsGatheredBelow}
use Rattle.pv_walk.specs.Removal.{loses_child, removal_at}
use Rattle.pv_walk.proofs.CountLaws.{child_parts, is_child-push, same_or_not, times-append, times-children, times-push, times-self}
use Rattle.pv_walk.proofs.RemovalLaws.{cond-true, is_below-child, zero_or_more}
use Rattle.pv_table.specs.Cleaned.{is_aged, may_go}
use Rattle.pv_table.proofs.ChildrenLaws.{children_all}
use Rattle.pv_clean.specs.declared.aging.Judged.{Judged}
use Rattle.pv_clean.specs.Cleaning.{clean_step, giving_back, is_task, ArePlanned}
use Rattle.pv_clean.specs.Judging.{judged_at, noted, AreJudged}
use Rattle.pv_clean.proofs.AllListed.{AreFalling, IsWhole, behind_one, child_behind, child_of_parent, falling_from, gathered_at, gathered_behind, longer, parent_before, there, whole_from}
use Rattle.pv_clean.proofs.CleanSteps.{child_lost, planned_from}
use Rattle.pv_clean.proofs.SentenceLaws.{aged_by}

-- what is noted, once a part of a list is gone through
abbrev pub among : (Path → Bool) → List Path → ℕ → Bool
among f [] k = false
among f (q ∷ done) k = noted (length q) (f q) (among f done) k

lt_true : (a b : ℕ) → a < b → nat_lt a b ≡ true
lt_true a b h = grind (arith, nat_tests, h)

lt_from : (a b : ℕ) → nat_lt a b ≡ true → a < b
lt_from a b h = grind (arith, nat_tests, h)

eq_true : (a b : ℕ) → a ≡ b → (a == b) ≡ true
eq_true a b h = grind (arith, nat_tests, h)

eq_from : (a b : ℕ) → (a == b) ≡ true → a ≡ b
eq_from a b h = grind (arith, nat_tests, h)

or_parts : (a b : Bool) → (a || b) ≡ true → (a ≡ true) ⊎ (b ≡ true)
or_parts true b h = inl refl
or_parts false b h = inr h

or_left : (a b : Bool) → a ≡ true → (a || b) ≡ true
or_left true b h = refl
or_left false b h = absurd (let no : false ≡ true = h in cc)

-- a child of a path for which the test is so
from_any : (f : Path → Bool) (path : Path) (ns : List (List ℕ)) → list_any (λ n. f (path ++ n ∷ [])) ns ≡ true → (q : Path) × (f q ≡ true) × (is_child path q ≡ true) × (1 ≤ times q (map (λ n. path ++ n ∷ []) ns))
from_any f path [] h = absurd (let no : false ≡ true = h in cc)
from_any f path (n ∷ ns) h = elim (or_parts (f (path ++ n ∷ [])) (list_any (λ m. f (path ++ m ∷ [])) ns) h) [
  | inl e ↦ (path ++ n ∷ [], e, is_child-push path n, (let self = times-self (path ++ n ∷ []) (map (λ m. path ++ m ∷ []) ns) in omega (arith, self)))
  | inr e ↦ let more = from_any f path ns e in (more.0, more.1, more.2, (let some = more.3 in omega (arith, some)))
]

module _ (t : Files) (tree : IsTree t) (f : Path → Bool) (front : List Path) (p : Path) (done : List Path) (w : IsWhole t (front ++ p ∷ done)) where
  -- what is noted is so of a child
  is_of_child : (mid left : List Path) → done ≡ mid ++ left → ((q : Path) → 1 ≤ times q mid → length p < length q) → among f left (length p) ≡ true → loses_child f t p ≡ true
  is_of_child mid [] is deep h = absurd (let no : false ≡ true = h in cc)
  is_of_child mid (q ∷ left) is deep h =
      let parts = and_parts (nat_lt (length p) (length q)) (among f left (length p) || ((length p + 1 == length q) && f q)) h in
      let deeper = lt_from (length p) (length q) parts.0 in
      elim (or_parts (among f left (length p)) ((length p + 1 == length q) && f q) parts.1) [
        | inl e ↦ is_of_child (mid ++ q ∷ []) left (is ∙ sym (append_assoc mid (q ∷ []) left)) (deep_on deeper) e
        | inr e ↦ let two = and_parts (length p + 1 == length q) (f q) e in it deeper (eq_from (length p + 1) (length q) two.0) two.1
      ]
    where
      deep_on : length p < length q → (r : Path) → 1 ≤ times r (mid ++ q ∷ []) → length p < length r
      deep_on deeper r some = elim (same_or_not q r) [
        | inl s ↦ subst (λ (x : Path). length p < length x) s.0 deeper
        | inr d ↦ deep r (let sum = times-push r mid q in let none = ap (λ b. cond {A = ℕ} b 1 0) d in omega (arith, some, sum, none))
      ]

      it : length p < length q → length p + 1 ≡ length q → f q ≡ true → loses_child f t p ≡ true
      it deeper one holds = (child_lost f t p q other over (there t tree ((front ++ p ∷ mid)) q left split) holds).1
        where
          other : q ≢ []
          other e = let none = ap length e in omega (arith, none, deeper)

          split : IsWhole t ((front ++ p ∷ mid) ++ q ∷ left)
          split = subst (IsWhole t) (ap (λ (ps : List Path). front ++ p ∷ ps) is ∙ sym (append_assoc front (p ∷ mid) (q ∷ left))) w

          up : length (parent_of q) ≡ length p
          up = let short = length-parent_of q in omega (arith, short, one)

          sum : times (parent_of q) (front ++ p ∷ mid) ≡ times (parent_of q) front + times (parent_of q) (p ∷ mid)
          sum = times-append (parent_of q) front (p ∷ mid)

          over : parent_of q ≡ p
          over = elim (same_or_not p (parent_of q)) [
            | inl s ↦ sym s.0
            | inr d ↦ elim (zero_or_more (times (parent_of q) front)) [
              | inl z ↦ absurd (
                  let before = parent_before t tree (front ++ p ∷ mid) q left split other in
                  let in_mid = behind_one p (parent_of q) mid d (omega (arith, before, sum, z)) in
                  let long = deep (parent_of q) in_mid in
                  omega (arith, long, up))
              | inr m ↦ absurd (
                  let under = gathered_at front p done w.gathered (parent_of q) q m (is_below-child (parent_of q) q (child_of_parent q other))
                  (let at = ap (times q) is ∙ times-append q mid (q ∷ left) in let self = times-self q left in omega (arith, at, self)) in
                  let long = longer (parent_of q) p under in
                  omega (arith, long, up))
            ]
          ]

  -- what is so of a child is noted
  is_noted : (ps : List Path) → IsGatheredBelow p ps → (q : Path) → is_child p q ≡ true → f q ≡ true → 1 ≤ times q ps → among f ps (length p) ≡ true
  is_noted [] g q child holds some = absurd (omega (arith, some))
  is_noted (x ∷ ps) g q child holds some = elim (same_or_not x q) [
    | inl s ↦
        let long : length q ≡ length p + 1 = let parts = parent_child in parts in
        and_from (nat_lt (length p) (length x)) (among f ps (length p) || ((length p + 1 == length x) && f x))
        (lt_true (length p) (length x) (let e = ap length s.0 in omega (arith, e, long)))
        (or_right (among f ps (length p)) ((length p + 1 == length x) && f x)
        (and_from (length p + 1 == length x) (f x) (eq_true (length p + 1) (length x) (let e = ap length s.0 in omega (arith, e, long))) (ap f s.0 ∙ holds)))
    | inr d ↦
        let more = behind_one x q ps d some in
        and_from (nat_lt (length p) (length x)) (among f ps (length p) || ((length p + 1 == length x) && f x))
        (lt_true (length p) (length x) (longer p x (g.0 q (is_below-child p q child) more)))
        (or_left (among f ps (length p)) ((length p + 1 == length x) && f x) (is_noted ps g.1 q child holds more))
  ]
    where
      parent_child : length q ≡ length p + 1
      parent_child = let parts = child_parts p q child in ap length parts.1 ∙ length-append p (parts.0 ∷ [])

  -- what is noted at the number of names of the next path is what is so of its children
  pub among_children : among f done (length p) ≡ loses_child f t p
  among_children = same_tests (among f done (length p)) (loses_child f t p)
      (is_of_child [] done refl (λ q some. absurd (omega (arith, some))))
      (λ h.
      let found = from_any f p (names_below t p) h in
      let q = found.0 in
      let counts = times-children t p q in
      let stands : IsPresent t q = (and_parts (is_child p q) (is_some (places t q)) (cond-true (is_child p q && is_some (places t q)) (let some = found.3 in omega (arith, some, counts)))).1 in
      is_noted done (gathered_behind front p done w.gathered) q found.2 found.1 (child_behind t tree front p done w q found.2 stands))

-- not one stays where all go
none_stays : {A : Type 0} (g : A → Bool) (xs : List A) → not (list_any (λ x. not (g x)) xs) ≡ list_all g xs
none_stays g [] = refl
none_stays g (x ∷ xs) = by (g x) (none_stays g xs)
  where
    by : (b : Bool) → not (list_any (λ y. not (g y)) xs) ≡ list_all g xs → not (not b || list_any (λ y. not (g y)) xs) ≡ (b && list_all g xs)
    by true e = e
    by false e = refl

-- what goes is what may go by itself and has no child that stays
pub goes_by_levels : (lines : List Line) (now : ℕ) (t : Files) (tree : IsTree t) (front : List Path) (p : Path) (done : List Path) → IsWhole t (front ++ p ∷ done)
    → (may_go lines now t p && not (among (λ q. not (is_aged lines now t q)) done (length p))) ≡ is_aged lines now t p
goes_by_levels lines now t tree front p done w =
    ap (λ b. may_go lines now t p && not b) (among_children t tree (λ q. not (is_aged lines now t q)) front p done w)
    ∙ ap (λ b. may_go lines now t p && b) (none_stays (λ n. is_aged lines now t (p ++ n ∷ [])) (names_below t p) ∙ sym (children_all t tree (is_aged lines now t) p))
    ∙ sym (aged_by lines now t tree p)

-- ---- a list is gone through from its end

-- where the last of what a map gives comes from
unmap : {A B : Type 0} (f : A → B) (xs : List A) (ys : List B) (y : B) → map f xs ≡ ys ++ y ∷ [] → (zs : List A) × (z : A) × (xs ≡ zs ++ z ∷ []) × (ys ≡ map f zs) × (y ≡ f z)
unmap f [] [] y e = absurd (let no = ap length e in omega (arith, no))
unmap f [] (x ∷ ys) y e = absurd (let no = ap length e in omega (arith, no))
unmap f (x ∷ []) [] y e = ([], x, refl, refl, (let same : f x ∷ [] ≡ y ∷ [] = e in let one : f x ≡ y = cc in sym one))
unmap f (x ∷ z ∷ xs) [] y e = absurd (let no = ap length e in omega (arith, no))
unmap {A = A} {B = B} f (x ∷ xs) (v ∷ ys) y e =
    let same : f x ∷ map f xs ≡ v ∷ (ys ++ y ∷ []) = e in
    let first : f x ≡ v = cc in
    let rest : map f xs ≡ ys ++ y ∷ [] = cc in
    let more = unmap f xs ys y rest in
    (x ∷ more.0, more.1, ap (λ (zs : List A). x ∷ zs) more.2, ap (λ (z : B). z ∷ ys) (sym first) ∙ ap (λ (zs : List B). f x ∷ zs) more.3, more.4)

no_map : {A B : Type 0} (f : A → B) (xs : List A) → map f xs ≡ [] → xs ≡ []
no_map f [] e = refl
no_map f (x ∷ xs) e = absurd (let no = ap length e in omega (arith, no))

-- of a list of all that stands in a tree a part is gone through, from its end: what is left, what is known, and the steps
pub record Planning (lines : List Line) (now : ℕ) (t : Files) (all : List Path) (left : List Judged) (staying going : List Bool) (steps : List Step) : Type 0 where
  pub front : List Path
  pub done : List Path
  pub parts : all ≡ front ++ done
  pub left_is : left ≡ map (judged_at lines now t) front
  pub stay : (k : ℕ) → unwrap_or (slice_get staying k) false ≡ among (λ q. not (is_aged lines now t q)) done k
  pub go : (k : ℕ) → unwrap_or (slice_get going k) false ≡ among (is_aged lines now t) done k
  pub told : reverse steps ≡ map (clean_step (is_aged lines now t) t) (filter (is_task (is_aged lines now t) t) done)

-- the step at the first path of those that are gone through
step_first : (goes : Path → Bool) (t : Files) (p : Path) (done : List Path) (b c : Bool) → goes p ≡ b → loses_child goes t p ≡ c
    → reverse (cond b (removal_at t p ∷ []) (cond c (giving_back t p ∷ []) [])) ++ map (clean_step goes t) (filter (is_task goes t) done) ≡ map (clean_step goes t) (filter (is_task goes t) (p ∷ done))
step_first goes t p done true c e h =
    ap (λ b. cond {A = Step} b (removal_at t p) (giving_back t p) ∷ map (clean_step goes t) (filter (is_task goes t) done)) (sym e)
    ∙ ap (λ b. map (clean_step goes t) (cond b (p ∷ filter (is_task goes t) done) (filter (is_task goes t) done))) (sym (ap (λ b. b || loses_child goes t p) e))
step_first goes t p done false true e h =
    ap (λ b. cond {A = Step} b (removal_at t p) (giving_back t p) ∷ map (clean_step goes t) (filter (is_task goes t) done)) (sym e)
    ∙ ap (λ b. map (clean_step goes t) (cond b (p ∷ filter (is_task goes t) done) (filter (is_task goes t) done))) (sym (ap (λ b. b || loses_child goes t p) e ∙ h))
step_first goes t p done false false e h =
    ap (λ b. map (clean_step goes t) (cond b (p ∷ filter (is_task goes t) done) (filter (is_task goes t) done))) (sym (ap (λ b. b || loses_child goes t p) e ∙ h))

module _ (lines : List Line) (now : ℕ) (t : Files) (all : List Path) (w : IsWhole t all) where
  pub planning_start : (left : List Judged) (staying going : List Bool) (steps : List Step) → left ≡ map (judged_at lines now t) all → staying ≡ [] → going ≡ [] → steps ≡ [] → Planning lines now t all left staying going steps
  planning_start left staying going steps is no_stay no_go none = record {
    front = all;
    done = [];
    parts = sym (append-nil all);
    left_is = is;
    stay = λ k. ap (λ (bs : List Bool). unwrap_or (slice_get bs k) false) no_stay;
    go = λ k. ap (λ (bs : List Bool). unwrap_or (slice_get bs k) false) no_go;
    told = ap reverse none;
  }

  pub planning_end : (left : List Judged) (staying going : List Bool) (steps : List Step) → left ≡ [] → AreFalling all → Planning lines now t all left staying going steps → ArePlanned (is_aged lines now t) t (reverse steps)
  planning_end left staying going steps empty falling plan =
      let none : plan.front ≡ [] = no_map (judged_at lines now t) plan.front (sym plan.left_is ∙ empty) in
      let same : all ≡ plan.done = plan.parts ∙ ap (λ (ps : List Path). ps ++ plan.done) none in
      planned_from (is_aged lines now t) t all (reverse steps) w falling (plan.told ∙ ap (λ (ps : List Path). map (clean_step (is_aged lines now t) t) (filter (is_task (is_aged lines now t) t) ps)) (sym same))

  module _ (tree : IsTree t) (left rest : List Judged) (next : Judged) (is : left ≡ rest ++ next ∷ []) (staying going : List Bool) (steps : List Step) (plan : Planning lines now t all left staying going steps) where
    abbrev aged : Path → Bool
    aged = is_aged lines now t

    -- whether the next path goes, and whether it loses a child, as far as that is known
    abbrev goes : Bool
    goes = next.may_go && not (unwrap_or (slice_get staying (length next.path)) false)

    pub planning_next : (more_stay more_go : List Bool) (more : List Step)
        → ((k : ℕ) → unwrap_or (slice_get more_stay k) false ≡ noted (length next.path) (not goes) (λ j. unwrap_or (slice_get staying j) false) k)
        → ((k : ℕ) → unwrap_or (slice_get more_go k) false ≡ noted (length next.path) goes (λ j. unwrap_or (slice_get going j) false) k)
        → more ≡ steps ++ cond goes (removal_at t next.path ∷ []) (cond (unwrap_or (slice_get going (length next.path)) false) (giving_back t next.path ∷ []) [])
        → Planning lines now t all rest more_stay more_go more
    planning_next more_stay more_go more stays_more goes_more pushed =
        let found = unmap (judged_at lines now t) plan.front rest next (sym plan.left_is ∙ is) in
        by found.0 found.1 found.2 found.3 found.4
      where
        by : (front : List Path) (p : Path) → plan.front ≡ front ++ p ∷ [] → rest ≡ map (judged_at lines now t) front → next ≡ judged_at lines now t p → Planning lines now t all rest more_stay more_go more
        by front p split rest_is e = record {
          front = front;
          done = p ∷ plan.done;
          parts = here;
          left_is = rest_is;
          stay = λ k.
              stays_more k ∙ ap (λ (n : ℕ). noted n (not goes) (λ j. unwrap_or (slice_get staying j) false) k) names
              ∙ ap (λ b. noted (length p) (not b) (λ j. unwrap_or (slice_get staying j) false) k) goes_is
              ∙ ap (λ b. nat_lt k (length p) && (b || ((k + 1 == length p) && not (aged p)))) (plan.stay k);
          go = λ k.
              goes_more k ∙ ap (λ (n : ℕ). noted n goes (λ j. unwrap_or (slice_get going j) false) k) names
              ∙ ap (λ b. noted (length p) b (λ j. unwrap_or (slice_get going j) false) k) goes_is
              ∙ ap (λ b. nat_lt k (length p) && (b || ((k + 1 == length p) && aged p))) (plan.go k);
          told =
              ap reverse pushed ∙ reverse-append steps _
              ∙ ap (λ (r : Path). reverse (cond goes (removal_at t r ∷ []) (cond (unwrap_or (slice_get going (length r)) false) (giving_back t r ∷ []) [])) ++ reverse steps) (ap (λ (j : Judged). j.path) e)
              ∙ ap (λ b. reverse (cond b (removal_at t p ∷ []) (cond (unwrap_or (slice_get going (length p)) false) (giving_back t p ∷ []) [])) ++ reverse steps) goes_is
              ∙ ap (λ b. reverse (cond (aged p) (removal_at t p ∷ []) (cond b (giving_back t p ∷ []) [])) ++ reverse steps) loses_is
              ∙ ap (λ (ss : List Step). reverse (cond (aged p) (removal_at t p ∷ []) (cond (loses_child aged t p) (giving_back t p ∷ []) [])) ++ ss) plan.told
              ∙ step_first aged t p plan.done (aged p) (loses_child aged t p) refl refl;
        }
          where
            here : all ≡ front ++ p ∷ plan.done
            here = plan.parts ∙ ap (λ (ps : List Path). ps ++ plan.done) split ∙ append_assoc front (p ∷ []) plan.done

            whole : IsWhole t (front ++ p ∷ plan.done)
            whole = subst (IsWhole t) here w

            names : length next.path ≡ length p
            names = ap (λ (j : Judged). length j.path) e

            goes_is : goes ≡ aged p
            goes_is =
                ap (λ (j : Judged). j.may_go && not (unwrap_or (slice_get staying (length j.path)) false)) e
                ∙ ap (λ b. may_go lines now t p && not b) (plan.stay (length p))
                ∙ goes_by_levels lines now t tree front p plan.done whole

            loses_is : unwrap_or (slice_get going (length p)) false ≡ loses_child aged t p
            loses_is = plan.go (length p) ∙ among_children t tree aged front p plan.done whole

-- of all that is judged a part is gone through
pub record PlanningOf (lines : List Line) (now : ℕ) (t : Files) (judged left : List Judged) (staying going : List Bool) (steps : List Step) : Type 0 where
  pub listed : List Path
  pub whole : IsWhole t ([] ∷ listed)
  pub falling : AreFalling ([] ∷ listed)
  pub planning : Planning lines now t ([] ∷ listed) left staying going steps

pub plan_start : (lines : List Line) (now : ℕ) (t : Files) (judged : List Judged) (staying going : List Bool) (steps : List Step) → IsTree t → staying ≡ [] → going ≡ [] → steps ≡ [] → AreJudged lines now t judged
    → PlanningOf lines now t judged judged staying going steps
plan_start lines now t judged staying going steps tree no_stay no_go none are =
    let whole = whole_from t tree are.listed are.listing are.gathered in
    record {
      listed = are.listed;
      whole = whole;
      falling = falling_from t tree are.listed are.listing are.in_post_order;
      planning = planning_start lines now t ([] ∷ are.listed) whole judged staying going steps are.are no_stay no_go none;
    }

-- ---- one number is noted

more_lt : (a b : ℕ) → nat_lt (a + 1) (b + 1) ≡ nat_lt a b
more_lt a b = same_tests (nat_lt (a + 1) (b + 1)) (nat_lt a b)
    (λ h. lt_true a b (let less = lt_from (a + 1) (b + 1) h in omega (arith, less)))
    (λ h. lt_true (a + 1) (b + 1) (let less = lt_from a b h in omega (arith, less)))

not_lt : (a b : ℕ) → b ≤ a → nat_lt a b ≡ false
not_lt a b h = by (nat_lt a b) refl
  where
    by : (c : Bool) → nat_lt a b ≡ c → c ≡ false
    by true e = absurd (let less = lt_from a b e in omega (arith, less, h))
    by false e = refl

all_false : (ys : List Bool) → AllClonesOf {X = Bool} (λ x y. y ≡ x) false ys → (k : ℕ) → get_or ys k false ≡ false
all_false [] all k = refl
all_false (y ∷ ys) all zero = elim (all.0) [ inl e ↦ e | inr e ↦ e ]
all_false (y ∷ ys) all (suc k) = all_false ys all.1 k

-- what is left of a list, made longer
pub resized : (old ys : List Bool) → AllClonesOf {X = Bool} (λ x y. y ≡ x) false ys → (n k : ℕ) → get_or (take n old ++ ys) k false ≡ (nat_lt k n && get_or old k false)
resized old ys all zero k = all_false ys all k ∙ sym (ap (λ b. b && get_or old k false) (not_lt k 0 (omega arith)))
resized [] ys all (suc n) k = all_false ys all k ∙ sym (and-false (nat_lt k (suc n)))
resized (x ∷ old) ys all (suc n) zero = sym (ap (λ b. b && x) (lt_true 0 (suc n) (omega arith)))
resized (x ∷ old) ys all (suc n) (suc k) =
    resized old ys all n k ∙ ap (λ b. b && get_or old k false) (sym (ap (λ (m : ℕ). nat_lt m (suc n)) (omega arith) ∙ ap (λ (m : ℕ). nat_lt (k + 1) m) (omega arith) ∙ more_lt k n))

-- nothing more is noted
pub noted_none : (old : ℕ → Bool) (n k : ℕ) → (nat_lt k n && old k) ≡ noted n false old k
noted_none old n k = ap (λ b. nat_lt k n && b) (sym (ap (λ b. old k || b) (and-false (k + 1 == n)) ∙ or-false (old k)))

-- the last is noted
pub noted_last : (old : ℕ → Bool) (xs : List Bool) (n : ℕ) → ((k : ℕ) → get_or xs k false ≡ (nat_lt k n && old k)) → 0 < n → length xs ≡ n → (k : ℕ) → get_or (set xs (n - 1) true) k false ≡ noted n true old k
noted_last old xs n are some long k = elim (cases_Bool (k + 1 == n)) [
  | inl e ↦
      let at = eq_from (k + 1) n e in
      ap (λ (i : ℕ). get_or (set xs i true) k false) (omega (arith, at)) ∙ get_or-set_same xs k true false (omega (arith, at, long))
      ∙ sym (and_from (nat_lt k n) (old k || ((k + 1 == n) && true)) (lt_true k n (omega (arith, at))) (or_right (old k) ((k + 1 == n) && true) (and_from (k + 1 == n) true e refl)))
  | inr e ↦
      get_or-set_other xs (n - 1) k true false (λ is. true_not_false (k + 1 == n) (eq_true (k + 1) n (omega (arith, is, some))) e)
      ∙ are k ∙ ap (λ b. nat_lt k n && b) (sym (ap (λ b. old k || (b && true)) e ∙ or-false (old k)))
]

pub all_clones : (n : ℕ) → AllClonesOf {X = Bool} (λ x y. y ≡ x) false (replicate n false)
all_clones zero = tt
all_clones (suc n) = (inl refl, all_clones n)

-- where nothing is noted, or there is not a number for it
pub noted_not : (old : ℕ → Bool) (n k : ℕ) (is : Bool) → n ≤ 0 → (nat_lt k n && old k) ≡ noted n is old k
noted_not old n k is none =
    let no = not_lt k n (omega (arith, none)) in
    ap (λ b. b && old k) no ∙ sym (ap (λ b. b && (old k || ((k + 1 == n) && is))) no)
