-- Laws of what a clean phase does at some paths, the last of a list first: the object at each path on the way and at the end.
use Rattle.std.specs.Prelude.{◌≡◌, ◌≢◌, ℕ, ◌+◌, ◌≤◌, Bool, true, false, cond, not, ◌&&◌, ◌||◌, List, [], ◌∷◌, ◌++◌, length, map, filter, reverse, Option, Some, None, is_some, option_map}
use Rattle.std.proofs.Common.{refl, sym, ap, subst, ◌∙◌, inl, inr, arith, length-append}
use Rattle.std.specs.FinMap as fin
use Rattle.std.specs.List.{list_any}
use Rattle.std.specs.Option.{option_map_or}
use Rattle.std.proofs.lemmas.List.{length-map}
use Rattle.std.proofs.lemmas.List.Kept.{IsStrictlySortedBy-filter}
use Rattle.std.proofs.lemmas.Bool.{cases_Bool, and_parts}
use Rattle.pv_path.specs.Paths.{Path, same_path, parent_of}
use Rattle.pv_path.proofs.PathLaws.{is_prefix-append, path_ends, parent_of-push, same_path-refl}
use Rattle.pv_steps.specs.declared.object.Object.{Object}
use Rattle.pv_steps.specs.declared.step.Step.{Step}
use Rattle.pv_steps.specs.Objects.{object_state, changed, with_stamps}
use Rattle.pv_steps.specs.Runs.{after_all, HasEffect}
use Rattle.pv_steps.specs.Steps.{Can, after, gone, on_at}
use Rattle.pv_steps.specs.Trees.{Files, Places, places, child_name, names_below, IsEmptyIn, IsPresent}
use Rattle.pv_steps.proofs.ActingLaws.{Asks}
use Rattle.pv_steps.proofs.TryingLaws.{AllAsk, ask_first, reverse-first}
use Rattle.pv_steps.proofs.RunLaws.{after_all-append}
use Rattle.pv_steps.proofs.StepLaws.{at_after, same_files}
use Rattle.pv_steps.proofs.NameLaws.{child_name-push}
use Rattle.pv_walk.specs.Edits.{Pruned}
use Rattle.pv_walk.specs.Listing.{times, is_child, ParentsFirst}
use Rattle.pv_walk.specs.PostOrder.{post_cmp}
use Rattle.pv_walk.specs.Removal.{is_one_of, loses_child, removal, removal_at}
use Rattle.pv_walk.proofs.CountLaws.{is_child-push, length-times, same_or_not, taken_out, times-append, times-filter, times-keys, times-self}
use Rattle.pv_walk.proofs.RemovalLaws.{cond-true, kept-object_state, kept-kind, kept-present, modified_kept, no_same, not_first, zero_or_more, gone-here, gone-none, gone-other, gone-parent, IsKept}
use Rattle.pv_walk.proofs.GatheredLaws.{gathered_filter}
use Rattle.pv_walk.proofs.ListingLaws.{cond-le}
use Rattle.pv_walk.proofs.OrderLaws.{sorted-reverse}
use Rattle.pv_walk.proofs.Removing.{after_removal, removal_asks}
use Rattle.pv_walk.specs.Whole.{goes_whole}
use Rattle.pv_walk.proofs.FindingLaws.{children_pass}
use Rattle.pv_walk.proofs.WholeLaws.{all_at-each, goes_parts}
use Rattle.pv_table.specs.Removed.{files_without}
use Rattle.pv_table.proofs.GoingLaws.{places-without}
use Rattle.pv_clean.specs.Cleaning.{clean_step, giving_back, is_task, most_steps, stays_and_loses, ArePlanned, GoAfter, IsCleanStep}
use Rattle.pv_clean.proofs.AllListed.{AreFalling, IsWhole}
use Rattle.pv_path.proofs.Tests.{true_not_false, none_of}

-- ---- one path

-- an object with the timestamps of access and modification that stand at a path in a tree
abbrev pub with_own : Files → Path → ℕ → Object → Object
with_own t p now o = with_stamps (option_map_or (λ x. x.node.stamps.access) (places t p) 0) (option_map_or (λ x. x.node.stamps.modify) (places t p) 0) now o

-- what is done at a path
abbrev pub worked_one : (Path → Bool) → Files → ℕ → Path → Places → Places
worked_one goes t now p y = λ q. cond (goes p) (gone now p y q) (on_at p (with_own t p now) y q)

module _ (goes : Path → Bool) (t : Files) (now : ℕ) (p : Path) (y : Places) where
  -- what is absent stays so
  pub one-none : (q : Path) → y q ≡ None → worked_one goes t now p y q ≡ None
  one-none q e = by (goes p)
    where
      on_none : (b : Bool) → cond b (option_map (with_own t p now) (y q)) (y q) ≡ None
      on_none true = ap (option_map (with_own t p now)) e
      on_none false = e

      by : (b : Bool) → cond b (gone now p y q) (on_at p (with_own t p now) y q) ≡ None
      by true = gone-none now p y q e
      by false = on_none (same_path p q)

  -- what goes is gone
  pub one-gone : (q : Path) → p ≡ q → goes q ≡ true → worked_one goes t now p y q ≡ None
  one-gone q is h =
      ap (λ b. cond b (gone now p y q) (on_at p (with_own t p now) y q)) (ap goes is ∙ h)
      ∙ subst (λ r. gone now p y r ≡ None) is (gone-here now p y)

  -- what stands elsewhere is kept
  pub one-other : (q : Path) → same_path p q ≡ false → IsKept now (y q) (worked_one goes t now p y q)
  one-other q d = by (goes p)
    where
      parent : (b : Bool) → same_path (parent_of p) q ≡ b → IsKept now (y q) (gone now p y q)
      parent true e = inr (gone-parent now p y q d e)
      parent false e = inl (gone-other now p y q d e)

      by : (b : Bool) → IsKept now (y q) (cond b (gone now p y q) (on_at p (with_own t p now) y q))
      by true = parent (same_path (parent_of p) q) refl
      by false = inl (ap (λ b. cond b (option_map (with_own t p now) (y q)) (y q)) d)

  -- or the same, where no child of it goes
  pub one-same : (q : Path) → same_path p q ≡ false → (goes p ≡ true → same_path (parent_of p) q ≡ false) → worked_one goes t now p y q ≡ y q
  one-same q d other = by (goes p) refl
    where
      by : (b : Bool) → goes p ≡ b → cond b (gone now p y q) (on_at p (with_own t p now) y q) ≡ y q
      by true e = gone-other now p y q d (other e)
      by false e = ap (λ b. cond b (option_map (with_own t p now) (y q)) (y q)) d

  -- what stays has its timestamps
  pub one-set : (q : Path) → p ≡ q → goes q ≡ false → worked_one goes t now p y q ≡ option_map (with_own t p now) (y q)
  one-set q is h =
      ap (λ b. cond b (gone now p y q) (on_at p (with_own t p now) y q)) (ap goes is ∙ h)
      ∙ ap (λ b. cond b (option_map (with_own t p now) (y q)) (y q)) (ap (λ (r : Path). same_path r q) is ∙ same_path-refl q)

  -- and is the same, timestamps aside
  pub one-object_state : (q : Path) → goes q ≡ false → option_map object_state (worked_one goes t now p y q) ≡ option_map object_state (y q)
  one-object_state q h = elim (same_or_not p q) [
    | inl e ↦ ap (option_map object_state) (one-set q e.0 h) ∙ by (y q)
    | inr d ↦ kept-object_state now (y q) (worked_one goes t now p y q) (one-other q d)
  ]
    where
      by : (o : Option Object) → option_map object_state (option_map (with_own t p now) o) ≡ option_map object_state o
      by None = refl
      by (Some o) = refl

-- ---- some paths

-- kept twice
kept_on : (now : ℕ) (a b c : Option Object) → IsKept now a b → IsKept now b c → IsKept now a c
kept_on now a b c h (inl e) = subst (IsKept now a) (sym e) h
kept_on now a b c h (inr e) = inr (e ∙ modified_kept now a b h)

-- what is done at some paths, the last of the list first
abbrev pub worked : (Path → Bool) → Files → ℕ → List Path → Places → Places
worked goes t now [] x = x
worked goes t now (p ∷ ps) x = worked_one goes t now p (worked goes t now ps x)

pub later : (p q : Path) (ps : List Path) → same_path p q ≡ false → 1 ≤ times q (p ∷ ps) → 1 ≤ times q ps
later p q ps d h = let rest : 1 ≤ 0 + times q ps = subst (λ c. 1 ≤ cond c 1 0 + times q ps) d h in omega (arith, rest)

module _ (goes : Path → Bool) (t : Files) (now : ℕ) where
  pub worked-append : (front back : List Path) (x : Places) → worked goes t now (front ++ back) x ≡ worked goes t now front (worked goes t now back x)
  worked-append [] back x = refl
  worked-append (p ∷ front) back x = ap (worked_one goes t now p) (worked-append front back x)

  module _ (x : Places) (q : Path) where
    pub worked-none : (ps : List Path) → x q ≡ None → worked goes t now ps x q ≡ None
    worked-none [] e = e
    worked-none (p ∷ ps) e = one-none goes t now p (worked goes t now ps x) q (worked-none ps e)

    pub worked-gone : (ps : List Path) → goes q ≡ true → 1 ≤ times q ps → worked goes t now ps x q ≡ None
    worked-gone [] h some = absurd (omega (arith, some))
    worked-gone (p ∷ ps) h some = elim (same_or_not p q) [
      | inl e ↦ one-gone goes t now p (worked goes t now ps x) q e.0 h
      | inr d ↦ one-none goes t now p (worked goes t now ps x) q (worked-gone ps h (later p q ps d some))
    ]

    pub worked-kept : (ps : List Path) → times q ps ≡ 0 → IsKept now (x q) (worked goes t now ps x q)
    worked-kept [] none = inl refl
    worked-kept (p ∷ ps) none =
        let first = not_first p q ps none in
        kept_on now (x q) (worked goes t now ps x q) (worked goes t now (p ∷ ps) x q) (worked-kept ps first.1) (one-other goes t now p (worked goes t now ps x) q first.0)

    pub worked-object_state : (ps : List Path) → goes q ≡ false → option_map object_state (worked goes t now ps x q) ≡ option_map object_state (x q)
    worked-object_state [] h = refl
    worked-object_state (p ∷ ps) h = one-object_state goes t now p (worked goes t now ps x) q h ∙ worked-object_state ps h

    pub worked-same : (ps : List Path) → times q ps ≡ 0 → ((r : Path) → 1 ≤ times r ps → goes r ≡ true → same_path (parent_of r) q ≡ false) → worked goes t now ps x q ≡ x q
    worked-same [] none other = refl
    worked-same (p ∷ ps) none other =
        let first = not_first p q ps none in
        one-same goes t now p (worked goes t now ps x) q first.0 (λ e. other p (let self = times-self p ps in omega (arith, self)) e)
        ∙ worked-same ps first.1 (λ r some e. other r (let more : times r ps ≤ times r (p ∷ ps) = omega arith in omega (arith, some, more)) e)

-- ---- what goes whole

module _ (goes : Path → Bool) (t : Files) (whole : (q : Path) → goes q ≡ goes_whole goes t q) where
  -- its children go
  pub goes_below : (path : Path) (name : List ℕ) → goes path ≡ true → is_some (places t (path ++ name ∷ [])) ≡ true → goes (path ++ name ∷ []) ≡ true
  goes_below path name h there =
      let parts = goes_parts goes t path (sym (whole path) ∙ h) in
      all_at-each goes t path parts.2 (path ++ name ∷ []) there (is_prefix-append path (name ∷ []))

  -- and the root does not
  pub no_root : goes [] ≡ false
  no_root = elim (cases_Bool (goes [])) [
    | inl h ↦ absurd (let parts = goes_parts goes t [] (sym (whole []) ∙ h) in let no : false ≡ true = parts.1 in cc)
    | inr h ↦ h
  ]

-- ---- the step at a path

module _ (goes : Path → Bool) (t : Files) (now : ℕ) where
  -- what it leaves
  step_works : (p : Path) (u v : Files) → v ≡ after u (clean_step goes t p) now → places v ≡ worked_one goes t now p (places u)
  step_works p u v = by (goes p)
    where
      by : (b : Bool) → v ≡ after u (cond b (removal_at t p) (giving_back t p)) now
          → ◌≡◌ {A = Places} (places v) (λ q. cond b (gone now p (places u) q) (on_at p (with_own t p now) (places u) q))
      by true is = after_removal now p t u v is
      by false is = ap places is ∙ at_after u (giving_back t p) now

  -- it is one of a clean phase
  step_clean : (p : Path) → is_some (places t p) ≡ true → is_task goes t p ≡ true → IsCleanStep goes t (clean_step goes t p)
  step_clean p there task = by (goes p) refl
    where
      removed : (directory : Bool) → goes p ≡ true → IsCleanStep goes t (removal directory p)
      removed true h = h
      removed false h = h

      stays : (g l : Bool) → g ≡ false → (g || l) ≡ true → (not g && l) ≡ true
      stays true l h k = absurd (let no : true ≡ false = h in cc)
      stays false l h k = k

      own : (o : Option Object) → is_some o ≡ true
          → option_map {U = ℕ × ℕ} (λ x. (x.node.stamps.access, x.node.stamps.modify)) o
          ≡ Some (option_map_or (λ x. x.node.stamps.access) o 0, option_map_or (λ x. x.node.stamps.modify) o 0)
      own None h = cc
      own (Some o) h = refl

      by : (b : Bool) → goes p ≡ b → IsCleanStep goes t (cond b (removal_at t p) (giving_back t p))
      by true h = removed _ h
      by false h = (stays (goes p) (loses_child goes t p) h task, own (places t p) there)

  -- what the steps at some paths leave
  pub steps_work : (ps : List Path) (u : Files) → u ≡ after_all t (reverse (map (clean_step goes t) ps)) now → places u ≡ worked goes t now ps (places t)
  steps_work [] u is = ap places is
  steps_work (p ∷ ps) u is =
      let steps = map (clean_step goes t) ps in
      let before = after_all t (reverse steps) now in
      let last : u ≡ after before (clean_step goes t p) now =
      is ∙ ap (λ ss. after_all t ss now) (reverse-first (clean_step goes t p) steps) ∙ after_all-append t (reverse steps) (clean_step goes t p ∷ []) now in
      step_works p before u last ∙ ap (worked_one goes t now p) (steps_work ps before refl)

  -- timestamps aside, nothing has changed but that paths that go may be gone
  worked_pruned : (ps : List Path) (u : Files) → places u ≡ worked goes t now ps (places t) → Pruned goes t u
  worked_pruned ps u is =
      let at : (q : Path) → places u q ≡ worked goes t now ps (places t) q = λ q. ap (λ (x : Places). x q) is in
      record {
        outside = λ q h. ap (option_map object_state) (at q) ∙ worked-object_state goes t now (places t) q ps h;
        within = λ q h. elim (zero_or_more (times q ps)) [
          | inl z ↦ inr (ap (option_map object_state) (at q) ∙ kept-object_state now (places t q) (worked goes t now ps (places t) q) (worked-kept goes t now (places t) q ps z))
          | inr m ↦ inl (at q ∙ worked-gone goes t now (places t) q ps h m)
        ];
      }

-- ---- the steps at paths may be asked for

-- paths at which the last steps of a clean phase are done: each goes or loses a child, and all that goes in one stands after it
pub record AreLast (goes : Path → Bool) (t : Files) (ps : List Path) : Type 0 where
  pub once : (q : Path) → times q ps ≤ cond (is_some (places t q) && is_task goes t q) 1 0
  pub order : GoAfter goes t ps

module _ (goes : Path → Bool) (t : Files) (now : ℕ) (whole : (q : Path) → goes q ≡ goes_whole goes t q) where
  -- at the first path when the others are done
  module _ (p : Path) (ps : List Path) (ok : AreLast goes t (p ∷ ps)) (u : Files) (is : places u ≡ worked goes t now ps (places t)) where
    first_counts : times p (p ∷ ps) ≡ 1 + times p ps
    first_counts = times-self p ps

    -- it is there, and goes or loses a child
    first_there : (is_some (places t p) ≡ true) × (is_task goes t p ≡ true)
    first_there = and_parts (is_some (places t p)) (is_task goes t p) (cond-true (is_some (places t p) && is_task goes t p) (omega (arith, ok.once p, first_counts)))

    first_kept : IsKept now (places t p) (places u p)
    first_kept =
        subst (IsKept now (places t p)) (sym (ap (λ (x : Places). x p) is))
        (worked-kept goes t now (places t) p ps (omega (arith, ok.once p, first_counts, cond-le (is_some (places t p) && is_task goes t p))))

    first_present : IsPresent u p
    first_present = kept-present now (places t p) (places u p) first_kept ∙ first_there.0

    -- where it goes, it has nothing in it, and is not the root
    first_empty : goes p ≡ true → IsEmptyIn (places u) p
    first_empty h name = ap (λ (x : Places). x (p ++ name ∷ [])) is ∙ elim (cases_Bool (is_some (places t (p ++ name ∷ [])))) [
      | inl there ↦
          let child = goes_below goes t whole p name h there in
          worked-gone goes t now (places t) (p ++ name ∷ []) ps child (ok.order.0 (p ++ name ∷ []) (is_child-push p name) there child)
      | inr d ↦ worked-none goes t now (places t) (p ++ name ∷ []) ps (none_of (places t (p ++ name ∷ [])) d)
    ]

    first_nonempty : goes p ≡ true → p ≢ []
    first_nonempty h root = true_not_false (goes []) (ap goes (sym root) ∙ h) (no_root goes t whole)

    first_asks : Asks (Pruned goes t) (IsCleanStep goes t) u (clean_step goes t p) now
    first_asks =
        let action_of = by (goes p) refl in
        record {
          start = worked_pruned goes t now ps u is;
          can = action_of.0;
          busy = action_of.1;
          there = λ v e. worked_pruned goes t now (p ∷ ps) v (step_works goes t now p u v e ∙ ap (worked_one goes t now p) is);
          gives = step_clean goes t now p first_there.0 first_there.1;
        }
      where
        by : (b : Bool) → goes p ≡ b → Can (places u) (cond b (removal_at t p) (giving_back t p)) × HasEffect u (cond b (removal_at t p) (giving_back t p)) now
        by true h =
            let removing = removal_asks now p t u (sym (kept-kind now (places t p) (places u p) first_kept)) first_present (first_empty h) (first_nonempty h) in
            (removing.can, removing.busy)
        by false h = (first_present, tt)

  -- so all of them may
  pub steps_ask : (ps : List Path) → AreLast goes t ps → AllAsk (Pruned goes t) (IsCleanStep goes t) t (reverse (map (clean_step goes t) ps)) now
  steps_ask [] ok = worked_pruned goes t now [] t refl
  steps_ask (p ∷ ps) ok =
      let steps = map (clean_step goes t) ps in
      let u = after_all t (reverse steps) now in
      ask_first (Pruned goes t) (IsCleanStep goes t) now t (clean_step goes t p) steps
      (steps_ask ps (record { once = λ q. let more = ok.once q in omega (arith, more); order = ok.order.1 }))
      (first_asks p ps ok u (steps_work goes t now ps u refl))

-- ---- all of a plan is done

pub order_back : (goes : Path → Bool) (t : Files) (xs ys : List Path) → GoAfter goes t (xs ++ ys) → GoAfter goes t ys
order_back goes t [] ys h = h
order_back goes t (x ∷ xs) ys h = order_back goes t xs ys h.1

-- where something of a filtered list is found, something passes
filter_any : {A : Type 0} (f : A → Bool) (g : A → Path) (xs : List A) (r : Path) → is_one_of (map g (filter f xs)) r ≡ true → list_any f xs ≡ true
filter_any f g [] r h = cc
filter_any f g (x ∷ xs) r h = by (f x) refl (filter_any f g xs r) h
  where
    by : (b : Bool) → f x ≡ b → (is_one_of (map g (filter f xs)) r ≡ true → list_any f xs ≡ true) → is_one_of (map g (cond b (x ∷ filter f xs) (filter f xs))) r ≡ true → (b || list_any f xs) ≡ true
    by true e rest k = refl
    by false e rest k = rest k

-- a directory loses a child that goes
pub child_lost : (goes : Path → Bool) (t : Files) (q r : Path) → r ≢ [] → parent_of r ≡ q → is_some (places t r) ≡ true → goes r ≡ true → (is_child q r ≡ true) × (loses_child goes t q ≡ true)
child_lost goes t q r nonempty over there h = elim (path_ends r) [
  | inl root ↦ absurd (nonempty root)
  | inr (above, name, e) ↦
      let same : above ≡ q = sym (parent_of-push above name) ∙ sym (ap parent_of e) ∙ over in
      let is : r ≡ q ++ name ∷ [] = e ∙ ap (λ (p : Path). p ++ name ∷ []) same in
      let found : is_one_of (map (λ n. q ++ n ∷ []) (filter (λ n. goes (q ++ n ∷ [])) (names_below t q))) (q ++ name ∷ []) ≡ true =
      children_pass t (λ n. goes (q ++ n ∷ [])) q (q ++ name ∷ [])
      ∙ ap (λ b. b && option_map_or (λ n. goes (q ++ n ∷ [])) (child_name q (q ++ name ∷ [])) false) (subst (λ (p : Path). is_some (places t p) ≡ true) is there)
      ∙ ap (λ (o : Option (List ℕ)). option_map_or (λ n. goes (q ++ n ∷ [])) o false) (child_name-push q name)
      ∙ subst (λ (p : Path). goes p ≡ true) is h in (
        subst (λ (p : Path). is_child q p ≡ true) (sym is) (is_child-push q name),
        filter_any (λ n. goes (q ++ n ∷ [])) (λ n. q ++ n ∷ []) (names_below t q) (q ++ name ∷ []) found,
      )
]

-- with its own timestamps, of an object only that of its change is new
pub own_again : (now : ℕ) (o new : Option Object) → is_some o ≡ true → IsKept now o new
    → option_map (with_stamps (option_map_or (λ x. x.node.stamps.access) o 0) (option_map_or (λ x. x.node.stamps.modify) o 0) now) new ≡ option_map (changed now) o
own_again now None new h k = cc
own_again now (Some o) new h (inl e) = ap (option_map (with_stamps o.node.stamps.access o.node.stamps.modify now)) e
own_again now (Some o) new h (inr e) = ap (option_map (with_stamps o.node.stamps.access o.node.stamps.modify now)) e

module _ (goes : Path → Bool) (t : Files) (now : ℕ) (steps : List Step) (plan : ArePlanned goes t steps) (whole : (q : Path) → goes q ≡ goes_whole goes t q) where
  planned_once : (q : Path) → times q plan.paths ≤ cond (is_some (places t q) && is_task goes t q) 1 0
  planned_once q = let once = plan.once q in omega (arith, once)

  -- its steps may be asked for one after the other
  pub planned_ask : AllAsk (Pruned goes t) (IsCleanStep goes t) t (reverse steps) now
  planned_ask =
      subst (λ ss. AllAsk (Pruned goes t) (IsCleanStep goes t) t (reverse ss) now) (sym plan.are)
      (steps_ask goes t now whole plan.paths (record { once = planned_once; order = plan.order }))

  -- what stands in a plan is there, and goes or loses a child
  planned_there : (q : Path) → 1 ≤ times q plan.paths → (is_some (places t q) ≡ true) × (is_task goes t q ≡ true)
  planned_there q some = and_parts (is_some (places t q)) (is_task goes t q) (cond-true (is_some (places t q) && is_task goes t q) (let e = plan.once q in omega (arith, e, some)))

  -- what goes is not the root
  going_below : (r : Path) → goes r ≡ true → r ≢ []
  going_below r h root = true_not_false (goes []) (ap goes (sym root) ∙ h) (no_root goes t whole)

  -- a directory that stays and loses a child
  at_loser : (q : Path) → goes q ≡ false → is_some (places t q) ≡ true → 1 ≤ times q plan.paths → worked goes t now plan.paths (places t) q ≡ option_map (changed now) (places t q)
  at_loser q stays there some =
      let split = taken_out q plan.paths some in
      let front = split.0 in
      let back = split.1 in
      let parts : (r : Path) → times r plan.paths ≡ times r front + times r (q ∷ back) = λ r. ap (times r) split.2 ∙ times-append r front (q ∷ back) in
      let most : (r : Path) → times r plan.paths ≤ 1 = λ r. let once = planned_once r in omega (arith, once, cond-le (is_some (places t r) && is_task goes t r)) in
      let self = times-self q back in
      let here = parts q in
      let one = most q in
      let behind = order_back goes t front (q ∷ back) (subst (GoAfter goes t) split.2 plan.order) in
      let other : (r : Path) → 1 ≤ times r front → goes r ≡ true → same_path (parent_of r) q ≡ false = λ r before h. no_same (parent_of r) q (λ over.
      let part = parts r in
      let present = (planned_there r (omega (arith, part, before))).0 in
      let child = child_lost goes t q r (going_below r h) over present h in
      let after_it = behind.0 r child.0 present h in
      let more : times r back ≤ times r (q ∷ back) = omega arith in
      let twice = most r in
      omega (arith, part, before, after_it, more, twice)) in
      ap (λ (ps : List Path). worked goes t now ps (places t) q) split.2
      ∙ ap (λ (x : Places). x q) (worked-append goes t now front (q ∷ back) (places t))
      ∙ worked-same goes t now (worked goes t now (q ∷ back) (places t)) q front (omega (arith, here, self, one)) other
      ∙ one-set goes t now q (worked goes t now back (places t)) q refl stays
      ∙ own_again now (places t q) (worked goes t now back (places t) q) there (worked-kept goes t now (places t) q back (omega (arith, here, self, one)))

  -- the object at each path
  worked_at : (q : Path) → worked goes t now plan.paths (places t) q ≡ cond (goes q) None (cond (loses_child goes t q) (option_map (changed now) (places t q)) (places t q))
  worked_at q = by (is_some (places t q)) (goes q) (loses_child goes t q) refl refl refl
    where
      counted : (i g l : Bool) → is_some (places t q) ≡ i → goes q ≡ g → loses_child goes t q ≡ l → times q plan.paths ≡ cond (i && (g || l)) 1 0
      counted i g l a b c =
          plan.once q
          ∙ ap (λ x. cond {A = ℕ} (x && (goes q || loses_child goes t q)) 1 0) a
          ∙ ap (λ x. cond {A = ℕ} (i && (x || loses_child goes t q)) 1 0) b
          ∙ ap (λ x. cond {A = ℕ} (i && (g || x)) 1 0) c

      absent : (l : Bool) → places t q ≡ None → None ≡ cond l (option_map (changed now) (places t q)) (places t q)
      absent true e = sym (ap (option_map (changed now)) e)
      absent false e = sym e

      by : (i g l : Bool) → is_some (places t q) ≡ i → goes q ≡ g → loses_child goes t q ≡ l
          → worked goes t now plan.paths (places t) q ≡ cond g None (cond l (option_map (changed now) (places t q)) (places t q))
      by false true l a b c = worked-none goes t now (places t) q plan.paths (none_of (places t q) a)
      by false false l a b c = worked-none goes t now (places t) q plan.paths (none_of (places t q) a) ∙ absent l (none_of (places t q) a)
      by true true l a b c = worked-gone goes t now (places t) q plan.paths b (let e = counted true true l a b c in omega (arith, e))
      by true false true a b c = at_loser q b a (let e = counted true false true a b c in omega (arith, e))
      by true false false a b c = worked-same goes t now (places t) q plan.paths (counted true false false a b c) (λ r some h. no_same (parent_of r) q (λ over.
          true_not_false (loses_child goes t q) (child_lost goes t q r (going_below r h) over (planned_there r some).0 h).1 c))

  -- the tree after the clean phase
  pub planned_end : (u : Files) → u ≡ after_all t (reverse steps) now → u ≡ files_without goes (changed now) t
  planned_end u e = same_files u (files_without goes (changed now) t) (λ q.
      ap (λ (x : Places). x q) (steps_work goes t now plan.paths u (e ∙ ap (λ ss. after_all t (reverse ss) now) plan.are))
      ∙ worked_at q
      ∙ sym (places-without goes (changed now) t q))

-- ---- a plan is made

module _ (goes : Path → Bool) (t : Files) where
  -- its steps are as many as are needed
  pub planned_exact : (steps : List Step) → ArePlanned goes t steps → length steps ≡ most_steps goes t
  planned_exact steps plan =
      let all = filter goes (fin.keys t) ++ filter (stays_and_loses goes t) (fin.keys t) in
      let few = length-times plan.paths all (λ q. let e = one q in omega (arith, e)) in
      let none = length-times all plan.paths (λ q. let e = one q in omega (arith, e)) in
      let many = length-append (filter goes (fin.keys t)) (filter (stays_and_loses goes t) (fin.keys t)) in
      let each = ap length plan.are ∙ length-map plan.paths (clean_step goes t) in
      omega (arith, few, none, many, each)
    where
      by : (i g l : Bool) → ◌≡◌ {A = ℕ} (cond (i && (g || l)) 1 0) (cond g (cond i 1 0) 0 + cond (not g && l) (cond i 1 0) 0)
      by true true l = refl
      by true false true = refl
      by true false false = refl
      by false true l = refl
      by false false true = refl
      by false false false = refl

      some : (f : Path → Bool) (q : Path) → times q (filter f (fin.keys t)) ≡ cond (f q) (cond (is_some (places t q)) 1 0) 0
      some f q = times-filter f q (fin.keys t) ∙ ap (λ (n : ℕ). cond (f q) n 0) (times-keys t q)

      one : (q : Path) → times q plan.paths ≡ times q (filter goes (fin.keys t) ++ filter (stays_and_loses goes t) (fin.keys t))
      one q =
          plan.once q ∙ by (is_some (places t q)) (goes q) (loses_child goes t q)
          ∙ sym (ap (λ (n : ℕ). n + cond (stays_and_loses goes t q) (cond (is_some (places t q)) 1 0) 0) (some goes q))
          ∙ sym (ap (λ (n : ℕ). times q (filter goes (fin.keys t)) + n) (some (stays_and_loses goes t) q))
          ∙ sym (times-append q (filter goes (fin.keys t)) (filter (stays_and_loses goes t) (fin.keys t)))

  -- what is left of a listing is in its order
  kept_order : (ps : List Path) → ParentsFirst t [] ps → GoAfter goes t (filter (is_task goes t) ps)
  kept_order [] h = tt
  kept_order (p ∷ ps) h = by (is_task goes t p) (kept_order ps h.1)
    where
      first : (q : Path) → is_child p q ≡ true → IsPresent t q → goes q ≡ true → 1 ≤ times q (filter (is_task goes t) ps)
      first q child there e =
          let listed = h.0 q child there in
          let kept = times-filter (is_task goes t) q ps ∙ ap (λ b. cond (b || loses_child goes t q) (times q ps) 0) e in
          omega (arith, listed, kept)

      by : (b : Bool) → GoAfter goes t (filter (is_task goes t) ps) → GoAfter goes t (cond b (p ∷ filter (is_task goes t) ps) (filter (is_task goes t) ps))
      by true rest = (first, rest)
      by false rest = rest

  -- the steps at a list of all that stands in the tree
  pub planned_from : (all : List Path) (steps : List Step) → IsWhole t all → AreFalling all → steps ≡ map (clean_step goes t) (filter (is_task goes t) all) → ArePlanned goes t steps
  planned_from all steps w falling are = record {
    paths = filter (is_task goes t) all;
    are = are;
    once = λ q. times-filter (is_task goes t) q all ∙ ap (λ (n : ℕ). cond (is_task goes t q) n 0) (w.once q) ∙ by (is_some (places t q)) (is_task goes t q);
    gathered = gathered_filter (is_task goes t) all w.gathered;
    order = kept_order all w.order;
    in_post_order = sorted-reverse (λ p q. post_cmp q p) (filter (is_task goes t) all) (IsStrictlySortedBy-filter (λ p q. post_cmp q p) (is_task goes t) all falling);
  }
    where
      by : (i f : Bool) → ◌≡◌ {A = ℕ} (cond f (cond i 1 0) 0) (cond (i && f) 1 0)
      by true true = refl
      by true false = refl
      by false true = refl
      by false false = refl
