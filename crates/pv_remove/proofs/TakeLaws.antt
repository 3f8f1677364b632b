-- Laws of paths taken away whole: what that leaves, and how many steps it takes.
use Rattle.std.specs.Prelude.{◌≡◌, ℕ, ◌≤◌, Bool, true, false, cond, List, length, filter, map, reverse, Result, Ok, Err, IsErrAnd}
use Rattle.std.proofs.Common.{refl, sym, ap, subst, ◌∙◌, arith}
use Rattle.std.proofs.lemmas.List.{append-nil}
use Rattle.std.proofs.lemmas.List.Sorted.{IsPermutation-reverse, IsPermutation-sym, list_any-IsPermutation}
use Rattle.std.specs.List.Sorted.{IsStrictlySortedBy, IsNonDecreasingBy}
use Rattle.std.specs.FinMap as fin
use Rattle.pv_steps.specs.declared.carried.Carried.{Carried}
use Rattle.pv_path.specs.Paths.{Path, path_cmp, same_path}
use Rattle.pv_steps.specs.declared.step.Step.{Step}
use Rattle.pv_steps.specs.declared.tree.Tree.{Ghosts}
use Rattle.pv_steps.specs.declared.tree.TreeFault.{TreeFault}
use Rattle.pv_steps.specs.declared.tree.TreeFault.TheVariants.{Failed, Memory}
use Rattle.pv_steps.specs.Acting.{Acted}
use Rattle.pv_steps.specs.Content.{Removes}
use Rattle.pv_steps.specs.Objects.{modified}
use Rattle.pv_steps.specs.Trees.{Files, places}
use Rattle.pv_steps.proofs.ActingLaws.{Moves, well, acted_none, acted_passed, acted_ended}
use Rattle.pv_steps.proofs.StepLaws.{same_files}
use Rattle.pv_walk.specs.Edits.{Pruned}
use Rattle.pv_walk.specs.Listing.{times, AreRemovable}
use Rattle.pv_walk.specs.Removal.{is_one_of, removal_at, without, DonePart}
use Rattle.pv_walk.proofs.CountLaws.{length-times, times-filter, times-keys}
use Rattle.pv_walk.proofs.TakingLaws.{one_of-some, one_of-counted}
use Rattle.pv_walk.specs.Whole.{count_of, goes_whole, AreDeepestFirst}
use Rattle.pv_walk.proofs.WholeLaws.{goes_parts, times-rising, whole_removable}
use Rattle.pv_table.specs.Removed.{files_without}
use Rattle.pv_text.specs.GivenMessages.{MessagesPart}
use Rattle.pv_remove.specs.Ended.{TakesAway, TakesInOrder}
use Rattle.pv_table.proofs.GoingLaws.{places-without}
use Rattle.pv_path.proofs.Tests.{same_tests}
use Rattle.pv_walk.proofs.SweepLaws.{pruned-none}

-- ---- a phase that takes away

-- without memory for a plan nothing is taken away and nothing said
pub takes_nothing : {S : Type 0} (tree : Ghosts S) → Moves tree → (goes : Path → Bool) (texts : List (List ℕ)) (unfinished : Bool) (now : ℕ) (a : S) (before : List (List ℕ)) (r : Result Carried TreeFault)
    → IsErrAnd r (λ e. e ≡ Memory) → TakesAway tree goes texts unfinished now a a before before r
takes_nothing tree moves goes texts unfinished now a before (Ok c) h = absurd h
takes_nothing tree moves goes texts unfinished now a before (Err Failed) h = cc
takes_nothing tree moves goes texts unfinished now a before (Err Memory) h = record {
  ok = tt;
  new_messages = tt;
  carried = tt;
  part = (0, sym (append-nil before));
  silent = λ failed. refl;
  exact = tt;
  acted = acted_none tree moves (Pruned goes (tree.state a)) (Removes goes) (count_of goes (tree.state a)) now a (Err Memory) refl (pruned-none goes (tree.state a));
  order = TakesInOrder.nothing refl;
}

-- a fault in taking away is passed on, and nothing is said
pub takes_failed : {S : Type 0} (tree : Ghosts S) {goes : Path → Bool} (texts : List (List ℕ)) (unfinished : Bool) {now : ℕ} {a b : S} (before : List (List ℕ)) {e : TreeFault} (q : Result (Unit {0}) TreeFault) (r : Result Carried TreeFault)
    → q ≡ Err e → IsErrAnd r (λ y. y ≡ e) → Acted tree (Pruned goes (tree.state a)) (Removes goes) (count_of goes (tree.state a)) now a b q
    → TakesInOrder goes (tree.state a) (tree.steps a) (tree.steps b) → TakesAway tree goes texts unfinished now a b before before r
takes_failed tree texts unfinished before q (Ok c) was h acted order = absurd h
takes_failed tree texts unfinished before q (Err f) was h acted order = record {
  ok = tt;
  new_messages = tt;
  carried = tt;
  part = (0, sym (append-nil before));
  silent = λ failed. refl;
  exact = tt;
  acted = acted_passed tree q (Err f) was h acted;
  order = order;
}

-- where it is whole, but memory to say a text is wanting, a part is said
pub takes_messages_kept : {S : Type 0} (tree : Ghosts S) {goes : Path → Bool} {texts : List (List ℕ)} (unfinished : Bool) {now : ℕ} {a b : S} {before behind : List (List ℕ)} (r : Result Carried TreeFault)
    → IsErrAnd r (λ y. y ≡ Memory) → MessagesPart texts before behind → Acted tree (Pruned goes (tree.state a)) (Removes goes) (count_of goes (tree.state a)) now a b well
    → TakesInOrder goes (tree.state a) (tree.steps a) (tree.steps b) → TakesAway tree goes texts unfinished now a b before behind r
takes_messages_kept tree unfinished (Ok c) h part acted order = absurd h
takes_messages_kept tree unfinished (Err Failed) h part acted order = cc
takes_messages_kept tree unfinished (Err Memory) h part acted order = record {
  ok = tt;
  new_messages = tt;
  carried = tt;
  part = part;
  silent = λ failed. (let no : ◌≡◌ {A = Result Carried TreeFault} (Err Memory) (Err Failed) = failed in cc);
  exact = tt;
  acted = acted_ended tree (Err Memory) refl acted;
  order = order;
}

-- what is taken away and said is known by any name
pub takes-same : {S : Type 0} (tree : Ghosts S) {f h : Path → Bool} {texts more : List (List ℕ)} {a b : Bool} {now : ℕ} {old new : S} {before behind : List (List ℕ)} {r : Result Carried TreeFault}
    → f ≡ h → texts ≡ more → a ≡ b → TakesAway tree f texts a now old new before behind r → TakesAway tree h more b now old new before behind r
takes-same tree {f = f} {h = h} {texts = texts} {more = more} {a = a} {b = b} {now = now} {old = old} {new = new} {before = before} {behind = behind} {r = r} goes new_messages ends took =
    subst (λ (x : Bool). TakesAway tree h more x now old new before behind r) ends
    (subst (λ (x : List (List ℕ)). TakesAway tree h x a now old new before behind r) new_messages
    (subst (λ (x : Path → Bool). TakesAway tree x texts a now old new before behind r) goes took))

-- ---- paths that go whole

module _ (t : Files) (keys ordered : List Path) (moved : (q : Path) → times q ordered ≡ times q keys) where
  -- the paths are the same in another order
  pub same_paths : is_one_of ordered ≡ is_one_of keys
  same_paths = λ i q. one q i
    where
      one : (q : Path) → is_one_of ordered q ≡ is_one_of keys q
      one q = same_tests (is_one_of ordered q) (is_one_of keys q)
          (λ h. one_of-counted keys q (let some = one_of-some ordered q h in omega (arith, some, moved q)))
          (λ h. one_of-counted ordered q (let some = one_of-some keys q h in omega (arith, some, moved q)))

  -- and taken away from the last on they are the removals in order
  pub in_order : AreDeepestFirst (reverse ordered) → {before behind : List Step} → DonePart (map (removal_at t) (reverse ordered)) before behind → TakesInOrder (is_one_of keys) t before behind
  in_order deep done = TakesInOrder.first (reverse ordered) (λ q. list_any-IsPermutation (λ p. same_path p q) (reverse ordered) ordered (IsPermutation-sym ordered (reverse ordered) (IsPermutation-reverse ordered)) ∙ (λ i. same_paths i q)) deep done

  -- what is left without them
  pub left_without : (now : ℕ) (u : Files) → places u ≡ without (is_one_of ordered) (modified now) t → u ≡ files_without (is_one_of keys) (modified now) t
  left_without now u is = same_files u (files_without (is_one_of keys) (modified now) t) (λ q.
      (λ i. is i q) ∙ (λ i. without (same_paths i) (modified now) t q) ∙ sym (places-without (is_one_of keys) (modified now) t q))

  module _ (rises : IsStrictlySortedBy path_cmp keys) (whole : (q : Path) → is_one_of keys q ≡ goes_whole (is_one_of keys) t q) where
    pub removable : IsNonDecreasingBy (λ (p : Path). length p) ordered → AreRemovable t ordered
    removable deep = whole_removable (is_one_of keys) t keys ordered rises whole moved deep

    -- they are as many as they are
    pub as_many : length ordered ≤ count_of (is_one_of keys) t
    as_many = length-times ordered (filter (is_one_of keys) (fin.keys t)) (λ q. by q (is_one_of keys q) refl)
      where
        by : (q : Path) (b : Bool) → is_one_of keys q ≡ b → times q ordered ≤ times q (filter (is_one_of keys) (fin.keys t))
        by q true e =
            let there = (goes_parts (is_one_of keys) t q (sym (whole q) ∙ e)).0 in
            let one : times q keys ≡ 1 = times-rising keys q rises ∙ ap (λ b. cond {A = ℕ} b 1 0) e in
            let all : times q (filter (is_one_of keys) (fin.keys t)) ≡ 1 =
            times-filter (is_one_of keys) q (fin.keys t) ∙ ap (λ b. cond b (times q (fin.keys t)) 0) e ∙ times-keys t q ∙ ap (λ b. cond {A = ℕ} b 1 0) there in
            omega (arith, moved q, one, all)
        by q false e =
            let none : times q keys ≡ 0 = times-rising keys q rises ∙ ap (λ b. cond {A = ℕ} b 1 0) e in
            omega (arith, moved q, none)
