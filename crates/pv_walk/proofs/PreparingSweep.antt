-- Laws of what an earlier run has staged along a path, once it is taken away, and of a path that is not refused.
use Rattle.std.specs.Prelude.{◌≡◌, ◌≢◌, ℕ, ◌+◌, ◌-◌, ◌≤◌, ◌<◌, Bool, true, false, cond, ◌||◌, nat_lt, List, [], ◌∷◌, ◌++◌, map, length, take, filter, get_or, Option, Some, None, is_some, is_none, option_map, Result, Ok}
use Rattle.std.proofs.Common.{zero, suc, refl, sym, ap, subst, ◌∙◌, arith, inl, inr, ◌⊎◌}
use Rattle.std.proofs.lemmas.Bool.Decides.{nat_tests}
use Rattle.std.proofs.Math.Seq.{take-append_seam}
use Rattle.std.proofs.lemmas.List.{length-take}
use Rattle.std.specs.List.{list_any, range_with_len}
use Rattle.std.specs.Option.{option_or}
use Rattle.pv_path.specs.Paths.{Path, same_path, is_prefix, parent_of, has_staging, staging_of}
use Rattle.pv_path.proofs.PathLaws.{is_prefix-refl, prefix_parts, length-prefix, length-parent_of, parent_of-staging_of, prefix_whole, has_staging-extends, has_staging-staging_of, has_staging-take}
use Rattle.pv_steps.specs.declared.node.Kind.{Kind}
use Rattle.pv_steps.specs.declared.node.Kind.TheVariants.{Directory, File, Link, Fifo, CharDevice, BlockDevice}
use Rattle.pv_steps.specs.declared.object.Object.{Object}
use Rattle.pv_steps.specs.declared.why.Why.{Why}
use Rattle.pv_steps.specs.Objects.{object_state, modified}
use Rattle.pv_steps.specs.Trees.{Files, Places, places, kind_of, IsPresent, IsAbsentIn}
use Rattle.pv_steps.specs.Steps.{touched}
use Rattle.pv_steps.specs.Refusal.{why_unsafe, why_refused, first_refused, refusal}
use Rattle.pv_steps.specs.Same.{object_states}
use Rattle.pv_steps.specs.declared.step.Step.{Step}
use Rattle.pv_steps.specs.declared.tree.Tree.{Ghosts}
use Rattle.pv_steps.specs.declared.tree.TreeFault.{TreeFault}
use Rattle.pv_steps.specs.Acting.{Acted}
use Rattle.pv_steps.proofs.ActingLaws.{Moves, acted_then, acted_weaken, acted_end}
use Rattle.pv_walk.specs.Edits.{Pruned, cut, taken, all_taken}
use Rattle.pv_walk.proofs.EditLaws.{staging_outside}
use Rattle.pv_steps.specs.Content.{Removes}
use Rattle.pv_walk.specs.Staging.{staging_names, is_under_any}
use Rattle.pv_walk.proofs.RemovalLaws.{zero_or_more, no_same}
use Rattle.pv_walk.proofs.SweepLaws.{length-staging_names, staging_name-at}
use Rattle.pv_walk.specs.Preparing.{IsAbove, CanPass, IsSwept, IsPreparing, kept, Preparing, parent_count, IsPrepareStep, sweeps, puts}
use Rattle.pv_walk.proofs.PreparingLaws.{nonempty_take}
use Rattle.pv_path.proofs.Tests.{none_of}
use Rattle.pv_steps.proofs.ObjectLaws.{kind_of-same, is_some-same, none_from_object_state}

-- ---- subtrees taken away

module _ (now : ℕ) where
  none_twice : (b : Bool) → ◌≡◌ {A = Option Object} (cond {A = Option Object} b None None) None
  none_twice true = refl
  none_twice false = refl

  touched-none : (x : Path) (y : Places) (q : Path) → IsAbsentIn y q → IsAbsentIn (touched now x y) q
  touched-none x y q e = ap (λ v. cond (same_path (parent_of x) q) (option_map (modified now) v) v) e ∙ none_twice (same_path (parent_of x) q)

  -- what is absent stays so
  taken-none : (x : Path) (t : Places) (q : Path) → IsAbsentIn t q → IsAbsentIn (taken now x t) q
  taken-none x t q h =
      elim (is_some (t x)) as (λ b. cond b (touched now x (cut x t)) t q ≡ None) [
        | true ↦ touched-none x (cut x t) q (ap (cond (is_prefix x q) None) h ∙ none_twice (is_prefix x q))
        | false ↦ h
      ]

  -- what was taken is absent
  taken-here : (x : Path) (t : Places) → IsAbsentIn (taken now x t) x
  taken-here x t =
      elim (is_some (t x)) as (λ b. is_some (t x) ≡ b → cond b (touched now x (cut x t)) t x ≡ None) [
        | true ↦ λ e. touched-none x (cut x t) x (ap (λ b. cond b None (t x)) (is_prefix-refl x))
        | false ↦ λ e. none_of (t x) e
      ] refl

  -- what lies elsewhere, and is not its directory, is as it was
  taken-same : (x : Path) (t : Places) (q : Path) → is_prefix x q ≡ false → same_path (parent_of x) q ≡ false → taken now x t q ≡ t q
  taken-same x t q h d =
      elim (is_some (t x)) as (λ b. cond b (touched now x (cut x t)) t q ≡ t q) [
        | true ↦ ap (λ b. cond b (option_map (modified now) (cut x t q)) (cut x t q)) d ∙ ap (λ b. cond b None (t q)) h
        | false ↦ refl
      ]

  all_taken-none : (ps : List Path) (t : Places) (q : Path) → IsAbsentIn t q → IsAbsentIn (all_taken now ps t) q
  all_taken-none [] t q h = h
  all_taken-none (x ∷ ps) t q h = all_taken-none ps (taken now x t) q (taken-none x t q h)

  all_taken-gone : (ps : List Path) (t : Places) (i : ℕ) → i < length ps → IsAbsentIn (all_taken now ps t) (get_or ps i [])
  all_taken-gone [] t i lt = absurd (omega arith)
  all_taken-gone (x ∷ ps) t zero lt = all_taken-none ps (taken now x t) x (taken-here x t)
  all_taken-gone (x ∷ ps) t (suc i) lt = all_taken-gone ps (taken now x t) i (omega arith)

  module _ (path : Path) (plain : has_staging path ≡ false) where
    same_along : (k n : ℕ) → 1 ≤ k → k + n ≤ length path + 1 → (t : Places) → all_taken now (map staging_of (map (λ j. take j path) (range_with_len k n))) t path ≡ t path
    same_along k zero some le t = refl
    same_along k (suc n) some le t =
        same_along (k + 1) n (omega arith) (omega arith) (taken now (staging_of (take k path)) t)
        ∙ taken-same (staging_of (take k path)) t path
        (staging_outside (staging_of (take k path)) (has_staging-staging_of (take k path) (nonempty_take k path some (omega arith))) path plain)
        (no_same (parent_of (staging_of (take k path))) path (λ e.
        (let l = ap length e in
        let up : length (parent_of (staging_of (take k path))) ≡ length (take k path) - 1 = ap length (parent_of-staging_of (take k path)) ∙ length-parent_of (take k path) in
        omega (arith, l, up, length-take k path))))

    -- the path itself is as it was
    pub swept_here : (t u : Files) → places u ≡ all_taken now (staging_names path) (places t) → places u path ≡ places t path
    swept_here t u is = ap (λ (x : Places). x path) is ∙ same_along 1 (length path) (omega arith) (omega arith) (places t)

  -- nothing stands at the staging names along it
  pub swept_along : (path : Path) (t u : Files) → places u ≡ all_taken now (staging_names path) (places t) → IsSwept path u
  swept_along path t u is = λ place some high. by place some (prefix_parts place path high) (length-prefix place path high)
    where
      first : (place rest : Path) → path ≡ place ++ rest → take (length place) path ≡ place
      first place rest e = ap (take (length place)) e ∙ take-append_seam place rest

      by : (place : Path) → place ≢ [] → (rest : Path) × (path ≡ place ++ rest) → length place ≤ length path → IsAbsentIn (places u) (staging_of place)
      by [] some parts le = absurd (some refl)
      by (n ∷ place) some parts le =
          let name : get_or (staging_names path) (length place) [] ≡ staging_of (take (length place + 1) path) = staging_name-at path (length place) [] (omega arith) in
          let count : length place + 1 ≡ length (n ∷ place) = omega arith in
          let at : get_or (staging_names path) (length place) [] ≡ staging_of (n ∷ place) = name ∙ ap (λ m. staging_of (take m path)) count ∙ ap staging_of (first (n ∷ place) parts.0 parts.1) in
          ap (λ (x : Places). x (staging_of (n ∷ place))) is
          ∙ subst (λ (p : Path). all_taken now (staging_names path) (places t) p ≡ None) at (all_taken-gone (staging_names path) (places t) (length place) (omega (arith, length-staging_names path)))

-- ---- timestamps aside, all without a staging name is as it was

module _ (path q : Path) (plain : has_staging q ≡ false) where
  none_along : (k n : ℕ) → 1 ≤ k → k + n ≤ length path + 1 → list_any (λ p. is_prefix p q) (map staging_of (map (λ j. take j path) (range_with_len k n))) ≡ false
  none_along k zero some le = refl
  none_along k (suc n) some le =
      ap (λ b. b || list_any (λ p. is_prefix p q) (map staging_of (map (λ j. take j path) (range_with_len (k + 1) n))))
      (staging_outside (staging_of (take k path)) (has_staging-staging_of (take k path) (nonempty_take k path some (omega arith))) q plain)
      ∙ none_along (k + 1) n (omega arith) (omega arith)

  pub plain_outside : is_under_any (staging_names path) q ≡ false
  plain_outside = none_along 1 (length path) (omega arith) (omega arith)

abbrev pub IsPlainSame : Files → Files → Type 0
IsPlainSame t u = (q : Path) → has_staging q ≡ false → object_states (places u) q ≡ object_states (places t) q

pub pruned_same : (path : Path) (t u : Files) → Pruned (is_under_any (staging_names path)) t u → IsPlainSame t u
pruned_same path t u p = λ q plain. p.outside q (plain_outside path q plain)

same_none : (a b : Option Object) → option_map object_state a ≡ option_map object_state b → is_none a ≡ is_none b
same_none a b e = sym (object_state_none a) ∙ ap is_none e ∙ object_state_none b
  where
    object_state_none : (o : Option Object) → is_none (option_map object_state o) ≡ is_none o
    object_state_none None = refl
    object_state_none (Some x) = refl

-- ---- as many parents are absent

module _ (f g : Path → Bool) (up : Path) (same : (j : ℕ) → f (take j up) ≡ g (take j up)) where
  counts_along : (k n : ℕ) → length (filter f (map (λ j. take j up) (range_with_len k n))) ≡ length (filter g (map (λ j. take j up) (range_with_len k n)))
  counts_along k zero = refl
  counts_along k (suc n) =
      let a = filter f (map (λ j. take j up) (range_with_len (k + 1) n)) in
      let b = filter g (map (λ j. take j up) (range_with_len (k + 1) n)) in
      let rest : length a ≡ length b = counts_along (k + 1) n in
      ap (λ c. length (cond c (take k up ∷ a) a)) (same k)
      ∙ elim (g (take k up)) as (λ c. length (cond c (take k up ∷ a) a) ≡ length (cond c (take k up ∷ b) b)) [ true ↦ ap suc rest | false ↦ rest ]

pub same_parent_count : (path : Path) → has_staging path ≡ false → (t u : Files) → IsPlainSame t u → parent_count path u ≡ parent_count path t
same_parent_count path plain t u same =
    counts_along (λ place. is_none (places u place)) (λ place. is_none (places t place)) (parent_of path)
    (λ j. same_none (places u (take j (parent_of path))) (places t (take j (parent_of path)))
    (same (take j (parent_of path)) (has_staging-take j (parent_of path) (has_staging-take (length path - 1) path plain))))
    1 (length (parent_of path))

-- ---- a path that is not refused

none_refused : (f : ℕ → Option Why) (k n : ℕ) → first_refused f (range_with_len k n) ≡ None → (j : ℕ) → k ≤ j → j < k + n → f j ≡ None
none_refused f k zero h j a b = absurd (omega arith)
none_refused f k (suc n) h j a b = by (λ e le. none_refused f (k + 1) n e j le (omega arith)) (f k) refl h (zero_or_more (j - k))
  where
    by : (first_refused f (range_with_len (k + 1) n) ≡ None → k + 1 ≤ j → f j ≡ None) → (o : Option Why) → f k ≡ o
        → option_or (option_map (λ reason. (k, reason)) o) (first_refused f (range_with_len (k + 1) n)) ≡ None → (j - k ≡ 0) ⊎ (1 ≤ j - k) → f j ≡ None
    by later (Some why) e g c = absurd (let no : Some (k, why) ≡ None = g in cc)
    by later None e g (inl z) = let same : j ≡ k = omega arith in ap f same ∙ e
    by later None e g (inr m) = later g (omega arith)

first_none : (a b : Option Why) → option_or a b ≡ None → a ≡ None
first_none None b e = refl
first_none (Some x) b e = let no : Some x ≡ None = e in cc

passed : (o : Option Object) → why_unsafe (kind_of o) ≡ None → is_some o ≡ true → kind_of o ≡ Some Directory
passed None e h = let no : false ≡ true = h in cc
passed (Some x) e h = ap Some (by x.node.kind e)
  where
    by : (kind : Kind) → why_unsafe (Some kind) ≡ None → kind ≡ Directory
    by Directory e = refl
    by File e = cc
    by Link e = cc
    by Fifo e = cc
    by CharDevice e = cc
    by BlockDevice e = cc

-- each present place above it is a directory
pub unrefused_pass : (path : Path) (last : ℕ) (t : Files) → refusal (places t) path last ≡ None → CanPass path t
unrefused_pass path last t h = λ place high there. by place (prefix_parts place path high.0) high there
  where
    at : (k : ℕ) → k < length path → why_unsafe (kind_of (places t (take k path))) ≡ None
    at k lt =
        let none : why_refused (places t) path last k ≡ None = none_refused (why_refused (places t) path last) 0 (length path + 1) h k (omega arith) (omega arith) in
        let first = first_none (cond (nat_lt k (length path)) (why_unsafe (kind_of (places t (take k path)))) None) _ none in
        let test : nat_lt k (length path) ≡ true = grind (arith, nat_tests) in
        sym (ap (λ b. cond b (why_unsafe (kind_of (places t (take k path)))) None) test) ∙ first

    by : (place : Path) → (rest : Path) × (path ≡ place ++ rest) → IsAbove place path → IsPresent t place → kind_of (places t place) ≡ Some Directory
    by place parts high there =
        let first : take (length place) path ≡ place = ap (take (length place)) parts.1 ∙ take-append_seam place parts.0 in
        passed (places t place) (ap (λ (p : Path). why_unsafe (kind_of (places t p))) (sym first) ∙ at (length place) (shorter place high)) there
      where
        shorter : (place : Path) → IsAbove place path → length place < length path
        shorter place high = by_length (length path - length place) refl
          where
            by_length : (m : ℕ) → length path - length place ≡ m → length place < length path
            by_length zero e = absurd (high.1 (prefix_whole place path high.0 (omega (arith, e))))
            by_length (suc m) e = omega (arith, e)

-- above a path without a staging name lies none
above_plain : (path place : Path) → has_staging path ≡ false → is_prefix place path ≡ true → has_staging place ≡ false
above_plain path place plain high = by (has_staging place) refl
  where
    by : (b : Bool) → has_staging place ≡ b → b ≡ false
    by true e = absurd (let both : true ≡ false = sym (has_staging-extends place path high e) ∙ plain in cc)
    by false e = refl

-- and still is so, when nothing but staging names has changed
pub same_pass : (path : Path) → has_staging path ≡ false → (t u : Files) → IsPlainSame t u → CanPass path t → CanPass path u
same_pass path plain t u same pass = λ place high there.
    let unstaged : has_staging place ≡ false = above_plain path place plain high.0 in
    kind_of-same (places u place) (places t place) (same place unstaged)
    ∙ pass place high (sym (is_some-same (places u place) (places t place) (same place unstaged)) ∙ there)

-- ---- on the way

module _ {S : Type 0} (tree : Ghosts S) (path : Path) where
  -- timestamps and staging names aside, sweeping is on the way of preparing
  pub swept_acted : {A : Type 0} {m now : ℕ} {a b : S} {r : Result A TreeFault}
      → Acted tree (Pruned (is_under_any (staging_names path)) (tree.state a)) (Removes (is_under_any (staging_names path))) m now a b r
      → Acted tree (Preparing path (tree.state a)) (IsPrepareStep path (tree.state a)) m now a b r
  swept_acted {m = m} {a = a} before =
      acted_weaken tree (Pruned (is_under_any (staging_names path)) (tree.state a)) (Preparing path (tree.state a)) (Removes (is_under_any (staging_names path))) (IsPrepareStep path (tree.state a)) m m
      (λ w p q plain. kept (pruned_same path (tree.state a) w p q plain)) (λ s r. sweeps r) (omega arith) before

  pub swept_same : {A : Type 0} {m now : ℕ} {a b : S} {r : Result A TreeFault}
      → Acted tree (Pruned (is_under_any (staging_names path)) (tree.state a)) (Removes (is_under_any (staging_names path))) m now a b r
      → IsPlainSame (tree.state a) (tree.state b)
  swept_same {a = a} {b = b} before = pruned_same path (tree.state a) (tree.state b) (acted_end tree (Pruned (is_under_any (staging_names path)) (tree.state a)) (Removes (is_under_any (staging_names path))) before)

  -- and then come the parents
  pub prepared_acted : {A B : Type 0} {m n now : ℕ} {a b c : S} {x : A} {r : Result B TreeFault} → Moves tree → has_staging path ≡ false
      → Acted tree (Pruned (is_under_any (staging_names path)) (tree.state a)) (Removes (is_under_any (staging_names path))) m now a b (Ok x)
      → Acted tree (Preparing path (tree.state b)) (IsPrepareStep path (tree.state b)) n now b c r → Acted tree (Preparing path (tree.state a)) (IsPrepareStep path (tree.state a)) (m + n) now a c r
  prepared_acted {n = n} {a = a} {b = b} moves plain before last =
      acted_then tree moves (Preparing path (tree.state a)) (IsPrepareStep path (tree.state a)) (swept_acted before)
      (acted_weaken tree (Preparing path (tree.state b)) (Preparing path (tree.state a)) (IsPrepareStep path (tree.state b)) (IsPrepareStep path (tree.state a)) n n
      (λ w more q unstaged. subst (λ o. IsPreparing path q o (object_states (places w) q)) (swept_same before q unstaged) (more q unstaged)) step_from_start (omega arith) last)
    where
      step_from_start : (step : Step) → IsPrepareStep path (tree.state b) step → IsPrepareStep path (tree.state a) step
      step_from_start step (sweeps removes) = sweeps removes
      step_from_start step (puts place above none put) = puts place above (none_from_object_state (places (tree.state a) place) (sym (swept_same before place (above_plain path place plain above.0)) ∙ ap (option_map object_state) none)) put
