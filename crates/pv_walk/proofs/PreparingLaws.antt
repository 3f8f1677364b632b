-- Laws of putting absent parents, from the root on: what stands above a path is a directory then, and the path itself is as it was.
use Rattle.std.specs.Prelude.{◌≡◌, ◌≢◌, ◌⊎◌, ℕ, ◌+◌, ◌-◌, ◌*◌, ◌≤◌, ◌<◌, Bool, true, false, cond, List, [], ◌∷◌, ◌++◌, length, take, drop, fold, filter, get_or, nat_le, Option, Some, None, is_some, is_none, option_map, Result, Ok}
use Rattle.std.specs.List.{AllByRecursion}
use Rattle.std.proofs.Common.{zero, suc, refl, sym, ap, subst, ◌∙◌, arith, inl, inr}
use Rattle.std.proofs.lemmas.List.{take-append-drop, length-append, length-take, take_more, take_all}
use Rattle.std.proofs.lemmas.List.Sums.{fold_more}
use Rattle.std.proofs.lemmas.List.Folds.{list_all-append}
use Rattle.std.proofs.lemmas.List.FromFn.{get_or-map-range_with_len, length-map-range_with_len}
use Rattle.std.proofs.lemmas.List.Filters.{length-filter_more}
use Rattle.std.proofs.lemmas.Bool.{and_parts}
use Rattle.pv_path.specs.Paths.{Path, same_path, parent_of, has_staging, staging_of}
use Rattle.pv_path.proofs.PathLaws.{is_prefix-parent_of, prefix_parts, length-parent_of, has_staging-staging_of, length-prefix, is_prefix-take, has_some_names, has_staging-take}
use Rattle.pv_steps.specs.declared.node.Kind.TheVariants.{Directory}
use Rattle.pv_steps.specs.declared.object.Object.{Object}
use Rattle.pv_steps.specs.Objects.{object_state, modified}
use Rattle.pv_steps.specs.Trees.{Files, Places, places, kind_of, IsAbsentIn, IsKind, IsPresent, IsTree}
use Rattle.pv_steps.proofs.TreeLaws.{kind_of-touched, present_above}
use Rattle.pv_steps.proofs.StepLaws.{is_some-touched}
use Rattle.pv_steps.specs.Steps.{put_at, made}
use Rattle.pv_steps.specs.Same.{object_states}
use Rattle.pv_steps.specs.declared.tree.Tree.{Ghosts}
use Rattle.pv_steps.specs.declared.tree.TreeFault.{TreeFault}
use Rattle.pv_steps.specs.declared.step.Step.{Step}
use Rattle.pv_steps.specs.Acting.{refused, Acted}
use Rattle.pv_steps.proofs.ActingLaws.{Moves, acted_then, acted_weaken, acted_end}
use Rattle.pv_walk.proofs.EditLaws.{path_cases, put_at-else, on_at-else, made-here}
use Rattle.pv_walk.specs.Staging.{new_object, can_stage}
use Rattle.pv_walk.proofs.RemovalLaws.{no_same}
use Rattle.pv_walk.specs.Putting as putting
use Rattle.pv_walk.specs.Putting.{IsPutting, put, Putting, IsPutStep}
use Rattle.pv_walk.specs.Preparing.{parent_file, parents_of, with_parent, IsAbove, CanPass, IsSwept, IsPreparing, parent, Preparing, parent_count, IsPrepareStep, puts}
use Rattle.pv_walk.proofs.PuttingLaws.{made-none}
use Rattle.pv_steps.proofs.ObjectLaws.{none_from_object_state}

-- ---- the places above a path

pub nonempty_take : (k : ℕ) (path : Path) → 1 ≤ k → k ≤ length path → take k path ≢ []
nonempty_take k path some le e = (let l = ap length e in omega (arith, length-take k path))

pub above_take : (k : ℕ) (path : Path) → k < length path → IsAbove (take k path) path
above_take k path lt = (is_prefix-take k path, λ e. (let l = ap length e in omega (arith, length-take k path)))

pub short_take : (k : ℕ) (path : Path) → can_stage path ≡ true → can_stage (take k path) ≡ true
short_take k path short =
    (and_parts (can_stage (take k path)) (can_stage (drop k path)) (sym (list_all-append (λ name. nat_le (length name) 250) (take k path) (drop k path)) ∙ ap can_stage (take-append-drop k path) ∙ short)).0

take_within : (i m : ℕ) (path : Path) → i ≤ m → take i (take m path) ≡ take i path
take_within zero m path le = refl
take_within (suc i) zero path le = absurd (omega arith)
take_within (suc i) (suc m) [] le = refl
take_within (suc i) (suc m) (n ∷ path) le = ap (λ (p : Path). n ∷ p) (take_within i m path (omega arith))

-- the first names of the directory that a path lies in
pub take_parent : (i : ℕ) (path : Path) → i < length path → take i (parent_of path) ≡ take i path
take_parent i path lt = take_within i (length path - 1) path (omega arith)

-- a place above a path that is one name longer than the last
pub next_parent : (path place next items : Path) (i : ℕ) (copied name : List ℕ) → items ≡ parent_of path → place ≡ take i path → copied ≡ name → name ≡ get_or items i name → i < length items
    → next ≡ place ++ copied ∷ [] → (i + 1 < length path) × (next ≡ take (i + 1) path)
next_parent path place next items i copied name same at copy item lt is =
    let below : i < length (parent_of path) = subst (λ (xs : Path). i < length xs) same lt in
    let within : i + 1 < length path = omega (arith, below, length-parent_of path) in (
      within,
      is
          ∙ ap (λ (p : Path). p ++ copied ∷ []) (at ∙ sym (take_parent i path (omega arith)))
          ∙ ap (λ (n : List ℕ). take i (parent_of path) ++ n ∷ []) (copy ∙ item ∙ ap (λ (xs : Path). get_or xs i name) same)
          ∙ sym (take_more (parent_of path) i name below)
          ∙ take_parent (i + 1) path within,
    )

-- ---- the places above a path, one after the other

module _ (path : Path) where
  pub length-parents : length (parents_of path) ≡ length path - 1
  length-parents = omega (arith, length-map-range_with_len (λ k. take k (parent_of path)) 1 (length (parent_of path)), length-parent_of path)

  parent-at : (i : ℕ) (d : Path) → i + 1 < length path → get_or (parents_of path) i d ≡ take (i + 1) path
  parent-at i d lt =
      get_or-map-range_with_len (λ k. take k (parent_of path)) 1 (length (parent_of path)) i (i + 1) d (omega (arith, length-parent_of path)) (omega arith)
      ∙ take_parent (i + 1) path lt

  pub with_parents-more : (now i : ℕ) (t : Places) → i + 1 < length path
      → fold (with_parent now) t (take (i + 1) (parents_of path)) ≡ with_parent now (fold (with_parent now) t (take i (parents_of path))) (take (i + 1) path)
  with_parents-more now i t lt =
      fold_more (with_parent now) t (parents_of path) i [] (omega (arith, length-parents))
      ∙ ap (with_parent now (fold (with_parent now) t (take i (parents_of path)))) (parent-at i [] lt)

  -- how many of the first places are absent
  abbrev pub absent_parents : Files → ℕ → ℕ
  absent_parents t i = length (filter (λ place. is_none (places t place)) (take i (parents_of path)))

-- ---- one parent more

module _ (now : ℕ) (path p : Path) (plain : has_staging path ≡ false) (nonempty : p ≢ []) (over : IsAbove p path) (unstaged : has_staging p ≡ false) (u v : Files) where
  not_there : (place : Path) → place ≢ [] → same_path p (staging_of place) ≡ false
  not_there place some = no_same p (staging_of place) (λ e. (let both : true ≡ false = sym (has_staging-staging_of place some) ∙ ap has_staging (sym e) ∙ unstaged in cc))

  module _ (none : IsAbsentIn (places u) p) (is : places v ≡ made now p (new_object parent_file now) (places u)) where
    new_directory : IsKind Directory v p
    new_directory = ap (λ (x : Places). kind_of (x p)) is ∙ ap kind_of (made-here now p (places u) nonempty (new_object parent_file now))

    new_kind_else : (q : Path) → same_path p q ≡ false → kind_of (places v q) ≡ kind_of (places u q)
    new_kind_else q d =
        ap (λ (x : Places). kind_of (x q)) is ∙ kind_of-touched now p (put_at p (Some (new_object parent_file now)) (places u)) q
        ∙ ap kind_of (put_at-else p q (Some (new_object parent_file now)) (places u) d)

    new_present_else : (q : Path) → same_path p q ≡ false → is_some (places v q) ≡ is_some (places u q)
    new_present_else q d =
        ap (λ (x : Places). is_some (x q)) is ∙ is_some-touched now p (put_at p (Some (new_object parent_file now)) (places u)) q
        ∙ ap is_some (put_at-else p q (Some (new_object parent_file now)) (places u) d)

    new_pass : CanPass path u → CanPass path v
    new_pass pass = λ q high there. elim (path_cases p q) [
      | inl e ↦ subst (IsKind Directory v) e new_directory
      | inr d ↦ new_kind_else q d ∙ pass q high (sym (new_present_else q d) ∙ there)
    ]

    new_swept : IsSwept path u → IsSwept path v
    new_swept swept = λ q some high.
        ap (λ (x : Places). x (staging_of q)) is ∙ made-none now p (new_object parent_file now) (places u) (staging_of q) (not_there q some) (swept q some high)

    new_here : places v path ≡ places u path
    new_here =
        ap (λ (x : Places). x path) is
        ∙ on_at-else (parent_of p) path (modified now) (put_at p (Some (new_object parent_file now)) (places u)) (no_same (parent_of p) path higher)
        ∙ put_at-else p path (Some (new_object parent_file now)) (places u) (no_same p path over.1)
      where
        higher : parent_of p ≡ path → ⊥
        higher e = (let l = ap length e in omega (arith, length-parent_of p, length-prefix p path over.0, has_some_names p nonempty))

-- the first places above a path have been put: the last of them is a directory, and what is to come is as it was
pub record Parented (now : ℕ) (path : Path) (t : Files) (i : ℕ) (u : Files) : Type 0 where
  pub here : places u ≡ fold (with_parent now) (places t) (take i (parents_of path))
  pub directory : IsKind Directory u (take i path)
  pub at : places u path ≡ places t path
  pub pass : CanPass path u
  pub swept : IsSwept path u
  pub ahead : (k : ℕ) → i < k → k < length path → is_some (places u (take k path)) ≡ is_some (places t (take k path))

module _ (now : ℕ) (path : Path) (plain : has_staging path ≡ false) (t : Files) (i : ℕ) (lt : i + 1 < length path) (u : Files) (before : Parented now path t i u) where
  abbrev next : Path
  next = take (i + 1) path

  other_take : (k : ℕ) → i + 1 < k → k < length path → same_path (take (i + 1) path) (take k path) ≡ false
  other_take k more le = no_same (take (i + 1) path) (take k path) (λ e. (let l = ap length e in omega (arith, length-take (i + 1) path, length-take k path)))

  module _ (v : Files) (is : places v ≡ with_parent now (places u) (take (i + 1) path)) where
    here_then : places v ≡ fold (with_parent now) (places t) (take (i + 1) (parents_of path))
    here_then = is ∙ ap (λ (x : Places). with_parent now x (take (i + 1) path)) before.here ∙ sym (with_parents-more path now i (places t) lt)

    unchanged : (o : Option Object) → places u (take (i + 1) path) ≡ o → is_some o ≡ true → Parented now path t (i + 1) v
    unchanged o e some =
        let same : places v ≡ places u = is ∙ ap (λ b. cond b (places u) (made now (take (i + 1) path) (new_object parent_file now) (places u))) (ap is_some e ∙ some) in
        record {
          here = here_then;
          directory = ap (λ (x : Places). kind_of (x (take (i + 1) path))) same ∙ before.pass (take (i + 1) path) (above_take (i + 1) path lt) (ap is_some e ∙ some);
          at = ap (λ (x : Places). x path) same ∙ before.at;
          pass = λ q high there. ap (λ (x : Places). kind_of (x q)) same ∙ before.pass q high (sym (ap (λ (x : Places). is_some (x q)) same) ∙ there);
          swept = λ q some_name high. ap (λ (x : Places). x (staging_of q)) same ∙ before.swept q some_name high;
          ahead = λ k more le. ap (λ (x : Places). is_some (x (take k path))) same ∙ before.ahead k (omega arith) le;
        }

    put_new : places u (take (i + 1) path) ≡ None → Parented now path t (i + 1) v
    put_new e =
        let new : places v ≡ made now (take (i + 1) path) (new_object parent_file now) (places u) =
        is ∙ ap (λ b. cond b (places u) (made now (take (i + 1) path) (new_object parent_file now) (places u))) (ap is_some e) in
        let some : take (i + 1) path ≢ [] = nonempty_take (i + 1) path (omega arith) (omega arith) in
        let over : IsAbove (take (i + 1) path) path = above_take (i + 1) path lt in
        let unstaged : has_staging (take (i + 1) path) ≡ false = has_staging-take (i + 1) path plain in
        record {
          here = here_then;
          directory = new_directory now path (take (i + 1) path) plain some over unstaged u v e new;
          at = new_here now path (take (i + 1) path) plain some over unstaged u v e new ∙ before.at;
          pass = new_pass now path (take (i + 1) path) plain some over unstaged u v e new before.pass;
          swept = new_swept now path (take (i + 1) path) plain some over unstaged u v e new before.swept;
          ahead = λ k more le.
              new_present_else now path (take (i + 1) path) plain some over unstaged u v e new (take k path) (other_take k more le)
              ∙ before.ahead k (omega arith) le;
        }

    pub parented_next : Parented now path t (i + 1) v
    parented_next = by (places u (take (i + 1) path)) refl
      where
        by : (o : Option Object) → places u (take (i + 1) path) ≡ o → Parented now path t (i + 1) v
        by None e = put_new e
        by (Some x) e = unchanged (Some x) e refl

  -- eight steps for each that was absent
  pub room_next : cond (is_some (places u (take (i + 1) path))) 0 8 + 8 * absent_parents path t i ≡ 8 * absent_parents path t (i + 1)
  room_next =
      ap (λ b. cond b 0 8 + 8 * absent_parents path t i) (before.ahead (i + 1) (omega arith) lt)
      ∙ omega (arith, eight (places t (take (i + 1) path)), more)
    where
      eight : (o : Option Object) → cond (is_some o) 0 8 ≡ 8 * cond (is_none o) 1 0
      eight None = refl
      eight (Some x) = refl

      more : absent_parents path t (i + 1) ≡ absent_parents path t i + cond (is_none (places t (take (i + 1) path))) 1 0
      more =
          length-filter_more (λ place. is_none (places t place)) (parents_of path) i [] (omega (arith, length-parents path))
          ∙ ap (λ (p : Path). absent_parents path t i + cond (is_none (places t p)) 1 0) (parent-at path i [] lt)

absent_le : (f : Path → Bool) (i : ℕ) (xs : List Path) → length (filter f (take i xs)) ≤ length (filter f xs)
absent_le f zero xs = omega arith
absent_le f (suc i) [] = omega arith
absent_le f (suc i) (x ∷ xs) =
    let rest = absent_le f i xs in
    elim (f x) as (λ b. length (cond b (x ∷ filter f (take i xs)) (filter f (take i xs))) ≤ length (cond b (x ∷ filter f xs) (filter f xs))) [ true ↦ omega (arith, rest) | false ↦ rest ]

pub absent_parents-le : (path : Path) (t : Files) (i : ℕ) → absent_parents path t i ≤ parent_count path t
absent_parents-le path t i = absent_le (λ place. is_none (places t place)) i (parents_of path)

-- in a tree where the parent is present, none is absent
module _ (now : ℕ) (path : Path) (plain : has_staging path ≡ false) (t : Files) (tree : IsTree t) (pass : CanPass path t) (swept : IsSwept path t) (there : IsPresent t (parent_of path)) where
  above_present : (k : ℕ) → k < length path → is_some (places t (take k path)) ≡ true
  above_present k lt =
      let high = above_take k path lt in
      let parts = prefix_parts (take k path) (parent_of path) (is_prefix-parent_of (take k path) path high.0 high.1) in
      present_above (places t) tree (take k path) parts.0 (subst (IsPresent t) parts.1 there)

  parented_whole : (i : ℕ) → i < length path ⊎ i ≡ 0 → Parented now path t i t
  parented_whole zero lt = record { here = refl; directory = tree.root; at = refl; pass = pass; swept = swept; ahead = λ k more le. refl }
  parented_whole (suc i) lt =
      let within : i + 1 < length path = later lt in
      let same : places t ≡ with_parent now (places t) (take (i + 1) path) = sym (ap (λ b. cond b (places t) (made now (take (i + 1) path) (new_object parent_file now) (places t))) (above_present (i + 1) within)) in
      let next : i + 1 ≡ suc i = omega arith in
      subst (λ k. Parented now path t k t) next (parented_next now path plain t i within t (parented_whole i (inl (omega (arith, within)))) t same)
    where
      later : (suc i < length path) ⊎ (suc i ≡ 0) → i + 1 < length path
      later (inl h) = omega (arith, h)
      later (inr e) = absurd (omega (arith, e))

  parented_last : Parented now path t (length path - 1) t
  parented_last = parented_whole (length path - 1) (by path)
    where
      by : (p : Path) → (length p - 1 < length p) ⊎ (length p - 1 ≡ 0)
      by [] = inr refl
      by (n ∷ p) = inl (omega arith)

  pub none_put : places t ≡ fold (with_parent now) (places t) (parents_of path)
  none_put = parented_last.here ∙ ap (fold (with_parent now) (places t)) (take_all (length path - 1) (parents_of path) (omega (arith, length-parents path)))

  pub parent_directory : IsKind Directory t (parent_of path)
  parent_directory = parented_last.directory

-- at the end all parents are put
pub parented_end : (path : Path) (items : Path) (i : ℕ) → items ≡ parent_of path → length items ≤ i → take i (parents_of path) ≡ parents_of path
parented_end path items i same le = take_all i (parents_of path) (omega (arith, ap length same, length-parent_of path, length-parents path))

-- ---- on the way

-- a call that asked for no step did none, so anything may be said of each
acted_still : {S A : Type 0} (tree : Ghosts S) (P : Files → Type 0) (Q R : Step → Type 0) (n : ℕ) {now : ℕ} {a b : S} {r : Result A TreeFault} → n ≡ 0 → Acted tree P Q n now a b r → Acted tree P R n now a b r
acted_still tree P Q R n {now = now} {a = a} {b = b} {r = r} none acted = record {
  ran = record { steps = acted.ran.steps; recorded = acted.ran.recorded; reached = acted.ran.reached; along = acted.ran.along; gives = by acted.ran.steps few };
  bound = acted.bound;
  reaches = acted.reaches;
  counted = acted.counted;
  last = acted.last;
}
  where
    few : length acted.ran.steps ≡ 0
    few = (
        let bound : (length (tree.steps b) - length (tree.steps a)) + refused r ≤ n = acted.bound in
        let stated : length (tree.steps b) ≡ length (tree.steps a) + length acted.ran.steps = ap length acted.ran.recorded ∙ length-append (tree.steps a) acted.ran.steps in
        omega (arith, bound, stated, none))

    by : (steps : List Step) → length steps ≡ 0 → AllByRecursion R steps
    by [] e = tt
    by (step ∷ steps) e = absurd (omega (arith, e))

module _ (path p : Path) (over : IsAbove p path) where
  one_more : (q : Path) (a b c : Option Object) → IsPreparing path q a b → IsPutting p parent_file q b c → IsPreparing path q a c
  one_more q a b c x (putting.kept e) = subst (IsPreparing path q a) (sym e) x
  one_more q a b c (IsPreparing.kept e) (put s none new) = parent (subst (λ (r : Path). IsAbove r path) (sym s) over) (sym e ∙ none) new
  one_more q a b c (parent high old is) (put s none new) = absurd (let no : Some (object_state (new_object parent_file 0)) ≡ None = sym is ∙ none in cc)

  -- a parent that is put on the way was absent at the start
  absent_before : (a b : Option Object) → IsPreparing path p (option_map object_state a) (option_map object_state b) → b ≡ None → a ≡ None
  absent_before a b (IsPreparing.kept e) none = none_from_object_state a (sym e ∙ ap (option_map object_state) none)
  absent_before a b (parent high old is) none = none_from_object_state a old

  pub parent_acted : {S A B : Type 0} (tree : Ghosts S) → Moves tree → has_staging p ≡ false → {m n now : ℕ} {a b c : S} {x : A} {r : Result B TreeFault} → (places (tree.state b) p ≡ None) ⊎ (n ≡ 0)
      → Acted tree (Preparing path (tree.state a)) (IsPrepareStep path (tree.state a)) m now a b (Ok x)
      → Acted tree (Putting p parent_file (tree.state b)) (IsPutStep p parent_file) n now b c r → Acted tree (Preparing path (tree.state a)) (IsPrepareStep path (tree.state a)) (m + n) now a c r
  parent_acted tree moves plain_place {n = n} {now = now} {a = a} {b = b} {c = c} {r = r} there before last =
      acted_then tree moves (Preparing path (tree.state a)) (IsPrepareStep path (tree.state a)) before (by there)
    where
      goes_on : (w : Files) → Putting p parent_file (tree.state b) w → Preparing path (tree.state a) w
      goes_on w more q plain = one_more q (object_states (places (tree.state a)) q) (object_states (places (tree.state b)) q) (object_states (places w) q) (acted_end tree (Preparing path (tree.state a)) (IsPrepareStep path (tree.state a)) before q plain) (more q plain)

      by : (places (tree.state b) p ≡ None) ⊎ (n ≡ 0) → Acted tree (Preparing path (tree.state a)) (IsPrepareStep path (tree.state a)) n now b c r
      by (inl none) = acted_weaken tree (Putting p parent_file (tree.state b)) (Preparing path (tree.state a)) (IsPutStep p parent_file) (IsPrepareStep path (tree.state a)) n n goes_on
          (λ s g. puts p over (absent_before (places (tree.state a) p) (places (tree.state b) p) (acted_end tree (Preparing path (tree.state a)) (IsPrepareStep path (tree.state a)) before p plain_place) none) g) (omega arith) last
      by (inr zero_steps) = acted_weaken tree (Putting p parent_file (tree.state b)) (Preparing path (tree.state a)) (IsPrepareStep path (tree.state a)) (IsPrepareStep path (tree.state a)) n n goes_on
          (λ s g. g) (omega arith) (acted_still tree (Putting p parent_file (tree.state b)) (IsPutStep p parent_file) (IsPrepareStep path (tree.state a)) n zero_steps last)
