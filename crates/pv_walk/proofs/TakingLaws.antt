-- Laws of paths that are taken away one after the other, the last one of a list first.
use Rattle.std.specs.Prelude.{◌≡◌, ◌≢◌, ℕ, ◌+◌, ◌-◌, ◌≤◌, Bool, true, false, cond, ◌||◌, ◌⊎◌, List, [], ◌∷◌, ◌++◌, length, map, reverse, take, slice_get, Option, Some, None, Result, is_some, IfSome, option_map}
use Rattle.std.specs.List.{list_any}
use Rattle.std.proofs.Common.{Bor, refl, sym, ap, subst, ◌∙◌, arith, inl, inr, append_assoc, zero, suc}
use Rattle.std.proofs.lemmas.List.Folds.{list_any-append}
use Rattle.std.proofs.lemmas.List.Sorted.{IsPermutation-reverse, list_any-IsPermutation}
use Rattle.pv_path.specs.Paths.{Path, same_path, same_path-decides, parent_of}
use Rattle.std.proofs.lemmas.List.{append-nil, map-append, reverse-append, reverse-reverse, take_at}
use Rattle.std.proofs.lemmas.Bool.{cases_Bool, and_parts, or_right}
use Rattle.pv_path.proofs.PathLaws.{path_ends, parent_of-push, same_path-refl}
use Rattle.pv_steps.specs.declared.step.Step.{Step}
use Rattle.pv_steps.specs.declared.tree.Tree.{Ghosts}
use Rattle.pv_steps.specs.declared.tree.TreeFault.{TreeFault}
use Rattle.pv_steps.specs.Objects.{modified, object_state}
use Rattle.pv_steps.specs.Trees.{Files, Places, places, names_below, IsEmptyIn, IsPresent}
use Rattle.pv_steps.specs.Steps.{after, gone}
use Rattle.pv_steps.specs.Runs.{after_all}
use Rattle.pv_steps.specs.Content.{Removes}
use Rattle.pv_steps.specs.Trying.{TriedAll}
use Rattle.pv_steps.proofs.RunLaws.{after_all-append}
use Rattle.pv_steps.proofs.ActingLaws.{Asks}
use Rattle.pv_steps.proofs.TryingLaws.{AllAsk, ask_first, reverse-first}
use Rattle.pv_steps.proofs.ContentLaws.{removes-wider}
use Rattle.pv_walk.specs.Edits.{Pruned}
use Rattle.pv_walk.specs.Removal.{is_below, is_one_of, loses_child, removal_at, without, DonePart, MayHaveGone}
use Rattle.pv_walk.specs.Listing.{times, children_of, stands_below, IsListing, AreRemovable}
use Rattle.pv_walk.proofs.CountLaws.{times-self, same_or_not, is_child-push}
use Rattle.pv_walk.proofs.RemovalLaws.{zero_or_more, cond-true, no_same, unless, below_nonempty, all_gone, all_gone-none, all_gone-gone, all_gone-kept, all_gone-same, all_gone-touched, kept-kind, kept-present, kept-object_state, IsKept}
use Rattle.pv_walk.proofs.ListingLaws.{cond-one, cond-le, child_counts}
use Rattle.pv_walk.proofs.Removing.{after_removal, removal_asks}
use Rattle.pv_walk.proofs.SweepLaws.{pruned-none}
use Rattle.pv_path.proofs.Tests.{true_not_false, none_of}

-- ---- paths in a list

pub one_of-none : (paths : List Path) (q : Path) → is_one_of paths q ≡ false → times q paths ≡ 0
one_of-none [] q h = refl
one_of-none (p ∷ paths) q h = by (same_path p q) refl (one_of-none paths q) h
  where
    by : (b : Bool) → same_path p q ≡ b → (is_one_of paths q ≡ false → times q paths ≡ 0) → (b || is_one_of paths q) ≡ false → times q (p ∷ paths) ≡ 0
    by true e rest h = cc
    by false e rest h = omega (arith, ap (λ b. cond b 1 0 + times q paths) e, rest h)

pub one_of-some : (paths : List Path) (q : Path) → is_one_of paths q ≡ true → 1 ≤ times q paths
one_of-some [] q h = cc
one_of-some (p ∷ paths) q h = by (same_path p q) refl (one_of-some paths q) h
  where
    by : (b : Bool) → same_path p q ≡ b → (is_one_of paths q ≡ true → 1 ≤ times q paths) → (b || is_one_of paths q) ≡ true → 1 ≤ times q (p ∷ paths)
    by true e rest h = omega (arith, ap (λ b. cond b 1 0 + times q paths) e)
    by false e rest h = omega (arith, ap (λ b. cond b 1 0 + times q paths) e, rest h)

pub one_of-counted : (paths : List Path) (q : Path) → 1 ≤ times q paths → is_one_of paths q ≡ true
one_of-counted paths q some = elim (cases_Bool (is_one_of paths q)) [
  | inl e ↦ e
  | inr e ↦ absurd (let none = one_of-none paths q e in omega (arith, none, some))
]

any_some : {A : Type 0} (f : A → Bool) (xs : List A) → list_any f xs ≡ true → (x : A) × (f x ≡ true)
any_some f [] h = cc
any_some {A} f (x ∷ xs) h = by (f x) refl (any_some f xs) h
  where
    by : (b : Bool) → f x ≡ b → (list_any f xs ≡ true → (y : A) × (f y ≡ true)) → (b || list_any f xs) ≡ true → (y : A) × (f y ≡ true)
    by true e rest h = (x, e)
    by false e rest h = rest h

-- a child that goes is one that is lost
any_child : (goes : Path → Bool) (q r : Path) (names : List (List ℕ)) → 1 ≤ times r (map (λ n. q ++ n ∷ []) names) → goes r ≡ true → list_any (λ n. goes (q ++ n ∷ [])) names ≡ true
any_child goes q r [] some h = absurd (omega (arith, some))
any_child goes q r (n ∷ names) some h = elim (same_or_not (q ++ n ∷ []) r) [
  | inl e ↦ ap (λ b. b || list_any (λ m. goes (q ++ m ∷ [])) names) (ap goes e.0 ∙ h)
  | inr d ↦
      let later : 1 ≤ times r (map (λ m. q ++ m ∷ []) names) = omega (arith, some, ap (λ b. cond b 1 0 + times r (map (λ m. q ++ m ∷ []) names)) d) in
      or_right (goes (q ++ n ∷ [])) _ (any_child goes q r names later h)
]

-- ---- some of the paths go

-- the steps that take away the objects at some paths, the last one first
abbrev pub steps_of : Files → List Path → List Step
steps_of files paths = reverse (map (removal_at files) paths)

-- so an object goes last whose path is the first
steps_first : (files : Files) (p : Path) (paths : List Path) → steps_of files (p ∷ paths) ≡ steps_of files paths ++ removal_at files p ∷ []
steps_first files p paths = reverse-first (removal_at files p) (map (removal_at files) paths)

-- they are the removals of the paths, the last path first
pub steps_are : (files : Files) (paths : List Path) → steps_of files paths ≡ map (removal_at files) (reverse paths)
steps_are files [] = refl
steps_are files (p ∷ paths) =
    steps_first files p paths ∙ ap (λ ss. ss ++ removal_at files p ∷ []) (steps_are files paths)
    ∙ sym (map-append (removal_at files) (reverse paths) (p ∷ []))
    ∙ ap (map (removal_at files)) (sym (reverse-append (p ∷ []) paths))

-- and what was done of them is their front
pub removals_part : {S : Type 0} (tree : Ghosts S) (files : Files) (paths : List Path) (now : ℕ) (a b : S) (r : Result (Unit {0}) TreeFault)
    → TriedAll tree (steps_of files paths) now a b r → DonePart (map (removal_at files) (reverse paths)) (tree.steps a) (tree.steps b)
removals_part tree files paths now a b r t = (
  length t.done,
  t.recorded ∙ ap (λ ss. tree.steps a ++ ss) (sym (take_at t.done t.left (length t.done) refl) ∙ ap (take (length t.done)) (t.parts ∙ steps_are files paths)),
)

module _ (now : ℕ) (files : Files) where
  -- what they leave
  pub all_removed : (paths : List Path) (u : Files) → u ≡ after_all files (steps_of files paths) now → places u ≡ all_gone now paths (places files)
  all_removed [] u is = ap places is
  all_removed (p ∷ paths) u is =
      let before = after_all files (steps_of files paths) now in
      let last : u ≡ after before (removal_at files p) now =
      is ∙ ap (λ ss. after_all files ss now) (steps_first files p paths) ∙ after_all-append files (steps_of files paths) (removal_at files p ∷ []) now in
      after_removal now p files before u last ∙ ap (gone now p) (all_removed paths before refl)

  module _ (inside : Path → Bool) where
    -- timestamps aside, only objects at the paths are gone
    removed_pruned : (paths : List Path) (u : Files) → ((q : Path) → is_one_of paths q ≡ true → inside q ≡ true) → places u ≡ all_gone now paths (places files) → Pruned inside files u
    removed_pruned paths u within is =
        let at : (q : Path) → places u q ≡ all_gone now paths (places files) q = λ q. ap (λ (t : Places). t q) is in
        let kept : (q : Path) → times q paths ≡ 0 → option_map object_state (places u q) ≡ option_map object_state (places files q) =
        λ q none. ap (option_map object_state) (at q) ∙ kept-object_state now (places files q) (all_gone now paths (places files) q) (all_gone-kept now (places files) q paths none) in
        record {
          outside = λ q h. kept q (one_of-none paths q (unless (is_one_of paths q) (inside q) (within q) h));
          within = λ q h. elim (zero_or_more (times q paths)) [
            | inl z ↦ inr (kept q z)
            | inr m ↦ inl (at q ∙ all_gone-gone now (places files) q paths m)
          ];
        }

    -- the first of some paths may be taken away when the others are
    module _ (p : Path) (paths : List Path) (ok : AreRemovable files (p ∷ paths)) (u : Files) (is : places u ≡ all_gone now paths (places files)) where
      first_counts : times p (p ∷ paths) ≡ 1 + times p paths
      first_counts = times-self p paths

      first_stands : is_some (places files p) ≡ true
      first_stands = cond-true (is_some (places files p)) (omega (arith, ok.once p, first_counts))

      first_kept : IsKept now (places files p) (places u p)
      first_kept =
          subst (IsKept now (places files p)) (sym (ap (λ (t : Places). t p) is))
          (all_gone-kept now (places files) p paths (omega (arith, ok.once p, first_counts, cond-le (is_some (places files p)))))

      first_empty : IsEmptyIn (places u) p
      first_empty name = ap (λ (t : Places). t (p ++ name ∷ [])) is ∙ elim (cases_Bool (is_some (places files (p ++ name ∷ [])))) [
        | inl s ↦
            let there : 1 ≤ times (p ++ name ∷ []) paths + 0 = ok.order.0 (p ++ name ∷ []) (is_child-push p name) s in
            all_gone-gone now (places files) (p ++ name ∷ []) paths (omega (arith, there))
        | inr d ↦ all_gone-none now (places files) (p ++ name ∷ []) paths (none_of (places files (p ++ name ∷ [])) d)
      ]

      first_nonempty : p ≢ []
      first_nonempty root = let none : times p (p ∷ paths) ≡ 0 = ap (λ q. times q (p ∷ paths)) root ∙ ok.no_root in omega (arith, none, first_counts)

      first_asks : Asks (MayHaveGone now p u) (Removes (same_path p)) u (removal_at files p) now
      first_asks =
          removal_asks now p files u (sym (kept-kind now (places files p) (places u p) first_kept))
          (kept-present now (places files p) (places u p) first_kept ∙ first_stands) first_empty first_nonempty

    -- the others can be taken away
    others_removable : (p : Path) (paths : List Path) → AreRemovable files (p ∷ paths) → AreRemovable files paths
    others_removable p paths ok = record {
      once = λ q. let more = ok.once q in omega (arith, more);
      no_root = let none = ok.no_root in omega (arith, none);
      order = ok.order.1;
    }

    -- so all steps may be asked for
    pub removals_ask : (paths : List Path) → AreRemovable files paths → ((q : Path) → is_one_of paths q ≡ true → inside q ≡ true)
        → AllAsk (Pruned inside files) (Removes inside) files (steps_of files paths) now
    removals_ask [] ok within = pruned-none inside files
    removals_ask (p ∷ paths) ok within =
        let u = after_all files (steps_of files paths) now in
        let is = all_removed paths u refl in
        let ask = first_asks p paths ok u is in
        let others : (q : Path) → is_one_of paths q ≡ true → inside q ≡ true = λ q h. within q (or_right (same_path p q) _ h) in
        let first : inside p ≡ true = within p (ap (λ b. b || is_one_of paths p) (same_path-refl p)) in
        ask_first (Pruned inside files) (Removes inside) now files (removal_at files p) (map (removal_at files) paths)
        (removals_ask paths (others_removable p paths ok) others)
        (record {
          start = removed_pruned paths u others is;
          can = ask.can;
          busy = ask.busy;
          there = λ v e. removed_pruned (p ∷ paths) v within (after_removal now p files u v e ∙ ap (gone now p) is);
          gives = removes-wider (same_path p) inside (λ q e. subst (λ r. inside r ≡ true) ((same_path-decides p q).0 e) first) (removal_at files p) ask.gives;
        })

module _ (now : ℕ) (files : Files) (paths : List Path) (ok : AreRemovable files paths) where
  -- ---- all of them have gone

  -- a path in the list whose directory is a path is a child that this loses
  lost_child : (q r : Path) → 1 ≤ times r paths → parent_of r ≡ q → loses_child (is_one_of paths) files q ≡ true
  lost_child q r some over = elim (path_ends r) [
    | inl root ↦ absurd (let none : times r paths ≡ 0 = ap (λ p. times p paths) root ∙ ok.no_root in omega (arith, some, none))
    | inr (above, name, e) ↦
        let same : above ≡ q = sym (parent_of-push above name) ∙ sym (ap parent_of e) ∙ over in
        let is : r ≡ q ++ name ∷ [] = e ∙ ap (λ (p : Path). p ++ name ∷ []) same in
        let there : is_some (places files r) ≡ true = cond-true (is_some (places files r)) (omega (arith, some, ok.once r)) in
        let counts = child_counts files q q (q ++ name ∷ []) (is_child-push q name) (subst (IsPresent files) is there) in
        let here : 1 ≤ times (q ++ name ∷ []) (children_of files q) = omega (arith, counts) in
        any_child (is_one_of paths) q (q ++ name ∷ []) (names_below files q) here (subst (λ (p : Path). is_one_of paths p ≡ true) is (one_of-counted paths r some))
  ]

  all_gone-without : (q : Path) → all_gone now paths (places files) q ≡ without (is_one_of paths) (modified now) files q
  all_gone-without q = by (is_one_of paths q) (loses_child (is_one_of paths) files q) refl refl
    where
      by : (goes loses : Bool) → is_one_of paths q ≡ goes → loses_child (is_one_of paths) files q ≡ loses
          → all_gone now paths (places files) q ≡ cond goes None (cond loses (option_map (modified now) (places files q)) (places files q))
      by true loses g l = all_gone-gone now (places files) q paths (one_of-some paths q g)
      by false true g l =
          let child = any_some (λ name. is_one_of paths (q ++ name ∷ [])) (names_below files q) l in
          all_gone-touched now (places files) q paths (one_of-none paths q g) (q ++ child.0 ∷ []) (one_of-some paths (q ++ child.0 ∷ []) child.1) (parent_of-push q child.0)
      by false false g l =
          all_gone-same now (places files) q paths (one_of-none paths q g)
          (λ r some. no_same (parent_of r) q (λ over. true_not_false (loses_child (is_one_of paths) files q) (lost_child q r some over) l))

  pub taken_without : all_gone now paths (places files) ≡ without (is_one_of paths) (modified now) files
  taken_without = λ i q. all_gone-without q i

  pub all_without : (u : Files) → u ≡ after_all files (steps_of files paths) now → places u ≡ without (is_one_of paths) (modified now) files
  all_without u is = all_removed now files paths u is ∙ taken_without

-- ---- what stands below a path

module _ (files : Files) (path : Path) (listed : List Path) (l : IsListing files path listed) where
  stands : (q : Path) → 1 ≤ times q listed → (is_below path q ≡ true) × (is_some (places files q) ≡ true)
  stands q some = and_parts (is_below path q) (is_some (places files q)) (cond-true (stands_below files path q) (omega (arith, some, l.once q)))

  -- it can be taken away
  pub listed_removable : AreRemovable files listed
  listed_removable = record { once = once; no_root = root (zero_or_more (times [] listed)); order = l.order }
    where
      once : (q : Path) → times q listed ≤ cond (is_some (places files q)) 1 0
      once q = elim (zero_or_more (times q listed)) [
        | inl z ↦ omega (arith, z)
        | inr m ↦ omega (arith, l.once q, cond-le (stands_below files path q), cond-one (is_some (places files q)) (stands q m).1)
      ]

      root : (times [] listed ≡ 0) ⊎ (1 ≤ times [] listed) → times [] listed ≡ 0
      root (inl z) = z
      root (inr m) = absurd (below_nonempty path [] (stands [] m).0 refl)

  -- and lies below the path
  pub listed_below : (q : Path) → is_one_of listed q ≡ true → is_below path q ≡ true
  listed_below q h = (stands q (one_of-some listed q h)).0

-- ---- the steps for a list of paths

-- what can be removed is present
pub removable_present : (files : Files) (paths : List Path) → AreRemovable files paths → (q : Path) → is_one_of paths q ≡ true → is_some (places files q) ≡ true
removable_present files paths ok q h = cond-true (is_some (places files q)) (omega (arith, one_of-some paths q h, ok.once q))

one_of-at : (paths : List Path) (k : ℕ) (q : Path) → slice_get paths k ≡ Some q → is_one_of paths q ≡ true
one_of-at [] k q e = cc
one_of-at (p ∷ paths) zero q e = let is : p ≡ q = cc in ap (λ b. b || is_one_of paths q) ((same_path-decides p q).1 is)
one_of-at (p ∷ paths) (suc k) q e = by (same_path p q) (one_of-at paths k q e)
  where
    by : (b : Bool) → is_one_of paths q ≡ true → (b || is_one_of paths q) ≡ true
    by true h = refl
    by false h = h

-- of paths that are present, the last one is
pub last_present : (files : Files) (left : List Path) (o : Option (Bor Path)) → option_map (λ s. s.now) o ≡ slice_get left (length left - 1)
    → ((q : Path) → is_one_of left q ≡ true → is_some (places files q) ≡ true) → IfSome o (λ q. is_some (places files q.now) ≡ true)
last_present files left None e present = tt
last_present files left (Some s) e present = present s.now (one_of-at left (length left - 1) s.now (sym e))

-- the paths that are left are present, and their steps follow in turned order
pub record Planning (files : Files) (paths left : List Path) (steps : List Step) : Type 0 where
  pub rest : steps ++ map (removal_at files) (reverse left) ≡ map (removal_at files) paths
  pub present : (q : Path) → is_one_of left q ≡ true → is_some (places files q) ≡ true

pub planning_start : (files : Files) (paths left : List Path) (steps : List Step) → ((q : Path) → is_one_of paths q ≡ true → is_some (places files q) ≡ true)
    → left ≡ reverse paths → steps ≡ [] → Planning files paths left steps
planning_start files paths left steps present turned none = record {
  rest = ap (λ (ss : List Step). ss ++ map (removal_at files) (reverse left)) none ∙ ap (λ (ps : List Path). map (removal_at files) (reverse ps)) turned ∙ ap (map (removal_at files)) (reverse-reverse paths);
  present = λ q h. present q (list_any-IsPermutation (λ p. same_path p q) paths (reverse paths) (IsPermutation-reverse paths) ∙ ap (λ (ps : List Path). is_one_of ps q) (sym turned) ∙ h);
}

pub planning_next : (files : Files) (paths left : List Path) (p : Path) (steps new : List Step) → Planning files paths (left ++ p ∷ []) steps → new ≡ steps ++ removal_at files p ∷ [] → Planning files paths left new
planning_next files paths left p steps new d is = record {
  rest =
      ap (λ (ss : List Step). ss ++ map (removal_at files) (reverse left)) is ∙ append_assoc steps (removal_at files p ∷ []) (map (removal_at files) (reverse left))
      ∙ ap (λ (ps : List Path). steps ++ map (removal_at files) ps) (sym (reverse-append left (p ∷ []))) ∙ d.rest;
  present = λ q h. d.present q (list_any-append (λ r. same_path r q) left (p ∷ []) ∙ ap (λ b. b || is_one_of (p ∷ []) q) h);
}

pub planning_end : (files : Files) (paths : List Path) (steps : List Step) → Planning files paths [] steps → steps ≡ map (removal_at files) paths
planning_end files paths steps d = sym (append-nil steps) ∙ d.rest
