-- Laws of what is left after all below a path, or at and below it, has been taken away.
use Rattle.std.specs.Prelude.{◌≡◌, ℕ, ◌≤◌, Bool, true, false, cond, not, ◌&&◌, List, [], ◌∷◌, ◌++◌, map, Option, Some, None, is_some, option_map}
use Rattle.std.proofs.Common.{refl, sym, ap, subst, ◌∙◌, arith, inl, inr}
use Rattle.std.proofs.lemmas.Bool.{not-true, cases_Bool, and_parts, and_from}
use Rattle.pv_path.specs.Paths.{Path, same_path, is_prefix, parent_of}
use Rattle.pv_path.proofs.PathLaws.{is_prefix-refl, parent_of-push}
use Rattle.pv_steps.specs.declared.node.Kind.TheVariants.{Directory}
use Rattle.pv_steps.specs.declared.object.Object.{Object}
use Rattle.pv_steps.specs.Objects.{modified}
use Rattle.pv_steps.specs.Trees.{Files, Places, places, kind_of, names_below, IsTree, IsPresent}
use Rattle.pv_steps.proofs.TreeLaws.{present_of_kind}
use Rattle.pv_steps.specs.Steps.{put_at, on_at, touched, gone}
use Rattle.pv_walk.specs.Edits.{cut, cut_below, taken, emptied}
use Rattle.pv_walk.specs.Removal.{is_below}
use Rattle.pv_walk.specs.Listing.{times, is_child, children_of, stands_below, IsListing}
use Rattle.pv_walk.proofs.CountLaws.{times-self, times-children, same_or_not, is_child-push}
use Rattle.pv_walk.proofs.RemovalLaws.{cond-true, no_same, below_nonempty, is_below-append, child_above, is_below-parent_of, IsKept, all_gone, all_gone-gone, all_gone-same, all_gone-touched}
use Rattle.pv_walk.proofs.ListingLaws.{cond-one, cond-zero, child_counts}
use Rattle.pv_path.proofs.Tests.{true_not_false, none_of}

module _ (now : ℕ) (files : Files) (path : Path) where
  emptied-none : names_below files path ≡ [] → emptied now path files ≡ places files
  emptied-none e = rw e

  emptied-some : (n : List ℕ) (ns : List (List ℕ)) → names_below files path ≡ n ∷ ns → emptied now path files ≡ on_at path (modified now) (cut_below path (places files))
  emptied-some n ns e = rw e

  no_child : names_below files path ≡ [] → (q : Path) → is_child path q ≡ true → is_some (places files q) ≡ false
  no_child e q c = elim (cases_Bool (is_some (places files q))) [
    | inl s ↦
        let counts = child_counts files path path q c s in
        let none : times q (children_of files path) ≡ 0 = ap (λ ns. times q (map (λ n. path ++ n ∷ []) ns)) e in
        absurd (omega arith)
    | inr d ↦ d
  ]

  first_child : (n : List ℕ) (ns : List (List ℕ)) → names_below files path ≡ n ∷ ns → IsPresent files (path ++ n ∷ [])
  first_child n ns e =
      let here : times (path ++ n ∷ []) (children_of files path) ≡ times (path ++ n ∷ []) ((path ++ n ∷ []) ∷ map (λ m. path ++ m ∷ []) ns) = ap (λ ms. times (path ++ n ∷ []) (map (λ m. path ++ m ∷ []) ms)) e in
      let some : 1 ≤ cond (is_child path (path ++ n ∷ []) && is_some (places files (path ++ n ∷ []))) 1 0 =
      omega (arith, here, times-self (path ++ n ∷ []) (map (λ m. path ++ m ∷ []) ns), times-children files path (path ++ n ∷ [])) in
      (and_parts (is_child path (path ++ n ∷ [])) (is_some (places files (path ++ n ∷ []))) (cond-true _ some)).1

  module _ (tree : IsTree files) where
    -- where the path has no children, nothing is below it
    pub nothing_below : names_below files path ≡ [] → (q : Path) → is_below path q ≡ true → places files q ≡ None
    nothing_below e q h = elim (cases_Bool (is_some (places files q))) [
      | inl s ↦
          let child = child_above (places files) tree path q h s in
          absurd (true_not_false (is_some (places files (path ++ child.0 ∷ []))) child.1 (no_child e (path ++ child.0 ∷ []) (is_child-push path child.0)))
      | inr d ↦ none_of (places files q) d
    ]

    -- only a directory has children
    pub no_names : (kind_of (places files path) ≡ Some Directory → ⊥) → names_below files path ≡ []
    no_names other = by (names_below files path) refl
      where
        by : (ns : List (List ℕ)) → names_below files path ≡ ns → names_below files path ≡ []
        by [] e = e
        by (n ∷ ns) e =
            absurd (other (subst (λ p. kind_of (places files p) ≡ Some Directory) (parent_of-push path n) (tree.parents (path ++ n ∷ []) (first_child n ns e) (below_nonempty path (path ++ n ∷ []) (is_below-append path n [])))))

    cut_below-at : (q : Path) → same_path path q ≡ false → cut_below path (places files) q ≡ cond (is_prefix path q) None (places files q)
    cut_below-at q d = elim (is_prefix path q) as (λ b. cond b (cond (same_path path q) (places files q) None) (places files q) ≡ cond b None (places files q)) [
      | true ↦ ap (λ s. cond s (places files q) None) d
      | false ↦ refl
    ]

    cut_below-here : (q : Path) → same_path path q ≡ true → cut_below path (places files) q ≡ places files q
    cut_below-here q s = elim (is_prefix path q) as (λ b. cond b (cond (same_path path q) (places files q) None) (places files q) ≡ places files q) [
      | true ↦ ap (λ b. cond b (places files q) None) s
      | false ↦ refl
    ]

    -- below the path: prefixed and not the path itself
    prefixed : (q : Path) → same_path path q ≡ false → is_prefix path q ≡ is_below path q
    prefixed q d = elim (is_prefix path q) as (λ b. b ≡ (b && not (same_path path q))) [ true ↦ sym (ap not d) | false ↦ refl ]

    hidden : (b : Bool) (o : Option Object) → (b ≡ true → o ≡ None) → o ≡ cond b None o
    hidden true o h = h refl
    hidden false o h = refl

    module _ (listed : List Path) (l : IsListing files path listed) where
      none_listed : names_below files path ≡ [] → (ps : List Path) → listed ≡ ps → all_gone now ps (places files) ≡ places files
      none_listed e [] is = refl
      none_listed e (p ∷ ps) is =
          let some : 1 ≤ times p listed = subst (λ ls. 1 ≤ times p ls) (sym is) (omega (arith, times-self p ps)) in
          let parts = and_parts (is_below path p) (is_some (places files p)) (cond-true (stands_below files path p) (omega (arith, l.once p))) in
          absurd (true_not_false (is_some (places files p)) parts.1 (ap is_some (nothing_below e p parts.0)))

      -- no listed path lies directly in what is not the path and does not stand below it
      no_parent : (q : Path) → same_path path q ≡ false → stands_below files path q ≡ false → (r : Path) → 1 ≤ times r listed → same_path (parent_of r) q ≡ false
      no_parent q d h r g = no_same (parent_of r) q (λ e.
          let parts = and_parts (is_below path r) (is_some (places files r)) (cond-true (stands_below files path r) (omega (arith, l.once r))) in
          let apart_of : same_path path (parent_of r) ≡ false = ap (same_path path) e ∙ d in
          let below : is_below path q ≡ true = subst (λ s. is_below path s ≡ true) e (is_below-parent_of path r parts.0 apart_of) in
          let present : is_some (places files q) ≡ true = subst (IsPresent files) e (present_of_kind (places files) (parent_of r) Directory (tree.parents r parts.1 (below_nonempty path r parts.0))) in
          true_not_false (stands_below files path q) (and_from (is_below path q) (is_some (places files q)) below present) h)

      some_listed : (n : List ℕ) (ns : List (List ℕ)) → names_below files path ≡ n ∷ ns → (q : Path) → all_gone now listed (places files) q ≡ on_at path (modified now) (cut_below path (places files)) q
      some_listed n ns e q = elim (cases_Bool (stands_below files path q)) [
        | inl s ↦
            let parts = and_parts (is_below path q) (is_some (places files q)) s in
            let two = and_parts (is_prefix path q) (not (same_path path q)) parts.0 in
            let other : same_path path q ≡ false = not-true (same_path path q) two.1 in
            all_gone-gone now (places files) q listed (omega (arith, l.once q, cond-one (stands_below files path q) s))
            ∙ sym (ap (λ b. cond b (option_map (modified now) (cut_below path (places files) q)) (cut_below path (places files) q)) other ∙ cut_below-at q other ∙ ap (λ b. cond b None (places files q)) two.0)
        | inr d ↦
            let zero_times : times q listed ≡ 0 = omega (arith, l.once q, cond-zero (stands_below files path q) d) in
            elim (same_or_not path q) [
              | inl s ↦
                  let child : stands_below files path (path ++ n ∷ []) ≡ true = and_from (is_below path (path ++ n ∷ [])) (is_some (places files (path ++ n ∷ []))) (is_below-append path n []) (first_child n ns e) in
                  all_gone-touched now (places files) q listed zero_times (path ++ n ∷ []) (omega (arith, l.once (path ++ n ∷ []), cond-one (stands_below files path (path ++ n ∷ [])) child)) (parent_of-push path n ∙ s.0)
                  ∙ sym (ap (λ b. cond b (option_map (modified now) (cut_below path (places files) q)) (cut_below path (places files) q)) s.1 ∙ ap (option_map (modified now)) (cut_below-here q s.1))
              | inr other ↦
                  all_gone-same now (places files) q listed zero_times (no_parent q other d)
                  ∙ hidden (is_prefix path q) (places files q) (λ h. none_of (places files q) (absent_below q (sym (prefixed q other) ∙ h) d))
                  ∙ sym (ap (λ b. cond b (option_map (modified now) (cut_below path (places files) q)) (cut_below path (places files) q)) other ∙ cut_below-at q other)
            ]
      ]
        where
          absent_below : (r : Path) → is_below path r ≡ true → stands_below files path r ≡ false → is_some (places files r) ≡ false
          absent_below r h d = sym (ap (λ b. b && is_some (places files r)) h) ∙ d

      -- when all that was listed is gone, the path is emptied
      pub all_gone-emptied : all_gone now listed (places files) ≡ emptied now path files
      all_gone-emptied = by (names_below files path) refl
        where
          by : (ns : List (List ℕ)) → names_below files path ≡ ns → all_gone now listed (places files) ≡ emptied now path files
          by [] e = none_listed e listed refl ∙ sym (emptied-none e)
          by (n ∷ ns) e = (λ i q. some_listed n ns e q i) ∙ sym (emptied-some n ns e)

    -- nothing is left below an emptied path
    pub emptied-below : (q : Path) → is_below path q ≡ true → emptied now path files q ≡ None
    emptied-below q h = by (names_below files path) refl
      where
        other : same_path path q ≡ false
        other = elim (same_or_not path q) [
          | inl s ↦ absurd (let no : not (same_path path q) ≡ true = (and_parts (is_prefix path q) (not (same_path path q)) h).1 in let off : false ≡ true = sym (ap not s.1) ∙ no in cc)
          | inr d ↦ d
        ]

        by : (ns : List (List ℕ)) → names_below files path ≡ ns → emptied now path files q ≡ None
        by [] e = ap (λ (t : Places). t q) (emptied-none e) ∙ nothing_below e q h
        by (n ∷ ns) e =
            ap (λ (t : Places). t q) (emptied-some n ns e)
            ∙ ap (λ b. cond b (option_map (modified now) (cut_below path (places files) q)) (cut_below path (places files) q)) other
            ∙ cut_below-at q other
            ∙ ap (λ b. cond b None (places files q)) (prefixed q other ∙ h)

    -- what is not below it is as it was, or has the timestamps of a change
    pub emptied-kept : (q : Path) → is_below path q ≡ false → IsKept now (places files q) (emptied now path files q)
    emptied-kept q h = by (names_below files path) refl
      where
        by : (ns : List (List ℕ)) → names_below files path ≡ ns → IsKept now (places files q) (emptied now path files q)
        by [] e = inl (ap (λ (t : Places). t q) (emptied-none e))
        by (n ∷ ns) e = elim (same_or_not path q) [
          | inl s ↦ inr (
              ap (λ (t : Places). t q) (emptied-some n ns e)
              ∙ ap (λ b. cond b (option_map (modified now) (cut_below path (places files) q)) (cut_below path (places files) q)) s.1
              ∙ ap (option_map (modified now)) (cut_below-here q s.1))
          | inr d ↦ inl (
              ap (λ (t : Places). t q) (emptied-some n ns e)
              ∙ ap (λ b. cond b (option_map (modified now) (cut_below path (places files) q)) (cut_below path (places files) q)) d
              ∙ cut_below-at q d
              ∙ ap (λ b. cond b None (places files q)) (prefixed q d ∙ h))
        ]

    -- away from the path it is as it was
    pub emptied-outside : (q : Path) → is_prefix path q ≡ false → emptied now path files q ≡ places files q
    emptied-outside q h = by (names_below files path) refl
      where
        other : same_path path q ≡ false
        other = elim (same_or_not path q) [
          | inl s ↦ absurd (true_not_false (is_prefix path q) (subst (λ r. is_prefix path r ≡ true) s.0 (is_prefix-refl path)) h)
          | inr d ↦ d
        ]

        by : (ns : List (List ℕ)) → names_below files path ≡ ns → emptied now path files q ≡ places files q
        by [] e = ap (λ (t : Places). t q) (emptied-none e)
        by (n ∷ ns) e =
            ap (λ (t : Places). t q) (emptied-some n ns e)
            ∙ ap (λ b. cond b (option_map (modified now) (cut_below path (places files) q)) (cut_below path (places files) q)) other
            ∙ cut_below-at q other
            ∙ ap (λ b. cond b None (places files q)) h

    -- ---- the path itself

    cut-emptied : (q : Path) → put_at path None (emptied now path files) q ≡ cut path (places files) q
    cut-emptied q = elim (same_or_not path q) [
      | inl s ↦
          ap (λ b. cond b None (emptied now path files q)) s.1
          ∙ sym (ap (λ b. cond b None (places files q)) (subst (λ r. is_prefix path r ≡ true) s.0 (is_prefix-refl path)))
      | inr d ↦ ap (λ b. cond b None (emptied now path files q)) d ∙ by (names_below files path) refl d
    ]
      where
        by : (ns : List (List ℕ)) → names_below files path ≡ ns → same_path path q ≡ false → emptied now path files q ≡ cut path (places files) q
        by [] e d = ap (λ (t : Places). t q) (emptied-none e) ∙ hidden (is_prefix path q) (places files q) (λ h. nothing_below e q (sym (prefixed q d) ∙ h))
        by (n ∷ ns) e d =
            ap (λ (t : Places). t q) (emptied-some n ns e)
            ∙ ap (λ b. cond b (option_map (modified now) (cut_below path (places files) q)) (cut_below path (places files) q)) d
            ∙ cut_below-at q d

    -- an emptied path that goes is taken with all below it
    pub gone-emptied : IsPresent files path → gone now path (emptied now path files) ≡ taken now path (places files)
    gone-emptied present =
        ap (λ (t : Places). touched now path t) (λ i q. cut-emptied q i)
        ∙ sym (ap (λ b. cond b (touched now path (cut path (places files))) (places files)) present)

  -- what stands is taken with all below it: nothing is left at and below the path, and its directory is touched
  pub present-taken : IsPresent files path → taken now path (places files) ≡ touched now path (cut path (places files))
  present-taken present = ap (λ b. cond b (touched now path (cut path (places files))) (places files)) present
