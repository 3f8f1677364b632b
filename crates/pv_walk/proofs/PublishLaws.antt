-- Laws of publishing: what is staged for a path comes to it in one step, after what stood there has made way.
use Rattle.std.specs.Prelude.{◌≡◌, ◌≢◌, ℕ, ◌≤◌, Bool, true, false, cond, List, [], ◌∷◌, ◌++◌, length, Option, Some, None, is_some, option_map}
use Rattle.std.proofs.Common.{refl, sym, ap, subst, ◌∙◌, arith, inl, inr, length-append}
use Rattle.std.proofs.lemmas.Option.{same_Some}
use Rattle.std.proofs.lemmas.Bool.{false_from_ne_true, cases_Bool}
use Rattle.pv_path.specs.Names.{staging_name}
use Rattle.pv_path.specs.Paths.{Path, same_path, is_prefix, rest_under, parent_of, last_name, staging_of}
use Rattle.pv_path.proofs.PathLaws.{is_prefix-refl, is_prefix-append, prefix_whole, prefixes_compare, parent_parts, parent_of-staging_of, parent_of-differs, length-parent_of, length-staging_of, staging_of-push, last_name-push, rest_under-None, is_some-rest_under}
use Rattle.pv_steps.specs.declared.node.Kind.TheVariants.{Directory}
use Rattle.pv_steps.specs.declared.object.Object.{Object}
use Rattle.pv_steps.specs.Objects.{changed, modified, object_state}
use Rattle.pv_steps.specs.Trees.{Files, Places, places, kind_of, IsPresentIn, IsKindIn, IsTreeIn, IsPresent, IsTree}
use Rattle.pv_steps.specs.Steps.{touched, moved, moved_at, carried, Movable, Yields, absent, directories}
use Rattle.pv_steps.specs.Same.{Differ}
use Rattle.pv_walk.specs.Edits.{cut, taken, emptied}
use Rattle.pv_walk.proofs.RemovalLaws.{IsKept, modified_kept, kept-kind, no_same, is_below-append, not_below_itself}
use Rattle.pv_walk.proofs.EmptyingLaws.{emptied-below, emptied-kept, emptied-outside, present-taken}
use Rattle.pv_path.proofs.Tests.{true_not_false}

-- ---- a path and its staging name

module _ (path : Path) (nonempty : path ≢ []) where
  pub staging_differs : staging_of path ≢ path
  staging_differs e =
      let parts = parent_parts path nonempty in
      let stage : staging_of path ≡ parent_of path ++ staging_name parts.0 ∷ [] = ap staging_of parts.1 ∙ staging_of-push (parent_of path) parts.0 in
      let names : Some (staging_name parts.0) ≡ Some parts.0 = sym (last_name-push (parent_of path) (staging_name parts.0)) ∙ ap last_name (sym stage ∙ e ∙ parts.1) ∙ last_name-push (parent_of path) parts.0 in
      shorter parts.0 (same_Some (staging_name parts.0) parts.0 names)
    where
      shorter : (n : List ℕ) → staging_name n ≡ n → ⊥
      shorter n e = let l = ap length e in omega arith

  pub staging_nonempty : staging_of path ≢ []
  staging_nonempty e = by path nonempty (ap length e)
    where
      by : (p : Path) → p ≢ [] → length (staging_of p) ≡ 0 → ⊥
      by [] h l = h refl
      by (n ∷ p) h l = omega (arith, length-staging_of (n ∷ p))

  -- neither lies at or below the other
  pub stage_outside : is_prefix path (staging_of path) ≡ false
  stage_outside = false_from_ne_true (is_prefix path (staging_of path)) (λ e. staging_differs (sym (prefix_whole path (staging_of path) e (omega (arith, length-staging_of path)))))

  pub path_outside : is_prefix (staging_of path) path ≡ false
  path_outside = false_from_ne_true (is_prefix (staging_of path) path) (λ e. staging_differs (prefix_whole (staging_of path) path e (omega (arith, length-staging_of path))))

  -- nor what lies below the staging name
  pub staged_outside : (rest : Path) → is_prefix path (staging_of path ++ rest) ≡ false
  staged_outside rest = false_from_ne_true (is_prefix path (staging_of path ++ rest)) (λ e. elim (prefixes_compare path (staging_of path) (staging_of path ++ rest) e (is_prefix-append (staging_of path) rest)) [
    | inl h ↦ true_not_false (is_prefix path (staging_of path)) h stage_outside
    | inr h ↦ true_not_false (is_prefix (staging_of path) path) h path_outside
  ])

  -- and it is not the directory that both lie in
  pub staged_no_parent : (rest : Path) → same_path (parent_of path) (staging_of path ++ rest) ≡ false
  staged_no_parent rest = no_same (parent_of path) (staging_of path ++ rest) (λ e.
      let l = ap length e in
      let some : 1 ≤ length path = by path nonempty in
      omega (arith, length-append (staging_of path) rest, length-staging_of path, length-parent_of path))
    where
      by : (p : Path) → p ≢ [] → 1 ≤ length p
      by [] h = absurd (h refl)
      by (n ∷ p) h = omega arith

-- ---- what makes way

-- away from a path all is as it was, but that its directory may have the timestamps of a change
pub record IsCleared (now : ℕ) (path : Path) (t u : Places) : Type 0 where
  pub same : (q : Path) → is_prefix path q ≡ false → same_path (parent_of path) q ≡ false → u q ≡ t q
  pub kept : (q : Path) → is_prefix path q ≡ false → IsKept now (t q) (u q)

module _ (now : ℕ) (path : Path) where
  pub cleared-emptied : (files : Files) → IsTree files → IsCleared now path (places files) (emptied now path files)
  cleared-emptied files tree = record { same = λ q h d. emptied-outside now files path tree q h; kept = λ q h. inl (emptied-outside now files path tree q h) }

  touched_at : (t : Places) (q : Path) → is_prefix path q ≡ false → (b : Bool) → same_path (parent_of path) q ≡ b → touched now path (cut path t) q ≡ cond b (option_map (modified now) (t q)) (t q)
  touched_at t q h b e =
      let here : cut path t q ≡ t q = ap (λ c. cond c None (t q)) h in
      ap (λ c. cond c (option_map (modified now) (cut path t q)) (cut path t q)) e ∙ ap (λ o. cond b (option_map (modified now) o) o) here

  pub cleared-taken : (files : Files) → IsPresent files path → IsCleared now path (places files) (taken now path (places files))
  cleared-taken files present = record {
    same = λ q h d. at q ∙ touched_at (places files) q h false d;
    kept = λ q h. elim (cases_Bool (same_path (parent_of path) q)) [
      | inl e ↦ inr (at q ∙ touched_at (places files) q h true e)
      | inr d ↦ inl (at q ∙ touched_at (places files) q h false d)
    ];
  }
    where
      at : (q : Path) → taken now path (places files) q ≡ touched now path (cut path (places files)) q
      at q = ap (λ (x : Places). x q) (present-taken now files path present)

  -- what was taken is absent
  pub taken-here : (files : Files) → path ≢ [] → IsPresent files path → taken now path (places files) path ≡ None
  taken-here files nonempty present =
      ap (λ (x : Places). x path) (present-taken now files path present)
      ∙ ap (λ b. cond b (option_map (modified now) (cut path (places files) path)) (cut path (places files) path)) (no_same (parent_of path) path (parent_of-differs path nonempty))
      ∙ ap (λ b. cond b None (places files path)) (is_prefix-refl path)

  module _ (nonempty : path ≢ []) (t u : Places) (clear : IsCleared now path t u) where
    stage : Path
    stage = staging_of path

    pub staged_same : (rest : Path) → u (staging_of path ++ rest) ≡ t (staging_of path ++ rest)
    staged_same rest = clear.same (staging_of path ++ rest) (staged_outside path nonempty rest) (staged_no_parent path nonempty rest)

    pub stage_same : u (staging_of path) ≡ t (staging_of path)
    stage_same = clear.same (staging_of path) (stage_outside path nonempty) (no_same (parent_of path) (staging_of path) (λ e. parent_of-differs (staging_of path) (staging_nonempty path nonempty) (parent_of-staging_of path ∙ e)))

    carried_same : (rest : Path) → carried now (staging_of path) u rest ≡ carried now (staging_of path) t rest
    carried_same [] = ap (option_map (changed now)) stage_same
    carried_same (name ∷ rest) = staged_same (name ∷ rest)

    touched_same : (q : Path) → is_prefix path q ≡ false → touched now (staging_of path) (touched now path u) q ≡ touched now (staging_of path) (touched now path t) q
    touched_same q h =
        let up : same_path (parent_of (staging_of path)) q ≡ same_path (parent_of path) q = ap (λ p. same_path p q) (parent_of-staging_of path) in
        elim (cases_Bool (same_path (parent_of path) q)) [
          | inl e ↦ both_touched u t q (up ∙ e) e (modified_kept now (t q) (u q) (clear.kept q h))
          | inr d ↦ none_touched u q (up ∙ d) d ∙ clear.same q h d ∙ sym (none_touched t q (up ∙ d) d)
        ]
      where
        twice_at : (x : Places) (q : Path) (b : Bool) → same_path (parent_of (staging_of path)) q ≡ b → same_path (parent_of path) q ≡ b
            → touched now (staging_of path) (touched now path x) q ≡ cond b (option_map (modified now) (cond b (option_map (modified now) (x q)) (x q))) (cond b (option_map (modified now) (x q)) (x q))
        twice_at x q b e f =
            ap (λ c. cond c (option_map (modified now) (touched now path x q)) (touched now path x q)) e
            ∙ ap (λ c. cond b (option_map (modified now) (cond c (option_map (modified now) (x q)) (x q))) (cond c (option_map (modified now) (x q)) (x q))) f

        both_touched : (x y : Places) (q : Path) → same_path (parent_of (staging_of path)) q ≡ true → same_path (parent_of path) q ≡ true → option_map (modified now) (x q) ≡ option_map (modified now) (y q)
            → touched now (staging_of path) (touched now path x) q ≡ touched now (staging_of path) (touched now path y) q
        both_touched x y q e f same = twice_at x q true e f ∙ ap (option_map (modified now)) same ∙ sym (twice_at y q true e f)

        none_touched : (x : Places) (q : Path) → same_path (parent_of (staging_of path)) q ≡ false → same_path (parent_of path) q ≡ false → touched now (staging_of path) (touched now path x) q ≡ x q
        none_touched x q e f = twice_at x q false e f

    -- what comes of the Rename is the same, whatever made way
    pub moved_same : moved now (staging_of path) path u ≡ moved now (staging_of path) path t
    moved_same = λ i q. at q i
      where
        at : (q : Path) → moved now (staging_of path) path u q ≡ moved now (staging_of path) path t q
        at q = by (rest_under path q) refl
          where
            by : (o : Option Path) → rest_under path q ≡ o → moved now (staging_of path) path u q ≡ moved now (staging_of path) path t q
            by (Some rest) e =
                ap (moved_at now (staging_of path) path u q) e ∙ carried_same rest ∙ sym (ap (moved_at now (staging_of path) path t q) e)
            by None e =
                let outside : is_prefix path q ≡ false = sym (is_some-rest_under path q) ∙ ap is_some e in
                ap (moved_at now (staging_of path) path u q) e
                ∙ ap (λ o. cond (is_prefix (staging_of path) q) None o) (touched_same q outside)
                ∙ sym (ap (moved_at now (staging_of path) path t q) e)

-- ---- the Rename

module _ (now : ℕ) (path : Path) (nonempty : path ≢ []) (t : Places) where
  -- the staged object may come to its path, once that yields
  pub may_move : IsTreeIn t → IsPresentIn t (staging_of path) → Yields t (staging_of path) path → Movable t (staging_of path) path
  may_move tree present yields = record {
    present = present;
    no_root = staging_nonempty path nonempty;
    outside = path_outside path nonempty;
    parent = subst (IsKindIn Directory t) (parent_of-staging_of path) (tree.parents (staging_of path) present (staging_nonempty path nonempty));
    yields = yields;
  }

  -- the staging name is free then
  pub moved_away : moved now (staging_of path) path t (staging_of path) ≡ None
  moved_away =
      ap (moved_at now (staging_of path) path t (staging_of path)) (rest_under-None path (staging_of path) (stage_outside path nonempty))
      ∙ ap (λ b. cond b None (touched now (staging_of path) (touched now path t) (staging_of path))) (is_prefix-refl (staging_of path))

pub moved_differs : (now : ℕ) (path : Path) → path ≢ [] → (t v : Files) → IsPresent t (staging_of path) → places v ≡ moved now (staging_of path) path (places t) → Differ t v
moved_differs now path nonempty t v present is = (
  staging_of path,
  λ e. true_not_false (is_some (option_map object_state (places v (staging_of path)))) (sym (ap is_some e) ∙ still (places t (staging_of path)) present)
      (ap (λ o. is_some (option_map object_state o)) (ap (λ (x : Places). x (staging_of path)) is ∙ moved_away now path nonempty (places t))),
)
  where
    still : (o : Option Object) → is_some o ≡ true → is_some (option_map object_state o) ≡ true
    still None h = h
    still (Some x) h = refl

-- ---- the four ways in which a path yields

module _ (now : ℕ) (path : Path) (nonempty : path ≢ []) (files : Files) (tree : IsTree files) where
  -- an emptied directory yields to a directory
  pub yields_emptied : IsKindIn Directory (places files) (staging_of path) → IsKindIn Directory (places files) path → Yields (emptied now path files) (staging_of path) path
  yields_emptied staged old =
      directories
      (ap kind_of (emptied-outside now files path tree (staging_of path) (stage_outside path nonempty)) ∙ staged)
      (kept-kind now (places files path) (emptied now path files path) (emptied-kept now files path tree path (not_below_itself path)) ∙ old)
      (λ name. emptied-below now files path tree (path ++ name ∷ []) (is_below-append path name []))

  -- what was taken away yields to all
  pub yields_taken : IsPresent files path → Yields (taken now path (places files)) (staging_of path) path
  yields_taken present = absent (taken-here now path files nonempty present)
