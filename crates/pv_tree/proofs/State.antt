-- The tree in memory: what its reads tell, and what a step makes of it.
use Rattle.std.proofs.Common.{◌≡◌, ◌≢◌, ◌⊎◌, inl, inr, ℕ, ◌^◌, ◌<◌, Bool, true, false, cond, T, List, [], ◌∷◌, ◌++◌, map, Option, Some, None, option_map, is_some, Result, Ok, Err, OnOk, OnErr, IfOk, refl, sym, ap, subst, ◌∙◌, arith, suc, get_or, slice_get, nat_lt}
use Rattle.std.specs.List.{list_all, AllByRecursion}
use Rattle.std.specs.List.Sorted.{IsStrictlySortedBy}
use Rattle.std.specs.Option.{option_and_then}
use Rattle.std.specs.Ordering.{eq_by_cmp, is_eq, is_lt}
use Rattle.std.specs.declared.cmp.Ordering.{Ordering}
use Rattle.std.specs.declared.cmp.Ordering.TheVariants.{Less, Equal, Greater}
use Rattle.std.proofs.lemmas.Bool.Decides.{nat_tests}
use Rattle.std.proofs.lemmas.Map.Lookups.{btree_set_from_contains, exact_bytes}
use Rattle.std.specs.Cmp.Lexicographic.{nat_list_cmp_total}
use Rattle.std.specs.FinMap as fin
use Rattle.std.specs.FinMap.Entries.{below_all, is_sorted}
use Rattle.pv_acl.specs.declared.part.Acl.{Acl}
use Rattle.pv_steps.specs.declared.attr.Attr.{Attr}
use Rattle.pv_path.specs.Paths.{Path, path_cmp, path_total, has_names, parent_of, same_path, same_path-decides}
use Rattle.pv_path.proofs.PathLaws.{path_cmp-refl, path_cmp-exact}
use Rattle.pv_steps.specs.declared.node.Kind.TheVariants.{Directory}
use Rattle.pv_steps.specs.declared.object.Object.{Object}
use Rattle.pv_steps.specs.declared.step.Step.{Step}
use Rattle.pv_steps.specs.declared.step.Step.TheVariants.{Write, SetMode, SetOwner, SetAcl, SetAttrs, SetLetters, SetStamps, Unlink, RemoveDir}
use Rattle.pv_steps.specs.Objects.{IsObject}
use Rattle.pv_steps.specs.Trees.{Files, Places, places, kind_of, IsTree, IsTreeIn, IsKind, IsKindIn, IsEmptyIn, names_below}
use Rattle.pv_steps.specs.Steps.{Can, StepFits, after, after_at, on_at, gone, made, put_at, IsOther}
use Rattle.pv_steps.proofs.StepLaws.{same_files, places_after}
use Rattle.pv_steps.proofs.TreeLaws.{tree_after, IsTreeIn-put, not_absent, present_of_kind, present_above, directory_above}
use Rattle.pv_steps.proofs.NameLaws.{names_below-rise, names_below-are}
use Rattle.pv_tree.specs.declared.slot.Slot.{Slot}
use Rattle.pv_tree.specs.Changes.{IsRemovable, change_of}
use Rattle.pv_path.specs.Names.{name_cmp}
use Rattle.pv_tree.specs.Children.{Children}
use Rattle.pv_tree.specs.Edges.{led}
use Rattle.pv_tree.specs.Near.{place_of}
use Rattle.pv_tree.specs.Slots.{child_in, object_in, number_in, slot_in, places_in, files_of, IsForest, AreFree, IsTreeOf, object_of}
use Rattle.pv_tree.proofs.EdgeLaws.{led-on}
use Rattle.pv_tree.proofs.Files.{places_of}
use Rattle.pv_tree.proofs.ForestLaws.{object_within}
use Rattle.pv_path.proofs.Tests.{less_of-T, each_T}

pub files_from : (slots : List Slot) (t : Files) → IsForest slots → places_in slots ≡ places t → files_of slots ≡ t
files_from slots t forest is = same_files (files_of slots) t (λ q. ap (λ (p : Places). p q) (places_of slots forest ∙ is))

-- ---- what may be removed

removable_object : (t : Places) (path : Path) → IsTreeIn t → IsOther Directory t path → IsRemovable t path
removable_object t path tree can =
    let below_root : path ≢ [] = λ e. can.1 (ap (λ (p : Path). kind_of (t p)) e ∙ tree.root) in
    record {
      no_root = below_root;
      parent = present_of_kind t (parent_of path) Directory (tree.parents path can.0 below_root);
      alone = λ name rest. none (t (path ++ name ∷ rest)) (λ some. can.1 (directory_above t tree path name rest some));
    }
  where
    none : (o : Option Object) → (is_some o ≡ true → ⊥) → o ≡ None
    none None h = refl
    none (Some x) h = absurd (h refl)

removable_directory : (t : Places) (path : Path) → IsTreeIn t → IsKindIn Directory t path → IsEmptyIn t path → path ≢ [] → IsRemovable t path
removable_directory t path tree dir empty below_root = record {
  no_root = below_root;
  parent = present_of_kind t (parent_of path) Directory (tree.parents path (present_of_kind t path Directory dir) below_root);
  alone = λ name rest. none (t (path ++ name ∷ rest)) (λ some.
      not_absent t (path ++ name ∷ []) (present_above t tree (path ++ name ∷ []) rest (subst (λ (p : Path). is_some (t p) ≡ true) (onto path name rest) some)) (empty name));
}
  where
    none : (o : Option Object) → (is_some o ≡ true → ⊥) → o ≡ None
    none None h = refl
    none (Some x) h = absurd (h refl)

    onto : (p : Path) (n : List ℕ) (r : Path) → p ++ n ∷ r ≡ (p ++ n ∷ []) ++ r
    onto [] n r = refl
    onto (m ∷ p) n r = ap (λ (s : Path). m ∷ s) (onto p n r)

-- the condition of a step that removes the object at a path, and what is left after it
pub removable : (t : Places) (step : Step) (path : Path) → IsTreeIn t → path ≡ place_of step → ((p : Path) × (step ≡ Unlink p)) ⊎ ((p : Path) × (step ≡ RemoveDir p)) → Can t step → IsRemovable t path
removable t step path tree at (inl e) can = subst (IsRemovable t) (sym (at ∙ ap place_of e.1)) (removable_object t e.0 tree (subst (Can t) e.1 can))
removable t step path tree at (inr e) can =
    let parts : Can t (RemoveDir e.0) = subst (Can t) e.1 can in
    subst (IsRemovable t) (sym (at ∙ ap place_of e.1)) (removable_directory t e.0 tree parts.0 parts.1.0 parts.1.1)

removed_as : (t : Places) (step s : Step) (path : Path) (now : ℕ) → path ≡ place_of step → step ≡ s → gone now (place_of s) t ≡ after_at t s now → gone now path t ≡ after_at t step now
removed_as t step s path now at e is = ap (λ (p : Path). gone now p t) at ∙ subst (λ (v : Step). gone now (place_of v) t ≡ after_at t v now) (sym e) is

pub removed_at : (t : Places) (step : Step) (path : Path) (now : ℕ) → path ≡ place_of step → ((p : Path) × (step ≡ Unlink p)) ⊎ ((p : Path) × (step ≡ RemoveDir p)) → gone now path t ≡ after_at t step now
removed_at t step path now at (inl e) = removed_as t step (Unlink e.0) path now at e.1 refl
removed_at t step path now at (inr e) = removed_as t step (RemoveDir e.0) path now at e.1 refl

-- what a step leaves that makes an object
pub made_at : (t : Places) (step s : Step) (path : Path) (o x : Object) (now : ℕ) → path ≡ place_of step → step ≡ s → o ≡ x → made now (place_of s) x t ≡ after_at t s now
    → made now path o t ≡ after_at t step now
made_at t step s path o x now at e same is =
    ap (λ (p : Path). made now p o t) at ∙ ap (λ (y : Object). made now (place_of step) y t) same
    ∙ subst (λ (v : Step). made now (place_of v) x t ≡ after_at t v now) (sym e) is

changed_as : (t : Places) (step s : Step) (path : Path) (now : ℕ) → path ≡ place_of step → step ≡ s → on_at (place_of s) (change_of s now) t ≡ after_at t s now
    → on_at path (change_of step now) t ≡ after_at t step now
changed_as t step s path now at e is =
    ap (λ (p : Path). on_at p (change_of step now) t) at ∙ subst (λ (v : Step). on_at (place_of v) (change_of v now) t ≡ after_at t v now) (sym e) is

-- what a step leaves that changes the object at a path
pub changed_at : (t : Places) (step : Step) (path : Path) (now : ℕ) → path ≡ place_of step
    → ((p : Path) × (content : List ℕ) × (step ≡ Write p content)) ⊎ (((p : Path) × (mode : ℕ) × (step ≡ SetMode p mode)) ⊎ (((p : Path) × (uid : ℕ) × (gid : ℕ) × (step ≡ SetOwner p uid gid))
    ⊎ (((p : Path) × (acl : Acl) × (step ≡ SetAcl p acl)) ⊎ (((p : Path) × (attrs : List Attr) × (step ≡ SetAttrs p attrs)) ⊎ (((p : Path) × (letters : ℕ) × (step ≡ SetLetters p letters))
    ⊎ ((p : Path) × (access : ℕ) × (modify : ℕ) × (step ≡ SetStamps p access modify)))))))
    → on_at path (change_of step now) t ≡ after_at t step now
changed_at t step path now at (inl e) = changed_as t step (Write e.0 e.1) path now at e.2 refl
changed_at t step path now at (inr (inl e)) = changed_as t step (SetMode e.0 e.1) path now at e.2 refl
changed_at t step path now at (inr (inr (inl e))) = changed_as t step (SetOwner e.0 e.1 e.2) path now at e.3 refl
changed_at t step path now at (inr (inr (inr (inl e)))) = changed_as t step (SetAcl e.0 e.1) path now at e.2 refl
changed_at t step path now at (inr (inr (inr (inr (inl e))))) = changed_as t step (SetAttrs e.0 e.1) path now at e.2 refl
changed_at t step path now at (inr (inr (inr (inr (inr (inl e)))))) = changed_as t step (SetLetters e.0 e.1) path now at e.2 refl
changed_at t step path now at (inr (inr (inr (inr (inr (inr e)))))) = changed_as t step (SetStamps e.0 e.1 e.2) path now at e.3 refl

-- ---- reads

pub slot_object : (slots : List Slot) (path : Path) → option_map object_of (slot_in slots path) ≡ places_in slots path
slot_object slots path = elim (number_in slots path) as (λ o. option_map object_of (option_and_then (slice_get slots) o) ≡ option_and_then (object_in slots) o) [ None ↦ refl | Some i ↦ refl ]

module _ (slots : List Slot) (t : Files) (path : Path) (forest : IsForest slots) (same : files_of slots ≡ t) where
  pub object_there : places_in slots path ≡ places t path
  object_there = sym (ap (λ (p : Places). p path) (places_of slots forest)) ∙ ap (λ (f : Files). places f path) same

  pub read_object : (s : Slot) → Some s ≡ slot_in slots path → Some (object_of s) ≡ places t path
  read_object s is = ap (option_map object_of) is ∙ slot_object slots path ∙ object_there

  pub read_none : None ≡ slot_in slots path → None ≡ places t path
  read_none is = ap (option_map object_of) is ∙ slot_object slots path ∙ object_there

-- ---- names in a directory

sorted_keys : (es : List (List ℕ × ℕ)) → T (is_sorted name_cmp es) → IsStrictlySortedBy name_cmp (map (λ e. e.0) es)
unfolding IsStrictlySortedBy
sorted_keys [] h = tt
sorted_keys (e ∷ es) h =
    let parts = each_T (below_all name_cmp e.0 es) (is_sorted name_cmp es) h in
    (above e.0 es parts.0, sorted_keys es parts.1)
  where
    above : (n : List ℕ) (es : List (List ℕ × ℕ)) → T (below_all name_cmp n es) → AllByRecursion (λ m. name_cmp n m ≡ Less) (map (λ e. e.0) es)
    above n [] h = tt
    above n (x ∷ es) h = let parts = each_T (is_lt (name_cmp n x.0)) (below_all name_cmp n es) h in (less_of-T (name_cmp n x.0) parts.0, above n es parts.1)

module _ (slots : List Slot) (t : Files) (path : Path) (s : Slot) (forest : IsForest slots) (same : files_of slots ≡ t) (is : Some s ≡ slot_in slots path) where
  child_present : (n : List ℕ) → is_some (fin.get s.content.children n) ≡ is_some (places t (path ++ n ∷ []))
  child_present n = by (number_in slots path) refl is ∙ ap is_some (object_there slots t (path ++ n ∷ []) forest same)
    where
      held : (k : ℕ) → number_in slots path ≡ Some k → (o : Option ℕ) → number_in slots (path ++ n ∷ []) ≡ o → is_some o ≡ is_some (option_and_then (object_in slots) o)
      held k at None e = refl
      held k at (Some j) e = sym (object_within slots j (forest.within (path ++ n ∷ []) j e))

      end : (o : Option ℕ) → option_and_then (λ j. led (child_in slots) j []) o ≡ o
      end None = refl
      end (Some j) = refl

      by : (o : Option ℕ) → number_in slots path ≡ o → Some s ≡ option_and_then (slice_get slots) o → is_some (fin.get s.content.children n) ≡ is_some (places_in slots (path ++ n ∷ []))
      by None at e = absurd (let no : Some s ≡ None = e in cc)
      by (Some k) at e =
          let child : fin.get s.content.children n ≡ number_in slots (path ++ n ∷ []) =
          ap (option_and_then (λ (x : Slot). fin.get x.content.children n)) e ∙ sym (led-on (child_in slots) 0 k path (n ∷ []) at ∙ end (child_in slots k n)) in
          ap is_some child ∙ held k at (number_in slots (path ++ n ∷ [])) refl

  pub names_same : fin.keys s.content.children ≡ names_below t path
  names_same =
      btree_set_from_contains nat_list_cmp_total (record { keys = fin.keys s.content.children }) (record { keys = names_below t path })
      (sorted_keys (fin.entries s.content.children) (fin.entries_sorted s.content.children)) (names_below-rise t path)
      (λ n. sym (fin.contains_key-keys s.content.children n) ∙ child_present n ∙ sym (names_below-are t path n)) exact_bytes

pub names_are : {E : Type 0} → (r : Result (List (List ℕ)) E) (slots : List Slot) (t : Files) (path : Path) (s : Slot) → IsForest slots → files_of slots ≡ t → Some s ≡ slot_in slots path
    → IfOk r (λ names. names ≡ fin.keys s.content.children) → IfOk r (λ names. names ≡ names_below t path)
names_are (Ok names) slots t path s forest same is ok = ok ∙ names_same slots t path s forest same is
names_are (Err e) slots t path s forest same is ok = tt

-- a directory has a slot
pub slot_of_kind : (slots : List Slot) (t : Files) (path : Path) → IsForest slots → files_of slots ≡ t → IsKind Directory t path → None ≡ slot_in slots path → ⊥
slot_of_kind slots t path forest same kind none =
    not_absent (places t) path (present_of_kind (places t) path Directory kind) (sym (read_none slots t path forest same none))

-- ---- a step

pub tree_in : (slots : List Slot) (free : List ℕ) → IsTreeOf slots free → IsTreeIn (places_in slots)
tree_in slots free h = subst IsTreeIn (places_of slots h.forest) h.tree

pub can_in : (slots : List Slot) (t : Files) (step : Step) → IsForest slots → files_of slots ≡ t → Can (places t) step → Can (places_in slots) step
can_in slots t step forest same can = subst (λ (p : Places). Can p step) (sym (ap places same) ∙ places_of slots forest) can

pub stepped : (slots new : List Slot) (step : Step) (now : ℕ) → IsForest slots → IsForest new → places_in new ≡ after_at (places_in slots) step now → files_of new ≡ after (files_of slots) step now
stepped slots new step now forest kept is =
    files_from new (after (files_of slots) step now) kept
    (is ∙ ap (λ (t : Places). after_at t step now) (sym (places_of slots forest)) ∙ (λ j q. sym (places_after (files_of slots) step now q) j))

pub told_tree : {E : Type 0} → (r : Result (Unit {0}) E) (slots new : List Slot) (free rest : List ℕ) (t : Files) (step : Step) (now : ℕ) → files_of slots ≡ t → IsTreeOf slots free
    → IsForest new → AreFree new rest → OnOk r (places_in new ≡ after_at (places_in slots) step now) → OnErr r (new ≡ slots) → Can (places t) step → StepFits step → now < 2 ^ 64 → IsTreeOf new rest
told_tree (Ok u) slots new free rest t step now same h forest spare ok err can fits small = record {
  forest = forest;
  spare = spare;
  tree = subst IsTree (sym (stepped slots new step now h.forest forest ok)) (tree_after (files_of slots) step now h.tree (subst (λ (f : Files). Can (places f) step) (sym same) can) fits small);
}
told_tree (Err e) slots new free rest t step now same h forest spare ok err can fits small = record {
  forest = forest;
  spare = spare;
  tree = subst (λ (v : List Slot). IsTree (files_of v)) (sym err) h.tree;
}

pub told_state : {E : Type 0} → (r : Result (Unit {0}) E) (slots new : List Slot) (t : Files) (step : Step) (now : ℕ) → files_of slots ≡ t → IsForest slots → IsForest new
    → OnOk r (places_in new ≡ after_at (places_in slots) step now) → OnOk r (files_of new ≡ after t step now)
told_state (Ok u) slots new t step now same forest kept ok = stepped slots new step now forest kept ok ∙ ap (λ (f : Files). after f step now) same
told_state (Err e) slots new t step now same forest kept ok = tt

-- ---- an object added

same_tied : (p q : Path) → eq_by_cmp path_cmp q p ≡ same_path p q
same_tied p q = by (same_path p q) refl (path_cmp q p) refl
  where
    by : (t : Bool) → same_path p q ≡ t → (o : Ordering) → path_cmp q p ≡ o → is_eq o ≡ t
    by true s o e = let is : p ≡ q = (same_path-decides p q).0 s in let equal : Equal ≡ o = sym (path_cmp-refl q) ∙ ap (path_cmp q) (sym is) ∙ e in rw (← equal) refl
    by false s Less e = refl
    by false s Equal e = absurd (let t : same_path p q ≡ true = (same_path-decides p q).1 (sym (path_cmp-exact q p e)) in cc)
    by false s Greater e = refl

module _ (slots new : List Slot) (t : Files) (path : Path) (o : Object) (same : files_of slots ≡ t) (forest : IsForest slots) (kept : IsForest new) where
  places_then : places_in slots ≡ places t
  places_then = sym (places_of slots forest) ∙ ap places same

  pub added_files : places_in new ≡ put_at path (Some o) (places_in slots) → files_of new ≡ fin.insert t path o
  added_files is =
      files_from new (fin.insert t path o) kept
      (is ∙ ap (put_at path (Some o)) places_then
      ∙ (λ j q. (ap (λ b. cond b (Some o) (places t q)) (sym (same_tied path q)) ∙ sym (fin.get-insert path_total t path o q)) j))

  pub added_tree : {A E : Type 0} → (r : Result A E) (free rest : List ℕ) → IsTreeOf slots free → AreFree new rest → OnOk r (places_in new ≡ put_at path (Some o) (places_in slots)) → OnErr r (new ≡ slots)
      → places t path ≡ None → IsKind Directory t (parent_of path) → has_names path ≡ true → IsObject o → IsTreeOf new rest
  added_tree (Ok u) free rest h spare ok err absent parent named whole =
      let tree : IsTreeIn (places t) = subst IsTree same h.tree in
      let place : places (files_of new) ≡ put_at path (Some o) (places t) = places_of new kept ∙ ok ∙ ap (put_at path (Some o)) places_then in
      record { forest = kept; spare = spare; tree = subst IsTreeIn (sym place) (IsTreeIn-put path (places t) tree o (absent, parent) named whole) }
  added_tree (Err e) free rest h spare ok err absent parent named whole = record {
    forest = kept;
    spare = spare;
    tree = subst (λ (v : List Slot). IsTree (files_of v)) (sym err) h.tree;
  }

-- ---- a root alone

abbrev alone : Object → Places
alone o [] = Some o
alone o (n ∷ p) = None

module _ (s : Slot) (object_state : s.content.children ≡ fin.empty) where
  no_child : (n : List ℕ) → child_in (s ∷ []) 0 n ≡ None
  no_child n = ap (λ (c : Children). fin.get c n) object_state ∙ fin.get-empty name_cmp n

  root_numbers : (q : Path) (i : ℕ) → number_in (s ∷ []) q ≡ Some i → (q ≡ []) × (i ≡ 0)
  root_numbers [] i e = (refl, let both : Some i ≡ Some 0 = sym e in cc)
  root_numbers (n ∷ p) i e = absurd (let no : None ≡ Some i = sym (ap (option_and_then (λ k. led (child_in (s ∷ [])) k p)) (no_child n)) ∙ e in cc)

  pub root_forest : IsForest (s ∷ [])
  root_forest = record {
    within = λ q i e. let at = (root_numbers q i e).1 in omega arith;
    once = λ p q i a b. (root_numbers p i a).0 ∙ sym (root_numbers q i b).0;
  }

  pub root_free : AreFree (s ∷ []) []
  root_free = record {
    within = λ k i e. absurd (let no : None ≡ Some i = e in cc);
    apart = λ k i e. absurd (let no : None ≡ Some i = e in cc);
    once = λ k m i e f. absurd (let no : None ≡ Some i = e in cc);
  }

  root_at : (q : Path) → places_in (s ∷ []) q ≡ alone (object_of s) q
  root_at [] = refl
  root_at (n ∷ p) = ap (λ o. option_and_then (object_in (s ∷ [])) (option_and_then (λ k. led (child_in (s ∷ [])) k p) o)) (no_child n)

  root_map : (q : Path) → alone (object_of s) q ≡ places (fin.insert fin.empty [] (object_of s)) q
  root_map [] = sym (fin.get-insert path_total fin.empty [] (object_of s) [])
  root_map (n ∷ p) = sym (fin.get-insert path_total fin.empty [] (object_of s) (n ∷ p) ∙ fin.get-empty path_cmp (n ∷ p))

  pub root_files : files_of (s ∷ []) ≡ fin.insert fin.empty [] (object_of s)
  root_files = files_from (s ∷ []) (fin.insert fin.empty [] (object_of s)) root_forest (λ j q. (root_at q ∙ root_map q) j)

  pub root_tree : s.node.kind ≡ Directory → IsObject (object_of s) → IsTreeOf (s ∷ []) []
  root_tree directory whole = record {
    forest = root_forest;
    spare = root_free;
    tree = subst IsTreeIn (sym (places_of (s ∷ []) root_forest ∙ (λ j q. root_at q j))) (record {
      root = ap Some directory;
      parents = parents;
      names = names;
      objects = objects;
    });
  }
    where
      parents : (p : Path) → is_some (alone (object_of s) p) ≡ true → p ≢ [] → kind_of (alone (object_of s) (parent_of p)) ≡ Some Directory
      parents [] h other = absurd (other refl)
      parents (n ∷ p) h other = absurd (let no : false ≡ true = h in cc)

      names : (p : Path) → is_some (alone (object_of s) p) ≡ true → has_names p ≡ true
      names [] h = refl
      names (n ∷ p) h = absurd (let no : false ≡ true = h in cc)

      objects : (p : Path) (x : Object) → alone (object_of s) p ≡ Some x → IsObject x
      objects [] x h = subst IsObject (let is : (object_of s) ≡ x = cc in is) whole
      objects (n ∷ p) x h = absurd (let no : None ≡ Some x = h in cc)

-- ---- bytes

pub all_small : (xs : List ℕ) → ((i : ℕ) → get_or xs i 0 < 256) → list_all (λ b. nat_lt b 256) xs ≡ true
all_small [] h = refl
all_small (x ∷ xs) h =
    let first : nat_lt x 256 ≡ true = let small : x < 256 = h 0 in grind (arith, nat_tests) in
    rw first (all_small xs (λ i. h (suc i)))

-- ---- by the result of a call

pub done : {E : Type 0} → (r : Result (Unit {0}) E) (a b c : Places) → b ≡ c → OnOk r (a ≡ b) → OnOk r (a ≡ c)
done (Ok u) a b c is ok = ok ∙ is
done (Err e) a b c is ok = tt

pub new_tree : (s : Slot) (slots : List Slot) (free : List ℕ) (o : Object) → s.content.children ≡ fin.empty → object_of s ≡ o → slots ≡ s ∷ [] → free ≡ [] → o.node.kind ≡ Directory → IsObject o → IsTreeOf slots free
new_tree s slots free o object_state is one none directory whole =
    subst (λ (v : List Slot). IsTreeOf v free) (sym one) (subst (λ (v : List ℕ). IsTreeOf (s ∷ []) v) (sym none)
    (root_tree s object_state (ap (λ (x : Object). x.node.kind) is ∙ directory) (subst IsObject (sym is) whole)))

pub new_files : (s : Slot) (slots : List Slot) (o : Object) → s.content.children ≡ fin.empty → object_of s ≡ o → slots ≡ s ∷ [] → files_of slots ≡ fin.insert fin.empty [] o
new_files s slots o object_state is one = ap files_of one ∙ root_files s object_state ∙ ap (fin.insert fin.empty []) is

-- ---- the directory of a path
