-- The tree of slots: what it has at each path is what stands where the path leads.
use Rattle.std.proofs.Common.{◌≡◌, Result, Ok, Err, IfOk, ℕ, suc, zero, ◌<◌, ◌≤◌, Bool, true, false, cond, eqb, ◌&&◌, ◌||◌, T, ◌⊎◌, inl, inr, List, [], ◌∷◌, ◌++◌, length, map, Option, Some, None, option_map, slice_get, refl, sym, ap, subst, ◌∙◌, arith}
use Rattle.std.specs.FinMap as fin
use Rattle.std.specs.FinMap.{find, is_sorted}
use Rattle.std.specs.FinMap.Entries.{below_all}
use Rattle.std.specs.List.{list_any, IsDistinct, AllByRecursion}
use Rattle.std.specs.Option.{option_and_then, option_or, option_map_or}
use Rattle.std.specs.Ordering.{eq_by_cmp, is_eq, is_lt, ordering_then}
use Rattle.std.specs.declared.cmp.Ordering.{Ordering}
use Rattle.std.specs.declared.cmp.Ordering.TheVariants.{Less, Equal, Greater}
use Rattle.std.proofs.lemmas.Bool.{cases_lt}
use Rattle.std.proofs.lemmas.Bool.Decides.{Decides-eqb}
use Rattle.std.proofs.lemmas.Map.Steps.{length-le_from_distinct_below}
use Rattle.pv_path.specs.Paths.{Path, path_cmp}
use Rattle.pv_path.proofs.PathLaws.{name_cmp-refl, name_cmp-exact}
use Rattle.pv_steps.specs.declared.object.Object.{Object}
use Rattle.pv_steps.specs.Trees.{Files, places}
use Rattle.pv_tree.specs.declared.slot.Slot.{Slot}
use Rattle.pv_path.specs.Names.{name_cmp}
use Rattle.pv_tree.specs.Children.{IsSorted}
use Rattle.pv_tree.specs.Edges.{Edges, led}
use Rattle.pv_tree.specs.Slots.{child_in, object_in, number_in, places_in, below, entries_below, entries_in, files_of, IsForest, object_of}
use Rattle.pv_tree.proofs.EdgeLaws.{Once, led-on, no_longer}
use Rattle.pv_path.proofs.Tests.{equal_of, less_of-T, each_T, both_T}

abbrev pub Entries : Type 0
Entries = List (Path × Object)

-- ---- the order of paths below a name

cmp_below : (n : List ℕ) (p q : Path) → path_cmp (n ∷ p) (n ∷ q) ≡ path_cmp p q
cmp_below n p q = ap (λ o. ordering_then o (path_cmp p q)) (name_cmp-refl n)

cmp_less : (n m : List ℕ) (p q : Path) → name_cmp n m ≡ Less → path_cmp (n ∷ p) (m ∷ q) ≡ Less
cmp_less n m p q e = ap (λ o. ordering_then o (path_cmp p q)) e

below_same : (n : List ℕ) (p : Path) (es : Entries) → below_all path_cmp (n ∷ p) (map (below n) es) ≡ below_all path_cmp p es
below_same n p [] = refl
below_same n p (e ∷ es) = ap (λ o. is_lt o && below_all path_cmp (n ∷ p) (map (below n) es)) (cmp_below n p e.0) ∙ ap (λ b. is_lt (path_cmp p e.0) && b) (below_same n p es)

below_less : (n m : List ℕ) (p : Path) (es : Entries) → name_cmp n m ≡ Less → T (below_all path_cmp (n ∷ p) (map (below m) es))
below_less n m p [] e = tt
below_less n m p (x ∷ es) e = both_T (is_lt (path_cmp (n ∷ p) (m ∷ x.0))) _ (subst (λ o. T (is_lt o)) (sym (cmp_less n m p x.0 e)) tt) (below_less n m p es e)

below_append : (p : Path) (xs ys : Entries) → T (below_all path_cmp p xs) → T (below_all path_cmp p ys) → T (below_all path_cmp p (xs ++ ys))
below_append p [] ys h k = k
below_append p (x ∷ xs) ys h k = both_T _ _ (each_T _ _ h).0 (below_append p xs ys (each_T _ _ h).1 k)

module _ (at : ℕ → Entries) where
  -- what lies below later names comes later
  below_children : (n : List ℕ) (p : Path) (cs : List (List ℕ × ℕ)) → T (below_all name_cmp n cs) → T (below_all path_cmp (n ∷ p) (entries_below at cs))
  below_children n p [] h = tt
  below_children n p (c ∷ cs) h =
      below_append (n ∷ p) (map (below c.0) (at c.1)) (entries_below at cs) (below_less n c.0 p (at c.1) (less_of-T _ (each_T _ _ h).0)) (below_children n p cs (each_T _ _ h).1)

  root_first : (cs : List (List ℕ × ℕ)) → T (below_all path_cmp [] (entries_below at cs))
  root_first [] = tt
  root_first (c ∷ cs) = below_append [] (map (below c.0) (at c.1)) (entries_below at cs) (named c.0 (at c.1)) (root_first cs)
    where
      named : (n : List ℕ) (es : Entries) → T (below_all path_cmp [] (map (below n) es))
      named n [] = tt
      named n (e ∷ es) = named n es

  join : (n : List ℕ) (es ys : Entries) → T (is_sorted path_cmp es) → T (is_sorted path_cmp ys) → ((p : Path) → T (below_all path_cmp (n ∷ p) ys)) → T (is_sorted path_cmp (map (below n) es ++ ys))
  join n [] ys h k after = k
  join n (e ∷ es) ys h k after =
      both_T _ _ (below_append (n ∷ e.0) (map (below n) es) ys (subst T (sym (below_same n e.0 es)) (each_T _ _ h).0) (after e.0)) (join n es ys (each_T _ _ h).1 k after)

  sorted_below : ((k : ℕ) → T (is_sorted path_cmp (at k))) → (cs : List (List ℕ × ℕ)) → IsSorted cs → T (is_sorted path_cmp (entries_below at cs))
  sorted_below each [] h = tt
  sorted_below each (c ∷ cs) h =
      join c.0 (at c.1) (entries_below at cs) (each c.1) (sorted_below each cs (each_T _ _ h).1) (λ p. below_children c.0 p cs (each_T _ _ h).0)

module _ (slots : List Slot) where
  -- the entries are in the order of the paths
  pub sorted_in : (depth i : ℕ) → T (is_sorted path_cmp (entries_in depth slots i))
  sorted_in zero i = tt
  sorted_in (suc depth) i = by (slice_get slots i) (sorted_in depth)
    where
      by : (o : Option Slot) → ((k : ℕ) → T (is_sorted path_cmp (entries_in depth slots k)))
          → T (is_sorted path_cmp (option_map_or (λ s. ([], object_of s) ∷ entries_below (entries_in depth slots) (fin.entries s.content.children)) o []))
      by None each = tt
      by (Some s) each =
          both_T _ _ (root_first (entries_in depth slots) (fin.entries s.content.children))
          (sorted_below (entries_in depth slots) each (fin.entries s.content.children) (fin.entries_sorted s.content.children))

-- ---- what is found among them

find_append : (q : Path) (xs ys : Entries) → find path_cmp q (xs ++ ys) ≡ option_or (find path_cmp q xs) (find path_cmp q ys)
find_append q [] ys = refl
find_append q (x ∷ xs) ys = elim (eq_by_cmp path_cmp q x.0) as (λ b. cond b (Some x.1) (find path_cmp q (xs ++ ys)) ≡ option_or (cond b (Some x.1) (find path_cmp q xs)) (find path_cmp q ys)) [
  | true ↦ refl
  | false ↦ find_append q xs ys
]

find_same : (n : List ℕ) (p : Path) (es : Entries) → find path_cmp (n ∷ p) (map (below n) es) ≡ find path_cmp p es
find_same n p [] = refl
find_same n p (e ∷ es) = ap (λ o. cond (is_eq o) (Some e.1) (find path_cmp (n ∷ p) (map (below n) es))) (cmp_below n p e.0) ∙ ap (cond (eq_by_cmp path_cmp p e.0) (Some e.1)) (find_same n p es)

find_other : (n m : List ℕ) (p : Path) (es : Entries) → eq_by_cmp name_cmp n m ≡ false → find path_cmp (n ∷ p) (map (below m) es) ≡ None
find_other n m p [] e = refl
find_other n m p (x ∷ es) e = ap (λ b. cond b (Some x.1) (find path_cmp (n ∷ p) (map (below m) es))) (apart (name_cmp n m) e) ∙ find_other n m p es e
  where
    apart : (o : Ordering) → is_eq o ≡ false → is_eq (ordering_then o (path_cmp p x.0)) ≡ false
    apart Less e = refl
    apart Equal e = (let no : true ≡ false = e in cc)
    apart Greater e = refl

pub not_below : (n m : List ℕ) (cs : List (List ℕ × ℕ)) → n ≡ m → T (below_all name_cmp m cs) → find name_cmp n cs ≡ None
not_below n m [] e h = refl
not_below n m (c ∷ cs) e h =
    ap (λ o. cond (is_eq o) (Some c.1) (find name_cmp n cs)) (ap (λ v. name_cmp v c.0) e ∙ less_of-T (name_cmp m c.0) (each_T _ _ h).0) ∙ not_below n m cs e (each_T _ _ h).1

find_below : (at : ℕ → Entries) (n : List ℕ) (p : Path) (cs : List (List ℕ × ℕ)) → IsSorted cs
    → find path_cmp (n ∷ p) (entries_below at cs) ≡ option_and_then (λ k. find path_cmp p (at k)) (find name_cmp n cs)
find_below at n p [] h = refl
find_below at n p (c ∷ cs) h =
    find_append (n ∷ p) (map (below c.0) (at c.1)) (entries_below at cs) ∙ by (eq_by_cmp name_cmp n c.0) refl (find_below at n p cs (each_T _ _ h).1)
  where
    last : (o : Option Object) → option_or o None ≡ o
    last None = refl
    last (Some x) = refl

    by : (b : Bool) → eq_by_cmp name_cmp n c.0 ≡ b → find path_cmp (n ∷ p) (entries_below at cs) ≡ option_and_then (λ k. find path_cmp p (at k)) (find name_cmp n cs)
        → option_or (find path_cmp (n ∷ p) (map (below c.0) (at c.1))) (find path_cmp (n ∷ p) (entries_below at cs)) ≡ option_and_then (λ k. find path_cmp p (at k)) (cond b (Some c.1) (find name_cmp n cs))
    by true e rest =
        let same : n ≡ c.0 = name_cmp-exact n c.0 (equal_of (name_cmp n c.0) e) in
        ap (option_or (find path_cmp (n ∷ p) (map (below c.0) (at c.1)))) (rest ∙ ap (option_and_then (λ k. find path_cmp p (at k))) (not_below n c.0 cs same (each_T _ _ h).0))
        ∙ last (find path_cmp (n ∷ p) (map (below c.0) (at c.1)))
        ∙ ap (λ (v : List ℕ). find path_cmp (v ∷ p) (map (below c.0) (at c.1))) same ∙ find_same c.0 p (at c.1)
    by false e rest = ap (λ o. option_or o (find path_cmp (n ∷ p) (entries_below at cs))) (find_other n c.0 p (at c.1) e) ∙ rest

module _ (slots : List Slot) where
  -- what stands where a path leads from a number
  abbrev stands : ℕ → Path → Option Object
  stands i q = option_and_then (object_in slots) (led (child_in slots) i q)

  child_found : (i : ℕ) (n : List ℕ) (s : Slot) → slice_get slots i ≡ Some s → child_in slots i n ≡ find name_cmp n (fin.entries s.content.children)
  child_found i n s e = ap (option_and_then (λ (x : Slot). fin.get x.content.children n)) e ∙ fin.get-entries s.content.children n

  pub found_in : (depth i : ℕ) (q : Path) → length q < depth → find path_cmp q (entries_in depth slots i) ≡ stands i q
  found_in zero i q h = absurd (omega arith)
  found_in (suc depth) i q h = by (slice_get slots i) refl q h (found_in depth)
    where
      by : (o : Option Slot) → slice_get slots i ≡ o → (q : Path) → length q < suc depth
          → ((k : ℕ) (p : Path) → length p < depth → find path_cmp p (entries_in depth slots k) ≡ stands k p)
          → find path_cmp q (option_map_or (λ s. ([], object_of s) ∷ entries_below (entries_in depth slots) (fin.entries s.content.children)) o []) ≡ stands i q
      by None e [] h rest = sym (ap (option_map object_of) e)
      by None e (n ∷ p) h rest =
          sym (ap (λ v. option_and_then (object_in slots) (option_and_then (λ k. led (child_in slots) k p) (option_and_then (λ (x : Slot). fin.get x.content.children n) v))) e)
      by (Some s) e [] h rest = sym (ap (option_map object_of) e)
      by (Some s) e (n ∷ p) h rest =
          find_below (entries_in depth slots) n p (fin.entries s.content.children) (fin.entries_sorted s.content.children)
          ∙ step (find name_cmp n (fin.entries s.content.children))
          ∙ sym (ap (λ v. option_and_then (object_in slots) (option_and_then (λ k. led (child_in slots) k p) v)) (child_found i n s e))
        where
          step : (v : Option ℕ) → option_and_then (λ k. find path_cmp p (entries_in depth slots k)) v ≡ option_and_then (object_in slots) (option_and_then (λ k. led (child_in slots) k p) v)
          step None = refl
          step (Some k) = rest k p (omega (arith, h))

  pub missed_in : (depth i : ℕ) (q : Path) → depth ≤ length q → find path_cmp q (entries_in depth slots i) ≡ None
  missed_in zero i q h = refl
  missed_in (suc depth) i q h = by (slice_get slots i) q h (missed_in depth)
    where
      by : (o : Option Slot) (q : Path) → suc depth ≤ length q → ((k : ℕ) (p : Path) → depth ≤ length p → find path_cmp p (entries_in depth slots k) ≡ None)
          → find path_cmp q (option_map_or (λ s. ([], object_of s) ∷ entries_below (entries_in depth slots) (fin.entries s.content.children)) o []) ≡ None
      by None q h rest = refl
      by (Some s) [] h rest = absurd (omega arith)
      by (Some s) (n ∷ p) h rest =
          find_below (entries_in depth slots) n p (fin.entries s.content.children) (fin.entries_sorted s.content.children) ∙ step (find name_cmp n (fin.entries s.content.children))
        where
          step : (v : Option ℕ) → option_and_then (λ k. find path_cmp p (entries_in depth slots k)) v ≡ None
          step None = refl
          step (Some k) = rest k p (omega (arith, h))

-- ---- a path has fewer names than there are slots

-- the numbers on the way of a path
abbrev trail : Edges → ℕ → Path → List ℕ
trail g i [] = i ∷ []
trail g i (n ∷ p) = i ∷ option_map_or (λ k. trail g k p) (g i n) []

on_trail : (g : Edges) (i : ℕ) (p : Path) (x : ℕ) → list_any (eqb x) (trail g i p) ≡ true → (r : Path) × (led g i r ≡ Some x)
on_trail g i [] x h = by (eqb x i) refl h
  where
    by : (b : Bool) → eqb x i ≡ b → (b || false) ≡ true → (r : Path) × (led g i r ≡ Some x)
    by true e h = ([], ap Some (sym ((Decides-eqb x i).0 e)))
    by false e h = absurd (let no : false ≡ true = h in cc)
on_trail g i (n ∷ p) x h = by (eqb x i) refl (g i n) refl (λ k. on_trail g k p x) h
  where
    by : (b : Bool) → eqb x i ≡ b → (o : Option ℕ) → g i n ≡ o → ((k : ℕ) → list_any (eqb x) (trail g k p) ≡ true → (r : Path) × (led g k r ≡ Some x))
        → (b || list_any (eqb x) (option_map_or (λ k. trail g k p) o [])) ≡ true → (r : Path) × (led g i r ≡ Some x)
    by true e o is rest h = ([], ap Some (sym ((Decides-eqb x i).0 e)))
    by false e None is rest h = absurd (let no : false ≡ true = h in cc)
    by false e (Some k) is rest h = let found = rest k h in (n ∷ found.0, ap (option_and_then (λ j. led g j found.0)) is ∙ found.1)

length_trail : (g : Edges) (i : ℕ) (p : Path) (k : ℕ) → led g i p ≡ Some k → length (trail g i p) ≡ suc (length p)
length_trail g i [] k h = refl
length_trail g i (n ∷ p) k h = by (g i n) h (λ j. length_trail g j p k)
  where
    by : (o : Option ℕ) → option_and_then (λ j. led g j p) o ≡ Some k → ((j : ℕ) → led g j p ≡ Some k → length (trail g j p) ≡ suc (length p))
        → suc (length (option_map_or (λ j. trail g j p) o [])) ≡ suc (suc (length p))
    by None h rest = absurd (let no : None ≡ Some k = h in cc)
    by (Some j) h rest = ap (λ v. suc v) (rest j h)

-- no number stands twice on a way from the root
none_any : (x : ℕ) (ks : List ℕ) → (list_any (eqb x) ks ≡ true → ⊥) → AllByRecursion (λ y. eqb x y ≡ false) ks
none_any x [] h = tt
none_any x (k ∷ ks) h = by (eqb x k) refl h (none_any x ks)
  where
    by : (b : Bool) → eqb x k ≡ b → ((b || list_any (eqb x) ks) ≡ true → ⊥) → ((list_any (eqb x) ks ≡ true → ⊥) → AllByRecursion (λ y. eqb x y ≡ false) ks) → (eqb x k ≡ false) × AllByRecursion (λ y. eqb x y ≡ false) ks
    by true e h rest = absurd (h refl)
    by false e h rest = (e, rest h)

distinct_trail : (g : Edges) → Once g → (p : Path) (i : ℕ) (q : Path) → led g 0 p ≡ Some i → IsDistinct eqb (trail g i q)
unfolding IsDistinct
distinct_trail g once p i [] at = (tt, tt)
distinct_trail g once p i (n ∷ q) at = by (g i n) refl (λ k there. distinct_trail g once (p ++ n ∷ []) k q there)
  where
    by : (o : Option ℕ) → g i n ≡ o → ((k : ℕ) → led g 0 (p ++ n ∷ []) ≡ Some k → IsDistinct eqb (trail g k q))
        → AllByRecursion (λ y. eqb i y ≡ false) (option_map_or (λ k. trail g k q) o []) × IsDistinct eqb (option_map_or (λ k. trail g k q) o [])
    by None is rest = (tt, tt)
    by (Some k) is rest =
        let next : led g 0 (p ++ n ∷ []) ≡ Some k = led-on g 0 i p (n ∷ []) at ∙ ap (option_and_then (λ j. led g j [])) is in (
          none_any i (trail g k q) (λ h.
              let found = on_trail g k q i h in
              let back : (p ++ n ∷ []) ++ found.0 ≡ p = once ((p ++ n ∷ []) ++ found.0) p i (led-on g 0 k (p ++ n ∷ []) found.0 next ∙ found.1) at in
              no_longer p n found.0 back),
          rest k next,
        )

pub short : (slots : List Slot) → IsForest slots → (q : Path) (i : ℕ) → number_in slots q ≡ Some i → length q < length slots
short slots forest q i at =
    let few = length-le_from_distinct_below (trail (child_in slots) 0 q) (length slots) (distinct_trail (child_in slots) forest.once [] 0 q refl)
    (λ x on. let found = on_trail (child_in slots) 0 q x on in forest.within found.0 x found.1) in
    omega (arith, few, length_trail (child_in slots) 0 q i at)

-- ---- the tree has what stands where paths lead

pub places_of_at : (slots : List Slot) → IsForest slots → (q : Path) → places (files_of slots) q ≡ places_in slots q
places_of_at slots forest q =
    fin.get-from_sorted path_cmp (entries_in (length slots) slots 0) q (sorted_in slots (length slots) 0) ∙ by (cases_lt (length q) (length slots))
  where
    by : (length q < length slots) ⊎ (length slots ≤ length q) → find path_cmp q (entries_in (length slots) slots 0) ≡ places_in slots q
    by (inl h) = found_in slots (length slots) 0 q h
    by (inr h) = missed_in slots (length slots) 0 q h ∙ sym (none (number_in slots q) refl)
      where
        none : (o : Option ℕ) → number_in slots q ≡ o → option_and_then (object_in slots) o ≡ None
        none None e = refl
        none (Some i) e = absurd (let less = short slots forest q i e in omega arith)

pub places_of : (slots : List Slot) → IsForest slots → places (files_of slots) ≡ places_in slots
places_of slots forest = λ j q. places_of_at slots forest q j

-- the entries of the tree
pub entries_of : (slots : List Slot) → fin.entries (files_of slots) ≡ entries_in (length slots) slots 0
entries_of slots = fin.entries-from_sorted path_cmp (entries_in (length slots) slots 0) (sorted_in slots (length slots) 0)

pub walk_entries : {E : Type 0} → (r : Result Entries E) (slots : List Slot) (t : Files) → files_of slots ≡ t → IfOk r (λ w. w ≡ entries_in (length slots) slots 0) → IfOk r (λ w. w ≡ fin.entries t)
walk_entries (Ok w) slots t same is = is ∙ sym (entries_of slots) ∙ ap fin.entries same
walk_entries (Err e) slots t same is = tt
