-- Laws of the names in a directory: they rise strictly, they are those of the present children, and so presence decides them.
use Rattle.std.specs.Prelude.{◌≡◌, ℕ, Bool, true, false, ◌||◌, T, List, [], ◌∷◌, ◌++◌, map, Option, Some, None, is_some, refl}
use Rattle.std.proofs.Common.{sym, ap, ◌∙◌}
use Rattle.std.specs.List.{AllByRecursion, filter_map, cons_option, list_any}
use Rattle.std.specs.List.Sorted.{IsStrictlySortedBy}
use Rattle.std.specs.Option.{option_and_then}
use Rattle.std.specs.Ordering.{eq_by_cmp, is_eq, is_lt, ordering_then}
use Rattle.std.specs.declared.cmp.Ordering.{Ordering}
use Rattle.std.specs.declared.cmp.Ordering.TheVariants.{Less, Equal, Greater}
use Rattle.std.specs.Cmp.Lexicographic.{nat_list_cmp_total}
use Rattle.std.specs.FinMap as fin
use Rattle.std.specs.FinMap.Entries.{below_all, is_sorted}
use Rattle.std.proofs.lemmas.Map.Lookups.{btree_set_from_contains, exact_bytes}
use Rattle.pv_path.specs.Paths.{Path, path_cmp, rest_under}
use Rattle.pv_path.proofs.PathLaws.{name_cmp-refl, path_cmp-exact, rest_under-append, rest_under-Some}
use Rattle.pv_path.specs.Names.{name_cmp}
use Rattle.pv_steps.specs.declared.object.Object.{Object}
use Rattle.pv_steps.specs.Trees.{Files, places, single, child_name, names_below}
use Rattle.pv_path.proofs.Tests.{equal_of, less_of-T, each_T}

-- ---- children

single-Some : (r : Path) (n : List ℕ) → single r ≡ Some n → r ≡ n ∷ []
single-Some [] n e = cc
single-Some (m ∷ []) n e = cc
single-Some (m ∷ k ∷ r) n e = cc

pub child_name-Some : (path q : Path) (n : List ℕ) → child_name path q ≡ Some n → q ≡ path ++ n ∷ []
child_name-Some path q n =
    elim (rest_under path q) as (λ o. rest_under path q ≡ o → option_and_then single o ≡ Some n → q ≡ path ++ n ∷ []) [
      | None ↦ λ is e. cc
      | Some r ↦ λ is e. rest_under-Some path q r is ∙ ap (λ s. path ++ s) (single-Some r n e)
    ] refl

pub child_name-push : (path : Path) (n : List ℕ) → child_name path (path ++ n ∷ []) ≡ Some n
child_name-push path n = ap (option_and_then single) (rest_under-append path (n ∷ []))

-- two children of one path are in the order of their names
then_equal : (o : Ordering) → ordering_then o Equal ≡ o
then_equal Less = refl
then_equal Equal = refl
then_equal Greater = refl

pub path_cmp-children : (path : Path) (n m : List ℕ) → path_cmp (path ++ n ∷ []) (path ++ m ∷ []) ≡ name_cmp n m
path_cmp-children [] n m = then_equal (name_cmp n m)
path_cmp-children (k ∷ path) n m = ap (λ o. ordering_then o (path_cmp (path ++ n ∷ []) (path ++ m ∷ []))) (name_cmp-refl k) ∙ path_cmp-children path n m

-- ---- the names rise

module _ (path : Path) where
  -- the names of children above a child are above its name
  names_above : (k : Path) (n : List ℕ) → child_name path k ≡ Some n → (es : List (Path × Object)) → T (below_all path_cmp k es)
      → AllByRecursion (λ m. name_cmp n m ≡ Less) (filter_map (child_name path) (map (λ e. e.0) es))
  names_above k n is [] h = tt
  names_above k n is (e ∷ es) h =
      let parts = each_T (is_lt (path_cmp k e.0)) (below_all path_cmp k es) h in
      by (names_above k n is es parts.1) (less_of-T (path_cmp k e.0) parts.0) (child_name path e.0) refl
    where
      by : AllByRecursion (λ m. name_cmp n m ≡ Less) (filter_map (child_name path) (map (λ e. e.0) es)) → path_cmp k e.0 ≡ Less → (o : Option (List ℕ)) → child_name path e.0 ≡ o
          → AllByRecursion (λ m. name_cmp n m ≡ Less) (cons_option o (filter_map (child_name path) (map (λ e. e.0) es)))
      by rest below None at = rest
      by rest below (Some m) at =
          (sym (path_cmp-children path n m) ∙ ap (path_cmp (path ++ n ∷ [])) (sym (child_name-Some path e.0 m at)) ∙ ap (λ (q : Path). path_cmp q e.0) (sym (child_name-Some path k n is)) ∙ below, rest)

  names_rise : (es : List (Path × Object)) → T (is_sorted path_cmp es) → IsStrictlySortedBy name_cmp (filter_map (child_name path) (map (λ e. e.0) es))
  unfolding IsStrictlySortedBy
  names_rise [] h = tt
  names_rise (e ∷ es) h =
      let parts = each_T (below_all path_cmp e.0 es) (is_sorted path_cmp es) h in
      by parts.0 (names_rise es parts.1) (child_name path e.0) refl
    where
      by : T (below_all path_cmp e.0 es) → IsStrictlySortedBy name_cmp (filter_map (child_name path) (map (λ e. e.0) es)) → (o : Option (List ℕ)) → child_name path e.0 ≡ o
          → IsStrictlySortedBy name_cmp (cons_option o (filter_map (child_name path) (map (λ e. e.0) es)))
      by below rest None at = rest
      by below rest (Some n) at = (names_above e.0 n at es below, rest)

-- the names in a directory rise strictly
pub names_below-rise : (files : Files) (path : Path) → IsStrictlySortedBy name_cmp (names_below files path)
names_below-rise files path = names_rise path (fin.entries files) (fin.entries_sorted files)

-- ---- the names are those of the present children

names_are : (path : Path) (n : List ℕ) (ks : List Path) → list_any (eq_by_cmp name_cmp n) (filter_map (child_name path) ks) ≡ list_any (eq_by_cmp path_cmp (path ++ n ∷ [])) ks
names_are path n [] = refl
names_are path n (k ∷ ks) = by (names_are path n ks) (child_name path k) refl
  where
    -- what is no child is not this child
    other : child_name path k ≡ None → (b : Bool) → eq_by_cmp path_cmp (path ++ n ∷ []) k ≡ b → b ≡ false
    other at true e =
        let same : path ++ n ∷ [] ≡ k = path_cmp-exact (path ++ n ∷ []) k (equal_of (path_cmp (path ++ n ∷ []) k) e) in
        absurd (let no : None ≡ Some n = sym at ∙ ap (child_name path) (sym same) ∙ child_name-push path n in cc)
    other at false e = refl

    by : list_any (eq_by_cmp name_cmp n) (filter_map (child_name path) ks) ≡ list_any (eq_by_cmp path_cmp (path ++ n ∷ [])) ks → (o : Option (List ℕ)) → child_name path k ≡ o
        → list_any (eq_by_cmp name_cmp n) (cons_option o (filter_map (child_name path) ks)) ≡ (eq_by_cmp path_cmp (path ++ n ∷ []) k || list_any (eq_by_cmp path_cmp (path ++ n ∷ [])) ks)
    by rest None at = rest ∙ ap (λ b. b || list_any (eq_by_cmp path_cmp (path ++ n ∷ [])) ks) (sym (other at (eq_by_cmp path_cmp (path ++ n ∷ []) k) refl))
    by rest (Some m) at =
        let one : eq_by_cmp name_cmp n m ≡ eq_by_cmp path_cmp (path ++ n ∷ []) k = ap is_eq (sym (path_cmp-children path n m)) ∙ ap (eq_by_cmp path_cmp (path ++ n ∷ [])) (sym (child_name-Some path k m at)) in
        ap (λ b. b || list_any (eq_by_cmp name_cmp n) (filter_map (child_name path) ks)) one ∙ ap (λ b. eq_by_cmp path_cmp (path ++ n ∷ []) k || b) rest

-- a name is in a directory exactly if something stands at the path and the name
pub names_below-are : (files : Files) (path : Path) (n : List ℕ) → list_any (eq_by_cmp name_cmp n) (names_below files path) ≡ is_some (places files (path ++ n ∷ []))
names_below-are files path n = names_are path n (fin.keys files) ∙ sym (fin.contains_key-keys files (path ++ n ∷ []))

-- ---- presence decides the names

-- trees that have the same children present at a path have the same names there
pub names_below-same : (t u : Files) (path : Path) → ((n : List ℕ) → is_some (places t (path ++ n ∷ [])) ≡ is_some (places u (path ++ n ∷ [])))
    → names_below t path ≡ names_below u path
names_below-same t u path same =
    btree_set_from_contains nat_list_cmp_total (record { keys = names_below t path }) (record { keys = names_below u path }) (names_below-rise t path) (names_below-rise u path)
    (λ n. names_below-are t path n ∙ same n ∙ sym (names_below-are u path n)) exact_bytes
