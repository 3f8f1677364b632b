-- What a folder holds: listings and the object at each path, and what is real in its tree.
use Rattle.std.proofs.Common.{◌≡◌, ◌≢◌, ◌∙◌, Bool, true, false, cond, ◌&&◌, T, List, [], ◌∷◌, ◌++◌, Option, Some, None, is_some, option_map, refl, sym, ap, subst, ℕ, append_assoc}
use Rattle.std.specs.List.{cons_option, filter_map}
use Rattle.std.specs.Ordering.{eq_by_cmp, is_eq, is_lt, ordering_then}
use Rattle.std.specs.declared.cmp.Ordering.TheVariants.{Less}
use Rattle.std.specs.FinMap as fin
use Rattle.std.specs.FinMap.Entries.{below_all, find, is_sorted}
use Rattle.pv_path.specs.Names.{same_bytes}
use Rattle.pv_path.specs.Paths.{Path, path_cmp, rest_under, same_path}
use Rattle.pv_path.proofs.PathLaws.{name_cmp-refl, parent_of-push, rest_under-Some, rest_under-append, same_bytes-decides, same_bytes-refl, tied-equal, tied-same}
use Rattle.pv_path.proofs.Tests.{both_T, each_T, less_of-T}
use Rattle.pv_steps.specs.Trees.{child_name}
use Rattle.pv_steps.proofs.NameLaws.{child_name-Some, child_name-push}
use Rattle.pv_folder.specs.declared.item.HostKind.{HostKind}
use Rattle.pv_folder.specs.declared.item.HostKind.TheVariants as kind
use Rattle.pv_folder.specs.Content.{Content, Held, HostObject, IsContent, IsDirectory, IsPresent, held, item_below, items_in, kind_at, kind_of}
use Rattle.pv_folder.specs.Folders.{object_below, objects_in, tree_path}
use Rattle.pv_folder.specs.Reading.{kind_named}

-- ---- listings

tied_child : (p : Path) (n m : List ℕ) → eq_by_cmp path_cmp (p ++ n ∷ []) (p ++ m ∷ []) ≡ same_bytes n m
tied_child p n m = tied-same (p ++ n ∷ []) (p ++ m ∷ []) ∙ by p
  where
    both_ways : (a b : Bool) → (a ≡ true → b ≡ true) → (b ≡ true → a ≡ true) → a ≡ b
    both_ways true b f g = sym (f refl)
    both_ways false true f g = g refl
    both_ways false false f g = refl

    alone : (b : Bool) → (b && true) ≡ b
    alone true = refl
    alone false = refl

    turned : same_bytes m n ≡ same_bytes n m
    turned = both_ways (same_bytes m n) (same_bytes n m)
        (λ e. subst (λ (k : List ℕ). same_bytes k m ≡ true) ((same_bytes-decides m n).0 e) (same_bytes-refl m))
        (λ e. subst (λ (k : List ℕ). same_bytes k n ≡ true) ((same_bytes-decides n m).0 e) (same_bytes-refl n))

    by : (p : Path) → same_path (p ++ m ∷ []) (p ++ n ∷ []) ≡ same_bytes n m
    by [] = alone (same_bytes m n) ∙ turned
    by (k ∷ p) = ap (λ b. b && same_path (p ++ m ∷ []) (p ++ n ∷ [])) (same_bytes-refl k) ∙ by p

-- the kind that is listed for a name is that of the object there
named_in : (p : Path) (n : List ℕ) (es : List (Path × HostObject)) → kind_named n (filter_map (item_below p) es) ≡ option_map kind_of (find path_cmp (p ++ n ∷ []) es)
named_in p n [] = refl
named_in p n (e ∷ es) = by (child_name p e.0) refl (named_in p n es)
  where
    found : (b : Bool) (o : Option HostObject) (k : Option HostKind) → k ≡ option_map kind_of o → cond b (Some (kind_of e.1)) k ≡ option_map kind_of (cond b (Some e.1) o)
    found true o k same = refl
    found false o k same = same

    missed : (b : Bool) → eq_by_cmp path_cmp (p ++ n ∷ []) e.0 ≡ b → child_name p e.0 ≡ None → b ≡ false
    missed false is none = refl
    missed true is none =
        let same : p ++ n ∷ [] ≡ e.0 = tied-equal (p ++ n ∷ []) e.0 is in
        absurd (let no : Some n ≡ None = sym (child_name-push p n) ∙ ap (child_name p) same ∙ none in cc)

    by : (o : Option (List ℕ)) → child_name p e.0 ≡ o → kind_named n (filter_map (item_below p) es) ≡ option_map kind_of (find path_cmp (p ++ n ∷ []) es)
        → kind_named n (cons_option (option_map (λ name. record { name = name; kind = kind_of e.1 }) o) (filter_map (item_below p) es))
        ≡ option_map kind_of (cond (eq_by_cmp path_cmp (p ++ n ∷ []) e.0) (Some e.1) (find path_cmp (p ++ n ∷ []) es))
    by None is rest = rest ∙ ap (λ b. option_map kind_of (cond b (Some e.1) (find path_cmp (p ++ n ∷ []) es))) (sym (missed (eq_by_cmp path_cmp (p ++ n ∷ []) e.0) refl is))
    by (Some m) is rest =
        let at : e.0 ≡ p ++ m ∷ [] = child_name-Some p e.0 m is in
        let tied : eq_by_cmp path_cmp (p ++ n ∷ []) e.0 ≡ same_bytes n m = ap (λ (q : Path). eq_by_cmp path_cmp (p ++ n ∷ []) q) at ∙ tied_child p n m in
        found (same_bytes n m) (find path_cmp (p ++ n ∷ []) es) (kind_named n (filter_map (item_below p) es)) rest
        ∙ ap (λ b. option_map kind_of (cond b (Some e.1) (find path_cmp (p ++ n ∷ []) es))) (sym tied)

pub kind_named-in : (c : Content) (p : Path) (n : List ℕ) → kind_named n (items_in c p) ≡ kind_at (held c) (p ++ n ∷ [])
kind_named-in c p n = named_in p n (fin.entries c) ∙ ap (option_map kind_of) (sym (fin.get-entries c (p ++ n ∷ [])))

-- ---- what stands above

pub directory_present : (t : Held) (p : Path) → IsDirectory t p → IsPresent t p
directory_present t p is = by (t p) is
  where
    by : (o : Option HostObject) → option_map kind_of o ≡ Some kind.Directory → is_some o ≡ true
    by None e = cc
    by (Some o) e = refl

some_path : (p : Path) (n : List ℕ) → p ++ n ∷ [] ≢ []
some_path [] n e = cc
some_path (k ∷ p) n e = cc

parent_there : (t : Held) → IsContent t → (p : Path) (n : List ℕ) → IsPresent t (p ++ n ∷ []) → IsDirectory t p
parent_there t c p n h = subst (IsDirectory t) (parent_of-push p n) (c.parents (p ++ n ∷ []) h (some_path p n))

-- above what is there are directories
pub above : (t : Held) → IsContent t → (r : Path) (p : Path) (n : List ℕ) → IsPresent t (p ++ n ∷ r) → IsDirectory t p
above t c [] p n h = parent_there t c p n h
above t c (m ∷ r) p n h =
    parent_there t c p n (directory_present t (p ++ n ∷ []) (above t c r (p ++ n ∷ []) m (subst (IsPresent t) (sym (append_assoc p (n ∷ []) (m ∷ r))) h)))

pub child_there : (t : Held) → IsContent t → (p : Path) (n : List ℕ) (r : Path) → IsPresent t (p ++ n ∷ r) → IsPresent t (p ++ n ∷ [])
child_there t c p n [] h = h
child_there t c p n (m ∷ r) h =
    directory_present t (p ++ n ∷ []) (above t c r (p ++ n ∷ []) m (subst (IsPresent t) (sym (append_assoc p (n ∷ []) (m ∷ r))) h))

-- ---- the objects in a folder's tree

order_below : (t p q : Path) → path_cmp (t ++ p) (t ++ q) ≡ path_cmp p q
order_below [] p q = refl
order_below (k ∷ t) p q = ap (λ o. ordering_then o (path_cmp (t ++ p) (t ++ q))) (name_cmp-refl k) ∙ order_below t p q

module _ (folder : Path) where
  at : Path
  at = tree_path folder

  less_below : (p : Path) (e : Path × HostObject) (r : Path) → rest_under (tree_path folder) e.0 ≡ Some r → path_cmp (tree_path folder ++ p) e.0 ≡ Less → path_cmp p r ≡ Less
  less_below p e r is less = sym (order_below (tree_path folder) p r) ∙ ap (path_cmp (tree_path folder ++ p)) (sym (rest_under-Some (tree_path folder) e.0 r is)) ∙ less

  below_in : (p : Path) (es : List (Path × HostObject)) → T (below_all path_cmp (tree_path folder ++ p) es) → T (below_all path_cmp p (filter_map (object_below folder) es))
  below_in p [] h = tt
  below_in p (e ∷ es) h =
      let parts = each_T (is_lt (path_cmp (tree_path folder ++ p) e.0)) (below_all path_cmp (tree_path folder ++ p) es) h in
      by (rest_under (tree_path folder) e.0) refl (less_of-T (path_cmp (tree_path folder ++ p) e.0) parts.0) (below_in p es parts.1)
    where
      by : (o : Option Path) → rest_under (tree_path folder) e.0 ≡ o → path_cmp (tree_path folder ++ p) e.0 ≡ Less → T (below_all path_cmp p (filter_map (object_below folder) es))
          → T (below_all path_cmp p (cons_option (option_map (λ rest. (rest, e.1)) o) (filter_map (object_below folder) es)))
      by None is less rest = rest
      by (Some r) is less rest = both_T (is_lt (path_cmp p r)) (below_all path_cmp p (filter_map (object_below folder) es)) (subst (λ o. T (is_lt o)) (sym (less_below p e r is less)) tt) rest

  sorted_in : (es : List (Path × HostObject)) → T (is_sorted path_cmp es) → T (is_sorted path_cmp (filter_map (object_below folder) es))
  sorted_in [] h = tt
  sorted_in (e ∷ es) h =
      let parts = each_T (below_all path_cmp e.0 es) (is_sorted path_cmp es) h in
      by (rest_under (tree_path folder) e.0) refl parts.0 (sorted_in es parts.1)
    where
      by : (o : Option Path) → rest_under (tree_path folder) e.0 ≡ o → T (below_all path_cmp e.0 es) → T (is_sorted path_cmp (filter_map (object_below folder) es))
          → T (is_sorted path_cmp (cons_option (option_map (λ rest. (rest, e.1)) o) (filter_map (object_below folder) es)))
      by None is below rest = rest
      by (Some r) is below rest =
          both_T (below_all path_cmp r (filter_map (object_below folder) es)) (is_sorted path_cmp (filter_map (object_below folder) es))
          (below_in r es (subst (λ (q : Path). T (below_all path_cmp q es)) (rest_under-Some (tree_path folder) e.0 r is) below)) rest

  tied_below : (t p q : Path) → eq_by_cmp path_cmp (t ++ p) (t ++ q) ≡ eq_by_cmp path_cmp p q
  tied_below t p q = ap is_eq (order_below t p q)

  found_in : (p : Path) (es : List (Path × HostObject)) → find path_cmp p (filter_map (object_below folder) es) ≡ find path_cmp (tree_path folder ++ p) es
  found_in p [] = refl
  found_in p (e ∷ es) = by (rest_under (tree_path folder) e.0) refl (found_in p es)
    where
      missed : (b : Bool) → eq_by_cmp path_cmp (tree_path folder ++ p) e.0 ≡ b → rest_under (tree_path folder) e.0 ≡ None → b ≡ false
      missed false is none = refl
      missed true is none =
          let same : tree_path folder ++ p ≡ e.0 = tied-equal (tree_path folder ++ p) e.0 is in
          absurd (let no : Some p ≡ None = sym (rest_under-append (tree_path folder) p) ∙ ap (rest_under (tree_path folder)) same ∙ none in cc)

      by : (o : Option Path) → rest_under (tree_path folder) e.0 ≡ o → find path_cmp p (filter_map (object_below folder) es) ≡ find path_cmp (tree_path folder ++ p) es
          → find path_cmp p (cons_option (option_map (λ rest. (rest, e.1)) o) (filter_map (object_below folder) es))
          ≡ cond (eq_by_cmp path_cmp (tree_path folder ++ p) e.0) (Some e.1) (find path_cmp (tree_path folder ++ p) es)
      by None is rest = rest ∙ ap (λ b. cond b (Some e.1) (find path_cmp (tree_path folder ++ p) es)) (sym (missed (eq_by_cmp path_cmp (tree_path folder ++ p) e.0) refl is))
      by (Some r) is rest =
          let tied : eq_by_cmp path_cmp (tree_path folder ++ p) e.0 ≡ eq_by_cmp path_cmp p r =
          ap (λ (q : Path). eq_by_cmp path_cmp (tree_path folder ++ p) q) (rest_under-Some (tree_path folder) e.0 r is) ∙ tied_below (tree_path folder) p r in
          ap (cond (eq_by_cmp path_cmp p r) (Some e.1)) rest
          ∙ ap (λ b. cond b (Some e.1) (find path_cmp (tree_path folder ++ p) es)) (sym tied)

  pub objects_sorted : (c : Content) → T (is_sorted path_cmp (objects_in folder c))
  objects_sorted c = sorted_in (fin.entries c) (fin.entries_sorted c)

  -- what is found among them is the object at that path below `tree`
  pub objects_found : (c : Content) (p : Path) → find path_cmp p (objects_in folder c) ≡ held c (tree_path folder ++ p)
  objects_found c p = found_in p (fin.entries c) ∙ sym (fin.get-entries c (tree_path folder ++ p))
