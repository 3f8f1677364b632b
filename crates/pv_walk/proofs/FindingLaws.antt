-- Laws of paths that are found: lists of paths in byte order are decided by their members, and a pattern is followed
-- component by component.
use Rattle.std.specs.Prelude.{◌≡◌, ℕ, ◌+◌, ◌<◌, Bool, true, false, cond, not, ◌&&◌, ◌||◌, T, List, [], ◌∷◌, ◌++◌, map, filter, take, length, Option, Some, None, is_some}
use Rattle.std.proofs.Common.{refl, sym, ap, subst, ◌∙◌, inl, inr, get_or, append_assoc, arith}
use Rattle.std.specs.List.{AllByRecursion, list_any, dedup}
use Rattle.std.specs.List.Sorted.{IsStrictlySortedBy}
use Rattle.std.specs.Option.{option_map_or}
use Rattle.std.specs.Cmp.Lexicographic.{pointwise, lists_equiv, nat_list_eq_equiv}
use Rattle.std.specs.Ordering.{eq_by_cmp, is_eq, is_lt}
use Rattle.std.specs.declared.cmp.Ordering.TheVariants.{Less}
use Rattle.std.specs.FinMap as fin
use Rattle.std.specs.FinMap.Entries.{below_all, is_sorted}
use Rattle.std.proofs.lemmas.List.Folds.{list_any-append, list_any_more}
use Rattle.std.proofs.lemmas.List.Elements.{filter_more}
use Rattle.std.proofs.lemmas.List.Kept.{IsStrictlySortedBy-filter, Contains-dedup, Contains-from_dedup}
use Rattle.std.proofs.lemmas.Map.Lookups.{btree_set_from_contains}
use Rattle.std.proofs.lemmas.Map.Views.{any-filter_same, list_any-from_Contains, Contains-from_any}
use Rattle.std.proofs.Math.Bool.{and_comm, and-false, and-true, or-false}
use Rattle.pv_path.specs.Names.{is_staging}
use Rattle.pv_path.specs.Paths.{Path, path_cmp, path_total, same_path, same_path-decides, has_staging, parent_of}
use Rattle.pv_path.proofs.PathLaws.{path_cmp-refl, path_cmp-exact, name_cmp-refl, name_cmp-exact, path_ends, parent_of-push, has_staging-append, tied-same}
use Rattle.pv_glob.specs.declared.element.Element.{Element}
use Rattle.pv_glob.specs.Matching.{matches, some_matches, component_matches}
use Rattle.pv_glob.proofs.MatchingLaws.{literal_alone}
use Rattle.pv_glob.specs.declared.element.Element.TheVariants.{Byte}
use Rattle.pv_steps.specs.declared.node.Kind.TheVariants.{Directory}
use Rattle.pv_steps.specs.declared.object.Object.{Object}
use Rattle.pv_steps.specs.Trees.{Files, places, kind_of, child_name, names_below, IsTree}
use Rattle.pv_path.specs.Names.{name_cmp}
use Rattle.pv_steps.proofs.NameLaws.{child_name-Some, child_name-push, names_below-are}
use Rattle.pv_steps.proofs.TreeLaws.{present_above, present_of_kind, directory_above}
use Rattle.pv_walk.specs.Removal.{is_one_of}
use Rattle.pv_walk.specs.Listing.{stands_below, IsListing}
use Rattle.pv_walk.proofs.RemovalLaws.{cond-true}
use Rattle.pv_walk.proofs.TakingLaws.{one_of-some, one_of-counted}
use Rattle.pv_walk.specs.Finding.{extends}
use Rattle.pv_path.proofs.Tests.{equal_of, less_of-T, same_tests, each_T}

-- ---- paths of a tree are in order

above_all : (k : Path) (es : List (Path × Object)) → T (below_all path_cmp k es) → AllByRecursion (λ q. path_cmp k q ≡ Less) (map (λ e. e.0) es)
above_all k [] h = tt
above_all k (e ∷ es) h =
    let parts = each_T (is_lt (path_cmp k e.0)) (below_all path_cmp k es) h in
    (less_of-T (path_cmp k e.0) parts.0, above_all k es parts.1)

keys_rise : (es : List (Path × Object)) → T (is_sorted path_cmp es) → IsStrictlySortedBy path_cmp (map (λ e. e.0) es)
unfolding IsStrictlySortedBy
keys_rise [] h = tt
keys_rise (e ∷ es) h =
    let parts = each_T (below_all path_cmp e.0 es) (is_sorted path_cmp es) h in
    (above_all e.0 es parts.0, keys_rise es parts.1)

pub keys_in_order : (files : Files) → IsStrictlySortedBy path_cmp (fin.keys files)
keys_in_order files = keys_rise (fin.entries files) (fin.entries_sorted files)

-- ---- members

pub one_of-tied : (paths : List Path) (q : Path) → list_any (eq_by_cmp path_cmp q) paths ≡ is_one_of paths q
one_of-tied paths q = ap (λ (f : Path → Bool). list_any f paths) (λ i p. tied-same q p i)

pub same_tied : (p q : Path) → same_path p q ≡ eq_by_cmp path_cmp p q
same_tied p q =
    same_tests (same_path p q) (eq_by_cmp path_cmp p q)
    (λ e. ap (λ v. is_eq (path_cmp p v)) (sym ((same_path-decides p q).0 e)) ∙ ap is_eq (path_cmp-refl p))
    (λ e. (same_path-decides p q).1 (path_cmp-exact p q (equal_of (path_cmp p q) e)))

-- a path that stands twice is left once
pub one_of-dedup : (q : Path) (paths : List Path) → is_one_of (dedup same_path paths) q ≡ is_one_of paths q
one_of-dedup q paths = same_tests (is_one_of (dedup same_path paths) q) (is_one_of paths q) forth back
  where
    equal : (x y : Path) → same_path x y ≡ true → x ≡ y
    equal x y e = (same_path-decides x y).0 e

    alike : (xs : List Path) → is_one_of xs q ≡ list_any (same_path q) xs
    alike xs = ap (λ (f : Path → Bool). list_any f xs) (λ i p. swapped p i)
      where
        swapped : (p : Path) → same_path p q ≡ same_path q p
        swapped p = same_tests (same_path p q) (same_path q p) (λ e. (same_path-decides q p).1 (sym (equal p q e))) (λ e. (same_path-decides p q).1 (sym (equal q p e)))

    forth : is_one_of (dedup same_path paths) q ≡ true → is_one_of paths q ≡ true
    forth h = alike paths ∙ list_any-from_Contains (lists_equiv nat_list_eq_equiv) q paths (Contains-from_dedup same_path paths q (Contains-from_any equal q (dedup same_path paths) (sym (alike (dedup same_path paths)) ∙ h)))

    back : is_one_of paths q ≡ true → is_one_of (dedup same_path paths) q ≡ true
    back h = alike (dedup same_path paths) ∙ list_any-from_Contains (lists_equiv nat_list_eq_equiv) q (dedup same_path paths) (Contains-dedup (lists_equiv nat_list_eq_equiv) equal paths q (Contains-from_any equal q paths (sym (alike paths) ∙ h)))

-- a list in order is decided by its members
pub in_order_is : (files : Files) (f : Path → Bool) (paths : List Path) → IsStrictlySortedBy path_cmp paths
    → ((q : Path) → is_one_of paths q ≡ (is_some (places files q) && f q)) → paths ≡ filter f (fin.keys files)
in_order_is files f paths rises members =
    btree_set_from_contains path_total (record { keys = paths }) (record { keys = filter f (fin.keys files) }) rises
    (IsStrictlySortedBy-filter path_cmp f (fin.keys files) (keys_in_order files))
    (λ q.
    one_of-tied paths q ∙ members q ∙ and_comm (is_some (places files q)) (f q)
    ∙ ap (λ b. f q && b) (fin.contains_key-keys files q)
    ∙ sym (any-filter_same (eq_by_cmp path_cmp q) f (f q) (λ k e. ap f (sym (path_cmp-exact q k (equal_of (path_cmp q k) e)))) (fin.keys files)))
    path_cmp-exact

-- ---- one component more

-- where a path and one name lie directly below one of some paths, it is the path
pub none_there : (f : List ℕ → Bool) (q : Path) (paths : List Path) → ((p : Path) → child_name p q ≡ None) → (b : Bool)
    → list_any (λ p. b && option_map_or f (child_name p q) false) paths ≡ false
none_there f q [] childless b = refl
none_there f q (p ∷ paths) childless b =
    ap (λ x. x || list_any (λ r. b && option_map_or f (child_name r q) false) paths) (ap (λ o. b && option_map_or f o false) (childless p) ∙ and-false b)
    ∙ none_there f q paths childless b

pub no_child : (p above : Path) (n : List ℕ) → same_path p above ≡ false → child_name p (above ++ n ∷ []) ≡ None
no_child p above n apart = by (child_name p (above ++ n ∷ [])) refl
  where
    by : (o : Option (List ℕ)) → child_name p (above ++ n ∷ []) ≡ o → o ≡ None
    by None e = refl
    by (Some m) e =
        let same : p ≡ above = sym (parent_of-push p m) ∙ ap parent_of (sym (child_name-Some p (above ++ n ∷ []) m e)) ∙ parent_of-push above n in
        absurd (let no : same_path p above ≡ true = (same_path-decides p above).1 same in cc)

or_and : (a b c : Bool) → ((a && b) || (c && b)) ≡ ((a || c) && b)
or_and true true c = refl
or_and true false true = refl
or_and true false false = refl
or_and false b c = refl

pub one_above : (f : List ℕ → Bool) (above : Path) (n : List ℕ) (b : Bool) (paths : List Path)
    → list_any (λ p. b && option_map_or f (child_name p (above ++ n ∷ [])) false) paths ≡ (is_one_of paths above && (b && f n))
one_above f above n b [] = refl
one_above f above n b (p ∷ paths) =
    ap (λ x. x || list_any (λ r. b && option_map_or f (child_name r (above ++ n ∷ [])) false) paths) (here (same_path p above) refl)
    ∙ ap (λ x. (same_path p above && (b && f n)) || x) (one_above f above n b paths)
    ∙ or_and (same_path p above) (b && f n) (is_one_of paths above)
  where
    here : (s : Bool) → same_path p above ≡ s → (b && option_map_or f (child_name p (above ++ n ∷ [])) false) ≡ (s && (b && f n))
    here true e = ap (λ v. b && option_map_or f (child_name v (above ++ n ∷ [])) false) ((same_path-decides p above).0 e) ∙ ap (λ o. b && option_map_or f o false) (child_name-push above n)
    here false e = ap (λ o. b && option_map_or f o false) (no_child p above n e) ∙ and-false b

pub root_no_child : (p : Path) → child_name p [] ≡ None
root_no_child p = by (child_name p []) refl
  where
    by : (o : Option (List ℕ)) → child_name p [] ≡ o → o ≡ None
    by None e = refl
    by (Some n) e = absurd (empty p (child_name-Some p [] n e))
      where
        empty : (r : Path) → [] ≡ r ++ n ∷ [] → ⊥
        empty [] h = cc
        empty (m ∷ r) h = cc

-- a pattern of one component more matches a path of one name more
push_matches : (plain : List (List Element)) (component : List Element) (above : Path) (n : List ℕ)
    → pointwise component_matches (plain ++ component ∷ []) (above ++ n ∷ []) ≡ (pointwise component_matches plain above && component_matches component n)
push_matches [] component [] n = and-true (component_matches component n)
push_matches [] component (m ∷ []) n = and-false (component_matches component m)
push_matches [] component (m ∷ k ∷ above) n = and-false (component_matches component m)
push_matches (c ∷ []) component [] n = and-false (component_matches c n)
push_matches (c ∷ d ∷ plain) component [] n = and-false (component_matches c n)
push_matches (c ∷ plain) component (m ∷ above) n = ap (λ b. component_matches c m && b) (push_matches plain component above n) ∙ and_assoc (component_matches c m) (pointwise component_matches plain above) (component_matches component n)
  where
    and_assoc : (a b c : Bool) → (a && (b && c)) ≡ ((a && b) && c)
    and_assoc true b c = refl
    and_assoc false b c = refl

rearranged : (s t a b : Bool) → (not (s || (t || false)) && (a && b)) ≡ ((not s && a) && (not (t || false) && (b && true)))
rearranged true t a b = refl
rearranged false true true b = refl
rearranged false true false b = refl
rearranged false false true true = refl
rearranged false false true false = refl
rearranged false false false b = refl

one_more_matches : (plain : List (List Element)) (component : List Element) (above : Path) (n : List ℕ)
    → matches (plain ++ component ∷ []) (above ++ n ∷ []) ≡ (matches plain above && matches (component ∷ []) (n ∷ []))
one_more_matches plain component above n =
    ap (λ b. not b && pointwise component_matches (plain ++ component ∷ []) (above ++ n ∷ [])) (has_staging-append above (n ∷ []))
    ∙ ap (λ b. not (has_staging above || has_staging (n ∷ [])) && b) (push_matches plain component above n)
    ∙ rearranged (has_staging above) (is_staging n) (pointwise component_matches plain above) (component_matches component n)

no_root_match : (plain : List (List Element)) (component : List Element) → matches (plain ++ component ∷ []) [] ≡ false
no_root_match [] component = refl
no_root_match (c ∷ plain) component = refl

-- the paths that a pattern matches are followed by those that it matches with one component more
pub one_component_more : (files : Files) → IsTree files → (plain : List (List Element)) (component : List Element) (paths next : List Path)
    → ((q : Path) → is_one_of paths q ≡ (is_some (places files q) && matches plain q))
    → ((q : Path) → is_one_of next q ≡ list_any (λ p. extends files (component ∷ []) p q) paths)
    → (q : Path) → is_one_of next q ≡ (is_some (places files q) && matches (plain ++ component ∷ []) q)
one_component_more files tree plain component paths next before after q = elim (path_ends q) [
  | inl root ↦
      after q
      ∙ ap (λ (r : Path). list_any (λ p. extends files (component ∷ []) p r) paths) root
      ∙ none_there (λ n. matches (component ∷ []) (n ∷ [])) [] paths root_no_child (is_some (places files []))
      ∙ sym (ap (λ b. is_some (places files []) && b) (no_root_match plain component) ∙ and-false (is_some (places files [])))
      ∙ sym (ap (λ (r : Path). is_some (places files r) && matches (plain ++ component ∷ []) r) root)
  | inr (above, name, e) ↦
      after q
      ∙ ap (λ (r : Path). list_any (λ p. extends files (component ∷ []) p r) paths) e
      ∙ one_above (λ n. matches (component ∷ []) (n ∷ [])) above name (is_some (places files (above ++ name ∷ []))) paths
      ∙ ap (λ b. b && (is_some (places files (above ++ name ∷ [])) && matches (component ∷ []) (name ∷ []))) (before above)
      ∙ merged (is_some (places files above)) (is_some (places files (above ++ name ∷ []))) (matches plain above) (matches (component ∷ []) (name ∷ []))
      (λ there. present_above (places files) tree above (name ∷ []) there)
      ∙ ap (λ b. is_some (places files (above ++ name ∷ [])) && b) (sym (one_more_matches plain component above name))
      ∙ sym (ap (λ (r : Path). is_some (places files r) && matches (plain ++ component ∷ []) r) e)
]
  where
    merged : (u d a b : Bool) → (d ≡ true → u ≡ true) → ((u && a) && (d && b)) ≡ (d && (a && b))
    merged true true a b f = refl
    merged true false true b f = refl
    merged true false false b f = refl
    merged false true a b f = absurd (let no : false ≡ true = f refl in cc)
    merged false false a b f = refl

-- ---- the children of one path

one_child : (path q : Path) (n : List ℕ) → same_path (path ++ n ∷ []) q ≡ option_map_or (λ m. eq_by_cmp name_cmp m n) (child_name path q) false
one_child path q n = same_tests (same_path (path ++ n ∷ []) q) (option_map_or (λ m. eq_by_cmp name_cmp m n) (child_name path q) false)
    (λ e. ap (λ (r : Path). option_map_or (λ m. eq_by_cmp name_cmp m n) (child_name path r) false) (sym ((same_path-decides (path ++ n ∷ []) q).0 e))
    ∙ ap (λ o. option_map_or (λ m. eq_by_cmp name_cmp m n) o false) (child_name-push path n) ∙ ap is_eq (name_cmp-refl n))
    (λ e. by (child_name path q) refl e)
  where
    by : (o : Option (List ℕ)) → child_name path q ≡ o → option_map_or (λ m. eq_by_cmp name_cmp m n) o false ≡ true → same_path (path ++ n ∷ []) q ≡ true
    by None is e = cc
    by (Some m) is e = (same_path-decides (path ++ n ∷ []) q).1 (ap (λ (k : List ℕ). path ++ k ∷ []) (sym (name_cmp-exact m n (equal_of (name_cmp m n) e))) ∙ sym (child_name-Some path q m is))

children_are : (path q : Path) (names : List (List ℕ)) → is_one_of (map (λ n. path ++ n ∷ []) names) q ≡ option_map_or (λ m. list_any (eq_by_cmp name_cmp m) names) (child_name path q) false
children_are path q [] = by (child_name path q)
  where
    by : (o : Option (List ℕ)) → false ≡ option_map_or (λ m. false) o false
    by None = refl
    by (Some m) = refl
children_are path q (n ∷ names) =
    ap (λ b. b || is_one_of (map (λ m. path ++ m ∷ []) names) q) (one_child path q n) ∙ ap (λ b. option_map_or (λ m. eq_by_cmp name_cmp m n) (child_name path q) false || b) (children_are path q names)
    ∙ by (child_name path q)
  where
    by : (o : Option (List ℕ)) → (option_map_or (λ m. eq_by_cmp name_cmp m n) o false || option_map_or (λ m. list_any (eq_by_cmp name_cmp m) names) o false) ≡ option_map_or (λ m. list_any (eq_by_cmp name_cmp m) (n ∷ names)) o false
    by None = refl
    by (Some m) = refl

-- the children whose names pass a test
pub children_pass : (files : Files) (f : List ℕ → Bool) (path q : Path)
    → is_one_of (map (λ n. path ++ n ∷ []) (filter f (names_below files path))) q ≡ (is_some (places files q) && option_map_or f (child_name path q) false)
children_pass files f path q = children_are path q (filter f (names_below files path)) ∙ by (child_name path q) refl
  where
    by : (o : Option (List ℕ)) → child_name path q ≡ o
        → option_map_or (λ m. list_any (eq_by_cmp name_cmp m) (filter f (names_below files path))) o false ≡ (is_some (places files q) && option_map_or f o false)
    by None is = sym (and-false (is_some (places files q)))
    by (Some m) is =
        any-filter_same (eq_by_cmp name_cmp m) f (f m) (λ k e. ap f (sym (name_cmp-exact m k (equal_of (name_cmp m k) e)))) (names_below files path)
        ∙ ap (λ b. f m && b) (names_below-are files path m ∙ ap (λ (r : Path). is_some (places files r)) (sym (child_name-Some path q m is)))
        ∙ and_comm (f m) (is_some (places files q))

-- those that a pattern of one component matches
pub children_match : (files : Files) (plain : List (List Element)) (path q : Path)
    → is_one_of (map (λ n. path ++ n ∷ []) (filter (λ n. matches plain (n ∷ [])) (names_below files path))) q ≡ extends files plain path q
children_match files plain path q = children_pass files (λ n. matches plain (n ∷ [])) path q

-- one child by its name, which is the only one that the pattern matches
pub child_matches : (files : Files) (plain : List (List Element)) (path q : Path) (name : List ℕ) → ((n : List ℕ) → matches plain (n ∷ []) ≡ true → n ≡ name) → matches plain (name ∷ []) ≡ true
    → is_one_of (cond (is_some (places files (path ++ name ∷ []))) ((path ++ name ∷ []) ∷ []) []) q ≡ extends files plain path q
child_matches files plain path q name only fits = same_tests _ _ forth back
  where
    in_cond : (b : Bool) → is_one_of (cond b ((path ++ name ∷ []) ∷ []) []) q ≡ true → (b ≡ true) × (path ++ name ∷ [] ≡ q)
    in_cond true h = (refl, (same_path-decides (path ++ name ∷ []) q).0 (sym (or-false (same_path (path ++ name ∷ []) q)) ∙ h))
    in_cond false h = cc

    forth : is_one_of (cond (is_some (places files (path ++ name ∷ []))) ((path ++ name ∷ []) ∷ []) []) q ≡ true → extends files plain path q ≡ true
    forth h =
        let parts = in_cond (is_some (places files (path ++ name ∷ []))) h in
        subst (λ (r : Path). extends files plain path r ≡ true) parts.1 (ap (λ b. b && option_map_or (λ n. matches plain (n ∷ [])) (child_name path (path ++ name ∷ [])) false) parts.0 ∙ ap (λ o. option_map_or (λ n. matches plain (n ∷ [])) o false) (child_name-push path name) ∙ fits)

    back : extends files plain path q ≡ true → is_one_of (cond (is_some (places files (path ++ name ∷ []))) ((path ++ name ∷ []) ∷ []) []) q ≡ true
    back h = by (child_name path q) refl (is_some (places files q)) refl h
      where
        by : (o : Option (List ℕ)) → child_name path q ≡ o → (b : Bool) → is_some (places files q) ≡ b → (b && option_map_or (λ n. matches plain (n ∷ [])) o false) ≡ true
            → is_one_of (cond (is_some (places files (path ++ name ∷ []))) ((path ++ name ∷ []) ∷ []) []) q ≡ true
        by o is false there h = cc
        by None is true there h = cc
        by (Some m) is true there h =
            let here : q ≡ path ++ name ∷ [] = child_name-Some path q m is ∙ ap (λ (k : List ℕ). path ++ k ∷ []) (only m h) in
            ap (λ b. is_one_of (cond b ((path ++ name ∷ []) ∷ []) []) q) (ap (λ (r : Path). is_some (places files r)) (sym here) ∙ there)
            ∙ ap (λ b. b || false) ((same_path-decides (path ++ name ∷ []) q).1 (sym here))

-- where the pattern does not match the name, it matches none
pub nothing_matches : (files : Files) (plain : List (List Element)) (name : List ℕ) → ((n : List ℕ) → matches plain (n ∷ []) ≡ true → n ≡ name) → matches plain (name ∷ []) ≡ false
    → (q : Path) (paths : List Path) → false ≡ list_any (λ p. extends files plain p q) paths
nothing_matches files plain name only fits q [] = refl
nothing_matches files plain name only fits q (p ∷ paths) = nothing_matches files plain name only fits q paths ∙ ap (λ b. b || list_any (λ r. extends files plain r q) paths) (sym (by (child_name p q)))
  where
    none : (n : List ℕ) → matches plain (n ∷ []) ≡ false
    none n = at (matches plain (n ∷ [])) refl
      where
        at : (b : Bool) → matches plain (n ∷ []) ≡ b → b ≡ false
        at true e = absurd (let no : matches plain (name ∷ []) ≡ true = subst (λ (k : List ℕ). matches plain (k ∷ []) ≡ true) (only n e) e in cc)
        at false e = refl

    by : (o : Option (List ℕ)) → (is_some (places files q) && option_map_or (λ n. matches plain (n ∷ [])) o false) ≡ false
    by None = and-false (is_some (places files q))
    by (Some n) = ap (λ b. is_some (places files q) && b) (none n) ∙ and-false (is_some (places files q))

-- ---- one item more of a loop

map-cond : {A B : Type 0} (g : A → B) (xs : List A) (b : Bool) (x : A) → map g (xs ++ cond b (x ∷ []) []) ≡ map g xs ++ cond b (g x ∷ []) []
map-cond g [] true x = refl
map-cond g [] false x = refl
map-cond g (y ∷ xs) b x = ap (λ zs. g y ∷ zs) (map-cond g xs b x)

-- what a test keeps of a list
pub matched_more : {A B : Type 0} (f : A → Bool) (g : A → B) (old now new : List B) (names : List A) (i : ℕ) (name : A) → i < length names → name ≡ get_or names i name
    → now ≡ old ++ map g (filter f (take i names)) → new ≡ now ++ cond (f name) (g name ∷ []) [] → new ≡ old ++ map g (filter f (take (i + 1) names))
matched_more f g old now new names i name within is before after =
    after ∙ ap (λ xs. xs ++ cond (f name) (g name ∷ []) []) before ∙ append_assoc old (map g (filter f (take i names))) (cond (f name) (g name ∷ []) [])
    ∙ ap (λ xs. old ++ xs) (sym (ap (map g) (filter_more f names i name within ∙ ap (λ x. filter f (take i names) ++ cond (f x) (x ∷ []) []) (sym is)) ∙ map-cond g (filter f (take i names)) (f name) name))

-- a test of some item
pub any_more : {A : Type 0} (f : A → Bool) (items : List A) (i : ℕ) (x : A) → i < length items → x ≡ get_or items i x → (list_any f (take i items) || f x) ≡ list_any f (take (i + 1) items)
any_more f items i x within is = sym (list_any_more f items i x within ∙ ap (λ y. list_any f (take i items) || f y) (sym is))

pub added_more : (f : Path → Bool) (q : Path) (old new more paths : List Path) (i : ℕ) (p : Path) → i < length paths → p ≡ get_or paths i p
    → is_one_of old q ≡ list_any f (take i paths) → new ≡ old ++ more → is_one_of more q ≡ f p → is_one_of new q ≡ list_any f (take (i + 1) paths)
added_more f q old new more paths i p within is before after here =
    ap (λ (xs : List Path). is_one_of xs q) after ∙ list_any-append (λ r. same_path r q) old more
    ∙ ap (λ b. b || is_one_of more q) before ∙ ap (λ b. list_any f (take i paths) || b) here
    ∙ any_more f paths i p within is

-- paths that a pattern more matches
pub plain_more : (q : Path) (there : Bool) (old new more : List Path) (plains : List (List (List Element))) (i : ℕ) (plain : List (List Element)) → i < length plains → plain ≡ get_or plains i plain
    → is_one_of old q ≡ (there && some_matches (take i plains) q) → new ≡ old ++ more → is_one_of more q ≡ (there && matches plain q) → is_one_of new q ≡ (there && some_matches (take (i + 1) plains) q)
plain_more q there old new more plains i plain within is before after here =
    ap (λ (xs : List Path). is_one_of xs q) after ∙ list_any-append (λ r. same_path r q) old more
    ∙ ap (λ b. b || is_one_of more q) before ∙ ap (λ b. (there && some_matches (take i plains) q) || b) here
    ∙ and_or there (some_matches (take i plains) q) (matches plain q)
    ∙ ap (λ b. there && b) (any_more (λ p. matches p q) plains i plain within is)
  where
    and_or : (a b c : Bool) → ((a && b) || (a && c)) ≡ (a && (b || c))
    and_or true b c = refl
    and_or false b c = refl

-- the root is all that a pattern without components matches
pub root_matches : (files : Files) → IsTree files → (q : Path) → is_one_of ([] ∷ []) q ≡ (is_some (places files q) && matches [] q)
root_matches files tree [] = sym (ap (λ b. b && true) (present_of_kind (places files) [] Directory tree.root))
root_matches files tree (n ∷ q) = sym (ap (λ b. is_some (places files (n ∷ q)) && b) (and-false (not (has_staging (n ∷ q)))) ∙ and-false (is_some (places files (n ∷ q))))

pub root_present : (files : Files) → IsTree files → is_some (places files []) ≡ false → ⊥
root_present files tree none = let there = present_of_kind (places files) [] Directory tree.root in cc

-- written bytes match their name alone
pub written_alone : (component : List Element) (bytes : List ℕ) → component ≡ map (λ b. Byte b) bytes → is_staging bytes ≡ false → (n : List ℕ) → matches (component ∷ []) (n ∷ []) ≡ true → n ≡ bytes
written_alone component bytes is plain n h =
    let same : same_path (bytes ∷ []) (n ∷ []) ≡ true = sym (literal_alone (bytes ∷ []) (n ∷ []) (ap (λ b. b || false) plain)) ∙ ap (λ (c : List Element). matches (c ∷ []) (n ∷ [])) (sym is) ∙ h in
    let one : bytes ∷ [] ≡ n ∷ [] = (same_path-decides (bytes ∷ []) (n ∷ [])).0 same in
    cc

-- what is not a directory has no names
pub no_names : (files : Files) → IsTree files → (path : Path) → (kind_of (places files path) ≡ Some Directory → ⊥) → names_below files path ≡ []
no_names files tree path other = by (names_below files path) refl
  where
    by : (ns : List (List ℕ)) → names_below files path ≡ ns → names_below files path ≡ []
    by [] e = e
    by (n ∷ ns) e =
        let there : is_some (places files (path ++ n ∷ [])) ≡ true = sym (names_below-are files path n) ∙ ap (list_any (eq_by_cmp name_cmp n)) e ∙ ap (λ b. b || list_any (eq_by_cmp name_cmp n) ns) (ap is_eq (name_cmp-refl n)) in
        absurd (other (directory_above (places files) tree path n [] there))

-- ---- what is at and below a path

-- one path, where something stands there
pub standing_is : (files : Files) (path q : Path) → is_one_of (cond (is_some (places files path)) (path ∷ []) []) q ≡ (is_some (places files q) && same_path path q)
standing_is files path q = by (is_some (places files path)) refl (same_path path q) refl
  where
    by : (b : Bool) → is_some (places files path) ≡ b → (s : Bool) → same_path path q ≡ s → is_one_of (cond b (path ∷ []) []) q ≡ (is_some (places files q) && s)
    by true there true e = or-false (same_path path q) ∙ e ∙ sym (ap (λ b. b && true) (ap (λ (r : Path). is_some (places files r)) (sym ((same_path-decides path q).0 e)) ∙ there))
    by true there false e = or-false (same_path path q) ∙ e ∙ sym (and-false (is_some (places files q)))
    by false there true e = sym (ap (λ b. b && true) (ap (λ (r : Path). is_some (places files r)) (sym ((same_path-decides path q).0 e)) ∙ there))
    by false there false e = sym (and-false (is_some (places files q)))

-- a listing has what stands below
pub listed_are : (files : Files) (path : Path) (listed : List Path) → IsListing files path listed → (q : Path) → is_one_of listed q ≡ stands_below files path q
listed_are files path listed l q = same_tests (is_one_of listed q) (stands_below files path q)
    (λ h. cond-true (stands_below files path q) (let some = one_of-some listed q h in omega (arith, some, l.once q)))
    (λ h. one_of-counted listed q (let one : cond {A = ℕ} (stands_below files path q) 1 0 ≡ 1 = ap (λ b. cond b 1 0) h in omega (arith, one, l.once q)))

-- the paths of a tree that pass a test
pub keys_passing : (files : Files) (f : Path → Bool) (q : Path) → is_one_of (filter f (fin.keys files)) q ≡ (is_some (places files q) && f q)
keys_passing files f q =
    sym (one_of-tied (filter f (fin.keys files)) q)
    ∙ any-filter_same (eq_by_cmp path_cmp q) f (f q) (λ k e. ap f (sym (path_cmp-exact q k (equal_of (path_cmp q k) e)))) (fin.keys files)
    ∙ ap (λ b. f q && b) (sym (fin.contains_key-keys files q))
    ∙ and_comm (f q) (is_some (places files q))
