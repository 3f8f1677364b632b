-- The objects in a directory of a tree, as a host names them.
use Rattle.std.specs.Prelude.{◌≡◌, ℕ, ◌<◌, true, false, cond, ◌&&◌, T, List, [], ◌∷◌, ◌++◌, map, take, length, Option, Some, None}
use Rattle.std.proofs.Common.{refl, sym, ap, ◌∙◌, zero, suc, get_or, arith}
use Rattle.std.specs.List.{AllByRecursion, filter_map, cons_option}
use Rattle.std.specs.List.Sorted.{IsStrictlySortedBy}
use Rattle.std.specs.Option.{option_map, option_map_or}
use Rattle.std.specs.Ordering.{eq_by_cmp, is_eq, is_lt, ordering_reverse}
use Rattle.std.specs.declared.cmp.Ordering.TheVariants.{Less}
use Rattle.std.specs.FinMap as fin
use Rattle.std.specs.FinMap.Entries.{below_all, find, is_sorted}
use Rattle.pv_path.specs.Names.{name_cmp}
use Rattle.pv_path.specs.Paths.{Path, path_cmp, path_total}
use Rattle.pv_path.proofs.PathLaws.{path_cmp-refl}
use Rattle.pv_path.proofs.Tests.{each_T, less_of-T}
use Rattle.pv_steps.specs.declared.node.Kind.{Kind}
use Rattle.pv_steps.specs.declared.node.Kind.TheVariants as kind
use Rattle.pv_steps.specs.declared.object.Object.{Object}
use Rattle.pv_steps.specs.Trees.{Files, places, child_name, names_below}
use Rattle.pv_steps.proofs.NameLaws.{child_name-Some, names_below-rise}
use Rattle.pv_folder.specs.declared.item.HostItem.{HostItem}
use Rattle.pv_folder.specs.declared.item.HostKind.{HostKind}
use Rattle.pv_folder.specs.declared.item.HostKind.TheVariants as named
use Rattle.pv_folder.specs.Content.{item_below, items_in, kind_of}
use Rattle.pv_folder.specs.Lists.{all_before}
use Rattle.pv_folder.specs.Memory.{content_of, host_kind, item_at, seen, seen_as}
use Rattle.pv_folder.proofs.Seeing.{entries_shown, shown}

-- what is seen of an object is of the kind that its own kind is to a host
pub kind-seen : (k : Kind) (payload : List ℕ) → kind_of (seen_as k payload) ≡ host_kind k
kind-seen kind.Directory payload = refl
kind-seen kind.File payload = refl
kind-seen kind.Link payload = refl
kind-seen kind.Fifo payload = refl
kind-seen kind.CharDevice payload = refl
kind-seen kind.BlockDevice payload = refl

-- ---- each entry is found

greater : (p q : Path) → path_cmp p q ≡ Less → eq_by_cmp path_cmp q p ≡ false
greater p q less = ap is_eq (path_total.antisymm q p ∙ ap ordering_reverse less)

found_behind : (e : Path × Object) (es xs : List (Path × Object)) → T (below_all path_cmp e.0 xs) → AllByRecursion (λ x. find path_cmp x.0 es ≡ Some x.1) xs → AllByRecursion (λ x. find path_cmp x.0 (e ∷ es) ≡ Some x.1) xs
found_behind e es [] below h = tt
found_behind e es (x ∷ xs) below h =
    let parts = each_T (is_lt (path_cmp e.0 x.0)) (below_all path_cmp e.0 xs) below in
    (ap (λ b. cond b (Some e.1) (find path_cmp x.0 es)) (greater e.0 x.0 (less_of-T (path_cmp e.0 x.0) parts.0)) ∙ h.0, found_behind e es xs parts.1 h.1)

found : (es : List (Path × Object)) → T (is_sorted path_cmp es) → AllByRecursion (λ x. find path_cmp x.0 es ≡ Some x.1) es
found [] h = tt
found (e ∷ es) h =
    let parts = each_T (below_all path_cmp e.0 es) (is_sorted path_cmp es) h in
    (ap (λ r. cond (is_eq r) (Some e.1) (find path_cmp e.0 es)) (path_cmp-refl e.0), found_behind e es es parts.0 (found es parts.1))

-- ---- the items are those of the names

module _ (files : Files) (path : Path) where
  item_same : (p : Path) (o : Object) (n : List ℕ) → p ≡ path ++ n ∷ [] → places files p ≡ Some o
      → ◌≡◌ {A = HostItem} (record { name = n; kind = kind_of (seen o) }) (item_at files path n)
  item_same p o n at is =
      let there : places files (path ++ n ∷ []) ≡ Some o = ap (places files) (sym at) ∙ is in
      ap (λ (k : HostKind). record { name = n; kind = k }) (kind-seen o.node.kind o.payload ∙ sym (ap (λ v. option_map_or (λ (x : Object). host_kind x.node.kind) v named.Other) there))

  items_named : (es : List (Path × Object)) → AllByRecursion (λ x. places files x.0 ≡ Some x.1) es
      → filter_map (item_below path) (map shown es) ≡ map (item_at files path) (filter_map (child_name path) (map (λ e. e.0) es))
  items_named [] h = refl
  items_named (e ∷ es) h = by (child_name path e.0) refl (items_named es h.1)
    where
      by : (o : Option (List ℕ)) → child_name path e.0 ≡ o
          → filter_map (item_below path) (map shown es) ≡ map (item_at files path) (filter_map (child_name path) (map (λ x. x.0) es))
          → cons_option (option_map (λ name. record { name = name; kind = kind_of (seen e.1) }) o) (filter_map (item_below path) (map shown es))
          ≡ map (item_at files path) (cons_option o (filter_map (child_name path) (map (λ x. x.0) es)))
      by None at rest = rest
      by (Some n) at rest = λ j. item_same e.0 e.1 n (child_name-Some path e.0 n at) h.0 j ∷ rest j

  all_there : AllByRecursion (λ x. places files x.0 ≡ Some x.1) (fin.entries files)
  all_there = by (fin.entries files) (found (fin.entries files) (fin.entries_sorted files))
    where
      by : (xs : List (Path × Object)) → AllByRecursion (λ x. find path_cmp x.0 (fin.entries files) ≡ Some x.1) xs → AllByRecursion (λ x. places files x.0 ≡ Some x.1) xs
      by [] h = tt
      by (x ∷ xs) h = (fin.get-entries files x.0 ∙ h.0, by xs h.1)

  pub items_are : items_in (content_of files) path ≡ map (item_at files path) (names_below files path)
  items_are = ap (filter_map (item_below path)) (entries_shown files) ∙ items_named (fin.entries files) all_there

  -- ---- and they are in order

  less_at : (n : List ℕ) (ns : List (List ℕ)) (i : ℕ) (d : List ℕ) → AllByRecursion (λ m. name_cmp n m ≡ Less) ns → i < length ns → name_cmp n (get_or ns i d) ≡ Less
  less_at n [] i d h within = absurd (omega arith)
  less_at n (m ∷ ns) zero d h within = h.0
  less_at n (m ∷ ns) (suc i) d h within = less_at n ns i d h.1 (omega (arith, within))

  rising : (names : List (List ℕ)) (i : ℕ) (d : List ℕ) → IsStrictlySortedBy name_cmp names → i < length names
      → all_before (map (item_at files path) (take i names)) (item_at files path (get_or names i d)) ≡ true
  unfolding IsStrictlySortedBy
  rising [] i d h within = absurd (omega arith)
  rising (n ∷ names) zero d h within = refl
  rising (n ∷ names) (suc i) d h within =
      ap (λ v. v && all_before (map (item_at files path) (take i names)) (item_at files path (get_or names i d))) (ap is_lt (less_at n names i d h.0 (omega (arith, within))))
      ∙ rising names i d h.1 (omega (arith, within))

  -- the item of the next name comes after those of the names before it
  pub next_rises : (names : List (List ℕ)) (i : ℕ) (d : List ℕ) → names ≡ names_below files path → i < length names
      → all_before (map (item_at files path) (take i names)) (item_at files path (get_or names i d)) ≡ true
  next_rises names i d are within = rising names i d (rw are (names_below-rise files path)) within
