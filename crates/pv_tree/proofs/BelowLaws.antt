-- Walks over what is at and below a path: all slots above the path are opened with no child left, so nothing beside the
-- path is visited.
use Rattle.std.proofs.Common.{◌≡◌, ℕ, suc, zero, Bool, true, false, cond, ◌&&◌, T, List, [], ◌∷◌, ◌++◌, length, filter, map, take, drop, Option, Some, None, option_map, is_some, slice_get, get_or, refl, sym, ap, ◌∙◌, arith, length-append, append-nil, Result, Ok, Err, IfOk, Vec}
use Rattle.std.specs.List.{list_all}
use Rattle.std.specs.Option.{option_and_then, option_map_or}
use Rattle.std.specs.FinMap as fin
use Rattle.std.specs.FinMap.{find}
use Rattle.std.specs.Ordering.{eq_by_cmp, is_eq}
use Rattle.std.proofs.lemmas.List.Elements.{filter-append}
use Rattle.pv_acl.proofs.Filters.{list_all-filter}
use Rattle.pv_path.specs.Names.{name_cmp, same_bytes}
use Rattle.pv_path.specs.Paths.{Path, path_cmp, has_names, is_prefix}
use Rattle.pv_path.proofs.PathLaws.{name_cmp-refl, name_cmp-exact, same_bytes-decides, same_bytes-refl, path_cmp-refl}
use Rattle.pv_path.proofs.Tests.{equal_of, each_T}
use Rattle.pv_steps.specs.declared.object.Object.{Object}
use Rattle.pv_steps.specs.Trees.{Files, places, IsTree}
use Rattle.pv_tree.specs.declared.slot.Slot.{Slot}
use Rattle.pv_tree.specs.Children.{IsSorted}
use Rattle.pv_tree.specs.Edges.{led}
use Rattle.pv_tree.specs.Slots.{child_in, number_in, below, entries_below, entries_in, files_of, object_of}
use Rattle.pv_tree.specs.Walks.{children_in, below_from, left_in, IsWay}
use Rattle.pv_tree.proofs.Files.{Entries, entries_of, not_below}
use Rattle.pv_tree.proofs.WalkLaws.{fresh_slot, no_child_left}

-- ---- the entries at and below a path

-- The entries whose path has a prefix.
abbrev pub kept : Path → Entries → Entries
kept p es = filter (λ e. is_prefix p e.0) es

all_kept : (es : Entries) → kept [] es ≡ es
all_kept [] = refl
all_kept (e ∷ es) = ap (λ v. e ∷ v) (all_kept es)

kept_same : (n : List ℕ) (p : Path) (es : Entries) → kept (n ∷ p) (map (below n) es) ≡ map (below n) (kept p es)
kept_same n p [] = refl
kept_same n p (e ∷ es) =
    ap (λ b. cond (b && is_prefix p e.0) (below n e ∷ kept (n ∷ p) (map (below n) es)) (kept (n ∷ p) (map (below n) es))) (same_bytes-refl n)
    ∙ ap (λ v. cond (is_prefix p e.0) (below n e ∷ v) v) (kept_same n p es)
    ∙ elim (is_prefix p e.0) as (λ b. cond b (below n e ∷ map (below n) (kept p es)) (map (below n) (kept p es)) ≡ map (below n) (cond b (e ∷ kept p es) (kept p es))) [
      | true ↦ refl
      | false ↦ refl
    ]

kept_other : (n m : List ℕ) (p : Path) (es : Entries) → same_bytes n m ≡ false → kept (n ∷ p) (map (below m) es) ≡ []
kept_other n m p [] other = refl
kept_other n m p (e ∷ es) other =
    ap (λ b. cond (b && is_prefix p e.0) (below m e ∷ kept (n ∷ p) (map (below m) es)) (kept (n ∷ p) (map (below m) es))) other
    ∙ kept_other n m p es other

other_bytes : (n m : List ℕ) → eq_by_cmp name_cmp n m ≡ false → same_bytes n m ≡ false
other_bytes n m other = by (same_bytes n m) refl
  where
    by : (b : Bool) → same_bytes n m ≡ b → same_bytes n m ≡ false
    by false e = e
    by true e =
        let same : n ≡ m = (same_bytes-decides n m).0 e in
        let wrong : true ≡ false = sym (ap is_eq (ap (λ v. name_cmp v m) same ∙ name_cmp-refl m)) ∙ other in
        cc

-- Only the child by the first name has entries below it.
kept_below : (at : ℕ → Entries) (n : List ℕ) (p : Path) (cs : List (List ℕ × ℕ)) → IsSorted cs
    → kept (n ∷ p) (entries_below at cs) ≡ option_map_or (λ k. map (below n) (kept p (at k))) (find name_cmp n cs) []
kept_below at n p [] sorted = refl
kept_below at n p (c ∷ cs) sorted =
    filter-append (λ e. is_prefix (n ∷ p) e.0) (map (below c.0) (at c.1)) (entries_below at cs)
    ∙ by (eq_by_cmp name_cmp n c.0) refl (kept_below at n p cs (each_T _ _ sorted).1)
  where
    by : (b : Bool) → eq_by_cmp name_cmp n c.0 ≡ b
        → kept (n ∷ p) (entries_below at cs) ≡ option_map_or (λ k. map (below n) (kept p (at k))) (find name_cmp n cs) []
        → kept (n ∷ p) (map (below c.0) (at c.1)) ++ kept (n ∷ p) (entries_below at cs)
        ≡ option_map_or (λ k. map (below n) (kept p (at k))) (cond b (Some c.1) (find name_cmp n cs)) []
    by true e rest =
        let same : n ≡ c.0 = name_cmp-exact n c.0 (equal_of (name_cmp n c.0) e) in
        ap (λ v. kept (n ∷ p) (map (below c.0) (at c.1)) ++ v)
        (rest ∙ ap (λ o. option_map_or (λ k. map (below n) (kept p (at k))) o []) (not_below n c.0 cs same (each_T _ _ sorted).0))
        ∙ append-nil (kept (n ∷ p) (map (below c.0) (at c.1)))
        ∙ ap (λ (v : List ℕ). kept (n ∷ p) (map (below v) (at c.1))) (sym same)
        ∙ kept_same n p (at c.1)
    by false e rest = ap (λ v. v ++ kept (n ∷ p) (entries_below at cs)) (kept_other n c.0 p (at c.1) (other_bytes n c.0 e)) ∙ rest

module _ (slots : List Slot) where
  kept_in : (depth i : ℕ) (n : List ℕ) (p : Path)
      → kept (n ∷ p) (entries_in (suc depth) slots i) ≡ option_map_or (λ k. map (below n) (kept p (entries_in depth slots k))) (child_in slots i n) []
  kept_in depth i n p = by (slice_get slots i)
    where
      by : (o : Option Slot)
          → kept (n ∷ p) (option_map_or (λ s. ([], object_of s) ∷ entries_below (entries_in depth slots) (fin.entries s.content.children)) o [])
          ≡ option_map_or (λ k. map (below n) (kept p (entries_in depth slots k))) (option_and_then (λ s. fin.get s.content.children n) o) []
      by None = refl
      by (Some s) =
          kept_below (entries_in depth slots) n p (fin.entries s.content.children) (fin.entries_sorted s.content.children)
          ∙ ap (λ o. option_map_or (λ k. map (below n) (kept p (entries_in depth slots k))) o []) (sym (fin.get-entries s.content.children n))

-- ---- the slots above a path

-- The slots from a number on along some names, each opened with no child left, and the number to which the names lead.
abbrev pub IsClosed : List Slot → ℕ → Path → List (ℕ × ℕ) → ℕ → Type 0
IsClosed slots i [] [] j = i ≡ j
IsClosed slots i [] (x ∷ opened) j = ⊥
IsClosed slots i (n ∷ p) [] j = ⊥
IsClosed slots i (n ∷ p) (x ∷ opened) j =
    (x.0 ≡ i) × (slice_get (children_in slots i) x.1 ≡ None) × (k : ℕ) × (child_in slots i n ≡ Some k) × IsClosed slots k p opened j

module _ (slots : List Slot) where
  pub closed_push : (i : ℕ) (p : Path) (opened : List (ℕ × ℕ)) (j m k : ℕ) (n : List ℕ) → IsClosed slots i p opened j
      → slice_get (children_in slots j) m ≡ None → child_in slots j n ≡ Some k → IsClosed slots i (p ++ n ∷ []) (opened ++ (j, m) ∷ []) k
  closed_push i [] [] j m k n c none child =
      (sym c, ap (λ v. slice_get (children_in slots v) m) c ∙ none, k, ap (λ v. child_in slots v n) c ∙ child, refl)
  closed_push i [] (x ∷ opened) j m k n c none child = absurd c
  closed_push i (l ∷ p) [] j m k n c none child = absurd c
  closed_push i (l ∷ p) (x ∷ opened) j m k n c none child = (c.0, c.1, c.2, c.3, closed_push c.2 p opened j m k n c.4 none child)

  -- what is left is what is at and below the path
  pub closed_left : (depth i : ℕ) (p : Path) (opened : List (ℕ × ℕ)) (j : ℕ) → IsClosed slots i p opened j
      → left_in true depth slots p (opened ++ (j, 0) ∷ []) ≡ kept p (entries_in depth slots i)
  closed_left zero i p opened j c = refl
  closed_left (suc depth) i [] [] j c =
      fresh_slot slots (suc depth) j ∙ ap (entries_in (suc depth) slots) (sym c) ∙ sym (all_kept (entries_in (suc depth) slots i))
  closed_left (suc depth) i [] (x ∷ opened) j c = absurd c
  closed_left (suc depth) i (n ∷ p) [] j c = absurd c
  closed_left (suc depth) i (n ∷ p) (x ∷ opened) j c =
      ap (λ v. map (below n) (left_in true depth slots p (opened ++ (j, 0) ∷ [])) ++ v)
      (ap (λ v. below_from depth slots v x.1) c.0 ∙ no_child_left slots depth i x.1 c.1)
      ∙ append-nil (map (below n) (left_in true depth slots p (opened ++ (j, 0) ∷ [])))
      ∙ ap (map (below n)) (closed_left depth c.2 p opened j c.4)
      ∙ sym (kept_in slots depth i n p ∙ ap (λ o. option_map_or (λ k. map (below n) (kept p (entries_in depth slots k))) o []) c.3)

  -- below an absent child there is nothing
  pub closed_off : (depth i : ℕ) (p : Path) (opened : List (ℕ × ℕ)) (j : ℕ) (n : List ℕ) (r : Path) → IsClosed slots i p opened j
      → child_in slots j n ≡ None → kept (p ++ n ∷ r) (entries_in depth slots i) ≡ []
  closed_off zero i p opened j n r c none = refl
  closed_off (suc depth) i [] [] j n r c none =
      kept_in slots depth i n r
      ∙ ap (λ o. option_map_or (λ k. map (below n) (kept r (entries_in depth slots k))) o []) (ap (λ v. child_in slots v n) c ∙ none)
  closed_off (suc depth) i [] (x ∷ opened) j n r c none = absurd c
  closed_off (suc depth) i (m ∷ p) [] j n r c none = absurd c
  closed_off (suc depth) i (m ∷ p) (x ∷ opened) j n r c none =
      kept_in slots depth i m (p ++ n ∷ r)
      ∙ ap (λ o. option_map_or (λ k. map (below m) (kept (p ++ n ∷ r) (entries_in depth slots k))) o []) c.3
      ∙ ap (map (below m)) (closed_off depth c.2 p opened j n r c.4 none)

  closed_length : (i : ℕ) (p : Path) (opened : List (ℕ × ℕ)) (j : ℕ) → IsClosed slots i p opened j → length opened ≡ length p
  closed_length i [] [] j c = refl
  closed_length i [] (x ∷ opened) j c = absurd c
  closed_length i (n ∷ p) [] j c = absurd c
  closed_length i (n ∷ p) (x ∷ opened) j c = ap suc (closed_length c.2 p opened j c.4)

  closed_numbers : (i : ℕ) (p : Path) (opened : List (ℕ × ℕ)) (j : ℕ) → IsClosed slots i p opened j
      → (m v : ℕ) → option_map (λ (x : ℕ × ℕ). x.0) (slice_get (opened ++ (j, 0) ∷ []) m) ≡ Some v → led (child_in slots) i (take m p) ≡ Some v
  closed_numbers i [] [] j c zero v e = let same : j ≡ v = cc in ap Some (c ∙ same)
  closed_numbers i [] [] j c (suc m) v e = absurd (let no : None ≡ Some v = e in cc)
  closed_numbers i [] (x ∷ opened) j c m v e = absurd c
  closed_numbers i (n ∷ p) [] j c m v e = absurd c
  closed_numbers i (n ∷ p) (x ∷ opened) j c zero v e = let same : x.0 ≡ v = cc in ap Some (sym c.0 ∙ same)
  closed_numbers i (n ∷ p) (x ∷ opened) j c (suc m) v e =
      ap (option_and_then (λ k. led (child_in slots) k (take m p))) c.3 ∙ closed_numbers c.2 p opened j c.4 m v e

  pub closed_way : (p : Path) (opened : List (ℕ × ℕ)) (j : ℕ) → IsClosed slots 0 p opened j → IsWay slots p (opened ++ (j, 0) ∷ [])
  closed_way p opened j c = record {
    depth = λ h. omega (arith, closed_length 0 p opened j c, length-append opened ((j, 0) ∷ []));
    numbers = closed_numbers 0 p opened j c;
  }

-- ---- the paths of a walk

pub keys_kept : (p : Path) (es : Entries) → map (λ e. e.0) (kept p es) ≡ filter (is_prefix p) (map (λ e. e.0) es)
keys_kept p [] = refl
keys_kept p (e ∷ es) = elim (is_prefix p e.0) as (λ b. map (λ x. x.0) (cond b (e ∷ kept p es) (kept p es)) ≡ cond b (e.0 ∷ filter (is_prefix p) (map (λ x. x.0) es)) (filter (is_prefix p) (map (λ x. x.0) es))) [
  | true ↦ ap (λ v. e.0 ∷ v) (keys_kept p es)
  | false ↦ keys_kept p es
]

all_named : (es : Entries) → ((q : Path) → is_some (find path_cmp q es) ≡ true → has_names q ≡ true) → list_all (λ e. has_names e.0) es ≡ true
all_named [] each = refl
all_named (e ∷ es) each =
    ap (λ b. b && list_all (λ x. has_names x.0) es) (each e.0 (ap (λ o. is_some (cond (is_eq o) (Some e.1) (find path_cmp e.0 es))) (path_cmp-refl e.0)))
    ∙ all_named es (λ q found. each q (more (eq_by_cmp path_cmp q e.0) q found))
  where
    more : (b : Bool) (q : Path) → is_some (find path_cmp q es) ≡ true → is_some (cond b (Some e.1) (find path_cmp q es)) ≡ true
    more true q found = refl
    more false q found = found

-- The paths of a tree have names.
pub kept_named : (slots : List Slot) (p : Path) → IsTree (files_of slots) → list_all (λ e. has_names e.0) (kept p (entries_in (length slots) slots 0)) ≡ true
kept_named slots p tree =
    list_all-filter (λ e. is_prefix p e.0) (λ e. has_names e.0) (entries_in (length slots) slots 0)
    (all_named (entries_in (length slots) slots 0)
    (λ q found. tree.names q (ap is_some (fin.get-entries (files_of slots) q ∙ ap (find path_cmp q) (entries_of slots)) ∙ found)))

-- The paths of the walk are the paths of the tree that have the prefix.
pub paths_kept : {Z E : Type 0} → (r : Result (Vec Path Z) E) (slots : List Slot) (t : Files) (p q : Path) (walk : Entries) → files_of slots ≡ t → p ≡ q
    → walk ≡ kept p (entries_in (length slots) slots 0) → IfOk r (λ paths. paths.items ≡ map (λ e. e.0) walk) → IfOk r (λ paths. paths.items ≡ filter (is_prefix q) (fin.keys t))
paths_kept (Ok paths) slots t p q walk same is left found =
    found ∙ ap (map (λ e. e.0)) left ∙ keys_kept p (entries_in (length slots) slots 0)
    ∙ ap (λ es. filter (is_prefix p) (map (λ (e : Path × Object). e.0) es)) (sym (entries_of slots))
    ∙ ap (λ f. filter (is_prefix p) (fin.keys f)) same
    ∙ ap (λ v. filter (is_prefix v) (fin.keys t)) is
paths_kept (Err e) slots t p q walk same is left found = tt
