-- Walks: how what is left falls as slots are opened and closed.
use Rattle.std.proofs.Common.{◌≡◌, ◌≢◌, ℕ, suc, zero, ◌<◌, ◌≤◌, ◌-◌, Bool, true, false, cond, T, ◌⊎◌, inl, inr, List, [], ◌∷◌, ◌++◌, length, map, take, drop, Option, Some, None, is_some, option_map, slice_get, get_or, refl, sym, ap, subst, ◌∙◌, arith, length-append}
use Rattle.std.specs.Option.{option_and_then, option_map_or, option_to_list}
use Rattle.std.specs.FinMap as fin
use Rattle.std.specs.FinMap.{find, is_sorted}
use Rattle.std.specs.FinMap.Entries.{below_all}
use Rattle.std.specs.Ordering.{is_eq, is_lt}
use Rattle.std.specs.declared.cmp.Ordering.TheVariants.{Less}
use Rattle.std.proofs.lemmas.Bool.{cases_eq}
use Rattle.std.proofs.lemmas.List.{nil_from_length}
use Rattle.std.proofs.lemmas.Option.{slice_get-get_or}
use Rattle.pv_path.specs.Paths.{Path}
use Rattle.pv_path.proofs.PathLaws.{name_cmp-refl}
use Rattle.pv_steps.specs.declared.object.Object.{Object}
use Rattle.pv_tree.specs.declared.slot.Slot.{Slot}
use Rattle.pv_path.specs.Names.{name_cmp}
use Rattle.pv_tree.specs.Children.{IsSorted}
use Rattle.pv_tree.specs.Edges.{led}
use Rattle.pv_tree.specs.Slots.{child_in, object_in, number_in, below, entries_below, entries_in, object_of}
use Rattle.pv_tree.specs.Walks.{children_in, below_from, left_in, IsWay, IsWalk}
use Rattle.pv_tree.proofs.EdgeLaws.{led-on}
use Rattle.pv_tree.proofs.Files.{Entries, short}
use Rattle.pv_tree.proofs.ForestLaws.{object_within}
use Rattle.pv_tree.proofs.Names.{reversed}
use Rattle.pv_tree.proofs.SlotLaws.{slice_get_push, slice_get_before, slice_get_last}
use Rattle.pv_path.proofs.Tests.{less_of-T, each_T}

-- ---- lists by their ends

drop_there : {A : Type 0} → (xs : List A) (k : ℕ) (x : A) → slice_get xs k ≡ Some x → drop k xs ≡ x ∷ drop (suc k) xs
drop_there [] k x e = absurd (let no : None ≡ Some x = e in cc)
drop_there (y ∷ xs) zero x e = let same : y ≡ x = cc in ap (λ v. v ∷ xs) same
drop_there (y ∷ xs) (suc k) x e = drop_there xs k x e

drop_past : {A : Type 0} → (xs : List A) (k : ℕ) → slice_get xs k ≡ None → drop k xs ≡ []
drop_past [] zero e = refl
drop_past [] (suc k) e = refl
drop_past (y ∷ xs) zero e = absurd (let no : Some y ≡ None = e in cc)
drop_past (y ∷ xs) (suc k) e = drop_past xs k e

take_front : {A : Type 0} → (m : ℕ) (xs ys : List A) → m ≤ length xs → take m (xs ++ ys) ≡ take m xs
take_front zero xs ys h = refl
take_front (suc m) [] ys h = absurd (omega arith)
take_front (suc m) (x ∷ xs) ys h = ap (λ v. x ∷ v) (take_front m xs ys (omega arith))

take_whole : {A : Type 0} → (xs : List A) → take (length xs) xs ≡ xs
take_whole [] = refl
take_whole (x ∷ xs) = ap (λ v. x ∷ v) (take_whole xs)

-- ---- a child by its place

child_entry : (es : List (List ℕ × ℕ)) (k : ℕ) (n : List ℕ) (j : ℕ) → IsSorted es → slice_get es k ≡ Some (n, j) → find name_cmp n es ≡ Some j
child_entry [] k n j h e = absurd (let no : None ≡ Some (n, j) = e in cc)
child_entry (x ∷ es) zero n j h e =
    let same : x ≡ (n, j) = cc in
    ap (λ o. cond (is_eq o) (Some x.1) (find name_cmp n es)) (ap (λ (v : List ℕ × ℕ). name_cmp n v.0) same ∙ name_cmp-refl n) ∙ ap (λ (v : List ℕ × ℕ). Some v.1) same
child_entry (x ∷ es) (suc k) n j h e =
    let parts = each_T (below_all name_cmp x.0 es) (is_sorted name_cmp es) h in
    let less : name_cmp x.0 n ≡ Less = above es k parts.0 e in
    ap (λ o. cond (is_eq o) (Some x.1) (find name_cmp n es)) (reversed x.0 n Less less) ∙ child_entry es k n j parts.1 e
  where
    above : (ys : List (List ℕ × ℕ)) (m : ℕ) → T (below_all name_cmp x.0 ys) → slice_get ys m ≡ Some (n, j) → name_cmp x.0 n ≡ Less
    above [] m t g = absurd (let no : None ≡ Some (n, j) = g in cc)
    above (y ∷ ys) zero t g =
        let same : y ≡ (n, j) = cc in
        sym (ap (λ (v : List ℕ × ℕ). name_cmp x.0 v.0) same) ∙ less_of-T (name_cmp x.0 y.0) (each_T (is_lt (name_cmp x.0 y.0)) (below_all name_cmp x.0 ys) t).0
    above (y ∷ ys) (suc m) t g = above ys m (each_T (is_lt (name_cmp x.0 y.0)) (below_all name_cmp x.0 ys) t).1 g

module _ (slots : List Slot) where
  pub child_there : (i k : ℕ) (n : List ℕ) (j : ℕ) → slice_get (children_in slots i) k ≡ Some (n, j) → child_in slots i n ≡ Some j
  child_there i k n j = by (slice_get slots i)
    where
      by : (o : Option Slot) → slice_get (option_map_or (λ s. fin.entries s.content.children) o []) k ≡ Some (n, j) → option_and_then (λ s. fin.get s.content.children n) o ≡ Some j
      by None e = absurd (let no : None ≡ Some (n, j) = e in cc)
      by (Some s) e = fin.get-entries s.content.children n ∙ child_entry (fin.entries s.content.children) k n j (fin.entries_sorted s.content.children) e

  -- ---- what is left

  -- all of a slot, where the walk just comes to it
  pub fresh_slot : (depth j : ℕ) → left_in true depth slots [] ((j, 0) ∷ []) ≡ entries_in depth slots j
  fresh_slot zero j = refl
  fresh_slot (suc depth) j = elim (slice_get slots j) as (λ o.
      option_map_or (λ s. ([], object_of s) ∷ []) o [] ++ entries_below (entries_in depth slots) (option_map_or (λ s. fin.entries s.content.children) o [])
      ≡ option_map_or (λ s. ([], object_of s) ∷ entries_below (entries_in depth slots) (fin.entries s.content.children)) o []) [ None ↦ refl | Some s ↦ refl ]

  next_child : (depth i k m : ℕ) (n : List ℕ) (j : ℕ) → m ≡ suc k → slice_get (children_in slots i) k ≡ Some (n, j)
      → below_from depth slots i k ≡ map (below n) (entries_in depth slots j) ++ below_from depth slots i m
  next_child depth i k m n j next e =
      ap (entries_below (entries_in depth slots)) (drop_there (children_in slots i) k (n, j) e)
      ∙ ap (λ v. map (below n) (entries_in depth slots j) ++ below_from depth slots i v) (sym next)

  pub no_child_left : (depth i k : ℕ) → slice_get (children_in slots i) k ≡ None → below_from depth slots i k ≡ []
  no_child_left depth i k e = ap (entries_below (entries_in depth slots)) (drop_past (children_in slots i) k e)

  -- a slot opened
  pub left_push : (depth : ℕ) (names : Path) (opened : List (ℕ × ℕ)) (i k m : ℕ) (n : List ℕ) (j : ℕ) → m ≡ suc k → length opened ≡ length names → slice_get (children_in slots i) k ≡ Some (n, j)
      → left_in true depth slots (names ++ n ∷ []) ((opened ++ (i, m) ∷ []) ++ (j, 0) ∷ []) ≡ left_in false depth slots names (opened ++ (i, k) ∷ [])
  left_push zero names opened i k m n j next len e = refl
  left_push (suc depth) [] [] i k m n j next len e = ap (λ v. map (below n) v ++ below_from depth slots i m) (fresh_slot depth j) ∙ sym (next_child depth i k m n j next e)
  left_push (suc depth) [] (x ∷ opened) i k m n j next len e = absurd (let no : suc (length opened) ≡ 0 = len in omega arith)
  left_push (suc depth) (l ∷ names) [] i k m n j next len e = absurd (let no : 0 ≡ suc (length names) = len in omega arith)
  left_push (suc depth) (l ∷ names) (x ∷ opened) i k m n j next len e =
      ap (λ v. map (below l) v ++ below_from depth slots x.0 x.1) (left_push depth names opened i k m n j next (let both : suc (length opened) ≡ suc (length names) = len in omega arith) e)

  -- the deepest slot closed
  pub left_pop : (depth : ℕ) (names : Path) (n : List ℕ) (opened : List (ℕ × ℕ)) (y x : ℕ × ℕ) → length opened ≡ length names → slice_get (children_in slots x.0) x.1 ≡ None
      → left_in false depth slots names (opened ++ y ∷ []) ≡ left_in false depth slots (names ++ n ∷ []) ((opened ++ y ∷ []) ++ x ∷ [])
  left_pop zero names n opened y x len e = refl
  left_pop (suc depth) [] n [] y x len e = ap (λ v. map (below n) v ++ below_from depth slots y.0 y.1) (sym (closed depth))
    where
      closed : (d : ℕ) → left_in false d slots [] (x ∷ []) ≡ []
      closed zero = refl
      closed (suc d) = no_child_left d x.0 x.1 e
  left_pop (suc depth) [] n (z ∷ opened) y x len e = absurd (let no : suc (length opened) ≡ 0 = len in omega arith)
  left_pop (suc depth) (m ∷ names) n [] y x len e = absurd (let no : 0 ≡ suc (length names) = len in omega arith)
  left_pop (suc depth) (m ∷ names) n (z ∷ opened) y x len e =
      ap (λ v. map (below m) v ++ below_from depth slots z.0 z.1) (left_pop depth names n opened y x (let both : suc (length opened) ≡ suc (length names) = len in omega arith) e)

  -- the root closed
  pub left_end : (depth : ℕ) (x : ℕ × ℕ) → slice_get (children_in slots x.0) x.1 ≡ None → left_in false depth slots [] (x ∷ []) ≡ []
  left_end zero x e = refl
  left_end (suc depth) x e = no_child_left depth x.0 x.1 e

  pub left_none : (first : Bool) (depth : ℕ) (names : Path) → left_in first depth slots names [] ≡ []
  left_none first zero names = refl
  left_none first (suc depth) [] = refl
  left_none first (suc depth) (n ∷ names) = refl

  -- the present object comes first
  pub left_first : (depth : ℕ) (names : Path) (opened : List (ℕ × ℕ)) (x : ℕ × ℕ) (o : Object) → length opened ≡ length names → length names < depth → object_in slots x.0 ≡ Some o
      → left_in true depth slots names (opened ++ x ∷ []) ≡ (names, o) ∷ left_in false depth slots names (opened ++ x ∷ [])
  left_first zero names opened x o len deep is = absurd (omega arith)
  left_first (suc depth) [] [] x o len deep is = ap (λ v. v ++ below_from depth slots x.0 x.1) (found (slice_get slots x.0) is)
    where
      found : (v : Option Slot) → option_map object_of v ≡ Some o → option_map_or {U = Entries} (λ s. ([], object_of s) ∷ []) v [] ≡ ([], o) ∷ []
      found None e = absurd (let no : None ≡ Some o = e in cc)
      found (Some s) e = let same : object_of s ≡ o = cc in ap (λ (v : Object). ([], v) ∷ []) same
  left_first (suc depth) [] (z ∷ opened) x o len deep is = absurd (let no : suc (length opened) ≡ 0 = len in omega arith)
  left_first (suc depth) (m ∷ names) [] x o len deep is = absurd (let no : 0 ≡ suc (length names) = len in omega arith)
  left_first (suc depth) (m ∷ names) (z ∷ opened) x o len deep is =
      ap (λ v. map (below m) v ++ below_from depth slots z.0 z.1)
      (left_first depth names opened x o (let both : suc (length opened) ≡ suc (length names) = len in omega arith) (omega arith) is)

-- ---- the way

ends : {A : Type 0} → (xs : List A) → (xs ≡ []) ⊎ ((ys : List A) × (y : A) × (xs ≡ ys ++ y ∷ []))
ends {A = A} [] = inl refl
ends {A = A} (x ∷ xs) = by (ends xs)
  where
    by : (xs ≡ []) ⊎ ((ys : List A) × (y : A) × (xs ≡ ys ++ y ∷ [])) → (x ∷ xs ≡ []) ⊎ ((ys : List A) × (y : A) × (x ∷ xs ≡ ys ++ y ∷ []))
    by (inl e) = inr ([], x, ap (λ v. x ∷ v) e)
    by (inr e) = inr (x ∷ e.0, e.1, ap (λ v. x ∷ v) e.2)

module _ (slots : List Slot) where
  pub way_end : (names : Path) → IsWay slots names []
  way_end names = record {
    depth = λ h. absurd (omega arith);
    numbers = λ m i e. absurd (let no : None ≡ Some i = e in cc);
  }

  pub way_length : (names : Path) (opened : List (ℕ × ℕ)) (x : ℕ × ℕ) → IsWay slots names (opened ++ x ∷ []) → length opened ≡ length names
  way_length names opened x way =
      let l = length-append opened (x ∷ []) in
      let one = way.depth (omega (arith, l)) in
      omega (arith, l, one)

  -- the number of the deepest slot is that at the path
  pub way_last : (names : Path) (opened : List (ℕ × ℕ)) (x : ℕ × ℕ) → IsWay slots names (opened ++ x ∷ []) → number_in slots names ≡ Some x.0
  way_last names opened x way =
      ap (number_in slots) (sym (take_whole names) ∙ ap (λ m. take m names) (sym (way_length names opened x way)))
      ∙ way.numbers (length opened) x.0 (ap (option_map (λ (v : ℕ × ℕ). v.0)) (slice_get_push opened x))

  first_of : (opened : List (ℕ × ℕ)) (x y : ℕ × ℕ) (m : ℕ) → x.0 ≡ y.0 → option_map (λ (v : ℕ × ℕ). v.0) (slice_get (opened ++ x ∷ []) m) ≡ option_map (λ (v : ℕ × ℕ). v.0) (slice_get (opened ++ y ∷ []) m)
  first_of opened x y m same = by (cases_eq m (length opened))
    where
      by : (m ≡ length opened) ⊎ (m ≢ length opened) → option_map (λ (v : ℕ × ℕ). v.0) (slice_get (opened ++ x ∷ []) m) ≡ option_map (λ (v : ℕ × ℕ). v.0) (slice_get (opened ++ y ∷ []) m)
      by (inl e) =
          ap (option_map (λ (v : ℕ × ℕ). v.0)) (ap (slice_get (opened ++ x ∷ [])) e ∙ slice_get_push opened x) ∙ ap Some same
          ∙ sym (ap (option_map (λ (v : ℕ × ℕ). v.0)) (ap (slice_get (opened ++ y ∷ [])) e ∙ slice_get_push opened y))
      by (inr other) = ap (option_map (λ (v : ℕ × ℕ). v.0)) (slice_get_before opened m x other ∙ sym (slice_get_before opened m y other))

  some_within : {A : Type 0} → (xs : List A) (f : A → ℕ) (m i : ℕ) → option_map f (slice_get xs m) ≡ Some i → m < length xs
  some_within [] f m i e = absurd (let no : None ≡ Some i = e in cc)
  some_within (x ∷ xs) f zero i e = omega arith
  some_within (x ∷ xs) f (suc m) i e = let rest = some_within xs f m i e in omega arith

  pub way_push : (names : Path) (opened : List (ℕ × ℕ)) (i k m : ℕ) (n : List ℕ) (j : ℕ) → IsWay slots names (opened ++ (i, k) ∷ []) → child_in slots i n ≡ Some j
      → IsWay slots (names ++ n ∷ []) ((opened ++ (i, m) ∷ []) ++ (j, 0) ∷ [])
  way_push names opened i k m n j way child = record {
    depth = λ h. omega (arith, same_length, length-append (opened ++ (i, m) ∷ []) ((j, 0) ∷ []), length-append opened ((i, m) ∷ []), length-append names (n ∷ []));
    numbers = λ l v e. by l v e (cases_eq l (length (opened ++ (i, m) ∷ [])));
  }
    where
      same_length : length opened ≡ length names
      same_length = way_length names opened (i, k) way

      more : length (opened ++ (i, m) ∷ []) ≡ length (names ++ n ∷ [])
      more = omega (arith, same_length, length-append opened ((i, m) ∷ []), length-append names (n ∷ []))

      by : (l v : ℕ) → option_map (λ (x : ℕ × ℕ). x.0) (slice_get ((opened ++ (i, m) ∷ []) ++ (j, 0) ∷ []) l) ≡ Some v → (l ≡ length (opened ++ (i, m) ∷ [])) ⊎ (l ≢ length (opened ++ (i, m) ∷ []))
          → number_in slots (take l (names ++ n ∷ [])) ≡ Some v
      by l v e (inl last) =
          ap (number_in slots) (ap (λ (w : ℕ). take w (names ++ n ∷ [])) (last ∙ more) ∙ take_whole (names ++ n ∷ []))
          ∙ led-on (child_in slots) 0 i names (n ∷ []) (way_last names opened (i, k) way)
          ∙ ap (option_and_then (λ w. led (child_in slots) w [])) child
          ∙ sym (ap (option_map (λ (x : ℕ × ℕ). x.0)) (ap (slice_get ((opened ++ (i, m) ∷ []) ++ (j, 0) ∷ [])) last ∙ slice_get_push (opened ++ (i, m) ∷ []) (j, 0))) ∙ e
      by l v e (inr other) =
          let before : option_map (λ (x : ℕ × ℕ). x.0) (slice_get (opened ++ (i, m) ∷ []) l) ≡ Some v =
          sym (ap (option_map (λ (x : ℕ × ℕ). x.0)) (slice_get_before (opened ++ (i, m) ∷ []) l (j, 0) other)) ∙ e in
          let small = some_within (opened ++ (i, m) ∷ []) (λ x. x.0) l v before in
          ap (number_in slots) (take_front l names (n ∷ []) (omega (arith, small, same_length, length-append opened ((i, m) ∷ []))))
          ∙ way.numbers l v (first_of opened (i, k) (i, m) l refl ∙ before)

  way_front : (names : Path) (n : List ℕ) (opened : List (ℕ × ℕ)) (x : ℕ × ℕ) → IsWay slots (names ++ n ∷ []) (opened ++ x ∷ []) → IsWay slots names opened
  way_front names n opened x way = record {
    depth = λ h. omega (arith, way_length (names ++ n ∷ []) opened x way, length-append names (n ∷ []));
    numbers = λ m i e.
        let small = some_within opened (λ v. v.0) m i e in
        ap (number_in slots) (sym (take_front m names (n ∷ []) (omega (arith, small, way_length (names ++ n ∷ []) opened x way, length-append names (n ∷ [])))))
        ∙ way.numbers m i (ap (option_map (λ (v : ℕ × ℕ). v.0)) (slice_get_before opened m x (λ same. omega arith)) ∙ e);
  }

  none_opened : (opened : List (ℕ × ℕ)) → length opened ≡ 0 → opened ≡ []
  none_opened [] e = refl
  none_opened (x ∷ opened) e = absurd (omega arith)

  -- the deepest slot closed, with the last name, if there is one
  pub way_pop : (names rest : Path) (gone : Option (List ℕ)) (opened : List (ℕ × ℕ)) (x : ℕ × ℕ) → names ≡ rest ++ option_to_list gone → (gone ≡ None → length names ≡ 0)
      → IsWay slots names (opened ++ x ∷ []) → IsWay slots rest opened
  way_pop names rest (Some n) opened x is none way = way_front rest n opened x (subst (λ (v : Path). IsWay slots v (opened ++ x ∷ [])) is way)
  way_pop names rest None opened x is none way =
      subst (λ (v : List (ℕ × ℕ)). IsWay slots rest v) (sym (none_opened opened (way_length names opened x way ∙ none refl))) (way_end rest)

  pub left_closed : (depth : ℕ) (names rest : Path) (gone : Option (List ℕ)) (opened : List (ℕ × ℕ)) (x : ℕ × ℕ) → names ≡ rest ++ option_to_list gone → (gone ≡ None → length names ≡ 0)
      → IsWay slots names (opened ++ x ∷ []) → slice_get (children_in slots x.0) x.1 ≡ None → left_in false depth slots rest opened ≡ left_in false depth slots names (opened ++ x ∷ [])
  left_closed depth names rest None opened x is none way end =
      let empty : opened ≡ [] = none_opened opened (way_length names opened x way ∙ none refl) in
      let no_names : names ≡ [] = nil_from_length names (none refl) in
      ap (left_in false depth slots rest) empty ∙ left_none slots false depth rest
      ∙ sym (ap (λ (v : List (ℕ × ℕ)). left_in false depth slots names (v ++ x ∷ [])) empty ∙ ap (λ (v : Path). left_in false depth slots v (x ∷ [])) no_names ∙ left_end slots depth x end)
  left_closed depth names rest (Some n) opened x is none way end = by (ends opened)
    where
      longer : length opened ≡ suc (length rest)
      longer = let l = ap length is in omega (arith, l, way_length names opened x way, length-append rest (n ∷ []))

      by : (opened ≡ []) ⊎ ((ys : List (ℕ × ℕ)) × (y : ℕ × ℕ) × (opened ≡ ys ++ y ∷ [])) → left_in false depth slots rest opened ≡ left_in false depth slots names (opened ++ x ∷ [])
      by (inl e) = absurd (let l = ap length e in omega (arith, l, longer))
      by (inr e) =
          let l : length e.0 ≡ length rest = (let k = ap length e.2 in omega (arith, k, longer, length-append e.0 (e.1 ∷ []))) in
          ap (left_in false depth slots rest) e.2 ∙ left_pop slots depth rest n e.0 e.1 x l end
          ∙ sym (ap (λ (v : List (ℕ × ℕ)). left_in false depth slots names (v ++ x ∷ [])) e.2 ∙ ap (λ (v : Path). left_in false depth slots v ((e.0 ++ e.1 ∷ []) ++ x ∷ [])) is)

-- ---- where a walk stands

module _ (slots : List Slot) (names : Path) (opened : List (ℕ × ℕ)) (walk : IsWalk slots names opened) where
  last_there : (x : ℕ × ℕ) → Some x ≡ slice_get opened (length opened - 1) → (ys : List (ℕ × ℕ)) × (opened ≡ ys ++ x ∷ [])
  last_there x at = by (ends opened)
    where
      by : (opened ≡ []) ⊎ ((ys : List (ℕ × ℕ)) × (y : ℕ × ℕ) × (opened ≡ ys ++ y ∷ [])) → (ys : List (ℕ × ℕ)) × (opened ≡ ys ++ x ∷ [])
      by (inl e) = absurd (let no : Some x ≡ None = at ∙ ap (λ (v : List (ℕ × ℕ)). slice_get v (length opened - 1)) e in cc)
      by (inr e) =
          let same : Some x ≡ Some e.1 = at ∙ slice_get_last e.0 opened e.1 e.2 in
          let is : e.1 ≡ x = cc in
          (e.0, e.2 ∙ ap (λ (v : ℕ × ℕ). e.0 ++ v ∷ []) is)

  pub last_within : (x : ℕ × ℕ) → Some x ≡ slice_get opened (length opened - 1) → x.0 < length slots
  last_within x at =
      let parts = last_there x at in
      walk.forest.within names x.0 (way_last slots names parts.0 x (subst (IsWay slots names) parts.1 walk.way))

  first_left : (ys : List (ℕ × ℕ)) (x : ℕ × ℕ) (o : Object) → opened ≡ ys ++ x ∷ [] → object_in slots x.0 ≡ Some o
      → left_in true (length slots) slots names opened ≡ (names, o) ∷ left_in false (length slots) slots names opened
  first_left ys x o is object =
      let way : IsWay slots names (ys ++ x ∷ []) = subst (IsWay slots names) is walk.way in
      let deep : length names < length slots = short slots walk.forest names x.0 (way_last slots names ys x way) in
      ap (left_in true (length slots) slots names) is
      ∙ left_first slots (length slots) names ys x o (way_length slots names ys x way) deep object
      ∙ ap (λ (v : List (ℕ × ℕ)). (names, o) ∷ left_in false (length slots) slots names v) (sym is)

  pub stands_at : (x : ℕ × ℕ) (s : Slot) → Some x ≡ slice_get opened (length opened - 1) → s ≡ get_or slots x.0 s → Some (names, object_of s) ≡ slice_get (left_in true (length slots) slots names opened) 0
  stands_at x s at is =
      let parts = last_there x at in
      let object : object_in slots x.0 ≡ Some (object_of s) = ap (option_map object_of) (slice_get-get_or slots x.0 s (last_within x at) ∙ ap Some (sym is)) in
      sym (ap (λ (v : Entries). slice_get v 0) (first_left parts.0 x (object_of s) parts.1 object))

  pub left_behind : drop 1 (left_in true (length slots) slots names opened) ≡ left_in false (length slots) slots names opened
  left_behind = by (ends opened)
    where
      there : (i : ℕ) → i < length slots → (o : Object) × (object_in slots i ≡ Some o)
      there i small = held (object_in slots i) (object_within slots i small)
        where
          held : (v : Option Object) → is_some v ≡ true → (o : Object) × (v ≡ Some o)
          held None e = absurd (let no : false ≡ true = e in cc)
          held (Some o) e = (o, refl)

      by : (opened ≡ []) ⊎ ((ys : List (ℕ × ℕ)) × (y : ℕ × ℕ) × (opened ≡ ys ++ y ∷ [])) → drop 1 (left_in true (length slots) slots names opened) ≡ left_in false (length slots) slots names opened
      by (inl e) =
          ap (λ (v : List (ℕ × ℕ)). drop 1 (left_in true (length slots) slots names v)) e ∙ ap (drop 1) (left_none slots true (length slots) names)
          ∙ sym (ap (left_in false (length slots) slots names) e ∙ left_none slots false (length slots) names)
      by (inr e) =
          let small = walk.forest.within names e.1.0 (way_last slots names e.0 e.1 (subst (IsWay slots names) e.2 walk.way)) in
          let found = there e.1.0 small in
          ap (drop 1) (first_left e.0 e.1 found.0 e.2 found.1)
