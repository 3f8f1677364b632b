-- Trees in the making: where the next path lies is shown by the last one.
use Rattle.std.proofs.Common.{◌≡◌, ◌≢◌, ℕ, suc, zero, ◌+◌, ◌-◌, ◌<◌, ◌≤◌, Bool, true, false, cond, ◌⊎◌, inl, inr, Result, Ok, Err, OnOk, List, [], ◌∷◌, ◌++◌, length, take, get_or, Option, Some, None, is_some, option_map, slice_get, refl, sym, ap, subst, ◌∙◌, arith, length-append}
use Rattle.std.specs.FinMap as fin
use Rattle.std.specs.Option.{option_and_then}
use Rattle.std.specs.Ordering.{is_lt, ordering_reverse}
use Rattle.std.specs.declared.cmp.Ordering.{Ordering}
use Rattle.std.specs.declared.cmp.Ordering.TheVariants.{Less, Equal, Greater}
use Rattle.std.proofs.lemmas.Bool.{cases_eq}
use Rattle.std.proofs.lemmas.List.{length-take-le, take-take, take_all, take_more_same, get_or_append_left}
use Rattle.std.proofs.lemmas.Option.{slice_get-get_or, slice_get_past, slice_get_read, slice_get_within, get_or_from_slice_get}
use Rattle.pv_path.specs.Names.{same_bytes}
use Rattle.pv_path.specs.Paths.{Path, path_cmp, path_total, has_names, is_prefix, parent_of, same_path, same_path-decides}
use Rattle.pv_path.proofs.PathLaws.{same_bytes-decides, name_cmp-refl, name_cmp-exact, path_cmp-refl, prefix_parts, prefix_between, parent_of-is_prefix, length-parent_of}
use Rattle.pv_steps.specs.declared.node.Kind.TheVariants.{Directory}
use Rattle.pv_steps.specs.declared.node.Node.{Node}
use Rattle.pv_steps.specs.declared.object.Object.{Object}
use Rattle.pv_steps.specs.Objects.{IsObject, is_directory}
use Rattle.pv_steps.specs.Steps.{put_at}
use Rattle.pv_steps.specs.Trees.{Files, Places, places, IsPresentIn, IsKind, IsKindIn, kind_of}
use Rattle.pv_steps.proofs.TreeLaws.{not_absent, present_of_kind}
use Rattle.pv_tree.specs.declared.slot.Slot.{Slot}
use Rattle.pv_path.specs.Names.{name_cmp}
use Rattle.pv_tree.specs.Growth.{Grown, IsShared, AreOnWay, IsGrowing}
use Rattle.pv_tree.specs.Held.{root_alone}
use Rattle.pv_tree.specs.Slots.{number_in, object_in, places_in, files_of, IsForest, AreFree, IsTreeOf}
use Rattle.pv_tree.proofs.Files.{places_of}
use Rattle.pv_tree.proofs.ForestLaws.{slice_get_take}
use Rattle.pv_tree.proofs.SlotLaws.{slice_get_push, slice_get_before}
use Rattle.pv_tree.proofs.State.{added_files, added_tree, object_there}
use Rattle.pv_path.proofs.Tests.{less_of}
use Rattle.pv_steps.proofs.ObjectLaws.{directory_is}

-- ---- names that two paths share

-- paths in order by the first names that differ
abbrev pub by_names : Option (List ℕ) → Option (List ℕ) → Ordering
by_names None None = Equal
by_names None (Some n) = Less
by_names (Some m) None = Greater
by_names (Some m) (Some n) = name_cmp m n

pub order_shared : (p q : Path) (k : ℕ) → IsShared p q k → path_cmp p q ≡ by_names (slice_get p k) (slice_get q k)
order_shared [] [] zero h = refl
order_shared [] [] (suc k) h = refl
order_shared [] (n ∷ q) zero h = refl
order_shared [] (n ∷ q) (suc k) h = absurd (let no = h.in_first in omega arith)
order_shared (m ∷ p) [] zero h = refl
order_shared (m ∷ p) [] (suc k) h = absurd (let no = h.in_second in omega arith)
order_shared (m ∷ p) (n ∷ q) zero h = by (name_cmp m n) refl
  where
    by : (o : Ordering) → name_cmp m n ≡ o → path_cmp (m ∷ p) (n ∷ q) ≡ name_cmp m n
    by Less e = rw e refl
    by Equal e = absurd (h.apart m n refl refl (name_cmp-exact m n e))
    by Greater e = rw e refl
order_shared (m ∷ p) (n ∷ q) (suc k) h =
    let all : m ∷ take k p ≡ n ∷ take k q = h.same in
    let first : m ≡ n = cc in
    let rest : take k p ≡ take k q = cc in
    let tied : name_cmp m n ≡ Equal = ap (name_cmp m) (sym first) ∙ name_cmp-refl m in
    rw tied (order_shared p q k (record {
      in_first = (let i = h.in_first in omega arith);
      in_second = (let i = h.in_second in omega arith);
      same = rest;
      apart = h.apart;
    }))

-- a path without more names than it shares with another does not come after it
pub not_after : (p q : Path) (k : ℕ) → IsShared p q k → slice_get q k ≡ None → is_lt (path_cmp p q) ≡ false
not_after p q k h none =
    ap is_lt (order_shared p q k h ∙ ap (by_names (slice_get p k)) none)
    ∙ elim (slice_get p k) as (λ o. is_lt (by_names o None) ≡ false) [ None ↦ refl | Some m ↦ refl ]

pub more_names : (p q : Path) (k : ℕ) → IsShared p q k → is_lt (path_cmp p q) ≡ true → k < length q
more_names p q k h less = by (slice_get q k) refl
  where
    by : (o : Option (List ℕ)) → slice_get q k ≡ o → k < length q
    by (Some n) e = slice_get_within q k n e
    by None e = absurd (let no : true ≡ false = sym less ∙ not_after p q k h e in cc)

-- the loop that counts goes on, and ends with the shared names
pub count_more : (p q : Path) (k : ℕ) (m n : List ℕ) → k < length p → k < length q → take k p ≡ take k q → m ≡ get_or p k m → n ≡ get_or q k n → m ≡ n → take (k + 1) p ≡ take (k + 1) q
count_more p q k m n a b same first second is =
    take_more_same p q k m a b same (sym first ∙ is ∙ sym (get_or_from_slice_get q k n m (slice_get_read q (length q) k n refl b second)))

pub ends_apart : (p q : Path) (k : ℕ) (m n : List ℕ) → k < length p → k < length q → take k p ≡ take k q → m ≡ get_or p k m → n ≡ get_or q k n → same_bytes m n ≡ false → IsShared p q k
ends_apart p q k m n a b same first second differ = record {
  in_first = omega (arith, a);
  in_second = omega (arith, b);
  same = same;
  apart = λ x y e f is.
      let one : Some m ≡ Some x = sym (slice_get_read p (length p) k m refl a first) ∙ e in
      let two : Some n ≡ Some y = sym (slice_get_read q (length q) k n refl b second) ∙ f in
      let tied : m ≡ n = cc in
      (let no : true ≡ false = sym ((same_bytes-decides m n).1 tied) ∙ differ in cc);
}

pub ends_first : (p q : Path) (k : ℕ) → k ≤ length p → k ≤ length q → take k p ≡ take k q → length p ≤ k → IsShared p q k
ends_first p q k a b same end = record {
  in_first = a;
  in_second = b;
  same = same;
  apart = λ m n e f. absurd (let no : None ≡ Some m = sym (slice_get_past p k end) ∙ e in cc);
}

pub ends_second : (p q : Path) (k : ℕ) → k ≤ length p → k ≤ length q → take k p ≡ take k q → length q ≤ k → IsShared p q k
ends_second p q k a b same end = record {
  in_first = a;
  in_second = b;
  same = same;
  apart = λ m n e f. absurd (let no : None ≡ Some n = sym (slice_get_past q k end) ∙ f in cc);
}

-- ---- the directory of the next path

-- the last path does not begin with the directory, where the next path has not just one name more than they share
pub begins_not : (last path : Path) (k : ℕ) → IsShared last path k → is_lt (path_cmp last path) ≡ true → length path - k ≢ 1 → is_prefix (parent_of path) last ≡ false
begins_not last path k h less other = by (is_prefix (parent_of path) last) refl
  where
    small : k < length path
    small = more_names last path k h less

    shorter : k < length (parent_of path)
    shorter = by_eq (cases_eq (length path - k) 1)
      where
        by_eq : (length path - k ≡ 1) ⊎ (length path - k ≢ 1) → k < length (parent_of path)
        by_eq (inl e) = absurd (other e)
        by_eq (inr e) = omega (arith, e, small, length-parent_of path)

    same_name : (p q r : Path) (d : List ℕ) → p ≡ parent_of path ++ r → slice_get p k ≡ Some (get_or (parent_of path) k d)
    same_name p q r d is =
        let more : k < length p = (let l = ap length is in omega (arith, l, shorter, length-append (parent_of path) r)) in
        slice_get-get_or p k d more ∙ ap (λ (v : Path). Some (get_or v k d)) is ∙ ap Some (get_or_append_left (parent_of path) r d k shorter)

    by : (b : Bool) → is_prefix (parent_of path) last ≡ b → b ≡ false
    by false e = refl
    by true e =
        let front = prefix_parts (parent_of path) last e in
        let whole = prefix_parts (parent_of path) path (parent_of-is_prefix path) in
        absurd (h.apart (get_or (parent_of path) k []) (get_or (parent_of path) k []) (same_name last path front.0 [] front.1) (same_name path path whole.0 [] whole.1) refl)

-- ---- slots of a tree in the making

module _ (s : List Slot) (free : List ℕ) (last path : Path) (way : List ℕ) (growing : IsGrowing s free last way) (less : is_lt (path_cmp last path) ≡ true) where
  pub next_absent : places_in s path ≡ None
  next_absent = by (places_in s path) refl
    where
      by : (o : Option Object) → places_in s path ≡ o → o ≡ None
      by None e = refl
      by (Some o) e = absurd (let no : true ≡ false = sym less ∙ growing.final path (ap is_some e) in cc)

  -- a directory that is there is a beginning of the last path
  pub parent_before : IsKindIn Directory (places_in s) (parent_of path) → is_prefix (parent_of path) last ≡ true
  parent_before kind =
      prefix_between (parent_of path) last path (parent_of-is_prefix path) (not_after (path_cmp last (parent_of path)) refl) (λ e. let is = less_of (path_cmp last path) less in cc)
    where
      not_after : (o : Ordering) → path_cmp last (parent_of path) ≡ o → path_cmp (parent_of path) last ≢ Greater
      not_after Less e = absurd (let no : is_lt Less ≡ false = sym (ap is_lt e) ∙ growing.final (parent_of path) (present_of_kind (places_in s) (parent_of path) Directory kind) in cc)
      not_after Equal e = λ g. (let turned : path_cmp (parent_of path) last ≡ Equal = path_total.antisymm (parent_of path) last ∙ ap ordering_reverse e in cc)
      not_after Greater e = λ g. (let turned : path_cmp (parent_of path) last ≡ Less = path_total.antisymm (parent_of path) last ∙ ap ordering_reverse e in cc)

  -- the number of the directory stands on the way
  module _ (depth directory : ℕ) (begins : take depth last ≡ parent_of path) (within : depth ≤ length last) (at : directory ≡ get_or way depth directory) where
    pub directory_number : number_in s (parent_of path) ≡ Some directory
    directory_number =
        let more : depth < length way = omega (arith, within, growing.whole) in
        sym (ap (number_in s) begins) ∙ growing.on_way depth directory (slice_get-get_or way depth directory more ∙ ap Some (sym at))

    pub directory_kind : kind_of (places_in s (parent_of path)) ≡ kind_of (object_in s directory)
    directory_kind = ap (λ o. kind_of (option_and_then (object_in s) o)) directory_number

    pub parent_there : option_map (λ (o : Object). is_directory o.node.kind) (object_in s directory) ≡ Some true → IsKindIn Directory (places_in s) (parent_of path)
    parent_there is = directory_kind ∙ by (object_in s directory) is
      where
        by : (o : Option Object) → option_map (λ (x : Object). is_directory x.node.kind) o ≡ Some true → kind_of o ≡ Some Directory
        by None e = absurd (let no : None ≡ Some true = e in cc)
        by (Some x) e = ap Some (directory_is x.node.kind (let yes : is_directory x.node.kind ≡ true = cc in yes))

    pub parent_other : option_map (λ (o : Object). is_directory o.node.kind) (object_in s directory) ≡ Some false → IsKindIn Directory (places_in s) (parent_of path) → ⊥
    parent_other is kind = by (object_in s directory) is (sym directory_kind ∙ kind)
      where
        by : (o : Option Object) → option_map (λ (x : Object). is_directory x.node.kind) o ≡ Some false → kind_of o ≡ Some Directory → ⊥
        by None e k = (let no : None ≡ Some Directory = k in cc)
        by (Some x) e k =
            let directory : x.node.kind ≡ Directory = cc in
            let yes : is_directory x.node.kind ≡ true = ap is_directory directory in
            let no : is_directory x.node.kind ≡ false = cc in
            cc

-- ---- one object more

module _ (s new : List Slot) (last path : Path) (way : List ℕ) (depth number : ℕ) (on_way : AreOnWay s last way) (whole : length way ≡ suc (length last))
    (begins : take depth last ≡ parent_of path) (one : depth + 1 ≡ length path) (within : depth ≤ length last)
    (at : number_in new path ≡ Some number) (others : (q : Path) → q ≢ path → number_in new q ≡ number_in s q) where
  front_length : length (take (depth + 1) way) ≡ depth + 1
  front_length = length-take-le (depth + 1) way (omega (arith, whole, within))

  pub way_length : length (take (depth + 1) way ++ number ∷ []) ≡ suc (length path)
  way_length = omega (arith, front_length, one, length-append (take (depth + 1) way) (number ∷ []))

  same_front : (m : ℕ) → m ≤ depth → take m path ≡ take m last
  same_front m small =
      let parent : take depth path ≡ take depth last = ap (λ (i : ℕ). take i path) (let n : depth ≡ length path - 1 = omega (arith, one) in n) ∙ sym begins in
      sym (take-take m depth path small) ∙ ap (take m) parent ∙ take-take m depth last small

  pub way_on : AreOnWay new path (take (depth + 1) way ++ number ∷ [])
  way_on m i e = by (cases_eq m (length (take (depth + 1) way)))
    where
      by : (m ≡ length (take (depth + 1) way)) ⊎ (m ≢ length (take (depth + 1) way)) → number_in new (take m path) ≡ Some i
      by (inl is) =
          let whole_path : take m path ≡ path = take_all m path (omega (arith, is, front_length, one)) in
          ap (number_in new) whole_path ∙ at ∙ sym (ap (slice_get (take (depth + 1) way ++ number ∷ [])) is ∙ slice_get_push (take (depth + 1) way) number) ∙ e
      by (inr other) =
          let before = slice_get_take (depth + 1) way m i (sym (slice_get_before (take (depth + 1) way) m number other) ∙ e) in
          let shorter : take m path ≢ path = λ same. (let l = ap length same in omega (arith, l, before.1, one, length-take-le m path (omega (arith, before.1, one)))) in
          others (take m path) shorter ∙ ap (number_in s) (same_front m (omega (arith, before.1))) ∙ on_way m i before.0

pub final_after : (s new : List Slot) (last path : Path) (o : Object) → ((p : Path) → IsPresentIn (places_in s) p → is_lt (path_cmp last p) ≡ false) → is_lt (path_cmp last path) ≡ true
    → places_in new ≡ put_at path (Some o) (places_in s) → (p : Path) → IsPresentIn (places_in new) p → is_lt (path_cmp path p) ≡ false
final_after s new last path o final less is p present = by (same_path path p) refl (path_cmp path p) refl
  where
    old : same_path path p ≡ false → IsPresentIn (places_in s) p
    old e = ap (λ (b : Bool). is_some (cond b (Some o) (places_in s p))) (sym e) ∙ ap (λ (t : Places). is_some (t p)) (sym is) ∙ present

    by : (b : Bool) → same_path path p ≡ b → (r : Ordering) → path_cmp path p ≡ r → is_lt r ≡ false
    by true e r f =
        let tied : r ≡ Equal = sym f ∙ ap (path_cmp path) (sym ((same_path-decides path p).0 e)) ∙ path_cmp-refl path in
        ap is_lt tied
    by false e Less f =
        let below : path_cmp last p ≡ Less = path_total.trans last path p (less_of (path_cmp last path) less) f in
        absurd (let no : is_lt Less ≡ false = sym (ap is_lt below) ∙ final p (old e) in cc)
    by false e Equal f = refl
    by false e Greater f = refl

pub grown : (s new : List Slot) (free rest : List ℕ) (last path : Path) (way way' : List ℕ) (depth number : ℕ) (o : Object) → IsGrowing s free last way → is_lt (path_cmp last path) ≡ true
    → take depth last ≡ parent_of path → depth + 1 ≡ length path → depth ≤ length last → IsKindIn Directory (places_in s) (parent_of path) → has_names path ≡ true → IsObject o
    → IsForest new → AreFree new rest → places_in new ≡ put_at path (Some o) (places_in s)
    → number_in new path ≡ Some number → ((q : Path) → q ≢ path → number_in new q ≡ number_in s q)
    → way' ≡ take (depth + 1) way ++ number ∷ [] → IsGrowing new rest path way'
grown s new free rest last path way way' depth number o growing less begins one within kind named object forest spare is at others way_is = record {
  held = added_tree s new (files_of s) path o refl growing.held.forest forest {A = ℕ} {E = Unit {0}} (Ok number) free rest growing.held spare is tt
      (there path ∙ next_absent s free last path way growing less) (ap kind_of (there (parent_of path)) ∙ kind) named object;
  whole = ap length way_is ∙ way_length s new last path way depth number growing.on_way growing.whole begins one within at others;
  on_way = subst (AreOnWay new path) (sym way_is) (way_on s new last path way depth number growing.on_way growing.whole begins one within at others);
  final = final_after s new last path o growing.final less is;
}
  where
    there : (q : Path) → places (files_of s) q ≡ places_in s q
    there q = ap (λ (t : Places). t q) (places_of s growing.held.forest)

-- ---- a root alone

pub root_growing : (slots : List Slot) (free way : List ℕ) (root : Node) → IsTreeOf slots [] → files_of slots ≡ root_alone root → free ≡ [] → way ≡ 0 ∷ [] → IsGrowing slots free [] way
root_growing slots free way root held files none one =
    subst (λ (v : List ℕ). IsGrowing slots v [] way) (sym none) (subst (λ (w : List ℕ). IsGrowing slots [] [] w) (sym one) (record { held = held; whole = refl; on_way = on_way; final = final }))
  where
    on_way : (m i : ℕ) → slice_get (0 ∷ []) m ≡ Some i → number_in slots (take m []) ≡ Some i
    on_way zero i e = e
    on_way (suc m) i e = absurd (let no : None ≡ Some i = e in cc)

    final : (p : Path) → IsPresentIn (places_in slots) p → is_lt (path_cmp [] p) ≡ false
    final [] h = refl
    final (n ∷ p) h =
        let absent : places (root_alone root) (n ∷ p) ≡ None = fin.get-insert path_total fin.empty [] (record { node = root; payload = [] }) (n ∷ p) ∙ fin.get-empty path_cmp (n ∷ p) in
        absurd (not_absent (places_in slots) (n ∷ p) h
        (sym (ap (λ (t : Places). t (n ∷ p)) (places_of slots held.forest)) ∙ ap (λ (f : Files). places f (n ∷ p)) files ∙ absent))

-- ---- by the result of a call

pub added_grown : {E : Type 0} → (r : Result (Unit {0}) E) (slots new : List Slot) (was : Grown) (last path : Path) (o : Object) → files_of slots ≡ was.files → IsForest slots → IsForest new
    → OnOk r (places_in new ≡ put_at path (Some o) (places_in slots)) → OnOk r (last ≡ path)
    → OnOk r (◌≡◌ {A = Grown} (record { files = files_of new; last = last }) (record { files = fin.insert was.files path o; last = path }))
added_grown (Ok u) slots new was last path o same forest kept ok is =
    let files : files_of new ≡ fin.insert was.files path o = added_files slots new was.files path o same forest kept ok in
    λ j. record { files = files j; last = is j }
added_grown (Err e) slots new was last path o same forest kept ok is = tt

pub parent_told : {E : Type 0} → (r : Result (Unit {0}) E) (slots : List Slot) (t : Files) (path : Path) → IsForest slots → files_of slots ≡ t → OnOk r (IsKindIn Directory (places_in slots) path) → OnOk r (IsKind Directory t path)
parent_told (Ok u) slots t path forest same kind = sym (ap kind_of (object_there slots t path forest same)) ∙ kind
parent_told (Err e) slots t path forest same kind = tt
