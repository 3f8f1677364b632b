-- Slots that make a tree stay so when a child comes, goes or moves.
use Rattle.std.proofs.Common.{◌≡◌, ◌≢◌, ℕ, suc, zero, ◌<◌, ◌≤◌, ◌-◌, Bool, true, false, cond, eqb, ◌⊎◌, inl, inr, Result, Ok, Err, OnOk, List, [], ◌∷◌, ◌++◌, length, take, Option, Some, None, is_some, slice_get, unwrap_or, refl, sym, ap, subst, ◌∙◌, arith}
use Rattle.std.specs.Option.{option_and_then, option_to_list}
use Rattle.std.proofs.lemmas.List.{append-nil}
use Rattle.std.proofs.lemmas.Bool.{cases_eq, cases_lt}
use Rattle.std.proofs.lemmas.Bool.Decides.{eqb_tells}
use Rattle.pv_path.specs.Paths.{Path, is_prefix, parent_of}
use Rattle.pv_path.proofs.PathLaws.{parent_of-push, is_prefix-refl}
use Rattle.pv_steps.specs.declared.object.Object.{Object}
use Rattle.pv_steps.specs.Objects.{modified, changed}
use Rattle.pv_steps.specs.declared.node.Kind.TheVariants.{Directory}
use Rattle.pv_steps.specs.Trees.{Places, IsPresentIn, IsTreeIn, kind_of}
use Rattle.pv_steps.proofs.TreeLaws.{not_absent, present_of_kind, present_above}
use Rattle.pv_steps.specs.Steps.{put_at, on_at, gone, moved, Movable, Yields, absent, objects, directories}
use Rattle.pv_tree.specs.declared.slot.Slot.{Slot}
use Rattle.pv_tree.specs.Edges.{Edges, Objects, led, IsSet, IsChanged, IsPlaced, places_by}
use Rattle.pv_tree.specs.Slots.{child_in, object_in, number_in, places_in, next_number, IsForest, AreFree, IsUnreached}
use Rattle.pv_tree.proofs.EdgeLaws.{Once, led-agree, directory_stays, led-on, made_is, made_else, made_once, made_apart, gone_before, gone_once, gone_apart, moved_once, moved_apart, moved_still, moved_directory, path_cases, edge_cases, without_edge, without_set}
use Rattle.pv_tree.proofs.PlaceLaws.{places_changed, places_made, places_gone, places_moved}
use Rattle.pv_tree.proofs.SlotLaws.{slice_get_push, slice_get_before}

-- ---- numbers and the object there

pub object_within : (s : List Slot) (i : ℕ) → i < length s → is_some (object_in s i) ≡ true
object_within [] i h = absurd (omega arith)
object_within (x ∷ s) zero h = refl
object_within (x ∷ s) (suc i) h = object_within s i (omega arith)

module _ (s : List Slot) (forest : IsForest s) where
  pub once_in : Once (child_in s)
  once_in = forest.once

  -- where nothing stands no path leads
  pub number_absent : (path : Path) → places_in s path ≡ None → number_in s path ≡ None
  number_absent path none = by (number_in s path) refl
    where
      by : (o : Option ℕ) → number_in s path ≡ o → o ≡ None
      by None e = refl
      by (Some i) e =
          let some : is_some (object_in s i) ≡ true = object_within s i (forest.within path i e) in
          let no : false ≡ true = sym (ap is_some (sym (ap (option_and_then (object_in s)) e) ∙ none)) ∙ some in
          absurd cc

  pub number_present : (path : Path) → IsPresentIn (places_in s) path → (i : ℕ) × (number_in s path ≡ Some i)
  number_present path some = by (number_in s path) refl
    where
      by : (o : Option ℕ) → number_in s path ≡ o → (i : ℕ) × (number_in s path ≡ Some i)
      by None e = absurd (let no : false ≡ true = sym (ap (λ o. is_some (option_and_then (object_in s) o)) e) ∙ some in cc)
      by (Some i) e = (i, e)

-- ---- the free numbers

pub slice_get_take : {A : Type 0} → (m : ℕ) (xs : List A) (j : ℕ) (x : A) → slice_get (take m xs) j ≡ Some x → (slice_get xs j ≡ Some x) × (j < m)
slice_get_take zero xs j x is = absurd (let no : None ≡ Some x = is in cc)
slice_get_take (suc m) [] j x is = absurd (let no : None ≡ Some x = is in cc)
slice_get_take (suc m) (y ∷ xs) zero x is = (is, omega arith)
slice_get_take (suc m) (y ∷ xs) (suc j) x is = let rest = slice_get_take m xs j x is in (rest.0, omega (arith, rest.1))

pub next_unreached : (s : List Slot) (free : List ℕ) → IsForest s → AreFree s free → IsUnreached s (next_number s free)
next_unreached s free forest are = by (slice_get free (length free - 1)) refl
  where
    by : (o : Option ℕ) → slice_get free (length free - 1) ≡ o → IsUnreached s (unwrap_or o (length s))
    by None e = λ path is. (let past = forest.within path (length s) is in omega arith)
    by (Some i) e = are.apart (length free - 1) i e

-- what no path leads to stays so, in no fewer slots
pub free_still : (s new : List Slot) (free : List ℕ) → ((i : ℕ) → IsUnreached s i → IsUnreached new i) → length s ≤ length new → AreFree s free → AreFree new free
free_still s new free still more are = record {
  within = λ j i is. let small = are.within j i is in omega arith;
  apart = λ j i is. still i (are.apart j i is);
  once = are.once;
}

-- the last one taken
module _ (s : List Slot) (free rest : List ℕ) (are : AreFree s free) (is : rest ≡ take (length free - 1) free) where
  before : (j i : ℕ) → slice_get rest j ≡ Some i → (slice_get free j ≡ Some i) × (j < length free - 1)
  before j i at = slice_get_take (length free - 1) free j i (sym (ap (λ v. slice_get v j) is) ∙ at)

  pub free_less : AreFree s rest
  free_less = record {
    within = λ j i at. are.within j i (before j i at).0;
    apart = λ j i at. are.apart j i (before j i at).0;
    once = λ j m i at to. are.once j m i (before j i at).0 (before m i to).0;
  }

  pub others_free : (j i : ℕ) → slice_get rest j ≡ Some i → i ≢ next_number s free
  others_free j i at same = by (slice_get free (length free - 1)) refl same
    where
      by : (o : Option ℕ) → slice_get free (length free - 1) ≡ o → i ≡ unwrap_or o (length s) → ⊥
      by None e past = let small = are.within j i (before j i at).0 in omega arith
      by (Some k) e is_k =
          let twice : j ≡ length free - 1 = are.once j (length free - 1) i (before j i at).0 (e ∙ ap Some (sym is_k)) in
          let less = (before j i at).1 in
          omega arith

-- one more
module _ (s : List Slot) (free : List ℕ) (f : ℕ) (are : AreFree s free) (small : f < length s) (apart : IsUnreached s f) (new : (j : ℕ) → slice_get free j ≢ Some f) where
  at_end : (j i : ℕ) → slice_get (free ++ f ∷ []) j ≡ Some i → ((j ≡ length free) × (i ≡ f)) ⊎ (slice_get free j ≡ Some i)
  at_end j i is = by (cases_eq j (length free))
    where
      by : (j ≡ length free) ⊎ (j ≢ length free) → ((j ≡ length free) × (i ≡ f)) ⊎ (slice_get free j ≡ Some i)
      by (inl e) = inl (e, (let both : Some i ≡ Some f = sym is ∙ ap (slice_get (free ++ f ∷ [])) e ∙ slice_get_push free f in cc))
      by (inr other) = inr (sym (slice_get_before free j f other) ∙ is)

  pub free_more : AreFree s (free ++ f ∷ [])
  free_more = record {
    within = λ j i is. elim (at_end j i is) [ inl e ↦ subst (λ v. v < length s) (sym e.1) small | inr at ↦ are.within j i at ];
    apart = λ j i is. elim (at_end j i is) [ inl e ↦ subst (IsUnreached s) (sym e.1) apart | inr at ↦ are.apart j i at ];
    once = λ j m i is to. by j m i (at_end j i is) (at_end m i to);
  }
    where
      by : (j m i : ℕ) → ((j ≡ length free) × (i ≡ f)) ⊎ (slice_get free j ≡ Some i) → ((m ≡ length free) × (i ≡ f)) ⊎ (slice_get free m ≡ Some i) → j ≡ m
      by j m i (inl a) (inl b) = a.0 ∙ sym b.0
      by j m i (inl a) (inr b) = absurd (new m (b ∙ ap Some a.1))
      by j m i (inr a) (inl b) = absurd (new j (a ∙ ap Some b.1))
      by j m i (inr a) (inr b) = are.once j m i a b

-- ---- the same edges

module _ (s new : List Slot) (edges : child_in new ≡ child_in s) (len : length new ≡ length s) where
  pub forest_same : IsForest s → IsForest new
  forest_same forest = record {
    within = λ path i is. let small = forest.within path i (sym (ap (λ (g : Edges). led g 0 path) edges) ∙ is) in omega arith;
    once = λ p q i hp hq. forest.once p q i (sym (ap (λ (g : Edges). led g 0 p) edges) ∙ hp) (sym (ap (λ (g : Edges). led g 0 q) edges) ∙ hq);
  }

  pub unreached_same : (i : ℕ) → IsUnreached s i → IsUnreached new i
  unreached_same i apart path is = apart path (sym (ap (λ (g : Edges). led g 0 path) edges) ∙ is)

  -- an object changed
  pub change_places : (k : ℕ) (f : Object → Object) (path : Path) → IsForest s → number_in s path ≡ Some k → IsChanged k f (object_in s) (object_in new)
      → places_in new ≡ on_at path f (places_in s)
  change_places k f path forest at change =
      ap (λ (g : Edges). places_by g (object_in new)) edges ∙ places_changed (child_in s) (object_in s) (object_in new) k f path change (once_in s forest) at

-- ---- a child comes

-- a number without edges
abbrev cleared : ℕ → Edges → Edges
cleared f g = λ i name. cond (eqb i f) None (g i name)

cleared_here : (f : ℕ) (g : Edges) (name : List ℕ) → cleared f g f name ≡ None
cleared_here f g name = by (eqb f f) (eqb_tells f f)
  where
    by : (b : Bool) → ((b ≡ true) × (f ≡ f)) ⊎ ((b ≡ false) × (f ≢ f)) → cond b None (g f name) ≡ None
    by b (inl h) = ap (λ v. cond v None (g f name)) h.0
    by b (inr h) = absurd (h.1 refl)

cleared_other : (f : ℕ) (g : Edges) (i : ℕ) (name : List ℕ) → i ≢ f → cleared f g i name ≡ g i name
cleared_other f g i name other = by (eqb i f) (eqb_tells i f)
  where
    by : (b : Bool) → ((b ≡ true) × (i ≡ f)) ⊎ ((b ≡ false) × (i ≢ f)) → cond b None (g i name) ≡ g i name
    by b (inl h) = absurd (other h.1)
    by b (inr h) = ap (λ v. cond v None (g i name)) h.0

module _ (s s1 new : List Slot) (free rest : List ℕ) (k f : ℕ) (n : List ℕ) (d : Path) (o : Object) (forest : IsForest s) (are : AreFree s free)
    (at : number_in s d ≡ Some k) (absent : places_in s (d ++ n ∷ []) ≡ None) (is_next : f ≡ next_number s free)
    (edges : IsSet k n (Some f) (child_in s) (child_in s1)) (objects : object_in s1 ≡ object_in s)
    (placed : IsPlaced f o (child_in s1) (object_in s1) (child_in new) (object_in new)) (more : length s ≤ length new) (fits : f < length new)
    (less : rest ≡ take (length free - 1) free) where
  g : Edges
  g = cleared f (child_in s)

  apart : IsUnreached s f
  apart = subst (IsUnreached s) (sym is_next) (next_unreached s free forest are)

  -- the number is not the directory's
  other : k ≢ f
  other same = apart d (at ∙ ap Some same)

  led_same : (q : Path) → led (cleared f (child_in s)) 0 q ≡ number_in s q
  led_same q = led-agree (child_in s) (cleared f (child_in s)) 0 q (λ p m r i is there. cleared_other f (child_in s) i m (λ same. apart p (there ∙ ap Some same)))

  once_cleared : Once (cleared f (child_in s))
  once_cleared p q i hp hq = forest.once p q i (sym (led_same p) ∙ hp) (sym (led_same q) ∙ hq)

  change : IsSet k n (Some f) (cleared f (child_in s)) (child_in new)
  change = record {
    here = (placed.else k other).1 n ∙ edges.here;
    else = λ i m differ. by i m differ (cases_eq i f);
  }
    where
      by : (i : ℕ) (m : List ℕ) → ((i ≡ k) × (m ≡ n) → ⊥) → (i ≡ f) ⊎ (i ≢ f) → child_in new i m ≡ cleared f (child_in s) i m
      by i m differ (inl same) = ap (λ v. child_in new v m) same ∙ placed.object_state m ∙ sym (ap (λ v. cleared f (child_in s) v m) same ∙ cleared_here f (child_in s) m)
      by i m differ (inr apart_i) = (placed.else i apart_i).1 m ∙ edges.else i m differ ∙ sym (cleared_other f (child_in s) i m apart_i)

  at_cleared : led (cleared f (child_in s)) 0 d ≡ Some k
  at_cleared = led_same d ∙ at

  apart_cleared : (p : Path) → led (cleared f (child_in s)) 0 p ≢ Some f
  apart_cleared p is = apart p (sym (led_same p) ∙ is)

  absent_cleared : led (cleared f (child_in s)) 0 (d ++ n ∷ []) ≡ None
  absent_cleared = led_same (d ++ n ∷ []) ∙ number_absent s forest (d ++ n ∷ []) absent

  pub put_places : places_in new ≡ put_at (d ++ n ∷ []) (Some o) (places_in s)
  put_places =
      places_made (cleared f (child_in s)) (child_in new) (object_in s) (object_in new) d k f n o change once_cleared at_cleared (cleared_here f (child_in s)) apart_cleared absent_cleared
      placed.here (λ i differ. (placed.else i differ).0 ∙ ap (λ (a : Objects). a i) objects)
      ∙ ap (put_at (d ++ n ∷ []) (Some o)) (λ j q. option_and_then (object_in s) (led_same q j))

  pub put_forest : IsForest new
  put_forest = record {
    within = λ path i is. by path i is (path_cases path (d ++ n ∷ []));
    once = made_once (cleared f (child_in s)) (child_in new) d k f n change once_cleared at_cleared (cleared_here f (child_in s)) apart_cleared absent_cleared;
  }
    where
      by : (path : Path) (i : ℕ) → number_in new path ≡ Some i → (path ≡ d ++ n ∷ []) ⊎ (path ≢ d ++ n ∷ []) → i < length new
      by path i is (inl same) =
          let both : Some i ≡ Some f = sym is ∙ ap (led (child_in new) 0) same ∙ made_is (cleared f (child_in s)) (child_in new) d k f n change once_cleared at_cleared (cleared_here f (child_in s)) apart_cleared absent_cleared in
          let e : i ≡ f = cc in omega arith
      by path i is (inr differ) =
          let small = forest.within path i (sym (led_same path) ∙ sym (made_else (cleared f (child_in s)) (child_in new) d k f n change once_cleared at_cleared (cleared_here f (child_in s)) apart_cleared absent_cleared path differ) ∙ is) in
          omega arith

  pub put_free : AreFree new rest
  put_free = record {
    within = λ j i is. let small = (free_less s free rest are less).within j i is in omega arith;
    apart = λ j i is.
        made_apart (cleared f (child_in s)) (child_in new) d k f n change once_cleared at_cleared (cleared_here f (child_in s)) apart_cleared absent_cleared i
        (λ same. others_free s free rest are less j i is (same ∙ is_next))
        (λ p there. (free_less s free rest are less).apart j i is p (sym (led_same p) ∙ there));
    once = (free_less s free rest are less).once;
  }

  pub put_number_is : number_in new (d ++ n ∷ []) ≡ Some f
  put_number_is = made_is (cleared f (child_in s)) (child_in new) d k f n change once_cleared at_cleared (cleared_here f (child_in s)) apart_cleared absent_cleared

  pub put_else : (q : Path) → q ≢ d ++ n ∷ [] → number_in new q ≡ number_in s q
  put_else q differ = made_else (cleared f (child_in s)) (child_in new) d k f n change once_cleared at_cleared (cleared_here f (child_in s)) apart_cleared absent_cleared q differ ∙ led_same q

-- ---- a child goes

module _ (s s1 new : List Slot) (now k : ℕ) (n : List ℕ) (d : Path) (forest : IsForest s) (at : number_in s d ≡ Some k)
    (edges : IsSet k n None (child_in s) (child_in s1)) (objects : object_in s1 ≡ object_in s) (len1 : length s1 ≡ length s)
    (touch : IsChanged k (modified now) (object_in s1) (object_in new)) (same : child_in new ≡ child_in s1) (len : length new ≡ length s1) where
  drop_forest1 : IsForest s1
  drop_forest1 = record {
    within = λ path i is. let small = forest.within path i (gone_before (child_in s) (child_in s1) d k n edges (once_in s forest) at path i is) in omega arith;
    once = gone_once (child_in s) (child_in s1) d k n edges (once_in s forest) at;
  }

  pub drop_forest : IsForest new
  drop_forest = forest_same s1 new same len drop_forest1

  pub drop_directory : number_in new d ≡ Some k
  drop_directory = ap (λ (g : Edges). led g 0 d) same ∙ directory_stays (child_in s) (child_in s1) d k n None edges (once_in s forest) at

  drop_apart : (i : ℕ) → IsUnreached s i → IsUnreached new i
  drop_apart i apart = unreached_same s1 new same len i (λ path is. apart path (gone_before (child_in s) (child_in s1) d k n edges (once_in s forest) at path i is))

  pub drop_kept : (free : List ℕ) → AreFree s free → AreFree new free
  drop_kept free are = free_still s new free drop_apart (omega arith) are

  pub drop_free : (free : List ℕ) (f : ℕ) → AreFree s free → child_in s k n ≡ Some f → AreFree new (free ++ f ∷ [])
  drop_free free f are child =
      let was : number_in s (d ++ n ∷ []) ≡ Some f = led-on (child_in s) 0 k d (n ∷ []) at ∙ ap (option_and_then (λ i. led (child_in s) i [])) child in
      let small = forest.within (d ++ n ∷ []) f was in
      free_more new free f (drop_kept free are) (omega arith)
      (unreached_same s1 new same len f (gone_apart (child_in s) (child_in s1) d k n edges (once_in s forest) at f was))
      (λ j is. are.apart j f is (d ++ n ∷ []) was)

  pub drop_places : ((m : List ℕ) (r : Path) → number_in s ((d ++ n ∷ []) ++ m ∷ r) ≡ None) → places_in new ≡ gone now (d ++ n ∷ []) (places_in s)
  drop_places leaf =
      change_places s1 new same len k (modified now) d drop_forest1 (directory_stays (child_in s) (child_in s1) d k n None edges (once_in s forest) at) touch
      ∙ ap (on_at d (modified now)) (ap (places_by (child_in s1)) objects ∙ places_gone (child_in s) (child_in s1) (object_in s) d k n edges (once_in s forest) at leaf)
      ∙ ap (λ (p : Path). on_at p (modified now) (put_at (d ++ n ∷ []) None (places_in s))) (sym (parent_of-push d n))

-- ---- a child moves

module _ (s s1 s2 s3 s4 new : List Slot) (now k k' j : ℕ) (n n' : List ℕ) (d d' : Path) (forest : IsForest s)
    (at : number_in s d ≡ Some k) (at' : number_in s d' ≡ Some k') (child : child_in s k n ≡ Some j) (outside : is_prefix (d ++ n ∷ []) (d' ++ n' ∷ []) ≡ false)
    (first : IsSet k' n' (Some j) (child_in s) (child_in s1)) (objects1 : object_in s1 ≡ object_in s) (len1 : length s1 ≡ length s)
    (second : IsSet k n None (child_in s1) (child_in s2)) (objects2 : object_in s2 ≡ object_in s1) (len2 : length s2 ≡ length s1)
    (touch1 : IsChanged k' (modified now) (object_in s2) (object_in s3)) (same3 : child_in s3 ≡ child_in s2) (len3 : length s3 ≡ length s2)
    (touch2 : IsChanged k (modified now) (object_in s3) (object_in s4)) (same4 : child_in s4 ≡ child_in s3) (len4 : length s4 ≡ length s3)
    (renew : IsChanged j (changed now) (object_in s4) (object_in new)) (same5 : child_in new ≡ child_in s4) (len5 : length new ≡ length s4) where
  less_first : IsSet k n None (child_in s) (without_edge k n (child_in s))
  less_first = without_set k n (child_in s)

  -- the two places differ
  places_differ : (i : ℕ) (m : List ℕ) → (i ≡ k') × (m ≡ n') → (i ≡ k) × (m ≡ n) → ⊥
  places_differ i m a b =
      let same_d : d ≡ d' = forest.once d d' k at (at' ∙ ap Some (sym a.0 ∙ b.0)) in
      let same : d ++ n ∷ [] ≡ d' ++ n' ∷ [] = ap (λ (p : Path). p ++ n ∷ []) same_d ∙ ap (λ (v : List ℕ). d' ++ v ∷ []) (sym b.1 ∙ a.1) in
      (let no : true ≡ false = sym (ap (is_prefix (d ++ n ∷ [])) (sym same) ∙ is_prefix-refl (d ++ n ∷ [])) ∙ outside in cc)

  edges_new : child_in new ≡ child_in s2
  edges_new = same5 ∙ same4 ∙ same3

  then_second : IsSet k' n' (Some j) (without_edge k n (child_in s)) (child_in s2)
  then_second = record {
    here = second.else k' n' (places_differ k' n' (refl, refl)) ∙ first.here;
    else = λ i m differ. by i m differ (edge_cases i k m n);
  }
    where
      by : (i : ℕ) (m : List ℕ) → ((i ≡ k') × (m ≡ n') → ⊥) → ((i ≡ k) × (m ≡ n)) ⊎ ((i ≡ k) × (m ≡ n) → ⊥) → child_in s2 i m ≡ without_edge k n (child_in s) i m
      by i m differ (inl same) =
          ap (λ v. child_in s2 v m) same.0 ∙ ap (child_in s2 k) same.1 ∙ second.here
          ∙ sym (ap (λ v. without_edge k n (child_in s) v m) same.0 ∙ ap (without_edge k n (child_in s) k) same.1 ∙ less_first.here)
      by i m differ (inr other) = second.else i m other ∙ first.else i m differ ∙ sym (less_first.else i m other)

  objects_new : object_in s2 ≡ object_in s
  objects_new = objects2 ∙ objects1

  pub move_places : places_in new ≡ moved now (d ++ n ∷ []) (d' ++ n' ∷ []) (places_in s)
  move_places =
      ap (λ (h : Edges). places_by h (object_in new)) edges_new
      ∙ places_moved now (child_in s) (without_edge k n (child_in s)) (child_in s2) (object_in s) (object_in s3) (object_in s4) (object_in new) d k n d' k' n' j
      less_first then_second (once_in s forest) at at' child outside (subst (λ (a : Objects). IsChanged k' (modified now) a (object_in s3)) objects_new touch1) touch2 renew

  pub move_directory : number_in new d' ≡ Some k'
  move_directory =
      ap (λ (h : Edges). led h 0 d') edges_new
      ∙ moved_directory (child_in s) (without_edge k n (child_in s)) (child_in s2) d k n d' k' n' j less_first then_second (once_in s forest) at at' child outside

  move_once : Once (child_in s2)
  move_once = moved_once (child_in s) (without_edge k n (child_in s)) (child_in s2) d k n d' k' n' j less_first then_second (once_in s forest) at at' child outside

  move_still : (i : ℕ) → IsUnreached s i → IsUnreached new i
  move_still i apart path is =
      moved_still (child_in s) (without_edge k n (child_in s)) (child_in s2) d k n d' k' n' j less_first then_second (once_in s forest) at at' child outside i apart path
      (sym (ap (λ (h : Edges). led h 0 path) edges_new) ∙ is)

  pub move_forest : IsForest new
  move_forest = record {
    within = λ path i is. by path i is (cases_lt i (length s));
    once = λ p q i hp hq. move_once p q i (sym (ap (λ (h : Edges). led h 0 p) edges_new) ∙ hp) (sym (ap (λ (h : Edges). led h 0 q) edges_new) ∙ hq);
  }
    where
      by : (path : Path) (i : ℕ) → number_in new path ≡ Some i → (i < length s) ⊎ (length s ≤ i) → i < length new
      by path i is (inl small) = omega arith
      by path i is (inr past) = absurd (move_still i (λ p there. (let small = forest.within p i there in omega arith)) path is)

  pub move_kept : (free : List ℕ) → AreFree s free → AreFree new free
  move_kept free are = free_still s new free move_still (omega arith) are

  pub move_free : (free : List ℕ) (f : ℕ) → AreFree s free → child_in s k' n' ≡ Some f → AreFree new (free ++ f ∷ [])
  move_free free f are replaced =
      let was : number_in s (d' ++ n' ∷ []) ≡ Some f = led-on (child_in s) 0 k' d' (n' ∷ []) at' ∙ ap (option_and_then (λ i. led (child_in s) i [])) replaced in
      let small = forest.within (d' ++ n' ∷ []) f was in
      free_more new free f (move_kept free are) (omega arith)
      (λ path is. moved_apart (child_in s) (without_edge k n (child_in s)) (child_in s2) d k n d' k' n' j less_first then_second (once_in s forest) at at' child outside f was path
      (sym (ap (λ (h : Edges). led h 0 path) edges_new) ∙ is))
      (λ i is. are.apart i f is (d' ++ n' ∷ []) was)

-- ---- the edits as they are made

-- slots and free numbers that still make a tree, with what stands in it
pub record Kept (new : List Slot) (free : List ℕ) (t : Places) : Type 0 where
  pub forest : IsForest new
  pub spare : AreFree new free
  pub places : places_in new ≡ t

next_same : (s s1 : List Slot) (free : List ℕ) → length s1 ≡ length s → next_number s1 free ≡ next_number s free
next_same s s1 free len = ap (λ n. unwrap_or (slice_get free (length free - 1)) n) len

module _ (s s0 s1 new : List Slot) (free rest : List ℕ) (k f : ℕ) (n : List ℕ) (path : Path) (o : Object) (forest : IsForest s) (are : AreFree s free)
    (at : number_in s (parent_of path) ≡ Some k) (is : path ≡ parent_of path ++ n ∷ []) (absent : places_in s path ≡ None) (same : s0 ≡ s)
    (is_next : f ≡ next_number s0 free) (edges : IsSet k n (Some f) (child_in s0) (child_in s1)) (objects : object_in s1 ≡ object_in s0) (len : length s1 ≡ length s0)
    (placed : IsPlaced (next_number s1 free) o (child_in s1) (object_in s1) (child_in new) (object_in new))
    (more : length s1 ≤ length new) (fits : next_number s1 free < length new) (less : rest ≡ take (length free - 1) free) where
  put_number : f ≡ next_number s1 free
  put_number = is_next ∙ sym (next_same s0 s1 free len)

  put_next : f ≡ next_number s free
  put_next = is_next ∙ next_same s s0 free (ap length same)

  put_edges : IsSet k n (Some f) (child_in s) (child_in s1)
  put_edges = subst (λ v. IsSet k n (Some f) (child_in v) (child_in s1)) same edges

  put_objects : object_in s1 ≡ object_in s
  put_objects = objects ∙ ap object_in same

  put_placed : IsPlaced f o (child_in s1) (object_in s1) (child_in new) (object_in new)
  put_placed = subst (λ v. IsPlaced v o (child_in s1) (object_in s1) (child_in new) (object_in new)) (sym put_number) placed

  put_more : length s ≤ length new
  put_more = let e = ap length same in omega (arith, e, len, more)

  put_fits : f < length new
  put_fits = omega (arith, put_number, fits)

  put_absent : places_in s (parent_of path ++ n ∷ []) ≡ None
  put_absent = ap (places_in s) (sym is) ∙ absent

  pub put_kept : Kept new rest (put_at path (Some o) (places_in s))
  put_kept = record {
    forest = put_forest s s1 new free rest k f n (parent_of path) o forest are at put_absent put_next put_edges put_objects put_placed put_more put_fits less;
    spare = put_free s s1 new free rest k f n (parent_of path) o forest are at put_absent put_next put_edges put_objects put_placed put_more put_fits less;
    places = put_places s s1 new free rest k f n (parent_of path) o forest are at put_absent put_next put_edges put_objects put_placed put_more put_fits less ∙ ap (λ (p : Path). put_at p (Some o) (places_in s)) (sym is);
  }

  pub put_at_path : number_in new path ≡ Some f
  put_at_path = ap (number_in new) is ∙ put_number_is s s1 new free rest k f n (parent_of path) o forest are at put_absent put_next put_edges put_objects put_placed put_more put_fits less

  pub put_others : (q : Path) → q ≢ path → number_in new q ≡ number_in s q
  put_others q differ = put_else s s1 new free rest k f n (parent_of path) o forest are at put_absent put_next put_edges put_objects put_placed put_more put_fits less q (λ e. differ (e ∙ sym is))

-- free numbers with one more, if there is one
more_free : (new : List Slot) (free free0 rest : List ℕ) (gone : Option ℕ) → AreFree new free → ((f : ℕ) → gone ≡ Some f → AreFree new (free ++ f ∷ []))
    → free0 ≡ free → rest ≡ free0 ++ option_to_list gone → AreFree new rest
more_free new free free0 rest None kept more same is = subst (AreFree new) (sym (is ∙ append-nil free0 ∙ same)) kept
more_free new free free0 rest (Some f) kept more same is = subst (AreFree new) (sym (is ∙ ap (λ (v : List ℕ). v ++ f ∷ []) same)) (more f refl)

pub unmake_kept : (s s1 new : List Slot) (free free0 rest : List ℕ) (now k : ℕ) (gone_number : Option ℕ) (n : List ℕ) (path : Path) → IsForest s → AreFree s free
    → number_in s (parent_of path) ≡ Some k → path ≡ parent_of path ++ n ∷ [] → ((m : List ℕ) (r : Path) → places_in s (path ++ m ∷ r) ≡ None)
    → IsSet k n None (child_in s) (child_in s1) → object_in s1 ≡ object_in s → length s1 ≡ length s → gone_number ≡ child_in s k n
    → IsChanged k (modified now) (object_in s1) (object_in new) → child_in new ≡ child_in s1 → length new ≡ length s1
    → free0 ≡ free → rest ≡ free0 ++ option_to_list gone_number → Kept new rest (gone now path (places_in s))
unmake_kept s s1 new free free0 rest now k gone_number n path forest are at is alone edges same_objects len1 child touch same len same_free is_rest = record {
  forest = drop_forest s s1 new now k n (parent_of path) forest at edges same_objects len1 touch same len;
  spare = more_free new free free0 rest gone_number
      (drop_kept s s1 new now k n (parent_of path) forest at edges same_objects len1 touch same len free are)
      (λ f e. drop_free s s1 new now k n (parent_of path) forest at edges same_objects len1 touch same len free f are (sym child ∙ e)) same_free is_rest;
  places = drop_places s s1 new now k n (parent_of path) forest at edges same_objects len1 touch same len
      (λ m r. number_absent s forest ((parent_of path ++ n ∷ []) ++ m ∷ r) (ap (λ (p : Path). places_in s (p ++ m ∷ r)) (sym is) ∙ alone m r))
      ∙ ap (λ (p : Path). gone now p (places_in s)) (sym is);
}

pub rename_kept : (s s1 s2 s3 s4 new : List Slot) (free free0 rest : List ℕ) (now k k' j : ℕ) (replaced : Option ℕ) (n n' : List ℕ) (from to : Path) → IsForest s → AreFree s free
    → number_in s (parent_of from) ≡ Some k → from ≡ parent_of from ++ n ∷ [] → number_in s (parent_of to) ≡ Some k' → to ≡ parent_of to ++ n' ∷ []
    → Some j ≡ child_in s k n → is_prefix from to ≡ false
    → IsSet k' n' (Some j) (child_in s) (child_in s1) → object_in s1 ≡ object_in s → length s1 ≡ length s → replaced ≡ child_in s k' n'
    → IsSet k n None (child_in s1) (child_in s2) → object_in s2 ≡ object_in s1 → length s2 ≡ length s1
    → IsChanged k' (modified now) (object_in s2) (object_in s3) → child_in s3 ≡ child_in s2 → length s3 ≡ length s2
    → IsChanged k (modified now) (object_in s3) (object_in s4) → child_in s4 ≡ child_in s3 → length s4 ≡ length s3
    → IsChanged j (changed now) (object_in s4) (object_in new) → child_in new ≡ child_in s4 → length new ≡ length s4
    → free0 ≡ free → rest ≡ free0 ++ option_to_list replaced → Kept new rest (moved now from to (places_in s)) × (number_in new (parent_of to) ≡ Some k')
rename_kept s s1 s2 s3 s4 new free free0 rest now k k' j replaced n n' from to forest are at is at' is' child outside first o1 l1 old second o2 l2 t1 e3 l3 t2 e4 l4 r e5 l5 same_free is_rest =
    let c = sym child in
    let out : is_prefix (parent_of from ++ n ∷ []) (parent_of to ++ n' ∷ []) ≡ false = ap (λ (p : Path). is_prefix p (parent_of to ++ n' ∷ [])) (sym is) ∙ ap (is_prefix from) (sym is') ∙ outside in (
      record {
        forest = move_forest s s1 s2 s3 s4 new now k k' j n n' (parent_of from) (parent_of to) forest at at' c out first o1 l1 second o2 l2 t1 e3 l3 t2 e4 l4 r e5 l5;
        spare = more_free new free free0 rest replaced
            (move_kept s s1 s2 s3 s4 new now k k' j n n' (parent_of from) (parent_of to) forest at at' c out first o1 l1 second o2 l2 t1 e3 l3 t2 e4 l4 r e5 l5 free are)
            (λ f e. move_free s s1 s2 s3 s4 new now k k' j n n' (parent_of from) (parent_of to) forest at at' c out first o1 l1 second o2 l2 t1 e3 l3 t2 e4 l4 r e5 l5 free f are (sym old ∙ e)) same_free is_rest;
        places = move_places s s1 s2 s3 s4 new now k k' j n n' (parent_of from) (parent_of to) forest at at' c out first o1 l1 second o2 l2 t1 e3 l3 t2 e4 l4 r e5 l5
            ∙ ap (λ (p : Path). moved now p (parent_of to ++ n' ∷ []) (places_in s)) (sym is) ∙ ap (λ (p : Path). moved now from p (places_in s)) (sym is');
      },
      move_directory s s1 s2 s3 s4 new now k k' j n n' (parent_of from) (parent_of to) forest at at' c out first o1 l1 second o2 l2 t1 e3 l3 t2 e4 l4 r e5 l5,
    )

-- the number at a path is that of the child in its directory
pub number_of_child : (s : List Slot) (k : ℕ) (n : List ℕ) (path : Path) → number_in s (parent_of path) ≡ Some k → path ≡ parent_of path ++ n ∷ [] → number_in s path ≡ child_in s k n
number_of_child s k n path at is = ap (number_in s) is ∙ led-on (child_in s) 0 k (parent_of path) (n ∷ []) at ∙ end (child_in s k n)
  where
    end : (o : Option ℕ) → option_and_then (λ i. led (child_in s) i []) o ≡ o
    end None = refl
    end (Some i) = refl

pub present_child : (s : List Slot) (k : ℕ) (n : List ℕ) (path : Path) → IsForest s → number_in s (parent_of path) ≡ Some k → path ≡ parent_of path ++ n ∷ [] → IsPresentIn (places_in s) path → child_in s k n ≡ None → ⊥
present_child s k n path forest at is present none =
    let found = number_present s forest path present in
    (let no : Some found.0 ≡ None = sym found.1 ∙ number_of_child s k n path at is ∙ none in cc)

-- the new place of what moves is not the root
pub no_root : (t : Places) (from to : Path) → IsTreeIn t → Movable t from to → to ≢ []
no_root t from to tree can e = by can.yields
  where
    front : (path : Path) → path ≢ [] → (name : List ℕ) × (rest : Path) × (path ≡ (name ∷ []) ++ rest)
    front [] h = absurd (h refl)
    front (name ∷ rest) h = (name, rest, refl)

    by : Yields t from to → ⊥
    by (absent h) = not_absent t [] (present_of_kind t [] Directory tree.root) (ap t (sym e) ∙ h)
    by (objects f other) = other.1 (ap (λ (p : Path). kind_of (t p)) e ∙ tree.root)
    by (directories f d empty) =
        let parts = front from can.no_root in
        let child : IsPresentIn t (parts.0 ∷ []) = present_above t tree (parts.0 ∷ []) parts.1 (subst (λ (p : Path). is_some (t p) ≡ true) parts.2 can.present) in
        not_absent t (parts.0 ∷ []) child (subst (λ (p : Path). t (p ++ parts.0 ∷ []) ≡ None) e (empty parts.0))

-- an object changed, by the result of the call
pub changed_ok : {E : Type 0} → (r : Result (Unit {0}) E) (s new : List Slot) (k : ℕ) (f : Object → Object) (path : Path) → child_in new ≡ child_in s → length new ≡ length s → IsForest s → number_in s path ≡ Some k
    → OnOk r (IsChanged k f (object_in s) (object_in new)) → OnOk r (places_in new ≡ on_at path f (places_in s))
changed_ok (Ok u) s new k f path edges len forest at one = change_places s new edges len k f path forest at one
changed_ok (Err e) s new k f path edges len forest at one = tt
