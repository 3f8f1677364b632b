-- Lists of slots: what an edit of one leaves of the edges and of the objects.
use Rattle.std.proofs.Common.{◌≡◌, ◌≢◌, ℕ, suc, zero, ◌<◌, ◌-◌, false, cond, ◌⊎◌, inl, inr, Result, Ok, Err, IfOk, OnOk, List, [], ◌∷◌, ◌++◌, length, set, get_or, Option, Some, None, option_map, slice_get, unwrap_or, refl, sym, ap, subst, ◌∙◌, arith, length-append}
use Rattle.std.specs.Option.{option_and_then}
use Rattle.std.proofs.lemmas.Bool.{cases_eq}
use Rattle.std.proofs.lemmas.Option.{slice_get-get_or}
use Rattle.std.specs.FinMap as fin
use Rattle.std.specs.Ordering.{is_eq}
use Rattle.std.specs.Cmp.Lexicographic.{nat_list_cmp_total}
use Rattle.std.specs.declared.cmp.Ordering.{Ordering}
use Rattle.std.specs.declared.cmp.Ordering.TheVariants.{Less, Equal, Greater}
use Rattle.pv_path.proofs.PathLaws.{name_cmp-refl, name_cmp-exact}
use Rattle.pv_tree.specs.declared.slot.Slot.{Slot}
use Rattle.pv_path.specs.Names.{name_cmp}
use Rattle.pv_tree.specs.Children.{Children}
use Rattle.pv_tree.specs.Edges.{IsSet, IsPlaced}
use Rattle.pv_tree.specs.Slots.{child_in, object_in, next_number, object_of}

-- ---- items of lists

pub slice_get-set_same : {A : Type 0} → (xs : List A) (k : ℕ) (y : A) → k < length xs → slice_get (set xs k y) k ≡ Some y
slice_get-set_same [] k y h = absurd (omega arith)
slice_get-set_same (x ∷ xs) zero y h = refl
slice_get-set_same (x ∷ xs) (suc k) y h = slice_get-set_same xs k y (omega arith)

pub slice_get-set_other : {A : Type 0} → (xs : List A) (k i : ℕ) (y : A) → i ≢ k → slice_get (set xs k y) i ≡ slice_get xs i
slice_get-set_other [] k i y h = refl
slice_get-set_other (x ∷ xs) zero zero y h = absurd (h refl)
slice_get-set_other (x ∷ xs) zero (suc i) y h = refl
slice_get-set_other (x ∷ xs) (suc k) zero y h = refl
slice_get-set_other (x ∷ xs) (suc k) (suc i) y h = slice_get-set_other xs k i y (λ e. h (ap (λ n. suc n) e))

pub slice_get_push : {A : Type 0} → (xs : List A) (y : A) → slice_get (xs ++ y ∷ []) (length xs) ≡ Some y
slice_get_push [] y = refl
slice_get_push (x ∷ xs) y = slice_get_push xs y

pub slice_get_before : {A : Type 0} → (xs : List A) (i : ℕ) (y : A) → i ≢ length xs → slice_get (xs ++ y ∷ []) i ≡ slice_get xs i
slice_get_before [] zero y h = absurd (h refl)
slice_get_before [] (suc i) y h = refl
slice_get_before (x ∷ xs) zero y h = refl
slice_get_before (x ∷ xs) (suc i) y h = slice_get_before xs i y (λ e. h (ap (λ n. suc n) e))

pub slice_get_last : {A : Type 0} → (xs zs : List A) (y : A) → zs ≡ xs ++ y ∷ [] → slice_get zs (length zs - 1) ≡ Some y
slice_get_last xs zs y is =
    let n : length zs - 1 ≡ length xs = let l = ap length is in omega (arith, l, length-append xs (y ∷ [])) in
    ap (slice_get zs) n ∙ ap (λ v. slice_get v (length xs)) is ∙ slice_get_push xs y

-- ---- names in children

tied : (n m : List ℕ) → n ≢ m → (o : Ordering) → name_cmp n m ≡ o → is_eq o ≡ false
tied n m other Less e = refl
tied n m other Equal e = absurd (other (name_cmp-exact n m e))
tied n m other Greater e = refl

pub get_put_same : (c : Children) (n : List ℕ) (k : ℕ) → fin.get (fin.insert c n k) n ≡ Some k
get_put_same c n k = fin.get-insert nat_list_cmp_total c n k n ∙ ap (λ o. cond (is_eq o) (Some k) (fin.get c n)) (name_cmp-refl n)

pub get_put_other : (c : Children) (n m : List ℕ) (k : ℕ) → m ≢ n → fin.get (fin.insert c n k) m ≡ fin.get c m
get_put_other c n m k other = fin.get-insert nat_list_cmp_total c n k m ∙ ap (λ b. cond b (Some k) (fin.get c m)) (tied m n other (name_cmp m n) refl)

pub get_remove_same : (c : Children) (n : List ℕ) → fin.get (fin.remove c n) n ≡ None
get_remove_same c n = fin.get-remove nat_list_cmp_total c n n ∙ ap (λ o. cond (is_eq o) None (fin.get c n)) (name_cmp-refl n)

pub get_remove_other : (c : Children) (n m : List ℕ) → m ≢ n → fin.get (fin.remove c n) m ≡ fin.get c m
get_remove_other c n m other = fin.get-remove nat_list_cmp_total c n m ∙ ap (λ b. cond b None (fin.get c m)) (tied m n other (name_cmp m n) refl)

-- ---- one slot edited

module _ (slots : List Slot) (k : ℕ) (s new : Slot) (within : k < length slots) (at : s ≡ get_or slots k s) where
  there : slice_get slots k ≡ Some s
  there = slice_get-get_or slots k s within ∙ ap Some (sym at)

  pub set_child : (name : List ℕ) (to : Option ℕ) → fin.get new.content.children name ≡ to → ((m : List ℕ) → m ≢ name → fin.get new.content.children m ≡ fin.get s.content.children m)
      → IsSet k name to (child_in slots) (child_in (set slots k new))
  set_child name to here other = record {
    here = ap (option_and_then (λ (x : Slot). fin.get x.content.children name)) (slice_get-set_same slots k new within) ∙ here;
    else = λ i m apart. by i m apart (cases_eq i k);
  }
    where
      by : (i : ℕ) (m : List ℕ) → ((i ≡ k) × (m ≡ name) → ⊥) → (i ≡ k) ⊎ (i ≢ k) → child_in (set slots k new) i m ≡ child_in slots i m
      by i m apart (inl same) =
          ap (λ v. child_in (set slots k new) v m) same
          ∙ ap (option_and_then (λ (x : Slot). fin.get x.content.children m)) (slice_get-set_same slots k new within)
          ∙ other m (λ e. apart (same, e))
          ∙ sym (ap (λ v. child_in slots v m) same ∙ ap (option_and_then (λ (x : Slot). fin.get x.content.children m)) there)
      by i m apart (inr differ) = ap (option_and_then (λ (x : Slot). fin.get x.content.children m)) (slice_get-set_other slots k i new differ)

  pub set_put : (name : List ℕ) (child : ℕ) → new.content.children ≡ fin.insert s.content.children name child → IsSet k name (Some child) (child_in slots) (child_in (set slots k new))
  set_put name child is = set_child name (Some child)
      (ap (λ (c : Children). fin.get c name) is ∙ get_put_same s.content.children name child)
      (λ m other. ap (λ (c : Children). fin.get c m) is ∙ get_put_other s.content.children name m child other)

  pub set_remove : (name : List ℕ) → new.content.children ≡ fin.remove s.content.children name → IsSet k name None (child_in slots) (child_in (set slots k new))
  set_remove name is = set_child name None
      (ap (λ (c : Children). fin.get c name) is ∙ get_remove_same s.content.children name)
      (λ m other. ap (λ (c : Children). fin.get c m) is ∙ get_remove_other s.content.children name m other)

  pub old_child : (name : List ℕ) → fin.get s.content.children name ≡ child_in slots k name
  old_child name = sym (ap (option_and_then (λ (x : Slot). fin.get x.content.children name)) there)

  pub same_objects : object_of new ≡ object_of s → object_in (set slots k new) ≡ object_in slots
  same_objects is = λ j i. at_number i (cases_eq i k) j
    where
      at_number : (i : ℕ) → (i ≡ k) ⊎ (i ≢ k) → object_in (set slots k new) i ≡ object_in slots i
      at_number i (inl same) =
          ap (object_in (set slots k new)) same ∙ ap (option_map object_of) (slice_get-set_same slots k new within) ∙ ap Some is
          ∙ sym (ap (object_in slots) same ∙ ap (option_map object_of) there)
      at_number i (inr other) = ap (option_map object_of) (slice_get-set_other slots k i new other)

-- ---- a slot placed

pub placed_free : (slots : List Slot) (free rest : List ℕ) (k : ℕ) (new : Slot) → k < length slots → free ≡ rest ++ k ∷ [] → new.content.children ≡ fin.empty
    → IsPlaced (next_number slots free) (object_of new) (child_in slots) (object_in slots) (child_in (set slots k new)) (object_in (set slots k new))
placed_free slots free rest k new within is object_state =
    subst (λ i. IsPlaced i (object_of new) (child_in slots) (object_in slots) (child_in (set slots k new)) (object_in (set slots k new)))
    (sym (ap (λ o. unwrap_or o (length slots)) (slice_get_last rest free k is)))
    (record {
      here = ap (option_map object_of) (slice_get-set_same slots k new within);
      object_state = λ name. ap (option_and_then (λ (x : Slot). fin.get x.content.children name)) (slice_get-set_same slots k new within) ∙ ap (λ (c : Children). fin.get c name) object_state ∙ fin.get-empty name_cmp name;
      else = λ i other. (
        ap (option_map object_of) (slice_get-set_other slots k i new other),
        λ name. ap (option_and_then (λ (x : Slot). fin.get x.content.children name)) (slice_get-set_other slots k i new other),
      );
    })

pub placed_new : (slots after : List Slot) (free : List ℕ) (new : Slot) → free ≡ [] → after ≡ slots ++ new ∷ [] → new.content.children ≡ fin.empty
    → IsPlaced (next_number slots free) (object_of new) (child_in slots) (object_in slots) (child_in after) (object_in after)
placed_new slots after free new none is object_state =
    subst (λ v. IsPlaced (next_number slots v) (object_of new) (child_in slots) (object_in slots) (child_in after) (object_in after)) (sym none)
    (subst (λ v. IsPlaced (length slots) (object_of new) (child_in slots) (object_in slots) (child_in v) (object_in v)) (sym is) (record {
      here = ap (option_map object_of) (slice_get_push slots new);
      object_state = λ name. ap (option_and_then (λ (x : Slot). fin.get x.content.children name)) (slice_get_push slots new) ∙ ap (λ (c : Children). fin.get c name) object_state ∙ fin.get-empty name_cmp name;
      else = λ i other. (
        ap (option_map object_of) (slice_get_before slots i new other),
        λ name. ap (option_and_then (λ (x : Slot). fin.get x.content.children name)) (slice_get_before slots i new other),
      );
    }))

-- ---- by the result of a call

pub put_edges : {A E : Type 0} → (r : Result A E) (slots : List Slot) (k : ℕ) (s new : Slot) → k < length slots → s ≡ get_or slots k s → (name : List ℕ) (child : ℕ)
    → OnOk r (new.content.children ≡ fin.insert s.content.children name child) → OnOk r (IsSet k name (Some child) (child_in slots) (child_in (set slots k new)))
put_edges (Ok a) slots k s new within at name child ok = set_put slots k s new within at name child ok
put_edges (Err e) slots k s new within at name child ok = tt

pub put_old : {E : Type 0} → (r : Result (Option ℕ) E) (slots : List Slot) (k : ℕ) (s : Slot) → k < length slots → s ≡ get_or slots k s → (name : List ℕ)
    → IfOk r (λ old. old ≡ fin.get s.content.children name) → IfOk r (λ old. old ≡ child_in slots k name)
put_old (Ok old) slots k s within at name ok = ok ∙ old_child slots k s s within at name
put_old (Err e) slots k s within at name ok = tt

-- the next number is within the slots when it was free
pub next_free : (slots : List Slot) (free rest : List ℕ) (k : ℕ) → free ≡ rest ++ k ∷ [] → next_number slots free ≡ k
next_free slots free rest k is = ap (λ o. unwrap_or o (length slots)) (slice_get_last rest free k is)
