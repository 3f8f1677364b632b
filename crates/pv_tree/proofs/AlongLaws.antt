-- Along a path: the slots at its first names, and the names beside them.
use Rattle.std.proofs.Common.{◌≡◌, ◌≢◌, ℕ, ◌+◌, ◌-◌, ◌<◌, ◌≤◌, Bool, false, ◌||◌, ◌⊎◌, inl, inr, List, [], ◌∷◌, ◌++◌, length, map, take, drop, Option, Some, None, option_map, is_some, slice_get, refl, sym, ap, ◌∙◌, arith, length-append, add-one, append_assoc, append-nil, get_or, Bor, Vec, Global, Result, Ok, Err, IfOk}
use Rattle.std.specs.List.{list_any}
use Rattle.std.specs.Option.{option_and_then, option_copied}
use Rattle.std.proofs.lemmas.Bool.{cases_eq, cases_lt}
use Rattle.std.proofs.lemmas.Option.{slice_get_past}
use Rattle.std.proofs.Math.Seq.{take-add, take-suc}
use Rattle.std.specs.FinMap as fin
use Rattle.pv_path.specs.Paths.{Path}
use Rattle.pv_steps.specs.declared.node.Node.{Node}
use Rattle.pv_steps.specs.declared.object.Object.{Object}
use Rattle.pv_steps.specs.Trees.{Files, beside, node_at, places}
use Rattle.pv_tree.specs.declared.slot.Slot.{Slot}
use Rattle.pv_tree.specs.Edges.{Edges, led}
use Rattle.pv_tree.specs.Slots.{child_in, child_of_slot, number_in, slot_in, object_in, places_in, object_of, files_of, IsForest}
use Rattle.pv_tree.proofs.EdgeLaws.{led-append}
use Rattle.pv_tree.proofs.ForestLaws.{object_within}
use Rattle.pv_tree.proofs.SlotLaws.{slice_get_push, slice_get_before}
use Rattle.pv_tree.proofs.State.{slot_object, object_there}

-- ---- the slots at the first names of a path

module _ (slots : List Slot) where
  -- the slot one name further down is a child of the slot
  pub slot_in-push : (p : Path) (n : List ℕ) → slot_in slots (p ++ n ∷ []) ≡ option_and_then (λ s. child_of_slot slots s n) (slot_in slots p)
  slot_in-push p n = ap (option_and_then (slice_get slots)) (led-append (child_in slots) 0 p (n ∷ [])) ∙ by (number_in slots p)
    where
      end : (o : Option ℕ) → option_and_then (λ j. led (child_in slots) j []) o ≡ o
      end None = refl
      end (Some j) = refl

      at : (o : Option Slot) → option_and_then (λ s. fin.get s.content.children n) o ≡ option_and_then (λ s. fin.get s.content.children n) o
          → option_and_then (slice_get slots) (option_and_then (λ s. fin.get s.content.children n) o) ≡ option_and_then (λ s. child_of_slot slots s n) o
      at None h = refl
      at (Some s) h = refl

      by : (o : Option ℕ) → option_and_then (slice_get slots) (option_and_then (λ k. led (child_in slots) k (n ∷ [])) o)
          ≡ option_and_then (λ s. child_of_slot slots s n) (option_and_then (slice_get slots) o)
      by None = refl
      by (Some k) = ap (option_and_then (slice_get slots)) (end (child_in slots k n)) ∙ at (slice_get slots k) refl

  -- below an absent slot there is no slot
  slot_in-off : (p q : Path) → slot_in slots p ≡ None → slot_in slots (p ++ q) ≡ None
  slot_in-off p [] none = ap (slot_in slots) (append-nil p) ∙ none
  slot_in-off p (n ∷ q) none =
      ap (slot_in slots) (sym (append_assoc p (n ∷ []) q))
      ∙ slot_in-off (p ++ n ∷ []) q (slot_in-push p n ∙ ap (option_and_then (λ s. child_of_slot slots s n)) none)

  slot_in-past : (p : Path) (j k : ℕ) → j ≤ k → slot_in slots (take j p) ≡ None → slot_in slots (take k p) ≡ None
  slot_in-past p j k le none =
      let far : k ≡ j + (k - j) = omega (arith, le) in
      ap (slot_in slots) (ap (λ i. take i p) far ∙ take-add j (k - j) p) ∙ slot_in-off (take j p) (take (k - j) (drop j p)) none

  -- the next slot of a descent
  pub next_slot : (p : Path) (j : ℕ) (name : List ℕ) (s : Slot) → j < length p → name ≡ get_or p j name → Some s ≡ slot_in slots (take j p)
      → child_of_slot slots s name ≡ slot_in slots (take (j + 1) p)
  next_slot p j name s within is at =
      ap (option_and_then (λ s. child_of_slot slots s name)) at ∙ sym (slot_in-push (take j p) name)
      ∙ sym (ap (slot_in slots) (ap (λ i. take i p) (add-one j) ∙ take-suc p j name within ∙ ap (λ n. take j p ++ n ∷ []) (sym is)))

-- the node of a slot is that of its object
abbrev pub node_in : List Slot → Path → Option Node
node_in slots p = option_map (λ o. o.node) (places_in slots p)

slot_node : (slots : List Slot) (p : Path) → option_map (λ s. s.node) (slot_in slots p) ≡ node_in slots p
slot_node slots p = by (slot_in slots p) ∙ ap (option_map (λ (o : Object). o.node)) (slot_object slots p)
  where
    by : (o : Option Slot) → option_map (λ s. s.node) o ≡ option_map (λ (x : Object). x.node) (option_map object_of o)
    by None = refl
    by (Some s) = refl

-- ---- the nodes at the first names of a path

-- There are `n` nodes. The node at index `k` is that of the object at the first `k` names of a path.
pub record AreAlong (slots : List Slot) (p : Path) (nodes : List (Bor Node)) (n : ℕ) : Type 0 where
  pub length : length nodes ≡ n
  pub at : (k : ℕ) → k < n → option_copied (slice_get nodes k) ≡ node_in slots (take k p)

pub along_none : (slots : List Slot) (p : Path) → AreAlong slots p [] 0
along_none slots p = record { length = refl; at = λ k h. absurd (omega (arith, h)) }

pub along_more : (slots : List Slot) (p : Path) (nodes : List (Bor Node)) (n : ℕ) (s : Slot) (x : Bor Node) → AreAlong slots p nodes n → Some s ≡ slot_in slots (take n p) → x.now ≡ s.node
    → AreAlong slots p (nodes ++ x ∷ []) (n + 1)
along_more slots p nodes n s x so_far at is = record {
  length = omega (arith, so_far.length, length-append nodes (x ∷ []));
  at = λ k h. by k h (cases_eq k n);
}
  where
    by : (k : ℕ) → k < n + 1 → (k ≡ n) ⊎ (k ≢ n) → option_copied (slice_get (nodes ++ x ∷ []) k) ≡ node_in slots (take k p)
    by k h (inl same) =
        ap (λ i. option_copied (slice_get (nodes ++ x ∷ []) i)) (same ∙ sym so_far.length) ∙ ap option_copied (slice_get_push nodes x)
        ∙ ap Some is ∙ ap (option_map (λ (s : Slot). s.node)) at ∙ slot_node slots (take n p) ∙ sym (ap (λ i. node_in slots (take i p)) same)
    by k h (inr other) = ap option_copied (slice_get_before nodes k x (λ e. other (e ∙ so_far.length))) ∙ so_far.at k (omega (arith, h, other))

-- if there is no further slot, these are all nodes along the path
pub along_all : (slots : List Slot) (p : Path) (nodes : List (Bor Node)) (n : ℕ) → AreAlong slots p nodes n → None ≡ slot_in slots (take n p)
    → (k : ℕ) → option_copied (slice_get nodes k) ≡ node_in slots (take k p)
along_all slots p nodes n so_far none k = by (cases_lt k n)
  where
    by : (k < n) ⊎ (n ≤ k) → option_copied (slice_get nodes k) ≡ node_in slots (take k p)
    by (inl h) = so_far.at k h
    by (inr h) =
        ap option_copied (slice_get_past nodes k (omega (arith, so_far.length, h)))
        ∙ sym (sym (slot_node slots (take k p)) ∙ ap (option_map (λ (s : Slot). s.node)) (slot_in-past slots p n k h (sym none)))

-- ---- the names beside a path

-- One of the names beside a path leads to a number.
abbrev pub leads_beside : Edges → ℕ → Path → List (List ℕ) → Bool
leads_beside g i p names = list_any (λ q. is_some (led g i q)) (beside p names)

any_below : (f : Path → Bool) (n : List ℕ) (ps : List Path) → list_any f (map (λ p. n ∷ p) ps) ≡ list_any (λ p. f (n ∷ p)) ps
any_below f n [] = refl
any_below f n (p ∷ ps) = ap (λ b. f (n ∷ p) || b) (any_below f n ps)

beside_all : (g : Edges) (i : ℕ) (n m : List ℕ) (p : Path) (names : List (List ℕ)) → leads_beside g i (n ∷ p) (m ∷ names)
    ≡ (is_some (g i m) || list_any (λ q. is_some (option_and_then (λ k. led g k q) (g i n))) (beside p names))
beside_all g i n m p names =
    ap (λ b. b || list_any (λ q. is_some (led g i q)) (map (λ q. n ∷ q) (beside p names))) (end (g i m))
    ∙ ap (λ b. is_some (g i m) || b) (any_below (λ q. is_some (led g i q)) n (beside p names))
  where
    end : (o : Option ℕ) → is_some (option_and_then (λ k. led g k []) o) ≡ is_some o
    end None = refl
    end (Some k) = refl

-- the first name does not lead to a number
module _ (g : Edges) (i : ℕ) (ps : Path) (ms : List (List ℕ)) (n m : List ℕ) (p : Path) (names : List (List ℕ)) (first : (ps ≡ n ∷ p) × (ms ≡ m ∷ names)) (none : is_some (g i m) ≡ false) where
  beside_not : (o : Option ℕ) → o ≡ g i n → leads_beside g i ps ms ≡ list_any (λ q. is_some (option_and_then (λ k. led g k q) o)) (beside p names)
  beside_not o is =
      ap (λ q. leads_beside g i q ms) first.0 ∙ ap (leads_beside g i (n ∷ p)) first.1 ∙ beside_all g i n m p names
      ∙ ap (λ b. b || list_any (λ q. is_some (option_and_then (λ k. led g k q) (g i n))) (beside p names)) none
      ∙ ap (λ o. list_any (λ q. is_some (option_and_then (λ k. led g k q) o)) (beside p names)) (sym is)

  -- the path goes on
  pub beside_next : (k : ℕ) → Some k ≡ g i n → leads_beside g i ps ms ≡ leads_beside g k p names
  beside_next k is = beside_not (Some k) is

  -- the path leads nowhere
  pub beside_off : None ≡ g i n → leads_beside g i ps ms ≡ false
  beside_off is = beside_not None is ∙ nowhere (beside p names)
    where
      nowhere : (ps : List Path) → list_any (λ q. false) ps ≡ false
      nowhere [] = refl
      nowhere (q ∷ ps) = nowhere ps

-- if no component or no name is left, there is none beside the path
pub beside_end : (g : Edges) (i : ℕ) (p : Path) (names : List (List ℕ)) → (p ≡ []) ⊎ (names ≡ []) → leads_beside g i p names ≡ false
beside_end g i p names (inl e) = ap (λ q. leads_beside g i q names) e
beside_end g i p names (inr e) = ap (leads_beside g i p) e ∙ by p
  where
    by : (p : Path) → leads_beside g i p [] ≡ false
    by [] = refl
    by (n ∷ p) = refl

-- ---- the same in the tree that the slots hold

module _ (slots : List Slot) (t : Files) (forest : IsForest slots) (same : files_of slots ≡ t) where
  pub nodes_there : {E : Type 0} → (r : Result (Vec (Bor Node) Global) E) (p q : Path) → q ≡ p
      → IfOk r (λ nodes. (k : ℕ) → k ≤ length q → option_copied (slice_get nodes.items k) ≡ node_in slots (take k q))
      → IfOk r (λ nodes. (k : ℕ) → k ≤ length p → option_copied (slice_get nodes.items k) ≡ node_at t (take k p))
  nodes_there (Ok nodes) p q is ok = λ k h.
      ok k (omega (arith, h, ap length is)) ∙ ap (λ v. node_in slots (take k v)) is ∙ ap (option_map (λ (o : Object). o.node)) (object_there slots t (take k p) forest same)
  nodes_there (Err e) p q is ok = tt

  present_there : (p : Path) → is_some (number_in slots p) ≡ is_some (places t p)
  present_there p = by (number_in slots p) refl ∙ ap is_some (object_there slots t p forest same)
    where
      by : (o : Option ℕ) → number_in slots p ≡ o → is_some o ≡ is_some (option_and_then (object_in slots) o)
      by None at = refl
      by (Some i) at = sym (object_within slots i (forest.within p i at))

  pub beside_there : (p q : Path) (names : List (List ℕ)) → q ≡ p → leads_beside (child_in slots) 0 q names ≡ list_any (λ v. is_some (places t v)) (beside p names)
  beside_there p q names is =
      ap (λ v. leads_beside (child_in slots) 0 v names) is ∙ ap (λ (test : Path → Bool). list_any test (beside p names)) (λ j v. present_there v j)
