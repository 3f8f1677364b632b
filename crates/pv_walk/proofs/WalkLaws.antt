-- Laws of the walk along a path, place by place.
use Rattle.std.specs.Prelude.{◌≡◌, ℕ, ◌+◌, ◌-◌, ◌<◌, ◌≤◌, true, false, cond, not, ◌&&◌, ◌==◌, nat_lt, List, [], ◌∷◌, length, take, slice_get, Option, Some, None, is_some, option_map}
use Rattle.std.proofs.Common.{Bor, zero, suc, refl, sym, ap, ◌∙◌, arith}
use Rattle.std.proofs.lemmas.Bool.Decides.{nat_tests}
use Rattle.std.specs.List.{range_with_len}
use Rattle.std.specs.Option.{option_copied, option_map_or, option_or}
use Rattle.pv_path.specs.Paths.{Path}
use Rattle.pv_steps.specs.declared.node.Node.{Node}
use Rattle.pv_steps.specs.declared.object.Object.{Object}
use Rattle.pv_steps.specs.declared.why.Why.{Why}
use Rattle.pv_steps.specs.declared.why.Why.TheVariants.{UnsafeOwner}
use Rattle.pv_steps.specs.Trees.{Files, Places, places, kind_of, node_at}
use Rattle.pv_steps.specs.Refusal.{owner_at, why_unsafe, why_refused, is_unsafe, first_refused, first_absent}
use Rattle.pv_walk.specs.declared.walking.Seen.{Seen}
use Rattle.pv_walk.specs.declared.walking.Walked.TheVariants.{Refused}
use Rattle.pv_walk.specs.Walking.{outcome, unrefused, unsafe_component_from}
use Rattle.pv_walk.specs.Seeing.{seen_node, seen_of, seen_kind, seen_owner, why_owner, if_absent, owner_above, walked_from}

-- ---- the places that are left

pub range_next : (k n : ℕ) → k ≤ n → range_with_len k (n + 1 - k) ≡ k ∷ range_with_len (k + 1) (n + 1 - (k + 1))
range_next k n h =
    let here : n + 1 - k ≡ suc (n - k) = omega arith in
    let after : n - k ≡ n + 1 - (k + 1) = omega arith in
    ap (range_with_len k) here ∙ ap (λ m. k ∷ range_with_len (k + 1) m) after

pub range_end : (n : ℕ) → range_with_len (n + 1) (n + 1 - (n + 1)) ≡ []
range_end n = let none : n + 1 - (n + 1) ≡ zero = omega arith in ap (range_with_len (n + 1)) none

-- ---- what is seen at a place

-- what is seen in a list of nodes that has the node of a prefix of a path
pub seen_along : (files : Files) (path : Path) (k : ℕ) (items nodes : List (Bor Node)) (place : Option Seen) → place ≡ seen_node (option_copied (slice_get items k)) → items ≡ nodes
    → option_copied (slice_get nodes k) ≡ node_at files (take k path) → place ≡ seen_of (places files (take k path))
seen_along files path k items nodes place seen same is =
    seen ∙ ap (λ (ns : List (Bor Node)). seen_node (option_copied (slice_get ns k))) same ∙ ap seen_node is

seen_kind-of : (o : Option Object) → seen_kind (seen_of o) ≡ kind_of o
seen_kind-of None = refl
seen_kind-of (Some o) = refl

seen_owner-of : (o : Option Object) (absent : ℕ) → seen_owner (seen_of o) absent ≡ option_map_or (λ x. x.node.uid) o absent
seen_owner-of None absent = refl
seen_owner-of (Some o) absent = refl

module _ (t : Places) (path : Path) (last : ℕ) where
  pub owner_before : (k : ℕ) → k < length path → seen_owner (seen_of (t (take k path))) 0 ≡ owner_at t path last k
  owner_before k h =
      let not_last : (k == length path) ≡ false = grind (arith, nat_tests) in
      seen_owner-of (t (take k path)) 0 ∙ sym (ap (λ b. option_map_or (λ o. o.node.uid) (t (take k path)) (cond b last 0)) not_last)

  pub owner_last : (k : ℕ) → k ≡ length path → seen_owner (seen_of (t (take k path))) last ≡ owner_at t path last k
  owner_last k h =
      let is_last : (k == length path) ≡ true = grind (arith, nat_tests) in
      seen_owner-of (t (take k path)) last ∙ sym (ap (λ b. option_map_or (λ o. o.node.uid) (t (take k path)) (cond b last 0)) is_last)

  pub owner_above-next : (k : ℕ) → owner_above t path last (k + 1) ≡ owner_at t path last k
  owner_above-next k =
      let later : (k + 1 == 0) ≡ false = grind (arith, nat_tests) in
      let back : k + 1 - 1 ≡ k = omega arith in
      ap (λ b. cond b 0 (owner_at t path last (k + 1 - 1))) later ∙ ap (owner_at t path last) back

  unsafe_why : (k : ℕ) → cond (is_unsafe t path last k) (Some UnsafeOwner) None ≡ why_owner (owner_above t path last k) (owner_at t path last k)
  unsafe_why zero = refl
  unsafe_why (suc j) =
      let below : nat_lt 0 (suc j) ≡ true = grind (arith, nat_tests) in
      let later : (suc j == 0) ≡ false = grind (arith, nat_tests) in
      ap (λ b. cond (b && not (owner_at t path last (suc j - 1) == 0) && not (owner_at t path last (suc j) == owner_at t path last (suc j - 1))) (Some UnsafeOwner) None) below
      ∙ sym (ap (λ b. why_owner (cond b 0 (owner_at t path last (suc j - 1))) (owner_at t path last (suc j))) later)

  pub why_before : (k : ℕ) → k < length path → why_refused t path last k ≡ option_or (why_unsafe (seen_kind (seen_of (t (take k path))))) (why_owner (owner_above t path last k) (seen_owner (seen_of (t (take k path))) 0))
  why_before k h =
      let below : nat_lt k (length path) ≡ true = grind (arith, nat_tests) in
      ap (λ b. option_or (cond b (why_unsafe (kind_of (t (take k path)))) None) (cond (is_unsafe t path last k) (Some UnsafeOwner) None)) below
      ∙ ap (option_or (why_unsafe (kind_of (t (take k path))))) (unsafe_why k)
      ∙ ap (λ v. option_or (why_unsafe v) (why_owner (owner_above t path last k) (owner_at t path last k))) (sym (seen_kind-of (t (take k path))))
      ∙ ap (λ v. option_or (why_unsafe (seen_kind (seen_of (t (take k path))))) (why_owner (owner_above t path last k) v)) (sym (owner_before k h))

  pub why_last : (k : ℕ) → k ≡ length path → why_refused t path last k ≡ why_owner (owner_above t path last k) (seen_owner (seen_of (t (take k path))) last)
  why_last k h =
      let over : nat_lt k (length path) ≡ false = grind (arith, nat_tests) in
      ap (λ b. option_or (cond b (why_unsafe (kind_of (t (take k path)))) None) (cond (is_unsafe t path last k) (Some UnsafeOwner) None)) over
      ∙ unsafe_why k
      ∙ ap (why_owner (owner_above t path last k)) (sym (owner_last k h))

  -- ---- one place more

  absent_next : (absent : Option ℕ) (k : ℕ) (ks : List ℕ) (o : Option Object)
      → option_or absent (cond (is_some o) (first_absent t path ks) (Some k)) ≡ option_or (option_or absent (if_absent (seen_of o) k)) (first_absent t path ks)
  absent_next (Some j) k ks o = refl
  absent_next None k ks None = refl
  absent_next None k ks (Some o) = refl

  pub walked_next : (absent : Option ℕ) (k : ℕ) (ks : List ℕ) → why_refused t path last k ≡ None
      → walked_from t path last absent (k ∷ ks) ≡ walked_from t path last (option_or absent (if_absent (seen_of (t (take k path))) k)) ks
  walked_next absent k ks h =
      ap (λ v. outcome (option_or (option_map (λ reason. (k, reason)) v) (first_refused (why_refused t path last) ks)) (option_or absent (first_absent t path (k ∷ ks)))) h
      ∙ ap (outcome (first_refused (why_refused t path last) ks)) (absent_next absent k ks (t (take k path)))

  pub walked_refused : (absent : Option ℕ) (k : ℕ) (ks : List ℕ) (reason : Why) → why_refused t path last k ≡ Some reason
      → walked_from t path last absent (k ∷ ks) ≡ Refused k reason
  walked_refused absent k ks reason h =
      ap (λ v. outcome (option_or (option_map (λ r. (k, r)) v) (first_refused (why_refused t path last) ks)) (option_or absent (first_absent t path (k ∷ ks)))) h

  pub walked_end : (absent : Option ℕ) → walked_from t path last absent [] ≡ unrefused absent
  walked_end None = refl
  walked_end (Some k) = refl

  -- ---- what the code has seen

  pub why_here : (k : ℕ) → k < length path → (place : Option Seen) (above owner : ℕ) (found : Option Why) → place ≡ seen_of (t (take k path)) → above ≡ owner_above t path last k
      → owner ≡ seen_owner place 0 → found ≡ option_or (why_unsafe (seen_kind place)) (why_owner above owner) → why_refused t path last k ≡ found
  why_here k h place above owner found seen over own is =
      let own_there : owner ≡ seen_owner (seen_of (t (take k path))) 0 = own ∙ ap (λ v. seen_owner v 0) seen in
      why_before k h ∙ sym (is ∙ (λ i. option_or (why_unsafe (seen_kind (seen i))) (why_owner (over i) (own_there i))))

  pub why_end : (k : ℕ) → k ≡ length path → (place : Option Seen) (above owner : ℕ) (found : Option Why) → place ≡ seen_of (t (take k path)) → above ≡ owner_above t path last k
      → owner ≡ seen_owner place last → found ≡ why_owner above owner → why_refused t path last k ≡ found
  why_end k h place above owner found seen over own is =
      let own_there : owner ≡ seen_owner (seen_of (t (take k path))) last = own ∙ ap (λ v. seen_owner v last) seen in
      why_last k h ∙ sym (is ∙ (λ i. why_owner (over i) (own_there i)))

-- ---- places that cannot be passed

pub range_start : (n : ℕ) → range_with_len 0 n ≡ range_with_len 0 (n - 0)
range_start n = let same : n ≡ n - 0 = omega arith in ap (range_with_len 0) same

pub range_step : (k n : ℕ) → k < n → range_with_len k (n - k) ≡ k ∷ range_with_len (k + 1) (n - (k + 1))
range_step k n h = let here : n - k ≡ suc (n - (k + 1)) = omega arith in ap (range_with_len k) here

pub range_none : (k n : ℕ) → k ≡ n → range_with_len k (n - k) ≡ []
range_none k n e = let none : n - k ≡ zero = omega (arith, e) in ap (range_with_len k) none

module _ (t : Places) (path : Path) (k : ℕ) (ks : List ℕ) (place : Option Seen) (why : Option Why) (seen : place ≡ seen_of (t (take k path))) (found : why ≡ why_unsafe (seen_kind place)) where
  why_is : why_unsafe (kind_of (t (take k path))) ≡ why
  why_is = sym (found ∙ ap (λ p. why_unsafe (seen_kind p)) seen ∙ ap why_unsafe (seen_kind-of (t (take k path))))

  pub unsafe_component_next : why ≡ None → unsafe_component_from t path (k ∷ ks) ≡ unsafe_component_from t path ks
  unsafe_component_next none = ap (λ r. option_or (option_map (λ reason. (k, reason)) r) (unsafe_component_from t path ks)) (why_is ∙ none)

  pub unsafe_component_here : (reason : Why) → why ≡ Some reason → unsafe_component_from t path (k ∷ ks) ≡ Some (k, reason)
  unsafe_component_here reason some = ap (λ r. option_or (option_map (λ reason. (k, reason)) r) (unsafe_component_from t path ks)) (why_is ∙ some)
