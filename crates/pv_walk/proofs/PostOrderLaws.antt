-- Laws of post-order: of a list of what is below a path, which grows from its last path in post-order to its first.
use Rattle.std.specs.Prelude.{◌≡◌, ◌⊎◌, ℕ, ◌+◌, Bool, true, false, not, ◌&&◌, ◌||◌, List, [], ◌∷◌, ◌++◌, length, map, reverse, take, Option, Some, None, is_some, IsTrue, ◌↔◌, Result, Ok, Err, OnOk}
use Rattle.std.proofs.Common.{refl, sym, ap, subst, ◌∙◌, inl, inr, append_assoc, zero, suc}
use Rattle.std.proofs.Math.Seq.{take-append-add, take-length}
use Rattle.std.proofs.lemmas.Bool.{and_parts}
use Rattle.std.proofs.lemmas.List.{append-nil, map-append}
use Rattle.std.proofs.lemmas.List.Folds.{list_any-append}
use Rattle.std.specs.Option.{option_map_or}
use Rattle.std.specs.List.{AllByRecursion}
use Rattle.std.specs.List.Sorted.{IsStrictlySortedBy}
use Rattle.std.specs.Ordering.{ordering_then}
use Rattle.std.specs.declared.cmp.Ordering.{Ordering}
use Rattle.std.specs.declared.cmp.Ordering.TheVariants.{Less, Equal, Greater}
use Rattle.pv_path.specs.Names.{name_cmp}
use Rattle.pv_path.specs.Paths.{Path, is_prefix, same_path, staging_of}
use Rattle.pv_path.proofs.PathLaws.{is_prefix-refl, name_cmp-refl, prefix_parts, same_path-refl}
use Rattle.pv_path.proofs.Tests.{all_append, none_of, same_tests}
use Rattle.pv_steps.specs.declared.node.Kind.{Kind}
use Rattle.pv_steps.specs.declared.node.Kind.TheVariants.{Directory, File, Link, Fifo, CharDevice, BlockDevice}
use Rattle.pv_steps.specs.declared.step.Step.{Step}
use Rattle.pv_steps.specs.declared.step.Step.TheVariants.{Rename}
use Rattle.pv_steps.specs.declared.tree.Tree.{Ghosts}
use Rattle.pv_steps.specs.declared.tree.TreeFault.{TreeFault}
use Rattle.pv_steps.specs.Acting.{Tried}
use Rattle.pv_steps.specs.Objects.{is_directory}
use Rattle.pv_steps.specs.Trees.{Files, places, kind_of, names_below, IsKind, IsPresent, IsTree}
use Rattle.pv_steps.specs.Trying.{TriedAll}
use Rattle.pv_steps.proofs.NameLaws.{names_below-rise}
use Rattle.pv_walk.specs.Listing.{children_of, stands_at, stands_below}
use Rattle.pv_walk.specs.PostOrder.{post_cmp, must_go, must_go_for, AreInPostOrder, DidInPostOrder, DoesInPostOrder, PublishesInOrder}
use Rattle.pv_walk.specs.Removal.{is_below, is_directory_at, is_one_of, removal, removal_at, DonePart}
use Rattle.pv_walk.proofs.CountLaws.{same_or_not}
use Rattle.pv_walk.proofs.OrderLaws.{all_before, all_behind, all_map, sorted-push, sorted-reverse}
use Rattle.pv_walk.proofs.PathSetLaws.{members_all}
use Rattle.pv_walk.proofs.PuttingLaws.{none_below}
use Rattle.pv_walk.proofs.RemovalLaws.{below_parts}
use Rattle.pv_walk.proofs.TakingLaws.{steps_are, steps_of}

-- ---- two paths

-- at the first name in which two paths differ, that of the first path is less
abbrev pub Left : Path → Path → Type 0
Left [] q = ⊥
Left (m ∷ p) [] = ⊥
Left (m ∷ p) (n ∷ q) = (name_cmp m n ≡ Less) ⊎ ((name_cmp m n ≡ Equal) × Left p q)

then_less : (o r : Ordering) → o ≡ Less → ordering_then o r ≡ Less
then_less o r e = ap (λ x. ordering_then x r) e

then_rest : (o r : Ordering) → o ≡ Equal → ordering_then o r ≡ r
then_rest o r e = ap (λ x. ordering_then x r) e

left_first : (p q : Path) → Left p q → post_cmp p q ≡ Less
left_first [] q h = absurd h
left_first (m ∷ p) [] h = absurd h
left_first (m ∷ p) (n ∷ q) (inl e) = then_less (name_cmp m n) (post_cmp p q) e
left_first (m ∷ p) (n ∷ q) (inr h) = then_rest (name_cmp m n) (post_cmp p q) h.0 ∙ left_first p q h.1

-- what is left of a path is left of what is in it
left_child : (p q : Path) (n : List ℕ) → Left p q → Left p (q ++ n ∷ [])
left_child [] q n h = absurd h
left_child (m ∷ p) [] n h = absurd h
left_child (m ∷ p) (k ∷ q) n (inl e) = inl e
left_child (m ∷ p) (k ∷ q) n (inr h) = inr (h.0, left_child p q n h.1)

left_siblings : (p : Path) (m n : List ℕ) → name_cmp m n ≡ Less → Left (p ++ m ∷ []) (p ++ n ∷ [])
left_siblings [] m n e = inl e
left_siblings (k ∷ p) m n e = inr (name_cmp-refl k, left_siblings p m n e)

-- what is below a path comes before it
below_first : (p : Path) (n : List ℕ) (rest : Path) → post_cmp (p ++ n ∷ rest) p ≡ Less
below_first [] n rest = refl
below_first (k ∷ p) n rest = then_rest (name_cmp k k) (post_cmp (p ++ n ∷ rest) p) (name_cmp-refl k) ∙ below_first p n rest

-- and before whatever the path comes before
child_before : (p q : Path) (n : List ℕ) → post_cmp p q ≡ Less → post_cmp (p ++ n ∷ []) q ≡ Less
child_before [] [] n h = cc
child_before [] (k ∷ q) n h = cc
child_before (m ∷ p) [] n h = refl
child_before (m ∷ p) (k ∷ q) n h = by (name_cmp m k) (child_before p q n) h
  where
    by : (o : Ordering) → (post_cmp p q ≡ Less → post_cmp (p ++ n ∷ []) q ≡ Less) → ordering_then o (post_cmp p q) ≡ Less → ordering_then o (post_cmp (p ++ n ∷ []) q) ≡ Less
    by Less rest e = refl
    by Equal rest e = rest e
    by Greater rest e = cc

-- ---- a list and the work that is left

-- each path is left of those after it
abbrev pub LeftToRight : List Path → Type 0
LeftToRight [] = Unit {0}
LeftToRight (p ∷ ps) = AllByRecursion (Left p) ps × LeftToRight ps

-- each path comes in post-order after those that follow it in the list
abbrev pub AreFalling : List Path → Type 0
AreFalling = IsStrictlySortedBy (λ p q. post_cmp q p)

-- what is listed falls, and each path of the work comes before all that is listed
pub record Falling (listed left : List Path) : Type 0 where
  pub falls : AreFalling listed
  pub before : AllByRecursion (λ p. AllByRecursion (λ q. post_cmp q p ≡ Less) left) listed
  pub right : LeftToRight left

-- where each name passes, each child does
all_children : (P : Path → Type 0) (w : Path) (names : List (List ℕ)) → AllByRecursion (λ n. P (w ++ n ∷ [])) names → AllByRecursion P (map (λ n. w ++ n ∷ []) names)
all_children P w [] h = tt
all_children P w (n ∷ names) h = (h.0, all_children P w names h.1)

each_child : (P : Path → Type 0) (w : Path) (names : List (List ℕ)) → ((n : List ℕ) → P (w ++ n ∷ [])) → AllByRecursion P (map (λ n. w ++ n ∷ []) names)
each_child P w [] h = tt
each_child P w (n ∷ names) h = (h n, each_child P w names h)

children_right : (w : Path) (names : List (List ℕ)) → IsStrictlySortedBy name_cmp names → LeftToRight (map (λ n. w ++ n ∷ []) names)
unfolding IsStrictlySortedBy
children_right w [] up = tt
children_right w (n ∷ names) up = (
  all_children (Left (w ++ n ∷ [])) w names (all_map (λ m. name_cmp n m ≡ Less) (λ m. Left (w ++ n ∷ []) (w ++ m ∷ [])) (λ m e. left_siblings w n m e) names up.0),
  children_right w names up.1,
)

module _ (files : Files) where
  pub falling_start : (path : Path) → Falling [] (children_of files path)
  unfolding IsStrictlySortedBy
  falling_start path = record {
    falls = tt;
    before = tt;
    right = children_right path (names_below files path) (names_below-rise files path);
  }

  module _ (w : Path) where
    -- the last of some paths from left to right is replaced by its children
    right_next : (front : List Path) → LeftToRight (front ++ w ∷ []) → LeftToRight (front ++ children_of files w)
    right_next [] h = children_right w (names_below files w) (names_below-rise files w)
    right_next (p ∷ front) h =
        let last : Left p w = (all_behind (Left p) front (w ∷ []) h.0).0 in
        (all_append (Left p) front (children_of files w) (all_before (Left p) front (w ∷ []) h.0) (each_child (Left p) w (names_below files w) (λ n. left_child p w n last)), right_next front h.1)

    -- all of the work comes before the last of it
    front_first : (front : List Path) → LeftToRight (front ++ w ∷ []) → AllByRecursion (λ q. post_cmp q w ≡ Less) front
    front_first [] h = tt
    front_first (p ∷ front) h = (left_first p w (all_behind (Left p) front (w ∷ []) h.0).0, front_first front h.1)

    before_next : (p : Path) (front : List Path) → AllByRecursion (λ q. post_cmp q p ≡ Less) (front ++ w ∷ []) → AllByRecursion (λ q. post_cmp q p ≡ Less) (front ++ children_of files w)
    before_next p front h =
        let last : post_cmp w p ≡ Less = (all_behind (λ q. post_cmp q p ≡ Less) front (w ∷ []) h).0 in
        all_append (λ q. post_cmp q p ≡ Less) front (children_of files w) (all_before (λ q. post_cmp q p ≡ Less) front (w ∷ []) h)
        (each_child (λ q. post_cmp q p ≡ Less) w (names_below files w) (λ n. child_before w p n last))

    -- the last of the work is listed, and what is in it is work
    pub falling_next : (listed front : List Path) → Falling listed (front ++ w ∷ []) → Falling (listed ++ w ∷ []) (front ++ children_of files w)
    falling_next listed front f = record {
      falls = sorted-push (λ p q. post_cmp q p) listed w f.falls (all_map _ _ (λ p h. (all_behind (λ q. post_cmp q p ≡ Less) front (w ∷ []) h).0) listed f.before);
      before = all_append (λ p. AllByRecursion (λ q. post_cmp q p ≡ Less) (front ++ children_of files w)) listed (w ∷ [])
          (all_map _ _ (λ p h. before_next p front h) listed f.before)
          (all_append (λ q. post_cmp q w ≡ Less) front (children_of files w) (front_first front f.right) (each_child (λ q. post_cmp q w ≡ Less) w (names_below files w) (λ n. below_first w n [])), tt);
      right = right_next front f.right;
    }

-- a list that falls is in post-order from its end
pub falling_end : (listed work : List Path) → Falling listed work → AreInPostOrder (reverse listed)
falling_end listed work f = sorted-reverse (λ p q. post_cmp q p) listed f.falls

-- ---- the steps of calls

module _ (due : Path → Bool) (step : Path → Step) where
  -- all of them are the first of them
  pub did_does : (before behind : List Step) → DidInPostOrder due step before behind → DoesInPostOrder due step before behind
  did_does before behind d = DoesInPostOrder.first d.paths d.are d.in_order (length (map step d.paths), d.all ∙ ap (λ ss. before ++ ss) (sym (take-length (map step d.paths))))

  -- where nothing is due, all is done
  pub did_nothing : (before : List Step) → ((q : Path) → false ≡ due q) → DidInPostOrder due step before before
  unfolding IsStrictlySortedBy
  did_nothing before none = record { paths = []; are = none; in_order = tt; all = sym (append-nil before) }

-- what is at and below a path is what is below it, and the path
at_or_below : (t : Files) (path : Path) → IsPresent t path → (q : Path) → (stands_below t path q || (same_path path q || false)) ≡ stands_at t path q
at_or_below t path present q = elim (same_or_not path q) [
  | inl e ↦ here e.0
  | inr d ↦ by (is_prefix path q) (same_path path q) (is_some (places t q)) d
]
  where
    by : (a b c : Bool) → b ≡ false → (((a && not b) && c) || (b || false)) ≡ (a && c)
    by true true c e = cc
    by true false true e = refl
    by true false false e = refl
    by false true c e = cc
    by false false c e = refl

    all : (a b c : Bool) → a ≡ true → b ≡ true → c ≡ true → (((a && not b) && c) || (b || false)) ≡ (a && c)
    all true true true e f g = refl
    all true true false e f g = cc
    all true false c e f g = cc
    all false b c e f g = cc

    here : path ≡ q → (stands_below t path q || (same_path path q || false)) ≡ stands_at t path q
    here e = all (is_prefix path q) (same_path path q) (is_some (places t q)) (subst (λ (p : Path). is_prefix path p ≡ true) e (is_prefix-refl path)) (subst (λ (p : Path). same_path path p ≡ true) e (same_path-refl path)) (subst (IsPresent t) e present)

members_before : (path : Path) (paths : List Path) → ((q : Path) → is_one_of paths q ≡ true → is_below path q ≡ true) → AllByRecursion (λ q. post_cmp q path ≡ Less) paths
members_before path paths all = members_all (λ q. post_cmp q path ≡ Less) paths first
  where
    first : (q : Path) → is_one_of paths q ≡ true → post_cmp q path ≡ Less
    first q h = let parts = below_parts path q (all q h) in ap (λ r. post_cmp r path) parts.2 ∙ below_first path parts.0 parts.1

-- after all below a path, the path itself
pub did_at : (t : Files) (path : Path) → IsPresent t path → (before mid behind : List Step) → DidInPostOrder (stands_below t path) (removal_at t) before mid → behind ≡ mid ++ removal_at t path ∷ []
    → DidInPostOrder (stands_at t path) (removal_at t) before behind
did_at t path present before mid behind d last = record {
  paths = d.paths ++ path ∷ [];
  are = λ q. list_any-append (λ p. same_path p q) d.paths (path ∷ []) ∙ ap (λ b. b || (same_path path q || false)) (d.are q) ∙ at_or_below t path present q;
  in_order = sorted-push post_cmp d.paths path d.in_order (members_before path d.paths (λ q h. (and_parts (is_below path q) (is_some (places t q)) (sym (d.are q) ∙ h)).0));
  all = last ∙ ap (λ ss. ss ++ removal_at t path ∷ []) d.all ∙ append_assoc before (map (removal_at t) d.paths) (removal_at t path ∷ []) ∙ ap (λ ss. before ++ ss) (sym (map-append (removal_at t) d.paths (path ∷ [])));
}

-- the first of some are the first of more
take_part : {A : Type 0} (n : ℕ) (xs ys : List A) → (m : ℕ) × (take n xs ≡ take m (xs ++ ys))
take_part zero xs ys = (0, refl)
take_part (suc n) [] ys = (0, refl)
take_part (suc n) (x ∷ xs) ys = let rest = take_part n xs ys in (suc rest.0, ap (λ zs. x ∷ zs) rest.1)

-- the first of what is below a path are the first of what is at and below it
pub does_at : (t : Files) (path : Path) → IsPresent t path → (before behind : List Step) → DoesInPostOrder (stands_below t path) (removal_at t) before behind → DoesInPostOrder (stands_at t path) (removal_at t) before behind
unfolding did_at
does_at t path present before behind (DoesInPostOrder.nothing e) = DoesInPostOrder.nothing e
does_at t path present before behind (DoesInPostOrder.first paths are up part) =
    let mid = before ++ map (removal_at t) paths in
    let d = did_at t path present before mid (mid ++ removal_at t path ∷ []) (record { paths = paths; are = are; in_order = up; all = refl }) refl in
    let more = take_part part.0 (map (removal_at t) paths) (removal_at t path ∷ []) in
    DoesInPostOrder.first d.paths d.are d.in_order
    (more.0, part.1 ∙ ap (λ ss. before ++ ss) more.1 ∙ ap (λ ss. before ++ take more.0 ss) (sym (map-append (removal_at t) paths (path ∷ []))))

-- all below a path, and the path or not
pub part_at : (t : Files) (path : Path) → IsPresent t path → (before mid behind : List Step) → DidInPostOrder (stands_below t path) (removal_at t) before mid → DonePart (removal_at t path ∷ []) mid behind
    → DoesInPostOrder (stands_at t path) (removal_at t) before behind
unfolding did_at
part_at t path present before mid behind d part =
    let whole = did_at t path present before mid (mid ++ removal_at t path ∷ []) d refl in
    let steps = map (removal_at t) d.paths in
    DoesInPostOrder.first whole.paths whole.are whole.in_order (
      length steps + part.0,
      part.1 ∙ ap (λ ss. ss ++ take part.0 (removal_at t path ∷ [])) d.all ∙ append_assoc before steps (take part.0 (removal_at t path ∷ []))
          ∙ ap (λ ss. before ++ ss) (sym (take-append-add steps (removal_at t path ∷ []) part.0) ∙ ap (take (length steps + part.0)) (sym (map-append (removal_at t) d.paths (path ∷ [])))),
    )

-- ---- what must go before a Rename

-- where nothing is at a path, nothing is at and below it
pub none_at : (t : Files) (path : Path) → IsTree t → is_some (places t path) ≡ false → (q : Path) → false ≡ stands_at t path q
none_at t path tree none q = by (is_prefix path q) refl
  where
    by : (b : Bool) → is_prefix path q ≡ b → false ≡ stands_at t path q
    by false e = sym (ap (λ b. b && is_some (places t q)) e)
    by true e =
        let parts = prefix_parts path q e in
        sym (ap (λ b. b && is_some (places t q)) e ∙ ap (λ r. is_some (places t r)) parts.1 ∙ ap is_some (none_below (places t) tree path parts.0 (none_of (places t path) none)))

directory_of : (o : Option Kind) → option_map_or is_directory o false ≡ true → o ≡ Some Directory
directory_of None e = cc
directory_of (Some Directory) e = refl
directory_of (Some File) e = cc
directory_of (Some Link) e = cc
directory_of (Some Fifo) e = cc
directory_of (Some CharDevice) e = cc
directory_of (Some BlockDevice) e = cc

-- what a look for a directory answers
pub directory_test : (t : Files) (path : Path) (b : Bool) → IsTrue b ↔ IsKind Directory t path → b ≡ is_directory_at (places t) path
directory_test t path b is = same_tests b (is_directory_at (places t) path) (λ e. ap (λ o. option_map_or is_directory o false) (is.0 e)) (λ e. is.1 (directory_of (kind_of (places t path)) e))

module _ (t : Files) (path : Path) where
  -- what must go, by what two looks have answered
  pub must_go_is : (new old : Bool) → new ≡ is_directory_at (places t) (staging_of path) → old ≡ is_directory_at (places t) path → (q : Path) → must_go_for new old t path q ≡ must_go t path q
  must_go_is new old e f q = ap (λ b. must_go_for b old t path q) e ∙ ap (λ b. must_go_for (is_directory_at (places t) (staging_of path)) b t path q) f

  -- if there is nothing, nothing must go
  pub must_go_none : IsTree t → is_some (places t path) ≡ false → (q : Path) → false ≡ must_go t path q
  must_go_none tree none q =
      by (is_directory_at (places t) (staging_of path)) ∙ must_go_is (is_directory_at (places t) (staging_of path)) false refl (sym (ap (λ o. option_map_or is_directory (kind_of o) false) (none_of (places t path) none))) q
    where
      by : (new : Bool) → false ≡ must_go_for new false t path q
      by true = none_at t path tree none q
      by false = refl

module _ (one other : Path → Bool) (same : (q : Path) → one q ≡ other q) (step : Path → Step) (before behind : List Step) where
  -- the same paths are due
  pub did_same : DidInPostOrder one step before behind → DidInPostOrder other step before behind
  did_same d = record { paths = d.paths; are = λ q. d.are q ∙ same q; in_order = d.in_order; all = d.all }

  pub does_same : DoesInPostOrder one step before behind → DoesInPostOrder other step before behind
  does_same (DoesInPostOrder.nothing e) = DoesInPostOrder.nothing e
  does_same (DoesInPostOrder.first paths are up part) = DoesInPostOrder.first paths (λ q. are q ∙ same q) up part

-- ---- one step

-- where the kind of an object stays, so does the step that removes it
pub removal_stays : (t u : Files) (path : Path) → kind_of (places u path) ≡ kind_of (places t path) → removal_at u path ≡ removal_at t path
removal_stays t u path e = ap (λ k. removal (option_map_or is_directory k false) path) e

-- a step that was tried is done, or nothing is
pub tried_part : {S : Type 0} (tree : Ghosts S) (s : Step) (now : ℕ) (a b : S) (r : Result (Unit {0}) TreeFault) → Tried tree s now a b r → DonePart (s ∷ []) (tree.steps a) (tree.steps b)
tried_part tree s now a b (Ok x) t = (1, t.recorded)
tried_part tree s now a b (Err e) t = (0, t.unrecorded ∙ sym (append-nil (tree.steps a)))

pub tried_one : {S : Type 0} (tree : Ghosts S) (s : Step) (now : ℕ) (a b : S) (r : Result (Unit {0}) TreeFault) → Tried tree s now a b r → (tree.steps b ≡ tree.steps a) ⊎ (tree.steps b ≡ tree.steps a ++ s ∷ [])
tried_one tree s now a b (Ok x) t = inr t.recorded
tried_one tree s now a b (Err e) t = inl t.unrecorded

-- all of some steps that were tried are done, if the answer is Ok
pub tried_all : {S : Type 0} (tree : Ghosts S) (files : Files) (paths : List Path) (now : ℕ) (a b : S) (r : Result (Unit {0}) TreeFault)
    → TriedAll tree (steps_of files paths) now a b r → OnOk r (tree.steps b ≡ tree.steps a ++ map (removal_at files) (reverse paths))
tried_all tree files paths now a b r t = by r t.whole
  where
    by : (v : Result (Unit {0}) TreeFault) → OnOk v (t.left ≡ []) → OnOk v (tree.steps b ≡ tree.steps a ++ map (removal_at files) (reverse paths))
    by (Ok x) none = t.recorded ∙ ap (λ ss. tree.steps a ++ ss) (sym (append-nil t.done) ∙ sym (ap (λ l. t.done ++ l) none) ∙ t.parts ∙ steps_are files paths)
    by (Err e) h = h

-- ---- publishing

module _ (t : Files) (path : Path) where
  -- the way is cleared, and the Rename is done or not
  pub publishes : (before mid behind : List Step) → DidInPostOrder (must_go t path) (removal_at t) before mid → (behind ≡ mid) ⊎ (behind ≡ mid ++ Rename (staging_of path) path ∷ []) → PublishesInOrder t path before behind
  publishes before mid behind d (inl e) = PublishesInOrder.clears (subst (DoesInPostOrder (must_go t path) (removal_at t) before) (sym e) (did_does (must_go t path) (removal_at t) before mid d))
  publishes before mid behind d (inr e) = PublishesInOrder.renames mid d e
