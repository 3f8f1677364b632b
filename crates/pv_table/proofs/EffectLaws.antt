-- Laws of what a line leaves: the object at each path of a prepared tree, and after what is done at a path.
use Rattle.std.specs.Prelude.{◌≡◌, ℕ, true, List, [], ◌∷◌, ◌++◌, map, filter_map, Option, Some, None, is_some, option_map}
use Rattle.std.proofs.Common.{refl, sym, ap, subst, ◌∙◌, inl, inr, append-nil}
use Rattle.std.specs.FinMap as fin
use Rattle.pv_walk.specs.declared.object_state.ObjectState.{ObjectState}
use Rattle.pv_walk.specs.declared.operation.Operation.{Operation}
use Rattle.pv_path.specs.Paths.{Path, rest_under}
use Rattle.pv_path.proofs.PathLaws.{rest_under-Some}
use Rattle.pv_steps.specs.Steps.{on_at}
use Rattle.pv_steps.specs.Trees.{Files, Places, places}
use Rattle.pv_steps.proofs.StepLaws.{same_files, is_among, places-tabulate, among_keys, is_some-on_at, is_some-touched, among_right, among_left, later_among}
use Rattle.pv_walk.specs.Copying.{Subtree, object_of, standing, with_subtree, single}
use Rattle.pv_walk.specs.Preparing.{parents_of, prepared}
use Rattle.pv_walk.proofs.CopiedLaws.{among_copied, copied_stands}
use Rattle.pv_walk.proofs.PreparedLaws.{among_first, prepared_present}
use Rattle.pv_table.specs.declared.action.Copying.{Copying}
use Rattle.pv_table.specs.declared.action.Action.{Action}
use Rattle.pv_table.specs.declared.action.Action.TheVariants.{Create, Copy}
use Rattle.pv_table.specs.declared.action.Making.{Making}
use Rattle.pv_table.specs.Effects.{become, prepare, put_paths, turned}
use Rattle.pv_table.specs.Turns.{Turn, copy_of, topped_by, view_of}

-- ---- a prepared tree

module _ (now : ℕ) (path : Path) (t : Files) where
  prepared_key : (q : Path) → is_some (prepared now path (places t) q) ≡ true → is_among q (parents_of path ++ fin.keys t) ≡ true
  prepared_key q h = elim (prepared_present now path (places t) q h) [
    | inl e ↦ among_left q (parents_of path) (fin.keys t) e
    | inr k ↦ among_right q (parents_of path) (fin.keys t) (among_keys t q ∙ k)
  ]

  pub place-prepare : (q : Path) → places (prepare now path t) q ≡ prepared now path (places t) q
  unfolding prepare
  place-prepare q = places-tabulate (parents_of path ++ fin.keys t) (prepared now path (places t)) q (prepared_key q)

  -- a tree that has what preparing leaves is the prepared tree
  pub prepare_is : (u : Files) → places u ≡ prepared now path (places t) → u ≡ prepare now path t
  prepare_is u is = same_files u (prepare now path t) (λ q. ap (λ (x : Places). x q) is ∙ sym (place-prepare q))

-- ---- what is put

-- a copy, and one object, have something only at paths at which a line may put something
pub copy_keyed : (copying : Copying) (path : Path) (u : Files) (rest : Path) → is_some (copy_of copying (view_of u) rest) ≡ true → is_among (path ++ rest) (put_paths (Copy copying) path u ++ fin.keys u) ≡ true
copy_keyed copying path u rest h =
    among_left (path ++ rest) (put_paths (Copy copying) path u) (fin.keys u) (
    later_among path (path ++ rest) (map (λ r. path ++ r) (filter_map (rest_under copying.source) (fin.keys u))) (
    among_copied copying.source path rest (fin.keys u) (among_keys u (copying.source ++ rest) ∙ copied_stands (topped_by copying) copying.source u rest h)))

pub single_keyed : (making : Making) (path : Path) (u : Files) (b : ObjectState) (rest : Path) → is_some (single b rest) ≡ true → is_among (path ++ rest) (put_paths (Create making) path u ++ fin.keys u) ≡ true
single_keyed making path u b [] h = subst (λ (q : Path). is_among q (path ∷ fin.keys u) ≡ true) (sym (append-nil path)) (among_first path (fin.keys u))
single_keyed making path u b (name ∷ rest) h = cc

module _ (now : ℕ) (action : Action) (path : Path) (u : Files) (subtree : Subtree) (keyed : (rest : Path) → is_some (subtree rest) ≡ true → is_among (path ++ rest) (put_paths action path u ++ fin.keys u) ≡ true) where
  some_object : (o : Option ObjectState) → is_some (option_map (object_of now) o) ≡ true → is_some o ≡ true
  some_object None h = h
  some_object (Some b) h = h

  put_key : (q : Path) → is_some (with_subtree now path subtree (places u) q) ≡ true → is_among q (put_paths action path u ++ fin.keys u) ≡ true
  put_key q h = by (rest_under path q) refl (sym (is_some-touched now path (λ q. standing now subtree (places u q) (rest_under path q)) q) ∙ h)
    where
      by : (r : Option Path) → rest_under path q ≡ r → is_some (standing now subtree (places u q) r) ≡ true → is_among q (put_paths action path u ++ fin.keys u) ≡ true
      by None e g = among_right q (put_paths action path u) (fin.keys u) (among_keys u q ∙ g)
      by (Some rest) e g = subst (λ (r : Path). is_among r (put_paths action path u ++ fin.keys u) ≡ true) (sym (rest_under-Some path q rest e)) (keyed rest (some_object (subtree rest) g))

  pub place-put : (q : Path) → places (turned now action path (Turn.Put subtree) u) q ≡ with_subtree now path subtree (places u) q
  place-put q = places-tabulate (put_paths action path u ++ fin.keys u) (with_subtree now path subtree (places u)) q (put_key q)

  -- a tree that has what is put is the tree after the turn
  pub put_is : (v : Files) → places v ≡ with_subtree now path subtree (places u) → v ≡ turned now action path (Turn.Put subtree) u
  put_is v is = same_files v (turned now action path (Turn.Put subtree) u) (λ q. ap (λ (x : Places). x q) is ∙ sym (place-put q))

-- ---- what is adjusted

module _ (now : ℕ) (action : Action) (path : Path) (u : Files) (operations : List Operation) where
  pub place-become : (q : Path) → places (turned now action path (Turn.Become operations) u) q ≡ on_at path (become now operations) (places u) q
  place-become q = places-tabulate (fin.keys u) (on_at path (become now operations) (places u)) q
      (λ h. among_keys u q ∙ (sym (is_some-on_at path (become now operations) (places u) q) ∙ h))

  -- so with one that has what is adjusted
  pub become_is : (v : Files) → places v ≡ on_at path (become now operations) (places u) → v ≡ turned now action path (Turn.Become operations) u
  become_is v is = same_files v (turned now action path (Turn.Become operations) u) (λ q. ap (λ (x : Places). x q) is ∙ sym (place-become q))
