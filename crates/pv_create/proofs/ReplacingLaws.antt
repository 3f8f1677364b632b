-- What one Rename can replace stands at the path of a line until what is put there comes.
use Rattle.std.specs.Prelude.{◌≡◌, ◌⊎◌, ℕ, true, false, List, [], take}
use Rattle.std.proofs.Common.{refl, sym, ap, subst, ◌∙◌, inl, inr}
use Rattle.pv_walk.specs.declared.operation.Operation.{Operation}
use Rattle.pv_walk.specs.Dividing.{parts}
use Rattle.pv_walk.specs.Nodes.{object_states_of}
use Rattle.pv_walk.specs.Operations.{run}
use Rattle.pv_walk.proofs.OperationLaws.{object_states_of-same}
use Rattle.pv_lines.specs.declared.line.Line.{Line}
use Rattle.pv_path.specs.Paths.{Path, has_staging}
use Rattle.pv_steps.specs.Same.{Same, object_states}
use Rattle.pv_steps.specs.Trees.{Files, places, IsTree}
use Rattle.pv_table.specs.declared.action.Action.{Action}
use Rattle.pv_table.specs.declared.action.Action.TheVariants.{Create, Copy, Adjust, Idle}
use Rattle.pv_table.specs.ActionTable.{action_of}
use Rattle.pv_table.specs.Effects.{turn_after}
use Rattle.pv_table.specs.Saying.{found}
use Rattle.pv_table.specs.Turns.{Turn}
use Rattle.pv_walk.specs.Copying.{Subtree}
use Rattle.pv_walk.specs.Replacing.{AreDirectories, CanReplace}
use Rattle.pv_create.specs.OnTheWay.{OnWay, IsMidway, turn_at, sets_at, puts_parents}
use Rattle.pv_laws.proofs.Making.{ready_here}
use Rattle.pv_laws.proofs.Sets.{impossible}
use Rattle.pv_laws.proofs.Shapes.{tree_shaped}
use Rattle.pv_create.proofs.BridgeLaws.{none_done}

module _ (now : ℕ) (line : Line) (path : Path) (plain : has_staging path ≡ false) (t u : Files) (tree : IsTree t) (puts : puts_parents (places t) (action_of line) ≡ true) (subtree : Subtree)
    (put : turn_at now line path t ≡ Turn.Put subtree) where
  -- nothing is set where something is put
  unset : (d : Action) → puts_parents (places t) d ≡ true → sets_at d (Turn.Put subtree) path path ≡ []
  unset (Create making) h = refl
  unset (Copy copying) h = refl
  unset (Adjust adjustment) h = impossible h
  unset Idle h = impossible h

  -- preparing the path leaves the object there
  found_here : (d : Action) → puts_parents (places t) d ≡ true → object_states_of (places (found now d path t)) path ≡ object_states_of (places t) path
  found_here (Create making) h = ready_here now path plain t (tree_shaped (places t) tree)
  found_here (Copy copying) h = ready_here now path plain t (tree_shaped (places t) tree)
  found_here (Adjust adjustment) h = impossible h
  found_here Idle h = impossible h

  midway_here : IsMidway now line path t path (object_states_of (places t) path) (object_states_of (places u) path) → object_states_of (places u) path ≡ object_states_of (places t) path
  midway_here (IsMidway.set k f) =
      f ∙ ap (λ (turn : Turn). run (take k (parts (sets_at (action_of line) turn path path))) (object_states_of (places t) path)) put
      ∙ ap (λ (xs : List Operation). run (take k (parts xs)) (object_states_of (places t) path)) (unset (action_of line) puts) ∙ none_done k (object_states_of (places t) path)
  midway_here (IsMidway.parent h above none e) = absurd (above.1 refl)

  -- the object at the path stays where what makes way there does
  until : ((s : Subtree) → subtree ≡ s → (CanReplace path s (found now (action_of line) path t) → Same (found now (action_of line) path t) u)
      → (AreDirectories path s (found now (action_of line) path t) → object_states (places u) path ≡ object_states (places (found now (action_of line) path t)) path)
      → object_states_of (places u) path ≡ object_states_of (places (found now (action_of line) path t)) path)
      → OnWay now line path t u → (object_states_of (places u) path ≡ object_states_of (places t) path) ⊎ (object_states_of (places u) path ≡ object_states_of (places (turn_after now line path t)) path)
  until stands (OnWay.before same) = inl (sym (object_states_of-same (places t) (places u) path (same path plain)))
  until stands (OnWay.midway free at) = inl (midway_here (at path plain))
  until stands (OnWay.making_way s free other staged needed stays at) =
      inl (stands s (let both : Turn.Put subtree ≡ Turn.Put s = sym put ∙ other in cc) needed stays ∙ found_here (action_of line) puts)
  until stands (OnWay.whole same) = inr (sym (object_states_of-same (places (turn_after now line path t)) (places u) path (same path plain)))

  pub stands_until : CanReplace path subtree (found now (action_of line) path t) → OnWay now line path t u
      → (object_states_of (places u) path ≡ object_states_of (places t) path) ⊎ (object_states_of (places u) path ≡ object_states_of (places (turn_after now line path t)) path)
  stands_until can = until (λ s same needed stays.
      sym (object_states_of-same (places (found now (action_of line) path t)) (places u) path (needed (subst (λ (x : Subtree). CanReplace path x (found now (action_of line) path t)) same can) path plain)))

  -- and so does a directory in the place of which one comes
  pub directory_until : AreDirectories path subtree (found now (action_of line) path t) → OnWay now line path t u
      → (object_states_of (places u) path ≡ object_states_of (places t) path) ⊎ (object_states_of (places u) path ≡ object_states_of (places (turn_after now line path t)) path)
  directory_until both = until (λ s same needed stays.
      object_states_of-same (places u) (places (found now (action_of line) path t)) path (stays (subst (λ (x : Subtree). AreDirectories path x (found now (action_of line) path t)) same both)))
