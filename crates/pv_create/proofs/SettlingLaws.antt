-- Laws of what is decided at a path and done, by what the line asks for.
use Rattle.std.specs.Prelude.{◌≡◌, ℕ, Bool, true, false, List, Some, None, Result, Ok, Err, OnOk, IsErrAnd, if◌then◌else◌}
use Rattle.std.proofs.Common.{refl, sym, ap, subst, inl, inr, ◌⊎◌}
use Rattle.pv_create.specs.Adjusting.{Adjusting, GivesSet}
use Rattle.pv_create.specs.Reached.{AdjustingInOrder, GivesReached}
use Rattle.pv_walk.specs.declared.operation.Operation.{Operation}
use Rattle.pv_walk.specs.Nodes.{object_states_of}
use Rattle.pv_path.specs.Paths.{Path, same_path}
use Rattle.pv_path.proofs.Tests.{on_ok}
use Rattle.pv_steps.specs.declared.node.Kind.{Kind}
use Rattle.pv_steps.specs.declared.tree.Tree.{Ghosts}
use Rattle.pv_steps.specs.declared.tree.TreeFault.{TreeFault}
use Rattle.pv_steps.specs.declared.tree.TreeFault.TheVariants.{Memory}
use Rattle.pv_steps.specs.Acting.{refused, Acted}
use Rattle.pv_steps.specs.Steps.{on_at}
use Rattle.pv_steps.specs.Trees.{Files, places}
use Rattle.pv_steps.proofs.ActingLaws.{Moves, acted_none, no_memory}
use Rattle.pv_table.specs.declared.action.Action.{Action}
use Rattle.pv_table.specs.declared.action.Action.TheVariants.{Create, Copy, Adjust, Idle}
use Rattle.pv_table.specs.declared.action.Adjustment.{Adjustment}
use Rattle.pv_table.specs.Created.{change_work, adjust_work, turn_work}
use Rattle.pv_table.specs.Effects.{become, adjust_at, turned}
use Rattle.pv_table.specs.Repeatable.{sets_of}
use Rattle.pv_table.specs.Turns.{Turn, view_of}
use Rattle.pv_table.proofs.EffectLaws.{become_is}
use Rattle.pv_create.specs.Actions.{adjustment_of}
use Rattle.pv_walk.specs.Replacing.{Replacing}
use Rattle.pv_create.proofs.ReachedLaws.{order_start}
use Rattle.pv_create.specs.Turning.{IsTurnStep, Settles, Settling, IsSettleStep, Turning, settle_work, settled}
use Rattle.pv_create.specs.Deciding.{meant}
use Rattle.pv_create.specs.declared.deciding.Turn.{Turn as Answer}
use Rattle.pv_create.specs.declared.deciding.Turn.TheVariants as answer

pub adjust_is : (action : Action) (adjustment : Adjustment) → adjustment_of action ≡ Some adjustment → action ≡ Adjust adjustment
adjust_is (Create making) adjustment e = absurd (let no : None ≡ Some adjustment = e in cc)
adjust_is (Copy copying) adjustment e = absurd (let no : None ≡ Some adjustment = e in cc)
adjust_is (Adjust own) adjustment e = (let both : Some own ≡ Some adjustment = e in let it : own ≡ adjustment = cc in ap Adjust it)
adjust_is Idle adjustment e = absurd (let no : None ≡ Some adjustment = e in cc)

module _ {S : Type 0} (tree : Ghosts S) (now : ℕ) (action : Action) (path : Path) (a b : S) (r : Result (Unit {0}) TreeFault) where
  -- by a line that only adjusts
  pub settles_reached : (answer : Answer) (adjustment : Adjustment) → adjustment_of action ≡ Some adjustment → OnOk r (tree.state b ≡ adjust_at now adjustment path (tree.state a))
      → Acted tree (AdjustingInOrder adjustment path (tree.state a)) (GivesReached adjustment path (tree.state a)) (adjust_work adjustment path (tree.state a)) now a b r
      → Settles tree now action path (meant action (view_of (tree.state a)) answer) a b r
  settles_reached answer adjustment e done acted =
      subst (λ (d : Action). Settles tree now d path (meant d (view_of (tree.state a)) answer) a b r) (sym (adjust_is action adjustment e))
      (record { ok = done; acted = acted })

  -- by any other
  settles_here : (d : Action) → adjustment_of d ≡ None → (turn : Turn) → OnOk r (tree.state b ≡ turned now d path turn (tree.state a))
      → Acted tree (Turning path turn (tree.state a)) (IsTurnStep d path turn (tree.state a)) (turn_work d path turn (tree.state a)) now a b r → Settles tree now d path turn a b r
  settles_here (Create making) e turn done acted = record { ok = done; acted = acted }
  settles_here (Copy copying) e turn done acted = record { ok = done; acted = acted }
  settles_here (Adjust adjustment) e turn done acted = absurd (let no : Some adjustment ≡ None = e in cc)
  settles_here Idle e turn done acted = record { ok = done; acted = acted }

  pub settles_become : adjustment_of action ≡ None → (sets : List Operation) → sets ≡ sets_of action → OnOk r (places (tree.state b) ≡ on_at path (become now sets) (places (tree.state a)))
      → Acted tree (Adjusting path sets (tree.state a)) (GivesSet path sets (tree.state a)) (change_work sets (places (tree.state a) path)) now a b r
      → Settles tree now action path (Turn.Become (sets_of action)) a b r
  settles_become e sets same done acted =
      subst (λ (xs : List Operation). Settles tree now action path (Turn.Become xs) a b r) same
      (settles_here action e (Turn.Become sets) (on_ok r (become_is now action path (tree.state a) sets (tree.state b)) done) acted)

-- what holds of any answer holds where it is Ok
pub on_any : {A E : Type 0} (r : Result A E) {X : Type 0} → X → OnOk r X
on_any (Ok x) h = h
on_any (Err e) h = tt

-- ---- nothing is done

still : {A : Type 0} (c : Bool) (o : A) → o ≡ (if c then o else o)
still true o = refl
still false o = refl

turning_start : (path : Path) (turn : Turn) (t : Files) → Turning path turn t t
turning_start path (Turn.Put s) t = Replacing.before (λ q plain. refl)
turning_start path (Turn.Become operations) t = (0, λ q. still (same_path path q) (object_states_of (places t) q))
turning_start path (Turn.Left kind) t = λ q plain. refl
turning_start path Turn.Nothing t = λ q plain. refl

settling_start : (action : Action) (path : Path) (turn : Turn) (t : Files) → Settling action path turn t t
settling_start (Create making) path turn t = turning_start path turn t
settling_start (Copy copying) path turn t = turning_start path turn t
settling_start (Adjust adjustment) path turn t = order_start adjustment path t t (λ q. refl)
settling_start Idle path turn t = turning_start path turn t

module _ {S : Type 0} (tree : Ghosts S) (moves : Moves tree) (now : ℕ) (action : Action) (path : Path) (turn : Turn) (a : S) (r : Result (Unit {0}) TreeFault) where
  unmoved : refused r ≡ 0 → OnOk r (tree.state a ≡ settled now action path turn (tree.state a)) → Settles tree now action path turn a a r
  unmoved none done = record {
    ok = done;
    acted = acted_none tree moves (Settling action path turn (tree.state a)) (IsSettleStep action path turn (tree.state a)) (settle_work action path turn (tree.state a)) now a r none (settling_start action path turn (tree.state a));
  }

  -- memory ran out
  pub settles_failed : IsErrAnd r (λ e. e ≡ Memory) → Settles tree now action path turn a a r
  settles_failed memory = unmoved (no_memory r memory) (by r memory)
    where
      by : (v : Result (Unit {0}) TreeFault) → IsErrAnd v (λ e. e ≡ Memory) → OnOk v (tree.state a ≡ settled now action path turn (tree.state a))
      by (Ok x) h = absurd h
      by (Err e) h = tt

  -- nothing is to be done
  settles_none : refused r ≡ 0 → adjustment_of action ≡ None → tree.state a ≡ turned now action path turn (tree.state a) → Settles tree now action path turn a a r
  settles_none none e same = unmoved none (on_any r (here action e same))
    where
      here : (d : Action) → adjustment_of d ≡ None → tree.state a ≡ turned now d path turn (tree.state a) → tree.state a ≡ settled now d path turn (tree.state a)
      here (Create making) f is = is
      here (Copy copying) f is = is
      here (Adjust adjustment) f is = absurd (let no : Some adjustment ≡ None = f in cc)
      here Idle f is = is

pub settles_idle : {S : Type 0} (tree : Ghosts S) → Moves tree → (now : ℕ) (action : Action) (path : Path) (turn : Answer) (a : S) (r : Result (Unit {0}) TreeFault) → refused r ≡ 0 → adjustment_of action ≡ None
    → (turn ≡ answer.Nothing) ⊎ ((kind : Kind) × (turn ≡ answer.Left kind)) → Settles tree now action path (meant action (view_of (tree.state a)) turn) a a r
settles_idle tree moves now action path turn a r none e (inl is) =
    subst (λ (v : Answer). Settles tree now action path (meant action (view_of (tree.state a)) v) a a r) (sym is) (settles_none tree moves now action path Turn.Nothing a r none e refl)
settles_idle tree moves now action path turn a r none e (inr (kind, is)) =
    subst (λ (v : Answer). Settles tree now action path (meant action (view_of (tree.state a)) v) a a r) (sym is) (settles_none tree moves now action path (Turn.Left kind) a r none e refl)
