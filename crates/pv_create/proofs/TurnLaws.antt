-- Laws of a line that is not refused, at a path: what it leaves, says and takes, by what makes the path ready and what is done
-- there.
use Rattle.std.specs.Prelude.{◌≡◌, ℕ, ◌+◌, Bool, true, false, List, [], map, take, Option, Some, None, is_some, option_map, Result, Ok, if◌then◌else◌}
use Rattle.std.proofs.Common.{refl, sym, ap, subst, ◌∙◌, inl, inr, ◌⊎◌, arith}
use Rattle.pv_create.specs.Adjusting.{GivesSet}
use Rattle.pv_create.specs.Reached.{AdjustingInOrder, GivesReached}
use Rattle.pv_create.proofs.ReachedLaws.{order_start}
use Rattle.pv_walk.specs.declared.object_state.ObjectState.{ObjectState}
use Rattle.pv_walk.specs.declared.operation.Operation.{Operation}
use Rattle.pv_walk.specs.Dividing.{parts}
use Rattle.pv_walk.specs.Nodes.{object_state_of, object_states_of}
use Rattle.pv_walk.specs.Operations.{run}
use Rattle.pv_walk.proofs.EditLaws.{path_cases}
use Rattle.pv_lines.specs.declared.line.Line.{Line}
use Rattle.pv_path.specs.Paths.{Path, same_path, is_prefix}
use Rattle.pv_path.proofs.PathLaws.{same_path-refl}
use Rattle.pv_steps.specs.declared.object.Object.{Object}
use Rattle.pv_steps.specs.declared.step.Step.{Step}
use Rattle.pv_steps.specs.declared.tree.Tree.{Ghosts}
use Rattle.pv_steps.specs.declared.tree.TreeFault.{TreeFault}
use Rattle.pv_steps.specs.Acting.{Acted}
use Rattle.pv_steps.specs.Objects.{object_state}
use Rattle.pv_steps.specs.Same.{Same, object_states}
use Rattle.pv_steps.specs.Trees.{Files, places, IsAbsentIn, IsTree}
use Rattle.pv_steps.proofs.ActingLaws.{Moves, acted_then, acted_weaken, acted_within, acted_end}
use Rattle.pv_text.specs.GivenMessages.{message_text_at}
use Rattle.pv_table.specs.declared.action.Action.{Action}
use Rattle.pv_table.specs.declared.action.Action.TheVariants.{Create, Copy, Adjust, Idle}
use Rattle.pv_table.specs.ActionTable.{action_of}
use Rattle.pv_table.specs.Created.{by_turn, action_work, adjust_work}
use Rattle.pv_table.specs.Effects.{carried_out, prepare, turn_after, turned}
use Rattle.pv_table.specs.Saying.{found, texts, turn_messages, turn_texts}
use Rattle.pv_table.specs.Turns.{Refused, Turn, decide, has_something, refused_at, view_of}
use Rattle.pv_walk.specs.Copying.{Subtree, with_subtree}
use Rattle.pv_walk.specs.Preparing.{IsPreparing, Preparing, parent_file}
use Rattle.pv_walk.specs.Replacing.{AreDirectories, CanReplace, Replacing}
use Rattle.pv_walk.specs.Staging.{new_object}
use Rattle.pv_create.specs.OnTheWay.{turn_at, puts_parents, sets_at, IsMidway, IsClearing, OnWay, IsStepOf, TurnWay, IsStepAt, turn_course}
use Rattle.pv_create.specs.Turning.{Readying, IsReadyStep, ready_work, prepare_work, Turning, IsTurnStep, settled, Settling, IsSettleStep, settle_work}
use Rattle.pv_create.proofs.AbsentSource.{says_nothing}
use Rattle.pv_create.proofs.PuttingLaws.{put_object_states}

-- ---- objects without timestamps

object_state_same : (a b : Option Object) → option_map object_state a ≡ option_map object_state b → option_map object_state_of a ≡ option_map object_state_of b
object_state_same a b e = sym (again a) ∙ ap (option_map object_state_of) e ∙ again b
  where
    again : (o : Option Object) → option_map object_state_of (option_map object_state o) ≡ option_map object_state_of o
    again None = refl
    again (Some x) = refl

-- ---- on the way of a line that puts absent parents

module _ (now : ℕ) (line : Line) (path : Path) (t : Files) (free : refused_at line path (places t) ≡ None) (puts : puts_parents (places t) (action_of line) ≡ true) where
  -- what stands as in the prepared tree
  as_prepared : (u : Files) (q : Path) (new : Option ObjectState) → IsPreparing path q (object_states (places t) q) (object_states (places u) q) → new ≡ object_states_of (places u) q
      → IsMidway now line path t q (object_states_of (places t) q) new
  as_prepared u q new (IsPreparing.kept e) same = IsMidway.set 0 (same ∙ object_state_same (places u q) (places t q) e)
  as_prepared u q new (IsPreparing.parent above none e) same =
      IsMidway.parent puts above (object_state_same (places t q) None none) (same ∙ object_state_same (places u q) (Some (new_object parent_file 0)) e)

  pub preparing_way : (w : Files) → Preparing path t w → OnWay now line path t w
  preparing_way w h = OnWay.midway free (λ q plain. as_prepared w q (object_states_of (places w) q) (h q plain) refl)

  module _ (u : Files) (is : found now (action_of line) path t ≡ u) (before : Preparing path t u)
      (sets : (operations : List Operation) (q : Path) → sets_at (action_of line) (Turn.Become operations) path q ≡ (if same_path path q then operations else []))
      (whole : (s : Subtree) → turn_at now line path t ≡ Turn.Put s → (q : Path) → object_states (places (turn_after now line path t)) q ≡ object_states (with_subtree 0 path s (places u)) q) where
    -- the sets are of the object at the path itself
    sets_here : (operations : List Operation) → turn_at now line path t ≡ Turn.Become operations → (q : Path) → same_path path q ≡ true
        → sets_at (action_of line) (turn_at now line path t) path q ≡ operations
    sets_here operations e q same = ap (λ (v : Turn). sets_at (action_of line) v path q) e ∙ sets operations q ∙ ap (λ b. if b then operations else []) same

    kept_here : (q : Path) → path ≡ q → IsPreparing path q (object_states (places t) q) (object_states (places u) q) → object_states_of (places u) q ≡ object_states_of (places t) q
    kept_here q e (IsPreparing.kept f) = object_state_same (places u q) (places t q) f
    kept_here q e (IsPreparing.parent above none f) = absurd (above.1 (sym e))

    still : (w : Files) → Same u w → OnWay now line path t w
    still w same = OnWay.midway free (λ q plain. as_prepared u q (object_states_of (places w) q) (before q plain) (object_state_same (places w q) (places u q) (sym (same q plain))))

    pub turning_way : (w : Files) (turn : Turn) → turn_at now line path t ≡ turn → Turning path turn u w → OnWay now line path t w
    turning_way w (Turn.Put s) e (Replacing.before same) = still w same
    turning_way w (Turn.Put s) e (Replacing.making_way m) =
        OnWay.making_way s free e m.staged (subst (λ (v : Files). CanReplace path s v → Same v w) (sym is) m.needed)
        (subst (λ (v : Files). AreDirectories path s v → object_states (places w) path ≡ object_states (places v) path) (sym is) m.stays) (λ q plain. by q (before q plain) (m.parts q plain))
      where
        by : (q : Path) → IsPreparing path q (object_states (places t) q) (object_states (places u) q) → (object_states (places w) q ≡ object_states (places u) q) ⊎ ((is_prefix path q ≡ true) × IsAbsentIn (places w) q)
            → IsClearing now line path t q (object_states_of (places t) q) (object_states_of (places w) q)
        by q p (inl f) = IsClearing.midway (as_prepared u q (object_states_of (places w) q) p (object_state_same (places w q) (places u q) f))
        by q p (inr gone) = IsClearing.gone gone.0 (ap (option_map object_state_of) gone.1)
    turning_way w (Turn.Put s) e (Replacing.come h) = OnWay.whole (λ q plain. whole s e q ∙ sym (h q plain))
    turning_way w (Turn.Become operations) e (k, h) = OnWay.midway free (λ q plain. by q (before q plain) (path_cases path q))
      where
        at : (q : Path) (b : Bool) → same_path path q ≡ b → object_states_of (places w) q ≡ (if b then run (take k (parts operations)) (object_states_of (places u) q) else object_states_of (places u) q)
        at q b s = h q ∙ ap (λ c. if c then run (take k (parts operations)) (object_states_of (places u) q) else object_states_of (places u) q) s

        same : (q : Path) → path ≡ q → same_path path q ≡ true
        same q s = ap (same_path path) (sym s) ∙ same_path-refl path

        by : (q : Path) → IsPreparing path q (object_states (places t) q) (object_states (places u) q) → (path ≡ q) ⊎ (same_path path q ≡ false)
            → IsMidway now line path t q (object_states_of (places t) q) (object_states_of (places w) q)
        by q p (inl s) = IsMidway.set k
            (at q true (same q s)
            ∙ ap (run (take k (parts operations))) (kept_here q s p)
            ∙ ap (λ (ops : List Operation). run (take k (parts ops)) (object_states_of (places t) q)) (sym (sets_here operations e q (same q s))))
        by q p (inr d) = as_prepared u q (object_states_of (places w) q) p (at q false d)
    turning_way w (Turn.Left kind) e h = still w h
    turning_way w Turn.Nothing e h = still w h

-- ---- by what a line asks for

-- a line that is carried out makes its path ready, and does what is decided there
carried_is : (now : ℕ) (action : Action) (path : Path) (t : Files) → has_something (places t) action ≡ true
    → carried_out now action path t ≡ settled now action path (decide action (view_of (found now action path t)) path) (found now action path t)
carried_is now (Create making) path t h = refl
carried_is now (Copy copying) path t h =
    ap (λ b. if b then turned now (Copy copying) path (decide (Copy copying) (view_of (prepare now path t)) path) (prepare now path t) else t) h
carried_is now (Adjust adjustment) path t h = refl
carried_is now Idle path t h = refl

work_is : (now : ℕ) (action : Action) (path : Path) (t : Files) → has_something (places t) action ≡ true
    → action_work now action path t ≡ ready_work action path t + settle_work action path (decide action (view_of (found now action path t)) path) (found now action path t)
work_is now (Create making) path t h = refl
work_is now (Copy copying) path t h =
    ap (λ b. if b then prepare_work path t + settle_work (Copy copying) path (decide (Copy copying) (view_of (prepare now path t)) path) (prepare now path t) else 0) h
work_is now (Adjust adjustment) path t h = (let same : adjust_work adjustment path t ≡ 0 + adjust_work adjustment path t = omega arith in same)
work_is now Idle path t h = refl

-- if there is nothing to copy, nothing is done or said
nothing_done : (now : ℕ) (action : Action) (path : Path) (t : Files) → has_something (places t) action ≡ false → t ≡ carried_out now action path t
nothing_done now (Create making) path t h = absurd (let no : true ≡ false = h in cc)
nothing_done now (Copy copying) path t h =
    sym (ap (λ b. if b then turned now (Copy copying) path (decide (Copy copying) (view_of (prepare now path t)) path) (prepare now path t) else t) h)
nothing_done now (Adjust adjustment) path t h = absurd (let no : true ≡ false = h in cc)
nothing_done now Idle path t h = refl

nothing_texts : (now : ℕ) (action : Action) (path : Path) (t : Files) → IsTree t → has_something (places t) action ≡ false
    → turn_texts path (decide action (view_of (found now action path t)) path) ≡ []
nothing_texts now (Create making) path t tree h = absurd (let no : true ≡ false = h in cc)
nothing_texts now (Copy copying) path t tree h = says_nothing now path copying t tree h
nothing_texts now (Adjust adjustment) path t tree h = absurd (let no : true ≡ false = h in cc)
nothing_texts now Idle path t tree h = refl

-- nothing is done yet
pub turn_start : (now : ℕ) (line : Line) (path : Path) (t : Files) → (turn_course now line).way path t t
turn_start now line path t = by (action_of line)
  where
    by : (d : Action) → TurnWay d now line path t t
    by (Create making) = OnWay.before (λ q plain. refl)
    by (Copy copying) = OnWay.before (λ q plain. refl)
    by (Adjust adjustment) = order_start adjustment path t t (λ q. refl)
    by Idle = OnWay.before (λ q plain. refl)

module _ (now : ℕ) (line : Line) (path : Path) (action : Action) (asked : action_of line ≡ action) (t : Files) (free : refused_at line path (places t) ≡ None) where
  after_is : turn_after now line path t ≡ carried_out now action path t
  after_is = (let is : turn_after now line path t ≡ carried_out now (action_of line) path t = rw free refl in is) ∙ ap (λ (d : Action). carried_out now d path t) asked

  says_is : turn_messages now line path t ≡ map (message_text_at line.place) (turn_texts path (decide action (view_of (found now action path t)) path))
  says_is = ap (map (message_text_at line.place)) (
      (let is : texts now line path t ≡ turn_texts path (decide (action_of line) (view_of (found now (action_of line) path t)) path) = rw free refl in is)
      ∙ ap (λ (d : Action). turn_texts path (decide d (view_of (found now d path t)) path)) asked)

  takes_is : (by_turn now line).takes path t ≡ action_work now action path t
  takes_is = ap (λ (r : Option Refused). if is_some r then 0 else action_work now (action_of line) path t) free ∙ ap (λ (d : Action). action_work now d path t) asked

  -- ---- nothing to copy

  module _ (nothing : has_something (places t) action ≡ false) where
    pub nothing_after : t ≡ turn_after now line path t
    nothing_after = nothing_done now action path t nothing ∙ sym after_is

    pub nothing_says : IsTree t → turn_messages now line path t ≡ []
    nothing_says tree = says_is ∙ ap (map (message_text_at line.place)) (nothing_texts now action path t tree nothing)

  -- ---- something to do

  module _ (something : has_something (places t) action ≡ true) where
    turn_is : turn_at now line path t ≡ decide action (view_of (found now action path t)) path
    turn_is =
        ap (λ (d : Action). if has_something (places t) d then decide d (view_of (found now d path t)) path else Turn.Nothing) asked
        ∙ ap (λ b. if b then decide action (view_of (found now action path t)) path else Turn.Nothing) something

    found_is : found now (action_of line) path t ≡ found now action path t
    found_is = ap (λ (d : Action). found now d path t) asked

    -- ---- the path is made ready

    pub ready_way : (w : Files) → Readying action path t w → TurnWay action now line path t w
    ready_way w h = by action asked something h
      where
        by : (d : Action) → action_of line ≡ d → has_something (places t) d ≡ true → Readying d path t w → TurnWay d now line path t w
        by (Create making) e some before = preparing_way now line path t free (ap (puts_parents (places t)) e) w before
        by (Copy copying) e some before = preparing_way now line path t free (ap (puts_parents (places t)) e ∙ some) w before
        by (Adjust adjustment) e some same = order_start adjustment path t w (λ q. ap (λ (v : Files). object_states_of (places v) q) same)
        by Idle e some same = OnWay.before (λ q plain. ap (λ (v : Files). object_states (places v) q) (sym same))

    pub ready_step : (step : Step) → IsReadyStep action path t step → IsStepAt action now line path t step
    ready_step step h = by action asked something h
      where
        by : (d : Action) → action_of line ≡ d → has_something (places t) d ≡ true → IsReadyStep d path t step → IsStepAt d now line path t step
        by (Create making) e some is = IsStepOf.prepares (ap (puts_parents (places t)) e) is
        by (Copy copying) e some is = IsStepOf.prepares (ap (puts_parents (places t)) e ∙ some) is
        by (Adjust adjustment) e some is = absurd is
        by Idle e some is = absurd is

    -- ---- what is decided is done

    module _ (u : Files) (is : u ≡ found now action path t) where
      pub settled_after : turn_after now line path t ≡ settled now action path (decide action (view_of u) path) u
      settled_after = after_is ∙ carried_is now action path t something ∙ ap (λ (v : Files). settled now action path (decide action (view_of v) path) v) (sym is)

      pub settled_says : turn_messages now line path t ≡ map (message_text_at line.place) (turn_texts path (decide action (view_of u) path))
      settled_says = says_is ∙ ap (λ (v : Files). map (message_text_at line.place) (turn_texts path (decide action (view_of v) path))) (sym is)

      settled_takes : (by_turn now line).takes path t ≡ ready_work action path t + settle_work action path (decide action (view_of u) path) u
      settled_takes =
          takes_is ∙ work_is now action path t something
          ∙ ap (λ (v : Files). ready_work action path t + settle_work action path (decide action (view_of v) path) v) (sym is)

      turn_here : turn_at now line path t ≡ decide action (view_of u) path
      turn_here = turn_is ∙ ap (λ (v : Files). decide action (view_of v) path) (sym is)

      found_here : found now (action_of line) path t ≡ u
      found_here = found_is ∙ sym is

      settle_way : Readying action path t u → (w : Files) → Settling action path (decide action (view_of u) path) u w → TurnWay action now line path t w
      settle_way before w h = by action asked something turn_here settled_after before h
        where
          by : (d : Action) → action_of line ≡ d → has_something (places t) d ≡ true → turn_at now line path t ≡ decide d (view_of u) path
              → turn_after now line path t ≡ settled now d path (decide d (view_of u) path) u
              → Readying d path t u → Settling d path (decide d (view_of u) path) u w → TurnWay d now line path t w
          by (Create making) e some turn after first next =
              turning_way now line path t free (ap (puts_parents (places t)) e) u found_here first
              (λ operations q. ap (λ (d : Action). sets_at d (Turn.Become operations) path q) e)
              (λ s f q. ap (λ (v : Files). object_states (places v) q) (after ∙ ap (λ (v : Turn). turned now (Create making) path v u) (sym turn ∙ f)) ∙ put_object_states now (Create making) path u s (sym turn ∙ f) q)
              w (decide (Create making) (view_of u) path) turn next
          by (Copy copying) e some turn after first next =
              turning_way now line path t free (ap (puts_parents (places t)) e ∙ some) u found_here first
              (λ operations q. ap (λ (d : Action). sets_at d (Turn.Become operations) path q) e)
              (λ s f q. ap (λ (v : Files). object_states (places v) q) (after ∙ ap (λ (v : Turn). turned now (Copy copying) path v u) (sym turn ∙ f)) ∙ put_object_states now (Copy copying) path u s (sym turn ∙ f) q)
              w (decide (Copy copying) (view_of u) path) turn next
          by (Adjust adjustment) e some turn after same next = subst (λ (v : Files). AdjustingInOrder adjustment path v w) same next
          by Idle e some turn after same next = OnWay.before (subst (λ (v : Files). Same v w) same next)

      settle_step : Readying action path t u → (step : Step) → IsSettleStep action path (decide action (view_of u) path) u step → IsStepAt action now line path t step
      settle_step before step h = by action asked turn_here before h
        where
          sets : (operations : List Operation) → turn_at now line path t ≡ Turn.Become operations → GivesSet path operations u step → IsStepOf now line path t step
          sets operations e gives = IsStepOf.sets operations e (subst (λ (v : Files). GivesSet path operations v step) (sym found_here) gives)

          made : (making : _) → action_of line ≡ Create making → (turn : Turn) → turn_at now line path t ≡ turn → IsTurnStep (Create making) path turn u step → IsStepOf now line path t step
          made making e (Turn.Put s) f gives = IsStepOf.puts making s e f gives
          made making e (Turn.Become operations) f gives = sets operations f gives
          made making e (Turn.Left kind) f gives = absurd gives
          made making e Turn.Nothing f gives = absurd gives

          copies : (copying : _) → action_of line ≡ Copy copying → (turn : Turn) → turn_at now line path t ≡ turn → IsTurnStep (Copy copying) path turn u step → IsStepOf now line path t step
          copies copying e (Turn.Put s) f gives = IsStepOf.copies copying s e f gives
          copies copying e (Turn.Become operations) f gives = sets operations f gives
          copies copying e (Turn.Left kind) f gives = absurd gives
          copies copying e Turn.Nothing f gives = absurd gives

          by : (d : Action) → action_of line ≡ d → turn_at now line path t ≡ decide d (view_of u) path → Readying d path t u → IsSettleStep d path (decide d (view_of u) path) u step → IsStepAt d now line path t step
          by (Create making) e turn first gives = made making e (decide (Create making) (view_of u) path) turn gives
          by (Copy copying) e turn first gives = copies copying e (decide (Copy copying) (view_of u) path) turn gives
          by (Adjust adjustment) e turn same gives = subst (λ (v : Files). GivesReached adjustment path v step) same gives
          by Idle e turn same gives = absurd gives

-- ---- calls

module _ {S : Type 0} (tree : Ghosts S) (now : ℕ) (line : Line) (path : Path) (action : Action) (asked : action_of line ≡ action) (a b : S)
    (free : refused_at line path (places (tree.state a)) ≡ None) (something : has_something (places (tree.state a)) action ≡ true) where
  as_asked : {A : Type 0} (c : S) (r : Result A TreeFault)
      → Acted tree (TurnWay action now line path (tree.state a)) (IsStepAt action now line path (tree.state a)) ((by_turn now line).takes path (tree.state a)) now a c r
      → Acted tree ((turn_course now line).way path (tree.state a)) ((turn_course now line).steps path (tree.state a)) ((by_turn now line).takes path (tree.state a)) now a c r
  as_asked c r acted =
      subst (λ (d : Action). Acted tree (TurnWay d now line path (tree.state a)) (IsStepAt d now line path (tree.state a)) ((by_turn now line).takes path (tree.state a)) now a c r) (sym asked) acted

  pub ready_acted : {A : Type 0} {r : Result A TreeFault} → Acted tree (Readying action path (tree.state a)) (IsReadyStep action path (tree.state a)) (ready_work action path (tree.state a)) now a b r
      → Acted tree ((turn_course now line).way path (tree.state a)) ((turn_course now line).steps path (tree.state a)) ((by_turn now line).takes path (tree.state a)) now a b r
  ready_acted {A} {r} acted =
      let t = tree.state a in
      let e = settled_takes now line path action asked t free something (found now action path t) refl in
      as_asked b r (
      acted_weaken tree (Readying action path t) (TurnWay action now line path t) (IsReadyStep action path t) (IsStepAt action now line path t) (ready_work action path t) ((by_turn now line).takes path t)
      (ready_way now line path action asked t free something) (ready_step now line path action asked t free something) (omega (arith, e)) acted)

  pub settled_acted : {A B : Type 0} {c : S} {x : A} {r : Result B TreeFault} → Moves tree → tree.state b ≡ found now action path (tree.state a)
      → Acted tree (Readying action path (tree.state a)) (IsReadyStep action path (tree.state a)) (ready_work action path (tree.state a)) now a b (Ok x)
      → Acted tree (Settling action path (decide action (view_of (tree.state b)) path) (tree.state b)) (IsSettleStep action path (decide action (view_of (tree.state b)) path) (tree.state b))
      (settle_work action path (decide action (view_of (tree.state b)) path) (tree.state b)) now b c r
      → Acted tree ((turn_course now line).way path (tree.state a)) ((turn_course now line).steps path (tree.state a)) ((by_turn now line).takes path (tree.state a)) now a c r
  settled_acted {A} {B} {c} {x} {r} moves is first second =
      let t = tree.state a in
      let u = tree.state b in
      let turn = decide action (view_of u) path in
      let ready = ready_work action path t in
      let before : Readying action path t u = acted_end tree (Readying action path t) (IsReadyStep action path t) first in
      let work = settle_work action path turn u in
      let e : (by_turn now line).takes path t ≡ ready + work = settled_takes now line path action asked t free something u is in
      as_asked c r (
      acted_within tree (ready + work) ((by_turn now line).takes path t) (omega (arith, e))
      (acted_then tree moves (TurnWay action now line path t) (IsStepAt action now line path t)
      (acted_weaken tree (Readying action path t) (TurnWay action now line path t) (IsReadyStep action path t) (IsStepAt action now line path t) ready ready
      (ready_way now line path action asked t free something) (ready_step now line path action asked t free something) (omega arith) first)
      (acted_weaken tree (Settling action path turn u) (TurnWay action now line path t) (IsSettleStep action path turn u) (IsStepAt action now line path t) work work
      (settle_way now line path action asked t free something u is before)
      (settle_step now line path action asked t free something u is before) (omega arith) second)))
