-- Each step of a run of lines gives its node the object at one path after some of the lines.
use Rattle.std.specs.Prelude.{◌≡◌, ◌≢◌, ◌⊎◌, ℕ, ◌+◌, ◌≤◌, Bool, true, false, cond, not, ◌&&◌, ◌||◌, List, [], ◌∷◌, ◌++◌, length, take, drop, Option, Some, None, is_some, option_map, if◌then◌else◌}
use Rattle.std.proofs.Common.{zero, suc, refl, sym, ap, subst, ◌∙◌, inl, inr, arith}
use Rattle.std.proofs.Math.Seq.{drop-append_seam}
use Rattle.std.specs.FinMap as fin
use Rattle.std.specs.List.{list_any, list_all, AllByRecursion}
use Rattle.pv_path.specs.Paths.{Path, same_path, is_prefix, has_staging, staging_of, same_path-decides}
use Rattle.pv_path.proofs.PathLaws.{same_path-refl, rest_under-self, rest_under-append, has_staging-append}
use Rattle.pv_steps.specs.declared.step.Step.{Step}
use Rattle.pv_steps.specs.declared.step.Step.TheVariants.{MakeDir, MakeFile, MakeFifo, MakeDevice, MakeLink, Write, SetMode, SetOwner, SetAcl, SetAttrs, SetLetters, Rename, Unlink, RemoveDir}
use Rattle.pv_steps.specs.Content.{Removes}
use Rattle.pv_steps.specs.Runs.{Ran}
use Rattle.pv_steps.specs.Trees.{Files, places, IsTree}
use Rattle.pv_walk.specs.declared.object_state.ObjectState.{ObjectState}
use Rattle.pv_walk.specs.declared.operation.Operation.TheVariants.{Make}
use Rattle.pv_walk.specs.SettingMetadata.{GivesMetadata}
use Rattle.pv_walk.specs.Nodes.{object_state_of, object_states_of, same_kind}
use Rattle.std.specs.Option.{option_map_or}
use Rattle.std.proofs.lemmas.Bool.{not-true, or_parts, and_parts}
use Rattle.pv_walk.specs.Operations.{stays, run}
use Rattle.pv_walk.proofs.OperationLaws.{run-twice}
use Rattle.pv_lines.specs.declared.line.Line.{Line}
use Rattle.pv_lines.specs.declared.line.LinePath.{LinePath}
use Rattle.pv_lines.specs.declared.line.LinePath.TheVariants.{Literal, Glob}
use Rattle.pv_lines.specs.Lines.{IsLine, IsLinePath}
use Rattle.pv_walk.specs.declared.new_file.NewFile.{NewFile}
use Rattle.pv_walk.specs.Listing.{times}
use Rattle.pv_walk.specs.Preparing.{parent_file}
use Rattle.pv_walk.specs.Preparing as preparing
use Rattle.pv_walk.specs.Staging.{staging_names, is_under_any, new_kind, new_payload, new_major, new_minor, new_object, new_mode, GivesNew, IsPublishing}
use Rattle.pv_walk.proofs.StageLaws.{mode_again}
use Rattle.pv_table.specs.declared.action.Copying.{Copying}
use Rattle.pv_table.specs.declared.action.Action.{Action}
use Rattle.pv_table.specs.declared.action.Action.TheVariants.{Create, Copy, Adjust, Idle}
use Rattle.pv_table.specs.declared.action.Making.{Making}
use Rattle.pv_table.specs.declared.action.Adjustment.{Adjustment}
use Rattle.pv_table.specs.Active.{in_create_order}
use Rattle.pv_table.specs.Asked.{operations}
use Rattle.pv_table.specs.ActionTable.{action_of}
use Rattle.pv_table.specs.Created.{by_turn, by_line, RefusesNoLine}
use Rattle.pv_steps.specs.Doing.{after_each, one_is_refused}
use Rattle.pv_table.specs.Effects.{carried_out, is_adjusted, prepare, turn_after, turns}
use Rattle.pv_table.specs.Pointwise.{after_turn, parent_object_state, ObjectStates}
use Rattle.pv_table.specs.Reaching.{names, path_in}
use Rattle.pv_table.specs.Repeatable.{IsRepeatable}
use Rattle.pv_table.specs.Saying.{found}
use Rattle.pv_table.specs.Turns.{Turn, View, view_of, copied, copy_of, copying_turn, making_turn, has_something, decide}
use Rattle.pv_create.specs.Adjusting.{GivesBytes}
use Rattle.pv_steps.specs.Courses.{IsStepOfSome}
use Rattle.pv_create.specs.OnTheWay.{IsStepOf, turn_at, puts_parents, Gives, IsGiven, GiveWhatLinesLeave, IsLineStep, lines_course}
use Rattle.pv_walk.specs.Copying.{GivesObjectState, Subtree, single}
use Rattle.pv_laws.specs.Copying.{turn_of}
use Rattle.pv_laws.specs.Moments.{Agree}
use Rattle.pv_laws.proofs.AllPoints.{IsSafe, line_pointed, all_safe, state_after}
use Rattle.pv_laws.proofs.Copies.{decide_some}
use Rattle.pv_laws.proofs.CopyShapes.{IsCopyTurn, puts, becomes, leaves, copy_turns}
use Rattle.pv_laws.proofs.CopyWays.{comes_inside, comes_above}
use Rattle.pv_laws.proofs.Lines.{line_is_plain, line_point, asked_made, copy_path, turns_adjust}
use Rattle.pv_laws.proofs.Making.{is_dir, IsShaped, object_after, asked_here, asked_above, ready_here}
use Rattle.pv_laws.proofs.Prepared.{object_state_some, filled}
use Rattle.pv_table.proofs.ListedLaws.{all_map, all_tests}
use Rattle.pv_laws.proofs.Sets.{impossible, is_adjustment, IsMaking, line_is_making, deep_repeatable}
use Rattle.pv_laws.proofs.Shapes.{plain_prefix, tree_shaped}
use Rattle.pv_laws.proofs.Adjustment.{turn_open, first_turn, adjust_point, touched_all, set_if, set_by_each, set_by_any, set_never, own_path, adjusts, once_named}
use Rattle.pv_create.proofs.LineWays.{IsStepBy, step_of, adjustment_course}

-- ---- what single steps give

published_gives : (path : Path) (b : ObjectState) (step : Step) → IsPublishing path step → Gives b step
published_gives path b (Unlink at) h = tt
published_gives path b (RemoveDir at) h = tt
published_gives path b (Rename from to) h = tt
published_gives path b step h = absurd h

pub removed_gives : (inside : Path → Bool) (b : ObjectState) (step : Step) → Removes inside step → Gives b step
removed_gives inside b (Unlink at) h = tt
removed_gives inside b (RemoveDir at) h = tt
removed_gives inside b step h = absurd h

new_gives : (at : Path) (file : NewFile) (step : Step) → GivesNew at file step → Gives (object_state_of (new_object file 0)) step
new_gives at file (Write path content) h = ap new_payload h.1
new_gives at file (MakeLink path target) h = (ap new_kind h.1, ap new_payload h.1)
new_gives at file (SetOwner path uid gid) h = h.1
new_gives at file (SetMode path mode) h = h.1 ∙ sym (mode_again (new_mode file.what file.mode))
new_gives at file (MakeDir path) h = ap new_kind h.1
new_gives at file (MakeFile path) h = h.1
new_gives at file (MakeFifo path) h = ap new_kind h.1
new_gives at file (MakeDevice path block major minor) h = (ap new_kind h.1, (ap new_major h.1, ap new_minor h.1))
new_gives at file step h = absurd h

object_state_gives : (at : Path) (b : ObjectState) (step : Step) → GivesObjectState at b step → Gives b step
object_state_gives at b (Write path content) h = h.1.1
object_state_gives at b (MakeLink path target) h = h.1
object_state_gives at b (SetOwner path uid gid) h = h.1
object_state_gives at b (SetMode path mode) h = h.1
object_state_gives at b (SetAcl path acl) h = h.1
object_state_gives at b (SetAttrs path attrs) h = h.1
object_state_gives at b (SetLetters path letters) h = h.1
object_state_gives at b (MakeDir path) h = h.1
object_state_gives at b (MakeFile path) h = h.1
object_state_gives at b (MakeFifo path) h = h.1
object_state_gives at b (MakeDevice path block major minor) h = h.1
object_state_gives at b step h = absurd h

set_gives : (at : Path) (b : ObjectState) (t : Files) (step : Step) → GivesBytes at b.body.payload t step ⊎ GivesMetadata at b.metadata t step → Gives b step
set_gives at b t step (inl h) = subst (Gives b) (sym h.0) refl
set_gives at b t step (inr (inl e)) = subst (Gives b) (sym e) (refl, refl)
set_gives at b t step (inr (inr (inl e))) = subst (Gives b) (sym e) refl
set_gives at b t step (inr (inr (inr (inl h)))) = subst (Gives b) (sym h.0) refl
set_gives at b t step (inr (inr (inr (inr (inl h))))) = subst (Gives b) (sym h.0) refl
set_gives at b t step (inr (inr (inr (inr (inr h))))) = subst (Gives b) (sym h.0) refl

-- ---- one line

-- a step gives the object at a path before a line or after it
record IsLeft (t u : Files) (step : Step) : Type 0 where
  pub path : Path
  pub plain : has_staging path ≡ false
  pub object : ObjectState
  pub there : (object_states_of (places t) path ≡ Some object) ⊎ (object_states_of (places u) path ≡ Some object)
  pub gives : Gives object step

-- any object will do for a step that gives nothing
root_left : (t u : Files) (step : Step) → IsShaped (object_states_of (places t)) → ((b : ObjectState) → Gives b step) → IsLeft t u step
root_left t u step shape gives = by (object_states_of (places t) []) refl
  where
    by : (o : Option ObjectState) → object_states_of (places t) [] ≡ o → IsLeft t u step
    by None e = impossible (sym (ap is_dir e) ∙ shape.root)
    by (Some x) e = record { path = []; plain = refl; object = x; there = inl e; gives = gives x }

after_left : (t u : Files) (step : Step) (path : Path) → has_staging path ≡ false → (b : ObjectState) → object_states_of (places u) path ≡ Some b → Gives b step → IsLeft t u step
after_left t u step path plain b there gives = record { path = path; plain = plain; object = b; there = inr there; gives = gives }

-- ---- a line that makes something

put_own : (making : Making) (b : Option ObjectState) (subtree : Subtree) → making_turn making b ≡ Turn.Put subtree → subtree [] ≡ Some (object_state_of (new_object making.new 0))
put_own making None subtree e = sym (ap (λ turn. after_turn turn [] None) e)
put_own making (Some x) subtree e = by (does x) (same_kind (object_state_of (new_object making.new 0)).body.kind x.body.kind) e
  where
    does : ObjectState → Bool
    does y = option_map_or (λ test. stays test (object_state_of (new_object making.new 0)).body y.body) making.renew true

    by : (stay same : Bool) → (if not stay then Turn.Put (single (object_state_of (new_object making.new 0))) else if same then Turn.Become making.sets else Turn.Left x.body.kind) ≡ Turn.Put subtree → subtree [] ≡ Some (object_state_of (new_object making.new 0))
    by false same f = sym (ap (λ turn. after_turn turn [] None) f)
    by true true f = absurd (let no : Turn.Become making.sets ≡ Turn.Put subtree = f in cc)
    by true false f = absurd (let no : Turn.Left x.body.kind ≡ Turn.Put subtree = f in cc)

module _ (now : ℕ) (line : Line) (is : IsLine line) (t : Files) (shape : IsShaped (object_states_of (places t))) (quiet : (by_line now).is_refused line t ≡ false) (step : Step) where
  abbrev u : Files
  u = (by_line now).after line t

  abbrev path : Path
  path = path_in line.path

  module _ (making : Making) (e : action_of line ≡ Create making) where
    made : IsMaking making
    made = line_is_making line making e

    unstaged : has_staging path ≡ false
    unstaged = (line_is_plain line is (ap copied e)).unstaged

    point : (q : Path) → has_staging q ≡ false → object_states_of (places u) q ≡ run (operations line q) (object_states_of (places t) q)
    point q plain = (line_point now line (line_is_plain line is (ap copied e)) t shape quiet).point q plain

    turn_is : turn_at now line path t ≡ making_turn making (object_states_of (places t) path)
    turn_is =
        ap (λ (d : Action). if has_something (places t) d then decide d (view_of (found now d path t)) path else Turn.Nothing) e
        ∙ ap (making_turn making) (ready_here now path unstaged t shape)

    comes : (turn : Turn) → turn_at now line path t ≡ turn → object_states_of (places u) path ≡ after_turn turn [] (object_states_of (places t) path)
    comes turn f =
        point path unstaged ∙ ap (λ xs. run xs (object_states_of (places t) path)) (asked_made line making path e ∙ asked_here making path path (same_path-refl path))
        ∙ sym (object_after making made (object_states_of (places t) path)) ∙ ap (λ x. after_turn x [] (object_states_of (places t) path)) (sym turn_is ∙ f)

    parent_comes : (place : Path) → has_staging place ≡ false → is_prefix place path ≡ true → place ≢ path → object_states_of (places t) place ≡ None → object_states_of (places u) place ≡ Some parent_object_state
    parent_comes place plain high other none =
        point place plain
        ∙ ap (λ xs. run xs (object_states_of (places t) place)) (asked_made line making place e ∙ asked_above making path place (by (same_path path place) refl) high)
        ∙ ap (run (Make parent_object_state ∷ [])) none
      where
        by : (c : Bool) → same_path path place ≡ c → c ≡ false
        by true f = absurd (other (sym ((same_path-decides path place).0 f)))
        by false f = refl

    made_left : IsStepOf now line path t step → IsLeft t u step
    made_left (IsStepOf.prepares puts_it (preparing.sweeps removes)) = root_left t u step shape (λ b. removed_gives (is_under_any (staging_names path)) b step removes)
    made_left (IsStepOf.prepares puts_it (preparing.puts place above none (inl gives))) =
        let plain : has_staging place ≡ false = plain_prefix place path above.0 unstaged in
        after_left t u step place plain parent_object_state (parent_comes place plain above.0 above.1 (ap (option_map object_state_of) none)) (new_gives (staging_of place) parent_file step gives)
    made_left (IsStepOf.prepares puts_it (preparing.puts place above none (inr published))) = root_left t u step shape (λ b. published_gives place b step published)
    made_left (IsStepOf.puts other subtree asked put (inl gives)) =
        after_left t u step path unstaged (object_state_of (new_object making.new 0)) (comes (Turn.Put subtree) put ∙ put_own making (object_states_of (places t) path) subtree (sym turn_is ∙ put))
        (new_gives (staging_of path) making.new step (subst (λ (m : Making). GivesNew (staging_of path) m.new step) same gives))
      where
        same : other ≡ making
        same = (let is_both : Create other ≡ Create making = sym asked ∙ e in cc)
    made_left (IsStepOf.puts other subtree asked put (inr published)) = root_left t u step shape (λ b. published_gives path b step published)
    made_left (IsStepOf.copies copying subtree asked put h) = absurd (let no : Copy copying ≡ Create making = sym asked ∙ e in cc)
    made_left (IsStepOf.sets xs becomes_it gives) =
        after_left t u step path unstaged gives.new (
        comes (Turn.Become xs) becomes_it ∙ ap (run xs) (sym (ready_here now path unstaged t shape)) ∙ ap (λ (d : Action). run xs (object_states_of (places (found now d path t)) path)) (sym e) ∙ gives.is)
        (set_gives path gives.new (found now (action_of line) path t) step gives.gives)

  -- ---- a line that copies

  module _ (safe : IsSafe line) (copying : Copying) (e : action_of line ≡ Copy copying) where
    copy_plain : has_staging path ≡ false
    copy_plain = (copy_path line is copying e).0

    turn_is_copy : turn_at now line path t ≡ (if has_something (places t) (Copy copying) then turn_of line copying now t else Turn.Nothing)
    turn_is_copy = ap (λ (d : Action). if has_something (places t) d then decide d (view_of (found now d path t)) path else Turn.Nothing) e

    -- where what it copies is absent nothing is done
    module _ (none : is_some (places t copying.source) ≡ false) where
      idle : (turn : Turn) → turn_at now line path t ≡ turn → Turn.Nothing ≡ turn
      idle turn f = sym (turn_is_copy ∙ ap (λ c. if c then turn_of line copying now t else Turn.Nothing) none) ∙ f

      idle_left : IsStepOf now line path t step → IsLeft t u step
      idle_left (IsStepOf.prepares puts_it prepares) = impossible (sym none ∙ sym (ap (puts_parents (places t)) e) ∙ puts_it)
      idle_left (IsStepOf.puts making subtree asked put h) = absurd (let no : Turn.Nothing ≡ Turn.Put subtree = idle (Turn.Put subtree) put in cc)
      idle_left (IsStepOf.copies other subtree asked put h) = absurd (let no : Turn.Nothing ≡ Turn.Put subtree = idle (Turn.Put subtree) put in cc)
      idle_left (IsStepOf.sets xs becomes_it gives) = absurd (let no : Turn.Nothing ≡ Turn.Become xs = idle (Turn.Become xs) becomes_it in cc)

    module _ (b : ObjectState) (present : object_states_of (places t) copying.source ≡ Some b) where
      turn_there : (turn : Turn) → turn_at now line path t ≡ turn → turn_of line copying now t ≡ turn
      turn_there turn f =
          sym (turn_is_copy ∙ ap (λ c. if c then turn_of line copying now t else Turn.Nothing) (sym (object_state_some (places t copying.source)) ∙ ap is_some present)) ∙ f

      -- what is copied has no staging name below its top
      part_plain : (subtree : Subtree) → turn_of line copying now t ≡ Turn.Put subtree → (rest : Path) (object : ObjectState) → subtree rest ≡ Some object → has_staging rest ≡ false
      part_plain subtree put rest object there = by (view.at copying.source) refl
        where
          view : View
          view = view_of (prepare now path t)

          some_plain : (r : Path) (x : ObjectState) → copy_of copying (view_of (prepare now path t)) r ≡ Some x → has_staging r ≡ false
          some_plain [] x f = refl
          some_plain (name ∷ r) x f = at (has_staging (name ∷ r)) refl f
            where
              at : (c : Bool) → has_staging (name ∷ r) ≡ c → cond c None (object_states_of (places (prepare now path t)) (copying.source ++ name ∷ r)) ≡ Some x → has_staging (name ∷ r) ≡ false
              at true g k = absurd (let no : None ≡ Some x = k in cc)
              at false g k = g

          nothing : view.at copying.source ≡ None → decide (Copy copying) view path ≡ Turn.Nothing
          nothing f = rw f

          at : (x : ObjectState) → view.at copying.source ≡ Some x → IsCopyTurn copying view (copying_turn copying view path x.body.kind (view.at path)) → has_staging rest ≡ false
          at x f (puts g) = some_plain rest object (ap (λ turn. after_turn turn rest None) (sym g ∙ sym (decide_some copying view path x f) ∙ put) ∙ there)
          at x f (becomes g) = absurd (let no : Turn.Become copying.sets ≡ Turn.Put subtree = sym g ∙ sym (decide_some copying view path x f) ∙ put in cc)
          at x f (leaves kind g) = absurd (let no : Turn.Left kind ≡ Turn.Put subtree = sym g ∙ sym (decide_some copying view path x f) ∙ put in cc)

          by : (o : Option ObjectState) → view.at copying.source ≡ o → has_staging rest ≡ false
          by None f = absurd (let no : Turn.Nothing ≡ Turn.Put subtree = sym (nothing f) ∙ put in cc)
          by (Some x) f = at x f (copy_turns copying view path x.body.kind (view.at path))

      copied_left : IsStepOf now line path t step → IsLeft t u step
      copied_left (IsStepOf.prepares puts_it (preparing.sweeps removes)) = root_left t u step shape (λ x. removed_gives (is_under_any (staging_names path)) x step removes)
      copied_left (IsStepOf.prepares puts_it (preparing.puts place above none (inl gives))) =
          let plain : has_staging place ≡ false = plain_prefix place path above.0 copy_plain in
          after_left t u step place plain parent_object_state (comes_above now line safe t shape quiet place plain copying e b present above.0 above.1 ∙ ap (filled true) (ap (option_map object_state_of) none)) (new_gives (staging_of place) parent_file step gives)
      copied_left (IsStepOf.prepares puts_it (preparing.puts place above none (inr published))) = root_left t u step shape (λ x. published_gives place x step published)
      copied_left (IsStepOf.puts making subtree asked put h) = absurd (let no : Create making ≡ Copy copying = sym asked ∙ e in cc)
      copied_left (IsStepOf.copies other subtree asked put (inl staged)) =
          let there = turn_there (Turn.Put subtree) put in
          let plain : has_staging (path ++ staged.rest) ≡ false =
          has_staging-append path staged.rest ∙ ap (λ c. c || has_staging staged.rest) copy_plain ∙ part_plain subtree there staged.rest staged.object staged.is in
          after_left t u step (path ++ staged.rest) plain staged.object
          (comes_inside now line safe t shape quiet (path ++ staged.rest) plain copying e b present staged.rest (rest_under-append path staged.rest) (Turn.Put subtree) there ∙ staged.is)
          (object_state_gives (staging_of path ++ staged.rest) staged.object step staged.gives)
      copied_left (IsStepOf.copies other subtree asked put (inr published)) = root_left t u step shape (λ x. published_gives path x step published)
      copied_left (IsStepOf.sets xs becomes_it gives) =
          after_left t u step path copy_plain gives.new (
          comes_inside now line safe t shape quiet path copy_plain copying e b present [] (rest_under-self path) (Turn.Become xs) (turn_there (Turn.Become xs) becomes_it)
          ∙ ap (run xs) (sym (ready_here now path copy_plain t shape)) ∙ ap (λ (d : Action). run xs (object_states_of (places (found now d path t)) path)) (sym e) ∙ gives.is)
          (set_gives path gives.new (found now (action_of line) path t) step gives.gives)

    copy_left : IsStepOf now line path t step → IsLeft t u step
    copy_left h = by (object_states_of (places t) copying.source) refl
      where
        by : (o : Option ObjectState) → object_states_of (places t) copying.source ≡ o → IsLeft t u step
        by None f = idle_left (sym (object_state_some (places t copying.source)) ∙ ap is_some f) h
        by (Some b) f = copied_left b f h

-- ---- a line that adjusts what is there

-- a line names no staging name
any_holds : {A : Type 0} (f : A → Bool) (c : Bool) → ((x : A) → f x ≡ true → c ≡ true) → (xs : List A) → list_any f xs ≡ true → c ≡ true
any_holds f c each [] h = impossible h
any_holds f c each (x ∷ xs) h = by (f x) refl h (any_holds f c each xs)
  where
    by : (d : Bool) → f x ≡ d → (d || list_any f xs) ≡ true → (list_any f xs ≡ true → c ≡ true) → c ≡ true
    by true e g rest = each x e
    by false e g rest = rest g

pub names_plain : (line : Line) → IsLine line → (p : Path) → names line p ≡ true → has_staging p ≡ false
names_plain line is p named = by line.path refl is.fits.path
  where
    by : (path : LinePath) → line.path ≡ path → IsLinePath is.row path → has_staging p ≡ false
    by (Literal path) e h = ap has_staging (sym ((same_path-decides path p).0 (ap (λ (x : LinePath). names (record line { path = x }) p) (sym e) ∙ named))) ∙ h.1.unstaged
    by (Glob pattern) e h = not-true (has_staging p) (any_holds _ (not (has_staging p)) (λ x g. (and_parts (not (has_staging p)) _ g).0) pattern (ap (λ (x : LinePath). names (record line { path = x }) p) (sym e) ∙ named))

module _ (now : ℕ) (line : Line) (is : IsLine line) (adjustment : Adjustment) (e : action_of line ≡ Adjust adjustment) (adjust : list_all is_adjustment adjustment.sets ≡ true) (step : Step) where
  -- a step gives the object at a path after some turns
  record IsSet (u : Files) : Type 0 where
    pub path : Path
    pub plain : has_staging path ≡ false
    pub object : ObjectState
    pub there : object_states_of (places u) path ≡ Some object
    pub gives : Gives object step

  reached_plain : (p q : Path) → names line p ≡ true → is_adjusted adjustment p q ≡ true → has_staging q ≡ false
  reached_plain p q named h = by (same_path p q) refl h
    where
      by : (c : Bool) → same_path p q ≡ c → (c || (adjustment.deep && is_prefix p q && not (has_staging q))) ≡ true → has_staging q ≡ false
      by true f g = ap has_staging (sym ((same_path-decides p q).0 f)) ∙ names_plain line is p named
      by false f g = not-true (has_staging q) (and_parts (adjustment.deep && is_prefix p q) (not (has_staging q)) g).1

  -- what was set stays, by turns after
  stays_set : (q : Path) (paths : List Path) (old : Option ObjectState) (new : ObjectState) → run adjustment.sets old ≡ Some new → (adjustment.deep ≡ false → times q paths ≡ 0) → set_by_each now adjustment adjust q paths (Some new) ≡ Some new
  stays_set q paths old new f never = by adjustment.deep refl
    where
      again : adjustment.deep ≡ true → run adjustment.sets (Some new) ≡ Some new
      again deep = ap (run adjustment.sets) (sym f) ∙ run-twice adjustment.sets (deep_repeatable line adjustment e deep) old ∙ f

      either : (c : Bool) → run adjustment.sets (Some new) ≡ Some new → set_if now adjustment adjust c (Some new) ≡ Some new
      either true g = g
      either false g = refl

      by : (d : Bool) → adjustment.deep ≡ d → set_by_each now adjustment adjust q paths (Some new) ≡ Some new
      by true deep = set_by_any now adjustment adjust (λ b. run-twice adjustment.sets (deep_repeatable line adjustment e deep) b) q paths (Some new) ∙ either (list_any (λ p. is_adjusted adjustment p q) paths) (again deep)
      by false shallow = set_never now adjustment adjust shallow q paths (Some new) (never shallow)

  never_again : (p q : Path) (paths : List Path) → adjustment.deep ≡ false → is_adjusted adjustment p q ≡ true → times q (p ∷ paths) ≤ 1 → times q paths ≡ 0
  never_again p q paths shallow reached few = let n = ap (λ c. cond c 1 0 + times q paths) (sym (own_path now adjustment adjust shallow p q) ∙ reached) in omega (arith, n, few)

  fewer : (p q : Path) (paths : List Path) → times q (p ∷ paths) ≤ 1 → times q paths ≤ 1
  fewer p q paths few = omega (arith, few)

  turns_set : (paths : List Path) → AllByRecursion (λ p. names line p ≡ true) paths → ((q : Path) → times q paths ≤ 1) → (v : Files) → one_is_refused (by_turn now line) paths v ≡ false
      → IsStepOfSome (adjustment_course now line adjustment) paths v step → IsSet (after_each (by_turn now line) paths v)
  turns_set [] named few v quiet h = absurd h
  turns_set (p ∷ paths) named few v quiet (inl given) =
      let two = first_turn now line p paths v quiet in
      let there : object_states_of (places (turn_after now line p v)) given.at ≡ Some given.gives.new =
      ap (λ (w : Files). object_states_of (places w) given.at) (turn_open now line p v two.0 ∙ ap (λ (d : Action). carried_out now d p v) e)
      ∙ adjust_point now adjustment adjust p v given.at ∙ ap (λ c. cond c (run adjustment.sets (object_states_of (places v) given.at)) (object_states_of (places v) given.at)) given.reached ∙ given.gives.is in
      record {
        path = given.at;
        plain = reached_plain p given.at named.0 given.reached;
        object = given.gives.new;
        there =
            touched_all now adjustment adjust line e paths (turn_after now line p v) two.1 given.at ∙ ap (set_by_each now adjustment adjust given.at paths) there
            ∙ stays_set given.at paths (object_states_of (places v) given.at) given.gives.new given.gives.is (λ shallow. never_again p given.at paths shallow given.reached (few given.at));
        gives = set_gives given.at given.gives.new v step given.gives.gives;
      }
  turns_set (p ∷ paths) named few v quiet (inr later) = turns_set paths named.1 (λ q. fewer p q paths (few q)) (turn_after now line p v) (first_turn now line p paths v quiet).1 later

-- ---- each line

module _ (now : ℕ) (line : Line) (safe : IsSafe line) (t : Files) (shape : IsShaped (object_states_of (places t))) (quiet : (by_line now).is_refused line t ≡ false) (step : Step) where
  adjust_left : (adjustment : Adjustment) → action_of line ≡ Adjust adjustment → IsStepOfSome (adjustment_course now line adjustment) (turns line t) t step → IsLeft t ((by_line now).after line t) step
  adjust_left adjustment e h =
      let set = turns_set now line safe.is adjustment e (adjusts now line adjustment e t shape) step (turns line t)
      (subst (λ (paths : List Path). AllByRecursion (λ p. names line p ≡ true) paths) (sym (turns_adjust line adjustment t e)) (all_tests (names line) (fin.keys t))) few t quiet h in
      after_left t ((by_line now).after line t) step set.path set.plain set.object set.there set.gives
    where
      most_one : (a c : Bool) (n : ℕ) → n ≡ cond a (cond c 1 0) 0 → n ≤ 1
      most_one true true n f = omega (arith, f)
      most_one true false n f = omega (arith, f)
      most_one false c n f = omega (arith, f)

      few : (q : Path) → times q (turns line t) ≤ 1
      few q = most_one (names line q) (is_some (places t q)) (times q (turns line t)) (ap (times q) (turns_adjust line adjustment t e) ∙ once_named now line adjustment e t shape q)

  line_left : IsLineStep now line t step → IsLeft t ((by_line now).after line t) step
  line_left h = by (action_of line) refl (step_of now line t step h)
    where
      by : (d : Action) → action_of line ≡ d → IsStepBy d now line t step → IsLeft t ((by_line now).after line t) step
      by (Create making) e g = made_left now line safe.is t shape quiet step making e g
      by (Copy copying) e g = copy_left now line safe.is t shape quiet step safe copying e g
      by (Adjust adjustment) e g = adjust_left adjustment e g
      by Idle e g = absurd g

-- ---- a run

-- a step gives the object at a path after the first k lines
record IsLeftBy (now : ℕ) (lines : List Line) (t : Files) (step : Step) : Type 0 where
  pub k : ℕ
  pub path : Path
  pub plain : has_staging path ≡ false
  pub object : ObjectState
  pub there : object_states_of (places (after_each (by_line now) (take k lines) t)) path ≡ Some object
  pub gives : Gives object step

lines_left : (now : ℕ) (lines : List Line) → AllByRecursion IsSafe lines → (t : Files) → IsShaped (object_states_of (places t)) → one_is_refused (by_line now) lines t ≡ false → (step : Step)
    → IsStepOfSome (lines_course now) lines t step → IsLeftBy now lines t step
lines_left now [] safe t shape quiet step h = absurd h
lines_left now (line ∷ lines) safe t shape quiet step (inl own) = by left.there
  where
    left : IsLeft t ((by_line now).after line t) step
    left = line_left now line safe.0 t shape (or_parts ((by_line now).is_refused line t) (one_is_refused (by_line now) lines ((by_line now).after line t)) quiet).0 step own

    by : (object_states_of (places t) left.path ≡ Some left.object) ⊎ (object_states_of (places ((by_line now).after line t)) left.path ≡ Some left.object) → IsLeftBy now (line ∷ lines) t step
    by (inl before) = record { k = zero; path = left.path; plain = left.plain; object = left.object; there = before; gives = left.gives }
    by (inr after) = record { k = suc zero; path = left.path; plain = left.plain; object = left.object; there = after; gives = left.gives }
lines_left now (line ∷ lines) safe t shape quiet step (inr later) =
    let two = or_parts ((by_line now).is_refused line t) (one_is_refused (by_line now) lines ((by_line now).after line t)) quiet in
    let left = lines_left now lines safe.1 ((by_line now).after line t) (line_pointed now line safe.0 t shape two.0).shape two.1 step later in
    record { k = suc left.k; path = left.path; plain = left.plain; object = left.object; there = left.there; gives = left.gives }

module _ (table : List Line) (are : AllByRecursion IsLine table) where
  pub step_given : (now : ℕ) (t : Files) → IsTree t → (s : ObjectStates) → IsRepeatable table → RefusesNoLine table now t → Agree s t → (step : Step) → IsStepOfSome (lines_course now) (in_create_order table) t step → IsGiven table s step
  step_given now t tree s repeatable quiet agree step g =
      let left = lines_left now (in_create_order table) (all_safe table are repeatable) t (tree_shaped (places t) tree) quiet step g in
      record {
        k = left.k;
        path = left.path;
        object = left.object;
        there = state_after table (all_safe table are repeatable) now s t tree quiet agree left.k left.path left.plain ∙ left.there;
        gives = left.gives;
      }

  pub given : (P : Files → Type 0) (now : ℕ) (t : Files) (h : List Step) (u : Files) (k : List Step) → IsTree t → Ran P (IsStepOfSome (lines_course now) (in_create_order table) t) now t h u k
      → GiveWhatLinesLeave table now t (drop (length h) k)
  given P now t h u k tree run =
      subst (λ (steps : List Step). GiveWhatLinesLeave table now t steps) (sym (ap (drop (length h)) run.recorded ∙ drop-append_seam h run.steps)) (λ s repeatable quiet agree.
      all_map (IsStepOfSome (lines_course now) (in_create_order table) t) (IsGiven table s) (step_given now t tree s repeatable quiet agree) run.steps run.gives)
