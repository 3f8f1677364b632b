-- A run of lines none of which may change what lines are read from leaves presence, kind and payload at each input path,
-- staging names included: where a folder from which lines are read is there, no step of the run brings, takes away or
-- rewrites anything below it under a staging name; if it is absent it stays so, and all below it.
use Rattle.std.specs.Prelude.{◌≡◌, ◌≢◌, ◌⊎◌, ℕ, Bool, true, false, not, ◌&&◌, ◌||◌, List, [], ◌∷◌, filter, Option, Some, None, is_some, option_map}
use Rattle.std.proofs.Common.{refl, sym, ap, subst, ◌∙◌, inl, inr}
use Rattle.std.specs.FinMap as fin
use Rattle.std.specs.List.{list_any, list_all, AllByRecursion}
use Rattle.std.proofs.lemmas.Bool.{not-true, and_parts}
use Rattle.pv_path.specs.Paths.{Path, has_names, has_staging, is_prefix, same_path, same_path-decides}
use Rattle.pv_path.proofs.PathLaws.{prefix_parts}
use Rattle.pv_steps.specs.declared.object.Object.{Object}
use Rattle.pv_steps.specs.declared.step.Step.{Step}
use Rattle.pv_steps.specs.Content.{content_of, alters}
use Rattle.pv_steps.specs.Runs.{after_all}
use Rattle.pv_steps.specs.Trees.{Files, places, IsTree, IsAbsentIn}
use Rattle.pv_steps.proofs.ContentLaws.{content-after_all, removal_inside}
use Rattle.pv_steps.proofs.TreeLaws.{present_above}
use Rattle.pv_walk.specs.declared.object_state.ObjectState.{ObjectState}
use Rattle.pv_walk.specs.declared.operation.Operation.{Operation}
use Rattle.pv_walk.specs.SettingMetadata.{GivesMetadata}
use Rattle.pv_walk.specs.Nodes.{object_state_of, object_states_of}
use Rattle.pv_lines.specs.declared.line.Line.{Line}
use Rattle.pv_lines.specs.Lines.{IsLine}
use Rattle.pv_walk.specs.Copying.{Subtree}
use Rattle.pv_walk.specs.Preparing.{IsPrepareStep, parent_file}
use Rattle.pv_walk.specs.Preparing as preparing
use Rattle.pv_walk.specs.Putting.{IsPutStep}
use Rattle.pv_walk.specs.Staging.{staging_names, is_under_any}
use Rattle.pv_table.specs.declared.action.Copying.{Copying}
use Rattle.pv_table.specs.declared.action.Action.{Action}
use Rattle.pv_table.specs.declared.action.Action.TheVariants.{Create, Copy, Adjust, Idle}
use Rattle.pv_table.specs.declared.action.Making.{Making}
use Rattle.pv_table.specs.declared.action.Adjustment.{Adjustment}
use Rattle.pv_table.specs.declared.reason.Reason.TheVariants as reason
use Rattle.pv_table.specs.Active.{in_create_order}
use Rattle.pv_table.specs.ActionTable.{action_of}
use Rattle.pv_table.specs.Created.{by_line}
use Rattle.pv_table.specs.Effects.{is_adjusted, turn_after}
use Rattle.pv_table.specs.Reaching.{governs, names, path_in}
use Rattle.pv_layers.specs.Places.{inputs, is_input}
use Rattle.pv_table.specs.Repeatable.{HasReason}
use Rattle.pv_table.specs.Saying.{found}
use Rattle.pv_table.specs.Turns.{Turn, copied}
use Rattle.pv_steps.specs.Courses.{Partway, IsStepOfSome}
use Rattle.pv_create.specs.Adjusting.{GivesBytes, GivesSet}
use Rattle.pv_create.specs.OnTheWay.{IsStepOf, turn_at, IsLineStep, lines_course}
use Rattle.pv_laws.proofs.AllFrames.{not_above, not_below, each_kept}
use Rattle.pv_laws.proofs.Frames.{IsFree, ungoverned, creates, midway_frame}
use Rattle.pv_laws.proofs.Lines.{copy_path, line_is_plain, turns_adjust}
use Rattle.pv_laws.proofs.Making.{IsShaped, dir_there}
use Rattle.pv_table.proofs.ListedLaws.{all_in_order, all_map, all_tests}
use Rattle.pv_laws.proofs.Sets.{impossible}
use Rattle.pv_laws.proofs.Shapes.{tree_shaped}
use Rattle.pv_create.proofs.LineWays.{IsStepBy, step_of, adjustment_course}
use Rattle.pv_create.proofs.BesideLaws.{object_state_outside, new_outside, other_plain, out_above, place_outside, published_outside, swept_outside}
use Rattle.pv_create.proofs.BridgeLaws.{gone_at}
use Rattle.pv_create.proofs.InputLaws.{IsAway, all_away, copy_changes, held, input_on_way, made_changes, whole_held}
use Rattle.pv_create.proofs.StepLaws.{names_plain}
use Rattle.pv_path.proofs.Tests.{true_not_false}

-- what is there, by what reading can see of it
pub held_some : (o : Option ObjectState) → is_some (held o) ≡ is_some o
held_some None = refl
held_some (Some b) = refl

-- ---- one line

module _ (f q : Path) (plain : has_staging f ≡ false) (under : is_prefix f q ≡ true) (staged : has_staging q ≡ true) (step : Step) where
  -- what is set of an object without a staging name
  set_outside : (at : Path) → has_staging at ≡ false → (xs : List Operation) (t : Files) → GivesSet at xs t step → alters step q ≡ false
  set_outside at own xs t given = by given.gives
    where
      by : GivesBytes at given.new.body.payload t step ⊎ GivesMetadata at given.new.metadata t step → alters step q ≡ false
      by (inl h) = subst (λ (x : Step). alters x q ≡ false) (sym h.0) (other_plain f q plain under staged at own)
      by (inr (inl e)) = subst (λ (x : Step). alters x q ≡ false) (sym e) refl
      by (inr (inr (inl e))) = subst (λ (x : Step). alters x q ≡ false) (sym e) refl
      by (inr (inr (inr (inl h)))) = subst (λ (x : Step). alters x q ≡ false) (sym h.0) refl
      by (inr (inr (inr (inr (inl h))))) = subst (λ (x : Step). alters x q ≡ false) (sym h.0) refl
      by (inr (inr (inr (inr (inr h))))) = subst (λ (x : Step). alters x q ≡ false) (sym h.0) refl

  module _ (now : ℕ) (line : Line) (is : IsLine line) where
    -- a line that adjusts what is there reaches no staging name
    reached_plain : (adjustment : Adjustment) (p at : Path) → names line p ≡ true → is_adjusted adjustment p at ≡ true → has_staging at ≡ false
    reached_plain adjustment p at named h = by (same_path p at) refl h
      where
        by : (c : Bool) → same_path p at ≡ c → (c || (adjustment.deep && is_prefix p at && not (has_staging at))) ≡ true → has_staging at ≡ false
        by true e g = ap has_staging (sym ((same_path-decides p at).0 e)) ∙ names_plain line is p named
        by false e g = not-true (has_staging at) (and_parts (adjustment.deep && is_prefix p at) (not (has_staging at)) g).1

    touched_outside : (adjustment : Adjustment) (paths : List Path) → AllByRecursion (λ p. names line p ≡ true) paths → (t : Files) → IsStepOfSome (adjustment_course now line adjustment) paths t step → alters step q ≡ false
    touched_outside adjustment [] named t h = absurd h
    touched_outside adjustment (p ∷ paths) named t (inl given) = set_outside given.at (reached_plain adjustment p given.at named.0 given.reached) adjustment.sets t given.gives
    touched_outside adjustment (p ∷ paths) named t (inr later) = touched_outside adjustment paths named.1 (turn_after now line p t) later

    module _ (t : Files) (shape : IsShaped (object_states_of (places t))) (there : is_some (object_states_of (places t) f) ≡ true) where
      abbrev path : Path
      path = path_in line.path

      -- a place that is absent does not lie above the folder
      absent_outside : (place : Path) → IsAbsentIn (places t) place → is_prefix place f ≡ true → ⊥
      absent_outside place none high = by (same_path place f) refl
        where
          gone : is_some (object_states_of (places t) place) ≡ false
          gone = ap (λ (o : Option Object). is_some (option_map object_state_of o)) none

          by : (b : Bool) → same_path place f ≡ b → ⊥
          by true e = true_not_false (is_some (object_states_of (places t) f)) there (subst (λ (p : Path). is_some (object_states_of (places t) p) ≡ false) ((same_path-decides place f).0 e) gone)
          by false e = true_not_false (is_some (object_states_of (places t) place))
              (dir_there (object_states_of (places t) place) (shape.above place f plain high (λ same. true_not_false (same_path place f) ((same_path-decides place f).1 same) e) there)) gone

      prepares_outside : is_prefix f path ≡ false → IsPrepareStep path t step → alters step q ≡ false
      prepares_outside out (preparing.sweeps removes) = removal_inside (is_under_any (staging_names path)) step q removes (swept_outside f q plain under staged path out)
      prepares_outside out (preparing.puts place above none given) = by given
        where
          some : place ≢ []
          some e = absent_outside place none (subst (λ (p : Path). is_prefix p f ≡ true) (sym e) refl)

          off : is_prefix f place ≡ false
          off = out_above f q plain under staged path out place above.0

          by : IsPutStep place parent_file step → alters step q ≡ false
          by (inl gives) = new_outside f q plain under staged place some off parent_file step gives
          by (inr published) = published_outside f q plain under staged place some off (place_outside f q plain under staged place off (absent_outside place none)) step published

      -- nor does the path of a line at which something is put
      not_root : (is_prefix path f ≡ true → ⊥) → path ≢ []
      not_root high e = high (subst (λ (p : Path). is_prefix p f ≡ true) (sym e) refl)

      made_outside : (making : Making) → action_of line ≡ Create making → governs line f ≡ false → IsStepOf now line path t step → alters step q ≡ false
      made_outside making e away = by
        where
          free : IsFree line f
          free = ungoverned line f away

          unstaged : has_staging path ≡ false
          unstaged = (line_is_plain line is (ap copied e)).unstaged

          out : is_prefix f path ≡ false
          out = sym (ap (λ b. b && is_prefix f path) (creates line is f free making e)) ∙ free.no_parent

          high : (subtree : Subtree) → turn_at now line path t ≡ Turn.Put subtree → is_prefix path f ≡ true → ⊥
          high subtree put above = true_not_false (is_some (object_states_of (places t) f)) there (ap is_some (sym (
              midway_frame line is f plain away (object_states_of (places t) f) None (gone_at now line making e unstaged t shape subtree put f plain above None refl))))

          by : IsStepOf now line path t step → alters step q ≡ false
          by (IsStepOf.prepares some given) = prepares_outside out given
          by (IsStepOf.puts other subtree asked put (inl gives)) = new_outside f q plain under staged path (not_root (high subtree put)) out other.new step gives
          by (IsStepOf.puts other subtree asked put (inr published)) =
              published_outside f q plain under staged path (not_root (high subtree put)) out (place_outside f q plain under staged path out (high subtree put)) step published
          by (IsStepOf.copies copying subtree asked put h) = absurd (let no : Copy copying ≡ Create making = sym asked ∙ e in cc)
          by (IsStepOf.sets xs becomes given) = set_outside path unstaged xs (found now (action_of line) path t) given

      copied_outside : (copying : Copying) → action_of line ≡ Copy copying → governs line f ≡ false → IsStepOf now line path t step → alters step q ≡ false
      copied_outside copying e away = by
        where
          out : is_prefix f path ≡ false
          out = not_above line is copying e f (ungoverned line f away)

          high : is_prefix path f ≡ true → ⊥
          high above = true_not_false (is_prefix path f) above (not_below line is copying e f (ungoverned line f away))

          by : IsStepOf now line path t step → alters step q ≡ false
          by (IsStepOf.prepares some given) = prepares_outside out given
          by (IsStepOf.puts making subtree asked put h) = absurd (let no : Create making ≡ Copy copying = sym asked ∙ e in cc)
          by (IsStepOf.copies other subtree asked put (inl part)) = object_state_outside f q plain under staged path (not_root high) out part.rest part.object step part.gives
          by (IsStepOf.copies other subtree asked put (inr published)) = published_outside f q plain under staged path (not_root high) out (place_outside f q plain under staged path out high) step published
          by (IsStepOf.sets xs becomes given) = set_outside path (copy_path line is copying e).0 xs (found now (action_of line) path t) given

      line_outside : IsAway line → is_input f ≡ true → has_names f ≡ true → IsLineStep now line t step → alters step q ≡ false
      line_outside away input named h = by (action_of line) refl (step_of now line t step h)
        where
          by : (d : Action) → action_of line ≡ d → IsStepBy d now line t step → alters step q ≡ false
          by (Create making) e g = made_outside making e (away (made_changes now line is making e) f input named) g
          by (Copy copying) e g = copied_outside copying e (away (copy_changes now line is copying e) f input named) g
          by (Adjust adjustment) e g =
              touched_outside adjustment (filter (names line) (fin.keys t)) (all_tests (names line) (fin.keys t)) t
              (subst (λ (paths : List Path). IsStepOfSome (adjustment_course now line adjustment) paths t step) (turns_adjust line adjustment t e) g)
          by Idle e g = absurd g

  -- ---- lines one after the other

  module _ (now : ℕ) (input : is_input f ≡ true) (named : has_names f ≡ true) where
    pub lines_outside : (lines : List Line) → AllByRecursion IsLine lines → AllByRecursion IsAway lines → (t : Files) → IsShaped (object_states_of (places t)) → is_some (object_states_of (places t) f) ≡ true
        → IsStepOfSome (lines_course now) lines t step → alters step q ≡ false
    lines_outside [] are away t shape there h = absurd h
    lines_outside (line ∷ lines) are away t shape there (inl own) = line_outside now line are.0 t shape there away.0 input named own
    lines_outside (line ∷ lines) are away t shape there (inr later) =
        lines_outside lines are.1 away.1 ((by_line now).after line t) (each_kept now line are.0 t shape).shape
        (sym (held_some (object_states_of (places ((by_line now).after line t)) f)) ∙ ap is_some (whole_held now line are.0 away.0 f input named plain t shape) ∙ held_some (object_states_of (places t) f) ∙ there)
        later

-- ---- runs

-- some of the paths that pass a test lies above a path
above_of : (test : Path → Bool) (q : Path) (paths : List Path) → list_all test paths ≡ true → list_any (λ p. is_prefix p q) paths ≡ true → (f : Path) × ((test f ≡ true) × (is_prefix f q ≡ true))
above_of test q [] all any = impossible any
above_of test q (p ∷ paths) all any = by (is_prefix p q) refl any (above_of test q paths two.1)
  where
    two : (test p ≡ true) × (list_all test paths ≡ true)
    two = and_parts (test p) (list_all test paths) all

    by : (b : Bool) → is_prefix p q ≡ b → (b || list_any (λ r. is_prefix r q) paths) ≡ true
        → (list_any (λ r. is_prefix r q) paths ≡ true → (f : Path) × ((test f ≡ true) × (is_prefix f q ≡ true))) → (f : Path) × ((test f ≡ true) × (is_prefix f q ≡ true))
    by true e h rest = (p, (two.0, e))
    by false e h rest = rest h

-- a folder from which lines are read, with a path of names none of which is a staging name
abbrev is_folder : Path → Bool
is_folder f = is_input f && (has_names f && not (has_staging f))

-- a step alters nothing under a staging name below a folder that is there, and from which lines are read
abbrev pub IsOutsideFolders : Files → Step → Type 0
IsOutsideFolders t step = (f q : Path) → has_staging f ≡ false → is_prefix f q ≡ true → has_staging q ≡ true → is_input f ≡ true → has_names f ≡ true → is_input q ≡ true → has_names q ≡ true
    → is_some (object_states_of (places t) f) ≡ true → alters step q ≡ false

-- steps that leave what lines are read from if there is not a staging name, and alter nothing under one below folders, leave
-- it everywhere
module _ (now : ℕ) (t : Files) (tree : IsTree t) (steps : List Step) (there : IsTree (after_all t steps now)) where
  module _ (leaves : (q : Path) → is_input q ≡ true → has_staging q ≡ false → content_of (places (after_all t steps now) q) ≡ content_of (places t q)) (out : AllByRecursion (IsOutsideFolders t) steps) where
    -- what is absent where a folder is absent
    nothing : (v : Files) → IsTree v → (f q : Path) → is_prefix f q ≡ true → content_of (places v f) ≡ None → content_of (places v q) ≡ None
    nothing v is f q under none = at (places v q) refl
      where
        no_content : (o : Option Object) → content_of o ≡ None → is_some o ≡ false
        no_content None e = refl
        no_content (Some x) e = cc

        at : (o : Option Object) → places v q ≡ o → content_of o ≡ None
        at None e = refl
        at (Some x) e =
            let parts = prefix_parts f q under in
            absurd (true_not_false (is_some (places v f)) (present_above (places v) is f parts.0 (subst (λ (p : Path). is_some (places v p) ≡ true) parts.1 (ap is_some e))) (no_content (places v f) none))

    -- no tree has anything at a path that has no names
    unnamed : (v : Files) → IsTree v → (q : Path) → has_names q ≡ false → content_of (places v q) ≡ None
    unnamed v is q none = at (places v q) refl
      where
        at : (o : Option Object) → places v q ≡ o → content_of o ≡ None
        at None e = refl
        at (Some x) e = absurd (true_not_false (has_names q) (is.names q (ap is_some e)) none)

    below : (q : Path) → is_input q ≡ true → has_names q ≡ true → has_staging q ≡ true → (f : Path) → is_folder f ≡ true → is_prefix f q ≡ true → content_of (places (after_all t steps now) q) ≡ content_of (places t q)
    below q input named staged f folder under = at (places t f) refl
      where
        own : is_input f ≡ true
        own = (and_parts (is_input f) (has_names f && not (has_staging f)) folder).0

        rest : (has_names f ≡ true) × (not (has_staging f) ≡ true)
        rest = and_parts (has_names f) (not (has_staging f)) (and_parts (is_input f) (has_names f && not (has_staging f)) folder).1

        plain : has_staging f ≡ false
        plain = not-true (has_staging f) rest.1

        at : (o : Option Object) → places t f ≡ o → content_of (places (after_all t steps now) q) ≡ content_of (places t q)
        at None e = nothing (after_all t steps now) there f q under (leaves f own plain ∙ ap content_of e) ∙ sym (nothing t tree f q under (ap content_of e))
        at (Some x) e = content-after_all t steps now q
            (all_map (IsOutsideFolders t) (λ step. alters step q ≡ false)
            (λ step outside. outside f q plain under staged own rest.0 input named (ap (λ (o : Option Object). is_some (option_map object_state_of o)) e))
            steps out)

    pub all_input_left : (q : Path) → is_input q ≡ true → content_of (places (after_all t steps now) q) ≡ content_of (places t q)
    all_input_left q input = by (has_staging q) refl (has_names q) refl
      where
        by : (b : Bool) → has_staging q ≡ b → (n : Bool) → has_names q ≡ n → content_of (places (after_all t steps now) q) ≡ content_of (places t q)
        by false e n m = leaves q input e
        by true e true m = let above = above_of is_folder q inputs refl input in below q input m e above.0 above.1.0 above.1.1
        by true e false m = unnamed (after_all t steps now) there q m ∙ sym (unnamed t tree q m)

module _ (lines : List Line) (are : AllByRecursion IsLine lines) (free : (i : ℕ) → HasReason lines i reason.Input → ⊥) (now : ℕ) (t : Files) (tree : IsTree t) where
  -- at each moment on the way that was reached by steps of the lines
  pub input_after : (steps : List Step) → IsTree (after_all t steps now) → Partway (lines_course now) (in_create_order lines) t (after_all t steps now) → AllByRecursion (IsStepOfSome (lines_course now) (in_create_order lines) t) steps
      → (q : Path) → is_input q ≡ true → content_of (places (after_all t steps now) q) ≡ content_of (places t q)
  input_after steps there way gives = all_input_left now t tree steps there
      (λ q input plain. input_on_way lines are free now t (after_all t steps now) tree there way q input plain)
      (all_map (IsStepOfSome (lines_course now) (in_create_order lines) t) (IsOutsideFolders t)
      (λ step given f q plain under staged own named input within found. lines_outside f q plain under staged step now own named (in_create_order lines) (all_in_order IsLine lines are) (all_away lines are free) t (tree_shaped (places t) tree) found given)
      steps gives)
