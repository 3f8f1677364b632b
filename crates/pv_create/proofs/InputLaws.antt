-- A run of lines none of which may change what lines are read from leaves presence, kind and payload at each input path
-- without a staging name, at every moment on its way, whatever is refused.
use Rattle.std.specs.Prelude.{◌≡◌, ℕ, zero, suc, ◌+◌, ◌==◌, Bool, true, false, cond, ◌&&◌, ◌||◌, List, [], ◌∷◌, take, find, slice_get, Option, Some, None, is_some, option_map, ⊤}
use Rattle.std.proofs.Common.{refl, sym, ap, subst, ◌∙◌, arith, inl, inr}
use Rattle.std.proofs.lemmas.Bool.Decides.{nat_tests}
use Rattle.std.proofs.lemmas.List.Folds.{list_all-append}
use Rattle.std.specs.List.{list_any, list_all, AllByRecursion}
use Rattle.std.specs.Option.{option_map_or}
use Rattle.std.proofs.lemmas.Bool.{and_parts}
use Rattle.pv_path.specs.Paths.{has_names, Path, has_staging}
use Rattle.pv_steps.specs.declared.node.Kind.{Kind}
use Rattle.pv_steps.specs.declared.node.Kind.TheVariants.{Directory}
use Rattle.pv_steps.specs.declared.object.Object.{Object}
use Rattle.pv_steps.specs.Content.{content_of}
use Rattle.pv_steps.specs.Trees.{Files, places, IsTree}
use Rattle.pv_walk.specs.declared.object_state.ObjectState.{ObjectState}
use Rattle.pv_walk.specs.declared.operation.Change.{Change}
use Rattle.pv_walk.specs.declared.operation.Change.TheVariants.{Write, Append, Owner, Mode, Entries, Attrs, Letters}
use Rattle.pv_walk.specs.declared.operation.Guard.{Guard}
use Rattle.pv_walk.specs.declared.operation.Guard.TheVariants.{Every, Only}
use Rattle.pv_walk.specs.declared.operation.Operation.{Operation}
use Rattle.pv_walk.specs.declared.operation.Operation.TheVariants.{Make, Renew, Erase, Apply}
use Rattle.pv_walk.specs.Dividing.{base_line, parts_of, parts}
use Rattle.pv_walk.specs.Nodes.{object_state_of, object_states_of, carries_letters, is_link}
use Rattle.pv_walk.specs.Operations.{admits, changed, done, run}
use Rattle.pv_walk.specs.Reasons.{is_base}
use Rattle.pv_walk.proofs.OperationLaws.{object_states_of-same}
use Rattle.pv_acl.specs.declared.line.How.TheVariants.{Add}
use Rattle.pv_lines.specs.declared.line.Argument.{Argument}
use Rattle.pv_lines.specs.declared.line.Argument.TheVariants as argument
use Rattle.pv_lines.specs.declared.line.Line.{Line}
use Rattle.pv_lines.specs.declared.line.LineMode.{LineMode}
use Rattle.pv_lines.specs.declared.line.LinePath.{LinePath}
use Rattle.pv_lines.specs.Lines.{IsLine}
use Rattle.pv_table.specs.declared.action.Copying.{Copying}
use Rattle.pv_table.specs.declared.action.Action.{Action}
use Rattle.pv_table.specs.declared.action.Action.TheVariants.{Create, Copy, Adjust, Idle}
use Rattle.pv_table.specs.declared.action.Making.{Making}
use Rattle.pv_table.specs.declared.reason.Reason.TheVariants as reason
use Rattle.pv_table.specs.Active.{in_create_order}
use Rattle.pv_table.specs.Asked.{operations}
use Rattle.pv_table.specs.Pointwise.{adjusts_path}
use Rattle.pv_table.specs.ActionTable.{action_of, actions, is_writing, mode_to_set, owners_and_mode, set_by, taking_of, without_links}
use Rattle.pv_table.specs.Created.{by_line}
use Rattle.pv_table.specs.Reaching.{governs, is_creating}
use Rattle.pv_layers.specs.Places.{is_input}
use Rattle.pv_table.specs.Repeatable.{HasReason, IsAt, changes_content, takes_named}
use Rattle.pv_steps.specs.Courses.{Partway}
use Rattle.pv_laws.specs.Copying.{OnWayOf, copy_before, copy_done, other}
use Rattle.pv_laws.specs.Stopping.{IsMidway}
use Rattle.pv_laws.proofs.AllFrames.{each_kept, way_frame}
use Rattle.pv_laws.proofs.Lines.{copy_literal, made_literal, asked_idle, asked_adjustment}
use Rattle.pv_laws.proofs.Making.{nothing_unnamed, IsShaped}
use Rattle.pv_table.proofs.ListedLaws.{all_in_order}
use Rattle.pv_laws.proofs.Sets.{impossible}
use Rattle.pv_laws.proofs.Shapes.{tree_shaped}
use Rattle.pv_create.specs.OnTheWay.{lines_course}
use Rattle.pv_create.proofs.BridgeLaws.{line_way, line_whole}
use Rattle.pv_path.proofs.Tests.{true_not_false}

-- ---- what reading can see of an object without timestamps

abbrev pub held : Option ObjectState → Option (Kind × List ℕ)
held b = option_map (λ (x : ObjectState). (x.body.kind, x.body.payload)) b

pub held_of : (o : Option Object) → content_of o ≡ held (option_map object_state_of o)
held_of None = refl
held_of (Some o) = refl

-- ---- operations that leave it

abbrev keeps_change : Change → Bool
keeps_change (Write bytes) = false
keeps_change (Append bytes) = false
keeps_change (Owner uid gid) = true
keeps_change (Mode mode masked) = true
keeps_change (Entries line how) = true
keeps_change (Attrs attrs) = true
keeps_change (Letters how letters) = true

abbrev keeps : Operation → Bool
keeps (Make b) = false
keeps (Renew test b) = false
keeps Erase = false
keeps (Apply guard change) = keeps_change change

changed_held : (kind : Kind) (change : Change) → keeps_change change ≡ true → (b : ObjectState) → held (Some (changed kind change b)) ≡ held (Some b)
changed_held kind (Write bytes) h b = impossible h
changed_held kind (Append bytes) h b = impossible h
changed_held kind (Owner uid gid) h b = refl
changed_held kind (Mode mode masked) h b = refl
changed_held kind (Entries line how) h b = refl
changed_held kind (Attrs attrs) h b = by (is_link kind) refl
  where
    by : (t : Bool) → is_link kind ≡ t → held (Some (changed kind (Attrs attrs) b)) ≡ held (Some b)
    by true e = rw e refl
    by false e = rw e refl
changed_held kind (Letters how letters) h b = by (carries_letters kind) refl
  where
    by : (t : Bool) → carries_letters kind ≡ t → held (Some (changed kind (Letters how letters) b)) ≡ held (Some b)
    by true e = rw e refl
    by false e = rw e refl

done_held : (x : Operation) → keeps x ≡ true → (o : Option ObjectState) → held (done x o) ≡ held o
done_held (Make n) h o = impossible h
done_held (Renew test n) h o = impossible h
done_held Erase h o = impossible h
done_held (Apply guard change) h None = refl
done_held (Apply guard change) h (Some b) =
    elim (admits guard b.body.kind) as (λ t. held (Some (cond t (changed b.body.kind change b) b)) ≡ held (Some b)) [
      | true ↦ changed_held b.body.kind change h b
      | false ↦ refl
    ]

run_held : (xs : List Operation) → list_all keeps xs ≡ true → (o : Option ObjectState) → held (run xs o) ≡ held o
run_held [] h o = refl
run_held (x ∷ xs) h o = let two = and_parts (keeps x) (list_all keeps xs) h in run_held xs two.1 (done x o) ∙ done_held x two.0 o

one_part : (x : Operation) → keeps x ≡ true → list_all keeps (parts_of x) ≡ true
one_part (Make n) h = impossible h
one_part (Renew test n) h = impossible h
one_part Erase h = impossible h
one_part (Apply guard (Write bytes)) h = impossible h
one_part (Apply guard (Append bytes)) h = impossible h
one_part (Apply guard (Owner uid gid)) h = refl
one_part (Apply guard (Mode mode masked)) h = refl
one_part (Apply guard (Entries line how)) h =
    elim (list_any is_base line.access) as (λ t. list_all keeps (cond t (Apply guard (Entries (base_line line) Add) ∷ Apply guard (Entries line how) ∷ []) (Apply guard (Entries line how) ∷ [])) ≡ true) [
      | true ↦ refl
      | false ↦ refl
    ]
one_part (Apply guard (Attrs attrs)) h = refl
one_part (Apply guard (Letters how letters)) h = refl

parts_keep : (xs : List Operation) → list_all keeps xs ≡ true → list_all keeps (parts xs) ≡ true
parts_keep [] h = refl
parts_keep (x ∷ xs) h =
    let two = and_parts (keeps x) (list_all keeps xs) h in
    list_all-append keeps (parts_of x) (parts xs) ∙ ap (λ b. b && list_all keeps (parts xs)) (one_part x two.0) ∙ parts_keep xs two.1

front_keeps : (k : ℕ) (xs : List Operation) → list_all keeps xs ≡ true → list_all keeps (take k xs) ≡ true
front_keeps zero xs h = refl
front_keeps (suc k) [] h = refl
front_keeps (suc k) (x ∷ xs) h = let two = and_parts (keeps x) (list_all keeps xs) h in ap (λ b. b && list_all keeps (take k xs)) two.0 ∙ front_keeps k xs two.1

-- in front parts
abbrev KeepsHeld : List Operation → Type 0
KeepsHeld xs = (k : ℕ) (b : Option ObjectState) → held (run (take k (parts xs)) b) ≡ held b

keeps_held : (xs : List Operation) → list_all keeps xs ≡ true → KeepsHeld xs
keeps_held xs h = λ k b. run_held (take k (parts xs)) (front_keeps k (parts xs) (parts_keep xs h)) b

-- ---- lines that write nothing

-- what is proved of each row of the table by its letter holds of what a line asks for
find_lettered : (P : Action → Type 0) (line : Line) (rows : List (ℕ × (Line → Action))) → AllByRecursion (λ row. (row.0 == line.letter) ≡ true → P (row.1 line)) rows → P Idle
    → P (option_map_or (λ row. row.1 line) (find (λ row. row.0 == line.letter) rows) Idle)
find_lettered P line [] each none = none
find_lettered P line (row ∷ rows) each none = by (row.0 == line.letter) refl each.0 (find_lettered P line rows each.1 none)
  where
    by : (b : Bool) → (row.0 == line.letter) ≡ b → ((row.0 == line.letter) ≡ true → P (row.1 line)) → P (option_map_or (λ (r : ℕ × (Line → Action)). r.1 line) (find (λ r. r.0 == line.letter) rows) Idle)
        → P (option_map_or (λ (r : ℕ × (Line → Action)). r.1 line) (cond b (Some row) (find (λ r. r.0 == line.letter) rows)) Idle)
    by true e own rest = own e
    by false e own rest = rest

-- where objects that are there are adjusted, nothing is written
abbrev WritesNothing : Action → Type 0
WritesNothing (Create making) = ⊤
WritesNothing (Copy copying) = ⊤
WritesNothing (Adjust adjustment) = list_all keeps adjustment.sets ≡ true
WritesNothing Idle = ⊤

mode_keeps : (mode : Option LineMode) (guard : Option Guard) → list_all keeps (mode_to_set mode guard) ≡ true
mode_keeps None guard = refl
mode_keeps (Some mode) None = refl
mode_keeps (Some mode) (Some guard) = elim mode.new_only as (λ b. list_all keeps (cond b [] (Apply guard (Mode mode.value mode.masked) ∷ [])) ≡ true) [ true ↦ refl | false ↦ refl ]

owners_keep : (guard : Guard) (line : Line) → list_all keeps (owners_and_mode guard line) ≡ true
owners_keep guard line = mode_keeps line.mode (without_links guard)

argument_keeps : (plus : Bool) (a : Argument) → list_all keeps (set_by plus a) ≡ true
argument_keeps plus (argument.FileBytes bytes) = refl
argument_keeps plus (argument.WriteBytes bytes) = refl
argument_keeps plus (argument.Target target) = refl
argument_keeps plus (argument.Source source) = refl
argument_keeps plus (argument.Device major minor) = refl
argument_keeps plus (argument.Entries entries) = refl
argument_keeps plus (argument.Attrs attrs) = refl
argument_keeps plus (argument.Letters how letters) = refl
argument_keeps plus argument.Ignored = refl

no_letter : (line : Line) → is_writing line ≡ false → (119 == line.letter) ≡ true → ⊥
no_letter line dry e = let same : line.letter ≡ 119 = grind (arith, nat_tests) in true_not_false (is_writing line) (ap (λ n. n == 119) same) dry

writes_nothing : (line : Line) → is_writing line ≡ false → WritesNothing (action_of line)
writes_nothing line dry = find_lettered WritesNothing line actions (
  (λ e. tt),
  (
    (λ e. tt),
    (
      (λ e. tt),
      (
        (λ e. tt),
        (
          (λ e. tt),
          (
            (λ e. tt),
            (
              (λ e. tt),
              (
                (λ e. tt),
                (
                  (λ e. tt),
                  (
                    (λ e. tt),
                    (
                      (λ e. tt),
                      (
                        (λ e. absurd (no_letter line dry e)),
                        (
                          (λ e. owners_keep (Only Directory) line),
                          (
                            (λ e. owners_keep Every line),
                            (
                              (λ e. owners_keep Every line),
                              (set, (set, (set, (set, (set, (set, tt)))))),
                            ),
                          ),
                        ),
                      ),
                    ),
                  ),
                ),
              ),
            ),
          ),
        ),
      ),
    ),
  ),
) tt
  where
    set : {A : Type 0} → A → list_all keeps (set_by line.plus line.argument) ≡ true
    set e = argument_keeps line.plus line.argument

-- ---- one line

-- a line that may change what is read governs no input path that can stand in a tree
abbrev pub IsAway : Line → Type 0
IsAway line = changes_content line ≡ true → (q : Path) → is_input q ≡ true → has_names q ≡ true → governs line q ≡ false

created_changes : (line : Line) → is_creating line ≡ true → changes_content line ≡ true
created_changes line h = ap (λ b. b || is_writing line || takes_named (taking_of line) || is_some line.age) h

no_writing : (line : Line) → changes_content line ≡ false → is_writing line ≡ false
no_writing line h = by (is_creating line) (is_writing line) (takes_named (taking_of line)) (is_some line.age) h
  where
    by : (a b c d : Bool) → (a || b || c || d) ≡ false → b ≡ false
    by true b c d e = impossible (sym e)
    by false true c d e = impossible (sym e)
    by false false c d e = refl

module _ (now : ℕ) (line : Line) (is : IsLine line) where
  -- a line that makes something or copies may change what is read
  pub made_changes : (making : Making) → action_of line ≡ Create making → changes_content line ≡ true
  made_changes making e = created_changes line (ap (λ (path : LinePath). is_creating (record line { path = path })) (made_literal line is making e))

  pub copy_changes : (copying : Copying) → action_of line ≡ Copy copying → changes_content line ≡ true
  copy_changes copying e = created_changes line (ap (λ (path : LinePath). is_creating (record line { path = path })) (copy_literal line is copying e))

  -- a line that changes nothing that is read
  module _ (still : changes_content line ≡ false) (q : Path) (plain : has_staging q ≡ false) where
    harmless : KeepsHeld (operations line q)
    harmless = by (action_of line) refl
      where
        at : (sets : List Operation) → list_all keeps sets ≡ true → (b : Bool) → KeepsHeld (cond b sets [])
        at sets h true = keeps_held sets h
        at sets h false = keeps_held [] refl

        by : (d : Action) → action_of line ≡ d → KeepsHeld (operations line q)
        by (Create making) e = absurd (true_not_false (changes_content line) (made_changes making e) still)
        by (Copy copying) e = absurd (true_not_false (changes_content line) (copy_changes copying e) still)
        by (Adjust adjustment) e = subst KeepsHeld (sym (asked_adjustment line adjustment q e)) (at adjustment.sets (subst WritesNothing e (writes_nothing line (no_writing line still))) (adjusts_path line adjustment q))
        by Idle e = subst KeepsHeld (sym (asked_idle line q e)) (keeps_held [] refl)

    still_way : (t u : Files) → OnWayOf line now t u → held (object_states_of (places u) q) ≡ held (object_states_of (places t) q)
    still_way t u (copy_before copying e before) = absurd (true_not_false (changes_content line) (copy_changes copying e) still)
    still_way t u (copy_done copying e whole) = absurd (true_not_false (changes_content line) (copy_changes copying e) still)
    still_way t u (other none way) = by (way q plain)
      where
        by : IsMidway line q (object_states_of (places t) q) (object_states_of (places u) q) → held (object_states_of (places u) q) ≡ held (object_states_of (places t) q)
        by (IsMidway.piece k e) = ap held e ∙ harmless k (object_states_of (places t) q)
        by (IsMidway.gap b s renewal none) = absurd (true_not_false (changes_content line) (made_changes renewal.making renewal.makes) still)

  -- so any line: one that may change what is read governs no input path, and leaves it as it was
  module _ (away : IsAway line) (q : Path) (input : is_input q ≡ true) (named : has_names q ≡ true) (plain : has_staging q ≡ false) (t : Files) (shape : IsShaped (object_states_of (places t))) where
    line_held : (u : Files) → OnWayOf line now t u → held (object_states_of (places u) q) ≡ held (object_states_of (places t) q)
    line_held u way = by (changes_content line) refl
      where
        by : (b : Bool) → changes_content line ≡ b → held (object_states_of (places u) q) ≡ held (object_states_of (places t) q)
        by true c = ap held (way_frame now line is t shape u q plain (away c q input named) way)
        by false c = still_way c q plain t u way

    pub whole_held : held (object_states_of (places ((by_line now).after line t)) q) ≡ held (object_states_of (places t) q)
    whole_held = line_held ((by_line now).after line t) (line_whole now line t is shape)

-- ---- lines one after the other

module _ (now : ℕ) (q : Path) (input : is_input q ≡ true) (named : has_names q ≡ true) (plain : has_staging q ≡ false) where
  pub lines_held : (lines : List Line) → AllByRecursion IsLine lines → AllByRecursion IsAway lines → (t u : Files) → IsShaped (object_states_of (places t)) → Partway (lines_course now) lines t u
      → held (object_states_of (places u) q) ≡ held (object_states_of (places t) q)
  lines_held [] are away t u shape same = ap held (sym (object_states_of-same (places t) (places u) q (same q plain)))
  lines_held (line ∷ lines) are away t u shape (inl way) = line_held now line are.0 away.0 q input named plain t shape u (line_way now line t u are.0 shape way)
  lines_held (line ∷ lines) are away t u shape (inr later) =
      lines_held lines are.1 away.1 ((by_line now).after line t) u (each_kept now line are.0 t shape).shape later
      ∙ whole_held now line are.0 away.0 q input named plain t shape

-- ---- runs

module _ (lines : List Line) (are : AllByRecursion IsLine lines) (free : (i : ℕ) → HasReason lines i reason.Input → ⊥) where
  away_at : (line : Line) (i : ℕ) → IsAt lines i line → IsAway line
  away_at line i at c q input named = by (governs line q) refl
    where
      by : (b : Bool) → governs line q ≡ b → governs line q ≡ false
      by true g = absurd (free i (HasReason.input line q at c input named g))
      by false g = g

  away_from : (rest : List Line) (n : ℕ) → ((i : ℕ) → slice_get lines (n + i) ≡ slice_get rest i) → AllByRecursion IsAway rest
  away_from [] n h = tt
  away_from (line ∷ rest) n h = (
    away_at line (n + 0) (h 0),
    away_from rest (n + 1) (λ i. (let same : n + 1 + i ≡ n + suc i = omega arith in ap (slice_get lines) same ∙ h (suc i))),
  )

  pub all_away : AllByRecursion IsAway (in_create_order lines)
  all_away = all_in_order IsAway lines (away_from lines 0 (λ i. (let same : 0 + i ≡ i = omega arith in ap (slice_get lines) same)))

  -- at each moment on the way
  pub input_on_way : (now : ℕ) (t u : Files) → IsTree t → IsTree u → Partway (lines_course now) (in_create_order lines) t u → (q : Path) → is_input q ≡ true → has_staging q ≡ false
      → content_of (places u q) ≡ content_of (places t q)
  input_on_way now t u tree there way q input plain =
      held_of (places u q)
      ∙ by (has_names q) refl
      ∙ sym (held_of (places t q))
    where
      shape : IsShaped (object_states_of (places t))
      shape = tree_shaped (places t) tree

      -- no tree has anything at a path that has no names
      by : (b : Bool) → has_names q ≡ b → held (object_states_of (places u) q) ≡ held (object_states_of (places t) q)
      by true named = lines_held now q input named plain (in_create_order lines) (all_in_order IsLine lines are) all_away t u shape way
      by false none = ap held (nothing_unnamed (object_states_of (places u)) (tree_shaped (places u) there) q plain none ∙ sym (nothing_unnamed (object_states_of (places t)) shape q plain none))
