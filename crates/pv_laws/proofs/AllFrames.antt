-- What no line governs stays as it is, lines that copy among them, whatever is refused and wherever a run was cut short.
use Rattle.std.specs.Prelude.{◌≡◌, ℕ, true, false, ◌&&◌, List, [], ◌∷◌, Option, Some, None, is_some}
use Rattle.std.proofs.Common.{refl, sym, ap, subst, ◌∙◌, inl, inr}
use Rattle.std.specs.List.{list_any, list_all, AllByRecursion}
use Rattle.std.proofs.lemmas.Bool.{or_parts, false_from_ne_true}
use Rattle.pv_path.specs.Paths.{Path, same_path, is_prefix, has_staging, same_path-decides}
use Rattle.pv_path.proofs.PathLaws.{rest_under-None, same_path-refl}
use Rattle.pv_steps.specs.Trees.{Files, places, IsTree}
use Rattle.pv_walk.specs.declared.object_state.ObjectState.{ObjectState}
use Rattle.pv_walk.specs.Nodes.{object_states_of}
use Rattle.pv_walk.proofs.OperationLaws.{object_states_of-same}
use Rattle.pv_lines.specs.declared.line.Line.{Line}
use Rattle.pv_lines.specs.declared.line.LinePath.{LinePath}
use Rattle.pv_lines.specs.Lines.{IsLine}
use Rattle.pv_table.specs.declared.action.Copying.{Copying}
use Rattle.pv_table.specs.declared.action.Action.{Action}
use Rattle.pv_table.specs.declared.action.Action.TheVariants.{Copy}
use Rattle.pv_table.specs.Active.{in_create_order}
use Rattle.pv_table.specs.ActionTable.{action_of}
use Rattle.pv_table.specs.Created.{by_turn, by_line, created}
use Rattle.pv_steps.specs.Doing.{after_each}
use Rattle.pv_table.specs.Effects.{carried_out, turn_after}
use Rattle.pv_table.specs.Reaching.{names, path_in, is_creating, governs}
use Rattle.pv_table.specs.Repeatable.{sets_of}
use Rattle.pv_table.specs.Turns.{copied, refused_at}
use Rattle.pv_laws.specs.Copying.{IsCopyMidway, kept, parent, some_set, gone, turn_of, OnWayOf, copy_before, copy_done, other, PartwayOf}
use Rattle.pv_laws.proofs.AllPoints.{turns_copy, copy_idle, copy_passes}
use Rattle.pv_laws.proofs.CopyShapes.{at_outside, copied_shaped}
use Rattle.pv_laws.proofs.Frames.{IsFree, ungoverned, not_reached, IsKept, kept_same, turn_kept, line_kept, midway_frame}
use Rattle.pv_laws.proofs.Lines.{path_named, line_is_plain, copy_literal, copy_path, copy_source, copies_or_not}
use Rattle.pv_laws.proofs.Making.{IsShaped}
use Rattle.pv_laws.proofs.Prepared.{object_state_some, filled}
use Rattle.pv_table.proofs.ListedLaws.{all_in_order}
use Rattle.pv_laws.proofs.Sets.{is_adjustment, asked, sets_adjust}
use Rattle.pv_laws.proofs.Shapes.{tree_shaped}
use Rattle.pv_path.proofs.Tests.{true_not_false}

-- a path that a line that copies does not govern lies neither at its path, nor above it, nor below it
module _ (line : Line) (is : IsLine line) (copying : Copying) (e : action_of line ≡ Copy copying) (q : Path) (free : IsFree line q) where
  copy_names : (p : Path) → names line p ≡ same_path (path_in line.path) p
  copy_names p = ap (λ (path : LinePath). names (record line { path = path }) p) (copy_literal line is copying e)

  copy_creating : is_creating line ≡ true
  copy_creating = ap (λ (path : LinePath). is_creating (record line { path = path })) (copy_literal line is copying e)

  pub not_at : same_path (path_in line.path) q ≡ false
  not_at = sym (copy_names q) ∙ free.unnamed

  pub not_above : is_prefix q (path_in line.path) ≡ false
  not_above = sym (ap (λ b. b && is_prefix q (path_in line.path)) copy_creating) ∙ free.no_parent

  pub not_below : is_prefix (path_in line.path) q ≡ false
  not_below = false_from_ne_true _ (λ f. not_reached line is q free (path_in line.path) (Copy copying) e refl (copy_names (path_in line.path) ∙ same_path-refl (path_in line.path)) f not_at)

-- ---- a line

module _ (now : ℕ) (line : Line) (is : IsLine line) (t : Files) (shape : IsShaped (object_states_of (places t))) where
  copy_kept : (copying : Copying) → action_of line ≡ Copy copying → IsKept line t (turn_after now line (path_in line.path) t)
  copy_kept copying e = turn_kept now line (path_in line.path) t shape (λ free. subst (λ (d : Action). IsKept line t (carried_out now d (path_in line.path) t)) (sym e) (by free (object_states_of (places t) copying.source) refl))
    where
      adjust : list_all is_adjustment copying.sets ≡ true
      adjust = subst (λ d. list_all is_adjustment (sets_of d) ≡ true) e (sets_adjust line (action_of line) (asked line))

      by : refused_at line (path_in line.path) (places t) ≡ None → (b : Option ObjectState) → object_states_of (places t) copying.source ≡ b → IsKept line t (carried_out now (Copy copying) (path_in line.path) t)
      by free None f = subst (IsKept line t) (sym (copy_idle now copying (path_in line.path) t (sym (object_state_some (places t copying.source)) ∙ ap is_some f))) (kept_same line t shape)
      by free (Some b) f = record {
        shape =
            copied_shaped now copying adjust (path_in line.path) (copy_path line is copying e).0 (copy_source line is copying e) t shape b f (copy_path line is copying e).1
            (copy_passes line copying e t free (sym (object_state_some (places t copying.source)) ∙ ap is_some f)) (path_named line is);
        frame = λ q plain away.
            at_outside now copying adjust (path_in line.path) (copy_path line is copying e).0 (copy_source line is copying e) t shape b f (copy_path line is copying e).1
            (copy_passes line copying e t free (sym (object_state_some (places t copying.source)) ∙ ap is_some f)) q plain
            (rest_under-None (path_in line.path) q (not_below line is copying e q (ungoverned line q away)))
            ∙ ap (λ c. filled c (object_states_of (places t) q)) (not_above line is copying e q (ungoverned line q away));
      }

  -- whatever it asks for
  pub each_kept : IsKept line t ((by_line now).after line t)
  each_kept = copies_or_not line (λ copying e. subst (λ paths. IsKept line t (after_each (by_turn now line) paths t)) (sym (turns_copy line copying t e)) (copy_kept copying e)) plain_line
    where
      plain_line : copied (action_of line) ≡ None → IsKept line t ((by_line now).after line t)
      plain_line none = line_kept now line is (line_is_plain line is none) t shape

  -- on its way
  pub way_frame : (u : Files) (q : Path) → has_staging q ≡ false → governs line q ≡ false → OnWayOf line now t u → object_states_of (places u) q ≡ object_states_of (places t) q
  way_frame u q plain away way = by way
    where
      free : IsFree line q
      free = ungoverned line q away

      copy_frame : (copying : Copying) → action_of line ≡ Copy copying → IsCopyMidway (path_in line.path) copying (turn_of line copying now t) q (object_states_of (places t) q) (object_states_of (places u) q) → object_states_of (places u) q ≡ object_states_of (places t) q
      copy_frame copying e (kept f) = f
      copy_frame copying e (parent high differ none f) = absurd (true_not_false (is_prefix q (path_in line.path)) high (not_above line is copying e q free))
      copy_frame copying e (some_set k same turn f) = absurd (true_not_false (same_path (path_in line.path) q) ((same_path-decides (path_in line.path) q).1 (sym same)) (not_at line is copying e q free))
      copy_frame copying e (gone subtree low turn f) = absurd (true_not_false (is_prefix (path_in line.path) q) low (not_below line is copying e q free))

      by : OnWayOf line now t u → object_states_of (places u) q ≡ object_states_of (places t) q
      by (copy_before copying e before) = copy_frame copying e (before.1 q plain)
      by (copy_done copying e whole) = sym (object_states_of-same (places ((by_line now).after line t)) (places u) q (whole q plain)) ∙ each_kept.frame q plain away
      by (other none way_there) = midway_frame line is q plain away (object_states_of (places t) q) (object_states_of (places u) q) (way_there q plain)

-- ---- lines one after the other

-- they leave the shape
pub shape_after : (now : ℕ) (lines : List Line) → AllByRecursion IsLine lines → (t : Files) → IsShaped (object_states_of (places t)) → IsShaped (object_states_of (places (after_each (by_line now) lines t)))
shape_after now [] are t shape = shape
shape_after now (line ∷ lines) are t shape = shape_after now lines are.1 ((by_line now).after line t) (each_kept now line are.0 t shape).shape

module _ (now : ℕ) (q : Path) (plain : has_staging q ≡ false) where
  -- done
  pub frame_after : (lines : List Line) → AllByRecursion IsLine lines → AllByRecursion (λ line. governs line q ≡ false) lines → (t : Files) → IsShaped (object_states_of (places t)) → object_states_of (places (after_each (by_line now) lines t)) q ≡ object_states_of (places t) q
  frame_after [] are away t shape = refl
  frame_after (line ∷ lines) are away t shape =
      let one = each_kept now line are.0 t shape in
      frame_after lines are.1 away.1 ((by_line now).after line t) one.shape ∙ one.frame q plain away.0

  -- or on the way
  pub frame_partway : (lines : List Line) → AllByRecursion IsLine lines → AllByRecursion (λ line. governs line q ≡ false) lines → (t u : Files) → IsShaped (object_states_of (places t)) → PartwayOf lines now t u → object_states_of (places u) q ≡ object_states_of (places t) q
  frame_partway [] are away t u shape same = sym (object_states_of-same (places t) (places u) q (same q plain))
  frame_partway (line ∷ lines) are away t u shape (inl way) = way_frame now line are.0 t shape u q plain away.0 way
  frame_partway (line ∷ lines) are away t u shape (inr later) =
      let one = each_kept now line are.0 t shape in
      frame_partway lines are.1 away.1 ((by_line now).after line t) u one.shape later ∙ one.frame q plain away.0

  pub all_away : (lines : List Line) → list_any (λ line. governs line q) lines ≡ false → AllByRecursion (λ line. governs line q ≡ false) lines
  all_away [] h = tt
  all_away (line ∷ lines) h = let two = or_parts (governs line q) (list_any (λ l. governs l q) lines) h in (two.0, all_away lines two.1)

  module _ (lines : List Line) (are : AllByRecursion IsLine lines) (free : list_any (λ line. governs line q) lines ≡ false) (t : Files) (tree : IsTree t) where
    in_order_away : AllByRecursion (λ (line : Line). governs line q ≡ false) (in_create_order lines)
    in_order_away = all_in_order (λ (line : Line). governs line q ≡ false) lines (all_away lines free)

    -- a complete run, and one that was cut short
    pub run_frame : object_states_of (places (created lines now t)) q ≡ object_states_of (places t) q
    run_frame = frame_after (in_create_order lines) (all_in_order IsLine lines are) in_order_away t (tree_shaped (places t) tree)

    pub stopped_frame : (u : Files) → PartwayOf (in_create_order lines) now t u → object_states_of (places u) q ≡ object_states_of (places t) q
    stopped_frame u way = frame_partway (in_create_order lines) (all_in_order IsLine lines are) in_order_away t u (tree_shaped (places t) tree) way
