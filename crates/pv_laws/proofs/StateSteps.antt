-- What one line leaves by the definition of each path by itself, from any map that has the shape of a tree; no walk is asked
-- for, so that nothing is refused.
use Rattle.std.specs.Prelude.{⊤, ◌≡◌, ◌≢◌, ◌⊎◌, Bool, true, false, cond, List, [], ◌∷◌, ◌++◌, map, fold, Option, Some, None, is_some, option_map}
use Rattle.std.proofs.Common.{refl, sym, ap, subst, ◌∙◌, inl, inr, arith}
use Rattle.std.specs.FinMap as fin
use Rattle.std.specs.List.{list_all, AllByRecursion}
use Rattle.pv_path.specs.Paths.{Path, is_prefix, same_path, has_staging}
use Rattle.pv_path.proofs.PathLaws.{is_prefix-refl, rest_under-None, rest_under-append, same_path-no}
use Rattle.pv_path.proofs.Tests.{true_not_false}
use Rattle.pv_steps.specs.Trees.{Files, Places, places, tabulate}
use Rattle.pv_steps.proofs.StepLaws.{places-tabulate}
use Rattle.pv_walk.specs.declared.object_state.ObjectState.{ObjectState}
use Rattle.pv_walk.specs.Dividing.{parts}
use Rattle.pv_walk.specs.Nodes.{object_state_of, object_states_of}
use Rattle.pv_walk.specs.Operations.{run}
use Rattle.pv_walk.proofs.Dividing.{run-parts}
use Rattle.pv_walk.proofs.OperationLaws.{run-append}
use Rattle.pv_lines.specs.declared.line.Line.{Line}
use Rattle.pv_walk.specs.Copying.{object_of}
use Rattle.pv_table.specs.declared.action.Copying.{Copying}
use Rattle.pv_table.specs.declared.action.Action.{Action}
use Rattle.pv_table.specs.declared.action.Action.TheVariants.{Create, Copy, Adjust, Idle}
use Rattle.pv_table.specs.declared.action.Making.{Making}
use Rattle.pv_table.specs.declared.action.Adjustment.{Adjustment}
use Rattle.pv_table.specs.Asked.{made_at, operations, operations_of}
use Rattle.pv_table.specs.ActionTable.{action_of}
use Rattle.pv_table.specs.Effects.{carried_out}
use Rattle.pv_table.specs.Pointwise.{ObjectStates, after_turn, at_made, adjusts_path, point, pointwise_after}
use Rattle.pv_table.specs.Reaching.{path_in, governs}
use Rattle.pv_table.specs.Repeatable.{sets_of}
use Rattle.pv_table.specs.Turns.{copied}
use Rattle.pv_laws.proofs.AllFrames.{not_above, not_below}
use Rattle.pv_laws.proofs.AllPoints.{IsSafe, pointwise_is}
use Rattle.pv_laws.proofs.Copies.{copied_point, left_before}
use Rattle.pv_laws.proofs.CopyEnds.{inside, inside_is, below_plain, turn_at}
use Rattle.pv_laws.proofs.CopyShapes.{at_outside, copied_shaped}
use Rattle.pv_laws.proofs.Frames.{ungoverned, asks_nothing}
use Rattle.pv_laws.proofs.Lines.{IsPlain, line_is_plain, path_named, copy_path, copy_source, asked_made, asked_adjustment, asked_idle, copies_or_not}
use Rattle.pv_laws.proofs.Making.{is_dir, IsShaped, new_object_states}
use Rattle.pv_laws.proofs.Orders.{Pairwise}
use Rattle.pv_laws.proofs.Parents.{IsOutside, IsFreeOf, parent_done}
use Rattle.pv_laws.proofs.Points.{point_asked}
use Rattle.pv_laws.proofs.Prepared.{filled, with_some}
use Rattle.pv_laws.proofs.Repeated.{asked_copy}
use Rattle.pv_laws.proofs.Sets.{impossible, is_adjustment, line_is_making, adjusted_none, asked, sets_adjust}
use Rattle.pv_laws.proofs.Shapes.{IsLike, adjusted_like, made_shaped, shaped_like, shape_same}
use Rattle.pv_laws.proofs.Swapped.{copies_some, swapped, directory_asks, IsSwap, swap}
use Rattle.pv_laws.proofs.Swapped as swaps

-- ---- a tree of a map

abbrev objects : ObjectStates → Places
objects s q = option_map (object_of 0) (fin.get s q)

object_some : (b : Option ObjectState) → is_some (option_map (object_of 0) b) ≡ is_some b
object_some b = grind arith

-- each map is what stands in some tree, timestamps aside
pub tree_of : (s : ObjectStates) → (v : Files) × ((q : Path) → fin.get s q ≡ object_states_of (places v) q)
tree_of s = (
  tabulate (fin.keys s) (objects s),
  λ q. sym (
      ap (option_map object_state_of) (places-tabulate (fin.keys s) (objects s) q (λ h. sym (fin.contains_key-keys s q) ∙ sym (object_some (fin.get s q)) ∙ h))
      ∙ new_object_states 0 (fin.get s q)),
)

-- ---- one line

-- each present place above a path is a directory
abbrev pub PassesTo : ObjectStates → Path → Type 0
PassesTo s path = (p : Path) → is_prefix p path ≡ true → p ≢ path → is_some (fin.get s p) ≡ true → is_dir (fin.get s p) ≡ true

-- where a line makes an object, or copies what is there, its path can be walked to
pub record IsOpen (line : Line) (s : ObjectStates) : Type 0 where
  pub made : (making : Making) → action_of line ≡ Create making → PassesTo s (path_in line.path)
  pub copies : (copying : Copying) → action_of line ≡ Copy copying → is_some (fin.get s copying.source) ≡ true → PassesTo s (path_in line.path)

-- what a line copies is there in a map as in a tree
abbrev pub IsAlikeIn : Files → ObjectStates → Line → Type 0
IsAlikeIn t s line = (copying : Copying) → action_of line ≡ Copy copying → is_some (fin.get s copying.source) ≡ is_some (object_states_of (places t) copying.source)

point_copied : (line : Line) (copying : Copying) (s : ObjectStates) (q : Path) → action_of line ≡ Copy copying → point line s q ≡ cond (is_some (fin.get s copying.source)) (at_made (Copy copying) (path_in line.path) s q) (fin.get s q)
point_copied line copying s q e = rw e

module _ (line : Line) (safe : IsSafe line) (s : ObjectStates) (shape : IsShaped (fin.get s)) where
  abbrev path : Path
  path = path_in line.path

  -- one that copies nothing
  pub asked_after : copied (action_of line) ≡ None → (q : Path) → has_staging q ≡ false → fin.get (pointwise_after s line) q ≡ run (operations line q) (fin.get s q)
  asked_after none q plain = pointwise_is line safe s shape q plain ∙ point_asked line (line_is_plain line safe.is none) s shape q plain

  -- a copy of what is absent
  pub none_after : (copying : Copying) → action_of line ≡ Copy copying → fin.get s copying.source ≡ None → (q : Path) → has_staging q ≡ false → fin.get (pointwise_after s line) q ≡ fin.get s q
  none_after copying e none q plain =
      pointwise_is line safe s shape q plain ∙ point_copied line copying s q e
      ∙ ap (λ b. cond (is_some b) (at_made (Copy copying) path s q) (fin.get s q)) none

  -- a copy of what is there
  module _ (copying : Copying) (e : action_of line ≡ Copy copying) (b : ObjectState) (present : fin.get s copying.source ≡ Some b) where
    abbrev pub seen : Files
    seen = (tree_of s).0

    agrees : (q : Path) → fin.get s q ≡ object_states_of (places seen) q
    agrees = (tree_of s).1

    seen_shaped : IsShaped (object_states_of (places seen))
    seen_shaped = shape_same (fin.get s) (object_states_of (places seen)) (λ q plain. sym (agrees q)) shape

    seen_there : object_states_of (places seen) copying.source ≡ Some b
    seen_there = sym (agrees copying.source) ∙ present

    adjust : list_all is_adjustment copying.sets ≡ true
    adjust = subst (λ d. list_all is_adjustment (sets_of d) ≡ true) e (sets_adjust line (action_of line) (asked line))

    plain_path : has_staging path ≡ false
    plain_path = (copy_path line safe.is copying e).0

    plain_source : has_staging copying.source ≡ false
    plain_source = copy_source line safe.is copying e

    carried : (q : Path) → has_staging q ≡ false → fin.get (pointwise_after s line) q ≡ object_states_of (places (carried_out 0 (Copy copying) path seen)) q
    carried q plain =
        pointwise_is line safe s shape q plain ∙ point_copied line copying s q e
        ∙ ap (λ c. cond (is_some c) (at_made (Copy copying) path s q) (fin.get s q)) present
        ∙ sym (copied_point 0 copying adjust path plain_path plain_source seen seen_shaped b seen_there (safe.away copying e) s (λ p h. agrees p) q plain)

    pub inside_after : (rest : Path) → has_staging rest ≡ false → fin.get (pointwise_after s line) (path ++ rest) ≡ after_turn (turn_at line safe copying e b seen) rest (inside path seen rest)
    inside_after rest plain =
        carried (path ++ rest) (below_plain path rest plain_path plain)
        ∙ left_before 0 copying adjust path plain_path plain_source seen seen_shaped b seen_there (safe.away copying e) (path ++ rest) rest (below_plain path rest plain_path plain) (rest_under-append path rest)
        ∙ ap (after_turn (turn_at line safe copying e b seen) rest) (sym (inside_is path seen rest plain))

    module _ (pass : PassesTo s path) where
      seen_pass : (p : Path) → is_prefix p path ≡ true → p ≢ path → is_some (object_states_of (places seen) p) ≡ true → is_dir (object_states_of (places seen) p) ≡ true
      seen_pass p high other h = ap is_dir (sym (agrees p)) ∙ pass p high other (ap is_some (agrees p) ∙ h)

      pub copy_shape : IsShaped (fin.get (pointwise_after s line))
      copy_shape = shape_same (object_states_of (places (carried_out 0 (Copy copying) path seen))) (fin.get (pointwise_after s line)) carried (
          copied_shaped 0 copying adjust path plain_path plain_source seen seen_shaped b seen_there (copy_path line safe.is copying e).1 seen_pass (path_named line safe.is))

      pub outside_after : (q : Path) → has_staging q ≡ false → is_prefix path q ≡ false → fin.get (pointwise_after s line) q ≡ filled (is_prefix q path) (fin.get s q)
      outside_after q plain outside =
          carried q plain
          ∙ at_outside 0 copying adjust path plain_path plain_source seen seen_shaped b seen_there (copy_path line safe.is copying e).1 seen_pass q plain (rest_under-None path q outside)
          ∙ ap (filled (is_prefix q path)) (sym (agrees q))

  -- what it leaves has the shape
  adjust_like : (adjustment : Adjustment) → action_of line ≡ Adjust adjustment → (q : Path) → has_staging q ≡ false → (fin.get (pointwise_after s line) q ≡ fin.get s q)
      ⊎ ((x : ObjectState) × (y : ObjectState) × (fin.get s q ≡ Some x) × (fin.get (pointwise_after s line) q ≡ Some y) × IsLike x y)
  adjust_like adjustment e q plain = by (adjusts_path line adjustment q) (fin.get s q) refl (asked_after (ap copied e) q plain ∙ ap (λ xs. run xs (fin.get s q)) (asked_adjustment line adjustment q e))
    where
      adjusts : list_all is_adjustment adjustment.sets ≡ true
      adjusts = subst (λ d. list_all is_adjustment (sets_of d) ≡ true) e (sets_adjust line (action_of line) (asked line))

      by : (b : Bool) (o : Option ObjectState) → fin.get s q ≡ o → fin.get (pointwise_after s line) q ≡ run (cond b adjustment.sets []) (fin.get s q)
          → (fin.get (pointwise_after s line) q ≡ fin.get s q) ⊎ ((x : ObjectState) × (y : ObjectState) × (fin.get s q ≡ Some x) × (fin.get (pointwise_after s line) q ≡ Some y) × IsLike x y)
      by false o f g = inl g
      by true None f g = inl (g ∙ ap (run adjustment.sets) f ∙ adjusted_none adjustment.sets adjusts ∙ sym f)
      by true (Some x) f g = let same = adjusted_like adjustment.sets adjusts x in inr (x, same.0, f, g ∙ ap (run adjustment.sets) f ∙ same.1, same.2)

  module _ (opens : IsOpen line s) where
    pub open_shape : IsShaped (fin.get (pointwise_after s line))
    open_shape = by (action_of line) refl
      where
        made : (making : Making) → action_of line ≡ Create making → IsPlain line → IsShaped (fin.get (pointwise_after s line))
        made making e is = shape_same (λ q. run (made_at making path q) (fin.get s q)) (fin.get (pointwise_after s line))
            (λ q plain. asked_after (ap copied e) q plain ∙ ap (λ xs. run xs (fin.get s q)) (asked_made line making q e))
            (made_shaped making (line_is_making line making e) path is.unstaged (fin.get s) shape (is.rooted making e) (opens.made making e) is.named)

        copy : (copying : Copying) → action_of line ≡ Copy copying → (o : Option ObjectState) → fin.get s copying.source ≡ o → IsShaped (fin.get (pointwise_after s line))
        copy copying e None f = shape_same (fin.get s) (fin.get (pointwise_after s line)) (none_after copying e f) shape
        copy copying e (Some b) f = copy_shape copying e b f (opens.copies copying e (ap is_some f))

        by : (d : Action) → action_of line ≡ d → IsShaped (fin.get (pointwise_after s line))
        by (Create making) e = made making e (line_is_plain line safe.is (ap copied e))
        by (Copy copying) e = copy copying e (fin.get s copying.source) refl
        by (Adjust adjustment) e = shaped_like (fin.get s) (fin.get (pointwise_after s line)) (adjust_like adjustment e) shape
        by Idle e = shape_same (fin.get s) (fin.get (pointwise_after s line)) (λ q plain. asked_after (ap copied e) q plain ∙ ap (λ xs. run xs (fin.get s q)) (asked_idle line q e)) shape

    -- what it does not govern stays
    pub frame_step : (q : Path) → has_staging q ≡ false → governs line q ≡ false → fin.get (pointwise_after s line) q ≡ fin.get s q
    frame_step q plain away = copies_or_not line (λ copying e. copy copying e (fin.get s copying.source) refl) plain_line
      where
        plain_line : copied (action_of line) ≡ None → fin.get (pointwise_after s line) q ≡ fin.get s q
        plain_line none = asked_after none q plain ∙ ap (λ xs. run xs (fin.get s q)) (asks_nothing line safe.is q (ungoverned line q away))

        copy : (copying : Copying) → action_of line ≡ Copy copying → (o : Option ObjectState) → fin.get s copying.source ≡ o → fin.get (pointwise_after s line) q ≡ fin.get s q
        copy copying e None f = none_after copying e f q plain
        copy copying e (Some b) f =
            outside_after copying e b f (opens.copies copying e (ap is_some f)) q plain (not_below line safe.is copying e q (ungoverned line q away))
            ∙ ap (λ c. filled c (fin.get s q)) (not_above line safe.is copying e q (ungoverned line q away))

    -- beside what is copied it leaves what the line in its place asks for
    module _ (t : Files) (q : Path) (plain : has_staging q ≡ false) (outside : IsOutside t q line) (alike : IsAlikeIn t s line) where
      other_path : (copying : Copying) → action_of line ≡ Copy copying → is_some (object_states_of (places t) copying.source) ≡ true → same_path path q ≡ false
      other_path copying e there = same_path-no path q (λ same. true_not_false (is_prefix path q) (ap (is_prefix path) (sym same) ∙ is_prefix-refl path) (outside copying e there))

      absent : (copying : Copying) → action_of line ≡ Copy copying → is_some (object_states_of (places t) copying.source) ≡ false → fin.get (pointwise_after s line) q ≡ fin.get s q
      absent copying e none = by (fin.get s copying.source) refl
        where
          by : (o : Option ObjectState) → fin.get s copying.source ≡ o → fin.get (pointwise_after s line) q ≡ fin.get s q
          by None f = none_after copying e f q plain
          by (Some b) f = impossible (sym none ∙ sym (alike copying e) ∙ ap is_some f)

      present : (copying : Copying) → action_of line ≡ Copy copying → is_some (object_states_of (places t) copying.source) ≡ true → fin.get (pointwise_after s line) q ≡ filled (is_prefix q path) (fin.get s q)
      present copying e there = with_some (fin.get s copying.source) (alike copying e ∙ there) (λ b f. outside_after copying e b f (opens.copies copying e (ap is_some f)) q plain (outside copying e there))

      pub swap_step : fin.get (pointwise_after s line) q ≡ run (operations (swapped t line) q) (fin.get s q)
      swap_step = by (swap t line)
        where
          kept : swapped t line ≡ line → run (operations line q) (fin.get s q) ≡ run (operations (swapped t line) q) (fin.get s q)
          kept is = sym (ap (λ (l : Line). run (operations l q) (fin.get s q)) is)

          by : IsSwap t line (swapped t line) → fin.get (pointwise_after s line) q ≡ run (operations (swapped t line) q) (fin.get s q)
          by (swaps.same is f) = copies_or_not line
              (λ copying e. absent copying e (sym (ap (copies_some t) e) ∙ f) ∙ sym (ap (λ xs. run xs (fin.get s q)) (asked_copy line copying q e)))
              (λ none. asked_after none q plain)
              ∙ kept is
          by (swaps.directory copying e there is) =
              present copying e there ∙ parent_done (is_prefix q path) (fin.get s q)
              ∙ sym (ap (λ xs. run xs (fin.get s q)) (ap (λ (l : Line). operations l q) is ∙ directory_asks line q (other_path copying e there)))

-- ---- lines one after the other

-- each of them is open when its turn comes
abbrev pub AllOpen : List Line → ObjectStates → Type 0
AllOpen [] s = ⊤
AllOpen (line ∷ lines) s = IsOpen line s × AllOpen lines (pointwise_after s line)

pub all_shape : (lines : List Line) → AllByRecursion IsSafe lines → (s : ObjectStates) → IsShaped (fin.get s) → AllOpen lines s → IsShaped (fin.get (fold pointwise_after s lines))
all_shape [] safe s shape opens = shape
all_shape (line ∷ lines) safe s shape opens = all_shape lines safe.1 (pointwise_after s line) (open_shape line safe.0 s shape opens.0) opens.1

pub all_frame : (q : Path) → has_staging q ≡ false → (lines : List Line) → AllByRecursion IsSafe lines → AllByRecursion (λ line. governs line q ≡ false) lines → (s : ObjectStates) → IsShaped (fin.get s) → AllOpen lines s
    → fin.get (fold pointwise_after s lines) q ≡ fin.get s q
all_frame q plain [] safe away s shape opens = refl
all_frame q plain (line ∷ lines) safe away s shape opens =
    all_frame q plain lines safe.1 away.1 (pointwise_after s line) (open_shape line safe.0 s shape opens.0) opens.1
    ∙ frame_step line safe.0 s shape opens.0 q plain away.0

-- what the next lines copy is there as before
alike_after : (t : Files) (line : Line) (safe : IsSafe line) (s : ObjectStates) (shape : IsShaped (fin.get s)) (opens : IsOpen line s) (lines : List Line) → AllByRecursion IsSafe lines → AllByRecursion (IsFreeOf line) lines
    → AllByRecursion (IsAlikeIn t s) lines → AllByRecursion (IsAlikeIn t (pointwise_after s line)) lines
alike_after t line safe s shape opens [] is free same = tt
alike_after t line safe s shape opens (l ∷ lines) is free same = (
  (λ copying e. ap is_some (frame_step line safe s shape opens copying.source (copy_source l is.0.is copying e) (free.0 copying e)) ∙ same.0 copying e),
  alike_after t line safe s shape opens lines is.1 free.1 same.1,
)

pub all_swap : (t : Files) (q : Path) (plain : has_staging q ≡ false) (lines : List Line) → AllByRecursion IsSafe lines → AllByRecursion (IsOutside t q) lines → Pairwise IsFreeOf lines
    → (s : ObjectStates) → IsShaped (fin.get s) → AllByRecursion (IsAlikeIn t s) lines → AllOpen lines s
    → fin.get (fold pointwise_after s lines) q ≡ run (operations_of (map (swapped t) lines) q) (fin.get s q)
all_swap t q plain [] safe outside free s shape alike opens = refl
all_swap t q plain (line ∷ lines) safe outside free s shape alike opens =
    all_swap t q plain lines safe.1 outside.1 free.1 (pointwise_after s line) (open_shape line safe.0 s shape opens.0)
    (alike_after t line safe.0 s shape opens.0 lines safe.1 free.0 alike.1) opens.1
    ∙ ap (run (operations_of (map (swapped t) lines) q)) (swap_step line safe.0 s shape opens.0 t q plain outside.0 alike.0 ∙ sym (run-parts (operations (swapped t line) q) (fin.get s q)))
    ∙ sym (run-append (parts (operations (swapped t line) q)) (operations_of (map (swapped t) lines) q) (fin.get s q))

-- ---- in parts

pub fold_one : (xs : List Line) (line : Line) (s : ObjectStates) → fold pointwise_after s (xs ++ line ∷ []) ≡ pointwise_after (fold pointwise_after s xs) line
fold_one [] line s = refl
fold_one (x ∷ xs) line s = fold_one xs line (pointwise_after s x)

pub fold_parts : (xs ys : List Line) (s : ObjectStates) → fold pointwise_after s (xs ++ ys) ≡ fold pointwise_after (fold pointwise_after s xs) ys
fold_parts [] ys s = refl
fold_parts (x ∷ xs) ys s = fold_parts xs ys (pointwise_after s x)

pub open_one : (xs : List Line) (line : Line) (s : ObjectStates) → AllOpen xs s → IsOpen line (fold pointwise_after s xs) → AllOpen (xs ++ line ∷ []) s
open_one [] line s opens one = (one, tt)
open_one (x ∷ xs) line s opens one = (opens.0, open_one xs line (pointwise_after s x) opens.1 one)

pub open_parts : (xs ys : List Line) (s : ObjectStates) → AllOpen (xs ++ ys) s → AllOpen xs s × AllOpen ys (fold pointwise_after s xs)
open_parts [] ys s opens = (tt, opens)
open_parts (x ∷ xs) ys s opens = let rest = open_parts xs ys (pointwise_after s x) opens.1 in ((opens.0, rest.0), rest.1)
