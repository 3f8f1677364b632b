-- A run that was cut short recovers at each path that lies neither at nor below a path to which a line copies what is there.
use Rattle.std.specs.Prelude.{◌≡◌, ℕ, Bool, true, false, cond, List, [], ◌∷◌, map, take, Option, Some, None, is_some}
use Rattle.std.proofs.Common.{suc, refl, sym, ap, subst, ◌∙◌, inl, inr, arith}
use Rattle.std.specs.List.{list_all, AllByRecursion}
use Rattle.std.proofs.lemmas.Bool.{or_parts}
use Rattle.pv_path.specs.Paths.{Path, same_path, is_prefix, has_staging}
use Rattle.pv_path.proofs.PathLaws.{is_prefix-refl, rest_under-None, same_path-no}
use Rattle.pv_steps.specs.Trees.{Files, places}
use Rattle.pv_walk.specs.declared.object_state.ObjectState.{ObjectState}
use Rattle.pv_walk.specs.declared.operation.Operation.{Operation}
use Rattle.pv_walk.specs.declared.operation.Operation.TheVariants.{Make}
use Rattle.pv_walk.specs.Dividing.{parts}
use Rattle.pv_walk.specs.Nodes.{object_states_of}
use Rattle.pv_walk.specs.Operations.{run}
use Rattle.pv_walk.proofs.Dividing.{run-parts}
use Rattle.pv_walk.proofs.OperationLaws.{object_states_of-same, run-append}
use Rattle.pv_lines.specs.declared.line.Line.{Line}
use Rattle.pv_table.specs.declared.action.Copying.{Copying}
use Rattle.pv_table.specs.declared.action.Action.{Action}
use Rattle.pv_table.specs.declared.action.Action.TheVariants.{Copy}
use Rattle.pv_table.specs.Asked.{operations, operations_of}
use Rattle.pv_table.specs.ActionTable.{action_of}
use Rattle.pv_table.specs.Created.{by_turn, by_line}
use Rattle.pv_steps.specs.Doing.{after_each, one_is_refused}
use Rattle.pv_table.specs.Effects.{carried_out}
use Rattle.pv_table.specs.Pointwise.{parent_object_state}
use Rattle.pv_table.specs.Reaching.{path_in, governs}
use Rattle.pv_table.specs.Repeatable.{sets_of}
use Rattle.pv_table.specs.Turns.{copied, refused_at}
use Rattle.pv_laws.specs.Copying.{IsCopyMidway, kept, parent, some_set, gone, turn_of, OnWayOf, copy_before, copy_done, other, PartwayOf}
use Rattle.pv_laws.specs.Stopping.{IsMidway, IsPiece}
use Rattle.pv_laws.proofs.AllPoints.{IsSafe, line_pointed, turns_copy, copy_idle, copy_passes}
use Rattle.pv_laws.proofs.CopyShapes.{at_outside}
use Rattle.pv_laws.proofs.AllFrames.{each_kept}
use Rattle.pv_laws.proofs.Lines.{line_is_plain, line_point, copy_path, copy_source, copies_or_not}
use Rattle.pv_laws.proofs.Making.{IsShaped}
use Rattle.pv_laws.proofs.Orders.{Pairwise}
use Rattle.pv_laws.proofs.Prepared.{object_state_some, filled, with_some}
use Rattle.pv_laws.proofs.Repeated.{asked_copy}
use Rattle.pv_laws.proofs.Sets.{impossible, is_adjustment, asked, sets_adjust}
use Rattle.pv_laws.proofs.Stops.{midway_piece, later_piece}
use Rattle.pv_laws.proofs.Swapped.{copies_some, swapped, object_state_directory, directory_asks, IsSwap, swap}
use Rattle.pv_laws.proofs.Swapped as swaps
use Rattle.pv_laws.proofs.Adjustment.{turn_open, first_turn}
use Rattle.pv_path.proofs.Tests.{true_not_false}

-- a path lies neither at nor below the path of a line that copies what is there
abbrev pub IsOutside : Files → Path → Line → Type 0
IsOutside t q line = (copying : Copying) → action_of line ≡ Copy copying → is_some (object_states_of (places t) copying.source) ≡ true → is_prefix (path_in line.path) q ≡ false

-- what a line copies is there in one tree as in another
abbrev pub IsThereAlike : Files → Files → Line → Type 0
IsThereAlike t u line = (copying : Copying) → action_of line ≡ Copy copying → is_some (object_states_of (places u) copying.source) ≡ is_some (object_states_of (places t) copying.source)

-- a line does not govern what another copies
abbrev pub IsFreeOf : Line → Line → Type 0
IsFreeOf line copier = (copying : Copying) → action_of copier ≡ Copy copying → governs line copying.source ≡ false

pub parent_done : (b : Bool) (c : Option ObjectState) → filled b c ≡ run (cond b (Make parent_object_state ∷ []) []) c
parent_done b c = grind arith

-- ---- one line

-- t is the tree at the start, in which is seen what there is to copy; v is that which the line finds
module _ (t : Files) (q : Path) (plain : has_staging q ≡ false) (now : ℕ) (line : Line) (safe : IsSafe line) (outside : IsOutside t q line) (v : Files) (shape : IsShaped (object_states_of (places v))) (alike : IsThereAlike t v line) (quiet : (by_line now).is_refused line v ≡ false) where
  copy_opened : (copying : Copying) → action_of line ≡ Copy copying → (refused_at line (path_in line.path) (places v) ≡ None) × ((by_line now).after line v ≡ carried_out now (Copy copying) (path_in line.path) v)
  copy_opened copying e =
      let open_path = (first_turn now line (path_in line.path) [] v (ap (λ paths. one_is_refused (by_turn now line) paths v) (sym (turns_copy line copying v e)) ∙ quiet)).0 in (
        open_path,
        ap (λ paths. after_each (by_turn now line) paths v) (turns_copy line copying v e) ∙ turn_open now line (path_in line.path) v open_path ∙ ap (λ (d : Action). carried_out now d (path_in line.path) v) e,
      )

  other_path : (copying : Copying) → action_of line ≡ Copy copying → is_some (object_states_of (places t) copying.source) ≡ true → same_path (path_in line.path) q ≡ false
  other_path copying e there = same_path-no (path_in line.path) q (λ e'. true_not_false (is_prefix (path_in line.path) q) (ap (is_prefix (path_in line.path)) (sym e') ∙ is_prefix-refl (path_in line.path)) (outside copying e there))

  -- what is asked of the path in its place
  asked_there : (copying : Copying) → action_of line ≡ Copy copying → is_some (object_states_of (places t) copying.source) ≡ true → swapped t line ≡ object_state_directory line → operations (swapped t line) q ≡ cond (is_prefix q (path_in line.path)) (Make parent_object_state ∷ []) []
  asked_there copying e there is = ap (λ (l : Line). operations l q) is ∙ directory_asks line q (other_path copying e there)

  -- a copy of what is absent
  absent_point : (copying : Copying) → action_of line ≡ Copy copying → is_some (object_states_of (places t) copying.source) ≡ false → object_states_of (places ((by_line now).after line v)) q ≡ object_states_of (places v) q
  absent_point copying e none =
      ap (λ (u : Files). object_states_of (places u) q) ((copy_opened copying e).1 ∙ copy_idle now copying (path_in line.path) v (sym (object_state_some (places v copying.source)) ∙ alike copying e ∙ none))

  present_point : (copying : Copying) → action_of line ≡ Copy copying → is_some (object_states_of (places t) copying.source) ≡ true → object_states_of (places ((by_line now).after line v)) q ≡ filled (is_prefix q (path_in line.path)) (object_states_of (places v) q)
  present_point copying e there = with_some (object_states_of (places v) copying.source) (alike copying e ∙ there) (λ b f.
      ap (λ (u : Files). object_states_of (places u) q) (copy_opened copying e).1
      ∙ at_outside now copying (subst (λ d. list_all is_adjustment (sets_of d) ≡ true) e (sets_adjust line (action_of line) (asked line))) (path_in line.path) (copy_path line safe.is copying e).0 (copy_source line safe.is copying e) v shape b f
      (copy_path line safe.is copying e).1 (copy_passes line copying e v (copy_opened copying e).0 (sym (object_state_some (places v copying.source)) ∙ ap is_some f)) q plain (rest_under-None (path_in line.path) q (outside copying e there)))

  pub swap_point : object_states_of (places ((by_line now).after line v)) q ≡ run (operations (swapped t line) q) (object_states_of (places v) q)
  swap_point = by (swap t line)
    where
      by : IsSwap t line (swapped t line) → object_states_of (places ((by_line now).after line v)) q ≡ run (operations (swapped t line) q) (object_states_of (places v) q)
      by (swaps.same is f) = copies_or_not line
          (λ copying e. absent_point copying e (sym (ap (copies_some t) e) ∙ f) ∙ sym (ap (λ xs. run xs (object_states_of (places v) q)) (asked_copy line copying q e)))
          (λ none. (line_point now line (line_is_plain line safe.is none) v shape quiet).point q plain)
          ∙ sym (ap (λ (l : Line). run (operations l q) (object_states_of (places v) q)) is)
      by (swaps.directory copying e there is) =
          present_point copying e there ∙ parent_done (is_prefix q (path_in line.path)) (object_states_of (places v) q)
          ∙ sym (ap (λ xs. run xs (object_states_of (places v) q)) (asked_there copying e there is))

  -- and on its way
  pub swap_way : (u : Files) → OnWayOf line now v u → IsMidway (swapped t line) q (object_states_of (places v) q) (object_states_of (places u) q)
  swap_way u (copy_before copying e before) = by (swap t line)
    where
      there : is_some (object_states_of (places t) copying.source) ≡ true
      there = sym (alike copying e) ∙ object_state_some (places v copying.source) ∙ before.0

      at : swapped t line ≡ object_state_directory line → IsCopyMidway (path_in line.path) copying (turn_of line copying now v) q (object_states_of (places v) q) (object_states_of (places u) q) → IsMidway (swapped t line) q (object_states_of (places v) q) (object_states_of (places u) q)
      at is (kept f) = IsMidway.piece 0 f
      at is (parent high differ none f) = IsMidway.piece 1 (
          f ∙ ap (λ c. run (Make parent_object_state ∷ []) c) (sym none)
          ∙ sym (ap (λ xs. run (take 1 (parts xs)) (object_states_of (places v) q)) (asked_there copying e there is ∙ ap (λ b. cond b (Make parent_object_state ∷ []) []) high)))
      at is (some_set k same turn f) = absurd (true_not_false (is_prefix (path_in line.path) q) (ap (is_prefix (path_in line.path)) same ∙ is_prefix-refl (path_in line.path)) (outside copying e there))
      at is (gone subtree low turn f) = absurd (true_not_false (is_prefix (path_in line.path) q) low (outside copying e there))

      by : IsSwap t line (swapped t line) → IsMidway (swapped t line) q (object_states_of (places v) q) (object_states_of (places u) q)
      by (swaps.same is f) = impossible (sym (sym (ap (copies_some t) e) ∙ f) ∙ there)
      by (swaps.directory c f g is) = at is (before.1 q plain)
  swap_way u (copy_done copying e whole) = IsMidway.piece (whole_length (parts (operations (swapped t line) q))).0 (
      sym (object_states_of-same (places ((by_line now).after line v)) (places u) q (whole q plain))
      ∙ swap_point ∙ sym (run-parts (operations (swapped t line) q) (object_states_of (places v) q))
      ∙ ap (λ xs. run xs (object_states_of (places v) q)) (sym (whole_length (parts (operations (swapped t line) q))).1))
    where
      whole_length : (xs : List Operation) → (k : ℕ) × (take k xs ≡ xs)
      whole_length [] = (0, refl)
      whole_length (x ∷ xs) = let rest = whole_length xs in (suc rest.0, ap (λ ys. x ∷ ys) rest.1)
  swap_way u (other none way) = by (swap t line)
    where
      by : IsSwap t line (swapped t line) → IsMidway (swapped t line) q (object_states_of (places v) q) (object_states_of (places u) q)
      by (swaps.same is f) = subst (λ (l : Line). IsMidway l q (object_states_of (places v) q) (object_states_of (places u) q)) (sym is) (way q plain)
      by (swaps.directory copying e there is) = absurd (let no : Some copying.source ≡ None = sym (ap copied e) ∙ none in cc)

  -- what another line copies is there as before
  still_alike : (l : Line) → IsSafe l → IsFreeOf line l → IsThereAlike t v l → IsThereAlike t ((by_line now).after line v) l
  still_alike l is free same copying e =
      ap is_some ((each_kept now line safe.is v shape).frame copying.source (copy_source l is.is copying e) (free copying e)) ∙ same copying e

  pub all_alike : (lines : List Line) → AllByRecursion IsSafe lines → AllByRecursion (IsFreeOf line) lines → AllByRecursion (IsThereAlike t v) lines → AllByRecursion (IsThereAlike t ((by_line now).after line v)) lines
  all_alike [] is free same = tt
  all_alike (l ∷ lines) is free same = (still_alike l is.0 free.0 same.0, all_alike lines is.1 free.1 same.1)

-- ---- lines one after the other

module _ (t : Files) (q : Path) (plain : has_staging q ≡ false) (now : ℕ) where
  pub swaps_point : (lines : List Line) → AllByRecursion IsSafe lines → AllByRecursion (IsOutside t q) lines → Pairwise IsFreeOf lines → (v : Files) → IsShaped (object_states_of (places v)) → AllByRecursion (IsThereAlike t v) lines → one_is_refused (by_line now) lines v ≡ false
      → object_states_of (places (after_each (by_line now) lines v)) q ≡ run (operations_of (map (swapped t) lines) q) (object_states_of (places v) q)
  swaps_point [] safe outside free v shape alike quiet = refl
  swaps_point (line ∷ lines) safe outside free v shape alike quiet =
      let two = or_parts ((by_line now).is_refused line v) (one_is_refused (by_line now) lines ((by_line now).after line v)) quiet in
      swaps_point lines safe.1 outside.1 free.1 ((by_line now).after line v) (line_pointed now line safe.0 v shape two.0).shape
      (all_alike t q plain now line safe.0 outside.0 v shape alike.0 two.0 lines safe.1 free.0 alike.1) two.1
      ∙ ap (run (operations_of (map (swapped t) lines) q)) (swap_point t q plain now line safe.0 outside.0 v shape alike.0 two.0 ∙ sym (run-parts (operations (swapped t line) q) (object_states_of (places v) q)))
      ∙ sym (run-append (parts (operations (swapped t line) q)) (operations_of (map (swapped t) lines) q) (object_states_of (places v) q))

  pub swaps_way : (lines : List Line) → AllByRecursion IsSafe lines → AllByRecursion (IsOutside t q) lines → Pairwise IsFreeOf lines → (v u : Files) → IsShaped (object_states_of (places v)) → AllByRecursion (IsThereAlike t v) lines → one_is_refused (by_line now) lines v ≡ false
      → PartwayOf lines now v u → IsPiece (map (swapped t) lines) q (object_states_of (places v) q) (object_states_of (places u) q)
  swaps_way [] safe outside free v u shape alike quiet same = IsPiece.piece 0 (sym (object_states_of-same (places v) (places u) q (same q plain)))
  swaps_way (line ∷ lines) safe outside free v u shape alike quiet (inl way) =
      let two = or_parts ((by_line now).is_refused line v) (one_is_refused (by_line now) lines ((by_line now).after line v)) quiet in
      midway_piece (swapped t line) (map (swapped t) lines) q (object_states_of (places v) q) (object_states_of (places u) q) (swap_way t q plain now line safe.0 outside.0 v shape alike.0 two.0 u way)
  swaps_way (line ∷ lines) safe outside free v u shape alike quiet (inr later) =
      let two = or_parts ((by_line now).is_refused line v) (one_is_refused (by_line now) lines ((by_line now).after line v)) quiet in
      later_piece (swapped t line) (map (swapped t) lines) q (object_states_of (places v) q) (object_states_of (places u) q) (
      subst (λ b. IsPiece (map (swapped t) lines) q b (object_states_of (places u) q)) (swap_point t q plain now line safe.0 outside.0 v shape alike.0 two.0 ∙ sym (run-parts (operations (swapped t line) q) (object_states_of (places v) q)))
      (swaps_way lines safe.1 outside.1 free.1 ((by_line now).after line v) u (line_pointed now line safe.0 v shape two.0).shape
      (all_alike t q plain now line safe.0 outside.0 v shape alike.0 two.0 lines safe.1 free.0 alike.1) two.1 later))
