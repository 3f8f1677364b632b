-- What lines that are carried out after one that copies leave at and below its path.
use Rattle.std.specs.Prelude.{◌≡◌, ◌⊎◌, ℕ, true, false, ◌&&◌, List, [], ◌∷◌, take, None}
use Rattle.std.proofs.Common.{refl, sym, ap, ◌∙◌, inl, inr}
use Rattle.std.specs.List.{list_all, AllByRecursion}
use Rattle.std.proofs.lemmas.List.Folds.{list_all-append}
use Rattle.std.proofs.lemmas.Bool.{or_parts}
use Rattle.pv_path.specs.Paths.{Path, is_prefix, has_staging}
use Rattle.pv_steps.specs.Trees.{Files, places}
use Rattle.pv_walk.specs.Dividing.{parts}
use Rattle.pv_walk.specs.Nodes.{object_states_of}
use Rattle.pv_walk.specs.Operations.{run}
use Rattle.pv_walk.proofs.Dividing.{run-parts}
use Rattle.pv_walk.proofs.OperationLaws.{object_states_of-same, run-append}
use Rattle.pv_lines.specs.declared.line.Line.{Line}
use Rattle.pv_table.specs.Active.{is_adjusting_line}
use Rattle.pv_table.specs.Asked.{operations, operations_of}
use Rattle.pv_table.specs.ActionTable.{action_of}
use Rattle.pv_table.specs.Created.{by_line}
use Rattle.pv_steps.specs.Doing.{after_each, one_is_refused}
use Rattle.pv_table.specs.Reaching.{path_in}
use Rattle.pv_table.specs.Turns.{copied}
use Rattle.pv_laws.specs.Copying.{OnWayOf, copy_before, copy_done, other, PartwayOf}
use Rattle.pv_laws.specs.Stopping.{IsMidway}
use Rattle.pv_laws.proofs.AllPoints.{IsSafe, line_pointed}
use Rattle.pv_laws.proofs.Lines.{copies_or_not, line_is_plain, line_point}
use Rattle.pv_laws.proofs.Making.{IsShaped}
use Rattle.pv_laws.proofs.Regions.{IsBeside, IsClearing, asks_there, beside_after, beside_way}
use Rattle.pv_laws.proofs.Repeated.{adjuster_adjusts, create_adjusts_not, copy_adjusts_not}
use Rattle.pv_laws.proofs.Sets.{impossible, is_adjustment}
use Rattle.pv_laws.proofs.Stops.{take_front, take_after}
use Rattle.pv_laws.proofs.Ways.{parts_adjust}
use Rattle.pv_path.proofs.Tests.{true_not_false}

-- a line that may be carried out after one that copies to a path: it adjusts, or it makes or copies an object neither above
-- the path, nor at it, nor below it
pub data IsAfter (p : Path) (line : Line) : Type 0 where
  adjusts : is_adjusting_line line ≡ true → IsAfter p line
  beside : IsBeside p line → is_prefix (path_in line.path) p ≡ false → IsAfter p line

-- a line that adjusts copies nothing
pub adjuster_plain : (line : Line) (q : Path) → is_adjusting_line line ≡ true → copied (action_of line) ≡ None
adjuster_plain line q h = copies_or_not line (λ copying e. impossible (sym (copy_adjusts_not q line copying e) ∙ h)) (λ none. none)

module _ (p : Path) (line : Line) (q : Path) (under : is_prefix p q ≡ true) where
  pub asks_none : IsBeside p line → is_prefix (path_in line.path) p ≡ false → operations line q ≡ []
  asks_none is low = by (asks_there p line is q under)
    where
      by : (operations line q ≡ []) ⊎ IsClearing p line → operations line q ≡ []
      by (inl e) = e
      by (inr clearing) = absurd (true_not_false (is_prefix (path_in line.path) p) clearing.above low)

  -- it adjusts the object there, or asks for nothing
  pub after_adjusts : IsAfter p line → list_all is_adjustment (operations line q) ≡ true
  after_adjusts (adjusts h) = adjuster_adjusts q line h
  after_adjusts (beside is low) = ap (list_all is_adjustment) (asks_none is low)

  module _ (now : ℕ) (safe : IsSafe line) (t : Files) (shape : IsShaped (object_states_of (places t))) (quiet : (by_line now).is_refused line t ≡ false) (plain : has_staging q ≡ false) where
    after_point : IsAfter p line → object_states_of (places ((by_line now).after line t)) q ≡ run (operations line q) (object_states_of (places t) q)
    after_point (adjusts h) = (line_point now line (line_is_plain line safe.is (adjuster_plain line q h)) t shape quiet).point q plain
    after_point (beside is low) = by (beside_after now p line safe is t shape quiet q plain under)
      where
        by : (object_states_of (places ((by_line now).after line t)) q ≡ object_states_of (places t) q) ⊎ IsClearing p line → object_states_of (places ((by_line now).after line t)) q ≡ run (operations line q) (object_states_of (places t) q)
        by (inl e) = e ∙ sym (ap (λ xs. run xs (object_states_of (places t) q)) (asks_none is low))
        by (inr clearing) = absurd (true_not_false (is_prefix (path_in line.path) p) clearing.above low)

    -- on its way the first of its operations are done there
    after_way : IsAfter p line → (u : Files) → OnWayOf line now t u → (k : ℕ) × (object_states_of (places u) q ≡ run (take k (parts (operations line q))) (object_states_of (places t) q))
    after_way (beside is low) u way = by (beside_way now p line safe is t shape quiet q plain under u way)
      where
        by : (object_states_of (places u) q ≡ object_states_of (places t) q) ⊎ IsClearing p line → (k : ℕ) × (object_states_of (places u) q ≡ run (take k (parts (operations line q))) (object_states_of (places t) q))
        by (inl e) = (0, e)
        by (inr clearing) = absurd (true_not_false (is_prefix (path_in line.path) p) clearing.above low)
    after_way (adjusts h) u (copy_before copying e before) = impossible (sym (copy_adjusts_not q line copying e) ∙ h)
    after_way (adjusts h) u (copy_done copying e whole) = impossible (sym (copy_adjusts_not q line copying e) ∙ h)
    after_way (adjusts h) u (other none way) = by (way q plain)
      where
        by : IsMidway line q (object_states_of (places t) q) (object_states_of (places u) q) → (k : ℕ) × (object_states_of (places u) q ≡ run (take k (parts (operations line q))) (object_states_of (places t) q))
        by (IsMidway.piece k f) = (k, f)
        by (IsMidway.gap b s renewal f) = impossible (sym (create_adjusts_not q line renewal.making renewal.makes) ∙ h)

-- ---- one after the other

-- what lines leave has the shape that the laws need
pub all_shaped : (now : ℕ) (lines : List Line) → AllByRecursion IsSafe lines → (t : Files) → IsShaped (object_states_of (places t)) → one_is_refused (by_line now) lines t ≡ false → IsShaped (object_states_of (places (after_each (by_line now) lines t)))
all_shaped now [] safe t shape quiet = shape
all_shaped now (line ∷ lines) safe t shape quiet =
    let two = or_parts ((by_line now).is_refused line t) (one_is_refused (by_line now) lines ((by_line now).after line t)) quiet in
    all_shaped now lines safe.1 ((by_line now).after line t) (line_pointed now line safe.0 t shape two.0).shape two.1

module _ (p q : Path) (under : is_prefix p q ≡ true) where
  pub all_adjust : (lines : List Line) → AllByRecursion (IsAfter p) lines → list_all is_adjustment (operations_of lines q) ≡ true
  all_adjust [] after = refl
  all_adjust (line ∷ lines) after =
      list_all-append is_adjustment (parts (operations line q)) (operations_of lines q)
      ∙ ap (λ b. b && list_all is_adjustment (operations_of lines q)) (parts_adjust (operations line q) (after_adjusts p line q under after.0))
      ∙ all_adjust lines after.1

  module _ (now : ℕ) (plain : has_staging q ≡ false) where
    pub later_point : (lines : List Line) → AllByRecursion IsSafe lines → AllByRecursion (IsAfter p) lines → (t : Files) → IsShaped (object_states_of (places t)) → one_is_refused (by_line now) lines t ≡ false
        → object_states_of (places (after_each (by_line now) lines t)) q ≡ run (operations_of lines q) (object_states_of (places t) q)
    later_point [] safe after t shape quiet = refl
    later_point (line ∷ lines) safe after t shape quiet =
        let two = or_parts ((by_line now).is_refused line t) (one_is_refused (by_line now) lines ((by_line now).after line t)) quiet in
        later_point lines safe.1 after.1 ((by_line now).after line t) (line_pointed now line safe.0 t shape two.0).shape two.1
        ∙ ap (run (operations_of lines q)) (after_point p line q under now safe.0 t shape two.0 plain after.0 ∙ sym (run-parts (operations line q) (object_states_of (places t) q)))
        ∙ sym (run-append (parts (operations line q)) (operations_of lines q) (object_states_of (places t) q))

    -- on their way the first of their operations are done there
    pub later_way : (lines : List Line) → AllByRecursion IsSafe lines → AllByRecursion (IsAfter p) lines → (t u : Files) → IsShaped (object_states_of (places t)) → one_is_refused (by_line now) lines t ≡ false → PartwayOf lines now t u
        → (k : ℕ) × (object_states_of (places u) q ≡ run (take k (operations_of lines q)) (object_states_of (places t) q))
    later_way [] safe after t u shape quiet same = (0, sym (object_states_of-same (places t) (places u) q (same q plain)))
    later_way (line ∷ lines) safe after t u shape quiet (inl way) =
        let two = or_parts ((by_line now).is_refused line t) (one_is_refused (by_line now) lines ((by_line now).after line t)) quiet in
        let some = after_way p line q under now safe.0 t shape two.0 plain after.0 u way in
        let front = take_front some.0 (parts (operations line q)) (operations_of lines q) in
        (front.0, some.1 ∙ ap (λ xs. run xs (object_states_of (places t) q)) (sym front.1))
    later_way (line ∷ lines) safe after t u shape quiet (inr later) =
        let two = or_parts ((by_line now).is_refused line t) (one_is_refused (by_line now) lines ((by_line now).after line t)) quiet in
        let some = later_way lines safe.1 after.1 ((by_line now).after line t) u (line_pointed now line safe.0 t shape two.0).shape two.1 later in
        let back = take_after some.0 (parts (operations line q)) (operations_of lines q) in (
          back.0,
          some.1
              ∙ ap (run (take some.0 (operations_of lines q))) (after_point p line q under now safe.0 t shape two.0 plain after.0 ∙ sym (run-parts (operations line q) (object_states_of (places t) q)))
              ∙ sym (run-append (parts (operations line q)) (take some.0 (operations_of lines q)) (object_states_of (places t) q))
              ∙ ap (λ xs. run xs (object_states_of (places t) q)) (sym back.1),
        )
