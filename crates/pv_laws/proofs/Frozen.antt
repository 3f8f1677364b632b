-- Where no line has a hazard, what lines copy stays as it is.
use Rattle.std.specs.Prelude.{◌≡◌, ℕ, true, false, List, [], ◌∷◌, Some, map, slice_get, ◌+◌}
use Rattle.std.proofs.Common.{ap, arith}
use Rattle.std.proofs.lemmas.Bool.{false_from_ne_true}
use Rattle.std.specs.List.{AllByRecursion, enumerate_from}
use Rattle.pv_path.specs.Paths.{Path, is_prefix, has_names, has_staging}
use Rattle.pv_steps.specs.Trees.{Files, places, IsTree}
use Rattle.pv_walk.specs.Nodes.{object_states_of}
use Rattle.pv_lines.specs.declared.line.Line.{Line}
use Rattle.pv_lines.specs.Lines.{IsLine}
use Rattle.pv_table.specs.declared.reason.Reason.TheVariants as reason
use Rattle.pv_table.specs.Active.{Listed, ordered, in_create_order}
use Rattle.pv_table.specs.ActionTable.{action_of}
use Rattle.pv_table.specs.Created.{created}
use Rattle.pv_table.specs.Reaching.{governs}
use Rattle.pv_table.specs.Repeatable.{IsAt, HasReason, IsRepeatable}
use Rattle.pv_table.specs.Turns.{copied}
use Rattle.pv_laws.specs.Copying.{PartwayOf}
use Rattle.pv_laws.proofs.AllFrames.{frame_after, frame_partway}
use Rattle.pv_table.proofs.ListedLaws.{all_ordered, all_at, all_in_order}
use Rattle.pv_laws.proofs.Shapes.{tree_shaped}

module _ (lines : List Line) (are : AllByRecursion IsLine lines) (repeatable : IsRepeatable lines) (source : Path) where
  -- no line governs what is copied
  not_governed : (j : ℕ) (copier : Line) → IsAt lines j copier → copied (action_of copier) ≡ Some source → (q : Path) → is_prefix source q ≡ true → has_names q ≡ true
      → (all : List Listed) → AllByRecursion (λ (line : Listed). IsAt lines line.0 line.1) all → AllByRecursion (λ (line : Line). governs line q ≡ false) (map (λ (line : Listed). line.1) all)
  not_governed j copier there copies q under named [] h = tt
  not_governed j copier there copies q under named (line ∷ all) h = (false_from_ne_true _ (λ e. repeatable line.0 reason.Source (HasReason.source line.1 copier j source q h.0 there copies under named e)), not_governed j copier there copies q under named all h.1)

  module _ (j : ℕ) (copier : Line) (there : IsAt lines j copier) (copies : copied (action_of copier) ≡ Some source) (q : Path) (under : is_prefix source q ≡ true) (named : has_names q ≡ true) where
    pub away_all : AllByRecursion (λ (line : Line). governs line q ≡ false) (in_create_order lines)
    away_all = not_governed j copier there copies q under named (ordered (enumerate_from 0 lines)) (
        all_ordered (λ (line : Listed). IsAt lines line.0 line.1) (enumerate_from 0 lines) (all_at lines lines 0 (λ i. (let same : 0 + i ≡ i = omega arith in ap (slice_get lines) same))))

    module _ (plain : has_staging q ≡ false) (now : ℕ) (t : Files) (tree : IsTree t) where
      pub source_after : object_states_of (places (created lines now t)) q ≡ object_states_of (places t) q
      source_after = frame_after now q plain (in_create_order lines) (all_in_order IsLine lines are) away_all t (tree_shaped (places t) tree)

      pub source_partway : (u : Files) → PartwayOf (in_create_order lines) now t u → object_states_of (places u) q ≡ object_states_of (places t) q
      source_partway u way = frame_partway now q plain (in_create_order lines) (all_in_order IsLine lines are) away_all t u (tree_shaped (places t) tree) way
