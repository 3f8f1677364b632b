-- Which lines share a path, and which lines have a hazard (this project's own). Carrying out lines with a hazard
-- twice may leave another tree than carrying them out once.
use Rattle.std.specs.Prelude.{◌≡◌, ◌≢◌, ◌⊎◌, ℕ, ◌<◌, Bool, true, false, ◌||◌, List, [], Option, Some, None, is_some, slice_get}
use Rattle.std.specs.List.{list_any}
use Rattle.pv_walk.specs.declared.operation.Operation.{Operation}
use Rattle.pv_walk.specs.Reasons.{is_adjusting, is_append, gives_base}
use Rattle.pv_layers.specs.Places.{is_input}
use Rattle.pv_lines.specs.declared.line.Line.{Line}
use Rattle.pv_lines.specs.declared.line.LineMode.{LineMode}
use Rattle.pv_path.specs.Paths.{Path, has_names, is_prefix}
use Rattle.pv_table.specs.declared.action.Action.{Action}
use Rattle.pv_table.specs.declared.action.Action.TheVariants.{Create, Copy, Adjust, Idle}
use Rattle.pv_table.specs.declared.reason.Reason.{Reason}
use Rattle.pv_table.specs.declared.reason.Reason.TheVariants as reason
use Rattle.pv_table.specs.declared.taking.Taking.{Taking}
use Rattle.pv_table.specs.declared.taking.Taking.TheVariants as taking
use Rattle.pv_table.specs.ActionTable.{action_of, is_writing, taking_of}
use Rattle.pv_table.specs.Reaching.{is_creating, path_in, reaches, governs}
use Rattle.pv_table.specs.Turns.{copied}

-- ---- lines that share a path

-- The line at an index of a list.
abbrev pub IsAt : List Line → ℕ → Line → Type 0
IsAt lines i line = slice_get lines i ≡ Some line

-- Both lines reach a path.
abbrev pub BothReach : Line → Line → Path → Type 0
BothReach a b q = (reaches a q ≡ true) × (reaches b q ≡ true)

-- Two lines, the first one at the lower index, both reach some path that a tree can have. The tree at hand need not
-- have it.
pub record Overlap (lines : List Line) (i j : ℕ) : Type 0 where
  pub first : Line
  pub second : Line
  pub path : Path
  pub named : has_names path ≡ true
  pub before : i < j
  pub is_first : IsAt lines i first
  pub is_second : IsAt lines j second
  pub shared : BothReach first second path

-- ---- what a line does

-- What a line sets of an existing object.
abbrev pub sets_of : Action → List Operation
sets_of (Create making) = making.sets
sets_of (Copy copying) = copying.sets
sets_of (Adjust adjustment) = adjustment.sets
sets_of Idle = []

-- Whether a line appends bytes.
abbrev pub appends : Line → Bool
appends line = list_any (is_adjusting is_append) (sets_of (action_of line))

-- Whether a line sets base entries of an access ACL: those of the owner, the owning group or all others.
abbrev pub sets_base : Line → Bool
sets_base line = list_any (is_adjusting gives_base) (sets_of (action_of line))

-- Whether a line has a masked mode (`~`), even if its type does not use the mode.
abbrev pub has_masked_mode : Line → Bool
has_masked_mode line = by line.mode
  where
    by : Option LineMode → Bool
    by None = false
    by (Some mode) = mode.masked

-- Whether a line removes the paths that it names (`r`, `R`).
abbrev pub takes_named : Taking → Bool
takes_named taking.Itself = true
takes_named taking.Whole = true
takes_named other = false

-- Whether a line may change what exists at a path or the bytes there: it makes, copies, writes bytes, removes what it
-- names, or has an age.
abbrev pub changes_content : Line → Bool
changes_content line = is_creating line || is_writing line || takes_named (taking_of line) || is_some line.age

-- ---- hazards

-- The line at an index has a hazard. Each path q is one that a tree can have.
-- - append: The line appends bytes.
-- - source: The line governs a path q at or below the source of a line that copies. Both may be the same line.
-- - below: The line makes an object below the path of a line that copies.
-- - input: The line may change the content of a path q that it governs, and q is an input path.
-- - mask: The line and an earlier one reach a path q. One of the two has a masked mode, and the other sets base
--   entries of an ACL.
pub data HasReason (lines : List Line) (i : ℕ) : Reason → Type 0 where
  append : (line : Line) → IsAt lines i line → appends line ≡ true → HasReason lines i reason.Append
  source : (line other : Line) (j : ℕ) (path q : Path) → IsAt lines i line → IsAt lines j other
      → copied (action_of other) ≡ Some path → is_prefix path q ≡ true → has_names q ≡ true → governs line q ≡ true → HasReason lines i reason.Source
  below : (line other : Line) (j : ℕ) (path : Path) → IsAt lines i line → IsAt lines j other
      → is_creating line ≡ true → copied (action_of other) ≡ Some path
      → is_prefix (path_in other.path) (path_in line.path) ≡ true → path_in other.path ≢ path_in line.path → HasReason lines i reason.Below
  input : (line : Line) (q : Path) → IsAt lines i line → changes_content line ≡ true → is_input q ≡ true → has_names q ≡ true → governs line q ≡ true
      → HasReason lines i reason.Input
  mask : (line other : Line) (j : ℕ) (q : Path) → IsAt lines i line → IsAt lines j other → j < i → has_names q ≡ true → BothReach other line q
      → ((has_masked_mode other ≡ true) × (sets_base line ≡ true)) ⊎ ((sets_base other ≡ true) × (has_masked_mode line ≡ true))
      → HasReason lines i reason.Mask

-- No line has a hazard.
abbrev pub IsRepeatable : List Line → Type 0
IsRepeatable lines = (i : ℕ) (r : Reason) → HasReason lines i r → ⊥
