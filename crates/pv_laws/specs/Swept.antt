-- What a run of lines leaves at staging names (tmpfiles.d(5)).
use Rattle.std.specs.Prelude.{◌≡◌, ◌≢◌, ◌⊎◌, ℕ, true, List, []}
use Rattle.pv_lines.specs.declared.line.Line.{Line}
use Rattle.pv_path.specs.Paths.{Path, is_prefix, staging_of}
use Rattle.pv_steps.specs.Trees.{Files, places, IsAbsentIn}
use Rattle.pv_table.specs.declared.action.Copying.{Copying}
use Rattle.pv_table.specs.declared.action.Action.TheVariants.{Create, Copy}
use Rattle.pv_table.specs.declared.action.Making.{Making}
use Rattle.pv_table.specs.Active.{in_create_order}
use Rattle.pv_table.specs.ActionTable.{action_of}
use Rattle.pv_table.specs.Reaching.{path_in}
use Rattle.pv_laws.specs.CarryingOut.{IsCarriedOut}

-- A line makes or copies an object.
abbrev pub PutsObject : Line → Type 0
PutsObject line = ((making : Making) × (action_of line ≡ Create making)) ⊎ ((copying : Copying) × (action_of line ≡ Copy copying))

-- After a run, nothing is left at the staging names along the path of a line that makes or copies. This holds of each
-- such line that was refused at no path, and whose source, if it copies, existed.
abbrev pub LeavesNoStagingName : List Line → ℕ → Files → Files → Type 0
LeavesNoStagingName lines now t u = (line : Line) (place : Path) → PutsObject line → IsCarriedOut line (in_create_order lines) now t →
    is_prefix place (path_in line.path) ≡ true → place ≢ [] → IsAbsentIn (places u) (staging_of place)
