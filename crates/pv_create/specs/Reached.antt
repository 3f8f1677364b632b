-- Adjusting everything that a line reaches from a path: its steps, and the intermediate states (tmpfiles.d(5)).
use Rattle.std.specs.Prelude.{◌≡◌, ℕ, Bool, true, cond, ◌&&◌, List, take, Option, is_some}
use Rattle.std.specs.declared.cmp.Ordering.TheVariants.{Less, Greater}
use Rattle.pv_path.specs.Paths.{Path, path_cmp}
use Rattle.pv_steps.specs.declared.step.Step.{Step}
use Rattle.pv_steps.specs.Trees.{Files, places, IsPresent}
use Rattle.pv_walk.specs.declared.object_state.ObjectState.{ObjectState}
use Rattle.pv_walk.specs.declared.operation.Operation.{Operation}
use Rattle.pv_walk.specs.Dividing.{parts}
use Rattle.pv_walk.specs.Nodes.{object_states_of}
use Rattle.pv_walk.specs.Operations.{run}
use Rattle.pv_walk.specs.Listing.{times}
use Rattle.pv_table.specs.declared.action.Adjustment.{Adjustment}
use Rattle.pv_table.specs.Effects.{is_adjusted}
use Rattle.pv_create.specs.Adjusting.{GivesSet}

-- An intermediate state of one object, timestamps aside. It is as it was, or the line reaches it and the first k of
-- the changes are done.
pub data IsPartSet (reached : Bool) (sets : List Operation) (old new : Option ObjectState) : Type 0 where
  kept : new ≡ old → IsPartSet reached sets old new
  set : (k : ℕ) → reached ≡ true → new ≡ run (take k (parts sets)) old → IsPartSet reached sets old new

-- Each path is in such a state.
abbrev pub AdjustingReached : Adjustment → Path → Files → Files → Type 0
AdjustingReached adjustment path t u = (q : Path) → IsPartSet (is_adjusted adjustment path q) adjustment.sets (object_states_of (places t) q) (object_states_of (places u) q)

-- An intermediate state in byte order of paths, so a directory comes before what is below it. One path is at work.
-- All paths before it that the line reaches have all changes, and those after it are as they were.
pub record AdjustingInOrder (adjustment : Adjustment) (path : Path) (t u : Files) : Type 0 where
  pub each : AdjustingReached adjustment path t u
  pub at : Path
  pub before : (q : Path) → path_cmp q at ≡ Less → IsPresent t q → is_adjusted adjustment path q ≡ true → object_states_of (places u) q ≡ run adjustment.sets (object_states_of (places t) q)
  pub after : (q : Path) → path_cmp q at ≡ Greater → object_states_of (places u) q ≡ object_states_of (places t) q

-- A step gives an object that the line reaches one part of what it has after all changes.
pub record GivesReached (adjustment : Adjustment) (path : Path) (t : Files) (step : Step) : Type 0 where
  pub at : Path
  pub reached : is_adjusted adjustment path at ≡ true
  pub gives : GivesSet at adjustment.sets t step

-- A list of the existing paths that the line reaches, each once.
abbrev pub IsReached : Adjustment → Path → Files → List Path → Type 0
IsReached adjustment path t paths = (q : Path) → times q paths ≡ cond (is_adjusted adjustment path q && is_some (places t q)) 1 0
