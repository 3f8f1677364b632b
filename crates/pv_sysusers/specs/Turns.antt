-- The order in which new account files are staged: one after the other. Each one gets its text before its owners,
-- mode, ACL, extended attributes and file attribute flags (`IsStage` of pv_walk).
use Rattle.std.specs.Prelude.{◌≡◌, ◌⊎◌, true, List, [], ◌∷◌, map, Some, ⊤}
use Rattle.std.specs.List.{AllByRecursion}
use Rattle.pv_walk.specs.Edits.{Pruned, SameOutside}
use Rattle.pv_walk.specs.Nodes.{object_state_of, object_states_of}
use Rattle.pv_path.specs.Paths.{Path, is_prefix, staging_of}
use Rattle.pv_steps.specs.Objects.{object_state}
use Rattle.pv_steps.specs.Same.{object_states}
use Rattle.pv_steps.specs.Trees.{Files, Places, places, IsAbsentIn}
use Rattle.pv_walk.specs.Removal.{is_below}
use Rattle.pv_walk.specs.Stages.{IsAtStage}
use Rattle.pv_walk.specs.Staging.{is_under_any}
use Rattle.pv_sysusers.specs.declared.edit.Edit.{Edit}
use Rattle.pv_sysusers.specs.FileWriting.{IsStagedWhole, swept_names}
use Rattle.pv_sysusers.specs.Edits.{IsFree, edited}
use Rattle.pv_layers.specs.Places.{etc}

-- At the staging name there is nothing, or a stage of the new file.
abbrev pub IsInStages : Edit → Places → Type 0
IsInStages edit u = IsAtStage (Some (object_state_of (edited 0 edit))) (object_states_of u (staging_of edit.path))

-- The new file is complete at its staging name. Or it is at its path, and nothing is at its staging name.
abbrev pub IsThere : Edit → Places → Type 0
IsThere edit u = IsStagedWhole u edit ⊎ ((object_states u edit.path ≡ Some (object_state (edited 0 edit))) × IsFree u edit)

-- The first new files are complete. The next one may be in stages. Nothing is at the staging names of the others.
abbrev pub AreInTurn : List Edit → Places → Type 0
AreInTurn [] u = ⊤
AreInTurn (edit ∷ edits) u = (IsThere edit u × AreInTurn edits u) ⊎ (IsInStages edit u × AllByRecursion (IsFree u) edits)

-- The same for a tree.
abbrev pub InTurn : List Edit → Files → Type 0
InTurn edits u = AreInTurn edits (places u)

-- An intermediate state, timestamps aside. Either some of what earlier runs have staged is removed, and nothing else
-- has changed. Or the new files are staged in turn.
abbrev pub TurnWay : List Edit → Files → Files → Type 0
TurnWay edits t u = Pruned (is_under_any swept_names) t u ⊎ InTurn edits u

-- ---- within one call

-- An intermediate state of staging one file.
pub record StagingOne (edit : Edit) (t u : Files) : Type 0 where
  pub outside : SameOutside (is_prefix (staging_of edit.path)) t u
  pub stages : IsInStages edit (places u)

-- The staging names of some files.
abbrev pub stages_of : List Edit → List Path
stages_of edits = map (λ edit. staging_of edit.path) edits

-- An intermediate state of staging some files.
pub record StagingSome (edits : List Edit) (t u : Files) : Type 0 where
  pub outside : SameOutside (is_under_any (stages_of edits)) t u
  pub turn : InTurn edits u

-- A path below `/etc` that had no object still has none.
abbrev pub NoneComes : Files → Files → Type 0
NoneComes t u = (q : Path) → is_below etc q ≡ true → IsAbsentIn (places t) q → IsAbsentIn (places u) q
