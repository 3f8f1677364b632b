-- Putting a new object at a path, and the intermediate states of this (rename(2)).
use Rattle.std.specs.Prelude.{◌≡◌, ◌⊎◌, ℕ, false, Option, Some, None}
use Rattle.pv_path.specs.Paths.{Path, has_staging, staging_of}
use Rattle.pv_steps.specs.declared.object.Object.{Object}
use Rattle.pv_steps.specs.declared.step.Step.{Step}
use Rattle.pv_steps.specs.Objects.{object_state}
use Rattle.pv_steps.specs.Trees.{Files, Places, places}
use Rattle.pv_steps.specs.Steps.{made}
use Rattle.pv_steps.specs.Same.{object_states}
use Rattle.pv_walk.specs.Edits.{cut}
use Rattle.pv_walk.specs.declared.new_file.NewFile.{NewFile}
use Rattle.pv_walk.specs.Staging.{new_object, GivesNew, IsPublishing}

-- ---- where nothing is

-- At the path q there is what was there before. Or q is the path, nothing was there, and the new object is there.
pub data IsPutting (path : Path) (file : NewFile) (q : Path) (old new : Option Object) : Type 0 where
  kept : new ≡ old → IsPutting path file q old new
  put : q ≡ path → old ≡ None → new ≡ Some (object_state (new_object file 0)) → IsPutting path file q old new

-- An intermediate state of putting a new object at a path: this holds at each path that has no staging name.
-- Timestamps are left out.
abbrev pub Putting : Path → NewFile → Files → Files → Type 0
Putting path file t u = (q : Path) → has_staging q ≡ false → IsPutting path file q (object_states (places t) q) (object_states (places u) q)

-- A step contributes to making the new object at the staging path, or to publishing it.
abbrev pub IsPutStep : Path → NewFile → Step → Type 0
IsPutStep path file step = GivesNew (staging_of path) file step ⊎ IsPublishing path step

-- ---- where something may be

-- The objects after a new one was put at a path in place of all at and below it.
abbrev pub put_over : ℕ → Path → NewFile → Places → Places
put_over now path file t = made now path (new_object file now) (cut path t)
