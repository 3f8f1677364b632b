-- What a run on a folder asks of a host, change by change, and what the folder holds between two changes (this
-- project's own).
use Rattle.std.specs.Prelude.{◌≡◌, ◌≢◌, ℕ, false, List, [], ◌∷◌, ◌++◌, take, Some}
use Rattle.std.specs.Option.{option_and_then, option_to_list}
use Rattle.std.specs.FinMap as fin
use Rattle.pv_path.specs.Paths.{Path, is_prefix}
use Rattle.pv_steps.specs.declared.step.Step.{Step}
use Rattle.pv_steps.specs.Trees.{Files, places, tabulate}
use Rattle.pv_steps.specs.Steps.{Can, StepFits, after}
use Rattle.pv_steps.specs.Runs.{after_all}
use Rattle.pv_folder.specs.Content.{Change, Held}
use Rattle.pv_folder.specs.Content as host
use Rattle.pv_folder.specs.Folders.{Agrees, IsSameElse, manifest_path, new_manifest_path, object_of, real_of, tree_path}
use Rattle.pv_folder.specs.Keeping.{change_for}

-- ---- what is asked

-- The changes that steps ask of a host, one after the other, all with the time `now`: at most one for each step.
-- `top` is the path of the folder's `tree`.
abbrev pub changes_of : Path → Files → List Step → ℕ → List Change
changes_of top t [] now = []
changes_of top t (step ∷ steps) now = option_to_list (change_for top (places t) step) ++ changes_of top (after t step now) steps now

-- The two changes that close a folder: a manifest is written as `manifest.new`, and then renamed to `manifest`.
abbrev pub closing : Path → List ℕ → List Change
closing folder text = host.WriteFile (new_manifest_path folder) text ∷ host.Rename (new_manifest_path folder) (manifest_path folder) ∷ []

-- All changes that a run asks of a host: those of its steps on the folder's tree, and then those of closing.
abbrev pub run_changes : Path → Files → List Step → ℕ → List ℕ → List Change
run_changes folder t steps now text = changes_of (tree_path folder) t steps now ++ closing folder text

-- These steps can be done one after the other.
abbrev pub CanBeDone : Files → List Step → ℕ → Type 0
CanBeDone t [] now = Unit {0}
CanBeDone t (step ∷ steps) now = Can (places t) step × (StepFits step × CanBeDone (after t step now) steps now)

-- ---- what the folder then holds

-- What a folder holds at some moment of such a run. Its `tree` has exactly the directories and files of the tree
-- after some of the steps, and nothing else has changed. Or it has those of the tree after all steps, and beside it
-- only `manifest.new` has changed. Or `manifest` is the new one, and only `manifest.new` may have changed too.
pub data IsBetween (folder : Path) (t : Files) (steps : List Step) (now : ℕ) (text : List ℕ) (old new : Held) : Type 0 where
  in_steps : (n : ℕ) → Agrees folder (after_all t (take n steps) now) new → IsSameElse folder old new → IsBetween folder t steps now text old new
  in_closing : Agrees folder (after_all t steps now) new
      → ((path : Path) → is_prefix (tree_path folder) path ≡ false → path ≢ new_manifest_path folder → new path ≡ old path)
      → IsBetween folder t steps now text old new
  closed : Agrees folder (after_all t steps now) new
      → new (manifest_path folder) ≡ Some (host.File text)
      → ((path : Path) → is_prefix (tree_path folder) path ≡ false → path ≢ manifest_path folder → path ≢ new_manifest_path folder → new path ≡ old path)
      → IsBetween folder t steps now text old new

-- ---- what is found there

-- The directories and files of a tree, as if the manifest said nothing of them.
abbrev pub real_part : Files → Files
real_part t = tabulate (fin.keys t) (λ path. option_and_then object_of (real_of (places t path)))
