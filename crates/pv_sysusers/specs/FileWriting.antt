-- What is done to the account files of a tree (systemd-sysusers(8)). First the staging names of earlier runs are
-- removed. Then `/etc` is made if there is none. Then the files whose texts change are replaced.
use Rattle.std.specs.Prelude.{◌≡◌, ◌≢◌, ◌⊎◌, ◌≤◌, ℕ, ◌+◌, ◌*◌, true, false, List, [], ◌∷◌, codes, length, map, take, drop, fold, Some, None, is_some, if◌then◌else◌}
use Rattle.std.specs.List.{AllByRecursion}
use Rattle.pv_layers.specs.Places.{etc, group_path, passwd_path}
use Rattle.pv_path.specs.Paths.{Path, is_prefix, has_staging, staging_of}
use Rattle.pv_steps.specs.declared.node.Kind.TheVariants.{File}
use Rattle.pv_steps.specs.declared.step.Step.{Step}
use Rattle.pv_steps.specs.Content.{Removes}
use Rattle.pv_steps.specs.Objects.{object_state}
use Rattle.pv_steps.specs.Trees.{Files, Places, places, kind_of, IsAbsentIn}
use Rattle.pv_steps.specs.Same.{Same, object_states}
use Rattle.pv_walk.specs.Edits.{all_taken}
use Rattle.pv_walk.specs.Preparing.{parent_file, with_parent}
use Rattle.pv_walk.specs.Putting.{IsPutStep}
use Rattle.pv_walk.specs.Removal.{is_one_of}
use Rattle.pv_walk.specs.Staging.{can_stage, is_under_any, staging_names}
use Rattle.pv_sysusers.specs.declared.edit.Edit.{Edit}
use Rattle.pv_sysusers.specs.Edits.{IsEdit, IsOfSome, PublishesEdit, StagesEdit, edited, most_edited, with_edit}

-- ---- the account files

-- The paths of `/etc/gshadow` and `/etc/shadow`.
abbrev pub gshadow_path : Path
gshadow_path = codes "etc" ∷ codes "gshadow" ∷ []

abbrev pub shadow_path : Path
shadow_path = codes "etc" ∷ codes "shadow" ∷ []

-- The account files, in the order in which they are staged and published.
abbrev pub account_paths : List Path
account_paths = group_path ∷ gshadow_path ∷ shadow_path ∷ passwd_path ∷ []

-- The staging names of `/etc` and of the account files.
abbrev pub swept_names : List Path
swept_names = map staging_of (etc ∷ account_paths)

-- ---- what it leaves, timestamps included

-- If some text changes, and there is no `/etc`, it is made.
abbrev pub with_directory : ℕ → List Edit → Places → Places
with_directory now [] t = t
with_directory now (edit ∷ edits) t = with_parent now t etc

-- The tree without what earlier runs have staged, and with each changed text at its path.
abbrev pub carried_out : ℕ → List Edit → Places → Places
carried_out now edits t = fold (with_edit now) (with_directory now edits (all_taken now swept_names t)) edits

-- At most how many steps make `/etc`: make it, set its mode, and rename it into place.
abbrev pub most_directory : ℕ
most_directory = 3

-- At most how many steps are taken for `/etc`. If it exists, there are none.
abbrev pub directory_steps : Places → ℕ
directory_steps t = if is_some (t etc) then 0 else most_directory

-- At most how many steps are taken for the edits and for `/etc`.
abbrev pub most_put : List Edit → Places → ℕ
most_put [] t = 0
most_put (edit ∷ edits) t = directory_steps t + most_edited * length (edit ∷ edits)

-- ---- what it needs

-- An edit of an account file, at whose path there is a file or no object.
pub record IsEditOf (t : Places) (edit : Edit) : Type 0 where
  pub is : IsEdit edit
  pub listed : is_one_of account_paths edit.path ≡ true
  pub file : (kind_of (t edit.path) ≡ None) ⊎ (kind_of (t edit.path) ≡ Some File)

-- A path at or below `/etc`, along which only the staging names of `/etc` and of the path itself are removed.
pub record IsSweptPath (path : Path) : Type 0 where
  pub short : can_stage path ≡ true
  pub some : path ≢ []
  pub above : is_prefix etc path ≡ true
  pub along : staging_names path ≡ staging_of etc ∷ staging_of path ∷ []
  pub among : (q : Path) → is_prefix (staging_of path) q ≡ true → is_under_any swept_names q ≡ true

-- ---- intermediate states

-- The new file is complete at its staging name, timestamps aside.
abbrev pub IsStagedWhole : Places → Edit → Type 0
IsStagedWhole u edit = object_states u (staging_of edit.path) ≡ Some (object_state (edited 0 edit))

-- An intermediate state of a run, timestamps and staging names aside. Nothing has changed. Or some text changes,
-- `/etc` exists, and the first k edits are in place. Once the first is in place, all others are complete at their
-- staging names.
abbrev pub AccountWay : List Edit → Files → Files → Type 0
AccountWay edits t u =
    Same u t
    ⊎ ((1 ≤ length edits)
    × ((k : ℕ)
    × (((q : Path) → has_staging q ≡ false → object_states (places u) q ≡ object_states (fold (with_edit 0) (with_parent 0 (places t) etc) (take k edits)) q)
    × (1 ≤ k → AllByRecursion (IsStagedWhole (places u)) (drop k edits)))))

-- A step of making `/etc`, if there was none.
abbrev pub PutsDirectory : Files → Step → Type 0
PutsDirectory t step = IsAbsentIn (places t) etc × IsPutStep etc parent_file step

-- A step of a run that began with the tree t. It removes what is at a staging name, makes `/etc` if there was none,
-- stages the new text of a file, or renames it into place.
pub data IsAccountStep (edits : List Edit) (t : Files) (step : Step) : Type 0 where
  sweeps : Removes (is_under_any swept_names) step → IsAccountStep edits t step
  puts : PutsDirectory t step → IsAccountStep edits t step
  stages : IsOfSome StagesEdit edits step → IsAccountStep edits t step
  publishes : IsOfSome PublishesEdit edits step → IsAccountStep edits t step
