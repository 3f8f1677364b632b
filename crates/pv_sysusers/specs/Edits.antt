-- Account files with new texts, which are staged and then renamed into place (systemd-sysusers(8), rename(2)).
use Rattle.std.specs.Prelude.{◌≡◌, ◌≢◌, ◌⊎◌, ℕ, true, false, List, [], ◌∷◌, take, fold, Some, ⊤}
use Rattle.std.specs.List.{AllByRecursion}
use Rattle.pv_layers.specs.Places.{etc}
use Rattle.pv_path.specs.Paths.{is_prefix, parent_of, has_staging, staging_of}
use Rattle.pv_steps.specs.declared.node.Kind.TheVariants.{Directory, File}
use Rattle.pv_steps.specs.declared.object.Object.{Object}
use Rattle.pv_steps.specs.declared.step.Step.{Step}
use Rattle.pv_steps.specs.declared.step.Step.TheVariants.{SetAcl, SetAttrs, SetLetters, Rename}
use Rattle.pv_steps.specs.Objects.{stamped}
use Rattle.pv_steps.specs.Trees.{Files, Places, places, kind_of, IsKindIn, IsAbsentIn}
use Rattle.pv_steps.specs.Steps.{made, moved}
use Rattle.pv_walk.specs.SettingMetadata.{IsMetadata, metadata_mode}
use Rattle.pv_walk.specs.declared.new_file.NewFile.{NewFile}
use Rattle.pv_walk.specs.declared.new_file.NewKind.TheVariants as new
use Rattle.pv_walk.specs.Staging.{GivesNew, can_stage}
use Rattle.pv_sysusers.specs.declared.edit.Edit.{Edit}

-- ---- what an edit makes

-- The new file. All its timestamps are now.
abbrev pub edited : ℕ → Edit → Object
edited now edit = record {
  node = record {
    kind = File;
    special = edit.metadata.special;
    uid = edit.metadata.uid;
    gid = edit.metadata.gid;
    acl = edit.metadata.acl;
    stamps = stamped now;
    major = 0;
    minor = 0;
    attrs = edit.metadata.attrs;
    letters = edit.metadata.letters;
  };
  payload = edit.text;
}

-- The tree with the new file at its staging name.
abbrev pub with_staged : ℕ → Places → Edit → Places
with_staged now t edit = made now (staging_of edit.path) (edited now edit) t

-- The tree with the new file at its path.
abbrev pub with_edit : ℕ → Places → Edit → Places
with_edit now t edit = made now edit.path (edited now edit) t

-- The tree after the staged file is renamed into place.
abbrev pub with_published : ℕ → Places → Edit → Places
with_published now t edit = moved now (staging_of edit.path) edit.path t

-- ---- what staging and publishing need

-- An edit is of a file directly in `/etc`, and has metadata that a file can have.
pub record IsEdit (edit : Edit) : Type 0 where
  pub parent : parent_of edit.path ≡ etc
  pub root : edit.path ≢ []
  pub plain : has_staging edit.path ≡ false
  pub short : can_stage edit.path ≡ true
  pub metadata : IsMetadata File edit.metadata

-- Two edits are of different files. The same is true of their staging names.
pub record IsBeside (a b : Edit) : Type 0 where
  pub paths : is_prefix a.path b.path ≡ false
  pub paths_back : is_prefix b.path a.path ≡ false
  pub stages : is_prefix (staging_of a.path) (staging_of b.path) ≡ false
  pub stages_back : is_prefix (staging_of b.path) (staging_of a.path) ≡ false
  pub crossed : is_prefix a.path (staging_of b.path) ≡ false
  pub crossed_back : is_prefix b.path (staging_of a.path) ≡ false

-- Some edits, all of different files.
abbrev pub AreEdits : List Edit → Type 0
AreEdits [] = ⊤
AreEdits (edit ∷ edits) = IsEdit edit × (AllByRecursion (IsBeside edit) edits × AreEdits edits)

-- Nothing is at the staging name of an edit.
abbrev pub IsFree : Places → Edit → Type 0
IsFree t edit = IsAbsentIn t (staging_of edit.path)

-- The new file is staged, and there is no directory at its path.
pub record IsStaged (t : Places) (edit : Edit) : Type 0 where
  pub staged : IsKindIn File t (staging_of edit.path)
  pub file : kind_of (t edit.path) ≢ Some Directory

-- At most how many steps stage a file, and at most how many stage it and rename it into place.
abbrev pub most_staged : ℕ
most_staged = 7

abbrev pub most_edited : ℕ
most_edited = 8

-- ---- intermediate states

-- The first k edits are renamed into place.
abbrev pub Published : ℕ → List Edit → Files → Files → Type 0
Published now edits t u = (k : ℕ) × (places u ≡ fold (with_published now) (places t) (take k edits))

-- What is made at the staging name: a file with the new text, mode and owners.
abbrev pub new_file : Edit → NewFile
new_file edit = record { what = new.File edit.text; mode = metadata_mode edit.metadata; uid = edit.metadata.uid; gid = edit.metadata.gid }

-- A step makes the new file at its staging name, or gives it a part of its content or metadata.
abbrev pub StagesEdit : Edit → Step → Type 0
StagesEdit edit (SetAcl at acl) = (at ≡ staging_of edit.path) × (acl ≡ edit.metadata.acl)
StagesEdit edit (SetAttrs at attrs) = (at ≡ staging_of edit.path) × (attrs ≡ edit.metadata.attrs)
StagesEdit edit (SetLetters at letters) = (at ≡ staging_of edit.path) × (letters ≡ edit.metadata.letters)
StagesEdit edit step = GivesNew (staging_of edit.path) (new_file edit) step

-- A step renames the staged file into place.
abbrev pub PublishesEdit : Edit → Step → Type 0
PublishesEdit edit step = step ≡ Rename (staging_of edit.path) edit.path

-- A step belongs to one of some edits.
abbrev pub IsOfSome : (Edit → Step → Type 0) → List Edit → Step → Type 0
IsOfSome of [] step = ⊥
IsOfSome of (edit ∷ edits) step = of edit step ⊎ IsOfSome of edits step
