-- A tree that is kept in memory and in a folder of a host: what each step asks of the host, what stays as it is, and
-- what closing the folder leaves there. `top` is the path of the folder's `tree`.
use Rattle.std.specs.Prelude.{◌≡◌, ◌≢◌, ◌⊎◌, ℕ, ◌≤◌, Bool, true, false, List, [], ◌∷◌, ◌++◌, map, Option, Some, None, option_map, IfSome}
use Rattle.std.specs.Option.{option_to_list}
use Rattle.pv_path.specs.Paths.{Path, has_names}
use Rattle.pv_steps.specs.declared.step.Step.{Step}
use Rattle.pv_steps.specs.declared.step.Step.TheVariants.{MakeDir, MakeFile, Write, Rename, Unlink, RemoveDir}
use Rattle.pv_steps.specs.Trees.{Files, Places, places}
use Rattle.pv_steps.specs.Steps.{Can, StepFits, after}
use Rattle.pv_text.specs.Facts.{Values}
use Rattle.pv_folder.specs.Content.{Change, Content, Held, HostObject, IsAbsent, IsChanged, IsContent, IsDirectory, MayAsk, held, put_at}
use Rattle.pv_folder.specs.Content as host
use Rattle.pv_folder.specs.Folders.{Agrees, IsPrepared, IsSameElse, manifest_path, new_manifest_path, real_of, tree_path}
use Rattle.pv_folder.specs.Made.{HasMade}
use Rattle.pv_folder.specs.Manifest.{manifest_of}

-- ---- a tree in memory and in a folder

-- A content is well formed, its folder is prepared, and the folder has exactly the directories and files of a tree.
pub record Keeps (folder : Path) (files : Files) (content : Content) : Type 0 where
  pub is_content : IsContent (held content)
  pub prepared : IsPrepared folder (held content)
  pub agrees : Agrees folder files (held content)

-- A tree can be kept in a folder, whatever its `tree` has: the folder is a directory, the components of its path are
-- names, and it is prepared. Nothing is below its two manifests.
pub record IsReady (folder : Path) (t : Held) : Type 0 where
  pub names : has_names folder ≡ true
  pub place : IsDirectory t folder
  pub prepared : IsPrepared folder t
  pub alone : (name : List ℕ) (rest : Path) → IsAbsent t (manifest_path folder ++ name ∷ rest)
  pub new_alone : (name : List ℕ) (rest : Path) → IsAbsent t (new_manifest_path folder ++ name ∷ rest)

-- ---- what steps ask of a host

-- The change that removes the file that a host has at a path. If it has no file there, there is no change.
abbrev pub removal : Path → Option HostObject → Option Change
removal path (Some (host.File bytes)) = Some (host.RemoveFile path)
removal path o = None

-- The change for a Rename. If the host has the object that is moved, the host renames it. Otherwise a file that it
-- replaces is removed.
abbrev pub move : Path → Path → Option HostObject → Option HostObject → Option Change
move from to (Some o) there = Some (host.Rename from to)
move from to None there = removal to there

-- The one change that a step on a tree asks of the host. There is none if the step concerns neither a directory nor
-- a file, and none for metadata.
abbrev pub change_for : Path → Places → Step → Option Change
change_for top t (MakeDir path) = Some (host.MakeDir (top ++ path))
change_for top t (MakeFile path) = Some (host.WriteFile (top ++ path) [])
change_for top t (Write path content) = Some (host.WriteFile (top ++ path) content)
change_for top t (Rename from to) = move (top ++ from) (top ++ to) (real_of (t from)) (real_of (t to))
change_for top t (Unlink path) = removal (top ++ path) (real_of (t path))
change_for top t (RemoveDir path) = Some (host.RemoveDir (top ++ path))
change_for top t step = None

-- A host may be asked for a change, if there is one.
abbrev pub MayAskFor : Option Content → Option Change → Type 0
MayAskFor content (Some change) = MayAsk content change
MayAskFor content None = Unit {0}

-- The content of a host has changed so. If there is no change, it is as before.
abbrev pub IsChangedBy : Option Change → Option Content → Option Content → Type 0
IsChangedBy (Some change) old new = IsChanged change old new
IsChangedBy None old new = new ≡ old

-- The tree after these steps, one after the other, each with its own time.
abbrev pub after_steps : Files → List (Step × ℕ) → Files
after_steps t [] = t
after_steps t ((step, now) ∷ steps) = after_steps (after t step now) steps

-- The changes that these steps ask of the host, in their order: at most one for each step.
abbrev pub changes_for : Path → Files → List (Step × ℕ) → List Change
changes_for top t [] = []
changes_for top t ((step, now) ∷ steps) = option_to_list (change_for top (places t) step) ++ changes_for top (after t step now) steps

-- ---- what stays as it is

-- Outside of the folder's `tree` nothing has changed. If the host did not tell its content, it still does not.
abbrev pub IsSameOutside : Path → Option Content → Option Content → Type 0
IsSameOutside folder (Some old) (Some new) = IsSameElse folder (held old) (held new)
IsSameOutside folder (Some old) None = ⊥
IsSameOutside folder None new = new ≡ None

-- The folder has a tree, or is one step ahead: it has this tree after one more step that could be done.
pub data IsAtMostAhead (folder : Path) (files : Files) (t : Held) : Type 0 where
  level : Agrees folder files t → IsAtMostAhead folder files t
  ahead : (step : Step) (now : ℕ) → Can (places files) step → Agrees folder (after files step now) t → IsAtMostAhead folder files t

-- A tree in a folder of a host.
pub record FolderState : Type 0 where
  -- The path of the folder.
  pub folder : Path
  -- The tree in memory.
  pub files : Files
  -- The steps that it has recorded.
  pub steps : List Step
  -- The content of the host, if it tells it.
  pub content : Option Content
  -- The changes that the host has made, if it tells them.
  pub changes : Option (List Change)
  -- The host's count of faults.
  pub faults : ℕ
  -- Whether a step has run out of memory.
  pub pending : Bool

-- What the host has done if these steps were done on the tree in memory. It has made exactly their changes, in
-- order. Or it has made one change more, that of a possible step which ran out of memory. Or memory had run out
-- before, and nothing was done.
pub data HasAsked (steps : List (Step × ℕ)) (a b : FolderState) : Type 0 where
  all_made : a.pending ≡ false → HasMade (changes_for (tree_path a.folder) a.files steps) a.content b.content a.changes b.changes → HasAsked steps a b
  one_more : (step : Step) → a.pending ≡ false → b.pending ≡ true → Can (places b.files) step → StepFits step
      → HasMade (changes_for (tree_path a.folder) a.files steps ++ option_to_list (change_for (tree_path a.folder) (places b.files) step)) a.content b.content a.changes b.changes
      → HasAsked steps a b
  at_rest : a.pending ≡ true → steps ≡ [] → b.content ≡ a.content → b.changes ≡ a.changes → HasAsked steps a b

-- Memory had run out in a step before, and nothing has changed since.
pub record IsAtRest (a b : FolderState) : Type 0 where
  pub pending : a.pending ≡ true
  pub files : b.files ≡ a.files
  pub content : b.content ≡ a.content

-- What holds of a tree in a folder before and after some steps.
pub record Moves (a b : FolderState) : Type 0 where
  -- The folder is the same.
  pub same : b.folder ≡ a.folder
  -- Outside of its `tree` nothing has changed.
  pub outside : IsSameOutside a.folder a.content b.content
  -- The host's count of faults has not fallen.
  pub count : a.faults ≤ b.faults
  -- If a step has run out of memory, this is not forgotten.
  pub lasts : a.pending ≡ true → b.pending ≡ true
  -- Suppose that a step has run out of memory by the end. Then one had before, and nothing has changed since. Or the
  -- folder is at most one step ahead.
  pub near : b.pending ≡ true → IsAtRest a b ⊎ IfSome b.content (λ c. IsAtMostAhead a.folder b.files (held c))
  -- Some steps were done in memory, each with its own time.
  pub steps : List (Step × ℕ)
  -- They were recorded.
  pub recorded : b.steps ≡ a.steps ++ map (λ s. s.0) steps
  -- They lead to the tree in memory.
  pub reached : b.files ≡ after_steps a.files steps
  -- What the host has done is as `HasAsked` says of these steps.
  pub asked : HasAsked steps a b

-- ---- closing

-- The content of a folder with a new manifest: `manifest` has these bytes, `manifest.new` is gone, and all else is
-- as before.
abbrev pub with_manifest : Path → List ℕ → Held → Held
with_manifest folder bytes t = put_at (manifest_path folder) (Some (host.File bytes)) (put_at (new_manifest_path folder) None t)

-- A folder has got a new manifest. If the host did not tell its content, it still does not.
abbrev pub HasManifest : Path → List ℕ → Option Content → Option Content → Type 0
HasManifest folder bytes old new = option_map held new ≡ option_map (λ c. with_manifest folder bytes (held c)) old

-- A folder was closed: it has got the manifest of these facts and this tree.
abbrev pub IsClosed : Path → Values → Files → Option Content → Option Content → Type 0
IsClosed folder facts files old new = HasManifest folder (manifest_of facts files) old new

-- Everything except `manifest.new` is as before. If the host did not tell its content, it still does not.
abbrev pub IsSameButNew : Path → Option Content → Option Content → Type 0
IsSameButNew folder (Some old) (Some new) = (path : Path) → path ≢ new_manifest_path folder → held new path ≡ held old path
IsSameButNew folder (Some old) None = ⊥
IsSameButNew folder None new = new ≡ None
