-- The files that a run reads as its configuration, and the messages about the others (tmpfiles.d(5), sysusers.d(5);
-- FILE arguments: systemd-tmpfiles(8), systemd-sysusers(8)).
use Rattle.std.specs.Prelude.{◌≡◌, ℕ, Bool, true, false, ◌||◌, List, [], ◌∷◌, ◌++◌, codes, Option, Some, None, if◌then◌else◌}
use Rattle.std.specs.Result.{result_ok}
use Rattle.std.specs.List.{list_any}
use Rattle.pv_path.specs.Names.{same_bytes, is_name}
use Rattle.pv_path.specs.Paths.{Path}
use Rattle.pv_path.specs.Printing.{printed, printed_path}
use Rattle.pv_path.specs.Parsing.{begins_with_slash, path_of}
use Rattle.pv_steps.specs.Trees.{Files}
use Rattle.pv_layers.specs.declared.chosen.Chosen.{Chosen}
use Rattle.pv_layers.specs.declared.found.Found.{Found}
use Rattle.pv_layers.specs.declared.found.Found.TheVariants.{Missing, Masked, Odd, Regular}
use Rattle.pv_layers.specs.Folders.{folders, conf_names, found_at, found_in}
use Rattle.pv_text.specs.declared.tool.Tool.{Tool}

-- What is chosen: the files in the order in which they are read, whether a FILE argument was not found, and the
-- messages in order.
pub record Choice : Type 0 where
  pub files : List Path
  pub missing : Bool
  pub messages : List (List ℕ)

-- No file and no message.
abbrev pub nothing : Choice
nothing = record { files = []; missing = false; messages = [] }

-- One file and no message.
abbrev pub one_file : Path → Choice
one_file path = record { files = path ∷ []; missing = false; messages = [] }

-- Two choices, one after the other: the files and the messages of the first come first. `missing` is true if it is
-- true in either.
abbrev pub followed : Choice → Choice → Choice
followed a b = record { files = a.files ++ b.files; missing = a.missing || b.missing; messages = a.messages ++ b.messages }

-- A choice is added to what was chosen before. Its files follow the earlier files, and its messages follow the
-- earlier messages. `missing` is true if it was before, or is in this choice.
abbrev pub IsMade : Choice → Chosen → Chosen → List (List ℕ) → List (List ℕ) → Type 0
IsMade choice old new old_messages new_messages =
    (new.files ≡ old.files ++ choice.files) × (new.missing ≡ (old.missing || choice.missing)) × (new_messages ≡ old_messages ++ choice.messages)

-- ---- without FILE arguments

-- What is chosen for a name in the folders. A regular file is read. An object that is neither a regular file nor a
-- mask gets the message `PATH: not a regular file`. For a mask, or if there is nothing, nothing is read.
abbrev pub choice_of : Found → Choice
choice_of (Regular path) = one_file path
choice_of (Odd path) = record { files = []; missing = false; messages = (printed_path path ++ codes ": not a regular file") ∷ [] }
choice_of _ = nothing

-- What is chosen for some names in the folders, in the order of the names.
abbrev pub choice_of_names : Files → List Path → List (List ℕ) → Choice
choice_of_names files places [] = nothing
choice_of_names files places (name ∷ names) = followed (choice_of (found_in files places name)) (choice_of_names files places names)

-- ---- with FILE arguments

-- What a FILE argument stands for. If it begins with a slash, it is a path. Otherwise it is a name that is looked up
-- in the folders. It counts as missing if it is neither a path nor a name.
abbrev pub found_word : Files → List Path → List ℕ → Found
found_word files places word =
    if begins_with_slash word then by_path (result_ok (path_of word))
    else if is_name word then found_in files places word
    else Missing
  where
    by_path : Option Path → Found
    by_path (Some path) = found_at files path
    by_path None = Missing

-- What is chosen for a FILE argument. A regular file is read. For a mask nothing is read. Everything else counts as
-- missing and gets the message `WORD: not found`.
abbrev pub choice_of_word : List ℕ → Found → Choice
choice_of_word word (Regular path) = one_file path
choice_of_word word Masked = nothing
choice_of_word word _ = record { files = []; missing = true; messages = (printed word ++ codes ": not found") ∷ [] }

-- What is chosen for a FILE argument after others. It is passed over if the same word was given before.
abbrev pub choice_of_next : Files → List Path → List (List ℕ) → List ℕ → Choice
choice_of_next files places before word =
    if list_any (λ w. same_bytes w word) before then nothing else choice_of_word word (found_word files places word)

-- What is chosen for FILE arguments in order, after those in `before`.
abbrev pub choice_of_words : Files → List Path → List (List ℕ) → List (List ℕ) → Choice
choice_of_words files places before [] = nothing
choice_of_words files places before (word ∷ words) =
    followed (choice_of_next files places before word) (choice_of_words files places (before ++ word ∷ []) words)

-- ---- both

-- What a tool reads as its configuration in a tree. If there are FILE arguments, they decide. Otherwise the folders
-- do, with the names of their configuration files in byte order.
abbrev pub chosen : Files → Tool → List (List ℕ) → Choice
chosen files tool [] = choice_of_names files (folders tool) (conf_names files (folders tool))
chosen files tool (word ∷ words) = choice_of_words files (folders tool) [] (word ∷ words)
