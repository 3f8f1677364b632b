-- What a run reads as its configuration: the lines of all chosen files (tmpfiles.d(5), sysusers.d(5)).
use Prim.Native.Char.{code}
use Rattle.std.specs.Prelude.{ℕ, ◌+◌, Bool, true, false, not, ◌||◌, ◌==◌, List, [], ◌∷◌, ◌++◌, find, Option, Some, None, is_none, if◌then◌else◌}
use Rattle.std.specs.List.{onto_first}
use Rattle.std.specs.Option.{option_to_list}
use Rattle.pv_layers.specs.Choices.{Choice, chosen}
use Rattle.pv_path.specs.Paths.{Path}
use Rattle.pv_path.specs.Printing.{printed_path}
use Rattle.pv_steps.specs.Trees.{Files, places}
use Rattle.pv_steps.specs.declared.node.Kind.{Kind}
use Rattle.pv_steps.specs.declared.node.Kind.TheVariants.{File}
use Rattle.pv_steps.specs.declared.object.Object.{Object}
use Rattle.pv_text.specs.Fields.{is_blank}
use Rattle.pv_text.specs.declared.place.Place.{Place}
use Rattle.pv_text.specs.declared.tool.Tool.{Tool}

-- ---- the lines of a file

-- The bytes of the file at a path. If there is no file, there are none.
abbrev pub content_at : Files → Path → List ℕ
content_at files path = by (places files path)
  where
    of_kind : Kind → List ℕ → List ℕ
    of_kind File payload = payload
    of_kind _ payload = []

    by : Option Object → List ℕ
    by (Some object) = of_kind object.node.kind object.payload
    by None = []

-- The lines of a content. Each line feed ends a line. What follows the last line feed is a line only if it is not
-- empty.
abbrev pub lines_in : List ℕ → List (List ℕ)
lines_in [] = []
lines_in (b ∷ bytes) = if b == 10 then [] ∷ lines_in bytes else onto_first b (lines_in bytes)

-- Whether a line is skipped: its first byte that is not a blank is `#`, or it has only blanks.
abbrev pub is_skipped : List ℕ → Bool
is_skipped line = by (find (λ b. not (is_blank b)) line)
  where
    by : Option ℕ → Bool
    by (Some b) = b == code "#"
    by None = true

-- ---- what is read

-- How a tool reads a line at a location (file and line): what the line spells, if it is valid, and the messages about
-- it.
pub record Reader (L : Type 0) : Type 0 where
  pub line_read : Place → List ℕ → Option L
  pub messages_for : Place → List ℕ → List (List ℕ)

abbrev pub reader_of : {L : Type 0} → (Place → List ℕ → Option L) → (Place → List ℕ → List (List ℕ)) → Reader L
reader_of line_read messages_for = record { line_read = line_read; messages_for = messages_for }

-- What is read from some lines: the valid lines, whether one was invalid, the messages, and how many lines there
-- were. Skipped and invalid lines are counted too.
pub record Reading (L : Type 0) : Type 0 where
  pub lines : List L
  pub invalid : Bool
  pub messages : List (List ℕ)
  pub count : ℕ

-- What is read from no lines.
abbrev pub nothing : {L : Type 0} → Reading L
nothing = record { lines = []; invalid = false; messages = []; count = 0 }

-- Two readings, one after the other.
abbrev pub followed : {L : Type 0} → Reading L → Reading L → Reading L
followed a b = record {
  lines = a.lines ++ b.lines;
  invalid = a.invalid || b.invalid;
  messages = a.messages ++ b.messages;
  count = a.count + b.count;
}

-- What is read from a line that is not skipped. If it spells nothing, it is invalid.
abbrev pub reading_by : {L : Type 0} → Option L → List (List ℕ) → Reading L
reading_by read new_messages = record { lines = option_to_list read; invalid = is_none read; messages = new_messages; count = 1 }

-- What is read from a line at a location. A skipped line only adds to the count.
abbrev pub reading_of : {L : Type 0} → Reader L → Place → List ℕ → Reading L
reading_of reader place line =
    if is_skipped line then record { lines = []; invalid = false; messages = []; count = 1 }
    else reading_by (reader.line_read place line) (reader.messages_for place line)

-- What is read from lines of a file, the first of which has this line number.
abbrev pub reading_of_lines : {L : Type 0} → Reader L → List ℕ → ℕ → List (List ℕ) → Reading L
reading_of_lines reader file number [] = nothing
reading_of_lines reader file number (line ∷ lines) =
    followed (reading_of reader (record { file = file; number = number }) line) (reading_of_lines reader file (number + 1) lines)

-- What is read from a file. Its lines are counted from 1.
abbrev pub reading_of_file : {L : Type 0} → Files → Reader L → Path → Reading L
reading_of_file files reader path = reading_of_lines reader (printed_path path) 1 (lines_in (content_at files path))

-- What is read from files, one after another.
abbrev pub reading_of_files : {L : Type 0} → Files → Reader L → List Path → Reading L
reading_of_files files reader [] = nothing
reading_of_files files reader (path ∷ paths) = followed (reading_of_file files reader path) (reading_of_files files reader paths)

-- ---- the configuration

-- What a run reads as its configuration. `missing` says whether a FILE argument was not found.
pub record Configured (L : Type 0) : Type 0 where
  pub lines : List L
  pub invalid : Bool
  pub missing : Bool
  pub messages : List (List ℕ)
  pub count : ℕ

-- The configuration of chosen files and what was read from them. The messages about files come before those about
-- lines.
abbrev pub together : {L : Type 0} → Choice → Reading L → Configured L
together choice reading = record {
  lines = reading.lines;
  invalid = reading.invalid;
  missing = choice.missing;
  messages = choice.messages ++ reading.messages;
  count = reading.count;
}

-- The configuration that a tool reads in a tree, with the FILE arguments of the run.
abbrev pub configured_by : {L : Type 0} → Files → Reader L → Tool → List (List ℕ) → Configured L
configured_by files reader tool words = together (chosen files tool words) (reading_of_files files reader (chosen files tool words).files)
