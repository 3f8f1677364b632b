-- Which lines are active, and in which order they are carried out (tmpfiles.d(5), systemd-tmpfiles(8)).
use Prim.Native.Char.{code}
use Rattle.std.specs.Prelude.{ℕ, Bool, true, false, not, ◌&&◌, ◌||◌, ◌==◌, length, codes, List, [], ◌∷◌, ◌++◌, map, filter, fold, find, Option, if◌then◌else◌}
use Rattle.std.specs.List.{list_any, slice_split, enumerate_from}
use Rattle.std.specs.Bool.{beq}
use Rattle.std.specs.Option.{option_eq, option_map_or}
use Rattle.pv_age.specs.declared.age.Age.{Age}
use Rattle.pv_lines.specs.declared.line.Argument.{Argument}
use Rattle.pv_lines.specs.declared.line.Argument.TheVariants as argument
use Rattle.pv_lines.specs.declared.line.Line.{Line}
use Rattle.pv_lines.specs.declared.line.LineId.{LineId}
use Rattle.pv_lines.specs.declared.line.LineMode.{LineMode}
use Rattle.pv_path.specs.Names.{same_bytes}
use Rattle.pv_path.specs.Paths.{Path, same_path, is_prefix}
use Rattle.pv_path.specs.Printing.{printed_path}
use Rattle.pv_text.specs.GivenMessages.{message_text_at}
use Rattle.pv_table.specs.declared.action.Action.{Action}
use Rattle.pv_table.specs.declared.action.Action.TheVariants.{Create, Copy, Adjust, Idle}
use Rattle.pv_table.specs.declared.taking.Taking.{Taking}
use Rattle.pv_table.specs.declared.taking.Taking.TheVariants as taking
use Rattle.pv_table.specs.ActionTable.{action_of, taking_of}
use Rattle.pv_table.specs.Reaching.{path_in, is_creating}

-- ---- filters

-- The components of a line's path or pattern as they are written. Empty ones do not count.
abbrev pub components : Line → List (List ℕ)
components line = filter (λ name. not (length name == 0)) (slice_split (λ b. b == code "/") line.path_text)

-- Whether a line's path, as it is written, begins with the components of a path.
abbrev pub is_within : Path → Line → Bool
is_within path line = is_prefix path (components line)

-- Whether a line passes the filters. A line with `!` passes only with `--boot`. The path of the line must begin with
-- the path of `--prefix`, if it is given, and must not begin with that of `--exclude-prefix`.
abbrev pub stays : Bool → Option Path → Option Path → Line → Bool
stays boot prefix exclude line =
    (boot || not line.boot)
    && option_map_or (λ path. is_within path line) prefix true
    && not (option_map_or (λ path. is_within path line) exclude false)

-- ---- lines that make an object at one path

-- Whether two lines make or copy an object at the same path.
abbrev pub make_same : Line → Line → Bool
make_same a b = is_creating a && is_creating b && same_path (path_in a.path) (path_in b.path)

-- Of several lines that make an object at one path, only the first is kept.
abbrev pub with_line : List Line → Line → List Line
with_line lines line = if list_any (λ first. make_same first line) lines then lines else lines ++ line ∷ []

-- The active lines, in the order in which they were read. These lines pass the filters, and no earlier one of them
-- makes the object at the same path.
abbrev pub active : Bool → Option Path → Option Path → List Line → List Line
active boot prefix exclude lines = fold with_line [] (filter (stays boot prefix exclude) lines)

abbrev pub same_mode : LineMode → LineMode → Bool
same_mode a b = a.value == b.value && beq a.masked b.masked && beq a.new_only b.new_only

abbrev pub same_id : LineId → LineId → Bool
same_id a b = a.id == b.id && beq a.new_only b.new_only

abbrev pub same_age : Age → Age → Bool
same_age a b = a.micros == b.micros && a.by.0 == b.by.0 && beq a.spare_first b.spare_first

-- Whether the arguments of two lines that make an object are the same.
abbrev pub same_argument : Argument → Argument → Bool
same_argument (argument.FileBytes a) (argument.FileBytes b) = option_eq same_bytes a b
same_argument (argument.Target a) (argument.Target b) = same_bytes a b
same_argument (argument.Source a) (argument.Source b) = same_path a b
same_argument (argument.Device major minor) (argument.Device other_major other_minor) = major == other_major && minor == other_minor
same_argument argument.Ignored argument.Ignored = true
same_argument a b = false

-- Whether two lines have the same modifiers that say when they are carried out: `!`, `-` and `$`.
abbrev pub same_times : Line → Line → Bool
same_times a b = beq a.boot b.boot && beq a.minus b.minus && beq a.purge b.purge

-- Whether two lines have the same modifiers that say what they do: `+`, `=` and `~`.
abbrev pub same_ways : Line → Line → Bool
same_ways a b = beq a.plus b.plus && beq a.replace b.replace && beq a.encoded b.encoded

-- Whether two lines have the same type and the same modifiers.
abbrev pub same_type : Line → Line → Bool
same_type a b = a.letter == b.letter && same_times a b && same_ways a b

-- Whether two lines have the same owners.
abbrev pub same_owners : Line → Line → Bool
same_owners a b = option_eq same_id a.user b.user && option_eq same_id a.group b.group

-- Whether two lines have the same mode, owners and age.
abbrev pub same_settings : Line → Line → Bool
same_settings a b = option_eq same_mode a.mode b.mode && same_owners a b && option_eq same_age a.age b.age

-- Whether two lines that make an object ask for the same: type, modifiers, mode, owners, age and argument.
abbrev pub ask_same : Line → Line → Bool
ask_same a b = same_type a b && same_settings a b && same_argument a.argument b.argument

-- The message about a line that is dropped.
abbrev pub duplicate_message : Line → List ℕ
duplicate_message line = message_text_at line.place (codes "duplicate line for " ++ printed_path (path_in line.path))

-- The messages about a line that is dropped. There is none if it asks for the same as the line that is kept.
abbrev pub dropped_message : Line → Line → List (List ℕ)
dropped_message first line = if ask_same first line then [] else duplicate_message line ∷ []

-- The messages about a line, given the lines that are kept so far.
abbrev pub line_message : List Line → Line → List (List ℕ)
line_message kept line = option_map_or (λ first. dropped_message first line) (find (λ first. make_same first line) kept) []

-- The messages about the lines that are dropped, in the order in which they were read.
abbrev pub dropped_messages : List Line → List Line → List (List ℕ)
dropped_messages kept [] = []
dropped_messages kept (line ∷ lines) = line_message kept line ++ dropped_messages (with_line kept line) lines

-- The messages about duplicate lines among those that pass the filters.
abbrev pub duplicates : Bool → Option Path → Option Path → List Line → List (List ℕ)
duplicates boot prefix exclude lines = dropped_messages [] (filter (stays boot prefix exclude) lines)

-- No two lines make an object at the same path.
abbrev pub are_distinct : List Line → Bool
are_distinct [] = true
are_distinct (line ∷ lines) = not (list_any (make_same line) lines) && are_distinct lines

-- ---- orders

-- A line with its index in the list of lines.
abbrev pub Listed : Type 0
Listed = ℕ × Line

-- A line is inserted directly before the first line whose path is below its own. If there is none, it is added at the
-- end.
abbrev pub placed : List Listed → Listed → List Listed
placed [] line = line ∷ []
placed (first ∷ lines) line =
    if is_prefix (path_in line.1.path) (path_in first.1.path) && not (same_path (path_in line.1.path) (path_in first.1.path))
    then line ∷ first ∷ lines
    else first ∷ placed lines line

-- Whether a line adjusts existing objects.
abbrev pub is_adjusting_line : Line → Bool
is_adjusting_line line = by (action_of line)
  where
    by : Action → Bool
    by (Create making) = false
    by (Copy copying) = false
    by (Adjust adjustment) = true
    by Idle = false

-- The order of creating. First come the lines that make an object, in the order in which they were read. But a line
-- whose path is above that of an earlier line comes directly before the first such line. Then come the lines that
-- adjust existing objects, in the order in which they were read.
abbrev pub ordered : List Listed → List Listed
ordered lines =
    fold placed [] (filter (λ line. is_creating line.1) lines) ++ filter (λ line. is_adjusting_line line.1) lines

-- The indices of the lines in this order.
abbrev pub create_order : List Line → List ℕ
create_order lines = map (λ line. line.0) (ordered (enumerate_from 0 lines))

-- The lines in this order.
abbrev pub in_create_order : List Line → List Line
in_create_order lines = map (λ line. line.1) (ordered (enumerate_from 0 lines))

-- Whether a line removes something in removing.
abbrev pub is_taking : Line → Bool
is_taking line = by (taking_of line)
  where
    by : Taking → Bool
    by taking.Nothing = false
    by other = true

-- The indices of the lines that remove something, in the order in which they were read.
abbrev pub remove_order : List Line → List ℕ
remove_order lines = map (λ line. line.0) (filter (λ line. is_taking line.1) (enumerate_from 0 lines))
