-- What the arguments of the command mean: a tool, its options and its FILE arguments. Most options are those of
-- systemd-tmpfiles(8) and systemd-sysusers(8), and some are this project's own. These rules are its own too: each
-- option is given at most once, and some exclude each other.
use Rattle.std.specs.Prelude.{ℕ, Bool, true, not, ◌&&◌, ◌||◌, nat_le, nat_lt, List, [], ◌∷◌, length, count_by, find, Option, None, option_and_then, if◌then◌else◌}
use Rattle.std.specs.List.{list_all, list_any}
use Rattle.std.specs.Option.{option_map}
use Rattle.pv_text.specs.declared.tool.Tool.{Tool}
use Rattle.pv_words.specs.Table.{row_of, all_options, is_for, needed_by, same_option, tool_named}
use Rattle.pv_words.specs.Values.{values_read}
use Rattle.pv_words.specs.Parts.{parts_of}
use Rattle.pv_words.specs.declared.option.OptionName.{OptionName}
use Rattle.pv_words.specs.declared.option.OptionName.TheVariants.{Create, Remove, Clean, Report, Purge, Boot}
use Rattle.pv_words.specs.declared.options.Options.{Options}
use Rattle.pv_words.specs.declared.options.Values.{Values}
use Rattle.pv_words.specs.Pieces.{Given, Parts}
use Rattle.pv_words.specs.Stage as stage

-- How often an option is given.
abbrev pub times_given : List Given → OptionName → ℕ
times_given given option = count_by (λ g. same_option g.option option) given

-- Whether an option is given.
abbrev pub is_given : List Given → OptionName → Bool
is_given given option = list_any (λ g. same_option g.option option) given

-- The value of an option, if it is given. If it is given several times, the first counts.
abbrev pub value_of : List Given → OptionName → Option (List ℕ)
value_of given option = option_map (λ g. g.value) (find (λ g. same_option g.option option) given)

-- Whether each option is given at most once.
abbrev pub stands_once : List Given → Bool
stands_once given = list_all (λ option. nat_le (times_given given option) 1) all_options

-- Whether there is a FILE argument, if this option needs one.
abbrev pub has_file : OptionName → List (List ℕ) → Bool
has_file option files = not (row_of option).needs_file || nat_lt 0 (length files)

-- Whether an option is allowed, if it is given. The tool has this option, no option that it excludes is given, and
-- there is a FILE argument if it needs one.
abbrev pub may_stand : Tool → (OptionName → Bool) → List (List ℕ) → OptionName → Bool
may_stand tool stands files option = not (stands option)
    || (is_for tool option && not (list_any stands (row_of option).excludes) && has_file option files)

-- Whether one of these options is given. If the list is empty, none needs to be.
abbrev pub has_needed : (OptionName → Bool) → List OptionName → Bool
has_needed stands [] = true
has_needed stands (option ∷ options) = list_any stands (option ∷ options)

-- Whether each given option is allowed beside the others, and one is given that the tool needs.
abbrev pub is_allowed : Tool → (OptionName → Bool) → List (List ℕ) → Bool
is_allowed tool stands files = list_all (may_stand tool stands files) all_options && has_needed stands (needed_by tool)

-- The options of a run: the tool, which flags are given, the values of the other options, and the FILE arguments.
abbrev pub options_with : Tool → (OptionName → Bool) → List (List ℕ) → Values → Options
options_with tool stands files values = record {
  tool = tool;
  create = stands Create;
  remove = stands Remove;
  clean = stands Clean;
  report = stands Report;
  purge = stands Purge;
  explain = values.explain;
  boot = stands Boot;
  prefix = values.prefix;
  exclude_prefix = values.exclude_prefix;
  stop_after = values.stop_after;
  now = values.now;
  words = files;
}

-- The options of a run, if each is given at most once, all are allowed, and each value can be read.
abbrev pub options_from : Tool → Parts → Option Options
options_from tool parts =
    if stands_once parts.given && is_allowed tool (is_given parts.given) parts.files
    then option_map (options_with tool (is_given parts.given) parts.files) (values_read (value_of parts.given))
    else None

-- What the arguments after the tool mean to it, if anything.
abbrev pub meaning_for : Tool → List (List ℕ) → Option Options
meaning_for tool words = option_and_then (options_from tool) (parts_of stage.Options words)

-- What all arguments mean, if anything. The first one names the tool.
abbrev pub options_of : List (List ℕ) → Option Options
options_of [] = None
options_of (word ∷ words) = option_and_then (λ tool. meaning_for tool words) (tool_named word)
