-- What `clap` reads of the arguments after the tool, and the options that follow from it. `clap`'s matches are used
-- as its own definition gives them. What is allowed is as for the meaning of arguments.
use Rattle.std.specs.Prelude.{◌≡◌, ℕ, Bool, true, false, not, ◌&&◌, ◌||◌, nat_eq, List, [], ◌∷◌, codes, Option, Some, None, option_and_then, Result, Ok, Err, if◌then◌else◌}
use Rattle.std.specs.List.{list_any, starts_with}
use Rattle.std.specs.Option.{option_map, option_map_or}
use Rattle.clap.specs.Matches.{first_value, found_of, matched_of, raw_values}
use Rattle.clap.specs.declared.error.kind.ErrorKind.{ErrorKind}
use Rattle.clap.specs.declared.error.kind.ErrorKind.TheVariants.{OutOfMemory}
use Rattle.clap.specs.declared.parser.matches.ArgMatches.{ArgMatches}
use Rattle.clap.specs.declared.parser.matches.Found.{Found}
use Rattle.clap.specs.declared.parser.matches.ValueSource.{ValueSource}
use Rattle.clap.specs.declared.parser.matches.ValueSource.TheVariants.{CommandLine}
use Rattle.pv_path.specs.Names.{same_bytes}
use Rattle.pv_text.specs.declared.tool.Tool.{Tool}
use Rattle.pv_words.specs.Meaning.{is_allowed, meaning_for, options_with}
use Rattle.pv_words.specs.Parts.{begins_with_dash, is_dash}
use Rattle.pv_words.specs.Table.{row_of}
use Rattle.pv_words.specs.Values.{values_read}
use Rattle.pv_words.specs.declared.words_fault.WordsFault.{WordsFault}
use Rattle.pv_words.specs.declared.words_fault.WordsFault.TheVariants.{Usage, Memory}
use Rattle.pv_words.specs.declared.option.OptionName.{OptionName}
use Rattle.pv_words.specs.declared.options.Options.{Options}

-- Whether an argument is a short option such as `-x`: one dash, and then something else than a dash.
abbrev pub is_short : List ℕ → Bool
is_short word = begins_with_dash word && not (is_dash word) && not (starts_with nat_eq word (codes "--"))

-- Whether there is a short option before the end of the options.
abbrev pub has_short : List (List ℕ) → Bool
has_short [] = false
has_short (word ∷ words) = not (same_bytes word (codes "--")) && (is_short word || has_short words)

-- Whether an entry comes from the command line, and not from a default.
abbrev pub is_from_words : Option ValueSource → Bool
is_from_words None = false
is_from_words (Some CommandLine) = true
is_from_words (Some other) = false

-- Whether an option is given, by the matches.
abbrev pub is_found : Found → OptionName → Bool
is_found found option = is_from_words (option_and_then (λ a. a.source) (matched_of found (row_of option).name))

-- The value of a given option, by the matches: the first one of its entry.
abbrev pub value_in : Found → OptionName → Option (List ℕ)
value_in found option = first_value found (row_of option).name

-- The FILE arguments, by the matches, in the order given.
abbrev pub files_in : Found → List (List ℕ)
files_in found = option_map_or raw_values (matched_of found (codes "files")) []

-- Whether what was found is allowed. `clap` leaves this open: which options a tool has and needs, which exclude each
-- other, and that no FILE argument is `-`.
abbrev pub is_allowed_in : Tool → Found → Bool
is_allowed_in tool found = is_allowed tool (is_found found) (files_in found) && not (list_any is_dash (files_in found))

-- The options of a run by the matches, if they are allowed and each value can be read.
abbrev pub options_in : Tool → Found → Option Options
options_in tool found =
    if is_allowed_in tool found
    then option_map (options_with tool (is_found found) (files_in found)) (values_read (value_in found))
    else None

-- The fault for one of `clap`'s errors: out of memory, or wrong usage for any other.
abbrev pub fault_of : ErrorKind → WordsFault
fault_of OutOfMemory = Memory
fault_of other = Usage

-- The matches give each tool the meaning of the arguments. The answer `Usage` comes only if they mean nothing to any
-- tool. Only the answer that memory ran out is always allowed.
abbrev pub Reads : Result ArgMatches WordsFault → List (List ℕ) → Type 0
Reads (Ok matches) words = (tool : Tool) → options_in tool (found_of matches) ≡ meaning_for tool words
Reads (Err Usage) words = (tool : Tool) → meaning_for tool words ≡ None
Reads (Err Memory) words = Unit {0}
