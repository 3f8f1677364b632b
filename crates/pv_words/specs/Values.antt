-- How the values of options are read. A path is read as in a configuration line. The decimal of `--stop-after` and
-- the time of `--now` are this project's own. The time has the form that `jiff` defines for timestamps.
use Rattle.std.specs.Prelude.{ℕ, ℤ, pos, negsuc, ◌/◌, ◌^◌, ◌&&◌, nat_lt, List, length, Option, Some, None, option_and_then, if◌then◌else◌}
use Rattle.std.specs.Option.{option_map}
use Rattle.std.specs.Result.{result_ok}
use Rattle.std.specs.Str.{all_ascii_digits, is_utf8}
use Rattle.std.specs.Str.Parse.{digits_value}
use Rattle.jiff.specs.Words.{parse_timestamp}
use Rattle.pv_path.specs.Paths.{Path}
use Rattle.pv_path.specs.Parsing.{path_of}
use Rattle.pv_words.specs.Table.{row_of}
use Rattle.pv_words.specs.declared.option.OptionName.{OptionName}
use Rattle.pv_words.specs.declared.option.OptionName.TheVariants.{Explain, Prefix, ExcludePrefix, StopAfter, Now}
use Rattle.pv_words.specs.declared.option.Reader.{Reader}
use Rattle.pv_words.specs.declared.option.Reader.TheVariants.{Flag, PathOf, Decimal, Moment}
use Rattle.pv_words.specs.declared.options.Values.{Values}

-- The path that a text spells, if it spells one.
abbrev pub path_value : List ℕ → Option Path
path_value text = result_ok (path_of text)

-- The number that a text writes in decimal: one or more digits, below 2^64.
abbrev pub decimal_value : List ℕ → Option ℕ
decimal_value text =
    if all_ascii_digits text && nat_lt 0 (length text) && nat_lt (digits_value 10 text) (2 ^ 64)
    then Some (digits_value 10 text)
    else None

-- The microseconds since 1970 of a time in nanoseconds, rounded down. There are none if the time is before 1970 or
-- does not fit in 64 bits.
abbrev pub micros_of : ℤ → Option ℕ
micros_of (pos n) = if nat_lt (n / 1000) (2 ^ 64) then Some (n / 1000) else None
micros_of (negsuc n) = None

-- The time that a text spells, in microseconds since 1970, if `jiff`'s grammar has it.
abbrev pub timestamp_value : List ℕ → Option ℕ
timestamp_value text = option_and_then micros_of (result_ok (parse_timestamp text))

-- The same for a text that need not be UTF-8. If it is not, there is no time.
abbrev pub moment_value : List ℕ → Option ℕ
moment_value text = if is_utf8 text then timestamp_value text else None

-- The type of the values that a reader gives. A flag has no value.
abbrev pub ValueBy : Reader → Type 0
ValueBy Flag = Unit {0}
ValueBy PathOf = Path
ValueBy Decimal = ℕ
ValueBy Moment = ℕ

-- The value of a text by this reader, if it can be read.
abbrev pub value_by : (reader : Reader) → List ℕ → Option (ValueBy reader)
value_by Flag = λ text. None
value_by PathOf = path_value
value_by Decimal = decimal_value
value_by Moment = moment_value

-- The value of an option that need not be given. If it is given and its text cannot be read, there is no answer.
abbrev pub optional : {A : Type 0} → (List ℕ → Option A) → Option (List ℕ) → Option (Option A)
optional reader None = Some None
optional reader (Some text) = option_map Some (reader text)

-- The same for an option of the table, with the reader of its row.
abbrev pub read_value : (option : OptionName) → Option (List ℕ) → Option (Option (ValueBy (row_of option).reader))
read_value option = optional (value_by (row_of option).reader)

-- The values of all options that have one, if each text that is given can be read.
abbrev pub values_read : (OptionName → Option (List ℕ)) → Option Values
values_read text =
    option_and_then (λ stop_after.
    option_and_then (λ now.
    option_and_then (λ explain.
    option_and_then (λ prefix.
    option_map (λ exclude_prefix. record { explain = explain; prefix = prefix; exclude_prefix = exclude_prefix; stop_after = stop_after; now = now })
    (read_value ExcludePrefix (text ExcludePrefix)))
    (read_value Prefix (text Prefix)))
    (read_value Explain (text Explain)))
    (read_value Now (text Now)))
    (read_value StopAfter (text StopAfter))
