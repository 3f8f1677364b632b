-- The table of options, with a row for each. `--create`, `--remove`, `--clean`, `--purge`, `--boot`, `--prefix` and
-- `--exclude-prefix` are options of systemd-tmpfiles(8). `--report`, `--explain`, `--stop-after` and `--now` are
-- this project's own.
use Rattle.std.specs.Prelude.{ℕ, Bool, true, false, not, ◌&&◌, List, [], ◌∷◌, codes, Option, Some, None, find, if◌then◌else◌}
use Rattle.std.specs.List.{filter}
use Rattle.pv_path.specs.Names.{same_bytes}
use Rattle.pv_text.specs.declared.tool.Tool.{Tool}
use Rattle.pv_text.specs.declared.tool.Tool.TheVariants.{Tmpfiles, Sysusers}
use Rattle.pv_words.specs.declared.option.OptionName.{OptionName}
use Rattle.pv_words.specs.declared.option.OptionName.TheVariants.{Create, Remove, Clean, Report, Purge, Explain, Boot, Prefix, ExcludePrefix, StopAfter, Now}
use Rattle.pv_words.specs.declared.option.Reader.{Reader}
use Rattle.pv_words.specs.declared.option.Reader.TheVariants.{Flag, PathOf, Decimal, Moment}

-- A row: the name without its dashes, the tools that have the option, and how its value is read. Then: whether it is
-- one of those of which a tool needs one, which options it excludes, and whether it needs a FILE argument.
pub record Row : Type 0 where
  pub name : List ℕ
  pub for_tmpfiles : Bool
  pub for_sysusers : Bool
  pub reader : Reader
  pub suffices : Bool
  pub excludes : List OptionName
  pub needs_file : Bool

-- A row for an option that only systemd-tmpfiles has.
abbrev pub of_tmpfiles : List ℕ → Reader → Bool → List OptionName → Row
of_tmpfiles name reader suffices excludes =
    record { name = name; for_tmpfiles = true; for_sysusers = false; reader = reader; suffices = suffices; excludes = excludes; needs_file = false }

-- A row for an option that both tools have.
abbrev pub of_both : List ℕ → Reader → Bool → List OptionName → Row
of_both name reader suffices excludes =
    record { name = name; for_tmpfiles = true; for_sysusers = true; reader = reader; suffices = suffices; excludes = excludes; needs_file = false }

-- The same row, for an option that needs a FILE argument.
abbrev pub with_file : Row → Row
with_file row = record row { needs_file = true }

-- The table: name, how the value is read, whether it is one that a tool needs, and which options it excludes.
abbrev pub row_of : OptionName → Row
row_of Create = of_tmpfiles (codes "create") Flag true []
row_of Remove = of_tmpfiles (codes "remove") Flag true []
row_of Clean = of_tmpfiles (codes "clean") Flag true []
row_of Report = of_tmpfiles (codes "report") Flag true (Create ∷ Remove ∷ Clean ∷ StopAfter ∷ [])
row_of Purge = with_file (of_tmpfiles (codes "purge") Flag true (Create ∷ Remove ∷ Clean ∷ Report ∷ []))
row_of Explain = of_tmpfiles (codes "explain") PathOf true (Create ∷ Remove ∷ Clean ∷ Report ∷ Purge ∷ StopAfter ∷ [])
row_of Boot = of_tmpfiles (codes "boot") Flag false []
row_of Prefix = of_tmpfiles (codes "prefix") PathOf false []
row_of ExcludePrefix = of_tmpfiles (codes "exclude-prefix") PathOf false []
row_of StopAfter = of_both (codes "stop-after") Decimal false []
row_of Now = of_both (codes "now") Moment false []

-- All options of the table.
abbrev pub all_options : List OptionName
all_options = Create ∷ Remove ∷ Clean ∷ Report ∷ Purge ∷ Explain ∷ Boot ∷ Prefix ∷ ExcludePrefix ∷ StopAfter ∷ Now ∷ []

-- Whether an option with this reader is a flag, which has no value.
abbrev pub is_flag : Reader → Bool
is_flag Flag = true
is_flag PathOf = false
is_flag Decimal = false
is_flag Moment = false

-- Whether an option takes a value: it is not a flag.
abbrev pub takes_value : Row → Bool
takes_value row = not (is_flag row.reader)

-- Whether a tool has an option.
abbrev pub is_for : Tool → OptionName → Bool
is_for Tmpfiles option = (row_of option).for_tmpfiles
is_for Sysusers option = (row_of option).for_sysusers

-- Whether an option is one of those of which a tool needs one.
abbrev pub suffices_for : Tool → OptionName → Bool
suffices_for tool option = is_for tool option && (row_of option).suffices

-- The options of which a tool needs at least one. For systemd-sysusers there are none.
abbrev pub needed_by : Tool → List OptionName
needed_by tool = filter (suffices_for tool) all_options

-- Whether two options have the same name.
abbrev pub same_option : OptionName → OptionName → Bool
same_option a b = same_bytes (row_of a).name (row_of b).name

-- The option with a name, if there is one.
abbrev pub option_named : List ℕ → Option OptionName
option_named name = find (λ option. same_bytes (row_of option).name name) all_options

-- The tool with a name, if there is one.
abbrev pub tool_named : List ℕ → Option Tool
tool_named name =
    if same_bytes name (codes "systemd-tmpfiles") then Some Tmpfiles
    else if same_bytes name (codes "systemd-sysusers") then Some Sysusers
    else None
