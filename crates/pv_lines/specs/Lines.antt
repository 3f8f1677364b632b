-- The line that a text spells, field by field from the left, or its first fault (tmpfiles.d(5)). And what is true of
-- every line that was read.
use Rattle.std.specs.Prelude.{◌≡◌, ℕ, ◌<◌, ◌≤◌, ◌^◌, Bool, true, false, nat_le, List, [], codes, length, map, slice_get, slice_index_or, Option, Some, None, IfSome, Result, Ok, if◌then◌else◌}
use Rattle.std.specs.List.{list_all}
use Rattle.pv_acl.specs.Applying.{is_line}
use Rattle.pv_path.specs.Names.{same_bytes}
use Rattle.pv_path.specs.Paths.{Path, has_names, has_staging}
use Rattle.pv_path.specs.Results.{◌>>=◌, in_words}
use Rattle.pv_steps.specs.Attributes.{are_attrs}
use Rattle.pv_steps.specs.Objects.{IsId, IsTarget}
use Rattle.pv_text.specs.Escapes.{unescaped}
use Rattle.pv_text.specs.Facts.{Values}
use Rattle.pv_text.specs.Fields.{fields_of, text_at}
use Rattle.pv_text.specs.declared.place.Place.{Place}
use Rattle.pv_lines.specs.declared.line_fault.LineFault.{LineFault}
use Rattle.pv_lines.specs.declared.line_fault.LineFault.TheVariants as fault
use Rattle.pv_lines.specs.declared.line.Argument.{Argument}
use Rattle.pv_lines.specs.declared.line.Argument.TheVariants as argument
use Rattle.pv_lines.specs.declared.line.Line.{Line}
use Rattle.pv_lines.specs.declared.line.LineId.{LineId}
use Rattle.pv_lines.specs.declared.line.LinePath.{LinePath}
use Rattle.pv_lines.specs.declared.line.LinePath.TheVariants.{Literal, Glob}
use Rattle.pv_lines.specs.declared.types.Row.{Row}
use Rattle.pv_lines.specs.declared.types.Wanted.{Wanted}
use Rattle.pv_lines.specs.declared.types.Wanted.TheVariants as wanted
use Rattle.pv_lines.specs.ArgumentField.{Lookup, argument_of}
use Rattle.pv_lines.specs.ModeField.{mode_of, owner_of, line_age_of}
use Rattle.pv_lines.specs.PathField.{named_of, is_root}
use Rattle.pv_lines.specs.TypeField.{typed_of}
use Rattle.pv_lines.specs.Types.{type_of}

-- ---- what a line says

-- The texts of the fields of a line, with their escapes undone, or the first fault of the fields.
abbrev pub texts_of : List ℕ → Result (List (List ℕ)) LineFault
texts_of line = in_words (λ f. fault.Field f) (fields_of line) >>= (λ spans. Ok (map (λ span. unescaped (text_at line span)) spans))

-- The text of the field at an index. If there is none, it is empty.
abbrev pub text : List (List ℕ) → ℕ → List ℕ
text texts i = slice_index_or texts i []

-- The text of the field at an index. A field that is not there, or is a single dash, counts as omitted.
abbrev pub given : List (List ℕ) → ℕ → Option (List ℕ)
given texts i = by (slice_get texts i)
  where
    by : Option (List ℕ) → Option (List ℕ)
    by None = None
    by (Some text) = if same_bytes text (codes "-") then None else Some text

-- The line that these texts spell at a location (file and line), or its first fault. The fields are read in this
-- order: Type, Path, Mode, User, Group, Age, Argument.
abbrev pub line_with : Values → Lookup → Place → List (List ℕ) → Result Line LineFault
line_with facts lookup place texts =
    typed_of (text texts 0) >>= (λ typed.
    named_of facts typed (text texts 1) >>= (λ named.
    mode_of (given texts 2) >>= (λ mode.
    owner_of fault.UnknownUser lookup.uid_named (given texts 3) >>= (λ user.
    owner_of fault.UnknownGroup lookup.gid_named (given texts 4) >>= (λ group.
    line_age_of typed.row (given texts 5) >>= (λ age.
    argument_of facts lookup named.path typed.encoded typed.row.wanted (given texts 6) >>= (λ wanted.
    Ok (record {
      letter = typed.row.letter;
      plus = typed.plus;
      boot = typed.boot;
      minus = typed.minus;
      replace = typed.replace;
      encoded = typed.encoded;
      purge = typed.purge;
      path = named.path;
      path_text = named.text;
      moved = named.moved;
      mode = mode;
      user = user;
      group = group;
      age = age;
      argument = wanted;
      place = place;
    }))))))))

-- The line that a text spells at a location, or its first fault.
abbrev pub line_of : Values → Lookup → Place → List ℕ → Result Line LineFault
line_of facts lookup place line = texts_of line >>= line_with facts lookup place

-- ---- what each line is that was read

-- A path that a line may have: fewer than 2^32 names of 1 to 240 bytes, none of which is a staging name.
pub record IsConfigured (path : Path) : Type 0 where
  pub names : has_names path ≡ true
  pub short : list_all (λ name. nat_le (length name) 240) path ≡ true
  pub unstaged : has_staging path ≡ false
  pub few : length path < 2 ^ 32

-- The path of a line. A type that makes an object has a path. Every other type has a pattern, and each of its
-- expansions has fewer than 2^32 components.
abbrev pub IsLinePath : Row → LinePath → Type 0
IsLinePath row (Literal path) = (row.creates ≡ true) × IsConfigured path
IsLinePath row (Glob pattern) = (row.creates ≡ false) × (list_all (λ plain. nat_le (length plain) 4294967295) pattern ≡ true)

-- An argument is of the kind that the type takes, and its parts are in range.
abbrev pub IsArgument : Wanted → Argument → Type 0
IsArgument wanted.Content (argument.FileBytes bytes) = Unit {0}
IsArgument wanted.Bytes (argument.WriteBytes bytes) = Unit {0}
IsArgument wanted.Target (argument.Target target) = IsTarget target
IsArgument wanted.Source (argument.Source source) = IsConfigured source
IsArgument wanted.Device (argument.Device major minor) = (major < 2 ^ 32) × (minor < 2 ^ 32)
IsArgument wanted.Entries (argument.Entries entries) = is_line entries ≡ true
IsArgument wanted.Attrs (argument.Attrs attrs) = are_attrs attrs ≡ true
IsArgument wanted.Letters (argument.Letters how letters) = letters < 2 ^ 15
IsArgument wanted.Nothing argument.Ignored = Unit {0}
IsArgument _ _ = ⊥

-- A modifier is present only if the type takes it.
abbrev pub Takes : Bool → Bool → Type 0
Takes takes stands = stands ≡ true → takes ≡ true

-- An owner, if one is given, is an ID.
abbrev pub AreIds : Option LineId → Type 0
AreIds owner = IfSome owner (λ owner. IsId owner.id)

-- A line has only what its type takes: its modifiers, path, age and argument. Only a type that takes the root may
-- name it, and then without the modifier `$`. The mode is at most 07777, and owners are IDs.
pub record IsLineOf (row : Row) (line : Line) : Type 0 where
  pub letter : line.letter ≡ row.letter
  pub plus : Takes row.plus line.plus
  pub replace : Takes row.replace line.replace
  pub encoded : Takes row.encoded line.encoded
  pub purge : Takes row.creates line.purge
  pub path : IsLinePath row line.path
  pub root : is_root line.path ≡ true → (row.root ≡ true) × (line.purge ≡ false)
  pub mode : IfSome line.mode (λ mode. mode.value ≤ 0o7777)
  pub user : AreIds line.user
  pub group : AreIds line.group
  pub age : IfSome line.age (λ age. row.ages ≡ true)
  pub argument : IsArgument row.wanted line.argument

-- Every line that was read is like this: its letter is a type, and it has only what this type takes.
pub record IsLine (line : Line) : Type 0 where
  pub row : Row
  pub is_type : type_of line.letter ≡ Some row
  pub fits : IsLineOf row line
