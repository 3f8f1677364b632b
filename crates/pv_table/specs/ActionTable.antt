-- What lines of each type do in each phase (tmpfiles.d(5), "Type"). No other definition looks at the letter of a
-- type.
use Prim.Native.Char.{code}
use Rattle.std.specs.Prelude.{ℕ, ◌%◌, Bool, true, false, not, ◌&&◌, ◌==◌, List, [], ◌∷◌, ◌++◌, Option, Some, None, option_map, unwrap_or, find, if◌then◌else◌}
use Rattle.std.specs.Option.{option_map_or}
use Rattle.pv_acl.specs.declared.line.How.TheVariants.{Replace, Add}
use Rattle.pv_walk.specs.declared.operation.Change.TheVariants.{Write, Append, Owner, Mode, Entries, Attrs, Letters}
use Rattle.pv_walk.specs.declared.operation.Guard.{Guard}
use Rattle.pv_walk.specs.declared.operation.Guard.TheVariants.{Every, NoLink, Only}
use Rattle.pv_walk.specs.declared.operation.Operation.{Operation}
use Rattle.pv_walk.specs.declared.operation.Operation.TheVariants.{Apply}
use Rattle.pv_walk.specs.declared.operation.Test.{Test}
use Rattle.pv_walk.specs.Nodes.{is_file, is_link}
use Rattle.pv_lines.specs.declared.line.Argument.{Argument}
use Rattle.pv_lines.specs.declared.line.Argument.TheVariants as argument
use Rattle.pv_lines.specs.declared.line.Line.{Line}
use Rattle.pv_lines.specs.declared.line.LineId.{LineId}
use Rattle.pv_lines.specs.declared.line.LineMode.{LineMode}
use Rattle.pv_path.specs.Paths.{Path}
use Rattle.pv_steps.specs.declared.node.Kind.{Kind}
use Rattle.pv_steps.specs.declared.node.Kind.TheVariants.{Directory, File}
use Rattle.pv_steps.specs.Objects.{is_directory}
use Rattle.pv_walk.specs.declared.new_file.NewKind.{NewKind}
use Rattle.pv_walk.specs.declared.new_file.NewKind.TheVariants as new
use Rattle.pv_walk.specs.Staging.{new_kind}
use Rattle.pv_table.specs.declared.action.Action.{Action}
use Rattle.pv_table.specs.declared.action.Action.TheVariants.{Create, Copy, Adjust, Idle}
use Rattle.pv_table.specs.declared.taking.Sparing.{Sparing}
use Rattle.pv_table.specs.declared.taking.Sparing.TheVariants as sparing
use Rattle.pv_table.specs.declared.taking.Taking.{Taking}
use Rattle.pv_table.specs.declared.taking.Taking.TheVariants as taking

-- ---- owners and modes

-- The ID of the owner of a new object, if the field gives one.
abbrev pub id_for_new : Option LineId → Option ℕ
id_for_new field = option_map (λ owner. owner.id) field

-- The ID that an existing object gets. With the prefix `:` it gets none.
abbrev pub id_to_set : Option LineId → Option ℕ
id_to_set None = None
id_to_set (Some owner) = if owner.new_only then None else Some owner.id

-- The mode of a new object. If none is given, it is 0755 for a directory and 0644 for any other object. A masked mode
-- (`~`) gives its special bits (07000) only to a directory.
abbrev pub mode_for_new : Option LineMode → Bool → ℕ
mode_for_new None directory = if directory then 0o755 else 0o644
mode_for_new (Some mode) directory = if mode.masked && not directory then mode.value % 512 else mode.value

-- A guard that leaves out symbolic links, since they have no mode. If it is for links only, nothing is left.
abbrev pub without_links : Guard → Option Guard
without_links Every = Some NoLink
without_links NoLink = Some NoLink
without_links (Only kind) = if is_link kind then None else Some (Only kind)

-- The operation that sets the mode of an existing object. With the prefix `:` there is none.
abbrev pub mode_to_set : Option LineMode → Option Guard → List Operation
mode_to_set (Some mode) (Some guard) = if mode.new_only then [] else Apply guard (Mode mode.value mode.masked) ∷ []
mode_to_set mode guard = []

-- The owners are set, and then the mode.
abbrev pub owners_and_mode : Guard → Line → List Operation
owners_and_mode guard line =
    Apply guard (Owner (id_to_set line.user) (id_to_set line.group)) ∷ mode_to_set line.mode (without_links guard)

-- ---- arguments

-- The bytes of an argument. If it has none, they are empty.
abbrev pub bytes_of : Argument → List ℕ
bytes_of (argument.FileBytes (Some bytes)) = bytes
bytes_of (argument.WriteBytes bytes) = bytes
bytes_of other = []

-- A symbolic link with the target of an argument.
abbrev pub link_to : Argument → NewKind
link_to (argument.Target target) = new.Link target
link_to other = new.Link []

-- A device with the numbers of an argument.
abbrev pub device : Bool → Argument → NewKind
device block (argument.Device major minor) = new.Device block major minor
device block other = new.Device block 0 0

-- The path of an argument.
abbrev pub source_of : Argument → Path
source_of (argument.Source source) = source
source_of other = []

-- ---- what is made

-- Which existing objects a new one replaces:
-- - With `=` it replaces an object of another kind, directories included. With `=` and `+` it also replaces a link
--   with another target or a device with other numbers.
-- - With `+` alone, the type L replaces an object of another kind, or a link with another target.
-- - With `+` alone, the types p, c and b replace an object of another kind, or a device with other numbers. A
--   directory stays.
-- - Otherwise, and for `f+` alone, it replaces none.
abbrev pub renewal : Line → Kind → Option Test
renewal line kind =
    if line.replace then Some (record { exact = line.plus; spares_directories = false })
    else if line.plus && not (is_file kind) then Some (record { exact = true; spares_directories = not (is_link kind) })
    else None

-- `f+` also writes its argument to an existing file.
abbrev pub contents_to_set : Line → Kind → List Operation
contents_to_set line kind =
    if line.plus && is_file kind then Apply (Only File) (Write (bytes_of line.argument)) ∷ [] else []

-- An object is made, with its mode and owners (by default root). If an object of its kind exists and is not replaced,
-- its content (`f+`), owners and mode are set.
abbrev pub making : NewKind → Line → Action
making what line = Create (record {
  new = record {
    what = what;
    mode = mode_for_new line.mode (is_directory (new_kind what));
    uid = unwrap_or (id_for_new line.user) 0;
    gid = unwrap_or (id_for_new line.group) 0;
  };
  renew = renewal line (new_kind what);
  sets = contents_to_set line (new_kind what) ++ owners_and_mode (Only (new_kind what)) line;
})

-- The object at another path is copied. With `=` it replaces an object of another kind.
abbrev pub copying : Line → Action
copying line = Copy (record {
  source = source_of line.argument;
  mode = line.mode;
  uid = id_for_new line.user;
  gid = id_for_new line.group;
  renews = line.replace;
  sets = owners_and_mode Every line;
})

-- ---- what is adjusted

-- An existing object is adjusted, and if `deep` everything below it too. An object that is not of the wanted kind is
-- left with a message.
abbrev pub adjustment : Bool → Guard → List Operation → Action
adjustment deep wanted sets = Adjust (record { deep = deep; wanted = wanted; sets = sets })

-- Bytes are written to an existing file (`w`). With `+` they are appended.
abbrev pub writing : Line → Action
writing line =
    adjustment false (Only File)
    (Apply (Only File) (if line.plus then Append (bytes_of line.argument) else Write (bytes_of line.argument)) ∷ [])

-- What an argument sets: ACL entries, extended attributes, or file attribute flags. With `+`, ACL entries are added
-- to the existing ones.
abbrev pub set_by : Bool → Argument → List Operation
set_by plus (argument.Entries line) = Apply NoLink (Entries line (if plus then Add else Replace)) ∷ []
set_by plus (argument.Attrs attrs) = Apply NoLink (Attrs attrs) ∷ []
set_by plus (argument.Letters how letters) = Apply NoLink (Letters how letters) ∷ []
set_by plus other = []

-- ---- the table

-- What each type asks for in creating:
-- - Files (`f`), directories (`d D v q Q`), FIFOs (`p`), symbolic links (`L`), devices (`c b`) and copies (`C`) are
--   made.
-- - Files are written (`w`), and existing directories are adjusted (`e`).
-- - Owners and modes (`z`), ACLs (`a`), extended attributes (`t`) and file attribute flags (`h`) are set. The types
--   `Z A T H` do the same at and below a path.
abbrev pub actions : List (ℕ × (Line → Action))
actions =
    (code "f", λ line. making (new.File (bytes_of line.argument)) line)
    ∷ (code "d", making new.Directory)
    ∷ (code "D", making new.Directory)
    ∷ (code "v", making new.Directory)
    ∷ (code "q", making new.Directory)
    ∷ (code "Q", making new.Directory)
    ∷ (code "p", making new.Fifo)
    ∷ (code "L", λ line. making (link_to line.argument) line)
    ∷ (code "c", λ line. making (device false line.argument) line)
    ∷ (code "b", λ line. making (device true line.argument) line)
    ∷ (code "C", copying)
    ∷ (code "w", writing)
    ∷ (code "e", λ line. adjustment false (Only Directory) (owners_and_mode (Only Directory) line))
    ∷ (code "z", λ line. adjustment false Every (owners_and_mode Every line))
    ∷ (code "Z", λ line. adjustment true Every (owners_and_mode Every line))
    ∷ (code "a", λ line. adjustment false Every (set_by line.plus line.argument))
    ∷ (code "A", λ line. adjustment true Every (set_by line.plus line.argument))
    ∷ (code "t", λ line. adjustment false Every (set_by line.plus line.argument))
    ∷ (code "T", λ line. adjustment true Every (set_by line.plus line.argument))
    ∷ (code "h", λ line. adjustment false Every (set_by line.plus line.argument))
    ∷ (code "H", λ line. adjustment true Every (set_by line.plus line.argument))
    ∷ []

-- What a line asks for in creating. Lines of type `r`, `R`, `x` and `X` ask for nothing.
abbrev pub action_of : Line → Action
action_of line = option_map_or (λ row. row.1 line) (find (λ row. row.0 == line.letter) actions) Idle

-- ---- what a line is for besides creating

-- What a line removes in removing: `r` the object itself, `R` the object and everything below it, `D` everything
-- below a directory.
abbrev pub taking_of : Line → Taking
taking_of line =
    if line.letter == code "r" then taking.Itself
    else if line.letter == code "R" then taking.Whole
    else if line.letter == code "D" then taking.Contents
    else taking.Nothing

-- What a line spares from cleaning: `x` the object and everything below it, `X` the object itself. Scopes says what
-- an `x` line with an age spares.
abbrev pub sparing_of : Line → Option Sparing
sparing_of line =
    if line.letter == code "x" then Some sparing.Whole
    else if line.letter == code "X" then Some sparing.Itself
    else None

-- Whether a line is of type `w`.
abbrev pub is_writing : Line → Bool
is_writing line = line.letter == code "w"
