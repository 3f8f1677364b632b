-- The path that a text spells, in a configuration line or in an argument of the command. If it spells none, the
-- first fault (tmpfiles.d(5), path_resolution(7)).
use Rattle.std.specs.Prelude.{◌≡◌, ℕ, Bool, false, not, ◌&&◌, ◌==◌, nat_lt, List, [], ◌∷◌, ◌++◌, length, Option, Some, None, Result, Ok, Err, if◌then◌else◌}
use Rattle.std.specs.List.{list_all, slice_split}
use Rattle.std.specs.Option.{option_map_or}
use Rattle.pv_path.specs.Names.{is_dots, is_staging}
use Rattle.pv_path.specs.Paths.{Path}
use Rattle.pv_path.specs.declared.path_fault.PathFault.{PathFault}
use Rattle.pv_path.specs.declared.path_fault.PathFault.TheVariants as fault

-- What is wrong with one component of a text. The first of these counts: it is `.` or `..`, it has more than 240
-- bytes, it is a staging name. The limit leaves room for the five bytes that its staging name has more.
abbrev pub name_fault : List ℕ → Option PathFault
name_fault name =
    if is_dots name then Some fault.DotComponent
    else if nat_lt 240 (length name) then Some fault.NameTooLong
    else if is_staging name then Some fault.StagingName
    else None

-- The path of one piece between two slashes: the empty path if the piece is empty, otherwise a path of this one
-- name. If the name has a fault, the answer is the fault.
abbrev pub piece_of : List ℕ → Result Path PathFault
piece_of [] = Ok []
piece_of (b ∷ bs) = option_map_or Err (name_fault (b ∷ bs)) (Ok ((b ∷ bs) ∷ []))

-- The path of two parts: the names of the first, then those of the second. If a part is a fault, the answer is the
-- first fault.
abbrev pub joined : Result Path PathFault → Result Path PathFault → Result Path PathFault
joined (Ok first) (Ok second) = Ok (first ++ second)
joined (Ok first) (Err f) = Err f
joined (Err f) second = Err f

-- The path of several pieces between slashes, or the fault of the first faulty piece. Empty pieces are left out.
abbrev pub names_of : List (List ℕ) → Result Path PathFault
names_of [] = Ok []
names_of (piece ∷ pieces) = joined (piece_of piece) (names_of pieces)

-- Whether a text is an absolute path: its first byte is a slash.
abbrev pub begins_with_slash : List ℕ → Bool
begins_with_slash [] = false
begins_with_slash (b ∷ bs) = b == 47

-- Whether a byte may occur in a text that spells a path: any byte except NUL.
abbrev pub is_path_byte : ℕ → Bool
is_path_byte b = nat_lt b 256 && not (b == 0)

-- The path that a text spells. Several slashes count as one, and a last slash is dropped. The first of these faults
-- counts: no slash at the beginning, a NUL byte, more than 4,095 bytes, the fault of the first faulty component.
-- Example: `//var//log/` is the path of `var` and `log`.
abbrev pub path_of : List ℕ → Result Path PathFault
path_of text =
    if begins_with_slash text then
    if not (list_all is_path_byte text) then Err fault.BadByte
    else if nat_lt 4095 (length text) then Err fault.PathTooLong
    else names_of (slice_split (λ b. b == 47) text)
    else Err fault.NotAbsolute

-- The answer of a call is what the definition gives. Only the answer that memory ran out is always allowed.
abbrev pub Gives : Result Path PathFault → Result Path PathFault → Type 0
Gives (Ok path) read = read ≡ Ok path
Gives (Err fault.Memory) read = Unit {0}
Gives (Err f) read = read ≡ Err f
