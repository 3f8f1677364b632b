-- The age by which the contents of a directory are cleaned (tmpfiles.d(5), "Age", x and X).
use Rattle.std.specs.Prelude.{ℕ, Bool, true, false, not, ◌&&◌, ◌||◌, List, [], zero, suc, find, length, take, Option, Some, None, is_none, is_some, option_map, option_and_then, if◌then◌else◌}
use Rattle.std.specs.List.{list_all, list_any}
use Rattle.std.specs.Option.{option_map_or, option_or}
use Rattle.pv_age.specs.declared.age.Age.{Age}
use Rattle.pv_lines.specs.declared.line.Line.{Line}
use Rattle.pv_path.specs.Paths.{Path}
use Rattle.pv_table.specs.declared.scope.Scope.{Scope}
use Rattle.pv_table.specs.declared.taking.Sparing.{Sparing}
use Rattle.pv_table.specs.declared.taking.Sparing.TheVariants as sparing
use Rattle.pv_table.specs.ActionTable.{sparing_of}
use Rattle.pv_table.specs.Reaching.{names}

-- Whether a line spares everything below what it names: `x` without an age.
abbrev pub is_exempting : Line → Bool
is_exempting line = is_none line.age && option_map_or whole (sparing_of line) false
  where
    whole : Sparing → Bool
    whole sparing.Whole = true
    whole sparing.Itself = false

-- Whether a line spares only what it names: `X`.
abbrev pub is_sparing_itself : Line → Bool
is_sparing_itself line = option_map_or itself (sparing_of line) false
  where
    itself : Sparing → Bool
    itself sparing.Whole = false
    itself sparing.Itself = true

-- Whether a line names a path and has an age.
abbrev pub gives_age : Path → Line → Bool
gives_age path line = names line path && is_some line.age

-- The age of the first line that names a path and has an age.
abbrev pub first_age : List Line → Path → Option Age
first_age lines path = option_and_then (λ line. line.age) (find (gives_age path) lines)

-- The age of a directory as it holds for the directories below it.
abbrev pub inherited : Option Scope → Option Scope
inherited None = None
inherited (Some s) = Some (record s { own = false })

-- An age that a line gives for this directory itself.
abbrev pub own_scope : Age → Scope
own_scope age = record { age = age; own = true }

-- The age for a directory, given the age for its parent. The first rule that applies decides:
-- - If an `x` line without an age names the directory, there is none.
-- - If lines with an age name it, it is the age of the first of them.
-- - If no line names it, or only `X` lines do, it is the age for the parent.
-- - Otherwise there is none. Example: a line `d` without an age names it.
abbrev pub scope_at : Option Scope → List Line → Path → Option Scope
scope_at above lines path =
    if list_any (λ line. names line path && is_exempting line) lines then None
    else option_or
    (option_map own_scope (first_age lines path))
    (if list_all (λ line. not (names line path) || is_sparing_itself line) lines then inherited above else None)

-- The age for the directory of the first k components of a path. The ages are found from the root on.
abbrev pub scope_of_first : List Line → Path → ℕ → Option Scope
scope_of_first lines path zero = scope_at None lines []
scope_of_first lines path (suc k) = scope_at (scope_of_first lines path k) lines (take (suc k) path)

-- The age for what is directly in a directory.
abbrev pub scope : List Line → Path → Option Scope
scope lines path = scope_of_first lines path (length path)
