-- Cleaning: what is old enough to be removed (tmpfiles.d(5), "Age", x and X). All timestamps are those at the
-- beginning of the phase.
use Rattle.std.specs.Prelude.{ℕ, Bool, false, not, ◌&&◌, ◌==◌, List, length, Option, Some, is_some}
use Rattle.std.specs.List.{list_any}
use Rattle.pv_table.specs.Old.{is_old}
use Rattle.pv_lines.specs.declared.line.Line.{Line}
use Rattle.pv_path.specs.Paths.{Path, parent_of}
use Rattle.pv_steps.specs.declared.object.Object.{Object}
use Rattle.pv_steps.specs.Objects.{changed}
use Rattle.pv_steps.specs.Trees.{Files, places}
use Rattle.pv_table.specs.declared.scope.Scope.{Scope}
use Rattle.pv_table.specs.Reaching.{names}
use Rattle.pv_table.specs.Removed.{files_without}
use Rattle.pv_walk.specs.Whole.{all_at}
use Rattle.pv_table.specs.Scopes.{scope}

-- Whether an object is old by the age for its directory. There must be such an age. An age with `~` spares what is
-- directly in the directory for which it is given.
abbrev pub is_old_by : Option Scope → ℕ → Option Object → Bool
is_old_by (Some s) now (Some o) = not (s.age.spare_first && s.own) && is_old o.node s.age now
is_old_by s now o = false

-- Whether a path may be removed by itself. It is not the root, no line names it, and its object is old by the age for
-- its directory.
abbrev pub may_go : List Line → ℕ → Files → Path → Bool
may_go lines now t path =
    not (length path == 0) && not (list_any (λ line. names line path) lines)
    && is_old_by (scope lines (parent_of path)) now (places t path)

-- An object is removed if it and everything below it may be removed.
abbrev pub is_aged : List Line → ℕ → Files → Path → Bool
is_aged lines now t path = is_some (places t path) && all_at (may_go lines now t) t path

-- The tree that cleaning leaves. A directory that stays and loses an entry gets a new change timestamp. Its other
-- timestamps stay.
abbrev pub cleaned : List Line → ℕ → Files → Files
cleaned lines now t = files_without (is_aged lines now t) (changed now) t
