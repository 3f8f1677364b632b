-- What the manual says is cleaned, as a rule for each path by what is cleaned of its entries (tmpfiles.d(5), "Age", x
-- and X).
use Rattle.std.specs.Prelude.{ℕ, Bool, not, ◌&&◌, ◌==◌, List, length}
use Rattle.std.specs.List.{list_any}
use Rattle.pv_lines.specs.declared.line.Line.{Line}
use Rattle.pv_path.specs.Paths.{Path, parent_of}
use Rattle.pv_steps.specs.Trees.{Files, places}
use Rattle.pv_table.specs.Cleaned.{is_old_by}
use Rattle.pv_table.specs.Reaching.{names}
use Rattle.pv_table.specs.Scopes.{scope}
use Rattle.pv_table.specs.Children.{children_go}

-- A path is aged if all of these hold:
-- - It is not the root, and no line names it.
-- - Its object exists and is old by the age for its directory, and this age does not spare it.
-- - It is not a directory, or all of its entries are aged.
abbrev pub is_aged_by : (Path → Bool) → List Line → ℕ → Files → Path → Bool
is_aged_by aged lines now t path =
    not (length path == 0) && not (list_any (λ line. names line path) lines)
    && is_old_by (scope lines (parent_of path)) now (places t path)
    && children_go aged t path
