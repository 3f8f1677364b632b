-- What the manual says is removed, as a rule for each path by what is removed of its entries (tmpfiles.d(5), r, R and
-- D).
use Rattle.std.specs.Prelude.{Bool, false, not, ◌+◌, ◌&&◌, ◌==◌, List, length, take, is_some}
use Rattle.std.specs.List.{list_any, range_with_len}
use Rattle.pv_lines.specs.declared.line.Line.{Line}
use Rattle.pv_path.specs.Paths.{Path}
use Rattle.pv_steps.specs.Trees.{Files, places}
use Rattle.pv_table.specs.declared.taking.Taking.{Taking}
use Rattle.pv_table.specs.declared.taking.Taking.TheVariants as taking
use Rattle.pv_table.specs.ActionTable.{taking_of}
use Rattle.pv_table.specs.Removed.{is_directory_at, is_named}
use Rattle.pv_table.specs.Children.{children_go}

-- A line removes a path by its type, if it is not refused at the path that it names:
-- - `R`: It names the path, or a directory above it.
-- - `D`: It names a directory above the path.
-- - `r`: It names the path, which is not a directory, or of which all entries are removed.
abbrev pub takes_by : (Path → Bool) → Line → Files → Path → Bool
takes_by goes line t path = by (taking_of line)
  where
    by : Taking → Bool
    by taking.Whole = list_any (λ k. is_named line (places t) (take k path)) (range_with_len 0 (length path + 1))
    by taking.Contents = list_any (λ k. is_named line (places t) (take k path) && is_directory_at (places t) (take k path)) (range_with_len 0 (length path))
    by taking.Itself = is_named line (places t) path && children_go goes t path
    by taking.Nothing = false

-- A path is removed if it exists, is not the root, and some line removes it.
abbrev pub is_gone_by : (Path → Bool) → List Line → Files → Path → Bool
is_gone_by goes lines t path = is_some (places t path) && not (length path == 0) && list_any (λ line. takes_by goes line t path) lines
