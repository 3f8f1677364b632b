-- What the order of creating is like (tmpfiles.d(5)). Lines that make objects come first, a directory before what is
-- below it.
use Rattle.std.specs.Prelude.{◌≡◌, Bool, true, not, ◌&&◌, List, [], ◌∷◌, ◌++◌, filter}
use Rattle.std.specs.List.{list_all}
use Rattle.std.specs.List.Sorted.{IsPermutation}
use Rattle.pv_lines.specs.declared.line.Line.{Line}
use Rattle.pv_path.specs.Paths.{is_prefix, same_path}
use Rattle.pv_table.specs.Active.{is_adjusting_line}
use Rattle.pv_table.specs.Reaching.{is_creating, path_in}

-- Whether the path of a line is below that of another.
abbrev pub lies_under : Line → Line → Bool
lies_under above line = is_prefix (path_in above.path) (path_in line.path) && not (same_path (path_in above.path) (path_in line.path))

-- No line comes after one whose path is below its own.
abbrev pub AboveFirst : List Line → Type 0
AboveFirst [] = Unit {0}
AboveFirst (first ∷ lines) = (list_all (λ line. not (lies_under line first)) lines ≡ true) × AboveFirst lines

-- An order of lines in two parts. First comes each line that makes an object, once, a directory before what is below
-- it. Then come the lines that adjust existing objects, in the order in which they were read.
pub record IsCreateOrder (lines order : List Line) : Type 0 where
  pub making : List Line
  pub parts : order ≡ making ++ filter is_adjusting_line lines
  pub each_once : IsPermutation (filter is_creating lines) making
  pub above_first : AboveFirst making
