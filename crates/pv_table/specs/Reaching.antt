-- Which paths a line names, reaches, and governs (tmpfiles.d(5)).
use Rattle.std.specs.Prelude.{Bool, true, false, ◌&&◌, ◌||◌, length, take, [], is_some}
use Rattle.std.specs.List.{list_any, range_with_len}
use Rattle.std.specs.Option.{option_map_or}
use Rattle.pv_glob.specs.Matching.{some_matches}
use Rattle.pv_lines.specs.declared.line.Line.{Line}
use Rattle.pv_lines.specs.declared.line.LinePath.{LinePath}
use Rattle.pv_lines.specs.declared.line.LinePath.TheVariants.{Literal, Glob}
use Rattle.pv_path.specs.Paths.{Path, same_path, is_prefix}
use Rattle.pv_table.specs.declared.action.Action.{Action}
use Rattle.pv_table.specs.declared.action.Action.TheVariants.{Create, Copy, Adjust, Idle}
use Rattle.pv_table.specs.declared.taking.Taking.{Taking}
use Rattle.pv_table.specs.declared.taking.Taking.TheVariants as taking
use Rattle.pv_table.specs.declared.taking.Sparing.{Sparing}
use Rattle.pv_table.specs.declared.taking.Sparing.TheVariants as sparing
use Rattle.pv_table.specs.ActionTable.{action_of, sparing_of, taking_of}

-- ---- names

-- The path of a line that has one path and not a pattern.
abbrev pub path_in : LinePath → Path
path_in (Literal path) = path
path_in (Glob pattern) = []

-- Whether a path is the line's own, or its pattern matches it.
abbrev pub names_in : LinePath → Path → Bool
names_in (Literal path) q = same_path path q
names_in (Glob pattern) q = some_matches pattern q

-- Whether a line names a path.
abbrev pub names : Line → Path → Bool
names line q = names_in line.path q

-- Whether a line names some directory above a path.
abbrev pub names_above : Line → Path → Bool
names_above line q = list_any (λ k. names line (take k q)) (range_with_len 0 (length q))

-- ---- reach

-- Whether a line makes or copies an object. Such a line has a path, and every other line has a pattern.
abbrev pub is_creating : Line → Bool
is_creating line = by line.path
  where
    by : LinePath → Bool
    by (Literal path) = true
    by (Glob pattern) = false

-- Whether what a line does at a path reaches everything below it: it may replace the object, copies, or adjusts
-- everything below too.
abbrev pub is_deep : Action → Bool
is_deep (Create making) = is_some making.renew
is_deep (Copy copying) = true
is_deep (Adjust adjustment) = adjustment.deep
is_deep Idle = false

abbrev pub takes_below : Taking → Bool
takes_below taking.Itself = false
takes_below taking.Whole = true
takes_below taking.Contents = true
takes_below taking.Nothing = false

abbrev pub spares_below : Sparing → Bool
spares_below sparing.Whole = true
spares_below sparing.Itself = false

-- Whether a line reaches everything below the paths that it names. It does if one of these holds:
-- - It may replace an object, copies, or adjusts everything below (see `is_deep`).
-- - It removes (`R`, `D`) or spares (`x`) everything below.
-- - It has an age, or the modifier `$`.
abbrev pub reaches_below : Line → Bool
reaches_below line =
    is_deep (action_of line) || takes_below (taking_of line) || option_map_or spares_below (sparing_of line) false
    || is_some line.age || line.purge

-- Whether a line reaches a path: it names the path, or reaches everything below a path that it names above it.
abbrev pub reaches : Line → Path → Bool
reaches line q = names line q || (reaches_below line && names_above line q)

-- Whether a line governs a path, which means that it may change it. It reaches the path, or the path is at or above
-- the object that it makes or copies.
abbrev pub governs : Line → Path → Bool
governs line q = reaches line q || (is_creating line && is_prefix q (path_in line.path))
