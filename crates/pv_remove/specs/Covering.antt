-- What a line asks to remove, seen from one path that it names (tmpfiles.d(5), r, R and D).
use Rattle.std.specs.Prelude.{Bool, false, ◌&&◌, is_some}
use Rattle.pv_path.specs.Paths.{Path, is_prefix, same_path}
use Rattle.pv_steps.specs.Trees.{Files, places}
use Rattle.pv_walk.specs.Removal.{is_below}
use Rattle.pv_table.specs.declared.taking.Taking.{Taking}
use Rattle.pv_table.specs.declared.taking.Taking.TheVariants as taking

-- The object at the second path exists, and a line that removes in this way at the first path asks to remove it.
abbrev pub takes : Taking → Files → Path → Path → Bool
takes taking.Itself files path q = is_some (places files q) && same_path path q
takes taking.Whole files path q = is_some (places files q) && is_prefix path q
takes taking.Contents files path q = is_some (places files q) && is_below path q
takes taking.Nothing files path q = false
