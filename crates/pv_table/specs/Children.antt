-- When everything in a directory is removed (tmpfiles.d(5), r; systemd-tmpfiles(8), --clean).
use Rattle.std.specs.Prelude.{Bool, not, ◌+◌, ◌||◌, [], ◌∷◌, ◌++◌}
use Rattle.std.specs.List.{list_all}
use Rattle.pv_path.specs.Paths.{Path}
use Rattle.pv_steps.specs.Trees.{Files, places, names_below}
use Rattle.pv_table.specs.Removed.{is_directory_at}

-- The object at a path is not a directory, or everything directly in it is removed.
abbrev pub children_go : (Path → Bool) → Files → Path → Bool
children_go goes t path = not (is_directory_at (places t) path) || list_all (λ name. goes (path ++ name ∷ [])) (names_below t path)
