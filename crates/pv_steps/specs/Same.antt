-- Trees that are the same except for timestamps and staging names.
use Rattle.std.specs.Prelude.{◌≡◌, ◌≢◌, false, option_map}
use Rattle.pv_path.specs.Paths.{Path, has_staging}
use Rattle.pv_steps.specs.Objects.{object_state}
use Rattle.pv_steps.specs.Trees.{Files, Places, places}

-- The objects of a tree without their timestamps.
abbrev pub object_states : Places → Places
object_states t = λ path. option_map object_state (t path)

-- Two trees are the same: at each path that has no staging name their objects are equal, except for timestamps. If
-- one has no object there, the other has none.
abbrev pub Same : Files → Files → Type 0
Same t u = (path : Path) → has_staging path ≡ false → object_states (places t) path ≡ object_states (places u) path

-- Two trees differ at some path in more than timestamps. The path may have a staging name.
abbrev pub Differ : Files → Files → Type 0
Differ t u = (path : Path) × (object_states (places t) path ≢ object_states (places u) path)
