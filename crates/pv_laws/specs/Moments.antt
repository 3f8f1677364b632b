-- Trees that differ only in timestamps (stat(2)), and maps from paths to objects without timestamps.
use Rattle.std.specs.Prelude.{◌≡◌, false}
use Rattle.pv_path.specs.Paths.{Path, has_staging}
use Rattle.pv_steps.specs.Trees.{Files, places}
use Rattle.std.specs.FinMap as fin
use Rattle.pv_walk.specs.Nodes.{object_states_of}
use Rattle.pv_table.specs.Pointwise.{ObjectStates}

-- Two trees are equal at each path except for timestamps. Staging names are compared too.
abbrev pub SameObjectStates : Files → Files → Type 0
SameObjectStates t u = (q : Path) → object_states_of (places t) q ≡ object_states_of (places u) q

-- A map gives the object of a tree at each path without a staging name, timestamps aside.
abbrev pub Agree : ObjectStates → Files → Type 0
Agree s t = (q : Path) → has_staging q ≡ false → fin.get s q ≡ object_states_of (places t) q
