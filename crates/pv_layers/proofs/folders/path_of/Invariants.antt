use Rattle.std.proofs.Common.{◌≡◌, map, take}
use Rattle.pv_layers.proofs.folders.path_of.Given as goal

abbrev pub invariant-loop-name : goal.invariant-loop-name
invariant-loop-name l = l.path ≡ map (λ name. name.now) (take l.name-index l.names)
