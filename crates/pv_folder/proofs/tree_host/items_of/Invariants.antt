use Rattle.std.proofs.Common.{◌≡◌, map, take}
use Rattle.pv_folder.specs.Memory.{item_at}
use Rattle.pv_folder.proofs.tree_host.items_of.Given as goal

-- the items of the names gone through
abbrev pub invariant-loop-name : goal.invariant-loop-name
invariant-loop-name l = l.items ≡ map (item_at l.tree.files l.path) (take l.name-index l.name-items)
