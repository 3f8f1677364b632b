use Rattle.std.proofs.Common.{◌≡◌, drop}
use Rattle.pv_folder.specs.Reading.{kind_named}
use Rattle.pv_folder.proofs.reading.kind_named.Given as goal

-- the name is not among those that were passed
abbrev pub invariant-loop-item : goal.invariant-loop-item
invariant-loop-item l = kind_named l.name l.items ≡ kind_named l.name (drop l.item-index l.items)
