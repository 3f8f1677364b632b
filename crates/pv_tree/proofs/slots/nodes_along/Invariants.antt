use Rattle.std.proofs.Common.{◌≡◌, take}
use Rattle.std.specs.Option.{option_copied}
use Rattle.pv_tree.specs.Slots.{slot_in}
use Rattle.pv_tree.proofs.AlongLaws.{AreAlong}
use Rattle.pv_tree.proofs.slots.nodes_along.Given as goal

abbrev pub invariant-loop-name : goal.invariant-loop-name
invariant-loop-name l = record {
  so_far : AreAlong l.slots.items l.names l.nodes.items l.name-index;
  place : option_copied l.place ≡ slot_in l.slots.items (take l.name-index l.names);
}
