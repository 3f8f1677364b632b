use Rattle.std.proofs.Common.{◌≡◌, length, arith}
use Rattle.std.proofs.lemmas.List.{nil_from_length, length-set}
use Rattle.pv_tree.specs.declared.slot.Slot.{Slot}
use Rattle.pv_tree.proofs.SlotLaws.{placed_free, placed_new, next_free, slice_get_last}
use Rattle.pv_tree.proofs.slots.place.Goals as goal

pub returns-in-Some-clause-placed : goal.returns-in-Some-clause-placed
returns-in-Some-clause-placed c =
    placed_free c.args.slots.now.items c.args.free.now.items c.pop.new.self.items c.in-Some.number _ (c.requires.within c.in-Some.number (slice_get_last c.pop.new.self.items c.args.free.now.items c.in-Some.number c.in-Some.ensures.items)) c.in-Some.ensures.items c.requires.childless

pub returns-in-Some-clause-number : goal.returns-in-Some-clause-number
returns-in-Some-clause-number c =
    let within = c.requires.within c.in-Some.number (slice_get_last c.pop.new.self.items c.args.free.now.items c.in-Some.number c.in-Some.ensures.items) in
    omega (arith, within, next_free c.args.slots.now.items c.args.free.now.items c.pop.new.self.items c.in-Some.number c.in-Some.ensures.items, length-set {A = Slot})

pub returns-in-None-clause-placed : goal.returns-in-None-clause-placed
returns-in-None-clause-placed c =
    let none : length c.args.free.now.items ≡ 0 = omega (arith, c.in-None.ensures.cases.0, c.args.free.now.ok.0) in
    placed_new c.args.slots.now.items c.push_within.new.items.items c.args.free.now.items _ (nil_from_length c.args.free.now.items none) c.push_within.ensures c.requires.childless
