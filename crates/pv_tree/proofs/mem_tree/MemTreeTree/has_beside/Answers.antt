use Rattle.std.proofs.Common.{◌∙◌, ap}
use Rattle.pv_tree.specs.Held.{Held}
use Rattle.pv_tree.proofs.AlongLaws.{beside_there}
use Rattle.pv_tree.proofs.mem_tree.MemTreeTree.has_beside.Goals as goal

pub returns : goal.returns
returns c = record {
  present =
      c.has_beside.ensures
      ∙ beside_there c.self.inside.slots.items c.args.self.now.files c.self.invariant.whole.forest (ap (λ (h : Held). h.files) c.self.view_is)
      c.args.path.now c.names.result.now c.args.names.now c.names.ensures.value;
}
