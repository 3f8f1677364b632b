use Rattle.std.proofs.Common.{ap, option_map, Some, ◌∙◌}
use Rattle.pv_steps.specs.declared.object.Object.{Object}
use Rattle.pv_tree.specs.Held.{Held}
use Rattle.pv_tree.proofs.State.{read_object, read_none}
use Rattle.pv_tree.proofs.mem_tree.MemTree.payload_at.Goals as goal

pub returns-in-Some : goal.returns-in-Some
returns-in-Some c =
    ap Some c.payload.ensures
    ∙ ap (option_map (λ (o : Object). o.payload)) (read_object c.self.inside.slots.items c.args.self.now.files c.args.path.now c.self.invariant.whole.forest (ap (λ (h : Held). h.files) c.self.view_is) c.in-Some.slot.now c.in-Some.ensures)

pub returns-in-None : goal.returns-in-None
returns-in-None c =
    ap (option_map (λ (o : Object). o.payload)) (read_none c.self.inside.slots.items c.args.self.now.files c.args.path.now c.self.invariant.whole.forest (ap (λ (h : Held). h.files) c.self.view_is) c.in-None.ensures)
