use Rattle.std.proofs.Common.{ap, ◌∙◌}
use Rattle.pv_path.specs.Paths.{parent_of}
use Rattle.pv_steps.specs.Trees.{kind_of}
use Rattle.pv_tree.specs.Growth.{Grown}
use Rattle.pv_tree.proofs.GrowthLaws.{added_grown, parent_told}
use Rattle.pv_tree.proofs.State.{object_there}
use Rattle.pv_tree.proofs.builder.TreeBuilder.add.Goals as goal

pub returns-clause-ok : goal.returns-clause-ok
returns-clause-ok c =
    added_grown c.add_after.result c.self.inside.slots.items c.add_after.new.slots.items c.args.self.now c.add_after.new.last c.args.path c.args.object
    (ap (λ (g : Grown). g.files) c.self.view_is) c.self.invariant.held.forest c.add_after.ensures.growing.held.forest c.add_after.ensures.ok c.add_after.ensures.last

pub returns-clause-parent : goal.returns-clause-parent
returns-clause-parent c =
    parent_told c.add_after.result c.self.inside.slots.items c.args.self.now.files (parent_of c.args.path) c.self.invariant.held.forest (ap (λ (g : Grown). g.files) c.self.view_is) c.add_after.ensures.parent

pub returns-clause-orphan : goal.returns-clause-orphan
returns-clause-orphan c = λ e kind.
    c.add_after.ensures.orphan e
    (ap kind_of (object_there c.self.inside.slots.items c.args.self.now.files (parent_of c.args.path) c.self.invariant.held.forest (ap (λ (g : Grown). g.files) c.self.view_is)) ∙ kind)
