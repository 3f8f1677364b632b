use Rattle.pv_tree.specs.Held.{Held}
use Rattle.std.proofs.Common.{ap}
use Rattle.pv_tree.proofs.Files.{walk_entries}
use Rattle.pv_tree.proofs.mem_tree.MemTree.walk.Goals as goal

pub returns-clause-entries : goal.returns-clause-entries
returns-clause-entries c = walk_entries c.of.result c.self.inside.slots.items c.args.self.now.files (ap (λ (h : Held). h.files) c.self.view_is) c.of.ensures
