use Rattle.std.proofs.Common.{◌≡◌}
use Rattle.pv_generate.specs.Trees.{with_groups}
use Rattle.pv_generate.proofs.tree.add_groups.Given as goal

abbrev pub invariant-loop-n : goal.invariant-loop-n
invariant-loop-n l = l.plan ≡ with_groups l.n
