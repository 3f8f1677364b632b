use Rattle.std.proofs.Common.{length}
use Rattle.test_tree.proofs.tree_tests.tree_text.Given as goal

abbrev pub decreases-loop-place : goal.decreases-loop-place
decreases-loop-place g l = length l.walk
