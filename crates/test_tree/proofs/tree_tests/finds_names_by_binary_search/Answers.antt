use Rattle.std.proofs.Common.{refl, arith}
use Rattle.test_tree.proofs.tree_tests.finds_names_by_binary_search.Goals as goal

pub place_in-requires-clause-rising : goal.place_in-requires-clause-rising
place_in-requires-clause-rising g c = record { less = 1; equal = 1; greater = 1; once = omega arith; is = refl }

pub place_in-requires-2-clause-rising : goal.place_in-requires-2-clause-rising
place_in-requires-2-clause-rising g c = record { less = 3; equal = 0; greater = 0; once = omega arith; is = refl }

pub place_in-requires-3-clause-rising : goal.place_in-requires-3-clause-rising
place_in-requires-3-clause-rising g c = record { less = 0; equal = 0; greater = 0; once = omega arith; is = refl }
