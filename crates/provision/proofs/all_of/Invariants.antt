use Rattle.std.specs.Prelude.{◌≡◌, ◌++◌}
use Rattle.std.specs.Vec.Iter.{into_iter_items}
use Rattle.provision.proofs.all_of.Given as goal

-- what is taken, and what is left, are all that was given
abbrev pub invariant-loop-argument : goal.invariant-loop-argument
invariant-loop-argument l = l.arguments.items ++ into_iter_items l.argument-iterator ≡ into_iter_items l.fn.given
