use Rattle.std.proofs.Common.{◌≡◌, drop}
use Rattle.pv_walk.specs.Operations.{run}
use Rattle.pv_walk.proofs.run.run_operations.Given as goal

-- what is left makes of the object so far what all operations make of the old one
abbrev pub invariant-loop-operation : goal.invariant-loop-operation
invariant-loop-operation l = run (drop l.operation-index l.operations) l.object_state ≡ run l.operations l.fn.old
