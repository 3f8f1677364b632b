use Rattle.std.proofs.Common.{◌≡◌, map, take}
use Rattle.pv_steps.specs.Trees.{places}
use Rattle.pv_sysusers.specs.Accounted.{ids_of}
use Rattle.pv_sysusers.proofs.owners.owners.Given as goal

abbrev pub invariant-loop-request : goal.invariant-loop-request
invariant-loop-request g l = l.taken ≡ map (ids_of (places (g.T.Tree.state l.tree))) (take l.request-index l.request-items)
