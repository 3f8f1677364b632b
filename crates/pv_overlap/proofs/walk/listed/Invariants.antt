use Rattle.std.proofs.Common.{◌≡◌, map}
use Rattle.pv_overlap.proofs.walk.listed.Given as goal

abbrev pub invariant-loop-first : goal.invariant-loop-first
invariant-loop-first l = l.pairs ≡ map (λ e. record { first = e.0.0; second = e.0.1; path = e.1 }) l.yielded
