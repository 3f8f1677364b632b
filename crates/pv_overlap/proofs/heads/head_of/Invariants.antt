use Rattle.std.proofs.Common.{◌≡◌, ◌++◌, drop}
use Rattle.pv_overlap.specs.Heads.{head_of}
use Rattle.pv_overlap.proofs.heads.head_of.Given as goal

abbrev pub invariant-loop-component : goal.invariant-loop-component
invariant-loop-component l = l.head ++ head_of (drop l.component-index l.components) ≡ head_of l.components
