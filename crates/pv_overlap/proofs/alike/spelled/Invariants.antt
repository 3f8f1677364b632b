use Rattle.std.proofs.Common.{◌≡◌, take}
use Rattle.pv_overlap.specs.Alike.{spelled}
use Rattle.pv_overlap.proofs.alike.spelled.Given as goal

abbrev pub invariant-loop-component : goal.invariant-loop-component
invariant-loop-component l = l.text.items ≡ spelled (take l.component-index l.components)
