use Rattle.std.proofs.Common.{◌≡◌, length}
use Rattle.pv_glob.specs.Elements.{elements_of}
use Rattle.pv_glob.specs.Braces.{expansions_of}
use Rattle.pv_glob.specs.Reading.{meaning}
use Rattle.pv_glob.proofs.braces.expansions_within.Given as goal

abbrev pub invariant-loop-rest : goal.invariant-loop-rest
invariant-loop-rest l = meaning l.reading (elements_of l.rest) ≡ expansions_of l.component

abbrev pub decreases-loop-rest : goal.decreases-loop-rest
decreases-loop-rest l = length l.rest
