use Rattle.std.proofs.Common.{◌≡◌, ◌++◌, length}
use Rattle.base64.specs.GeneralPurpose.{encode_of}
use Rattle.base64.specs.Engines.{standard}
use Rattle.pv_image.proofs.write.add_base64.Given as goal

abbrev pub invariant-loop-rest : goal.invariant-loop-rest
invariant-loop-rest l = l.initial.output.items ++ encode_of standard l.content ≡ l.output.items ++ encode_of standard l.rest

abbrev pub decreases-loop-rest : goal.decreases-loop-rest
decreases-loop-rest l = length l.rest
