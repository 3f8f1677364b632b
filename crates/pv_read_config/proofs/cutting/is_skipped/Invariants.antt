use Rattle.std.proofs.Common.{◌≡◌, drop}
use Rattle.pv_read_config.specs.Configuration.{is_skipped}
use Rattle.pv_read_config.proofs.cutting.is_skipped.Given as goal

abbrev pub invariant-loop-byte : goal.invariant-loop-byte
invariant-loop-byte l = is_skipped l.line ≡ is_skipped (drop l.byte-index l.line)
