use Rattle.std.proofs.Common.{◌≡◌, drop}
use Rattle.pv_age.specs.Stamps.{stamps_of, stamps_with}
use Rattle.pv_age.proofs.stamps.stamps_of.Given as goal

-- the letters that are left make of the timestamps what the list makes
abbrev pub invariant-loop-letter : goal.invariant-loop-letter
invariant-loop-letter l = stamps_with (l.stamps).0 (drop l.letter-index l.list) ≡ stamps_of l.list
