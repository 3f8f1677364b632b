use Rattle.std.proofs.Common.{◌<◌, ◌^◌, arith}
use Rattle.std.proofs.lemmas.Nat.{or_lt}
use Rattle.pv_acl.proofs.perm.Perm.union.Goals as goal

pub invariant_of-result : goal.invariant_of-result
invariant_of-result c =
    let a : c.self.inside.bits < 2 ^ 3 = omega (arith, c.self.invariant) in
    let b : c.other.inside.bits < 2 ^ 3 = omega (arith, c.other.invariant) in
    omega (arith, or_lt 3 c.self.inside.bits c.other.inside.bits a b)
