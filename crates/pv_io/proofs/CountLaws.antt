-- Counting the calls of a loop.
use Rattle.std.proofs.Common.{◌<◌, ◌≤◌, ◌+◌, ℕ, Option, None, Some, arith}
use Rattle.pv_io.specs.Calls.{CountsAtMost, CountsCall}

-- one call more
pub CountsAtMost-call : (k : ℕ) (a b c : Option ℕ) → CountsAtMost k a b → CountsCall b c → CountsAtMost (k + 1) a c
CountsAtMost-call k None b c p q = tt
CountsAtMost-call k (Some n) None c p q = absurd p
CountsAtMost-call k (Some n) (Some m) None p q = absurd q
CountsAtMost-call k (Some n) (Some m) (Some l) p q = omega arith

pub CountsAtMost-more : (k l : ℕ) (a b : Option ℕ) → k ≤ l → CountsAtMost k a b → CountsAtMost l a b
CountsAtMost-more k l None b le p = tt
CountsAtMost-more k l (Some n) None le p = absurd p
CountsAtMost-more k l (Some n) (Some m) le p = omega arith

-- a count that was below a bound is within it after one call more
pub CountsAtMost-within : (k l : ℕ) (a b c : Option ℕ) → k < l → CountsAtMost k a b → CountsCall b c → CountsAtMost l a c
CountsAtMost-within k l a b c less p q = CountsAtMost-more (k + 1) l a c (omega arith) (CountsAtMost-call k a b c p q)
