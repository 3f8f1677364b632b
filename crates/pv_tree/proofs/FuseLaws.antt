-- Laws of fuses: how one burns over several calls, and what its limit says of the steps done.
use Rattle.std.proofs.Common.{arith}
use Rattle.std.specs.Prelude.{◌≡◌, ◌≤◌, ◌+◌, ℕ, Option, Some, None}
use Rattle.pv_tree.specs.Fuses.{Burnt}

-- no more steps are done than the limit
pub burnt_within : (limit : ℕ) (left : Option ℕ) (refused : ℕ) (done : ℕ) → Burnt (Some limit) 0 0 left refused done → done ≤ limit
burnt_within limit None refused done b = absurd (let no : None ≡ Some (limit + 0) = b.limit in cc)
burnt_within limit (Some left) refused done b = let same : Some (left + done) ≡ Some (limit + 0) = b.limit in grind arith
