-- Fuses. A tree with a fuse does only a given number of steps, and then refuses each one. A fuse keeps how many
-- steps are left and how often it has refused one.
use Rattle.std.proofs.Common.{arith, ◌∙◌}
use Rattle.std.specs.Prelude.{ℕ, zero, ◌≡◌, ◌≤◌, ◌<◌, ◌+◌, ◌-◌, min, refl, Option, Some, None}
use Rattle.pv_io.specs.Faults.{last_count, fault_after}

-- What is left after one more step. Without a limit, nothing is used up.
abbrev pub one_less : Option ℕ → Option ℕ
one_less None = None
one_less (Some n) = Some (n - 1)

-- A count stops at its last value.
abbrev pub capped : ℕ → ℕ
capped n = min n last_count

-- The number of refusals after a step was asked for. It is refused if nothing is left.
abbrev pub refusals_after : Option ℕ → ℕ → ℕ
refusals_after (Some zero) refused = fault_after refused
refusals_after left refused = refused

-- How many steps had been done when one was last refused. If nothing is left, it is the number of steps done now.
-- Otherwise it is what the inner tree says.
abbrev pub last_refusal : Option ℕ → ℕ → ℕ → ℕ
last_refusal (Some zero) done at = done
last_refusal left done at = at

-- The limit from the first step on: the steps that are left and those that were done.
abbrev pub whole_limit : Option ℕ → ℕ → Option ℕ
whole_limit None _ = None
whole_limit (Some left) done = Some (left + done)

-- A fuse that has refused a step has nothing left.
abbrev pub IsUsedUp : Option ℕ → ℕ → Type 0
IsUsedUp left refused = 0 < refused → left ≡ Some 0

-- What holds of a fuse before and after some calls. Only steps that were done use it up, its refusals never fall,
-- and a fuse that has refused a step still has nothing left.
pub record Burnt (left : Option ℕ) (refused : ℕ) (done : ℕ) (left' : Option ℕ) (refused' : ℕ) (done' : ℕ) : Type 0 where
  pub limit : whole_limit left' done' ≡ whole_limit left done
  pub refusals : refused ≤ refused'
  pub used_up : IsUsedUp left refused → IsUsedUp left' refused'

-- This holds if there is no call.
pub burnt_refl : (left : Option ℕ) (refused : ℕ) (done : ℕ) → Burnt left refused done left refused done
burnt_refl left refused done = record { limit = refl; refusals = omega arith; used_up = λ h. h }

-- This holds of calls that come one after the other.
pub burnt_trans : (l : Option ℕ) (r : ℕ) (d : ℕ) (l' : Option ℕ) (r' : ℕ) (d' : ℕ) (l'' : Option ℕ) (r'' : ℕ) (d'' : ℕ) →
    Burnt l r d l' r' d' → Burnt l' r' d' l'' r'' d'' → Burnt l r d l'' r'' d''
burnt_trans _ _ _ _ _ _ _ _ _ p q = record {
  limit = q.limit ∙ p.limit;
  refusals = omega (arith, p.refusals, q.refusals);
  used_up = λ h. q.used_up (p.used_up h);
}
