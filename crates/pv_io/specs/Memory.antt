-- Sources and sinks in memory, with a plan that says which calls fail.
use Rattle.std.specs.Prelude.{ℕ, List}

-- The number of the next call, the numbers of the calls that are to fail, and the count of faults so far.
pub record Plan : Type 0 where
  pub calls : ℕ
  pub fails : List ℕ
  pub faults : ℕ

-- The plan before the first call.
abbrev pub fresh : List ℕ → Plan
fresh fails = record { calls = 0; fails = fails; faults = 0 }

-- A source in memory: the bytes that are left, and its plan.
pub record Reading : Type 0 where
  pub left : List ℕ
  pub plan : Plan

-- A sink in memory: the bytes written so far, the most bytes that it takes in one call, the most that it takes in
-- all, and its plan.
pub record Writing : Type 0 where
  pub written : List ℕ
  pub most : ℕ
  pub room : ℕ
  pub plan : Plan
