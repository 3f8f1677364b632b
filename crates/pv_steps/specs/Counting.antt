-- How a tree counts the steps that it refuses (this project's own).
use Rattle.std.specs.Prelude.{ℕ, zero, suc, Result, Err}
use Rattle.pv_io.specs.Faults.{fault_after}
use Rattle.pv_steps.specs.declared.tree.TreeFault.{TreeFault}
use Rattle.pv_steps.specs.declared.tree.TreeFault.TheVariants.{Failed}

-- How many steps were refused, by the answer of a call: one if the answer is `Failed`, otherwise none.
abbrev pub refused : {A : Type 0} → Result A TreeFault → ℕ
refused (Err Failed) = 1
refused r = 0

-- The count of faults after so many more.
abbrev pub faults_after : ℕ → ℕ → ℕ
faults_after zero n = n
faults_after (suc k) n = fault_after (faults_after k n)
