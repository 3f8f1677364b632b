-- How a host counts its faults.
use Rattle.std.specs.Prelude.{ℕ, Result, Err}
use Rattle.pv_io.specs.Faults.{fault_after}
use Rattle.pv_folder.specs.declared.host.HostFault.{HostFault}
use Rattle.pv_folder.specs.declared.host.HostFault.TheVariants.{Failed}

-- The count of faults after a call: one more if it answered `Failed`, otherwise as before.
abbrev pub count_after : {A : Type 0} → Result A HostFault → ℕ → ℕ
count_after (Err Failed) n = fault_after n
count_after r n = n
