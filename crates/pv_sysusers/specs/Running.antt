-- What the answer of a run means (this project's own).
use Rattle.std.specs.Prelude.{◌≡◌, ℕ, List, Option, Some, Result, Ok, Err}
use Rattle.pv_steps.specs.declared.tree.TreeFault.{TreeFault}
use Rattle.pv_steps.specs.declared.tree.TreeFault.TheVariants as step
use Rattle.pv_steps.specs.declared.carried.Carried.{Carried}
use Rattle.pv_steps.specs.declared.carried.Carried.TheVariants.{Whole}
use Rattle.pv_sysusers.specs.declared.accounts_fault.AccountsFault.{AccountsFault}
use Rattle.pv_sysusers.specs.declared.accounts_fault.AccountsFault.TheVariants.{NoFreeId, Failed, Memory}

-- The answer of what was done in steps, as the answer of a run.
abbrev pub run_answer : {A : Type 0} → Result A TreeFault → Result Carried AccountsFault
run_answer (Ok x) = Ok Whole
run_answer (Err step.Failed) = Err Failed
run_answer (Err step.Memory) = Err Memory

-- The answer of a run, as that of what was done in steps. NoFreeId is given as Memory, since no step was asked for.
abbrev pub in_steps : Result Carried AccountsFault → Result Carried TreeFault
in_steps (Ok x) = Ok x
in_steps (Err Failed) = Err step.Failed
in_steps (Err Memory) = Err step.Memory
in_steps (Err (NoFreeId name)) = Err step.Memory

-- If a run answers NoFreeId, this is the name for which no number is left. Of other faults nothing is said.
abbrev pub Lacks : Option (List ℕ) → AccountsFault → Type 0
Lacks lacking (NoFreeId name) = lacking ≡ Some name
Lacks lacking Failed = Unit {0}
Lacks lacking Memory = Unit {0}

-- Something holds if the answer is that no number was left.
abbrev pub IfLacking : Result Carried AccountsFault → Type 0 → Type 0
IfLacking (Ok x) P = Unit {0}
IfLacking (Err (NoFreeId name)) P = P
IfLacking (Err Failed) P = Unit {0}
IfLacking (Err Memory) P = Unit {0}
