-- Faults of lines of sysusers.d(5): how faults of a part become faults of the line, what a reader returns, and their
-- names.
use Rattle.std.specs.Prelude.{◌≡◌, ℕ, List, codes, Result, Ok, Err}
use Rattle.pv_text.specs.declared.text_fault.ExpandFault.{ExpandFault}
use Rattle.pv_text.specs.declared.text_fault.ExpandFault.TheVariants as expand
use Rattle.pv_text.specs.FaultNames.{expansion_name, field_name}
use Rattle.pv_requests.specs.declared.request_fault.RequestFault.{RequestFault}
use Rattle.pv_requests.specs.declared.request_fault.RequestFault.TheVariants as fault

-- The fault of a line for a fault in its specifiers. If memory ran out, the fault is always Memory.
abbrev pub of_expansion : ExpandFault → RequestFault
of_expansion expand.Memory = fault.Memory
of_expansion f = fault.Expand f

-- What a call returned is what the definition gives. If it returned Memory, nothing is said.
abbrev pub Gives : {A : Type 0} → Result A RequestFault → Result A RequestFault → Type 0
Gives (Ok x) read = read ≡ Ok x
Gives (Err fault.Memory) read = Unit {0}
Gives (Err f) read = read ≡ Err f

-- The name of a fault, as messages print it. A fault that wraps another one has the name of the innermost one.
abbrev pub name_of : RequestFault → List ℕ
name_of (fault.Field f) = field_name f
name_of fault.BadType = codes "BadType"
name_of fault.MissingField = codes "MissingField"
name_of (fault.Expand f) = expansion_name f
name_of fault.BadName = codes "BadName"
name_of fault.BadId = codes "BadId"
name_of fault.BadRange = codes "BadRange"
name_of fault.BadField = codes "BadField"
name_of fault.Memory = codes "Memory"
