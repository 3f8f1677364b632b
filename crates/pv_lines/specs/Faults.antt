-- How faults of the parts of a line become faults of the line, and what a reader returns.
use Rattle.std.specs.Prelude.{◌≡◌, Result, Ok, Err}
use Rattle.pv_acl.specs.declared.acl_fault.AclFault.{AclFault}
use Rattle.pv_acl.specs.declared.acl_fault.AclFault.TheVariants as acl
use Rattle.pv_glob.specs.declared.pattern_fault.PatternFault.{PatternFault}
use Rattle.pv_glob.specs.declared.pattern_fault.PatternFault.TheVariants as pattern
use Rattle.pv_path.specs.declared.path_fault.PathFault.{PathFault}
use Rattle.pv_path.specs.declared.path_fault.PathFault.TheVariants as path
use Rattle.pv_text.specs.declared.text_fault.ExpandFault.{ExpandFault}
use Rattle.pv_text.specs.declared.text_fault.ExpandFault.TheVariants as expand
use Rattle.pv_lines.specs.declared.line_fault.LineFault.{LineFault}
use Rattle.pv_lines.specs.declared.line_fault.LineFault.TheVariants as fault

-- The fault of a line for a fault in its specifiers, path, pattern or ACL entries. If memory ran out, the fault is
-- always Memory.
abbrev pub of_expansion : ExpandFault → LineFault
of_expansion expand.Memory = fault.Memory
of_expansion f = fault.Expand f

abbrev pub of_path : PathFault → LineFault
of_path path.Memory = fault.Memory
of_path f = fault.Path f

abbrev pub of_pattern : PatternFault → LineFault
of_pattern pattern.Memory = fault.Memory
of_pattern f = fault.Pattern f

abbrev pub of_acl : AclFault → LineFault
of_acl acl.Memory = fault.Memory
of_acl f = fault.Acl f

-- What a call returned is what the definition gives. If it returned Memory, nothing is said.
abbrev pub Gives : {A : Type 0} → Result A LineFault → Result A LineFault → Type 0
Gives (Ok x) read = read ≡ Ok x
Gives (Err fault.Memory) read = Unit {0}
Gives (Err f) read = read ≡ Err f
