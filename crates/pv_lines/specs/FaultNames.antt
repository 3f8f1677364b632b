-- The names of faults, as messages print them. A fault that wraps another one has the name of the innermost one.
use Rattle.std.specs.Prelude.{ℕ, List, codes}
use Rattle.pv_acl.specs.declared.acl_fault.AclFault.TheVariants as acl
use Rattle.pv_acl.specs.declared.acl_fault.AclFault.{AclFault}
use Rattle.pv_age.specs.declared.age_fault.AgeFault.TheVariants as age
use Rattle.pv_age.specs.declared.age_fault.AgeFault.{AgeFault}
use Rattle.pv_glob.specs.declared.pattern_fault.PatternFault.TheVariants as pattern
use Rattle.pv_glob.specs.declared.pattern_fault.PatternFault.{PatternFault}
use Rattle.pv_lines.specs.declared.line_fault.LineFault.TheVariants as line
use Rattle.pv_lines.specs.declared.line_fault.LineFault.{LineFault}
use Rattle.pv_path.specs.declared.path_fault.PathFault.TheVariants as path
use Rattle.pv_path.specs.declared.path_fault.PathFault.{PathFault}
use Rattle.pv_text.specs.FaultNames.{expansion_name, field_name}

-- The names of the faults of a path.
abbrev pub path_name : PathFault → List ℕ
path_name path.NotAbsolute = codes "NotAbsolute"
path_name path.BadByte = codes "BadByte"
path_name path.PathTooLong = codes "PathTooLong"
path_name path.DotComponent = codes "DotComponent"
path_name path.NameTooLong = codes "NameTooLong"
path_name path.StagingName = codes "StagingName"
path_name path.Memory = codes "Memory"

-- The names of the faults of a pattern.
abbrev pub pattern_name : PatternFault → List ℕ
pattern_name pattern.NotAbsolute = codes "NotAbsolute"
pattern_name pattern.BadByte = codes "BadByte"
pattern_name pattern.PathTooLong = codes "PathTooLong"
pattern_name pattern.DotComponent = codes "DotComponent"
pattern_name pattern.StagingName = codes "StagingName"
pattern_name pattern.UnclosedBracket = codes "UnclosedBracket"
pattern_name pattern.BadRange = codes "BadRange"
pattern_name pattern.BadClass = codes "BadClass"
pattern_name pattern.Brace = codes "Brace"
pattern_name pattern.TrailingBackslash = codes "TrailingBackslash"
pattern_name pattern.Memory = codes "Memory"

-- The names of the faults of an age.
abbrev pub age_name : AgeFault → List ℕ
age_name age.BadStampLetter = codes "BadStampLetter"
age_name age.BadNumber = codes "BadNumber"
age_name age.BadUnit = codes "BadUnit"
age_name age.Overflow = codes "Overflow"

-- The names of the faults of ACL entries.
abbrev pub acl_name : AclFault → List ℕ
acl_name acl.EmptyEntry = codes "EmptyEntry"
acl_name acl.BadTag = codes "BadTag"
acl_name acl.UnknownName = codes "UnknownName"
acl_name acl.BadPerm = codes "BadPerm"
acl_name acl.Memory = codes "Memory"

-- The names of the faults of a line.
abbrev pub name_of : LineFault → List ℕ
name_of (line.Field f) = field_name f
name_of line.UnknownType = codes "UnknownType"
name_of line.BadModifier = codes "BadModifier"
name_of (line.Expand f) = expansion_name f
name_of (line.Path f) = path_name f
name_of (line.Pattern f) = pattern_name f
name_of line.RootPath = codes "RootPath"
name_of line.BadMode = codes "BadMode"
name_of line.UnknownUser = codes "UnknownUser"
name_of line.UnknownGroup = codes "UnknownGroup"
name_of (line.Age f) = age_name f
name_of line.ArgumentNeeded = codes "ArgumentNeeded"
name_of line.BadBase64 = codes "BadBase64"
name_of line.BadDevice = codes "BadDevice"
name_of line.BadAttribute = codes "BadAttribute"
name_of line.BadLetter = codes "BadLetter"
name_of (line.Acl f) = acl_name f
name_of line.Memory = codes "Memory"
