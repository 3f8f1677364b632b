-- The names of faults as messages print them, without the index in the line (this project's own).
use Rattle.std.specs.Prelude.{ℕ, List, codes}
use Rattle.pv_text.specs.declared.text_fault.ExpandFault.TheVariants as expansion
use Rattle.pv_text.specs.declared.text_fault.ExpandFault.{ExpandFault}
use Rattle.pv_text.specs.declared.text_fault.FieldFault.TheVariants as field
use Rattle.pv_text.specs.declared.text_fault.FieldFault.{FieldFault}

-- The name of a fault in the fields of a line.
abbrev pub field_name : FieldFault → List ℕ
field_name (field.BadByte at) = codes "BadByte"
field_name (field.OpenQuote at) = codes "OpenQuote"
field_name (field.GluedQuote at) = codes "GluedQuote"
field_name (field.BadEscape at) = codes "BadEscape"
field_name field.TooFew = codes "TooFew"

-- The name of a fault in a specifier.
abbrev pub expansion_name : ExpandFault → List ℕ
expansion_name expansion.UnknownSpecifier = codes "UnknownSpecifier"
expansion_name expansion.MissingFact = codes "MissingFact"
expansion_name expansion.Memory = codes "Memory"
