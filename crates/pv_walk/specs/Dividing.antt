-- Operations in parts. Entries of an ACL that include base entries take two steps, the mode before the ACL
-- (chmod(2), acl(5)).
use Rattle.std.specs.Prelude.{List, [], ◌∷◌, filter, flat_map, if◌then◌else◌}
use Rattle.std.specs.List.{list_any}
use Rattle.pv_acl.specs.declared.line.AclLine.{AclLine}
use Rattle.pv_acl.specs.declared.line.How.TheVariants.{Add}
use Rattle.pv_walk.specs.declared.operation.Change.TheVariants.{Entries}
use Rattle.pv_walk.specs.declared.operation.Operation.{Operation}
use Rattle.pv_walk.specs.declared.operation.Operation.TheVariants.{Apply}
use Rattle.pv_walk.specs.Reasons.{is_base}

-- The base entries of the access part of a line.
abbrev pub base_line : AclLine → AclLine
base_line line = record { access = filter is_base line.access; default_part = [] }

-- An operation in parts. If it sets entries that include base entries of the access part, there are two parts:
-- adding these base entries, and then setting all entries. Any other operation is one part.
abbrev pub parts_of : Operation → List Operation
parts_of (Apply guard (Entries line how)) =
    if list_any is_base line.access then Apply guard (Entries (base_line line) Add) ∷ Apply guard (Entries line how) ∷ []
    else Apply guard (Entries line how) ∷ []
parts_of operation = operation ∷ []

-- Several operations in parts.
abbrev pub parts : List Operation → List Operation
parts operations = flat_map parts_of operations
