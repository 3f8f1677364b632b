-- Masked modes (tmpfiles.d(5), the prefix `~` of a mode).
use Rattle.std.specs.Prelude.{ℕ, ◌/◌, ◌%◌, bit_and, bit_or, if◌then◌else◌}
use Rattle.pv_acl.specs.declared.part.Part.{Part}
use Rattle.pv_acl.specs.Parts.{special_of}
use Rattle.pv_steps.specs.declared.node.Kind.{Kind}
use Rattle.pv_steps.specs.Objects.{is_directory}

-- Read, write and execute, as far as at least one of the three base entries grants them.
abbrev pub granted : Part → ℕ
granted part = bit_or part.owner (bit_or part.group part.other)

-- A part of an ACL after a masked mode was set. The base entries are those of the mode, but no permission is set
-- that none of the three entries granted before. Named entries and the mask stay.
abbrev pub with_masked : ℕ → Part → Part
with_masked mode part = record part {
  owner = bit_and (mode / 64 % 8) (granted part);
  group = bit_and (mode / 8 % 8) (granted part);
  other = bit_and (mode % 8) (granted part);
}

-- The special bits of a masked mode. Only a directory gets them.
abbrev pub masked_special : Kind → ℕ → ℕ
masked_special kind mode = if is_directory kind then special_of mode else 0
