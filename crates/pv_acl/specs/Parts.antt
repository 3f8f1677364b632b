-- The parts of an ACL, their mask, and the modes that belong to them (acl(5), chmod(2)). An access part and a
-- default part have the same form.
use Rattle.std.specs.Prelude.{ℕ, ◌+◌, ◌*◌, ◌/◌, ◌%◌, Bool, true, ◌&&◌, [], None, unwrap_or, is_none}
use Rattle.std.specs.List.{list_all}
use Rattle.std.specs.Option.{option_map_or}
use Rattle.pv_acl.specs.declared.part.Part.{Part}
use Rattle.pv_acl.specs.declared.part.Acl.{Acl}
use Rattle.pv_acl.specs.NamedEntries.{union_with, is_ordered, is_empty, is_perm, is_named}

-- The mask that applies to a part: the explicit one if there is one. Otherwise it is the union of the permissions of
-- the owning group and of all named entries.
abbrev pub part_mask : Part → ℕ
part_mask part = unwrap_or part.mask (union_with part.group part.named)

-- Whether an ACL may have this part: its permissions and IDs are in range, and the named entries are in order.
abbrev pub is_part : Part → Bool
is_part part =
    is_perm part.owner && is_perm part.group && is_perm part.other
    && list_all is_named part.named && is_ordered part.named
    && option_map_or is_perm part.mask true

-- Whether an object may have this ACL: its access part and its default part, if it has one, are such parts.
abbrev pub is_acl : Acl → Bool
is_acl acl = is_part acl.access && option_map_or is_part acl.default_part true

-- The mode of an object: its special bits, then the owner, group and other entries of its access part.
abbrev pub mode_of : ℕ → Part → ℕ
mode_of special part = 512 * special + 64 * part.owner + 8 * part.group + part.other

-- The special bits of a mode: set-user-ID, set-group-ID and sticky, as a number from 0 to 7.
abbrev pub special_of : ℕ → ℕ
special_of mode = mode / 512

-- A part whose base entries are those of a mode. The named entries and the mask stay. Unlike this, chmod(2) changes
-- an explicit mask instead of the owning group's entry (acl(5)).
abbrev pub with_mode : ℕ → Part → Part
with_mode mode part = record part { owner = mode / 64 % 8; group = mode / 8 % 8; other = mode % 8 }

-- A part with its base entries alone: no named entries and no mask.
abbrev pub base_of : Part → Part
base_of part = record part { named = []; mask = None }

-- The part that a mode alone gives: its base entries, no named entries and no mask.
abbrev pub part_of_mode : ℕ → Part
part_of_mode mode = record { owner = mode / 64 % 8; group = mode / 8 % 8; other = mode % 8; named = []; mask = None }

-- The ACL that a mode alone gives: that access part, and no default part.
abbrev pub acl_of_mode : ℕ → Acl
acl_of_mode mode = record { access = part_of_mode mode; default_part = None }

-- Whether an ACL says no more than a mode: no named entries, no explicit mask and no default part.
abbrev pub is_minimal : Acl → Bool
is_minimal acl = is_empty acl.access.named && is_none acl.access.mask && is_none acl.default_part
