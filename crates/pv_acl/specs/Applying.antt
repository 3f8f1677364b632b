-- The ACL of an object after a line with entries (tmpfiles.d(5), types `a` and `A`). No mask is computed: a line
-- sets one only by an entry for the mask.
use Rattle.std.specs.Prelude.{Bool, ◌&&◌, List, [], ◌∷◌, Option, Some, None, fold, if◌then◌else◌}
use Rattle.std.specs.List.{list_all}
use Rattle.pv_acl.specs.declared.line.Entry.{Entry}
use Rattle.pv_acl.specs.declared.line.Entry.TheVariants as entry
use Rattle.pv_acl.specs.declared.line.AclLine.{AclLine}
use Rattle.pv_acl.specs.declared.line.How.{How}
use Rattle.pv_acl.specs.declared.line.How.TheVariants.{Replace, Add}
use Rattle.pv_acl.specs.declared.part.Part.{Part}
use Rattle.pv_acl.specs.declared.part.Acl.{Acl}
use Rattle.pv_acl.specs.NamedEntries.{put_named, is_perm, is_named}
use Rattle.pv_acl.specs.Parts.{base_of}

-- A part after one entry: the entry sets its permission and everything else stays. A named entry replaces one for
-- the same user or group.
abbrev pub put_entry : Part → Entry → Part
put_entry part (entry.Owner perm) = record part { owner = perm }
put_entry part (entry.Group perm) = record part { group = perm }
put_entry part (entry.Other perm) = record part { other = perm }
put_entry part (entry.Named named) = record part { named = put_named named part.named }
put_entry part (entry.Mask perm) = record part { mask = Some perm }

-- What a line keeps of a part before its entries are put. Replacing keeps the base entries and drops the named
-- entries and the mask. Adding (`+`) keeps everything.
abbrev pub kept : How → Part → Part
kept Replace part = base_of part
kept Add part = part

-- A part after the entries of a line, put one after another. Of two entries for the same user, group or base entry
-- the later one counts. A part for which the line has no entries stays as it is.
abbrev pub part_after : How → Part → List Entry → Part
part_after how part [] = part
part_after how part (e ∷ es) = fold put_entry (kept how part) (e ∷ es)

-- The default part after the entries of a line for it. If there was none, it begins with the base entries of the
-- access part that is given.
abbrev pub default_after : How → Part → Option Part → List Entry → Option Part
default_after how access part [] = part
default_after how access (Some part) (e ∷ es) = Some (part_after how part (e ∷ es))
default_after how access None (e ∷ es) = Some (part_after how (base_of access) (e ∷ es))

-- The ACL after a line: first the new access part, then, for a directory alone, the new default part. A new default
-- part begins with the base entries of the new access part.
abbrev pub acl_after : Acl → AclLine → How → Bool → Acl
acl_after acl line how directory =
    let access = part_after how acl.access line.access in
    record {
      access = access;
      default_part = if directory then default_after how access acl.default_part line.default_part else acl.default_part;
    }

-- Whether a line may have this entry: its permission, and its ID if it is a named one, are in range.
abbrev pub is_entry : Entry → Bool
is_entry (entry.Owner perm) = is_perm perm
is_entry (entry.Group perm) = is_perm perm
is_entry (entry.Other perm) = is_perm perm
is_entry (entry.Named named) = is_named named
is_entry (entry.Mask perm) = is_perm perm

-- Whether a line has only such entries, in both parts.
abbrev pub is_line : AclLine → Bool
is_line line = list_all is_entry line.access && list_all is_entry line.default_part
