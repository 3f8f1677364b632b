-- The entries of a line of configuration: `[default:]TAG:NAME:PERM`, with commas between them (acl(5),
-- tmpfiles.d(5)). `uid_named` and `gid_named` give the ID of the user or group of a name, if there is one.
use Rattle.std.specs.Prelude.{◌≡◌, ℕ, ◌+◌, ◌*◌, Bool, true, false, ◌&&◌, ◌||◌, ◌==◌, nat_le, List, [], ◌∷◌, ◌++◌, map, length, count_by, Option, Some, None, Result, Ok, Err, codes, if◌then◌else◌}
use Rattle.std.specs.List.{list_all, slice_split}
use Rattle.std.specs.Option.{option_or}
use Rattle.std.specs.Str.{bytes_eq}
use Rattle.pv_acl.specs.declared.acl_fault.AclFault.{AclFault}
use Rattle.pv_acl.specs.declared.acl_fault.AclFault.TheVariants as fault
use Rattle.pv_acl.specs.declared.line.Entry.{Entry}
use Rattle.pv_acl.specs.declared.line.Entry.TheVariants as entry
use Rattle.pv_acl.specs.declared.line.AclLine.{AclLine}
use Rattle.pv_acl.specs.declared.perm.Who.{Who}
use Rattle.pv_acl.specs.declared.perm.Who.TheVariants.{User, Group}
use Rattle.pv_acl.specs.declared.parse.EntryTag.{EntryTag}
use Rattle.pv_acl.specs.declared.parse.EntryTag.TheVariants as place
use Rattle.pv_acl.specs.declared.parse.PartEntry.{PartEntry}
use Rattle.pv_acl.specs.NamedEntries.{is_id, id_of}
use Rattle.pv_acl.specs.Numbers.{written_id}

-- Whether a text is a keyword, either in full or as its first letter. Example: `user` or `u`.
abbrev pub is_word : List ℕ → List ℕ → List ℕ → Bool
is_word word long short = bytes_eq word long || bytes_eq word short

-- How often a byte occurs in a text.
abbrev pub times : ℕ → List ℕ → ℕ
times b text = count_by (λ c. c == b) text

-- Whether a byte may occur in a permission: `r`, `w`, `x` or `-`.
abbrev pub is_perm_byte : ℕ → Bool
is_perm_byte b = b == 114 || b == 119 || b == 120 || b == 45

-- Whether each of `r`, `w` and `x` occurs in a text at most once.
abbrev pub has_letters_once : List ℕ → Bool
has_letters_once text = nat_le (times 114 text) 1 && nat_le (times 119 text) 1 && nat_le (times 120 text) 1

-- Whether a text spells a permission: one to three of `r`, `w`, `x` and `-`, in any order. No letter occurs twice.
abbrev pub is_perm_text : List ℕ → Bool
is_perm_text text =
    nat_le 1 (length text) && nat_le (length text) 3 && list_all is_perm_byte text && has_letters_once text

-- The permission that a text spells, if it spells one. Example: `rx` is 5.
abbrev pub perm_of : List ℕ → Option ℕ
perm_of text = if is_perm_text text then Some (4 * times 114 text + 2 * times 119 text + times 120 text) else None

-- The ID that a text writes as a number. If it writes none, the ID of the user or group with this name.
abbrev pub id_or_name : (List ℕ → Option ℕ) → List ℕ → Option ℕ
id_or_name lookup text = option_or (written_id text) (lookup text)

-- What a `user` or `group` entry is for. If the name is empty, it is the base entry, otherwise the named entry of
-- this ID. A name without an ID is a fault.
abbrev pub named_tag : EntryTag → (ℕ → Who) → (List ℕ → Option ℕ) → List ℕ → Result EntryTag AclFault
named_tag base who lookup [] = Ok base
named_tag base who lookup (b ∷ bs) = place_for (id_or_name lookup (b ∷ bs))
  where
    place_for : Option ℕ → Result EntryTag AclFault
    place_for (Some id) = Ok (place.Named (who id))
    place_for None = Err fault.UnknownName

-- What a `mask` or `other` entry is for. It has no name. A name is a fault.
abbrev pub nameless_tag : EntryTag → List ℕ → Result EntryTag AclFault
nameless_tag p [] = Ok p
nameless_tag p (b ∷ bs) = Err fault.BadTag

-- What an entry with this tag and this name is for. The tag is `user`, `group`, `mask` or `other`, or the first
-- letter. Any other tag is a fault.
abbrev pub entry_tag_of : (List ℕ → Option ℕ) → (List ℕ → Option ℕ) → List ℕ → List ℕ → Result EntryTag AclFault
entry_tag_of uid_named gid_named tag name =
    if is_word tag (codes "user") (codes "u") then named_tag place.Owner (λ id. User id) uid_named name
    else if is_word tag (codes "group") (codes "g") then named_tag place.Group (λ id. Group id) gid_named name
    else if is_word tag (codes "mask") (codes "m") then nameless_tag place.Mask name
    else if is_word tag (codes "other") (codes "o") then nameless_tag place.Other name
    else Err fault.BadTag

-- The entry that sets a permission for this tag.
abbrev pub entry_at : EntryTag → ℕ → Entry
entry_at place.Owner perm = entry.Owner perm
entry_at place.Group perm = entry.Group perm
entry_at place.Other perm = entry.Other perm
entry_at place.Mask perm = entry.Mask perm
entry_at (place.Named who) perm = entry.Named (record { who = who; perm = perm })

-- The entry of the parts TAG, NAME and PERM, or the first fault: the tag, then the name, then the permission. Fewer
-- or more parts are a fault of the tag.
abbrev pub entry_of : (List ℕ → Option ℕ) → (List ℕ → Option ℕ) → List (List ℕ) → Result Entry AclFault
entry_of uid_named gid_named (tag ∷ name ∷ perm ∷ []) = with_perm (entry_tag_of uid_named gid_named tag name) (perm_of perm)
  where
    with_perm : Result EntryTag AclFault → Option ℕ → Result Entry AclFault
    with_perm (Err f) perm = Err f
    with_perm (Ok p) None = Err fault.BadPerm
    with_perm (Ok p) (Some perm) = Ok (entry_at p perm)
entry_of uid_named gid_named parts = Err fault.BadTag

-- The entry of the parts of a text. If the first part is `default` or `d`, it is an entry of the default part, and
-- the other parts spell it. Otherwise it is one of the access part.
abbrev pub part_entry_of : (List ℕ → Option ℕ) → (List ℕ → Option ℕ) → List (List ℕ) → Result PartEntry AclFault
part_entry_of uid_named gid_named [] = Err fault.BadTag
part_entry_of uid_named gid_named (word ∷ parts) =
    if is_word word (codes "default") (codes "d") then in_part true (entry_of uid_named gid_named parts)
    else in_part false (entry_of uid_named gid_named (word ∷ parts))
  where
    in_part : Bool → Result Entry AclFault → Result PartEntry AclFault
    in_part of_default (Err f) = Err f
    in_part of_default (Ok e) = Ok (record { of_default = of_default; entry = e })

-- The entry that a text spells, with colons between its parts. An empty text is a fault.
abbrev pub text_entry_of : (List ℕ → Option ℕ) → (List ℕ → Option ℕ) → List ℕ → Result PartEntry AclFault
text_entry_of uid_named gid_named [] = Err fault.EmptyEntry
text_entry_of uid_named gid_named (b ∷ bs) = part_entry_of uid_named gid_named (slice_split (λ c. c == 58) (b ∷ bs))

-- A line with one more entry before the others of its part.
abbrev pub with_first_entry : PartEntry → AclLine → AclLine
with_first_entry e line =
    if e.of_default then record line { default_part = e.entry ∷ line.default_part }
    else record line { access = e.entry ∷ line.access }

-- One entry, and the line of the entries after it. If one of the two is a fault, the answer is the first fault.
abbrev pub joined : Result PartEntry AclFault → Result AclLine AclFault → Result AclLine AclFault
joined (Err f) rest = Err f
joined (Ok e) (Err f) = Err f
joined (Ok e) (Ok line) = Ok (with_first_entry e line)

-- The line of these entries in their order, or the fault of the first faulty entry.
abbrev pub line_of : List (Result PartEntry AclFault) → Result AclLine AclFault
line_of [] = Ok (record { access = []; default_part = [] })
line_of (e ∷ es) = joined e (line_of es)

-- The line that a text spells, with commas between its entries, or its first fault from the left.
abbrev pub acl_line_of : (List ℕ → Option ℕ) → (List ℕ → Option ℕ) → List ℕ → Result AclLine AclFault
acl_line_of uid_named gid_named text =
    line_of (map (text_entry_of uid_named gid_named) (slice_split (λ b. b == 44) text))

-- The answer of a call is what the definition gives. Only the answer that memory ran out is always allowed.
abbrev pub Gives : {A : Type 0} → Result A AclFault → Result A AclFault → Type 0
Gives (Ok a) read = read ≡ Ok a
Gives (Err fault.Memory) read = Unit {0}
Gives (Err f) read = read ≡ Err f

-- Whether a line may have an entry for this tag: the ID of a named entry is in range.
abbrev pub is_entry_tag : EntryTag → Bool
is_entry_tag (place.Named who) = is_id (id_of who)
is_entry_tag p = true

-- A line with one more entry after the others of its part.
abbrev pub with_back : AclLine → PartEntry → AclLine
with_back line e =
    if e.of_default then record line { default_part = line.default_part ++ e.entry ∷ [] }
    else record line { access = line.access ++ e.entry ∷ [] }

-- A line with one more entry after the others of its part, or the fault of this entry.
abbrev pub added : AclLine → Result PartEntry AclFault → Result AclLine AclFault
added line (Ok e) = Ok (with_back line e)
added line (Err f) = Err f
