-- The text of an ACL in a tree image: the short text form of acl(5), with exactly one text for each ACL.
use Rattle.std.specs.Prelude.{ℕ, ◌==◌, Bool, true, false, List, [], ◌∷◌, ◌++◌, map, filter, Option, Some, None, bit_and, codes, if◌then◌else◌}
use Rattle.std.specs.List.{join_with_byte}
use Rattle.std.specs.Fmt.{decimal}
use Rattle.pv_acl.specs.declared.perm.Who.{Who}
use Rattle.pv_acl.specs.declared.perm.Who.TheVariants.{User, Group}
use Rattle.pv_acl.specs.declared.perm.Named.{Named}
use Rattle.pv_acl.specs.declared.part.Part.{Part}
use Rattle.pv_acl.specs.declared.part.Acl.{Acl}

-- A letter if this bit of a permission is set, otherwise a dash.
abbrev pub letter : ℕ → ℕ → ℕ → ℕ
letter perm bit c = if bit_and perm bit == 0 then 45 else c

-- A permission as three characters. Example: 5 is `r-x`.
abbrev pub perm_text : ℕ → List ℕ
perm_text perm = letter perm 4 114 ∷ letter perm 2 119 ∷ letter perm 1 120 ∷ []

-- `u:ID` for a user, `g:ID` for a group.
abbrev pub who_text : Who → List ℕ
who_text (User id) = codes "u:" ++ decimal id
who_text (Group id) = codes "g:" ++ decimal id

-- `u:ID:PERM` or `g:ID:PERM`.
abbrev pub named_text : Named → List ℕ
named_text x = who_text x.who ++ codes ":" ++ perm_text x.perm

-- `m::PERM` if the mask is explicit, otherwise nothing.
abbrev pub mask_texts : Option ℕ → List (List ℕ)
mask_texts None = []
mask_texts (Some perm) = (codes "m::" ++ perm_text perm) ∷ []

-- The entries of the access part, named entries first and then the mask. The base entries are left out, since the
-- mode has them.
abbrev pub access_texts : Part → List (List ℕ)
access_texts part = map named_text part.named ++ mask_texts part.mask

-- Whether a named entry is for a user.
abbrev pub is_user : Named → Bool
is_user x = is_user_id x.who
  where
    is_user_id : Who → Bool
    is_user_id (User id) = true
    is_user_id (Group id) = false

-- Whether a named entry is for a group.
abbrev pub is_group : Named → Bool
is_group x = is_group_id x.who
  where
    is_group_id : Who → Bool
    is_group_id (User id) = false
    is_group_id (Group id) = true

-- The entries of a part in this order: owner, users, owning group, groups, mask, others.
abbrev pub part_texts : Part → List (List ℕ)
part_texts part =
    (codes "u::" ++ perm_text part.owner) ∷ map named_text (filter is_user part.named)
    ++ (codes "g::" ++ perm_text part.group) ∷ map named_text (filter is_group part.named)
    ++ mask_texts part.mask
    ++ (codes "o::" ++ perm_text part.other) ∷ []

-- The entries of the default part, each with `d:` before it.
abbrev pub default_texts : Option Part → List (List ℕ)
default_texts None = []
default_texts (Some part) = map (λ text. codes "d:" ++ text) (part_texts part)

-- The text, or a dash if it is empty.
abbrev pub or_dash : List ℕ → List ℕ
or_dash [] = codes "-"
or_dash (b ∷ bs) = b ∷ bs

-- The text of an ACL: the entries of both parts with commas between them, or `-` if there are none. Example:
-- `u:1000:rw-,m::rw-`.
abbrev pub acl_text : Acl → List ℕ
acl_text acl = or_dash (join_with_byte 44 (access_texts acl.access ++ default_texts acl.default_part))

-- A text with one more entry, after a comma unless it is the first.
abbrev pub with_entry : List ℕ → List ℕ → List ℕ
with_entry [] entry = entry
with_entry (b ∷ bs) entry = (b ∷ bs) ++ 44 ∷ entry

-- A named entry of a default part.
abbrev pub default_text : Named → List ℕ
default_text x = codes "d:" ++ named_text x

-- Whether a named entry is for a user (if the first argument is true) or for a group.
abbrev pub is_of : Bool → Named → Bool
is_of true x = is_user x
is_of false x = is_group x

-- The mask of a default part, if it is explicit.
abbrev pub default_mask_texts : Option ℕ → List (List ℕ)
default_mask_texts mask = map (λ text. codes "d:" ++ text) (mask_texts mask)
