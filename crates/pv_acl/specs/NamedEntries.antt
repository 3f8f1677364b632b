-- The named entries of an ACL, and their order (acl(5)).
use Rattle.std.specs.Prelude.{ℕ, Bool, true, false, ◌&&◌, nat_le, List, [], ◌∷◌, fold, bit_or}
use Rattle.std.specs.Ordering.{nat_cmp, is_lt}
use Rattle.std.specs.declared.cmp.Ordering.{Ordering}
use Rattle.std.specs.declared.cmp.Ordering.TheVariants.{Less, Greater}
use Rattle.pv_acl.specs.declared.perm.Who.{Who}
use Rattle.pv_acl.specs.declared.perm.Who.TheVariants.{User, Group}
use Rattle.pv_acl.specs.declared.perm.Named.{Named}
use Rattle.pv_acl.specs.Ordered.{all_before_by, is_ordered_by, put_by}

-- The order of users and groups in an ACL: users by ID, then groups by ID.
abbrev pub who_cmp : Who → Who → Ordering
who_cmp (User a) (User b) = nat_cmp a b
who_cmp (User a) (Group b) = Less
who_cmp (Group a) (User b) = Greater
who_cmp (Group a) (Group b) = nat_cmp a b

-- Whether a named entry comes before another.
abbrev pub is_before : Named → Named → Bool
is_before x y = is_lt (who_cmp x.who y.who)

-- Whether each of some entries comes before this one.
abbrev pub all_before : List Named → Named → Bool
all_before = all_before_by is_before

-- Whether named entries are in order, with each user and each group at most once.
abbrev pub is_ordered : List Named → Bool
is_ordered = is_ordered_by is_before

-- A named entry put among others in order. It replaces one for the same user or group.
abbrev pub put_named : Named → List Named → List Named
put_named = put_by is_before

-- Whether there are no named entries.
abbrev pub is_empty : List Named → Bool
is_empty [] = true
is_empty (x ∷ xs) = false

-- The union of a permission and the permissions of all named entries.
abbrev pub union_with : ℕ → List Named → ℕ
union_with perm named = fold (λ all x. bit_or all x.perm) perm named

-- Whether a number is a permission: the sum of read (4), write (2) and execute (1), each at most once.
abbrev pub is_perm : ℕ → Bool
is_perm perm = nat_le perm 7

-- Whether a user or a group may have this ID: 0 to 4,294,967,294.
abbrev pub is_id : ℕ → Bool
is_id id = nat_le id 4294967294

-- The ID of a user or a group.
abbrev pub id_of : Who → ℕ
id_of (User id) = id
id_of (Group id) = id

-- Whether an ACL may have this named entry: its ID and its permission are in range.
abbrev pub is_named : Named → Bool
is_named x = is_id (id_of x.who) && is_perm x.perm
