-- What lines set of an existing object (tmpfiles.d(5)).
use Rattle.std.specs.Prelude.{◌≡◌, ◌<◌, ◌≤◌, ◌^◌, ◌++◌, Bool, true, false, List, [], ◌∷◌, IfSome}
use Rattle.std.specs.List.{list_any}
use Rattle.pv_acl.specs.Applying.{is_line}
use Rattle.pv_steps.specs.Attributes.{are_attrs}
use Rattle.pv_steps.specs.Objects.{IsId}
use Rattle.pv_steps.specs.declared.node.Kind.TheVariants.{Link}
use Rattle.pv_walk.specs.declared.operation.Change.{Change}
use Rattle.pv_walk.specs.declared.operation.Change.TheVariants.{Write, Append, Owner, Mode, Entries, Attrs, Letters}
use Rattle.pv_walk.specs.declared.operation.Guard.{Guard}
use Rattle.pv_walk.specs.declared.operation.Operation.{Operation}
use Rattle.pv_walk.specs.declared.operation.Operation.TheVariants.{Apply}
use Rattle.pv_walk.specs.Operations.{admits}
use Rattle.pv_walk.specs.Reasons.{is_adjusting}

-- Whether a change writes bytes to a file.
abbrev pub is_writing : Change → Bool
is_writing (Write bytes) = true
is_writing (Append bytes) = true
is_writing change = false

-- Whether bytes are among what is set.
abbrev pub writes : List Operation → Bool
writes sets = list_any (is_adjusting is_writing) sets

-- ---- one operation

-- A change writes bytes to a file or appends them.
abbrev pub SetsBytes : Guard → Change → Type 0
SetsBytes guard (Write bytes) = Unit {0}
SetsBytes guard (Append bytes) = Unit {0}
SetsBytes guard change = ⊥

-- A change sets owners.
abbrev pub SetsOwners : Guard → Change → Type 0
SetsOwners guard (Owner uid gid) = IfSome uid IsId × IfSome gid IsId
SetsOwners guard change = ⊥

-- A change sets a mode, but not of a symbolic link.
abbrev pub SetsMode : Guard → Change → Type 0
SetsMode guard (Mode mode masked) = (admits guard Link ≡ false) × (mode ≤ 0o7777)
SetsMode guard change = ⊥

-- A change sets ACL entries (but not of a symbolic link), extended attributes, or file attribute flags.
abbrev pub SetsOther : Guard → Change → Type 0
SetsOther guard (Entries line how) = (admits guard Link ≡ false) × (is_line line ≡ true)
SetsOther guard (Attrs attrs) = are_attrs attrs ≡ true
SetsOther guard (Letters how letters) = letters < 2 ^ 15
SetsOther guard change = ⊥

-- ---- all of them

-- An operation changes an existing object, in this way.
abbrev pub Changes : (Guard → Change → Type 0) → Operation → Type 0
Changes how (Apply guard change) = how guard change
Changes how operation = ⊥

-- There is no operation, or one that changes an existing object in this way.
abbrev pub AtMostOne : (Guard → Change → Type 0) → List Operation → Type 0
AtMostOne how [] = Unit {0}
AtMostOne how (x ∷ []) = Changes how x
AtMostOne how (x ∷ y ∷ xs) = ⊥

-- What a line sets of an object. It is bytes, owners and mode in this order, each at most once. Or it is ACL entries,
-- extended attributes or file attribute flags alone, at most once.
pub data AreSets (sets : List Operation) : Type 0 where
  several : (bytes owners mode : List Operation) → sets ≡ bytes ++ (owners ++ mode)
      → AtMostOne SetsBytes bytes → AtMostOne SetsOwners owners → AtMostOne SetsMode mode → AreSets sets
  alone : AtMostOne SetsOther sets → AreSets sets
