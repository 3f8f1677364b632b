-- Hazards of a list of operations: doing them again might leave something else (tmpfiles.d(5)).
use Rattle.std.specs.Prelude.{◌≡◌, Bool, true, false, not, ◌&&◌, List, [], ◌∷◌, None, if◌then◌else◌}
use Rattle.std.specs.List.{list_any}
use Rattle.pv_acl.specs.declared.line.Entry.{Entry}
use Rattle.pv_acl.specs.declared.line.Entry.TheVariants as entry
use Rattle.pv_walk.specs.declared.operation.Change.{Change}
use Rattle.pv_walk.specs.declared.operation.Change.TheVariants.{Append, Owner, Mode, Entries}
use Rattle.pv_walk.specs.declared.operation.Operation.{Operation}
use Rattle.pv_walk.specs.declared.operation.Operation.TheVariants.{Make, Renew, Erase, Apply}

-- Whether an operation is a change that passes a test.
abbrev pub is_adjusting : (Change → Bool) → Operation → Bool
is_adjusting test (Apply guard change) = test change
is_adjusting test operation = false

-- Whether a change appends bytes.
abbrev pub is_append : Change → Bool
is_append (Append bytes) = true
is_append change = false

-- Whether a change sets a masked mode.
abbrev pub is_masked : Change → Bool
is_masked (Mode mode masked) = masked
is_masked change = false

-- Whether an entry is a base entry: that of the owner, the owning group, or others.
abbrev pub is_base : Entry → Bool
is_base (entry.Owner perm) = true
is_base (entry.Group perm) = true
is_base (entry.Other perm) = true
is_base e = false

-- Whether a change sets a base entry of the access part.
abbrev pub gives_base : Change → Bool
gives_base (Entries line how) = list_any is_base line.access
gives_base change = false

-- Whether an operation makes an object, by Make or Renew.
abbrev pub is_make : Operation → Bool
is_make (Make new) = true
is_make (Renew test new) = true
is_make operation = false

-- Whether an operation is a Renew.
abbrev pub is_renewal : Operation → Bool
is_renewal (Renew test new) = true
is_renewal operation = false

-- Whether an operation is an Erase.
abbrev pub is_erasure : Operation → Bool
is_erasure Erase = true
is_erasure operation = false

-- Whether there are no entries.
abbrev pub no_entries : List Entry → Bool
no_entries [] = true
no_entries (e ∷ es) = false

-- Whether a change has nothing to set: it gives neither owner nor group, or it gives no entries.
abbrev pub sets_nothing : Change → Bool
sets_nothing (Owner None None) = true
sets_nothing (Entries line how) = no_entries line.access && no_entries line.default_part
sets_nothing change = false

-- Whether one of these operations appends bytes.
abbrev pub has_append : List Operation → Bool
has_append operations = list_any (is_adjusting is_append) operations

-- Whether one of these operations sets a masked mode, and one sets a base entry of the access part.
abbrev pub has_mixed_mask : List Operation → Bool
has_mixed_mask operations = list_any (is_adjusting is_masked) operations && list_any (is_adjusting gives_base) operations

-- Whether an object is made after the first operation. Changes that set nothing do not count as operations here. If
-- the first one makes an object itself, only a later Renew counts.
abbrev pub makes_late : List Operation → Bool
makes_late [] = false
makes_late (x ∷ xs) =
    if is_adjusting sets_nothing x then makes_late xs
    else if is_make x then list_any is_renewal xs
    else list_any is_make xs

-- Whether an object is made late and there is no Erase. With an Erase the list leaves the same whatever was there.
abbrev pub has_late_make : List Operation → Bool
has_late_make operations = not (list_any is_erasure operations) && makes_late operations

-- A list of operations has none of these hazards.
pub record IsRepeatable (operations : List Operation) : Type 0 where
  pub append : has_append operations ≡ false
  pub mask : has_mixed_mask operations ≡ false
  pub make : has_late_make operations ≡ false
