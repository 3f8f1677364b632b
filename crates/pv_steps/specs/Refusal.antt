-- When a path is not safe to walk (tmpfiles.d(5) on unsafe path transitions). The prefixes of a path are given by
-- their number of names, from 0 for the root. `last` is the user ID that the last component counts as having if
-- nothing is there.
use Rattle.std.specs.Prelude.{ℕ, ◌+◌, ◌-◌, Bool, not, ◌&&◌, ◌==◌, nat_lt, List, [], ◌∷◌, length, take, Option, Some, None, is_some, option_map, if◌then◌else◌}
use Rattle.std.specs.List.{range_with_len}
use Rattle.std.specs.Option.{option_map_or, option_or}
use Rattle.pv_path.specs.Paths.{Path}
use Rattle.pv_steps.specs.declared.node.Kind.{Kind}
use Rattle.pv_steps.specs.declared.node.Kind.TheVariants.{Directory, Link}
use Rattle.pv_steps.specs.declared.why.Why.{Why}
use Rattle.pv_steps.specs.declared.why.Why.TheVariants as why
use Rattle.pv_steps.specs.Trees.{Places, kind_of}

-- The owner of the object at the prefix of k names. If nothing is there, it is `last` for the whole path, and root
-- for a shorter prefix.
abbrev pub owner_at : Places → Path → ℕ → ℕ → ℕ
owner_at t path last k = option_map_or (λ o. o.node.uid) (t (take k path)) (if k == length path then last else 0)

-- Why an object of this kind above the last component cannot be walked through: it is a link, or otherwise not a
-- directory. If nothing is there, there is no such reason.
abbrev pub why_unsafe : Option Kind → Option Why
why_unsafe None = None
why_unsafe (Some Directory) = None
why_unsafe (Some Link) = Some why.Link
why_unsafe (Some kind) = Some why.NotDirectory

-- Whether the prefix of k names has an unsafe owner: the directory above it is not owned by root, and the owners of
-- the two are not the same.
abbrev pub is_unsafe : Places → Path → ℕ → ℕ → Bool
is_unsafe t path last k =
    nat_lt 0 k && not (owner_at t path last (k - 1) == 0) && not (owner_at t path last k == owner_at t path last (k - 1))

-- Why a path is refused at its prefix of k names. The first of these counts: link, not a directory, unsafe owner.
-- The first two are not asked of the last component.
abbrev pub why_refused : Places → Path → ℕ → ℕ → Option Why
why_refused t path last k = option_or
    (if nat_lt k (length path) then why_unsafe (kind_of (t (take k path))) else None)
    (if is_unsafe t path last k then Some why.UnsafeOwner else None)

-- The first of these numbers of names at which there is a reason, with this reason.
abbrev pub first_refused : (ℕ → Option Why) → List ℕ → Option (ℕ × Why)
first_refused f [] = None
first_refused f (k ∷ ks) = option_or (option_map (λ reason. (k, reason)) (f k)) (first_refused f ks)

-- Where a path is refused, and why: its shortest prefix with a reason, if there is one. Example: if `/var/run` is a
-- link, `/var/run/app` is refused at 2 names.
abbrev pub refusal : Places → Path → ℕ → Option (ℕ × Why)
refusal t path last = first_refused (why_refused t path last) (range_with_len 0 (length path + 1))

-- The first of these numbers of names at which nothing is there.
abbrev pub first_absent : Places → Path → List ℕ → Option ℕ
first_absent t path [] = None
first_absent t path (k ∷ ks) = if is_some (t (take k path)) then first_absent t path ks else Some k
