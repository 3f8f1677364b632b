-- What a walk has seen so far, and what it answers from there on (tmpfiles.d(5) on unsafe path transitions).
use Rattle.std.specs.Prelude.{ℕ, ◌-◌, not, ◌&&◌, ◌==◌, List, Option, Some, None, option_map, if◌then◌else◌}
use Rattle.std.specs.Option.{option_map_or, option_or}
use Rattle.pv_path.specs.Paths.{Path}
use Rattle.pv_steps.specs.declared.node.Kind.{Kind}
use Rattle.pv_steps.specs.declared.node.Node.{Node}
use Rattle.pv_steps.specs.declared.object.Object.{Object}
use Rattle.pv_steps.specs.declared.why.Why.{Why}
use Rattle.pv_steps.specs.declared.why.Why.TheVariants.{UnsafeOwner}
use Rattle.pv_steps.specs.Trees.{Places}
use Rattle.pv_steps.specs.Refusal.{owner_at, why_refused, first_refused, first_absent}
use Rattle.pv_walk.specs.declared.walking.Seen.{Seen}
use Rattle.pv_walk.specs.declared.walking.Walked.{Walked}
use Rattle.pv_walk.specs.Walking.{outcome}

-- What a walk looks at of a node, if there is one: its kind and its owner.
abbrev pub seen_node : Option Node → Option Seen
seen_node node = option_map (λ n. record { kind = n.kind; owner = n.uid }) node

-- The same of an object, if there is one.
abbrev pub seen_of : Option Object → Option Seen
seen_of o = seen_node (option_map (λ x. x.node) o)

-- The kind of what was seen, if there was an object.
abbrev pub seen_kind : Option Seen → Option Kind
seen_kind place = option_map (λ s. s.kind) place

-- The owner of what was seen, or this one if there was no object.
abbrev pub seen_owner : Option Seen → ℕ → ℕ
seen_owner place absent = option_map_or (λ s. s.owner) place absent

-- The reason `UnsafeOwner`, if it applies. Given are the owner of the object above and that of this one: the first
-- is not root, and the two differ.
abbrev pub why_owner : ℕ → ℕ → Option Why
why_owner above owner = if not (above == 0) && not (owner == above) then Some UnsafeOwner else None

-- The number of names of a prefix, if nothing is there.
abbrev pub if_absent : Option Seen → ℕ → Option ℕ
if_absent None k = Some k
if_absent (Some seen) k = None

-- The owner of the object above the prefix of k names. The root counts as if root owned the one above it.
abbrev pub owner_above : Places → Path → ℕ → ℕ → ℕ
owner_above t path last k = if k == 0 then 0 else owner_at t path last (k - 1)

-- The answer of a walk from these prefixes on. No earlier one is refused, and `absent` is the first earlier one at
-- which nothing is, if there is one.
abbrev pub walked_from : Places → Path → ℕ → Option ℕ → List ℕ → Walked
walked_from t path last absent ks = outcome (first_refused (why_refused t path last) ks) (option_or absent (first_absent t path ks))
