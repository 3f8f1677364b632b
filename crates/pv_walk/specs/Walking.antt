-- Walking along a path from the root: the path is refused, absent from some component on, or present (tmpfiles.d(5)
-- on unsafe path transitions).
use Rattle.std.specs.Prelude.{ℕ, ◌+◌, List, length, take, Option, Some, None}
use Rattle.std.specs.List.{range_with_len}
use Rattle.pv_path.specs.Paths.{Path}
use Rattle.pv_steps.specs.declared.why.Why.{Why}
use Rattle.pv_steps.specs.Trees.{Places, kind_of}
use Rattle.pv_steps.specs.Refusal.{refusal, first_absent, first_refused, why_unsafe}
use Rattle.pv_walk.specs.declared.walking.Walked.{Walked}
use Rattle.pv_walk.specs.declared.walking.Walked.TheVariants.{Present, Absent, Refused}

-- The answer if the path is not refused: absent from its first absent prefix on, otherwise present.
abbrev pub unrefused : Option ℕ → Walked
unrefused None = Present
unrefused (Some k) = Absent k

-- The answer of a walk. If the path is refused, it says where and why. Otherwise it says from where on the path is
-- absent, or that it is present.
abbrev pub outcome : Option (ℕ × Why) → Option ℕ → Walked
outcome (Some place) absent = Refused place.0 place.1
outcome None absent = unrefused absent

-- The walk along a path. If nothing is at the path, it counts as owned by `last`.
abbrev pub walked : Places → Path → ℕ → Walked
walked t path last = outcome (refusal t path last) (first_absent t path (range_with_len 0 (length path + 1)))

-- The first of these prefixes that cannot be walked through, given by its number of names, and why. Owners do not
-- count.
abbrev pub unsafe_component_from : Places → Path → List ℕ → Option (ℕ × Why)
unsafe_component_from t path ks = first_refused (λ k. why_unsafe (kind_of (t (take k path)))) ks

-- The first prefix above the path that cannot be walked through, and why.
abbrev pub first_unsafe_component : Places → Path → Option (ℕ × Why)
first_unsafe_component t path = unsafe_component_from t path (range_with_len 0 (length path))
