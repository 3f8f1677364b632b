-- Cleaning step by step: which directories get their timestamps back, which steps a clean takes, and what a stopped
-- one has done (tmpfiles.d(5), "Age"; utimensat(2)). Here `goes` tells which paths are removed.
use Rattle.std.specs.Prelude.{◌≡◌, ◌≢◌, ◌⊎◌, ℕ, ◌+◌, ◌≤◌, Bool, true, cond, not, ◌&&◌, ◌||◌, List, [], ◌∷◌, map, reverse, take, Some, is_some, option_map, if◌then◌else◌, ⊤}
use Rattle.std.specs.Option.{option_map_or}
use Rattle.pv_path.specs.Paths.{Path, is_prefix}
use Rattle.pv_steps.specs.declared.object.Object.{Object}
use Rattle.pv_steps.specs.declared.step.Step.{Step}
use Rattle.pv_steps.specs.declared.step.Step.TheVariants.{SetStamps, Unlink, RemoveDir}
use Rattle.pv_steps.specs.Runs.{after_all}
use Rattle.pv_steps.specs.Same.{object_states}
use Rattle.pv_steps.specs.Trees.{Files, places, IsAbsentIn, IsPresent}
use Rattle.pv_walk.specs.Listing.{times, is_child, AreGathered}
use Rattle.pv_walk.specs.PostOrder.{AreInPostOrder}
use Rattle.pv_walk.specs.Removal.{loses_child, removal_at}
use Rattle.pv_walk.specs.Whole.{count_of}

-- A directory stays and loses an entry.
abbrev pub stays_and_loses : (Path → Bool) → Files → Path → Bool
stays_and_loses goes t q = not (goes q) && loses_child goes t q

-- A clean has something to do at a path: it is removed, or it loses an entry.
abbrev pub is_task : (Path → Bool) → Files → Path → Bool
is_task goes t q = goes q || loses_child goes t q

-- A clean does a step at a path: there is an object at it, and it is removed or loses an entry.
abbrev pub is_due : (Path → Bool) → Files → Path → Bool
is_due goes t q = is_some (places t q) && is_task goes t q

-- The step that gives a path the access and modification timestamps that it has in the tree t. If there is no object,
-- they are 0.
abbrev pub giving_back : Files → Path → Step
giving_back t path =
    SetStamps path (option_map_or (λ o. o.node.stamps.access) (places t path) 0) (option_map_or (λ o. o.node.stamps.modify) (places t path) 0)

-- The step at a path. A path that goes is removed, and one that stays gets its timestamps back.
abbrev pub clean_step : (Path → Bool) → Files → Path → Step
clean_step goes t path = if goes path then removal_at t path else giving_back t path

-- Each existing entry of a path that is removed comes after it in the list.
abbrev pub GoAfter : (Path → Bool) → Files → List Path → Type 0
GoAfter goes t [] = ⊤
GoAfter goes t (p ∷ ps) = ((q : Path) → is_child p q ≡ true → IsPresent t q → goes q ≡ true → 1 ≤ times q ps) × GoAfter goes t ps

-- The steps of a clean, from the last one to the first. There is one step for each path that is removed or loses an
-- entry. In this list the entries of a path that are removed come after it, and everything below a directory is
-- together. Read from its end, the list is in post-order.
pub record ArePlanned (goes : Path → Bool) (t : Files) (steps : List Step) : Type 0 where
  pub paths : List Path
  pub are : steps ≡ map (clean_step goes t) paths
  pub once : (q : Path) → times q paths ≡ cond (is_due goes t q) 1 0
  pub order : GoAfter goes t paths
  pub gathered : AreGathered paths
  pub in_post_order : AreInPostOrder (reverse paths)

-- A step of a clean. It removes a path that goes. Or it gives a directory that stays and loses an entry the access
-- and modification timestamps that it has in the tree t.
abbrev pub IsCleanStep : (Path → Bool) → Files → Step → Type 0
IsCleanStep goes t (Unlink path) = goes path ≡ true
IsCleanStep goes t (RemoveDir path) = goes path ≡ true
IsCleanStep goes t (SetStamps path access modify) =
    (stays_and_loses goes t path ≡ true)
    × (option_map {U = ℕ × ℕ} (λ o. (o.node.stamps.access, o.node.stamps.modify)) (places t path) ≡ Some (access, modify))
IsCleanStep goes t step = ⊥

-- At most how many steps a clean takes: one for each path that is removed, and one for each directory that stays and
-- loses an entry.
abbrev pub most_steps : (Path → Bool) → Files → ℕ
most_steps goes t = count_of goes t + count_of (stays_and_loses goes t) t

-- The access and modification timestamps of an object.
abbrev pub moments_of : Object → ℕ × ℕ
moments_of o = (o.node.stamps.access, o.node.stamps.modify)

-- The object at a path has other access or modification timestamps than in the tree t.
abbrev pub HasOtherStamps : Files → Files → Path → Type 0
HasOtherStamps t u q = IsPresent u q × (option_map moments_of (places u q) ≢ option_map moments_of (places t q))

-- All paths with other timestamps than in the tree t are on one path down from the root. So of two of them, one is at
-- or below the other.
abbrev pub AreOnOneWay : Files → Files → Type 0
AreOnOneWay t u = (p q : Path) → HasOtherStamps t u p → HasOtherStamps t u q → (is_prefix p q ≡ true) ⊎ (is_prefix q p ≡ true)

-- This holds after any number of these steps.
abbrev pub IsCleanedInTurn : ℕ → Files → List Step → Type 0
IsCleanedInTurn now t steps = (n : ℕ) → AreOnOneWay t (after_all t (take n steps) now)

-- After any number of these steps, each path is as it was, timestamps aside, or it is one that goes and is removed.
abbrev pub TakesOnly : (Path → Bool) → ℕ → Files → List Step → Type 0
TakesOnly goes now t steps = (n : ℕ) (q : Path) →
    ((goes q ≡ true) × IsAbsentIn (places (after_all t (take n steps) now)) q)
    ⊎ (object_states (places (after_all t (take n steps) now)) q ≡ object_states (places t) q)
