-- How a clean decides what is removed: which paths may be removed by themselves, and what is known of the entries of
-- directories (tmpfiles.d(5), "Age").
use Rattle.std.specs.Prelude.{◌≡◌, ◌⊎◌, ℕ, ◌+◌, Bool, ◌&&◌, ◌||◌, ◌==◌, nat_lt, List, [], ◌∷◌, ◌++◌, length, map, reverse, take, Option}
use Rattle.pv_lines.specs.declared.line.Line.{Line}
use Rattle.pv_path.specs.Paths.{Path}
use Rattle.pv_steps.specs.declared.node.Kind.TheVariants.{Directory}
use Rattle.pv_steps.specs.Trees.{Files, IsKind}
use Rattle.pv_walk.specs.Listing.{AreGathered, IsListing}
use Rattle.pv_walk.specs.PostOrder.{AreInPostOrder}
use Rattle.pv_table.specs.declared.scope.Scope.{Scope}
use Rattle.pv_table.specs.Cleaned.{may_go}
use Rattle.pv_table.specs.Scopes.{scope}
use Rattle.pv_clean.specs.declared.aging.Judged.{Judged}

-- A path, and whether it may be removed by itself.
abbrev pub judged_at : List Line → ℕ → Files → Path → Judged
judged_at lines now t path = record { path = path; may_go = may_go lines now t path }

-- This is decided for all existing paths: the root first, and then everything below it. Everything below a directory
-- comes right after it. Read from its end, the list is in post-order.
pub record AreJudged (lines : List Line) (now : ℕ) (t : Files) (judged : List Judged) : Type 0 where
  pub listed : List Path
  pub are : judged ≡ map (judged_at lines now t) ([] ∷ listed)
  pub listing : IsListing t [] listed
  pub gathered : AreGathered listed
  pub in_post_order : AreInPostOrder (reverse listed)

-- The ages of the directories down to a path, by their numbers of components. Either the age for this path is added,
-- or the path is not a directory and nothing changes.
abbrev pub AreNoted : List Line → Files → Path → List (Option Scope) → List (Option Scope) → Type 0
AreNoted lines t path old new =
    (new ≡ take (length path) old ++ scope lines path ∷ []) ⊎ ((IsKind Directory t path → ⊥) × (new ≡ old))

-- What is known of the entries of directories, by the directory's number of components. One more path with `count`
-- components adds what holds of it to the directory above it. Of directories at its own depth or deeper nothing is
-- known any more.
abbrev pub noted : ℕ → Bool → (ℕ → Bool) → ℕ → Bool
noted count is old k = nat_lt k count && (old k || ((k + 1 == count) && is))
