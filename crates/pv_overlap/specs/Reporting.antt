-- What a report lists (this project's own).
use Rattle.std.specs.Prelude.{◌≡◌, ◌↔◌, ℕ, ◌<◌, ◌⊎◌, Bool, ◌&&◌, List, Contains, AllPairs}
use Rattle.pv_path.specs.Paths.{Path, has_names}
use Rattle.pv_lines.specs.declared.line.Line.{Line}
use Rattle.pv_glob.specs.Words.{IsFirst, shared_cmp}
use Rattle.pv_overlap.specs.declared.pair.Pair.{Pair}
use Rattle.pv_overlap.specs.Answers.{ComesBefore}
use Rattle.pv_table.specs.Reaching.{reaches}
use Rattle.pv_table.specs.Repeatable.{HasReason, Overlap}
use Rattle.pv_overlap.specs.declared.listing.Unrepeatable.{Unrepeatable}
use Rattle.pv_overlap.specs.Marks.{rank}

-- Whether two lines both reach a path that a tree can have.
abbrev pub both_reach : Line → Line → Path → Bool
both_reach a b q = has_names q && reaches a q && reaches b q

-- Two lines that share a path, with the first such path.
pub record IsShared (lines : List Line) (pair : Pair) : Type 0 where
  pub overlap : Overlap lines pair.first pair.second
  pub path : IsFirst shared_cmp (both_reach overlap.first overlap.second) pair.path

-- Each two lines that share a path, once and in order, with the first such path.
pub record ListsOverlaps (lines : List Line) (pairs : List Pair) : Type 0 where
  pub each : (pair : Pair) → Contains pairs pair → IsShared lines pair
  pub all : (i j : ℕ) → Overlap lines i j → (path : Path) × Contains pairs (record { first = i; second = j; path = path })
  pub ordered : AllPairs ComesBefore pairs

-- Hazards are ordered by the lines, and then by their index in the list of hazards.
abbrev pub ComesFirst : Unrepeatable → Unrepeatable → Type 0
ComesFirst u v = (u.line < v.line) ⊎ ((u.line ≡ v.line) × (rank u.reason < rank v.reason))

-- Each hazard of each line, once and in order, and nothing else.
pub record ListsReasons (lines : List Line) (list : List Unrepeatable) : Type 0 where
  pub exact : (u : Unrepeatable) → Contains list u ↔ HasReason lines u.line u.reason
  pub ordered : AllPairs ComesFirst list
