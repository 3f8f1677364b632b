-- Which paths are followed line by line to explain one path. If no copy matters, these are the path and those above
-- it. Otherwise they are a region that contains the source of each copy into it.
use Rattle.std.specs.Prelude.{◌≡◌, Bool, true, false, not, ◌&&◌, ◌||◌, List, [], ◌∷◌, map, Option, IfSome, is_some, option_map}
use Rattle.std.specs.FinMap as fin
use Rattle.std.specs.List.{filter_map, list_all, list_any}
use Rattle.pv_lines.specs.declared.line.Line.{Line}
use Rattle.pv_path.specs.Paths.{Path, is_prefix}
use Rattle.pv_table.specs.ActionTable.{action_of}
use Rattle.pv_table.specs.Pointwise.{ObjectStates}
use Rattle.pv_table.specs.Reaching.{path_in}
use Rattle.pv_table.specs.Turns.{copied}
use Rattle.pv_walk.specs.Preparing.{parents_of}
use Rattle.pv_explain.specs.declared.explained.Explained.{Explained}
use Rattle.pv_explain.specs.declared.following.Scope.{Scope}
use Rattle.pv_explain.specs.declared.following.Scope.TheVariants.{Along, Within}
use Rattle.pv_explain.specs.declared.region.Copied.{Copied}
use Rattle.pv_explain.specs.declared.region.Region.{Region}
use Rattle.pv_explain.specs.Acts.{acts, object_state_in, last}

-- ---- regions

-- What a line copies, and where to.
abbrev pub copy_of : Line → Option Copied
copy_of line = option_map (λ source. record { to = path_in line.path; from = source }) (copied (action_of line))

abbrev pub copies_of : List Line → List Copied
copies_of lines = filter_map copy_of lines

-- Whether a path is at or below one of some paths.
abbrev pub covers : List Path → Path → Bool
covers tops q = list_any (λ top. is_prefix top q) tops

-- Whether a path is at or above one of some paths.
abbrev pub leads : List Path → Path → Bool
leads ends q = list_any (λ end. is_prefix q end) ends

-- Whether a path is in a region: at or below one of its tops, or at or above one of its tops or ends.
abbrev pub holds : Region → Path → Bool
holds region q = covers region.tops.items q || leads region.tops.items q || leads region.ends.items q

-- Whether a copy comes into a region that lacks a part of the copy or of its source.
abbrev pub is_open : Region → Copied → Bool
is_open region copy = holds region copy.to && not (covers region.tops.items copy.to && covers region.tops.items copy.from)

-- The ends of a region are the path and all sources of copies. And of each copy that comes into the region, the
-- region has the whole copy and the whole source.
pub record IsClosed (lines : List Line) (path : Path) (region : Region) : Type 0 where
  pub ends : region.ends.items ≡ path ∷ map (λ copy. copy.from) (copies_of lines)
  pub closed : list_all (λ copy. not (is_open region copy)) (copies_of lines) ≡ true

-- The region has the path that this line copies, and if the copy comes into the region, it has all of both.
abbrev pub HoldsCopy : Region → Line → Type 0
HoldsCopy region line = IfSome (copy_of line) (λ copy. (holds region copy.from ≡ true) × (is_open region copy ≡ false))

-- ---- what is followed

-- A map agrees with another one at the paths that are followed. The root is one of them, and it exists.
pub record IsWithin (held : Path → Bool) (r s : ObjectStates) : Type 0 where
  pub top : held [] ≡ true
  pub root : is_some (fin.get s []) ≡ true
  pub same : (q : Path) → held q ≡ true → fin.get r q ≡ fin.get s q

-- A map agrees with another one at a path and those above it.
abbrev pub IsAlong : Path → ObjectStates → ObjectStates → Type 0
IsAlong path r s = IsWithin (λ q. is_prefix q path) r s

-- What is followed agrees with the objects there.
abbrev pub Follows : Scope → Path → ObjectStates → ObjectStates → Type 0
Follows (Along places) path r s = IsAlong path r s
Follows (Within region) path r s = IsWithin (holds region) r s

-- The paths that are followed are the path and those above it, or a region that is closed.
abbrev pub Fits : Scope → Path → List Line → Type 0
Fits (Along places) path lines = places.items ≡ [] ∷ path ∷ parents_of path
Fits (Within region) path lines = IsClosed lines path region

-- The same for one line.
abbrev pub Suits : Scope → Path → Line → Type 0
Suits (Along places) path line = places.items ≡ [] ∷ path ∷ parents_of path
Suits (Within region) path line = HoldsCopy region line

-- An explanation says exactly what the lines do at the path, and what is there after all of them.
pub record Tells (lines : List Line) (s : ObjectStates) (path : Path) (explanation : Explained) : Type 0 where
  pub acts : explanation.acts ≡ acts lines s path
  pub node : option_map object_state_in explanation.node ≡ last lines s path
