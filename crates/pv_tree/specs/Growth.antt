-- Trees that are being built: objects are added in the order of their paths.
use Rattle.std.specs.Prelude.{◌≡◌, ◌≢◌, ℕ, suc, ◌≤◌, false, List, length, take, Some, slice_get, refl}
use Rattle.std.specs.Coded.{Coded, code_by, coded×, coded_list, coded_ℕ}
use Rattle.std.specs.FinMap as fin
use Rattle.std.specs.Ordering.{is_lt}
use Rattle.pv_path.specs.Paths.{Path, path_cmp}
use Rattle.pv_steps.specs.contracts.object.Object as object
use Rattle.pv_steps.specs.Trees.{Files, IsPresentIn}
use Rattle.pv_tree.specs.declared.slot.Slot.{Slot}
use Rattle.pv_tree.specs.Slots.{number_in, places_in, IsTreeOf}

-- The tree so far, and the path of the last object.
pub record Grown : Type 0 where
  pub files : Files
  pub last : Path

-- How the prover stores both.
abbrev pub grown_code : Coded Grown
grown_code =
    code_by (Files × Path)
    (coded× (fin.code (coded_list (coded_list coded_ℕ)) (object.the_row).coded) (coded_list (coded_list coded_ℕ)))
    (λ g. (g.files, g.last))
    (λ p. record { files = p.0; last = p.1 })
    (λ _. refl)

-- Two paths share this number of names at their beginning, and no more.
pub record IsShared (p q : Path) (count : ℕ) : Type 0 where
  pub in_first : count ≤ length p
  pub in_second : count ≤ length q
  pub same : take count p ≡ take count q
  pub apart : (m n : List ℕ) → slice_get p count ≡ Some m → slice_get q count ≡ Some n → m ≢ n

-- These are the numbers of the slots to which the prefixes of a path lead, from the root on.
abbrev pub AreOnWay : List Slot → Path → List ℕ → Type 0
AreOnWay slots path numbers = (m i : ℕ) → slice_get numbers m ≡ Some i → number_in slots (take m path) ≡ Some i

-- Slots hold a tree that has no path after this one. `way` has the numbers of the slots on the way to it.
pub record IsGrowing (slots : List Slot) (free : List ℕ) (last : Path) (way : List ℕ) : Type 0 where
  pub held : IsTreeOf slots free
  pub whole : length way ≡ suc (length last)
  pub on_way : AreOnWay slots last way
  pub final : (path : Path) → IsPresentIn (places_in slots) path → is_lt (path_cmp last path) ≡ false
