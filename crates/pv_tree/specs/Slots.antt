-- Numbered slots. Each holds an object and the numbers of its children, as a directory holds inode numbers
-- (inode(7)).
use Rattle.std.specs.Prelude.{◌≡◌, ◌≢◌, ℕ, zero, suc, ◌<◌, List, [], ◌∷◌, map, length, Option, Some, option_map, option_and_then, slice_get, unwrap_or, ◌-◌}
use Rattle.std.specs.List.{flat_map}
use Rattle.std.specs.Option.{option_map_or}
use Rattle.std.specs.FinMap as fin
use Rattle.pv_path.specs.Paths.{Path}
use Rattle.pv_steps.specs.declared.object.Object.{Object}
use Rattle.pv_steps.specs.Trees.{Files, Places, IsTree}
use Rattle.pv_tree.specs.declared.slot.Slot.{Slot}
use Rattle.pv_tree.specs.Edges.{Edges, Objects, led, places_by}

-- The object of a slot: its node and its payload.
abbrev pub object_of : Slot → Object
object_of s = record { node = s.node; payload = s.content.payload }

-- A slot after a change of its object. Its children stay.
abbrev pub on_object : (Object → Object) → Slot → Slot
on_object f s = record {
  node = (f (object_of s)).node;
  content = record s.content { payload = (f (object_of s)).payload };
}

-- The number of the child of a slot with a name, if there is one.
abbrev pub child_in : List Slot → Edges
child_in slots = λ i name. option_and_then (λ s. fin.get s.content.children name) (slice_get slots i)

-- The object of the slot with a number.
abbrev pub object_in : List Slot → Objects
object_in slots = λ i. option_map object_of (slice_get slots i)

-- The number of the slot at a path, if there is one. The root has the number 0.
abbrev pub number_in : List Slot → Path → Option ℕ
number_in slots path = led (child_in slots) 0 path

-- The slot at a path, if there is one.
abbrev pub slot_in : List Slot → Path → Option Slot
slot_in slots path = option_and_then (slice_get slots) (number_in slots path)

-- The slot of the child that a slot has by a name, if there is one.
abbrev pub child_of_slot : List Slot → Slot → List ℕ → Option Slot
child_of_slot slots s name = option_and_then (slice_get slots) (fin.get s.content.children name)

-- The object at each path.
abbrev pub places_in : List Slot → Places
places_in slots = places_by (child_in slots) (object_in slots)

-- ---- the tree of slots

-- The same object in a directory with this name.
abbrev pub below : List ℕ → Path × Object → Path × Object
below name e = (name ∷ e.0, e.1)

-- The objects below these children. `at` gives the object of a number and those below it.
abbrev pub entries_below : (ℕ → List (Path × Object)) → List (List ℕ × ℕ) → List (Path × Object)
entries_below at children = flat_map (λ c. map (below c.0) (at c.1)) children

-- The object of a slot and those below it, in the order of the paths. Only paths with fewer names than `depth` are
-- visited.
abbrev pub entries_in : ℕ → List Slot → ℕ → List (Path × Object)
entries_in zero slots i = []
entries_in (suc depth) slots i =
    option_map_or (λ s. ([], object_of s) ∷ entries_below (entries_in depth slots) (fin.entries s.content.children)) (slice_get slots i) []

-- The tree of slots. No path has as many names as there are slots.
abbrev pub files_of : List Slot → Files
files_of slots = fin.from_sorted (entries_in (length slots) slots 0)

-- ---- what makes slots a tree

-- No path leads to this slot.
abbrev pub IsUnreached : List Slot → ℕ → Type 0
IsUnreached slots i = (path : Path) → number_in slots path ≢ Some i

-- These are numbers of slots to which no path leads, each at most once.
pub record AreFree (slots : List Slot) (free : List ℕ) : Type 0 where
  pub within : (k i : ℕ) → slice_get free k ≡ Some i → i < length slots
  pub apart : (k i : ℕ) → slice_get free k ≡ Some i → IsUnreached slots i
  pub once : (k m i : ℕ) → slice_get free k ≡ Some i → slice_get free m ≡ Some i → k ≡ m

-- A number to which a path leads is that of a slot, and no two paths lead to the same one.
pub record IsForest (slots : List Slot) : Type 0 where
  pub within : (path : Path) (i : ℕ) → number_in slots path ≡ Some i → i < length slots
  pub once : (p q : Path) (i : ℕ) → number_in slots p ≡ Some i → number_in slots q ≡ Some i → p ≡ q

-- Slots hold a tree, and these numbers of slots are free.
pub record IsTreeOf (slots : List Slot) (free : List ℕ) : Type 0 where
  pub forest : IsForest slots
  pub spare : AreFree slots free
  pub tree : IsTree (files_of slots)

-- The number of the next slot: the last free one if there is one, otherwise a new one.
abbrev pub next_number : List Slot → List ℕ → ℕ
next_number slots free = unwrap_or (slice_get free (length free - 1)) (length slots)
