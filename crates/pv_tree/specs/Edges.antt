-- Edges from number to number, each with a name. A path leads along edges. Also: what it is to change one edge or
-- one object.
use Rattle.std.specs.Prelude.{◌≡◌, ◌≢◌, ℕ, List, [], ◌∷◌, Option, Some, None, option_map, option_and_then}
use Rattle.pv_path.specs.Paths.{Path}
use Rattle.pv_steps.specs.declared.object.Object.{Object}
use Rattle.pv_steps.specs.Trees.{Places}

-- The number to which a name leads from a number, if there is one.
abbrev pub Edges : Type 0
Edges = ℕ → List ℕ → Option ℕ

-- The number to which a path leads from a number, if there is one.
abbrev pub led : Edges → ℕ → Path → Option ℕ
led g i [] = Some i
led g i (name ∷ path) = option_and_then (λ k. led g k path) (g i name)

-- One edge is as given, and all others are as before.
pub record IsSet (k : ℕ) (name : List ℕ) (to : Option ℕ) (g h : Edges) : Type 0 where
  pub here : h k name ≡ to
  pub else : (i : ℕ) (other : List ℕ) → ((i ≡ k) × (other ≡ name) → ⊥) → h i other ≡ g i other

-- The object of each number, if it has one.
abbrev pub Objects : Type 0
Objects = ℕ → Option Object

-- The object of one number was changed, and all others are as before.
pub record IsChanged (k : ℕ) (f : Object → Object) (a b : Objects) : Type 0 where
  pub here : b k ≡ option_map f (a k)
  pub else : (i : ℕ) → i ≢ k → b i ≡ a i

-- One number has this object and no edges, and all others are as before.
pub record IsPlaced (k : ℕ) (o : Object) (g : Edges) (a : Objects) (h : Edges) (b : Objects) : Type 0 where
  pub here : b k ≡ Some o
  pub object_state : (name : List ℕ) → h k name ≡ None
  pub else : (i : ℕ) → i ≢ k → (b i ≡ a i) × ((name : List ℕ) → h i name ≡ g i name)

-- The object at each path. The root has the number 0.
abbrev pub places_by : Edges → Objects → Places
places_by g a = λ path. option_and_then a (led g 0 path)
