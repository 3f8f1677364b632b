-- Binary search. A list says how each element compares with the one that is looked for.
use Rattle.std.specs.Prelude.{◌≡◌, ℕ, ◌≤◌, List, ◌∷◌, ◌++◌, replicate}
use Rattle.std.specs.declared.cmp.Ordering.{Ordering}
use Rattle.std.specs.declared.cmp.Ordering.TheVariants.{Less, Equal, Greater}

-- First come some that are less, then at most one that is equal, then some that are greater.
pub record IsRising (orders : List Ordering) : Type 0 where
  pub less : ℕ
  pub equal : ℕ
  pub greater : ℕ
  pub once : equal ≤ 1
  pub is : orders ≡ replicate less Less ++ (replicate equal Equal ++ replicate greater Greater)

-- The equal one is at this index. All before it are less, and all after it are greater.
pub record IsFoundAt (orders : List Ordering) (i : ℕ) : Type 0 where
  pub greater : ℕ
  pub is : orders ≡ replicate i Less ++ Equal ∷ replicate greater Greater

-- None is equal. All before this index are less, and all from there on are greater.
pub record IsGapAt (orders : List Ordering) (i : ℕ) : Type 0 where
  pub greater : ℕ
  pub is : orders ≡ replicate i Less ++ replicate greater Greater
