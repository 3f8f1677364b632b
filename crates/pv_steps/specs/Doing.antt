-- Things that are done over a tree, one after the other.
use Rattle.std.specs.Prelude.{ℕ, ◌+◌, Bool, false, ◌||◌, List, [], ◌∷◌, ◌++◌, fold}
use Rattle.pv_steps.specs.Trees.{Files}

-- What a complete thing of a type A does, if it begins in a tree: the tree that it leaves, its messages, whether it
-- is refused at some path, and at most how many steps it takes.
pub record Doing (A : Type 0) : Type 0 where
  pub after : A → Files → Files
  pub says : A → Files → List (List ℕ)
  pub is_refused : A → Files → Bool
  pub takes : A → Files → ℕ

-- The tree that several things leave. Each begins in the tree that those before it leave.
abbrev pub after_each : {A : Type 0} → Doing A → List A → Files → Files
after_each d xs t = fold (λ u x. d.after x u) t xs

-- The messages of several things, in their order.
abbrev pub messages_for_each : {A : Type 0} → Doing A → List A → Files → List (List ℕ)
messages_for_each d [] t = []
messages_for_each d (x ∷ xs) t = d.says x t ++ messages_for_each d xs (d.after x t)

-- Whether one of several things is refused at some path.
abbrev pub one_is_refused : {A : Type 0} → Doing A → List A → Files → Bool
one_is_refused d [] t = false
one_is_refused d (x ∷ xs) t = d.is_refused x t || one_is_refused d xs (d.after x t)

-- At most how many steps several things take.
abbrev pub taken_by_each : {A : Type 0} → Doing A → List A → Files → ℕ
taken_by_each d [] t = 0
taken_by_each d (x ∷ xs) t = d.takes x t + taken_by_each d xs (d.after x t)
