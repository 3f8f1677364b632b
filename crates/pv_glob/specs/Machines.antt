-- Machines that read words byte by byte, and the words that they accept. They are nondeterministic finite automata:
-- one byte may lead from a state to several others.
use Rattle.std.specs.Prelude.{ℕ, Bool, ◌&&◌, nat_le, List, [], ◌∷◌, map, filter, All, ◌<◌}
use Rattle.std.specs.List.{list_any}
use Rattle.pv_glob.specs.declared.moves.Move.{Move}

-- A machine: the number of its states, which of them accept, and the states to which a byte leads from a state.
pub record Machine : Type 0 where
  pub places : ℕ
  pub is_end : ℕ → Bool
  pub after : ℕ → ℕ → List ℕ

-- Whether a word leads from a state to one that accepts.
abbrev pub reads : Machine → ℕ → List ℕ → Bool
reads machine at [] = machine.is_end at
reads machine at (b ∷ word) = list_any (λ to. reads machine to word) (machine.after at b)

-- Whether a transition is for this byte.
abbrev pub goes_by : ℕ → Move → Bool
goes_by b move = nat_le move.low b && nat_le b move.high

-- The states to which a byte leads by these transitions.
abbrev pub targets : List Move → ℕ → List ℕ
targets moves b = map (λ move. move.to) (filter (goes_by b) moves)

-- All transitions lead to states with a number below `places`.
abbrev pub AllInside : ℕ → List Move → Type 0
AllInside places moves = All (λ move. move.to < places) moves
