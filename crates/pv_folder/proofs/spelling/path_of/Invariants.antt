use Rattle.std.proofs.Common.{◌≡◌, ◌++◌, drop, map}
use Rattle.pv_folder.specs.Content.{names_among}
use Rattle.pv_folder.proofs.spelling.path_of.Given as goal

-- the names gone through, and those that are left
abbrev pub invariant-loop-piece : goal.invariant-loop-piece
invariant-loop-piece l =
    l.path ++ names_among (drop l.piece-index (map (λ s. s.now) l.piece-items)) ≡ names_among (map (λ s. s.now) l.piece-items)
