use Rattle.std.proofs.Common.{◌≡◌, drop, map, Ok}
use Rattle.pv_path.specs.Parsing.{joined, names_of}
use Rattle.pv_path.proofs.parse.parse_names.Given as goal

abbrev pub invariant-loop-piece : goal.invariant-loop-piece
invariant-loop-piece l =
    joined (Ok l.path) (names_of (drop l.piece-index (map (λ s. s.now) l.piece-items))) ≡ names_of (map (λ s. s.now) l.piece-items)
