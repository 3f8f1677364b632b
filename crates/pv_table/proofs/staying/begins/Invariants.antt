use Rattle.std.proofs.Common.{◌≡◌, ◌==◌, not, filter, map, length, drop}
use Rattle.pv_path.specs.Paths.{is_prefix}
use Rattle.pv_table.proofs.staying.begins.Given as goal

abbrev pub invariant-loop-piece : goal.invariant-loop-piece
invariant-loop-piece l =
    is_prefix l.names (filter (λ name. not (length name == 0)) (map (λ s. s.now) (drop l.piece-index l.pieces)))
    ≡ is_prefix l.path (filter (λ name. not (length name == 0)) (map (λ s. s.now) l.pieces))
