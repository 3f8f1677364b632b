use Rattle.std.proofs.Common.{◌≡◌, take}
use Rattle.std.specs.List.{list_any}
use Rattle.pv_path.specs.Paths.{Path}
use Rattle.pv_walk.specs.Finding.{extends}
use Rattle.pv_walk.specs.Removal.{is_one_of}
use Rattle.pv_walk.proofs.matching.next_written.Given as goal

abbrev pub invariant-loop-path : goal.invariant-loop-path
invariant-loop-path g l = (q : Path) → is_one_of l.next.items q ≡ list_any (λ p. extends (g.T.Tree.state l.tree) l.plain p q) (take l.path-index l.paths)
