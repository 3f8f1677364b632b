use Rattle.std.proofs.Common.{◌≡◌, take}
use Rattle.std.specs.FinMap as fin
use Rattle.pv_path.specs.Paths.{Path}
use Rattle.pv_table.specs.Pointwise.{point}
use Rattle.pv_explain.proofs.TabulatedLaws.{within}
use Rattle.pv_explain.proofs.state.tabulated.Given as goal

abbrev pub invariant-loop-other : goal.invariant-loop-other
invariant-loop-other l = (q : Path) → fin.get l.after q ≡ within (point l.turn.line.now l.turn.before.now) (take l.other-index l.paths) q
