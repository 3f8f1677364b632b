use Rattle.std.proofs.Common.{◌≡◌, ◌++◌, map, take}
use Rattle.pv_overlap.specs.Subjects.{reach_under}
use Rattle.pv_overlap.proofs.subject.add_under.Given as goal

abbrev pub invariant-loop-path : goal.invariant-loop-path
invariant-loop-path l = l.reaches.items ≡ l.initial.reaches.items ++ map reach_under (take l.path-index l.paths)
