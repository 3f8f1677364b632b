use Rattle.std.proofs.Common.{◌≡◌, ◌++◌, take, map}
use Rattle.std.specs.List.{filter_map}
use Rattle.pv_path.specs.Paths.{rest_under}
use Rattle.pv_explain.proofs.state.add_copies.Given as goal

abbrev pub invariant-loop-other : goal.invariant-loop-other
invariant-loop-other l = l.paths.items ≡ l.fn.paths.items ++ map (λ rest. l.path ++ rest) (filter_map (rest_under l.source) (take l.other-index l.present))
