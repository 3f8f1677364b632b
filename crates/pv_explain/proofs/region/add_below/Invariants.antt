use Rattle.std.proofs.Common.{◌≡◌, ◌++◌, take}
use Rattle.std.specs.FinMap as fin
use Rattle.std.specs.List.{filter, flat_map}
use Rattle.pv_path.specs.Paths.{is_prefix}
use Rattle.pv_explain.proofs.region.add_below.Given as goal

abbrev pub invariant-loop-top : goal.invariant-loop-top
invariant-loop-top g l = l.paths.items ≡ l.fn.paths.items ++ flat_map (λ top. filter (is_prefix top) (fin.keys (g.T.Tree.state l.tree))) (take l.top-index l.tops)
