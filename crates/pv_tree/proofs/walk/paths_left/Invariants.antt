use Rattle.std.proofs.Common.{◌≡◌, ◌++◌, true, length, map}
use Rattle.std.specs.List.{list_all}
use Rattle.pv_path.specs.Paths.{has_names}
use Rattle.pv_tree.proofs.walk.paths_left.Given as goal

abbrev pub invariant-loop-entry : goal.invariant-loop-entry
invariant-loop-entry l = record {
  named : list_all (λ e. has_names e.0) l.walk ≡ true;
  so_far : l.paths.items ++ map (λ e. e.0) l.walk ≡ map (λ e. e.0) l.fn.walk;
}

abbrev pub decreases-loop-entry : goal.decreases-loop-entry
decreases-loop-entry l = length l.walk
