use Rattle.std.proofs.Common.{◌≡◌, ◌++◌, ◌∷◌, take, map}
use Rattle.std.specs.List.{range_with_len}
use Rattle.pv_path.specs.Paths.{parent_of}
use Rattle.pv_explain.proofs.state.add_line.Given as goal

abbrev pub invariant-loop-name : goal.invariant-loop-name
invariant-loop-name l = record {
  items : l.name-items ≡ parent_of l.path;
  place : l.place ≡ take l.name-index (parent_of l.path);
  paths : l.paths.items ≡ l.fn.paths.items ++ l.path ∷ map (λ k. take k (parent_of l.path)) (range_with_len 1 l.name-index);
}
