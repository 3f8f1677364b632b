use Rattle.std.proofs.Common.{ap, ◌∙◌}
use Rattle.std.specs.List.{list_all}
use Rattle.pv_path.specs.Paths.{has_names}
use Rattle.pv_tree.specs.Held.{Held}
use Rattle.pv_tree.proofs.Files.{Entries}
use Rattle.pv_tree.proofs.BelowLaws.{kept_named, paths_kept}
use Rattle.pv_tree.proofs.mem_tree.MemTreeTree.at_and_below.Goals as goal

pub paths_left-requires : goal.paths_left-requires
paths_left-requires c =
    ap (λ (v : Entries). list_all (λ e. has_names e.0) v) c.in_ok-walk.ensures ∙ kept_named c.self.inside.slots.items c.names.result.now c.self.invariant.whole.tree

pub returns : goal.returns
returns c = record {
  paths =
      paths_kept c.paths_left.result c.self.inside.slots.items c.args.self.now.files c.names.result.now c.args.path.now c.in_ok-walk.walk
      (ap (λ (h : Held). h.files) c.self.view_is) c.names.ensures.value c.in_ok-walk.ensures c.paths_left.ensures;
}
