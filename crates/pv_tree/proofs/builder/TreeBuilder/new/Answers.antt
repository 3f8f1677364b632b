use Rattle.std.proofs.Common.{List, ℕ, [], ◌++◌, ◌∷◌, ap, sym, subst, ◌∙◌}
use Rattle.pv_path.specs.Paths.{Path}
use Rattle.pv_tree.specs.Growth.{IsGrowing}
use Rattle.pv_tree.proofs.GrowthLaws.{root_growing}
use Rattle.pv_tree.proofs.builder.TreeBuilder.new.Goals as goal

pub invariant_of-result : goal.invariant_of-result
invariant_of-result c =
    subst (λ (p : Path). IsGrowing c.in_ok-slots.slots.items c.new.result.items p c.push.new.self.items) (sym c.root.ensures)
    (root_growing c.in_ok-slots.slots.items c.new.result.items c.push.new.self.items c.args.root c.in_ok-slots.ensures.tree c.in_ok-slots.ensures.files c.new.ensures.items
    (c.in_ok-push.ensures.items ∙ ap (λ (v : List ℕ). v ++ 0 ∷ []) c.new-way.ensures.items))
