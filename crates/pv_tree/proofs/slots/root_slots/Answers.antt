use Rattle.std.proofs.Common.{◌++◌, ◌∷◌, [], List, ℕ, refl, ap, ◌∙◌}
use Rattle.pv_tree.specs.declared.slot.Slot.{Slot}
use Rattle.pv_tree.specs.Content.{Content}
use Rattle.pv_tree.proofs.State.{new_tree, new_files}
use Rattle.pv_tree.proofs.slots.root_slots.Goals as goal

pub returns-clause-tree : goal.returns-clause-tree
returns-clause-tree c =
    new_tree (record { node = c.args.root; content = c.in_ok-content.content }) c.push.new.self.items [] (record { node = c.args.root; payload = [] })
    (ap (λ (v : Content). v.children) c.in_ok-content.ensures)
    (ap (λ (v : Content). record { node = c.args.root; payload = v.payload }) c.in_ok-content.ensures ∙ ap (λ (b : List ℕ). record { node = c.args.root; payload = b }) c.new.ensures)
    (c.in_ok-push.ensures.items ∙ ap (λ (v : List Slot). v ++ record { node = c.args.root; content = c.in_ok-content.content } ∷ []) c.new-slots.ensures.items)
    refl c.requires.kind c.requires.object

pub returns-clause-files : goal.returns-clause-files
returns-clause-files c =
    new_files (record { node = c.args.root; content = c.in_ok-content.content }) c.push.new.self.items (record { node = c.args.root; payload = [] })
    (ap (λ (v : Content). v.children) c.in_ok-content.ensures)
    (ap (λ (v : Content). record { node = c.args.root; payload = v.payload }) c.in_ok-content.ensures ∙ ap (λ (b : List ℕ). record { node = c.args.root; payload = b }) c.new.ensures)
    (c.in_ok-push.ensures.items ∙ ap (λ (v : List Slot). v ++ record { node = c.args.root; content = c.in_ok-content.content } ∷ []) c.new-slots.ensures.items)
