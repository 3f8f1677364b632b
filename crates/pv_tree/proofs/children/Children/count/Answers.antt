use Rattle.std.proofs.Common.{length, ap, sym, ◌∙◌}
use Rattle.pv_tree.proofs.Names.{Entries, as_entries}
use Rattle.pv_tree.proofs.children.Children.count.Goals as goal

pub returns : goal.returns
returns c =
    c.len.ensures ∙ c.self.inside.entries.ok.0
    ∙ ap (λ (v : Entries). length v) (sym (as_entries c.self.inside.entries.items c.args.self.now c.self.view_is c.self.invariant))
