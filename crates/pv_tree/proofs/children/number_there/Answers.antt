use Rattle.std.proofs.Common.{◌≡◌, Some, slice_get, sym, ◌∙◌}
use Rattle.pv_tree.proofs.Names.{equal_is, item_read, read_at}
use Rattle.pv_tree.proofs.children.number_there.Goals as goal

pub returns-then-is_eq : goal.returns-then-is_eq
returns-then-is_eq c =
    let at : Some c.in_ok-entry.entry.now ≡ slice_get c.args.entries.now c.args.i = item_read c.args.entries.now c.args.i (Some c.in_ok-entry.entry) c.in_ok-entry.ensures.lookup.3 in
    read_at c.args.name.now c.args.entries.now c.args.i c.in_ok-entry.entry.now c.requires at (sym c.order_of.ensures ∙ equal_is c.order_of.result (sym c.is_eq.ensures ∙ c.if-is_eq.true))
