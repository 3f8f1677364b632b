use Rattle.std.proofs.Common.{ℕ, List, Some, ap, sym, ◌∙◌}
use Rattle.pv_tree.proofs.Names.{remove_found, remove_gap, object_found, object_missed}
use Rattle.pv_tree.proofs.children.take_out.Goals as goal

pub returns-in-Some-clause-items : goal.returns-in-Some-clause-items
returns-in-Some-clause-items c = c.in-Some.ensures.items ∙ remove_found c.args.name.now c.args.entries.now.items c.in-Ok.i c.in-Ok.ensures.found

pub returns-in-Some-clause-old : goal.returns-in-Some-clause-old
returns-in-Some-clause-old c =
    ap (λ (e : List ℕ × ℕ). Some e.1) c.in-Some.ensures.value
    ∙ sym (object_found c.args.name.now c.args.entries.now.items c.in-Ok.i c.in-Some.entry c.in-Ok.ensures.found).1

pub returns-in-Err-clause-items : goal.returns-in-Err-clause-items
returns-in-Err-clause-items c = remove_gap c.args.name.now c.args.entries.now.items c.in-Err.field-0 c.in-Err.ensures.gap

pub returns-in-Err-clause-old : goal.returns-in-Err-clause-old
returns-in-Err-clause-old c = sym (object_missed c.args.name.now c.args.entries.now.items c.in-Err.field-0 c.in-Err.ensures.gap)
