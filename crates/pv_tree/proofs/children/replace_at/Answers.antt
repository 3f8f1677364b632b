use Rattle.std.proofs.Common.{ℕ, List, Some, set, get_or, ap, sym, ◌∙◌}
use Rattle.pv_tree.proofs.Names.{put_found, object_found}
use Rattle.pv_tree.proofs.children.replace_at.Goals as goal

pub returns-clause-put : goal.returns-clause-put
returns-clause-put c = λ name found.
    ap (λ (e : List ℕ × ℕ). set c.args.entries.now.items c.args.i (e.0, c.replace.new.dest)) c.index_mut-entry.ensures.value
    ∙ ap (λ (k : ℕ). set c.args.entries.now.items c.args.i ((get_or c.args.entries.now.items c.args.i c.index_mut-entry.result.now).0, k)) c.replace.ensures.after
    ∙ put_found name c.args.number c.args.entries.now.items c.args.i c.index_mut-entry.result.now found

pub returns-clause-old : goal.returns-clause-old
returns-clause-old c = λ name found.
    ap Some (c.replace.ensures.value ∙ ap (λ (e : List ℕ × ℕ). e.1) c.index_mut-entry.ensures.value)
    ∙ sym (object_found name c.args.entries.now.items c.args.i c.index_mut-entry.result.now found).1
