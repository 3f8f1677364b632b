use Rattle.std.proofs.Common.{ℕ, List, subst, sym, ◌∙◌}
use Rattle.pv_tree.specs.Finding.{IsFoundAt, IsGapAt}
use Rattle.pv_tree.specs.Children.{orders_of}
use Rattle.pv_tree.proofs.Names.{put_gap, object_missed}
use Rattle.pv_tree.proofs.children.put_in.Goals as goal

pub returns-in-Ok-clause-ok : goal.returns-in-Ok-clause-ok
returns-in-Ok-clause-ok c =
    c.replace_at.ensures.put c.args.name (subst (λ (n : List ℕ). IsFoundAt (orders_of n c.args.entries.now.items) c.in-Ok.i) c.of.ensures c.in-Ok.ensures.found)

pub returns-in-Ok-clause-old : goal.returns-in-Ok-clause-old
returns-in-Ok-clause-old c =
    c.replace_at.ensures.old c.args.name (subst (λ (n : List ℕ). IsFoundAt (orders_of n c.args.entries.now.items) c.in-Ok.i) c.of.ensures c.in-Ok.ensures.found)

pub returns-in_ok-insert-in-Err-clause-ok : goal.returns-in_ok-insert-in-Err-clause-ok
returns-in_ok-insert-in-Err-clause-ok c =
    c.in_ok-insert-in-Err.ensures.items
    ∙ put_gap c.args.name c.args.number c.args.entries.now.items c.in-Err.i (subst (λ (n : List ℕ). IsGapAt (orders_of n c.args.entries.now.items) c.in-Err.i) c.of.ensures c.in-Err.ensures.gap)

pub returns-in_ok-insert-in-Err-clause-old : goal.returns-in_ok-insert-in-Err-clause-old
returns-in_ok-insert-in-Err-clause-old c =
    sym (object_missed c.args.name c.args.entries.now.items c.in-Err.i (subst (λ (n : List ℕ). IsGapAt (orders_of n c.args.entries.now.items) c.in-Err.i) c.of.ensures c.in-Err.ensures.gap))
