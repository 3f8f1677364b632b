use Rattle.std.proofs.Common.{ap, ◌∙◌}
use Rattle.pv_table.specs.declared.action.Action.TheVariants.{Create}
use Rattle.pv_table.specs.Turns.{view_of}
use Rattle.pv_create.specs.declared.deciding.Turn.{Turn}
use Rattle.pv_create.specs.Deciding.{meant, kept_turn}
use Rattle.pv_create.proofs.DecidingLaws.{decided_put, decided_kept}
use Rattle.pv_create.proofs.deciding.making_over.Goals as goal

pub returns-then-stays : goal.returns-then-stays
returns-then-stays g c =
    let making = c.args.making.now in
    let view = view_of (g.T.Tree.state c.args.tree.now) in
    ap (λ (x : Turn). meant (Create making) view x) c.kept_turn.ensures
    ∙ ap (λ k. meant (Create making) view (kept_turn k c.args.node.now.kind)) c.kind.ensures
    ∙ decided_kept making c.args.path.now (g.T.Tree.state c.args.tree.now) c.args.node.now c.requires.node c.stays.result c.stays.ensures c.if-stays.true

pub returns-else-stays : goal.returns-else-stays
returns-else-stays g c =
    decided_put c.args.making.now c.args.path.now (g.T.Tree.state c.args.tree.now) c.args.node.now c.requires.node c.stays.result c.stays.ensures c.if-stays.false
