use Rattle.std.proofs.Common.{◌∙◌, ◌+◌, ◌++◌, ap, drop}
use Rattle.pv_path.proofs.Tests.{texts}
use Rattle.pv_folder.proofs.Pieces.{taken, not_taken}
use Rattle.pv_folder.specs.Content.{names_among}
use Rattle.pv_folder.proofs.spelling.path_of.Goals as goal

pub returns-then-not-branch-clause-none : goal.returns-then-not-branch-clause-none
returns-then-not-branch-clause-none c e =
    not_taken c.loop-piece.path c.deref-piece-items.result.now c.loop-piece.piece-index _ c.loop-piece-test.true c.loop-piece.invariant _ (ap texts c.deref-piece-items.ensures.value ∙ c.in_ok-pieces.ensures) (c.in_ok-add_piece.ensures.unfit c.if-not-branch.true)

pub loop-piece-preserved : goal.loop-piece-preserved
loop-piece-preserved c =
    ap (λ p. p ++ names_among (drop (c.loop-piece.piece-index + 1) (texts c.deref-piece-items.result.now))) (c.in_ok-add_piece.ensures.added c.if-not-branch.false)
    ∙ taken c.loop-piece.path c.deref-piece-items.result.now c.loop-piece.piece-index _ c.loop-piece-test.true c.loop-piece.invariant
