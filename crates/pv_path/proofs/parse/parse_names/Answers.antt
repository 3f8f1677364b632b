use Rattle.std.proofs.Common.{ap, ◌∙◌, Err}
use Rattle.std.proofs.lemmas.Result.{err_from_is_err_and}
use Rattle.pv_path.proofs.Pieces.{text_is_names, texts_fault, texts_kept}
use Rattle.pv_path.proofs.Tests.{texts}
use Rattle.pv_path.proofs.parse.parse_names.Goals as goal

pub add_piece-requires : goal.add_piece-requires
add_piece-requires c =
    text_is_names c.deref-piece-items.result.now c.loop-piece.piece-index _ c.args.text.now c.loop-piece-test.true (ap texts c.deref-piece-items.ensures.value ∙ c.in_ok-pieces.ensures) c.requires

pub returns-in_err-add_piece : goal.returns-in_err-add_piece
returns-in_err-add_piece c =
    let p = err_from_is_err_and c.from_residual-in_err-add_piece.result c.from_residual-in_err-add_piece.ensures.1 in
    texts_fault c.in_err-add_piece.field-0.0 c.from_residual-in_err-add_piece.result c.loop-piece.path c.deref-piece-items.result.now c.loop-piece.piece-index _ c.args.text.now (p.1 ∙ ap Err p.2)
    c.in_err-add_piece.ensures.err c.loop-piece-test.true (ap texts c.deref-piece-items.ensures.value ∙ c.in_ok-pieces.ensures) c.loop-piece.invariant

pub loop-piece-preserved : goal.loop-piece-preserved
loop-piece-preserved c =
    texts_kept c.loop-piece.path c.add_piece.new.path c.deref-piece-items.result.now c.loop-piece.piece-index _ c.in_ok-add_piece.ensures.ok c.loop-piece-test.true c.loop-piece.invariant
