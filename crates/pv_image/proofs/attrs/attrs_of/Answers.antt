use Rattle.std.proofs.Common.{sym, ◌∙◌}
use Rattle.pv_image.proofs.AttrTexts.{attrs_more, order_none, pieces_more, pieces_none}
use Rattle.pv_image.proofs.attrs.attrs_of.Goals as goal

pub returns-in_default : goal.returns-in_default
returns-in_default c = pieces_none c.args.pieces.now c.loop-piece.piece-index _ c.loop-piece-test.true (rw c.in_default.is at c.in_ok-attr.ensures)

pub returns-then-not-comes_last : goal.returns-then-not-comes_last
returns-then-not-comes_last c =
    let read = rw c.in-Some.is at c.in_ok-attr.ensures in
    order_none c.args.pieces.now c.loop-piece.piece-index _ c.loop-piece.attrs c.in-Some.attr c.loop-piece-test.true c.loop-piece.invariant.are c.loop-piece.invariant.so_far read.1 read.0 (sym c.comes_last.ensures ∙ c.if-not-comes_last.true)

pub loop-piece-preserved : goal.loop-piece-preserved
loop-piece-preserved c =
    let read = rw c.in-Some.is at c.in_ok-attr.ensures in
    let late = sym c.comes_last.ensures ∙ c.if-not-comes_last.false in
    rw c.in_ok-push.ensures.ok (record {
      so_far = pieces_more c.args.pieces.now c.loop-piece.piece-index _ c.loop-piece.attrs c.in-Some.attr c.loop-piece-test.true c.loop-piece.invariant.so_far read.1;
      are = attrs_more c.loop-piece.attrs c.in-Some.attr c.loop-piece.invariant.are read.0 late;
    })
