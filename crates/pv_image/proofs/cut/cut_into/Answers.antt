use Rattle.std.proofs.Common.{length-set, ◌==◌, take, sym, ◌∙◌, arith, append-nil, []}
use Rattle.std.specs.List.{slice_split}
use Rattle.pv_image.specs.Reading.{texts}
use Rattle.pv_image.proofs.Cuts.{put_next, split_last, split_next, split_over}
use Rattle.pv_image.proofs.cut.cut_into.Goals as goal

pub returns-in_default-clause-some : goal.returns-in_default-clause-some
returns-in_default-clause-some c =
    let l = c.loop-count in
    let whole = slice_split (λ b. b == c.args.byte) c.args.text.now in
    let last = split_last c.args.byte (texts (take l.count l.pieces)) whole l.rest.now l.invariant.so_far c.in_default.ensures.none in
    sym (append-nil _) ∙ put_next l.pieces l.count l.rest whole [] c.loop-count-test.true last

pub loop-count-preserved : goal.loop-count-preserved
loop-count-preserved c =
    let l = c.loop-count in
    let whole = slice_split (λ b. b == c.args.byte) c.args.text.now in
    let next = split_next c.args.byte (texts (take l.count l.pieces)) whole l.rest.now c.in-Some.piece.now c.in-Some.after.now l.invariant.so_far c.in-Some.ensures.some in
    let same = length-set l.pieces l.count c.in-Some.piece in
    record {
      fits = omega (arith, same);
      same = same ∙ l.invariant.same;
      so_far = put_next l.pieces l.count c.in-Some.piece whole (slice_split (λ b. b == c.args.byte) c.in-Some.after.now) c.loop-count-test.true next;
    }

pub returns-clause-none : goal.returns-clause-none
returns-clause-none c =
    let l = c.loop-count in
    split_over c.args.byte _ l.pieces l.count l.rest.now c.args.text.now l.invariant.same c.loop-count-test.false l.invariant.so_far
