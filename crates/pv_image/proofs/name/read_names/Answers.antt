use Rattle.std.proofs.Common.{◌==◌, [], map, ◌∙◌}
use Rattle.std.specs.List.{slice_split}
use Rattle.pv_path.specs.Printing.{printed}
use Rattle.pv_image.proofs.Cuts.{cut_shorter, split_last, split_next}
use Rattle.pv_image.proofs.Paths.{names_last, names_more, names_none, path_more}
use Rattle.pv_image.proofs.name.read_names.Goals as goal

pub returns-in_default-2 : goal.returns-in_default-2
returns-in_default-2 c =
    let none = rw c.in_default-2.is at c.in_ok-name.ensures in
    let next = split_next 47 (map printed c.loop-piece.path) (slice_split (λ b. b == 47) c.args.text.now) c.loop-piece.rest.now c.in-Some.piece.now c.in-Some.after.now c.loop-piece.invariant.so_far c.in-Some.ensures.some in
    λ path is e. names_none (map printed c.loop-piece.path) (slice_split (λ b. b == 47) c.in-Some.after.now) c.in-Some.piece.now none path is (next ∙ e)

pub loop-piece-preserved : goal.loop-piece-preserved
loop-piece-preserved c =
    let read = rw c.in-Some-2.is at c.in_ok-name.ensures in
    let next = split_next 47 (map printed c.loop-piece.path) (slice_split (λ b. b == 47) c.args.text.now) c.loop-piece.rest.now c.in-Some.piece.now c.in-Some.after.now c.loop-piece.invariant.so_far c.in-Some.ensures.some in
    rw c.in_ok-push.ensures.ok (record {
      so_far = names_more (slice_split (λ b. b == 47) c.args.text.now) (slice_split (λ b. b == 47) c.in-Some.after.now) c.loop-piece.path c.in-Some.piece.now c.in-Some-2.name next read.1;
      is_path = path_more c.loop-piece.path c.in-Some-2.name c.loop-piece.invariant.is_path read.0;
    })

pub loop-piece-smaller : goal.loop-piece-smaller
loop-piece-smaller c = cut_shorter 47 c.loop-piece.rest.now c.in-Some.piece.now c.in-Some.after.now c.in-Some.ensures.some

pub returns-in_default-3 : goal.returns-in_default-3
returns-in_default-3 c =
    let none = rw c.in_default-3.is at c.in_ok-name-2.ensures in
    let last = split_last 47 (map printed c.loop-piece.path) (slice_split (λ b. b == 47) c.args.text.now) c.loop-piece.rest.now c.loop-piece.invariant.so_far c.in_default.ensures.none in
    λ path is e. names_none (map printed c.loop-piece.path) [] c.loop-piece.rest.now none path is (last ∙ e)

pub returns : goal.returns
returns c =
    let read = rw c.in-Some-3.is at c.in_ok-name-2.ensures in
    let last = split_last 47 (map printed c.loop-piece.path) (slice_split (λ b. b == 47) c.args.text.now) c.loop-piece.rest.now c.loop-piece.invariant.so_far c.in_default.ensures.none in
    rw c.in_ok-push-2.ensures.ok (path_more c.loop-piece.path c.in-Some-3.name c.loop-piece.invariant.is_path read.0, names_last (slice_split (λ b. b == 47) c.args.text.now) c.loop-piece.path c.loop-piece.rest.now c.in-Some-3.name last read.1)
