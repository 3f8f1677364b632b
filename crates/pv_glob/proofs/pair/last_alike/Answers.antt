use Rattle.std.proofs.Common.{◌≡◌, ap, arith}
use Rattle.pv_glob.specs.Pairs.{target}
use Rattle.pv_glob.proofs.AlikeLaws.{beside_alike, written_there}
use Rattle.pv_glob.proofs.pair.last_alike.Goals as goal

pub returns-in-Some-clause-alike : goal.returns-in-Some-clause-alike
returns-in-Some-clause-alike c = λ b low high.
    let left = c.args.components.left.now in let right = c.args.components.right.now in
    beside_alike left right c.args.spot.begun c.args.spot.left c.args.spot.right c.in-Some.written b c.args.byte
    (written_there left right c.args.spot.left c.args.spot.right c.in-Some.written c.index-components-spot.result c.index-components-spot-2.result c.requires.left c.requires.right c.in-Some.ensures)
    (c.last_beside.ensures.alike b low high)

pub returns-else-is_wild-clause-alike : goal.returns-else-is_wild-clause-alike
returns-else-is_wild-clause-alike c = λ b low high. let same : b ≡ c.args.byte = omega arith in
    ap (target c.args.components.left.now c.args.components.right.now c.args.spot.begun c.args.spot.left c.args.spot.right) same
