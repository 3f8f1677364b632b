use Rattle.std.proofs.Common.{rules}
use Rattle.pv_glob.proofs.Loops.{joined_step}
use Rattle.pv_glob.proofs.words.product.Goals as goal

pub loop-first-preserved : goal.loop-first-preserved
loop-first-preserved c =
    joined_step c.args.firsts.now c.args.seconds.now c.loop-first.words c.add_joined.new.words c.as_slice.result.now c.loop-first.first-index (search rules) c.loop-first.invariant (search rules) (search rules)
