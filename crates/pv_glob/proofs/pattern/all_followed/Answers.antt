use Rattle.std.proofs.Common.{[], ◌∷◌, map, rules}
use Rattle.pv_glob.proofs.Loops.{joined_step}
use Rattle.pv_glob.proofs.pattern.all_followed.Goals as goal

pub loop-plain-preserved : goal.loop-plain-preserved
loop-plain-preserved c =
    joined_step c.args.plains.now (map (λ word. word ∷ []) c.args.words.now) c.loop-plain.longer c.add_followed.new.plains c.plain-item.result c.loop-plain.plain-index (search rules) c.loop-plain.invariant (search rules) (search rules)
