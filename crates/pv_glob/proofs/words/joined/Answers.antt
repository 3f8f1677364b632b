use Rattle.std.proofs.Common.{rules}
use Rattle.std.proofs.lemmas.Result.{IfOk-weaker}
use Rattle.pv_glob.proofs.BraceLaws.{joined-only}
use Rattle.pv_glob.proofs.words.joined.Goals as goal

pub returns-in-len1 : goal.returns-in-len1
returns-in-len1 c =
    IfOk-weaker c.lengthened.result _ _
    (λ words is. joined-only c.args.firsts c.args.seconds.now words c.as_slice.result.now c.in-len1.len_at_least c.in-len1.len_below (search rules) is) c.lengthened.ensures
