use Rattle.std.proofs.Common.{rules}
use Rattle.pv_glob.proofs.PatternLaws.{followed_even}
use Rattle.pv_glob.proofs.pattern.Pattern.followed.Goals as goal

pub invariant_of-result : goal.invariant_of-result
invariant_of-result c = followed_even c.self.inside.plains c.args.words.now c.in_ok-all_followed.field-0 c.self.invariant c.requires (search rules)
