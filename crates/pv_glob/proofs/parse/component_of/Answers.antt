use Rattle.std.proofs.Common.{rules}
use Rattle.pv_glob.proofs.PatternLaws.{brace_fault}
use Rattle.pv_glob.proofs.parse.component_of.Goals as goal

pub returns-in_default-2-clause-value : goal.returns-in_default-2-clause-value
returns-in_default-2-clause-value c = brace_fault c.args.before c.args.component.now c.requires (search rules) (search rules)
