use Rattle.std.proofs.Common.{◌∙◌}
use Rattle.pv_sysusers.proofs.Highest.{top_bound, top_later, top_whole}
use Rattle.pv_sysusers.proofs.pool.top_of.Goals as goal

pub returns-then-range-bound : goal.returns-then-range-bound
returns-then-range-bound c = c.last_of.ensures ∙ top_whole c.args.range c.args.bound c.if-range-bound.true

pub returns-then-range-bound-2 : goal.returns-then-range-bound-2
returns-then-range-bound-2 c = top_bound c.args.range.0 c.args.range.1 c.args.bound c.if-range-bound.false c.if-range-bound-2.true

pub returns-else-range-bound-2 : goal.returns-else-range-bound-2
returns-else-range-bound-2 c = top_later c.args.range.0 c.args.range.1 c.args.bound c.if-range-bound-2.false
