use Rattle.std.proofs.Common.{sym, ◌∙◌}
use Rattle.pv_sysusers.proofs.Highest.{left_found, left_none, left_passed, top_below}
use Rattle.pv_sysusers.proofs.pool.Pool.free_below.Goals as goal

pub returns-then-is_free : goal.returns-then-is_free
returns-then-is_free c =
    left_found c.args.self.now c.args.users.now c.args.groups.now c.loop-n.bound c.in-Some.n (sym c.in-Some.is ∙ c.top.ensures) (sym c.is_free.ensures ∙ c.if-is_free.true) ∙ c.loop-n.invariant

pub loop-n-smaller : goal.loop-n-smaller
loop-n-smaller c = top_below c.args.self.now.ranges.items c.loop-n.bound c.in-Some.n (sym c.in-Some.is ∙ c.top.ensures)

pub loop-n-preserved : goal.loop-n-preserved
loop-n-preserved c =
    left_passed c.args.self.now c.args.users.now c.args.groups.now c.loop-n.bound c.in-Some.n (sym c.in-Some.is ∙ c.top.ensures) (sym c.is_free.ensures ∙ c.if-is_free.false) ∙ c.loop-n.invariant

pub returns : goal.returns
returns c = left_none c.args.self.now c.args.users.now c.args.groups.now c.loop-n.bound (sym c.in_default.is ∙ c.top.ensures) ∙ c.loop-n.invariant
