use Rattle.std.proofs.Common.{◌≡◌, drop}
use Rattle.pv_sysusers.specs.Deciding.{GivesNext, groups_by, pooled_by}
use Rattle.pv_sysusers.specs.Groups.{decided_groups}
use Rattle.pv_sysusers.specs.Needs.{fixed_for}
use Rattle.pv_sysusers.proofs.GroupLaws.{Underway}
use Rattle.pv_sysusers.proofs.groups.decided_groups.Given as goal

abbrev pub invariant-loop-need : goal.invariant-loop-need
invariant-loop-need l =
    (Underway (groups_by l.wanted l.users l.fn.groups) (decided_groups (pooled_by l.wanted.pool) l.users (fixed_for l.wanted.needs.items) l.groups.all (drop l.need-index l.wanted.needs.items))
    l.fn.groups l.groups.all l.groups.made.items l.fn.new_messages l.new_messages)
    × GivesNext l.stock l.users l.groups.all × (l.stock.pool.now ≡ l.wanted.pool)
