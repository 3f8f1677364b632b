use Rattle.std.proofs.Common.{◌≡◌, take}
use Rattle.std.specs.List.{flat_map}
use Rattle.pv_sysusers.specs.Members.{pairs_of}
use Rattle.pv_sysusers.specs.Shown.{shown}
use Rattle.pv_sysusers.specs.Texts.{membership_of}
use Rattle.pv_sysusers.proofs.members.memberships_of.Given as goal

abbrev pub invariant-loop-line : goal.invariant-loop-line
invariant-loop-line l = pairs_of l.members.items ≡ flat_map membership_of (shown (take l.line-index l.lines))
