use Rattle.std.proofs.Common.{◌≡◌, take}
use Rattle.std.specs.List.{flat_map}
use Rattle.pv_sysusers.specs.Needs.{is_made, needs_of}
use Rattle.pv_sysusers.specs.Shown.{shown}
use Rattle.pv_sysusers.proofs.needs.all_needs.Given as goal

abbrev pub invariant-loop-line : goal.invariant-loop-line
invariant-loop-line l = l.needs.items ≡ flat_map (needs_of (is_made l.users (shown l.lines.kept.items))) (shown (take l.line-index l.lines.kept.items))
