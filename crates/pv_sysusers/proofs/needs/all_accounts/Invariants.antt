use Rattle.std.proofs.Common.{◌≡◌, take}
use Rattle.std.specs.List.{flat_map}
use Rattle.pv_sysusers.specs.Needs.{accounts_of, is_made}
use Rattle.pv_sysusers.specs.Shown.{shown}
use Rattle.pv_sysusers.proofs.needs.all_accounts.Given as goal

abbrev pub invariant-loop-line : goal.invariant-loop-line
invariant-loop-line l = l.accounts.items ≡ flat_map (accounts_of (is_made l.users (shown l.lines.kept.items))) (shown (take l.line-index l.lines.kept.items))
