use Rattle.std.proofs.Common.{◌≡◌, drop}
use Rattle.pv_accounts.specs.Kinds.{test_of}
use Rattle.pv_sysusers.specs.Members.{pairs_of}
use Rattle.pv_sysusers.specs.Texts.{with_memberships}
use Rattle.pv_sysusers.proofs.members.with_any.Given as goal

abbrev pub invariant-loop-member : goal.invariant-loop-member
invariant-loop-member l = with_memberships (test_of l.fn.kind) (pairs_of (drop l.member-index l.members)) l.text.items ≡ with_memberships (test_of l.fn.kind) (pairs_of l.members) l.fn.file.items
