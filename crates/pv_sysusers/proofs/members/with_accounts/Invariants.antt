use Rattle.std.proofs.Common.{◌≡◌, true, drop}
use Rattle.pv_accounts.specs.Edits.{text_of}
use Rattle.pv_accounts.specs.Kinds.{test_of}
use Rattle.pv_sysusers.specs.Members.{AreLines, IsPlaced, are_accounts, lines_held, pairs_of}
use Rattle.pv_sysusers.specs.Texts.{with_memberships}
use Rattle.pv_sysusers.proofs.members.with_accounts.Given as goal

abbrev pub invariant-loop-member : goal.invariant-loop-member
invariant-loop-member l =
    record {
      left : with_memberships (test_of l.kind) (pairs_of (drop l.member-index l.members)) (text_of (lines_held l.held)) ≡ with_memberships (test_of l.kind) (pairs_of l.members) l.file;
      placed : IsPlaced (test_of l.kind) l.held;
      whole : AreLines (lines_held l.held);
      accounts : are_accounts (drop l.member-index l.members) ≡ true;
    }
