use Rattle.std.proofs.Common.{◌≡◌, map, take}
use Rattle.pv_accounts.specs.Kinds.{test_of}
use Rattle.pv_sysusers.specs.Members.{IsPlaced, lines_held}
use Rattle.pv_sysusers.proofs.members.MemberLines.of_lines.Given as goal

abbrev pub invariant-loop-line : goal.invariant-loop-line
invariant-loop-line l =
    record {
      lines : lines_held l.held ≡ map (λ s. s.now) (take l.line-index l.lines);
      placed : IsPlaced (test_of l.kind) l.held;
    }
