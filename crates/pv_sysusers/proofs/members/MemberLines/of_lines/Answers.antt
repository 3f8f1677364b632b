use Rattle.std.proofs.Common.{[]}
use Rattle.pv_accounts.specs.Edits.{lacks_end}
use Rattle.pv_sysusers.proofs.MemberLaws.{all_at}
use Rattle.pv_sysusers.proofs.members.MemberLines.of_lines.Goals as goal

pub push-requires-clause-whole : goal.push-requires-clause-whole
push-requires-clause-whole c = all_at lacks_end c.args.lines.now c.loop-line.line-index (record { ref_ptr = (0, 0); now = [] }) c.requires.whole c.loop-line-test.true
