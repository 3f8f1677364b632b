use Rattle.std.proofs.Common.{Some, None}
use Rattle.pv_accounts.specs.Kinds.{test_of}
use Rattle.pv_sysusers.proofs.MemberLaws.{named_of}
use Rattle.pv_sysusers.proofs.members.name_in.Goals as goal

pub returns-in_err-_entry : goal.returns-in_err-_entry
returns-in_err-_entry c = λ name.
    rw c.from_residual-in_err-_entry.ensures
    (named_of (test_of c.args.kind) c.args.line.now c.in_ok-name.name.now _ c.in_ok-name.ensures.parts c.requires.whole None c.in_err-_entry.ensures.line name)

pub returns : goal.returns
returns c = λ name.
    named_of (test_of c.args.kind) c.args.line.now c.in_ok-name.name.now _ c.in_ok-name.ensures.parts c.requires.whole (Some c.in_ok-_entry._entry.now) c.in_ok-_entry.ensures.line name
