use Rattle.std.proofs.Common.{sym, ap, ◌∙◌}
use Rattle.std.specs.Map.{lookup}
use Rattle.std.specs.Str.{bytes_eq}
use Rattle.pv_accounts.specs.Kinds.{test_of}
use Rattle.pv_sysusers.specs.Members.{lines_held}
use Rattle.pv_sysusers.proofs.AllowedLaws.{name_plain}
use Rattle.pv_sysusers.proofs.MemberLaws.{members_in, nowhere, on_ok, place_stays, whole_stays}
use Rattle.pv_sysusers.proofs.members.MemberLines.add.Goals as goal

pub returns-in-Some-clause-placed : goal.returns-in-Some-clause-placed
returns-in-Some-clause-placed c =
    on_ok c.lengthen.result _ _ (λ lines. place_stays (test_of c.args.kind) (members_in c.args.kind c.requires.members) c.args.member.0.now c.args.member.1.now (name_plain c.args.member.1.now c.requires.account)
    c.args.self.now c.lengthen.new.self c.requires.whole (λ name. ap (λ ps. lookup (λ k. bytes_eq name k.now) ps.entries) c.lengthen.ensures.places) lines c.requires.placed) c.lengthen.ensures.lines

pub returns-in-Some-clause-whole : goal.returns-in-Some-clause-whole
returns-in-Some-clause-whole c =
    on_ok c.lengthen.result _ _ (λ lines. whole_stays (test_of c.args.kind) c.args.member.0.now c.args.member.1.now (lines_held c.args.self.now) (lines_held c.lengthen.new.self) (name_plain c.args.member.1.now c.requires.account).ending c.requires.whole lines) c.lengthen.ensures.lines

pub returns-in-None-clause-lines : goal.returns-in-None-clause-lines
returns-in-None-clause-lines c =
    sym (nowhere (test_of c.args.kind) c.args.member.0.now c.args.member.1.now (lines_held c.args.self.now) (sym (c.in-None.ensures ∙ c.requires.placed c.args.member.0.now)))
