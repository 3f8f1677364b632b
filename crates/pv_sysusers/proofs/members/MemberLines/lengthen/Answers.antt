use Rattle.std.proofs.Common.{◌<◌, length, arith, ap, ◌∙◌}
use Rattle.pv_accounts.specs.Edits.{text_of, with_member}
use Rattle.pv_accounts.specs.Files.{lines_of}
use Rattle.pv_accounts.specs.Kinds.{test_of}
use Rattle.pv_sysusers.specs.Members.{lines_held}
use Rattle.pv_sysusers.proofs.MemberLaws.{IsHere, held_length, held_set, here}
use Rattle.pv_sysusers.proofs.members.MemberLines.lengthen.Goals as goal

pub index-requires : goal.index-requires
index-requires c =
    let found : IsHere (test_of c.args.kind) c.args.member.0.now c.args.member.1.now (lines_held c.args.self.now) c.args.at = here (test_of c.args.kind) c.args.member.0.now c.args.member.1.now (lines_held c.args.self.now) c.args.at c.requires.place in
    let below : c.args.at < length (lines_held c.args.self.now) = found.within in
    omega (arith, below, held_length (λ line. line.items) c.args.self.now.lines.items, c.args.self.now.lines.ok.0)

pub index_mut-requires : goal.index_mut-requires
index_mut-requires c =
    let found : IsHere (test_of c.args.kind) c.args.member.0.now c.args.member.1.now (lines_held c.args.self.now) c.args.at = here (test_of c.args.kind) c.args.member.0.now c.args.member.1.now (lines_held c.args.self.now) c.args.at c.requires.place in
    let below : c.args.at < length (lines_held c.args.self.now) = found.within in
    omega (arith, below, held_length (λ line. line.items) c.args.self.now.lines.items, c.args.self.now.lines.ok.0)

pub returns-clause-lines : goal.returns-clause-lines
returns-clause-lines c =
    held_set (λ line. line.items) (test_of c.args.kind) c.args.member.0.now c.args.member.1.now c.args.self.now.lines.items c.args.at c.index.result.now c.in_ok-line.line
    (here (test_of c.args.kind) c.args.member.0.now c.args.member.1.now (lines_held c.args.self.now) c.args.at c.requires.place) c.requires.whole
    (c.in_ok-line.ensures.text ∙ ap (λ text. text_of (with_member (test_of c.args.kind) c.args.member.0.now c.args.member.1.now (lines_of text))) (c.deref.ensures.value ∙ ap (λ line. line.items) c.index.ensures))
