use Rattle.std.proofs.Common.{ap, ◌∙◌}
use Rattle.pv_sysusers.proofs.MemberLaws.{text_written}
use Rattle.pv_sysusers.proofs.members.joined.Goals as goal

pub returns-in_ok-add_lines-in-len1-up : goal.returns-in_ok-add_lines-in-len1-up
returns-in_ok-add_lines-in-len1-up c =
    text_written (λ line. line.items) c.in_ok-text-in-len1-up.text.items c.add_lines.new.text.items c.args.lines.now c.first-item.result c.in-len1-up.len_at_least
    (c.in_ok-text-in-len1-up.ensures.items ∙ c.deref.ensures.value ∙ ap (λ line. line.items) c.first-item.is) c.in_ok-add_lines-in-len1-up.ensures
