use Rattle.std.proofs.Common.{sym}
use Rattle.pv_accounts.proofs.Lines.{text_inserted}
use Rattle.pv_accounts.proofs.edit.joined.Goals as goal

pub returns : goal.returns
returns c =
    rw (c.in_ok-add_begun.ensures, c.in_ok-extend_from_slice.ensures.items, c.in_ok-add_ended-2.ensures, c.in_ok-add_ended.ensures, c.new-text.ensures.items)
    (sym (text_inserted c.args.front.now c.args.entries.now c.args.line.now c.args.back.now))
