use Rattle.std.proofs.Common.{IfOk, ◌≡◌}
use Rattle.pv_accounts.specs.Edits.{text_of, with_entry}
use Rattle.pv_accounts.specs.Files.{lines_of}
use Rattle.pv_accounts.proofs.Ends.{entry_lines, if_ok_lines}
use Rattle.pv_accounts.proofs.edit.append_entry.Goals as goal

pub returns : goal.returns
returns c =
    let text : IfOk c.append_entries.result (λ v. v.items ≡ text_of (with_entry c.args.entry.now (lines_of c.args.file.now))) = c.append_entries.ensures in
    record { text = text; lines = λ h. if_ok_lines (λ v. v.items) c.append_entries.result (with_entry c.args.entry.now (lines_of c.args.file.now)) (entry_lines c.args.entry.now c.args.file.now h) text }
