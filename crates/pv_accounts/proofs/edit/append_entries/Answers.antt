use Rattle.std.proofs.Common.{◌≡◌, [], ap, ◌∙◌}
use Rattle.std.proofs.lemmas.List.{take_rest}
use Rattle.pv_accounts.specs.Edits.{with_entries}
use Rattle.pv_accounts.specs.Files.{lines_of}
use Rattle.pv_accounts.proofs.Lines.{lines_before, lines_after, appended_some}
use Rattle.pv_path.proofs.Tests.{texts}
use Rattle.pv_accounts.proofs.edit.append_entries.Goals as goal

pub returns-then-at-lines : goal.returns-then-at-lines
returns-then-at-lines c =
    let whole : texts c.as_slice-lines.result.now ≡ lines_of c.args.file.now = ap texts c.as_slice-lines.ensures.value ∙ c.in_ok-pieces.ensures in
    let e = lines_before (texts c.args.entries.now) c.as_slice-lines.result.now c.entry_place-at.result (record { ref_ptr = (0, 0); now = [] }) c.entry_place-at.ensures c.if-at-lines.true
    ∙ ap (with_entries (texts c.args.entries.now)) whole in
    let some = appended_some c.args.entries.now c.args.file.now c.is_empty.result c.is_empty.ensures c.if-is_empty.false in
    rw (some, ← e) (rw take_rest at c.joined.ensures)

pub returns : goal.returns
returns c =
    let whole : texts c.as_slice-lines.result.now ≡ lines_of c.args.file.now = ap texts c.as_slice-lines.ensures.value ∙ c.in_ok-pieces.ensures in
    let e = lines_after (texts c.args.entries.now) c.as_slice-lines.result.now c.entry_place-at.result c.entry_place-at.ensures c.if-at-lines.false
    ∙ ap (with_entries (texts c.args.entries.now)) whole in
    let some = appended_some c.args.entries.now c.args.file.now c.is_empty.result c.is_empty.ensures c.if-is_empty.false in
    rw (some, ← e) c.joined-else-at-lines.ensures
