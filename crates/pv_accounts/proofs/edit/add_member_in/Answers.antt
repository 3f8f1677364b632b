use Rattle.std.proofs.Common.{IfOk, ◌≡◌, ◌+◌, ◌++◌, ◌∷◌, take, drop, [], sym, ap, ◌∙◌}
use Rattle.std.proofs.lemmas.List.{append-nil, take_rest, length-map}
use Rattle.pv_accounts.specs.Edits.{text_of, with_member}
use Rattle.std.specs.List.{position_or_len}
use Rattle.pv_accounts.specs.Kinds.{is_entry_named, test_of}
use Rattle.pv_accounts.specs.Files.{lines_of}
use Rattle.pv_accounts.proofs.Ends.{member_lines, if_ok_lines}
use Rattle.pv_accounts.proofs.Lines.{lines_longer, lines_same}
use Rattle.pv_path.proofs.Tests.{texts}
use Rattle.pv_accounts.proofs.edit.add_member_in.Goals as goal

pub returns-then-at-lines : goal.returns-then-at-lines
returns-then-at-lines c =
    let whole : texts c.as_slice-lines.result.now ≡ lines_of c.args.file.now = ap texts c.as_slice-lines.ensures.value ∙ c.in_ok-pieces.ensures in
    let first : c.place_of-at.result ≡ position_or_len (is_entry_named (test_of c.args.kind) c.args.group.now) (texts c.as_slice-lines.result.now) =
    c.place_of-at.ensures ∙ ap (position_or_len (is_entry_named (test_of c.args.kind) c.args.group.now)) (sym whole) in
    let e : texts (take c.place_of-at.result c.as_slice-lines.result.now) ++ c.as_slice.result.now ∷ texts (drop (c.place_of-at.result + 1) c.as_slice-lines.result.now) ≡ with_member (test_of c.args.kind) c.args.group.now c.args.user.now (lines_of c.args.file.now) =
    lines_longer (test_of c.args.kind) c.args.group.now c.args.user.now c.as_slice-lines.result.now c.place_of-at.result (record { ref_ptr = (0, 0); now = [] })
    c.as_slice.result.now first c.if-at-lines.true (c.as_slice.ensures.value ∙ c.in_ok-line.ensures)
    ∙ ap (with_member (test_of c.args.kind) c.args.group.now c.args.user.now) whole in
    let text : IfOk c.joined.result (λ v. v.items ≡ text_of (with_member (test_of c.args.kind) c.args.group.now c.args.user.now (lines_of c.args.file.now))) = rw (← e) (rw append-nil at (rw take_rest at c.joined.ensures)) in
    record { text = text; lines = λ h. if_ok_lines (λ v. v.items) c.joined.result (with_member (test_of c.args.kind) c.args.group.now c.args.user.now (lines_of c.args.file.now)) (member_lines (test_of c.args.kind) c.args.group.now c.args.user.now c.args.file.now h) text }

pub returns : goal.returns
returns c =
    let whole : texts c.as_slice-lines.result.now ≡ lines_of c.args.file.now = ap texts c.as_slice-lines.ensures.value ∙ c.in_ok-pieces.ensures in
    let text : IfOk c.from_slice.result (λ v. v.items ≡ text_of (with_member (test_of c.args.kind) c.args.group.now c.args.user.now (lines_of c.args.file.now))) = rw (← (lines_same (test_of c.args.kind) c.args.group.now c.args.user.now c.args.file.now (texts c.as_slice-lines.result.now) c.place_of-at.result whole c.place_of-at.ensures
    (simp length-map c.if-at-lines.false))) c.from_slice.ensures.items in
    record { text = text; lines = λ h. if_ok_lines (λ v. v.items) c.from_slice.result (with_member (test_of c.args.kind) c.args.group.now c.args.user.now (lines_of c.args.file.now)) (member_lines (test_of c.args.kind) c.args.group.now c.args.user.now c.args.file.now h) text }
