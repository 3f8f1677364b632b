use Rattle.std.proofs.Common.{ap, codes, ◌++◌, ◌≡◌, ◌<◌, ◌^◌, List, ℕ, true, sym, subst, arith}
use Rattle.pv_text.specs.Lines.{is_line}
use Rattle.pv_text.specs.GivenMessages.{message_text_at}
use Rattle.pv_text.specs.declared.place.Place.{Place}
use Rattle.pv_text.proofs.Characters.{one_line-new_messages}
use Rattle.pv_text.proofs.messages.line_at.Goals as goal

pub returns-clause-line : goal.returns-clause-line
returns-clause-line c =
    let place : Place = record { file = c.args.file.now; number = c.args.number } in
    let small : c.args.number < 2 ^ 64 = omega arith in
    let new_messages : c.extend_from_slice-3.new.self.items ≡ message_text_at place c.args.text.now =
    rw (c.in_ok-extend_from_slice-3.ensures.items, c.in_ok-extend_from_slice-2.ensures.items, c.in_ok-extend_from_slice.ensures.items, c.in_ok-push.ensures.items, c.in_ok-line.ensures.items, c.as_slice.ensures.value, c.as_bytes.ensures.value)
    (ap (λ (digits : List ℕ). c.args.file.now ++ codes ":" ++ digits ++ codes ": " ++ c.args.text.now) c.in_ok-number.ensures.ok) in
    subst (λ (t : List ℕ). is_line t ≡ true) (sym new_messages) (one_line-new_messages place c.args.text.now c.as_slice.ensures.line small c.requires)
