use Rattle.std.proofs.Common.{◌≡◌, ◌++◌, ◌∷◌, [], length, refl, sym, ◌∙◌}
use Rattle.std.proofs.lemmas.List.{map-append}
use Rattle.pv_accounts.specs.Kinds.{test_of}
use Rattle.pv_sysusers.specs.Members.{lines_held, place_found}
use Rattle.pv_sysusers.proofs.MemberLaws.{held_length, placed_more}
use Rattle.pv_sysusers.proofs.members.MemberLines.push.Goals as goal

pub returns-clause-placed : goal.returns-clause-placed
returns-clause-placed c =
    let lines : lines_held (record { lines = c.push.new.self; places = c.note_line.new.self.places }) ≡ lines_held c.args.self.now ++ c.args.line.now ∷ [] =
    rw (c.in_ok-push.ensures.items, map-append, c.in_ok-note_line.ensures.lines, c.in_ok-from_slice.ensures.items) refl in
    let at : c.len-at.result ≡ length (lines_held c.args.self.now) = c.len-at.ensures ∙ c.args.self.now.lines.ok.0 ∙ sym (held_length (λ line. line.items) c.args.self.now.lines.items) in
    placed_more (test_of c.args.kind) (place_found c.args.self.now) (place_found c.note_line.new.self) (lines_held c.args.self.now)
    (lines_held (record { lines = c.push.new.self; places = c.note_line.new.self.places })) c.args.line.now c.len-at.result at lines c.requires.placed c.in_ok-note_line.ensures.places
