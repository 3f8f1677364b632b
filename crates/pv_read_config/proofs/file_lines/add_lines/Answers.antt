use Rattle.std.proofs.Common.{◌≡◌, ◌+◌, refl}
use Rattle.pv_read_config.specs.Configuration.{lines_in, reader_of, reading_of, reading_of_lines}
use Rattle.pv_read_config.proofs.ReadingLaws.{underway_start, underway_more, underway_part, underway_messages, next_line}
use Rattle.pv_read_config.proofs.file_lines.add_lines.Goals as goal

pub loop-rest-init : goal.loop-rest-init
loop-rest-init g c = (refl, underway_start _ _ _, c.requires)

pub returns-in_err-place-clause-part : goal.returns-in_err-place-clause-part
returns-in_err-place-clause-part g c = underway_messages c.loop-rest.invariant.1

pub returns-in_err-add_line-clause-part : goal.returns-in_err-add_line-clause-part
returns-in_err-add_line-clause-part g c =
    let reader = reader_of (g.R.LineReader.line_read c.args.reader.now) (g.R.LineReader.messages_for c.args.reader.now) in
    let one : c.in_ok-place.field-0 ≡ c.loop-rest.place.number + 1 = c.in_ok-place.ensures.next in
    let next = next_line reader c.args.file c.loop-rest.place.file c.loop-rest.place.number c.in_ok-place.field-0 c.loop-rest.rest.now c.first_line.result.0.now c.first_line.result.1.now c.loop-rest.invariant.0 one c.first_line.ensures.cut in
    underway_part c.loop-rest.invariant.1 (reading_of reader (record { file = c.loop-rest.place.file; number = c.in_ok-place.field-0 }) c.first_line.result.0.now)
    (reading_of_lines reader c.args.file (c.in_ok-place.field-0 + 1) (lines_in c.first_line.result.1.now)) c.add_line.new.messages next c.in_err-add_line.ensures.part

pub loop-rest-preserved : goal.loop-rest-preserved
loop-rest-preserved g c =
    let reader = reader_of (g.R.LineReader.line_read c.args.reader.now) (g.R.LineReader.messages_for c.args.reader.now) in
    let one : c.in_ok-place.field-0 ≡ c.loop-rest.place.number + 1 = c.in_ok-place.ensures.next in
    let next = next_line reader c.args.file c.loop-rest.place.file c.loop-rest.place.number c.in_ok-place.field-0 c.loop-rest.rest.now c.first_line.result.0.now c.first_line.result.1.now c.loop-rest.invariant.0 one c.first_line.ensures.cut in
    (c.loop-rest.invariant.0, underway_more c.loop-rest.invariant.1 _ _ _ _ next c.in_ok-add_line.ensures.added, c.in_ok-add_line.ensures.whole)

pub returns-clause-part : goal.returns-clause-part
returns-clause-part g c = underway_messages c.loop-rest.invariant.1
