use Rattle.std.proofs.Common.{sym, ◌∙◌}
use Rattle.pv_read_config.specs.Configuration.{reader_of}
use Rattle.pv_read_config.proofs.ReadingLaws.{line_part}
use Rattle.pv_read_config.proofs.file_lines.add_line.Goals as goal

pub returns-in_err-push-in-Some-clause-part : goal.returns-in_err-push-in-Some-clause-part
returns-in_err-push-in-Some-clause-part g c =
    line_part (reader_of (g.R.LineReader.line_read c.args.reader.now) (g.R.LineReader.messages_for c.args.reader.now)) c.args.place.now c.args.line.now c.args.messages.now c.read.new.messages
    (sym c.is_skipped.ensures ∙ c.if-is_skipped.false) c.in_ok-line.ensures.new_messages

pub returns-in_ok-push-in-Some-clause-part : goal.returns-in_ok-push-in-Some-clause-part
returns-in_ok-push-in-Some-clause-part g c =
    line_part (reader_of (g.R.LineReader.line_read c.args.reader.now) (g.R.LineReader.messages_for c.args.reader.now)) c.args.place.now c.args.line.now c.args.messages.now c.read.new.messages
    (sym c.is_skipped.ensures ∙ c.if-is_skipped.false) c.in_ok-line.ensures.new_messages

pub returns-in-None-clause-part : goal.returns-in-None-clause-part
returns-in-None-clause-part g c =
    line_part (reader_of (g.R.LineReader.line_read c.args.reader.now) (g.R.LineReader.messages_for c.args.reader.now)) c.args.place.now c.args.line.now c.args.messages.now c.read.new.messages
    (sym c.is_skipped.ensures ∙ c.if-is_skipped.false) c.in_ok-line.ensures.new_messages
