use Rattle.std.proofs.Common.{◌≡◌, ◌+◌, length}
use Rattle.std.specs.List.{AllByRecursion}
use Rattle.pv_read_config.specs.Configuration.{lines_in, reader_of, reading_of_lines}
use Rattle.pv_read_config.proofs.ReadingLaws.{Underway}
use Rattle.pv_read_config.proofs.file_lines.add_lines.Given as goal

abbrev pub invariant-loop-rest : goal.invariant-loop-rest
invariant-loop-rest g l =
    (l.place.file ≡ l.fn.file)
    × Underway (reading_of_lines (reader_of (g.R.LineReader.line_read l.reader) (g.R.LineReader.messages_for l.reader)) l.fn.file 1 (lines_in l.content))
    (reading_of_lines (reader_of (g.R.LineReader.line_read l.reader) (g.R.LineReader.messages_for l.reader)) l.fn.file (l.place.number + 1) (lines_in l.rest))
    l.fn.configuration l.configuration l.fn.messages l.messages
    × AllByRecursion (g.R.LineReader.is_whole l.reader) l.configuration.lines

abbrev pub decreases-loop-rest : goal.decreases-loop-rest
decreases-loop-rest g l = length l.rest
