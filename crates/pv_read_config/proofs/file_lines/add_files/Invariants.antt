use Rattle.std.proofs.Common.{drop}
use Rattle.std.specs.List.{AllByRecursion}
use Rattle.pv_read_config.specs.Configuration.{reader_of, reading_of_files}
use Rattle.pv_read_config.proofs.ReadingLaws.{Underway}
use Rattle.pv_read_config.proofs.file_lines.add_files.Given as goal

abbrev pub invariant-loop-path : goal.invariant-loop-path
invariant-loop-path g l =
    Underway (reading_of_files (g.T.Tree.state l.tree) (reader_of (g.R.LineReader.line_read l.reader) (g.R.LineReader.messages_for l.reader)) l.paths)
    (reading_of_files (g.T.Tree.state l.tree) (reader_of (g.R.LineReader.line_read l.reader) (g.R.LineReader.messages_for l.reader)) (drop l.path-index l.paths))
    l.fn.configuration l.configuration l.fn.messages l.messages
    × AllByRecursion (g.R.LineReader.is_whole l.reader) l.configuration.lines
