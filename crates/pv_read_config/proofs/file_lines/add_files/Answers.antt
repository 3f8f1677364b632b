use Rattle.std.proofs.Common.{◌+◌, drop}
use Rattle.pv_read_config.specs.Configuration.{reader_of, reading_of_file, reading_of_files}
use Rattle.pv_read_config.proofs.ReadingLaws.{underway_start, underway_more, underway_part, underway_messages, next_file}
use Rattle.pv_read_config.proofs.file_lines.add_files.Goals as goal

pub loop-path-init : goal.loop-path-init
loop-path-init g c = (underway_start _ _ _, c.requires)

pub returns-in_err-add_file-clause-part : goal.returns-in_err-add_file-clause-part
returns-in_err-add_file-clause-part g c =
    let state = g.T.Tree.state c.args.tree.now in
    let reader = reader_of (g.R.LineReader.line_read c.args.reader.now) (g.R.LineReader.messages_for c.args.reader.now) in
    let next = next_file state reader c.args.paths.now c.loop-path.path-index c.path-item.result c.loop-path-test.true c.path-item.is in
    let rest = reading_of_files state reader (drop (c.loop-path.path-index + 1) c.args.paths.now) in
    underway_part c.loop-path.invariant.0 (reading_of_file state reader c.path-item.result) rest c.add_file.new.messages next c.in_err-add_file.ensures.part

pub loop-path-preserved : goal.loop-path-preserved
loop-path-preserved g c =
    let reader = reader_of (g.R.LineReader.line_read c.args.reader.now) (g.R.LineReader.messages_for c.args.reader.now) in
    let next = next_file (g.T.Tree.state c.args.tree.now) reader c.args.paths.now c.loop-path.path-index c.path-item.result c.loop-path-test.true c.path-item.is in
    (underway_more c.loop-path.invariant.0 _ _ _ _ next c.in_ok-add_file.ensures.added, c.in_ok-add_file.ensures.whole)

pub returns-clause-part : goal.returns-clause-part
returns-clause-part g c = underway_messages c.loop-path.invariant.0
