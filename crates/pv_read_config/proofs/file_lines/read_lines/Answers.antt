use Rattle.std.proofs.Common.{◌≡◌, List, ◌++◌, subst, ap, ◌∙◌}
use Rattle.pv_layers.specs.Choices.{chosen}
use Rattle.pv_text.specs.GivenMessages.{MessagesPart}
use Rattle.pv_path.specs.Paths.{Path}
use Rattle.pv_read_config.specs.Configuration.{reader_of, reading_of_files}
use Rattle.pv_text.proofs.MessagesLaws.{messages_first, messages_then, messages_whole}
use Rattle.pv_read_config.proofs.file_lines.read_lines.Goals as goal

pub returns-in_err-chosen-clause-part : goal.returns-in_err-chosen-clause-part
returns-in_err-chosen-clause-part g c =
    let reader = reader_of (g.R.LineReader.line_read c.args.reader.now) (g.R.LineReader.messages_for c.args.reader.now) in
    let choice = chosen (g.T.Tree.state c.args.tree.now) c.args.tool c.args.words.now in
    let reading = reading_of_files (g.T.Tree.state c.args.tree.now) reader choice.files in
    messages_first choice.messages reading.messages c.args.messages.now c.chosen_files.new.messages c.in_err-chosen.ensures.part

pub returns-in_err-add_files-clause-part : goal.returns-in_err-add_files-clause-part
returns-in_err-add_files-clause-part g c =
    let reader = reader_of (g.R.LineReader.line_read c.args.reader.now) (g.R.LineReader.messages_for c.args.reader.now) in
    let choice = chosen (g.T.Tree.state c.args.tree.now) c.args.tool c.args.words.now in
    let readings = reading_of_files (g.T.Tree.state c.args.tree.now) reader in
    let part = subst (λ (paths : List Path). MessagesPart (readings paths).messages c.chosen_files.new.messages c.add_files.new.messages) (c.as_slice-files.ensures ∙ c.in_ok-chosen.ensures.files) c.in_err-add_files.ensures.part in
    messages_then choice.messages (readings choice.files).messages c.args.messages.now c.chosen_files.new.messages c.add_files.new.messages c.in_ok-chosen.ensures.new_messages part

pub returns-clause-part : goal.returns-clause-part
returns-clause-part g c =
    let reader = reader_of (g.R.LineReader.line_read c.args.reader.now) (g.R.LineReader.messages_for c.args.reader.now) in
    let choice = chosen (g.T.Tree.state c.args.tree.now) c.args.tool c.args.words.now in
    let readings = reading_of_files (g.T.Tree.state c.args.tree.now) reader in
    let stated : c.add_files.new.messages ≡ c.chosen_files.new.messages ++ (readings choice.files).messages
    = c.in_ok-add_files.ensures.added.messages
    ∙ ap (λ (paths : List Path). c.chosen_files.new.messages ++ (readings paths).messages) (c.as_slice-files.ensures ∙ c.in_ok-chosen.ensures.files) in
    messages_then choice.messages (readings choice.files).messages c.args.messages.now c.chosen_files.new.messages c.add_files.new.messages c.in_ok-chosen.ensures.new_messages
    (messages_whole (readings choice.files).messages c.chosen_files.new.messages c.add_files.new.messages stated)
