use Rattle.std.proofs.Common.{◌≡◌, ◌++◌, ◌∙◌, ℕ, List, ap, inl, inr}
use Rattle.pv_read_config.specs.Known.{configured}
use Rattle.pv_overlap.specs.GivenMessages.{report_messages}
use Rattle.provision_run.proofs.ReportLaws.{few_lines, reported}
use Rattle.pv_text.proofs.MessagesLaws.{messages_then, messages_whole}
use Rattle.provision_run.proofs.reporting.report_run.Goals as goal

pub report-requires : goal.report-requires
report-requires g c =
    few_lines (g.T.Tree.state c.args.tree.now) c.args.facts.now c.args.options.now.words c.of-lines.result (c.of-lines.ensures ∙ c.in_ok-read.ensures.lines) c.in_ok-read.ensures.few

pub returns-in_err-read-clause-part : goal.returns-in_err-read-clause-part
returns-in_err-read-clause-part g c = inl c.read_configuration.ensures.part

pub returns-in_err-found-clause-part : goal.returns-in_err-found-clause-part
returns-in_err-found-clause-part g c =
    let read = configured (g.T.Tree.state c.args.tree.now) c.args.facts.now c.args.options.now.words in
    inl (messages_whole read.messages c.args.messages.now c.read_configuration.new.messages c.in_ok-read.ensures.new_messages)

pub returns-in_err-say_report-clause-part : goal.returns-in_err-say_report-clause-part
returns-in_err-say_report-clause-part g c =
    let read = configured (g.T.Tree.state c.args.tree.now) c.args.facts.now c.args.options.now.words in
    inl (messages_whole read.messages c.args.messages.now c.read_configuration.new.messages c.in_ok-read.ensures.new_messages)

pub returns-in_err-say_all-clause-part : goal.returns-in_err-say_all-clause-part
returns-in_err-say_all-clause-part g c =
    let read = configured (g.T.Tree.state c.args.tree.now) c.args.facts.now c.args.options.now.words in
    let lines = c.of-lines.result in
    let found = c.in_ok-found.found in
    let new_messages = c.say_report.new.messages in
    let stated : new_messages ≡ report_messages lines found = c.in_ok-say_report.ensures.new_messages ∙ ap (λ (old : List (List ℕ)). old ++ report_messages lines found) c.new-new_messages.ensures in
    inr (
      new_messages,
      (
        reported read.lines lines (c.of-lines.ensures ∙ c.in_ok-read.ensures.lines) found c.in_ok-found.ensures.overlaps c.in_ok-found.ensures.reasons new_messages stated (c.in_ok-say_report.ensures.verdict c.in_ok-found.ensures.reasons),
        messages_then read.messages new_messages c.args.messages.now c.read_configuration.new.messages c.say_all.new.messages c.in_ok-read.ensures.new_messages c.say_all.ensures.part,
      ),
    )

pub returns-clause-part : goal.returns-clause-part
returns-clause-part g c =
    let read = configured (g.T.Tree.state c.args.tree.now) c.args.facts.now c.args.options.now.words in
    let lines = c.of-lines.result in
    let found = c.in_ok-found.found in
    let new_messages = c.say_report.new.messages in
    let stated : new_messages ≡ report_messages lines found = c.in_ok-say_report.ensures.new_messages ∙ ap (λ (old : List (List ℕ)). old ++ report_messages lines found) c.new-new_messages.ensures in
    inr (
      new_messages,
      (
        reported read.lines lines (c.of-lines.ensures ∙ c.in_ok-read.ensures.lines) found c.in_ok-found.ensures.overlaps c.in_ok-found.ensures.reasons new_messages stated (c.in_ok-say_report.ensures.verdict c.in_ok-found.ensures.reasons),
        messages_then read.messages new_messages c.args.messages.now c.read_configuration.new.messages c.say_all.new.messages c.in_ok-read.ensures.new_messages c.say_all.ensures.part,
      ),
    )

pub returns-clause-new_messages : goal.returns-clause-new_messages
returns-clause-new_messages g c =
    let read = configured (g.T.Tree.state c.args.tree.now) c.args.facts.now c.args.options.now.words in
    let lines = c.of-lines.result in
    let found = c.in_ok-found.found in
    let new_messages = c.say_report.new.messages in
    let stated : new_messages ≡ report_messages lines found = c.in_ok-say_report.ensures.new_messages ∙ ap (λ (old : List (List ℕ)). old ++ report_messages lines found) c.new-new_messages.ensures in (
      new_messages,
      (
        reported read.lines lines (c.of-lines.ensures ∙ c.in_ok-read.ensures.lines) found c.in_ok-found.ensures.overlaps c.in_ok-found.ensures.reasons new_messages stated (c.in_ok-say_report.ensures.verdict c.in_ok-found.ensures.reasons),
        c.in_ok-say_all.ensures.ok ∙ ap (λ (old : List (List ℕ)). old ++ new_messages) c.in_ok-read.ensures.new_messages,
      ),
    )
