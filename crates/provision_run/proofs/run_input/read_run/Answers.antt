use Rattle.std.proofs.Common.{◌++◌, ◌∙◌, ℕ, List, ap, append_assoc, sym, subst}
use Rattle.std.specs.List.{AllByRecursion}
use Rattle.pv_text.specs.GivenMessages.{MessagesPart}
use Rattle.pv_lines.specs.declared.line.Line.{Line}
use Rattle.pv_lines.specs.Lines.{IsLine}
use Rattle.pv_read_config.specs.Known.{configured}
use Rattle.provision_run.specs.Phased.{listed_messages}
use Rattle.pv_text.proofs.MessagesLaws.{messages_first, messages_then}
use Rattle.provision_run.proofs.run_input.read_run.Goals as goal
use Rattle.pv_laws.proofs.Actives.{all_active}

pub returns-in_err-read-clause-part : goal.returns-in_err-read-clause-part
returns-in_err-read-clause-part g c =
    let read = configured (g.T.Tree.state c.args.tree.now) c.args.facts.now c.args.options.now.words in
    messages_first read.messages (listed_messages c.args.options.now read.lines) _ _ c.read_configuration.ensures.part

pub returns-in_err-table-clause-part : goal.returns-in_err-table-clause-part
returns-in_err-table-clause-part g c =
    let read = configured (g.T.Tree.state c.args.tree.now) c.args.facts.now c.args.options.now.words in
    messages_then read.messages (listed_messages c.args.options.now read.lines) c.args.messages.now c.read_configuration.new.messages c.build_active.new.messages c.in_ok-read.ensures.new_messages
    (subst (λ (lines : List Line). MessagesPart (listed_messages c.args.options.now lines) c.read_configuration.new.messages c.build_active.new.messages) (c.of.ensures ∙ c.in_ok-read.ensures.lines) c.build_active.ensures.part)

pub returns-clause-whole : goal.returns-clause-whole
returns-clause-whole g c =
    subst (AllByRecursion IsLine) (sym c.in_ok-table.ensures.table)
    (all_active IsLine c.args.options.now.boot c.args.options.now.prefix c.args.options.now.exclude_prefix c.of.result (subst (AllByRecursion IsLine) (sym c.of.ensures) c.in_ok-read.ensures.whole))

pub returns-clause-part : goal.returns-clause-part
returns-clause-part g c =
    let read = configured (g.T.Tree.state c.args.tree.now) c.args.facts.now c.args.options.now.words in
    messages_then read.messages (listed_messages c.args.options.now read.lines) c.args.messages.now c.read_configuration.new.messages c.build_active.new.messages c.in_ok-read.ensures.new_messages
    (subst (λ (lines : List Line). MessagesPart (listed_messages c.args.options.now lines) c.read_configuration.new.messages c.build_active.new.messages) (c.of.ensures ∙ c.in_ok-read.ensures.lines) c.build_active.ensures.part)

pub returns-clause-new_messages : goal.returns-clause-new_messages
returns-clause-new_messages g c =
    let options = c.args.options.now in
    let read = configured (g.T.Tree.state c.args.tree.now) c.args.facts.now options.words in
    c.in_ok-table.ensures.new_messages ∙ ap (λ (lines : List Line). c.read_configuration.new.messages ++ listed_messages options lines) (c.of.ensures ∙ c.in_ok-read.ensures.lines)
    ∙ ap (λ (new_messages : List (List ℕ)). new_messages ++ listed_messages options read.lines) c.in_ok-read.ensures.new_messages ∙ append_assoc c.args.messages.now read.messages (listed_messages options read.lines)
