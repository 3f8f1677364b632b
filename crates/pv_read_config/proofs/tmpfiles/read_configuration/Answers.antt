use Rattle.std.proofs.Common.{◌<◌, ◌^◌, ℕ, ◌++◌, subst, ap, ◌∙◌}
use Rattle.pv_lines.specs.declared.line.Line.{Line}
use Rattle.pv_text.specs.GivenMessages.{MessagesPart}
use Rattle.pv_read_config.specs.Configuration.{Configured}
use Rattle.pv_read_config.proofs.KnownLaws.{configured_same}
use Rattle.pv_read_config.proofs.tmpfiles.read_configuration.Goals as goal

pub returns-in_err-configuration-clause-part : goal.returns-in_err-configuration-clause-part
returns-in_err-configuration-clause-part g c =
    let same = configured_same (g.T.Tree.state c.args.tree.now) c.args.facts.now c.in_ok-account_names.field-0.passwd c.in_ok-account_names.field-0.group c.args.words.now c.in_ok-account_names.ensures.passwd c.in_ok-account_names.ensures.group in
    subst (λ (w : Configured Line). MessagesPart w.messages c.args.messages.now c.read_lines.new.messages) same c.read_lines.ensures.part

pub returns-clause-lines : goal.returns-clause-lines
returns-clause-lines g c =
    let same = configured_same (g.T.Tree.state c.args.tree.now) c.args.facts.now c.in_ok-account_names.field-0.passwd c.in_ok-account_names.field-0.group c.args.words.now c.in_ok-account_names.ensures.passwd c.in_ok-account_names.ensures.group in
    c.in_ok-configuration.ensures.reads.lines ∙ ap (λ (w : Configured Line). w.lines) same

pub returns-clause-invalid : goal.returns-clause-invalid
returns-clause-invalid g c =
    let same = configured_same (g.T.Tree.state c.args.tree.now) c.args.facts.now c.in_ok-account_names.field-0.passwd c.in_ok-account_names.field-0.group c.args.words.now c.in_ok-account_names.ensures.passwd c.in_ok-account_names.ensures.group in
    c.in_ok-configuration.ensures.reads.invalid ∙ ap (λ (w : Configured Line). w.invalid) same

pub returns-clause-count : goal.returns-clause-count
returns-clause-count g c =
    let same = configured_same (g.T.Tree.state c.args.tree.now) c.args.facts.now c.in_ok-account_names.field-0.passwd c.in_ok-account_names.field-0.group c.args.words.now c.in_ok-account_names.ensures.passwd c.in_ok-account_names.ensures.group in
    c.in_ok-configuration.ensures.reads.count ∙ ap (λ (w : Configured Line). w.count) same

pub returns-clause-few : goal.returns-clause-few
returns-clause-few g c =
    let same = configured_same (g.T.Tree.state c.args.tree.now) c.args.facts.now c.in_ok-account_names.field-0.passwd c.in_ok-account_names.field-0.group c.args.words.now c.in_ok-account_names.ensures.passwd c.in_ok-account_names.ensures.group in
    subst (λ (n : ℕ). n < 2 ^ 32) (c.in_ok-configuration.ensures.reads.count ∙ ap (λ (w : Configured Line). w.count) same) c.in_ok-configuration.ensures.reads.few

pub returns-clause-new_messages : goal.returns-clause-new_messages
returns-clause-new_messages g c =
    let same = configured_same (g.T.Tree.state c.args.tree.now) c.args.facts.now c.in_ok-account_names.field-0.passwd c.in_ok-account_names.field-0.group c.args.words.now c.in_ok-account_names.ensures.passwd c.in_ok-account_names.ensures.group in
    c.in_ok-configuration.ensures.new_messages ∙ ap (λ (w : Configured Line). c.args.messages.now ++ w.messages) same

pub returns-clause-part : goal.returns-clause-part
returns-clause-part g c =
    let same = configured_same (g.T.Tree.state c.args.tree.now) c.args.facts.now c.in_ok-account_names.field-0.passwd c.in_ok-account_names.field-0.group c.args.words.now c.in_ok-account_names.ensures.passwd c.in_ok-account_names.ensures.group in
    subst (λ (w : Configured Line). MessagesPart w.messages c.args.messages.now c.read_lines.new.messages) same c.read_lines.ensures.part
