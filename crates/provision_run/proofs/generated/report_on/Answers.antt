use Rattle.std.proofs.Common.{◌≡◌, ◌∙◌, ◌↔◌, [], IfOk, List, subst}
use Rattle.pv_lines.specs.declared.line.Line.{Line}
use Rattle.pv_overlap.specs.Reporting.{ListsOverlaps, ListsReasons}
use Rattle.pv_table.specs.Repeatable.{IsRepeatable}
use Rattle.provision_run.proofs.GeneratedLaws.{read_lines}
use Rattle.provision_run.proofs.ReportLaws.{few_lines}
use Rattle.provision_run.proofs.generated.report_on.Goals as goal

pub report-requires : goal.report-requires
report-requires c = few_lines c.args.tree.now.files c.new-facts.result c.new-words.result c.of-lines.result (c.of-lines.ensures ∙ c.in_ok-read.ensures.lines) c.in_ok-read.ensures.few

pub returns-clause-overlaps : goal.returns-clause-overlaps
returns-clause-overlaps c =
    subst (λ (lines : List Line). IfOk c.report.result (λ report. ListsOverlaps lines report.pairs))
    (read_lines c.args.tree.now.files c.new-facts.result c.new-words.result c.of-lines.result (c.of-lines.ensures ∙ c.in_ok-read.ensures.lines) c.new-facts.ensures c.new-words.ensures) c.report.ensures.overlaps

pub returns-clause-reasons : goal.returns-clause-reasons
returns-clause-reasons c =
    subst (λ (lines : List Line). IfOk c.report.result (λ report. ListsReasons lines report.unrepeatable))
    (read_lines c.args.tree.now.files c.new-facts.result c.new-words.result c.of-lines.result (c.of-lines.ensures ∙ c.in_ok-read.ensures.lines) c.new-facts.ensures c.new-words.ensures) c.report.ensures.reasons

pub returns-clause-verdict : goal.returns-clause-verdict
returns-clause-verdict c =
    subst (λ (lines : List Line). IfOk c.report.result (λ report. (report.unrepeatable ≡ []) ↔ IsRepeatable lines))
    (read_lines c.args.tree.now.files c.new-facts.result c.new-words.result c.of-lines.result (c.of-lines.ensures ∙ c.in_ok-read.ensures.lines) c.new-facts.ensures c.new-words.ensures) c.report.ensures.verdict
