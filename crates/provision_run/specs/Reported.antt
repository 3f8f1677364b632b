-- A report on the lines of a configuration (`--report`), which does no step (this project's own). It considers all
-- lines that were read, whatever the filters are.
use Rattle.std.specs.Prelude.{◌≡◌, ◌↔◌, ◌⊎◌, ℕ, List, ◌++◌}
use Rattle.pv_read_config.specs.Known.{configured}
use Rattle.pv_lines.specs.declared.line.Line.{Line}
use Rattle.pv_overlap.specs.Reporting.{ListsOverlaps, ListsReasons}
use Rattle.pv_overlap.specs.GivenMessages.{SaysRepeatable, report_messages}
use Rattle.pv_overlap.specs.declared.listing.Report.{Report}
use Rattle.pv_steps.specs.Trees.{Files}
use Rattle.pv_table.specs.Repeatable.{IsRepeatable}
use Rattle.pv_text.specs.Facts.{Values}
use Rattle.pv_text.specs.GivenMessages.{MessagesPart}
use Rattle.pv_words.specs.declared.options.Options.{Options}
use Rattle.provision_run.specs.declared.ending.RunEnd.{RunEnd}
use Rattle.provision_run.specs.Ending.{end_of}

-- The messages of a report on lines. They are exactly the overlaps and the hazards, and then the verdict, which is
-- `repeatable` exactly if no line has a hazard.
pub record IsReportOf (lines : List Line) (new_messages : List (List ℕ)) : Type 0 where
  pub report : Report
  pub overlaps : ListsOverlaps lines report.pairs
  pub reasons : ListsReasons lines report.unrepeatable
  pub text : new_messages ≡ report_messages lines report
  pub verdict : SaysRepeatable new_messages ↔ IsRepeatable lines

-- The messages about the configuration and those of the report are added to earlier messages.
abbrev pub HasReported : Options → Values → Files → List (List ℕ) → List (List ℕ) → Type 0
HasReported options facts t old new =
    (new_messages : List (List ℕ)) × (IsReportOf (configured t facts options.words).lines new_messages × (new ≡ old ++ (configured t facts options.words).messages ++ new_messages))

-- A prefix of the messages about the configuration, or of all messages, is added to earlier messages.
abbrev pub HasReportedPart : Options → Values → Files → List (List ℕ) → List (List ℕ) → Type 0
HasReportedPart options facts t old new =
    MessagesPart (configured t facts options.words).messages old new
    ⊎ ((new_messages : List (List ℕ)) × (IsReportOf (configured t facts options.words).lines new_messages × MessagesPart ((configured t facts options.words).messages ++ new_messages) old new))

-- How a report ends.
abbrev pub report_end : Options → Values → Files → RunEnd
report_end options facts t = end_of (configured t facts options.words).missing (configured t facts options.words).invalid
