-- Laws of reports: there are no more lines than were counted, and what is said of lines that were read is a report of them.
use Rattle.std.specs.Prelude.{◌≡◌, ◌↔◌, ℕ, ◌+◌, ◌<◌, ◌≤◌, ◌^◌, Bool, true, false, List, [], ◌∷◌, ◌++◌, length, Option, Some, None, if◌then◌else◌}
use Rattle.std.proofs.Common.{refl, ap, subst, ◌∙◌, arith, length-append}
use Rattle.pv_read_config.specs.Configuration.{Reader, Reading, content_at, followed, is_skipped, lines_in, nothing, reading_by, reading_of, reading_of_file, reading_of_files, reading_of_lines}
use Rattle.pv_read_config.specs.Known.{configured, known_of, tmpfiles_reader}
use Rattle.pv_layers.specs.Choices.{chosen}
use Rattle.pv_lines.specs.declared.line.Line.{Line}
use Rattle.pv_path.specs.Paths.{Path}
use Rattle.pv_path.specs.Printing.{printed_path}
use Rattle.pv_overlap.specs.Reporting.{ListsOverlaps, ListsReasons}
use Rattle.pv_overlap.specs.GivenMessages.{SaysRepeatable, report_messages}
use Rattle.pv_overlap.specs.declared.listing.Report.{Report}
use Rattle.pv_steps.specs.Trees.{Files}
use Rattle.pv_table.specs.Repeatable.{IsRepeatable}
use Rattle.pv_text.specs.Facts.{Values}
use Rattle.pv_text.specs.declared.place.Place.{Place}
use Rattle.pv_text.specs.declared.tool.Tool.TheVariants.{Tmpfiles}
use Rattle.provision_run.specs.Reported.{IsReportOf}

-- ---- lines are no more than are counted

module _ {L : Type 0} where
  abbrev AreCounted : Reading L → Type 0
  AreCounted a = length a.lines ≤ a.count

  at_most : (a : Reading L) (n m : ℕ) → length a.lines ≡ n → a.count ≡ m → n ≤ m → AreCounted a
  at_most a n m few counted within =
      let most : length a.lines ≤ a.count = omega (arith, few, counted, within) in
      most

  both_counted : (a b : Reading L) → AreCounted a → AreCounted b → AreCounted (followed a b)
  both_counted a b first second =
      let one : length a.lines ≤ a.count = first in
      let other : length b.lines ≤ b.count = second in
      let all : length (a.lines ++ b.lines) ≡ length a.lines + length b.lines = length-append a.lines b.lines in
      let most : length (a.lines ++ b.lines) ≤ a.count + b.count = omega (arith, one, other, all) in
      most

  read_counted : (read : Option L) (new_messages : List (List ℕ)) → AreCounted (reading_by read new_messages)
  read_counted (Some line) new_messages = at_most (reading_by (Some line) new_messages) 1 1 refl refl (omega arith)
  read_counted None new_messages = at_most (reading_by None new_messages) 0 1 refl refl (omega arith)

  module _ (reader : Reader L) where
    line_counted : (place : Place) (line : List ℕ) → AreCounted (reading_of reader place line)
    line_counted place line = by (is_skipped line)
      where
        by : (skipped : Bool) → AreCounted (if skipped then record { lines = []; invalid = false; messages = []; count = 1 } else reading_by (reader.line_read place line) (reader.messages_for place line))
        by true = at_most (record { lines = []; invalid = false; messages = []; count = 1 }) 0 1 refl refl (omega arith)
        by false = read_counted (reader.line_read place line) (reader.messages_for place line)

    lines_counted : (file : List ℕ) (number : ℕ) (lines : List (List ℕ)) → AreCounted (reading_of_lines reader file number lines)
    lines_counted file number [] = at_most nothing 0 0 refl refl (omega arith)
    lines_counted file number (line ∷ lines) =
        both_counted (reading_of reader (record { file = file; number = number }) line) (reading_of_lines reader file (number + 1) lines)
        (line_counted (record { file = file; number = number }) line) (lines_counted file (number + 1) lines)

    files_counted : (files : Files) (paths : List Path) → AreCounted (reading_of_files files reader paths)
    files_counted files [] = at_most nothing 0 0 refl refl (omega arith)
    files_counted files (path ∷ paths) =
        both_counted (reading_of_file files reader path) (reading_of_files files reader paths)
        (lines_counted (printed_path path) 1 (lines_in (content_at files path))) (files_counted files paths)

-- lines that were read are few where few were counted
pub few_lines : (t : Files) (facts : Values) (words : List (List ℕ)) (lines : List Line) → lines ≡ (configured t facts words).lines → (configured t facts words).count < 2 ^ 32 → length lines < 2 ^ 32
few_lines t facts words lines is few =
    let reader = tmpfiles_reader (known_of t facts) in
    let same : length lines ≡ length (configured t facts words).lines = ap (λ (ls : List Line). length ls) is in
    let counted : length (configured t facts words).lines ≤ (configured t facts words).count = files_counted reader t (chosen t Tmpfiles words).files in
    omega (arith, same, counted, few)

-- ---- what is said

-- a report of lines that were read
pub reported : (wanted lines : List Line) → lines ≡ wanted → (found : Report) → ListsOverlaps lines found.pairs → ListsReasons lines found.unrepeatable
    → (new_messages : List (List ℕ)) → new_messages ≡ report_messages lines found → SaysRepeatable new_messages ↔ IsRepeatable lines → IsReportOf wanted new_messages
reported wanted lines is found overlaps reasons new_messages stated last = record {
  report = found;
  overlaps = subst (λ (ls : List Line). ListsOverlaps ls found.pairs) is overlaps;
  reasons = subst (λ (ls : List Line). ListsReasons ls found.unrepeatable) is reasons;
  text = stated ∙ ap (λ (ls : List Line). report_messages ls found) is;
  verdict = subst (λ (ls : List Line). SaysRepeatable new_messages ↔ IsRepeatable ls) is last;
}
