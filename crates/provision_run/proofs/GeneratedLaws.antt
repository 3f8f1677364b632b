-- Laws of a run over a generated tree: the lines that are read, and the three messages.
use Rattle.std.proofs.Common.{◌≡◌, ◌↔◌, ◌∙◌, ℕ, List, [], ◌∷◌, ◌++◌, length, ap, sym, append_assoc, append-nil}
use Rattle.std.specs.FinMap as fin
use Rattle.pv_read_config.specs.Known.{configured}
use Rattle.pv_lines.specs.declared.line.Line.{Line}
use Rattle.pv_overlap.specs.Reporting.{ListsOverlaps, ListsReasons}
use Rattle.pv_overlap.specs.GivenMessages.{verdict}
use Rattle.pv_overlap.specs.declared.listing.Report.{Report}
use Rattle.pv_steps.specs.Trees.{Files}
use Rattle.pv_table.specs.Repeatable.{IsRepeatable}
use Rattle.pv_text.specs.Facts.{Values}
use Rattle.provision_run.specs.Generated.{IsGeneratedOutput, create_alone, created, created_text, generated_moment, generated_text, lines_in, no_facts, overlaps_text}
use Rattle.provision_run.specs.Messages.{message, messages_text}
use Rattle.provision_run.specs.Tasks.{task_of}
use Rattle.provision_run.specs.Whole.{HasMessagesBy}

-- the lines that are read without facts and file words
pub read_lines : (t : Files) (facts : Values) (words : List (List ℕ)) (lines : List Line) → lines ≡ (configured t facts words).lines → facts ≡ no_facts → words ≡ [] → lines ≡ lines_in t
read_lines t facts words lines read known none =
    read ∙ ap (λ (f : Values). (configured t f words).lines) known ∙ ap (λ (w : List (List ℕ)). (configured t no_facts w).lines) none

-- three messages, one after the other
three_messages : (a b c one two three : List ℕ) → one ≡ [] ++ message a → two ≡ one ++ message b → three ≡ two ++ message c → three ≡ messages_text (a ∷ b ∷ c ∷ [])
three_messages a b c one two three first second third =
    third ∙ ap (λ (o : List ℕ). o ++ message c) (second ∙ ap (λ (o : List ℕ). o ++ message b) first)
    ∙ append_assoc (message a) (message b) (message c)
    ∙ ap (λ (o : List ℕ). message a ++ (message b ++ o)) (sym (append-nil (message c)))

-- the same of texts that are these
pub messages_of : (a b c first second third one two three : List ℕ) → first ≡ a → second ≡ b → third ≡ c
    → one ≡ [] ++ message first → two ≡ one ++ message second → three ≡ two ++ message third → three ≡ messages_text (a ∷ b ∷ c ∷ [])
messages_of a b c first second third one two three is_a is_b is_c add_a add_b add_c =
    three_messages first second third one two three add_a add_b add_c
    ∙ ap (λ (x : List ℕ). messages_text (x ∷ second ∷ third ∷ [])) is_a
    ∙ ap (λ (x : List ℕ). messages_text (a ∷ x ∷ third ∷ [])) is_b
    ∙ ap (λ (x : List ℕ). messages_text (a ∷ b ∷ x ∷ [])) is_c

-- what they tell
pub stated : (lines : ℕ) (t u : Files) (before after count : ℕ) (messages : List (List ℕ)) (report : Report) (text : List ℕ)
    → before ≡ fin.len t → after ≡ fin.len u → u ≡ created t → count ≡ length messages
    → HasMessagesBy (task_of create_alone) create_alone no_facts generated_moment t [] messages
    → ListsOverlaps (lines_in t) report.pairs → ListsReasons (lines_in t) report.unrepeatable → (report.unrepeatable ≡ []) ↔ IsRepeatable (lines_in t)
    → text ≡ messages_text (generated_text lines before ∷ created_text after count ∷ overlaps_text (length report.pairs) (verdict report.unrepeatable) ∷ [])
    → IsGeneratedOutput lines t text
stated lines t u before after count messages report text nodes left run many new_messages overlaps reasons verdict_is is =
    let third : List ℕ = overlaps_text (length report.pairs) (verdict report.unrepeatable) in
    record {
      new_messages = new_messages.0;
      is_said = new_messages.1.0;
      report = report;
      overlaps = overlaps;
      reasons = reasons;
      verdict_is = verdict_is;
      text = is
          ∙ ap (λ (n : ℕ). messages_text (generated_text lines n ∷ created_text after count ∷ third ∷ [])) nodes
          ∙ ap (λ (x : List ℕ). messages_text (generated_text lines (fin.len t) ∷ x ∷ third ∷ []))
          (ap (λ (n : ℕ). created_text n count) (left ∙ ap (λ (f : Files). fin.len f) run)
          ∙ ap (created_text (fin.len (created t))) (many ∙ ap (λ (x : List (List ℕ)). length x) new_messages.1.1));
    }
