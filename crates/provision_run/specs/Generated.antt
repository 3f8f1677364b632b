-- A run of systemd-tmpfiles(8) over a generated tree, with its three messages (this project's own).
use Rattle.std.specs.Prelude.{◌≡◌, ◌↔◌, ℕ, true, false, List, [], ◌∷◌, ◌++◌, codes, length, None}
use Rattle.std.specs.FinMap as fin
use Rattle.std.specs.Fmt.{decimal}
use Rattle.pv_read_config.specs.Known.{configured}
use Rattle.pv_generate.specs.Trees.{generated}
use Rattle.pv_lines.specs.declared.line.Line.{Line}
use Rattle.pv_overlap.specs.Reporting.{ListsOverlaps, ListsReasons}
use Rattle.pv_overlap.specs.GivenMessages.{verdict}
use Rattle.pv_overlap.specs.declared.listing.Report.{Report}
use Rattle.pv_steps.specs.Trees.{Files}
use Rattle.pv_table.specs.Repeatable.{IsRepeatable}
use Rattle.pv_text.specs.Facts.{Values}
use Rattle.pv_text.specs.declared.tool.Tool.TheVariants.{Tmpfiles}
use Rattle.pv_words.specs.declared.options.Options.{Options}
use Rattle.provision_run.specs.Messages.{messages_text}
use Rattle.provision_run.specs.Whole.{final, AreMessages, read_messages}

-- ---- the run

-- The options of `--create` alone.
abbrev pub create_alone : Options
create_alone = record {
  tool = Tmpfiles;
  create = true;
  remove = false;
  clean = false;
  report = false;
  purge = false;
  explain = None;
  boot = false;
  prefix = None;
  exclude_prefix = None;
  stop_after = None;
  now = None;
  words = [];
}

-- A generated tree has no facts.
abbrev pub no_facts : Values
no_facts = fin.empty

-- The time of the run, in microseconds since 1970.
abbrev pub generated_moment : ℕ
generated_moment = 1000000000000

-- The tree that the run leaves.
abbrev pub created : Files → Files
created t = final create_alone no_facts generated_moment t

-- The lines of the configuration of a tree.
abbrev pub lines_in : Files → List Line
lines_in t = (configured t no_facts []).lines

-- ---- the messages

-- The texts of the three messages.
abbrev pub generated_text : ℕ → ℕ → List ℕ
generated_text lines nodes = codes "generated " ++ decimal lines ++ codes " lines " ++ decimal nodes ++ codes " nodes"

abbrev pub created_text : ℕ → ℕ → List ℕ
created_text nodes messages = codes "created " ++ decimal nodes ++ codes " nodes " ++ decimal messages ++ codes " messages"

abbrev pub overlaps_text : ℕ → List ℕ → List ℕ
overlaps_text pairs last = decimal pairs ++ codes " overlaps, " ++ last

-- The three messages about a tree with this number of lines. The first gives the number of objects of the tree. The
-- second gives how many the run leaves, and how many messages it has. The third gives how many pairs of lines
-- overlap, and the verdict, which is `repeatable` exactly if no line has a hazard.
pub record IsGeneratedOutput (lines : ℕ) (t : Files) (out : List ℕ) : Type 0 where
  pub new_messages : List (List ℕ)
  pub is_said : AreMessages create_alone no_facts generated_moment t new_messages
  pub report : Report
  pub overlaps : ListsOverlaps (lines_in t) report.pairs
  pub reasons : ListsReasons (lines_in t) report.unrepeatable
  pub verdict_is : (report.unrepeatable ≡ []) ↔ IsRepeatable (lines_in t)
  pub text : out ≡ messages_text (
      generated_text lines (fin.len t)
      ∷ created_text (fin.len (created t)) (length (read_messages create_alone no_facts t ++ new_messages))
      ∷ overlaps_text (length report.pairs) (verdict report.unrepeatable)
      ∷ [])

-- The output for this seed and this number of lines.
unfoldable pub IsGenerated : ℕ → ℕ → List ℕ → Type 0
IsGenerated seed count out = IsGeneratedOutput count (generated seed count) out
