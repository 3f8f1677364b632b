-- The explanation of one path (`--explain`), which does no step. It lists the active lines that change the path in
-- creating, and what is there after all of them (tmpfiles.d(5)). The texts are this project's own.
use Rattle.std.specs.Prelude.{◌≡◌, ◌⊎◌, ℕ, true, false, List, [], ◌∷◌, ◌++◌, codes, map, Option, Some, None, option_map}
use Rattle.std.specs.Fmt.{decimal}
use Rattle.pv_walk.specs.Nodes.{object_states_of}
use Rattle.pv_explain.specs.Acts.{acts, object_state_in, last, standing}
use Rattle.pv_explain.specs.declared.explained.Act.{Act}
use Rattle.pv_explain.specs.declared.explained.Act.TheVariants.{Makes, Removes, Changes}
use Rattle.pv_explain.specs.declared.explained.Explained.{Explained}
use Rattle.pv_explain.specs.declared.explained.LineAct.{LineAct}
use Rattle.pv_image.specs.Spelling.{object_text}
use Rattle.pv_path.specs.Paths.{Path, has_staging}
use Rattle.pv_path.specs.Printing.{printed_path}
use Rattle.pv_steps.specs.declared.node.Node.{Node}
use Rattle.pv_steps.specs.Trees.{Files, places}
use Rattle.pv_table.specs.Created.{RefusesNoLine}
use Rattle.pv_table.specs.Repeatable.{IsRepeatable}
use Rattle.pv_text.specs.Facts.{Values}
use Rattle.pv_text.specs.GivenMessages.{MessagesPart}
use Rattle.pv_words.specs.declared.options.Options.{Options}
use Rattle.provision_run.specs.Phased.{lines_messages, phased, run_lines}

-- ---- messages

-- The word for what a line does.
abbrev pub act_word : Act → List ℕ
act_word Makes = codes "makes"
act_word Removes = codes "removes"
act_word Changes = codes "changes"

-- The message that a line changes a path: `explain FILE:N ACT PATH`.
abbrev pub act_text : Path → LineAct → List ℕ
act_text path found =
    codes "explain " ++ (found.place.file ++ codes ":" ++ decimal found.place.number) ++ codes " " ++ act_word found.act ++ codes " " ++ printed_path path

-- The message about what is at the path after all lines. It says that nothing is there. Or it gives the object as an
-- image does, without its path and timestamps.
abbrev pub last_text : Path → Option (Node × List ℕ) → List ℕ
last_text path None = codes "explain " ++ printed_path path ++ codes " is absent"
last_text path (Some object) = codes "explain " ++ printed_path path ++ codes " is " ++ object_text (record { node = object.0; payload = object.1 })

-- All messages of an explanation.
abbrev pub explained_messages : Path → Explained → List (List ℕ)
explained_messages path stated = map (act_text path) stated.acts ++ last_text path stated.node ∷ []

-- ---- an explanation

-- The same options, but they ask only for creating.
abbrev pub creating : Options → Options
creating options = record options { create = true; remove = false; clean = false; report = false; purge = false; explain = None }

-- The messages that explain the path of `--explain`. They are exactly the active lines that change it, in the order
-- of creating, and what is there after all lines. Creating then leaves at this path what the last message says,
-- timestamps aside. This holds if no line has a hazard, creating refuses no line, and the path has no staging name.
pub record IsExplanationOf (options : Options) (facts : Values) (t : Files) (new_messages : List (List ℕ)) : Type 0 where
  pub path : Path
  pub asked : options.explain ≡ Some path
  pub stated : Explained
  pub by_lines : stated.acts ≡ acts (run_lines options facts t) (standing t) path
  pub at_last : option_map object_state_in stated.node ≡ last (run_lines options facts t) (standing t) path
  pub text : new_messages ≡ explained_messages path stated
  pub left : (moment : ℕ) → IsRepeatable (run_lines options facts t) → RefusesNoLine (run_lines options facts t) moment t → has_staging path ≡ false
      → option_map object_state_in stated.node ≡ object_states_of (places (phased (creating options) facts moment t)) path

-- The messages about the configuration and those of the explanation are added to earlier messages.
abbrev pub HasExplained : Options → Values → Files → List (List ℕ) → List (List ℕ) → Type 0
HasExplained options facts t old new =
    (new_messages : List (List ℕ)) × (IsExplanationOf options facts t new_messages × (new ≡ old ++ lines_messages options facts t ++ new_messages))

-- A prefix of the messages about the configuration, or of all messages, is added to earlier messages.
abbrev pub HasExplainedPart : Options → Values → Files → List (List ℕ) → List (List ℕ) → Type 0
HasExplainedPart options facts t old new =
    MessagesPart (lines_messages options facts t) old new
    ⊎ ((new_messages : List (List ℕ)) × (IsExplanationOf options facts t new_messages × MessagesPart (lines_messages options facts t ++ new_messages) old new))
