-- Laws of explanations: what is said of a path by lines that were read is an explanation of it.
use Rattle.std.specs.Prelude.{◌≡◌, ℕ, false, List, Some, option_map}
use Rattle.std.proofs.Common.{ap, subst, ◌∙◌}
use Rattle.pv_walk.specs.Nodes.{object_states_of}
use Rattle.pv_explain.specs.Acts.{acts, object_state_in, last, standing}
use Rattle.pv_explain.specs.declared.explained.Explained.{Explained}
use Rattle.pv_lines.specs.declared.line.Line.{Line}
use Rattle.pv_path.specs.Paths.{Path, has_staging}
use Rattle.pv_steps.specs.Trees.{Files, places}
use Rattle.pv_table.specs.Created.{created, RefusesNoLine}
use Rattle.pv_table.specs.Repeatable.{IsRepeatable}
use Rattle.pv_text.specs.Facts.{Values}
use Rattle.pv_words.specs.declared.options.Options.{Options}
use Rattle.provision_run.specs.Explained.{IsExplanationOf, explained_messages}
use Rattle.provision_run.specs.Phased.{run_lines}

-- what lines leave at a path in a run that refuses none, where none has a hazard
abbrev pub IsLeft : Path → Files → Explained → List Line → Type 0
IsLeft path t stated lines = (moment : ℕ) → IsRepeatable lines → RefusesNoLine lines moment t → has_staging path ≡ false
    → option_map object_state_in stated.node ≡ object_states_of (places (created lines moment t)) path

-- an explanation by lines that were read
pub explained : (options : Options) (facts : Values) (t : Files) (path : Path) → options.explain ≡ Some path → (lines : List Line) → lines ≡ run_lines options facts t
    → (stated : Explained) → stated.acts ≡ acts lines (standing t) path → option_map object_state_in stated.node ≡ last lines (standing t) path → IsLeft path t stated lines
    → (new_messages : List (List ℕ)) → new_messages ≡ explained_messages path stated → IsExplanationOf options facts t new_messages
explained options facts t path asked lines is stated by_lines at_last left new_messages text = record {
  path = path;
  asked = asked;
  stated = stated;
  by_lines = by_lines ∙ ap (λ (ls : List Line). acts ls (standing t) path) is;
  at_last = at_last ∙ ap (λ (ls : List Line). last ls (standing t) path) is;
  text = text;
  left = subst (λ (ls : List Line). IsLeft path t stated ls) is left;
}
