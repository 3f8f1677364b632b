-- Laws of a line at a path at which it is carried out: what it asks for is as it has to be.
use Rattle.std.specs.Prelude.{◌≡◌, ◌<◌, ◌^◌, true, false, length, IfSome}
use Rattle.std.proofs.Common.{sym, ap, subst, ◌∙◌}
use Rattle.pv_create.specs.Sets.{AreSets}
use Rattle.pv_create.proofs.AskedSets.{asked_sets}
use Rattle.pv_create.proofs.NamedLaws.{named_short}
use Rattle.pv_lines.specs.declared.line.Line.{Line}
use Rattle.pv_lines.specs.Lines.{IsConfigured, IsLine}
use Rattle.pv_path.specs.Paths.{Path}
use Rattle.pv_steps.specs.Trees.{Files}
use Rattle.pv_table.specs.declared.action.Action.{Action}
use Rattle.pv_table.specs.declared.action.Action.TheVariants.{Create, Copy, Adjust, Idle}
use Rattle.pv_table.specs.ActionTable.{action_of}
use Rattle.pv_table.specs.Reaching.{path_in}
use Rattle.pv_table.specs.Repeatable.{sets_of}
use Rattle.pv_table.specs.Turns.{copied}
use Rattle.pv_create.specs.Actions.{IsCopying, IsAction, IsMaking, IsTurn, makes}
use Rattle.pv_create.proofs.CopyTable.{line_copying}
use Rattle.pv_create.proofs.TableLaws.{line_making}

pub line_action : (line : Line) (action : Action) (path : Path) (t : Files) → IsLine line → action_of line ≡ action → IsTurn action line path t → IsAction path action
line_action line (Create making) path t whole asked turn =
    let made = line_making line making whole asked in
    subst (λ (p : Path). IsConfigured p × IsMaking p making) (sym (turn ∙ ap path_in made.is)) (made.configured, made.made)
line_action line (Copy copying) path t whole asked turn =
    let made = line_copying line copying whole asked in
    subst (λ (p : Path). IsConfigured p × IsCopying p copying) (sym (turn ∙ ap path_in made.is)) (made.configured, made.copied)
line_action line (Adjust adjustment) path t whole asked turn = subst (λ (d : Action). AreSets (sets_of d)) asked (asked_sets line whole)
line_action line Idle path t whole asked turn = absurd turn

-- neither its path nor what it copies has too many names
pub line_short : (line : Line) (action : Action) (path : Path) (t : Files) → IsLine line → action_of line ≡ action → IsTurn action line path t → length path < 2 ^ 32
line_short line (Create making) path t whole asked turn = (line_action line (Create making) path t whole asked turn).0.few
line_short line (Copy copying) path t whole asked turn = (line_action line (Copy copying) path t whole asked turn).0.few
line_short line (Adjust adjustment) path t whole asked turn = named_short line whole path turn.0
line_short line Idle path t whole asked turn = absurd turn

pub copied_short : (action : Action) (path : Path) → IsAction path action → IfSome (copied action) (λ source. length source < 2 ^ 32)
copied_short (Create making) path h = tt
copied_short (Copy copying) path h = h.1.few
copied_short (Adjust adjustment) path h = tt
copied_short Idle path h = tt

-- a line that makes something or copies has a path as read
pub made_path : (action : Action) (path : Path) → makes action ≡ true → IsAction path action → IsConfigured path
made_path (Create making) path made h = h.0
made_path (Copy copying) path made h = h.0
made_path (Adjust adjustment) path made h = absurd (let no : false ≡ true = made in cc)
made_path Idle path made h = absurd h
