-- The messages of a run about its lines. The texts are this project's own.
use Rattle.std.specs.Prelude.{ℕ, List, [], ◌∷◌, ◌++◌, codes, map, take, Option, Some, None}
use Rattle.pv_path.specs.Paths.{Path}
use Rattle.pv_path.specs.Printing.{printed_path}
use Rattle.pv_lines.specs.declared.line.Line.{Line}
use Rattle.pv_steps.specs.declared.node.Kind.{Kind}
use Rattle.pv_steps.specs.declared.node.Kind.TheVariants.{Directory, File, Link, Fifo, CharDevice, BlockDevice}
use Rattle.pv_steps.specs.declared.why.Why.{Why}
use Rattle.pv_steps.specs.declared.why.Why.TheVariants as why
use Rattle.pv_steps.specs.Trees.{Files, places}
use Rattle.pv_text.specs.GivenMessages.{message_text_at}
use Rattle.pv_table.specs.declared.action.Action.{Action}
use Rattle.pv_table.specs.declared.action.Action.TheVariants.{Create, Copy}
use Rattle.pv_table.specs.ActionTable.{action_of}
use Rattle.pv_table.specs.Effects.{prepare}
use Rattle.pv_table.specs.Turns.{Refused, Turn, view_of, decide, refused_at}

-- The words for a kind.
abbrev pub kind_text : Kind → List ℕ
kind_text Directory = codes "directory"
kind_text File = codes "file"
kind_text Link = codes "link"
kind_text Fifo = codes "fifo"
kind_text CharDevice = codes "character device"
kind_text BlockDevice = codes "block device"

-- The words for the reason of a refusal.
abbrev pub why_text : Why → List ℕ
why_text why.Link = codes "link"
why_text why.NotDirectory = codes "not a directory"
why_text why.UnsafeOwner = codes "unsafe owner"

-- The message that an object of another kind is left.
abbrev pub left_text : Path → Kind → List ℕ
left_text path kind = printed_path path ++ codes " is a " ++ kind_text kind ++ codes ", left"

-- The message that a path is refused at its first k components.
abbrev pub place_text : Path → ℕ → Why → List ℕ
place_text path k reason = printed_path path ++ codes " refused at " ++ printed_path (take k path) ++ codes ": " ++ why_text reason

-- The message about a refusal, of a source or of the path itself.
abbrev pub refused_text : Refused → List ℕ
refused_text (Refused.source path k reason) = codes "source " ++ place_text path k reason
refused_text (Refused.named path k reason) = place_text path k reason

-- The messages about what is done at a path.
abbrev pub turn_texts : Path → Turn → List (List ℕ)
turn_texts path (Turn.Left kind) = left_text path kind ∷ []
turn_texts path turn = []

-- The tree in which a line decides what it does at a path. A line that makes or copies has prepared the path before.
abbrev pub found : ℕ → Action → Path → Files → Files
found now (Create making) path t = prepare now path t
found now (Copy copying) path t = prepare now path t
found now action path t = t

-- The messages of a line about a path that it names: that it is refused, or otherwise about what is done there.
abbrev pub texts : ℕ → Line → Path → Files → List (List ℕ)
texts now line path t = by (refused_at line path (places t))
  where
    by : Option Refused → List (List ℕ)
    by (Some place) = refused_text place ∷ []
    by None = turn_texts path (decide (action_of line) (view_of (found now (action_of line) path t)) path)

-- The same messages, with the location of the line.
abbrev pub turn_messages : ℕ → Line → Path → Files → List (List ℕ)
turn_messages now line path t = map (message_text_at line.place) (texts now line path t)
