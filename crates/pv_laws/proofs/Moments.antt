-- Runs of lines at different moments, from trees that are the same except for timestamps: the trees that they leave, the messages and
-- the refusals.
use Rattle.std.specs.Prelude.{◌≡◌, ℕ, List}
use Rattle.pv_walk.proofs.OperationLaws.{object_states_of-same, object_states-same}
use Rattle.pv_lines.specs.declared.line.Line.{Line}
use Rattle.pv_steps.specs.Trees.{Files, places}
use Rattle.pv_table.specs.Created.{created, created_messages, RefusesNoLine}
use Rattle.pv_table.proofs.QuietLaws.{Alike, created_alike, messages_alike, quiet_alike}
use Rattle.pv_laws.specs.Moments.{SameObjectStates}

alike : (t u : Files) → SameObjectStates t u → Alike (places t) (places u)
alike t u same q = object_states-same (places t) (places u) q (same q)

pub created_same : (lines : List Line) (now later : ℕ) (t u : Files) → SameObjectStates t u → SameObjectStates (created lines now t) (created lines later u)
created_same lines now later t u same q =
    object_states_of-same (places (created lines now t)) (places (created lines later u)) q (created_alike lines now later t u (alike t u same) q)

pub messages_same : (lines : List Line) (now later : ℕ) (t u : Files) → SameObjectStates t u → created_messages lines now t ≡ created_messages lines later u
messages_same lines now later t u same = messages_alike lines now later t u (alike t u same)

pub quiet_same : (lines : List Line) (now later : ℕ) (t u : Files) → SameObjectStates t u → RefusesNoLine lines now t → RefusesNoLine lines later u
quiet_same lines now later t u same quiet = quiet_alike lines now later t u (alike t u same) quiet
