-- What a line does at a path, step by step: it prepares the path, and then does what it decides (tmpfiles.d(5)).
use Rattle.std.specs.Prelude.{◌≡◌, ℕ, ◌+◌, ◌*◌, Result, OnOk}
use Rattle.pv_create.specs.Adjusting.{Adjusting, GivesSet}
use Rattle.pv_create.specs.Reached.{AdjustingInOrder, GivesReached}
use Rattle.pv_path.specs.Paths.{Path}
use Rattle.pv_steps.specs.declared.step.Step.{Step}
use Rattle.pv_steps.specs.declared.tree.Tree.{Ghosts}
use Rattle.pv_steps.specs.declared.tree.TreeFault.{TreeFault}
use Rattle.pv_steps.specs.Acting.{Acted}
use Rattle.pv_steps.specs.Same.{Same}
use Rattle.pv_steps.specs.Trees.{Files}
use Rattle.pv_table.specs.declared.action.Action.{Action}
use Rattle.pv_table.specs.declared.action.Action.TheVariants.{Create, Copy, Adjust}
use Rattle.pv_table.specs.Created.{turn_work, adjust_work}
use Rattle.pv_table.specs.Effects.{adjust_at, turned}
use Rattle.pv_table.specs.Turns.{Turn}
use Rattle.pv_walk.specs.Copying.{Subtree, IsCopyStep}
use Rattle.pv_walk.specs.Preparing.{Preparing, IsPrepareStep, parent_count}
use Rattle.pv_walk.specs.Putting.{IsPutStep}
use Rattle.pv_walk.specs.Replacing.{Replacing}
use Rattle.pv_walk.specs.Staging.{staging_names, count_at_all, most_new}

-- ---- preparing a path

-- An intermediate state of preparing. Only a line that makes or copies prepares its path.
abbrev pub Readying : Action → Path → Files → Files → Type 0
Readying (Create making) path t u = Preparing path t u
Readying (Copy copying) path t u = Preparing path t u
Readying action path t u = u ≡ t

-- A step of preparing.
abbrev pub IsReadyStep : Action → Path → Files → Step → Type 0
IsReadyStep (Create making) path t step = IsPrepareStep path t step
IsReadyStep (Copy copying) path t step = IsPrepareStep path t step
IsReadyStep action path t step = ⊥

-- At most how many steps prepare a path.
abbrev pub prepare_work : Path → Files → ℕ
prepare_work path t = count_at_all t (staging_names path) + most_new * parent_count path t

-- At most how many of them a line takes.
abbrev pub ready_work : Action → Path → Files → ℕ
ready_work (Create making) path t = prepare_work path t
ready_work (Copy copying) path t = prepare_work path t
ready_work action path t = 0

-- ---- what is done there

-- An intermediate state of what is done.
abbrev pub Turning : Path → Turn → Files → Files → Type 0
Turning path (Turn.Put subtree) t u = Replacing path subtree t u
Turning path (Turn.Become operations) t u = Adjusting path operations t u
Turning path turn t u = Same t u

-- A step that puts what a line makes or copies.
abbrev pub IsPuttingStep : Action → Path → Subtree → Step → Type 0
IsPuttingStep (Create making) path subtree step = IsPutStep path making.new step
IsPuttingStep (Copy copying) path subtree step = IsCopyStep path subtree step
IsPuttingStep action path subtree step = ⊥

-- A step of what is done.
abbrev pub IsTurnStep : Action → Path → Turn → Files → Step → Type 0
IsTurnStep action path (Turn.Put subtree) t step = IsPuttingStep action path subtree step
IsTurnStep action path (Turn.Become operations) t step = GivesSet path operations t step
IsTurnStep action path turn t step = ⊥

-- ---- the same, with everything that a line that adjusts reaches

-- The tree after what a line does at a path, once the path is prepared.
abbrev pub settled : ℕ → Action → Path → Turn → Files → Files
settled now (Adjust adjustment) path turn t = adjust_at now adjustment path t
settled now action path turn t = turned now action path turn t

-- An intermediate state of this.
abbrev pub Settling : Action → Path → Turn → Files → Files → Type 0
Settling (Adjust adjustment) path turn t u = AdjustingInOrder adjustment path t u
Settling action path turn t u = Turning path turn t u

-- A step of this.
abbrev pub IsSettleStep : Action → Path → Turn → Files → Step → Type 0
IsSettleStep (Adjust adjustment) path turn t step = GivesReached adjustment path t step
IsSettleStep action path turn t step = IsTurnStep action path turn t step

-- At most how many steps this takes.
abbrev pub settle_work : Action → Path → Turn → Files → ℕ
settle_work (Adjust adjustment) path turn t = adjust_work adjustment path t
settle_work action path turn t = turn_work action path turn t

-- ---- calls

-- What is decided at a path is done. If the answer is Ok, it is complete. Whatever the answer is, its steps and
-- intermediate states are those of this work, and it takes at most `settle_work` steps.
pub record Settles {S : Type 0} (tree : Ghosts S) (now : ℕ) (action : Action) (path : Path) (turn : Turn) (old new : S) (r : Result (Unit {0}) TreeFault) : Type 0 where
  pub ok : OnOk r (tree.state new ≡ settled now action path turn (tree.state old))
  pub acted : Acted tree (Settling action path turn (tree.state old)) (IsSettleStep action path turn (tree.state old)) (settle_work action path turn (tree.state old)) now old new r
