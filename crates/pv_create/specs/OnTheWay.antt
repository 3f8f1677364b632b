-- The intermediate states of a line and of a run of lines, and which steps they may do (tmpfiles.d(5)). Timestamps
-- and staging names are left out.
use Rattle.std.specs.Prelude.{◌≡◌, ℕ, ◌+◌, ◌≤◌, Bool, true, false, List, [], length, take, Option, Some, None, if◌then◌else◌}
use Rattle.std.specs.List.{list_any, AllByRecursion}
use Rattle.std.specs.FinMap as fin
use Rattle.pv_walk.specs.declared.object_state.ObjectState.{ObjectState}
use Rattle.pv_walk.specs.declared.operation.Operation.{Operation}
use Rattle.pv_walk.specs.Dividing.{parts}
use Rattle.pv_walk.specs.Nodes.{object_states_of}
use Rattle.pv_walk.specs.Operations.{run}
use Rattle.pv_steps.specs.Courses.{Course, single, Cut, Partway, IsStepOfSome}
use Rattle.pv_lines.specs.declared.line.Line.{Line}
use Rattle.pv_path.specs.Paths.{Path, same_path, is_prefix, has_staging}
use Rattle.pv_steps.specs.declared.step.Step.{Step}
use Rattle.pv_steps.specs.Same.{Same, object_states}
use Rattle.pv_steps.specs.Trees.{Files, Places, places}
use Rattle.pv_walk.specs.Preparing.{IsAbove, IsPrepareStep}
use Rattle.pv_walk.specs.Putting.{IsPutStep}
use Rattle.pv_walk.specs.Copying.{IsCopyStep, Subtree}
use Rattle.pv_walk.specs.Replacing.{IsStaged, CanReplace, AreDirectories}
use Rattle.pv_table.specs.declared.action.Copying.{Copying}
use Rattle.pv_table.specs.declared.action.Action.{Action}
use Rattle.pv_table.specs.declared.action.Action.TheVariants.{Create, Copy, Adjust}
use Rattle.pv_table.specs.declared.action.Making.{Making}
use Rattle.pv_table.specs.ActionTable.{action_of}
use Rattle.pv_table.specs.Created.{by_turn, by_line, by_line_that_counts, RefusesNoLine}
use Rattle.pv_table.specs.Effects.{is_adjusted, turn_after, turns}
use Rattle.pv_table.specs.Pointwise.{parent_object_state, ObjectStates, state}
use Rattle.pv_table.specs.Saying.{found}
use Rattle.pv_table.specs.Turns.{Turn, view_of, has_something, decide, refused_at}
use Rattle.pv_create.specs.Actions.{makes}
use Rattle.pv_create.specs.Adjusting.{GivesSet}
use Rattle.pv_create.specs.Reached.{AdjustingInOrder, GivesReached}
use Rattle.pv_walk.specs.SettingMetadata.{metadata_mode}
use Rattle.pv_steps.specs.declared.node.Kind.TheVariants.{Directory, File, Link, Fifo}
use Rattle.pv_steps.specs.declared.step.Step.TheVariants.{MakeDir, MakeFile, MakeFifo, MakeDevice, MakeLink, Write, SetMode, SetOwner, SetAcl, SetAttrs, SetLetters, SetStamps}
use Rattle.pv_steps.specs.Runs.{after_all}
use Rattle.pv_steps.specs.Steps.{device_kind}
use Rattle.pv_laws.specs.Between.{IsOnTheWay}
use Rattle.pv_laws.specs.Moments.{Agree}
use Rattle.pv_table.specs.Reaching.{governs}
use Rattle.pv_table.specs.Repeatable.{IsRepeatable}

-- ---- what is done

-- What a line that is not refused does at a path. A copy of what does not exist does nothing.
abbrev pub turn_at : ℕ → Line → Path → Files → Turn
turn_at now line path t =
    if has_something (places t) (action_of line) then decide (action_of line) (view_of (found now (action_of line) path t)) path
    else Turn.Nothing

-- Whether absent parents are made: by a line that makes, and by one that copies an existing object.
abbrev pub puts_parents : Places → Action → Bool
puts_parents t (Create making) = true
puts_parents t (Copy copying) = has_something t (Copy copying)
puts_parents t action = false

-- What a line sets of the object at a path q. A line that adjusts sets it at each path that it reaches from the
-- line's path. A line that makes or copies sets it at the line's path, if the object there stays.
abbrev pub sets_at : Action → Turn → Path → Path → List Operation
sets_at (Adjust adjustment) turn path q = if is_adjusted adjustment path q then adjustment.sets else []
sets_at action (Turn.Become operations) path q = if same_path path q then operations else []
sets_at action turn path q = []

-- ---- intermediate states

-- What is at a path q while a line is carried out, compared with what was there when it began:
-- - set: The first k of the changes to the object are done.
-- - parent: Above the line's path, a new parent if there was no object.
pub data IsMidway (now : ℕ) (line : Line) (path : Path) (t : Files) (q : Path) (old new : Option ObjectState) : Type 0 where
  set : (k : ℕ) → new ≡ run (take k (parts (sets_at (action_of line) (turn_at now line path t) path q))) old → IsMidway now line path t q old new
  parent : puts_parents (places t) (action_of line) ≡ true → IsAbove q path → old ≡ None → new ≡ Some parent_object_state → IsMidway now line path t q old new

-- The same while the object at the line's path is being removed for its replacement. At and below this path there may
-- also be no object.
pub data IsClearing (now : ℕ) (line : Line) (path : Path) (t : Files) (q : Path) (old new : Option ObjectState) : Type 0 where
  midway : IsMidway now line path t q old new → IsClearing now line path t q old new
  gone : is_prefix path q ≡ true → new ≡ None → IsClearing now line path t q old new

-- An intermediate state of a line at a path, at each path without a staging name. One of these four holds:
-- - before: Nothing is done yet.
-- - midway: The line is not refused, and each path is as in `IsMidway`.
-- - making_way: The line is not refused and puts a subtree, which is complete at its staging name. What is at and
--   below the path is being removed, as in `IsClearing`. If one rename(2) can replace it, nothing of it is removed
--   before. If a directory replaces a directory, the directory itself stays until then.
-- - whole: The line is done at this path. So what it puts is complete.
pub data OnWay (now : ℕ) (line : Line) (path : Path) (t u : Files) : Type 0 where
  before : Same t u → OnWay now line path t u
  midway : refused_at line path (places t) ≡ None
      → ((q : Path) → has_staging q ≡ false → IsMidway now line path t q (object_states_of (places t) q) (object_states_of (places u) q))
      → OnWay now line path t u
  making_way : (subtree : Subtree) → refused_at line path (places t) ≡ None → turn_at now line path t ≡ Turn.Put subtree → IsStaged path subtree u
      → (CanReplace path subtree (found now (action_of line) path t) → Same (found now (action_of line) path t) u)
      → (AreDirectories path subtree (found now (action_of line) path t) → object_states (places u) path ≡ object_states (places (found now (action_of line) path t)) path)
      → ((q : Path) → has_staging q ≡ false → IsClearing now line path t q (object_states_of (places t) q) (object_states_of (places u) q))
      → OnWay now line path t u
  whole : Same (turn_after now line path t) u → OnWay now line path t u

-- ---- single steps of a line

-- A step of a line that makes or copies, at a path. It prepares the path, builds the new object or the copy under the
-- staging name, renames it into place, or removes what it replaces. Or it changes the object there to what it has
-- after all changes.
pub data IsStepOf (now : ℕ) (line : Line) (path : Path) (t : Files) (step : Step) : Type 0 where
  prepares : puts_parents (places t) (action_of line) ≡ true → IsPrepareStep path t step → IsStepOf now line path t step
  puts : (making : Making) (subtree : Subtree) → action_of line ≡ Create making → turn_at now line path t ≡ Turn.Put subtree
      → IsPutStep path making.new step → IsStepOf now line path t step
  copies : (copying : Copying) (subtree : Subtree) → action_of line ≡ Copy copying → turn_at now line path t ≡ Turn.Put subtree
      → IsCopyStep path subtree step → IsStepOf now line path t step
  sets : (operations : List Operation) → turn_at now line path t ≡ Turn.Become operations
      → GivesSet path operations (found now (action_of line) path t) step → IsStepOf now line path t step

-- ---- a line at a path, whatever it asks for

-- An intermediate state of a line at a path. A line that adjusts changes everything that it reaches from the path, in
-- byte order.
abbrev pub TurnWay : Action → ℕ → Line → Path → Files → Files → Type 0
TurnWay (Adjust adjustment) now line path t u = AdjustingInOrder adjustment path t u
TurnWay action now line path t u = OnWay now line path t u

-- A step of a line at a path.
abbrev pub IsStepAt : Action → ℕ → Line → Path → Files → Step → Type 0
IsStepAt (Adjust adjustment) now line path t step = GivesReached adjustment path t step
IsStepAt action now line path t step = IsStepOf now line path t step

-- A line at a path as a `Course`: what it does and says, its intermediate states, and its steps.
abbrev pub plain_course : ℕ → Line → Course Path
plain_course now line = single (by_turn now line) (TurnWay (action_of line) now line) (IsStepAt (action_of line) now line)

-- What a line has done and said at a path where it was stopped. A line that only adjusts has given all its messages
-- about the path before it asks for its first step.
pub record TurnCut (now : ℕ) (line : Line) (moment refused : ℕ) (path : Path) (t : Files) (done : List Step) (new_messages : List (List ℕ)) : Type 0 where
  pub at_work : (plain_course now line).cut moment refused path t done new_messages
  pub told : makes (action_of line) ≡ false → 1 ≤ length done + refused → new_messages ≡ (by_turn now line).says path t

-- A line at a path as a `Course` with this.
abbrev pub turn_course : ℕ → Line → Course Path
turn_course now line = record (plain_course now line) { cut = TurnCut now line }

-- ---- a line at all its paths, whatever it asks for

-- An intermediate state of a line. It is done at some of the paths at which it is carried out, and is being carried
-- out at the next.
abbrev pub LineWay : ℕ → Line → Files → Files → Type 0
LineWay now line t u = Partway (turn_course now line) (turns line t) t u

-- A step of a line at one of the paths at which it is carried out.
abbrev pub IsLineStep : ℕ → Line → Files → Step → Type 0
IsLineStep now line t step = IsStepOfSome (turn_course now line) (turns line t) t step

-- What a line has done and said where it was stopped. At the paths before the one at work all is done and said. At
-- those after it nothing is.
abbrev pub LineCut : ℕ → ℕ → Line → Files → List Step → List (List ℕ) → Type 0
LineCut now refused line t steps new_messages = Cut (turn_course now line) now refused (turns line t) t steps new_messages

-- A line as a `Course`. Each refusal counts.
abbrev pub line_course : ℕ → Course Line
line_course now = record { whole = by_line now; way = LineWay now; steps = IsLineStep now; cut = LineCut }

-- The same, but a refusal of a line with `-` does not count.
abbrev pub lines_course : ℕ → Course Line
lines_course now = record { whole = by_line_that_counts now; way = LineWay now; steps = IsLineStep now; cut = LineCut }

-- ---- a run of lines that is stopped

-- A path that no line governs is as it was after any number of steps of a run, timestamps aside. Staging names are
-- left out. This holds whatever lines are refused.
abbrev pub IsFramed : List Line → ℕ → Files → List Step → Type 0
IsFramed lines now t steps = (n : ℕ) (q : Path) → has_staging q ≡ false → list_any (λ line. governs line q) lines ≡ false →
    object_states_of (places (after_all t (take n steps) now)) q ≡ object_states_of (places t) q

-- A run is stopped after any number of steps. Suppose that no line has a hazard, and a complete run refuses no line.
-- Then there is a k such that each path is as the first k lines or the first k + 1 lines leave it. Only kinds and
-- owners are compared. `IsOnTheWay` says it exactly.
abbrev pub IsStoppedBetween : List Line → ℕ → Files → List Step → Type 0
IsStoppedBetween lines now t steps = (n : ℕ) (s : ObjectStates) → IsRepeatable lines → RefusesNoLine lines now t → Agree s t →
    IsOnTheWay lines s (after_all t (take n steps) now)

-- ---- single steps of a run

-- A step gives something that this object has. A Make step makes an object of its kind, with its target or numbers. A
-- Write or Set step gives its bytes or a part of its metadata. SetStamps never does, and other steps give nothing.
abbrev pub Gives : ObjectState → Step → Type 0
Gives b (MakeDir at) = b.body.kind ≡ Directory
Gives b (MakeFile at) = b.body.kind ≡ File
Gives b (MakeFifo at) = b.body.kind ≡ Fifo
Gives b (MakeDevice at block major minor) = (b.body.kind ≡ device_kind block) × ((b.body.major ≡ major) × (b.body.minor ≡ minor))
Gives b (MakeLink at target) = (b.body.kind ≡ Link) × (b.body.payload ≡ target)
Gives b (Write at content) = b.body.payload ≡ content
Gives b (SetOwner at uid gid) = (uid ≡ b.metadata.uid) × (gid ≡ b.metadata.gid)
Gives b (SetMode at mode) = mode ≡ metadata_mode b.metadata
Gives b (SetAcl at acl) = acl ≡ b.metadata.acl
Gives b (SetAttrs at attrs) = attrs ≡ b.metadata.attrs
Gives b (SetLetters at letters) = letters ≡ b.metadata.letters
Gives b (SetStamps at access modify) = ⊥
Gives b step = Unit {0}

-- A step gives something of the object that the first k lines leave at some path.
pub record IsGiven (lines : List Line) (s : ObjectStates) (step : Step) : Type 0 where
  pub k : ℕ
  pub path : Path
  pub object : ObjectState
  pub there : fin.get (state lines k s) path ≡ Some object
  pub gives : Gives object step

-- If no line has a hazard, and a complete run refuses no line, then each step is as in `IsGiven`.
abbrev pub GiveWhatLinesLeave : List Line → ℕ → Files → List Step → Type 0
GiveWhatLinesLeave lines now t steps = (s : ObjectStates) → IsRepeatable lines → RefusesNoLine lines now t → Agree s t →
    AllByRecursion (IsGiven lines s) steps
