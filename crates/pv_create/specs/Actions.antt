-- A line at a path at which it is carried out, and what its action has to be like (tmpfiles.d(5)).
use Rattle.std.specs.Prelude.{◌≡◌, ◌≢◌, ◌<◌, ◌≤◌, ◌^◌, Bool, true, false, [], length, Option, Some, None, IfSome}
use Rattle.std.specs.Option.{option_map_or}
use Rattle.pv_create.specs.Sets.{AreSets}
use Rattle.pv_walk.specs.declared.operation.Test.{Test}
use Rattle.pv_lines.specs.declared.line.Line.{Line}
use Rattle.pv_lines.specs.Lines.{IsConfigured, IsLine}
use Rattle.pv_path.specs.Paths.{Path, parent_of, staging_of}
use Rattle.pv_steps.specs.declared.node.Kind.TheVariants.{Directory}
use Rattle.pv_steps.specs.Objects.{IsId}
use Rattle.pv_steps.specs.Trees.{Files, places, IsKind, IsAbsentIn, IsPresent}
use Rattle.pv_table.specs.declared.action.Copying.{Copying}
use Rattle.pv_table.specs.declared.action.Action.{Action}
use Rattle.pv_table.specs.declared.action.Action.TheVariants.{Create, Copy, Adjust, Idle}
use Rattle.pv_table.specs.declared.action.Making.{Making}
use Rattle.pv_table.specs.declared.action.Adjustment.{Adjustment}
use Rattle.pv_table.specs.ActionTable.{action_of}
use Rattle.pv_table.specs.Reaching.{names, path_in}
use Rattle.pv_walk.specs.Staging.{IsNewFile, new_kind}
use Rattle.pv_create.specs.declared.line_at.LineAt.{LineAt}

-- ---- what a line asks for

-- What a line makes: a new object, and what it sets of an existing one. At the root it can only be a directory, and
-- the directory there stays.
pub record IsMaking (path : Path) (making : Making) : Type 0 where
  pub new : IsNewFile making.new
  pub sets : AreSets making.sets
  pub root : path ≡ [] → (new_kind making.new.what ≡ Directory) × (option_map_or (λ (test : Test). test.exact) making.renew false ≡ false)

-- What a line copies. Its path is not the root, and the source has fewer than 2^32 components. The mode and the
-- owners, if they are given, are such as an object may have.
pub record IsCopying (path : Path) (copying : Copying) : Type 0 where
  pub nonempty : path ≢ []
  pub few : length copying.source < 2 ^ 32
  pub mode : IfSome copying.mode (λ mode. mode.value ≤ 0o7777)
  pub uid : IfSome copying.uid IsId
  pub gid : IfSome copying.gid IsId
  pub sets : AreSets copying.sets

-- What a line asks for at a path.
abbrev pub IsAction : Path → Action → Type 0
IsAction path (Create making) = IsConfigured path × IsMaking path making
IsAction path (Copy copying) = IsConfigured path × IsCopying path copying
IsAction path (Adjust adjustment) = AreSets adjustment.sets
IsAction path Idle = ⊥

-- Whether a line makes or copies an object.
abbrev pub makes : Action → Bool
makes (Create making) = true
makes (Copy copying) = true
makes action = false

-- What a line sets, if it adjusts existing objects.
abbrev pub adjustment_of : Action → Option Adjustment
adjustment_of (Adjust adjustment) = Some adjustment
adjustment_of action = None

-- ---- where it is carried out

-- A path at which a line is carried out. A line that makes or copies has its own path. A line that adjusts has an
-- existing path that it names.
abbrev pub IsTurn : Action → Line → Path → Files → Type 0
IsTurn (Create making) line path t = path ≡ path_in line.path
IsTurn (Copy copying) line path t = path ≡ path_in line.path
IsTurn (Adjust adjustment) line path t = (names line path ≡ true) × IsPresent t path
IsTurn Idle line path t = ⊥

-- A line as it was read, with its action and a path at which it is carried out.
pub record IsLineAt (at : LineAt) (t : Files) : Type 0 where
  pub whole : IsLine at.line.now
  pub asked : action_of at.line.now ≡ at.action.now
  pub turn : IsTurn at.action.now at.line.now at.path.now t

-- A path is ready. If the line adjusts, the object exists. Otherwise the directory above the path exists, and nothing
-- is at the path's staging name.
abbrev pub IsReady : Action → Path → Files → Type 0
IsReady (Adjust adjustment) path t = IsPresent t path
IsReady action path t = (path ≢ [] → IsKind Directory t (parent_of path)) × (path ≢ [] → IsAbsentIn (places t) (staging_of path))
