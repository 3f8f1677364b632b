-- The pieces of work in which a copy is made. Each object is made with its content, and gets its metadata once all
-- below it has been made (mkdir(2), mknod(2), symlink(2), chown(2), chmod(2)).
use Rattle.std.specs.Prelude.{◌≡◌, ◌≢◌, ◌⊎◌, ℕ, ◌+◌, true, false, List, [], ◌∷◌, ◌++◌, map, Option, Some, None, is_some, option_map, if◌then◌else◌}
use Rattle.pv_walk.specs.declared.object_state.ObjectState.{ObjectState}
use Rattle.pv_walk.specs.declared.object_state.Body.{Body}
use Rattle.pv_walk.specs.SettingMetadata.{IsMetadata, CanSetMetadata, ChangedAt, SettingMetadata, GivesMetadata, with_metadata}
use Rattle.pv_walk.specs.Nodes.{object_state_of}
use Rattle.pv_path.specs.Paths.{Path, same_path, parent_of}
use Rattle.pv_steps.specs.declared.node.Kind.{Kind}
use Rattle.pv_steps.specs.declared.node.Kind.TheVariants.{Directory, File, Link, Fifo, CharDevice, BlockDevice}
use Rattle.pv_steps.specs.declared.step.Step.{Step}
use Rattle.pv_steps.specs.Steps.{HasRoom, made}
use Rattle.pv_steps.specs.Trees.{Files, places, names_below}
use Rattle.pv_walk.specs.declared.new_file.NewKind.{NewKind}
use Rattle.pv_walk.specs.declared.new_file.NewKind.TheVariants as new
use Rattle.pv_walk.specs.declared.listing.Piece.{Piece}
use Rattle.pv_walk.specs.declared.listing.Piece.TheVariants.{Make, Give}
use Rattle.pv_walk.specs.declared.listing.Task.{Task}
use Rattle.pv_walk.specs.declared.listing.Task.TheVariants.{Open, Close}
use Rattle.pv_walk.specs.Copying.{Subtree}
use Rattle.pv_walk.specs.Making.{Beginning, BeginsNew, held_object}
use Rattle.pv_walk.specs.Staging.{HasTarget}

-- ---- single pieces

-- What an object is, with its content, target or device numbers.
abbrev pub what_of : Body → NewKind
what_of body = by body.kind
  where
    by : Kind → NewKind
    by Directory = new.Directory
    by File = new.File body.payload
    by Link = new.Link body.payload
    by Fifo = new.Fifo
    by CharDevice = new.Device false body.major body.minor
    by BlockDevice = new.Device true body.major body.minor

-- An object after it was made with its content, before it gets its metadata.
abbrev pub plain : ObjectState → ObjectState
plain b = object_state_of (held_object (what_of b.body) 0)

-- A copy of this object can be made: its target and its metadata are allowed, and its other parts fit its kind.
pub record IsWhole (b : ObjectState) : Type 0 where
  pub target : HasTarget (what_of b.body)
  pub body : (plain b).body ≡ b.body
  pub metadata : IsMetadata b.body.kind b.metadata

-- A piece can be done in a tree, below the path `stage`.
abbrev pub CanDo : Path → Piece → Files → Type 0
CanDo stage (Make rest what) t = (stage ++ rest ≢ []) × (HasRoom (places t) (stage ++ rest) × HasTarget what)
CanDo stage (Give rest metadata) t = CanSetMetadata t (stage ++ rest) metadata

-- The second tree is the first after a piece was done with the time `now`.
abbrev pub IsDone : ℕ → Path → Piece → Files → Files → Type 0
IsDone now stage (Make rest what) t u = places u ≡ made now (stage ++ rest) (held_object what now) (places t)
IsDone now stage (Give rest metadata) t u = ChangedAt (with_metadata metadata) (stage ++ rest) now t u

-- An intermediate state of a piece.
abbrev pub PieceWay : Path → Piece → Files → Files → Type 0
PieceWay stage (Make rest what) t u = Beginning (stage ++ rest) what t u
PieceWay stage (Give rest metadata) t u = SettingMetadata (stage ++ rest) metadata t u

-- A step belongs to a piece.
abbrev pub GivesPiece : Path → Piece → Files → Step → Type 0
GivesPiece stage (Make rest what) t step = BeginsNew (stage ++ rest) what step
GivesPiece stage (Give rest metadata) t step = GivesMetadata (stage ++ rest) metadata t step

-- At most how many steps a piece takes.
abbrev pub piece_cost : Piece → ℕ
piece_cost (Make rest what) = 2
piece_cost (Give rest metadata) = 5

-- ---- lists of pieces, the last one first

-- At most how many steps a list of pieces takes.
abbrev pub cost_of : List Piece → ℕ
cost_of [] = 0
cost_of (piece ∷ pieces) = cost_of pieces + piece_cost piece

-- The objects after a piece was done.
abbrev pub after_piece : Piece → Subtree → Subtree
after_piece (Make rest what) s q = if same_path rest q then Some (object_state_of (held_object what 0)) else s q
after_piece (Give rest metadata) s q = if same_path rest q then option_map (λ (b : ObjectState). record b { metadata = metadata }) (s q) else s q

-- The objects after a list of pieces was done, the last one first.
abbrev pub built : List Piece → Subtree → Subtree
built [] s = s
built (piece ∷ pieces) s = after_piece piece (built pieces s)

-- An object can be made here: it is the top, or a directory is at the path above it.
abbrev pub HasPlace : Subtree → Path → Type 0
HasPlace s rest = (rest ≡ []) ⊎ ((is_some (s []) ≡ true) × (option_map (λ b. b.body.kind) (s (parent_of rest)) ≡ Some Directory))

-- All below a path is as it is in a subtree.
abbrev pub IsFilledBelow : Subtree → Subtree → Path → Type 0
IsFilledBelow subtree s rest = (name : List ℕ) (below : Path) → s (rest ++ name ∷ below) ≡ subtree (rest ++ name ∷ below)

-- A piece of this subtree can be done if these objects are there. A Make needs a free path with a directory above
-- it. A Give needs the object as it was made, with all below it complete.
abbrev pub IsDoable : Subtree → Subtree → Piece → Type 0
IsDoable subtree s (Make rest what) = (b : ObjectState) × ((subtree rest ≡ Some b) × (IsWhole b × ((what ≡ what_of b.body) × ((s rest ≡ None) × HasPlace s rest))))
IsDoable subtree s (Give rest metadata) = (b : ObjectState) × ((subtree rest ≡ Some b) × (IsWhole b × ((metadata ≡ b.metadata) × ((s rest ≡ Some (plain b)) × IsFilledBelow subtree s rest))))

-- Each piece of a list can be done, the last one first.
abbrev pub AreDoable : Subtree → Subtree → List Piece → Type 0
AreDoable subtree s [] = Unit {0}
AreDoable subtree s (piece ∷ pieces) = AreDoable subtree s pieces × IsDoable subtree (built pieces s) piece

-- The objects that a list of pieces makes if nothing was there.
abbrev pub made_of : List Piece → Subtree
made_of pieces = built pieces (λ q. None)

-- Each piece of a list can be done if nothing was there at first.
abbrev pub IsPlan : List Piece → Type 0
IsPlan pieces = AreDoable (made_of pieces) (λ q. None) pieces

-- ---- how they are listed

-- The names directly below a path in what is copied.
abbrev pub names_at : Path → Files → Path → List (List ℕ)
names_at source t rest = names_below t (source ++ rest)

-- The last piece for an object: its metadata.
abbrev pub last_piece : Path → Option ObjectState → List Piece
last_piece rest None = []
last_piece rest (Some b) = Give rest b.metadata ∷ []

-- What comes before it: the piece that makes the object, and the tasks for its children.
abbrev pub tasks_before : Path → List (List ℕ) → Option ObjectState → List Task
tasks_before rest names None = []
tasks_before rest names (Some b) = Close (Make rest (what_of b.body)) ∷ map (λ name. Open (rest ++ name ∷ [])) names

-- The pieces that a task gives at once.
abbrev pub pieces_now : Subtree → Task → List Piece
pieces_now subtree (Close piece) = piece ∷ []
pieces_now subtree (Open rest) = last_piece rest (subtree rest)

-- The tasks that are left after it.
abbrev pub tasks_left : Subtree → (Path → List (List ℕ)) → Task → List Task
tasks_left subtree names (Close piece) = []
tasks_left subtree names (Open rest) = tasks_before rest (names rest) (subtree rest)
