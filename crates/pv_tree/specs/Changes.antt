-- What a step that changes one object makes of it (chmod(2), chown(2), setxattr(2), chattr(1), utimensat(2),
-- write(2); acl(5)). Also: an object with another node.
use Rattle.std.specs.Prelude.{◌≡◌, ◌≢◌, ℕ, List, [], ◌∷◌, ◌++◌}
use Rattle.pv_path.specs.Paths.{Path, parent_of}
use Rattle.pv_steps.specs.declared.node.Node.{Node}
use Rattle.pv_steps.specs.declared.object.Object.{Object}
use Rattle.pv_steps.specs.declared.step.Step.{Step}
use Rattle.pv_steps.specs.declared.step.Step.TheVariants.{Write, SetMode, SetOwner, SetAcl, SetAttrs, SetLetters, SetStamps}
use Rattle.pv_steps.specs.Trees.{Places, IsPresentIn, IsAbsentIn}
use Rattle.pv_steps.specs.Objects.{IsObject, with_mode, with_owner, with_acl, with_attrs, with_letters, with_stamps, with_content}

-- The object after a step with the time `now`. A step that makes, moves or removes objects leaves it as it is.
abbrev pub change_of : Step → ℕ → Object → Object
change_of (Write path content) now o = with_content content now o
change_of (SetMode path mode) now o = with_mode mode now o
change_of (SetOwner path uid gid) now o = with_owner uid gid now o
change_of (SetAcl path acl) now o = with_acl acl now o
change_of (SetAttrs path attrs) now o = with_attrs attrs now o
change_of (SetLetters path letters) now o = with_letters letters now o
change_of (SetStamps path access modify) now o = with_stamps access modify now o
change_of step now o = o

-- An object is not the root, there is an object above it, and nothing is below it.
pub record IsRemovable (t : Places) (path : Path) : Type 0 where
  pub no_root : path ≢ []
  pub parent : IsPresentIn t (parent_of path)
  pub alone : (name : List ℕ) (rest : Path) → IsAbsentIn t (path ++ name ∷ rest)

-- An object with another node. Its payload stays.
abbrev pub with_node : Node → Object → Object
with_node node o = record o { node = node }

-- An object may get this node: it has the same kind, and a tree may have the object with it.
abbrev pub MayHave : Node → Object → Type 0
MayHave node o = (node.kind ≡ o.node.kind) × IsObject (with_node node o)
