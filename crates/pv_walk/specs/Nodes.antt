-- Objects without their timestamps, and tests of what they are (inode(7)).
use Rattle.std.specs.Prelude.{◌==◌, Bool, true, false, not, ◌&&◌, ◌||◌, Option, option_map}
use Rattle.std.specs.Str.{bytes_eq}
use Rattle.pv_path.specs.Paths.{Path}
use Rattle.pv_steps.specs.Trees.{Places}
use Rattle.pv_steps.specs.declared.node.Kind.{Kind}
use Rattle.pv_steps.specs.declared.node.Kind.TheVariants.{Directory, File, Link, Fifo, CharDevice, BlockDevice}
use Rattle.pv_steps.specs.declared.object.Object.{Object}
use Rattle.pv_walk.specs.declared.object_state.Body.{Body}
use Rattle.pv_walk.specs.declared.object_state.ObjectState.{ObjectState}

-- An object without its timestamps.
abbrev pub object_state_of : Object → ObjectState
object_state_of o = record {
  body = record { kind = o.node.kind; payload = o.payload; major = o.node.major; minor = o.node.minor };
  metadata = record { uid = o.node.uid; gid = o.node.gid; special = o.node.special; acl = o.node.acl; attrs = o.node.attrs; letters = o.node.letters };
}

-- The object at each path, without its timestamps.
abbrev pub object_states_of : Places → Path → Option ObjectState
object_states_of t = λ path. option_map object_state_of (t path)

-- Whether a kind is that of regular files.
abbrev pub is_file : Kind → Bool
is_file File = true
is_file kind = false

-- Whether objects of a kind can have file attribute flags.
abbrev pub carries_letters : Kind → Bool
carries_letters File = true
carries_letters Directory = true
carries_letters kind = false

-- Whether a kind is that of symbolic links.
abbrev pub is_link : Kind → Bool
is_link Link = true
is_link kind = false

-- Whether two kinds are the same.
abbrev pub same_kind : Kind → Kind → Bool
same_kind Directory Directory = true
same_kind File File = true
same_kind Link Link = true
same_kind Fifo Fifo = true
same_kind CharDevice CharDevice = true
same_kind BlockDevice BlockDevice = true
same_kind a b = false

-- Whether a link has the target that is wanted, and a device its numbers. The bytes of a file do not count.
abbrev pub same_substance : Body → Body → Bool
same_substance wanted b =
    (not (is_link b.kind) || bytes_eq wanted.payload b.payload) && wanted.major == b.major && wanted.minor == b.minor
