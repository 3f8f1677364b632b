-- Objects of a tree, and what each kind of change does to one (inode(7), acl(5), xattr(7), chattr(1)).
use Rattle.std.specs.Prelude.{◌≡◌, ℕ, ◌^◌, ◌<◌, ◌≤◌, Bool, true, false, not, ◌==◌, List, [], length, None, nat_lt}
use Rattle.std.specs.List.{list_all}
use Rattle.pv_acl.specs.declared.part.Acl.{Acl}
use Rattle.pv_acl.specs.Parts as parts
use Rattle.pv_acl.specs.Parts.{is_acl, special_of, acl_of_mode}
use Rattle.pv_steps.specs.declared.attr.Attr.{Attr}
use Rattle.pv_steps.specs.Attributes.{are_attrs}
use Rattle.pv_steps.specs.declared.node.Kind.{Kind}
use Rattle.pv_steps.specs.declared.node.Kind.TheVariants.{Directory, File, Link, CharDevice, BlockDevice}
use Rattle.pv_steps.specs.declared.node.Stamps.{Stamps}
use Rattle.pv_steps.specs.declared.object.Object.{Object}

-- ---- objects as such

-- Whether a kind is that of directories.
abbrev pub is_directory : Kind → Bool
is_directory Directory = true
is_directory kind = false

-- All four timestamps at one time.
abbrev pub stamped : ℕ → Stamps
stamped now = record { access = now; birth = now; change = now; modify = now }

-- An object without its timestamps: all four are set to 0.
abbrev pub object_state : Object → Object
object_state o = record o { node = record o.node { stamps = stamped 0 } }

-- A new object. It has this kind, mode, payload and device numbers, and all its timestamps are `now`. It is owned by
-- root, and has no extended attributes and no file attribute flags.
abbrev pub fresh : Kind → ℕ → List ℕ → ℕ → ℕ → ℕ → Object
fresh kind mode payload major minor now = record {
  node = record {
    kind = kind;
    special = special_of mode;
    uid = 0;
    gid = 0;
    acl = acl_of_mode mode;
    stamps = stamped now;
    major = major;
    minor = minor;
    attrs = [];
    letters = 0;
  };
  payload = payload;
}

-- ---- changes of one object

-- An object after a change of its metadata or its name: its change timestamp is `now`.
abbrev pub changed : ℕ → Object → Object
changed now o = record o { node = record o.node { stamps = record o.node.stamps { change = now } } }

-- An object after a change of its content, which is the bytes of a file or the names in a directory. Its change and
-- modification timestamps are `now`.
abbrev pub modified : ℕ → Object → Object
modified now o = record o { node = record o.node { stamps = record o.node.stamps { change = now; modify = now } } }

-- An object after its mode was set: its special bits and its base entries. Named entries, mask and default part
-- stay. Unlike this, chmod(2) changes an explicit mask instead of the owning group's entry (acl(5)).
abbrev pub with_mode : ℕ → ℕ → Object → Object
with_mode mode now o = changed now (record o {
  node = record o.node {
    special = special_of mode;
    acl = record o.node.acl { access = parts.with_mode mode o.node.acl.access };
  };
})

-- An object after its owner and owning group were set.
abbrev pub with_owner : ℕ → ℕ → ℕ → Object → Object
with_owner uid gid now o = changed now (record o { node = record o.node { uid = uid; gid = gid } })

-- An object after its whole ACL was set.
abbrev pub with_acl : Acl → ℕ → Object → Object
with_acl acl now o = changed now (record o { node = record o.node { acl = acl } })

-- An object after its whole list of extended attributes was set.
abbrev pub with_attrs : List Attr → ℕ → Object → Object
with_attrs attrs now o = changed now (record o { node = record o.node { attrs = attrs } })

-- An object after its whole set of file attribute flags was set.
abbrev pub with_letters : ℕ → ℕ → Object → Object
with_letters letters now o = changed now (record o { node = record o.node { letters = letters } })

-- An object after its access and modification timestamps were set.
abbrev pub with_stamps : ℕ → ℕ → ℕ → Object → Object
with_stamps access modify now o = changed now (record o { node = record o.node { stamps = record o.node.stamps { access = access; modify = modify } } })

-- A file after its bytes were set.
abbrev pub with_content : List ℕ → ℕ → Object → Object
with_content content now o = modified now (record o { payload = content })

-- ---- what every object of a tree is

-- A link may have this target: 1 to 4,095 bytes without NUL.
pub record IsTarget (target : List ℕ) : Type 0 where
  pub some : 1 ≤ length target
  pub bound : length target ≤ 4095
  pub no_nul : list_all (λ b. not (b == 0)) target ≡ true

-- An object of this kind may have this payload. A file may have any bytes, a link a target, and other objects have
-- none.
abbrev pub PayloadFits : Kind → List ℕ → Type 0
PayloadFits File payload = Unit {0}
PayloadFits Link payload = IsTarget payload
PayloadFits kind payload = payload ≡ []

-- An object of this kind may have these device numbers. They are below 2^32 for a device, and 0 for other objects.
abbrev pub NumbersFit : Kind → ℕ → ℕ → Type 0
NumbersFit CharDevice major minor = (major < 2 ^ 32) × (minor < 2 ^ 32)
NumbersFit BlockDevice major minor = (major < 2 ^ 32) × (minor < 2 ^ 32)
NumbersFit kind major minor = (major ≡ 0) × (minor ≡ 0)

-- An object of this kind may have this ACL. A link has mode 0777, no named entries, no mask and no default part.
-- Only a directory has a default part.
abbrev pub AclFits : Kind → ℕ → Acl → Type 0
AclFits Directory special acl = Unit {0}
AclFits Link special acl = (special ≡ 0) × (acl ≡ acl_of_mode 0o777)
AclFits kind special acl = acl.default_part ≡ None

-- An object of this kind may have these extended attributes. A link has none.
abbrev pub AttrsFit : Kind → List Attr → Type 0
AttrsFit Link attrs = attrs ≡ []
AttrsFit kind attrs = are_attrs attrs ≡ true

-- An object of this kind may have this set of file attribute flags. Only files and directories have flags.
abbrev pub LettersFit : Kind → ℕ → Type 0
LettersFit Directory letters = letters < 2 ^ 15
LettersFit File letters = letters < 2 ^ 15
LettersFit kind letters = letters ≡ 0

-- Each of the four timestamps is below 2^64.
pub record StampsFit (stamps : Stamps) : Type 0 where
  pub access : stamps.access < 2 ^ 64
  pub birth : stamps.birth < 2 ^ 64
  pub change : stamps.change < 2 ^ 64
  pub modify : stamps.modify < 2 ^ 64

-- A user or a group may have this ID: 0 to 4,294,967,294.
abbrev pub IsId : ℕ → Type 0
IsId id = id ≤ 4294967294

-- A tree may have this object: each of its parts is allowed, and fits its kind.
pub record IsObject (o : Object) : Type 0 where
  pub payload : PayloadFits o.node.kind o.payload
  pub bytes : list_all (λ b. nat_lt b 256) o.payload ≡ true
  pub numbers : NumbersFit o.node.kind o.node.major o.node.minor
  pub special : o.node.special ≤ 7
  pub owner : IsId o.node.uid × IsId o.node.gid
  pub acl : is_acl o.node.acl ≡ true
  pub kind_acl : AclFits o.node.kind o.node.special o.node.acl
  pub stamps : StampsFit o.node.stamps
  pub attrs : AttrsFit o.node.kind o.node.attrs
  pub letters : LettersFit o.node.kind o.node.letters
