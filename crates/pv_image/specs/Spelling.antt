-- How facts and nodes are spelled in the two versions of a tree image. The form is this project's own. ACLs are
-- written as in acl(5), without the base entries, names of attributes as in xattr(7), and file attribute flags as in
-- chattr(1). The bytes of files are in Base64, as the engine `STANDARD` encodes them.
use Rattle.std.specs.Prelude.{◌≡◌, ℕ, ◌+◌, ◌/◌, ◌%◌, Bool, true, List, [], ◌∷◌, ◌++◌, map, codes}
use Rattle.std.specs.List.{flat_map, join_with_byte}
use Rattle.std.specs.Fmt.{decimal}
use Rattle.std.specs.FinMap as fin
use Rattle.base64.specs.GeneralPurpose.{encode_of}
use Rattle.base64.specs.Engines.{standard}
use Rattle.pv_path.specs.Names.{is_name}
use Rattle.pv_path.specs.Paths.{Path, has_names}
use Rattle.pv_path.specs.Printing.{is_plain_but, printed, printed_by, printed_path}
use Rattle.pv_acl.specs.Parts.{mode_of}
use Rattle.pv_acl.specs.Texts.{acl_text, or_dash}
use Rattle.pv_text.specs.Facts.{Values}
use Rattle.pv_steps.specs.declared.attr.Attr.{Attr}
use Rattle.pv_steps.specs.declared.node.Kind.{Kind}
use Rattle.pv_steps.specs.declared.node.Kind.TheVariants.{Directory, File, Link, Fifo, CharDevice, BlockDevice}
use Rattle.pv_steps.specs.declared.node.Stamps.{Stamps}
use Rattle.pv_steps.specs.declared.object.Object.{Object}
use Rattle.pv_steps.specs.Attributes.{are_bytes}
use Rattle.pv_steps.specs.Letters.{letters_of}
use Rattle.pv_steps.specs.Objects.{IsObject, PayloadFits, NumbersFit, AttrsFit, LettersFit}
use Rattle.pv_steps.specs.Trees.{Files}
use Rattle.pv_image.specs.declared.extras.Extras.{Extras}
use Rattle.pv_image.specs.declared.payload.Payload.{Payload}
use Rattle.pv_image.specs.declared.version.Version.{Version}
use Rattle.pv_image.specs.declared.version.Version.TheVariants.{One, Two}

-- ---- names and paths

-- Bytes are a name.
abbrev pub IsName : List ℕ → Type 0
IsName bytes = is_name bytes ≡ true

-- Each component of a path is a name.
abbrev pub HasNames : Path → Type 0
HasNames path = has_names path ≡ true

-- What is between the slashes of a printed path.
abbrev pub path_texts : Path → List (List ℕ)
path_texts [] = [] ∷ [] ∷ []
path_texts (name ∷ path) = [] ∷ map printed (name ∷ path)

-- ---- the fields of a node

-- The letter of a kind: `d` directory, `f` file, `l` link, `p` FIFO, `c` character device, `b` block device.
abbrev pub kind_text : Kind → List ℕ
kind_text Directory = codes "d"
kind_text File = codes "f"
kind_text Link = codes "l"
kind_text Fifo = codes "p"
kind_text CharDevice = codes "c"
kind_text BlockDevice = codes "b"

-- A mode as four octal digits.
abbrev pub mode_text : ℕ → List ℕ
mode_text mode = (48 + mode / 512 % 8) ∷ (48 + mode / 64 % 8) ∷ (48 + mode / 8 % 8) ∷ (48 + mode % 8) ∷ []

-- The four timestamps in decimal: access, birth, change and modification.
abbrev pub stamp_texts : Stamps → List (List ℕ)
stamp_texts stamps = decimal stamps.access ∷ decimal stamps.birth ∷ decimal stamps.change ∷ decimal stamps.modify ∷ []

-- The timestamps with commas between them.
abbrev pub stamps_text : Stamps → List ℕ
stamps_text stamps = join_with_byte 44 (stamp_texts stamps)

-- The bytes of a file in Base64, or `-` if there are none.
abbrev pub content_text : List ℕ → List ℕ
content_text [] = codes "-"
content_text (b ∷ bs) = encode_of standard (b ∷ bs)

-- The two numbers of a device in decimal.
abbrev pub number_texts : ℕ × ℕ → List (List ℕ)
number_texts numbers = decimal numbers.0 ∷ decimal numbers.1 ∷ []

-- The numbers of a device with a colon between them.
abbrev pub numbers_text : ℕ × ℕ → List ℕ
numbers_text numbers = join_with_byte 58 (number_texts numbers)

-- The payload of an object together with its device numbers.
abbrev pub payload_of : Object → Payload
payload_of o = record { bytes = o.payload; major = o.node.major; minor = o.node.minor }

-- The last field of a node: the bytes of a file, the printed target of a link, the numbers of a device, otherwise
-- `-`.
abbrev pub payload_text : Kind → Payload → List ℕ
payload_text File payload = content_text payload.bytes
payload_text Link payload = printed payload.bytes
payload_text CharDevice payload = numbers_text (payload.major, payload.minor)
payload_text BlockDevice payload = numbers_text (payload.major, payload.minor)
payload_text kind payload = codes "-"

-- ---- extended attributes and file attribute flags

-- Whether a byte of an attribute is printed as itself. The comma and the equals sign are not.
abbrev pub is_plain_in_attr : ℕ → Bool
is_plain_in_attr = is_plain_but (codes ",=")

-- The printed name and the printed value of an attribute.
abbrev pub attr_texts : Attr → List (List ℕ)
attr_texts attr = printed_by is_plain_in_attr attr.name ∷ printed_by is_plain_in_attr attr.value ∷ []

-- An attribute: its name and its value with an equals sign between them.
abbrev pub attr_text : Attr → List ℕ
attr_text attr = join_with_byte 61 (attr_texts attr)

-- Attributes with commas between them, or `-` if there are none.
abbrev pub attrs_text : List Attr → List ℕ
attrs_text [] = codes "-"
attrs_text (attr ∷ attrs) = join_with_byte 44 (map attr_text (attr ∷ attrs))

-- The letters of file attribute flags in byte order, or `-` if there are none.
abbrev pub letters_text : ℕ → List ℕ
letters_text letters = or_dash (letters_of letters)

-- The extended attributes and the file attribute flags of an object.
abbrev pub extras_of : Object → Extras
extras_of o = record { attrs = o.node.attrs; letters = o.node.letters }

-- The fields that version 2 has and version 1 does not have: attributes and flags.
abbrev pub extra_texts : Version → Extras → List (List ℕ)
extra_texts One extras = []
extra_texts Two extras = attrs_text extras.attrs ∷ letters_text extras.letters ∷ []

-- A version can show these attributes and flags. Version 1 can show only objects without any.
abbrev pub Shows : Version → Extras → Type 0
Shows One extras = (extras.attrs ≡ []) × (extras.letters ≡ 0)
Shows Two extras = Unit {0}

-- ---- nodes

-- The fields of a node: kind, path, mode, user, group, timestamps, ACL, then in version 2 attributes and flags, and
-- last the payload.
abbrev pub columns : Version → Path × Object → List (List ℕ)
columns version e =
    kind_text e.1.node.kind ∷ printed_path e.0 ∷ mode_text (mode_of e.1.node.special e.1.node.acl.access) ∷ decimal e.1.node.uid
    ∷ decimal e.1.node.gid ∷ stamps_text e.1.node.stamps ∷ acl_text e.1.node.acl ∷ extra_texts version (extras_of e.1) ++ payload_text e.1.node.kind (payload_of e.1) ∷ []

-- A node line can spell this path and this object. The components of the path are names, a tree may have the object,
-- and the version can show it.
pub record IsEntry (version : Version) (e : Path × Object) : Type 0 where
  pub path : HasNames e.0
  pub object : IsObject e.1
  pub shown : Shows version (extras_of e.1)

-- An object of this kind may have these attributes and flags, and the version can show them.
pub record IsExtras (version : Version) (kind : Kind) (extras : Extras) : Type 0 where
  pub attrs : AttrsFit kind extras.attrs
  pub letters : LettersFit kind extras.letters
  pub shown : Shows version extras

-- An object of this kind may have this payload and these device numbers.
pub record IsPayload (kind : Kind) (payload : Payload) : Type 0 where
  pub fits : PayloadFits kind payload.bytes
  pub are_bytes : are_bytes payload.bytes ≡ true
  pub numbers : NumbersFit kind payload.major payload.minor

-- ---- lines, each without its line feed

-- The header line of a version.
abbrev pub header_text : Version → List ℕ
header_text One = codes "tree-image 1"
header_text Two = codes "tree-image 2"

-- The end line.
abbrev pub end_text : List ℕ
end_text = codes "end"

-- The parts of a fact line: `fact`, the letter, and the printed value.
abbrev pub fact_texts : ℕ × List ℕ → List (List ℕ)
fact_texts fact = codes "fact" ∷ (fact.0 ∷ []) ∷ printed fact.1 ∷ []

-- A fact line: its parts with one space between them.
abbrev pub fact_text : ℕ × List ℕ → List ℕ
fact_text fact = join_with_byte 32 (fact_texts fact)

-- A node line: its fields with one space between them.
abbrev pub node_text : Version → Path × Object → List ℕ
node_text version e = join_with_byte 32 (columns version e)

-- The fields of an object without its path and its timestamps: kind, mode, user, group, ACL, attributes, flags and
-- payload.
abbrev pub object_texts : Object → List (List ℕ)
object_texts o =
    kind_text o.node.kind ∷ mode_text (mode_of o.node.special o.node.acl.access) ∷ decimal o.node.uid ∷ decimal o.node.gid
    ∷ acl_text o.node.acl ∷ attrs_text o.node.attrs ∷ letters_text o.node.letters ∷ payload_text o.node.kind (payload_of o) ∷ []

-- An object without its path and its timestamps: these fields with one space between them.
abbrev pub object_text : Object → List ℕ
object_text o = join_with_byte 32 (object_texts o)

-- ---- the whole text

-- A line with its line feed.
abbrev pub line : List ℕ → List ℕ
line text = text ++ 10 ∷ []

-- The one text of facts and a tree in a version: the header, the facts by letter, the nodes by path, and the end
-- line.
abbrev pub text_in : Version → Values → Files → List ℕ
text_in version facts files =
    flat_map line (header_text version ∷ map fact_text (fin.entries facts) ++ map (node_text version) (fin.entries files) ++ end_text ∷ [])

-- The one text of facts and a tree in version 2, which is written.
abbrev pub text_of : Values → Files → List ℕ
text_of facts files = text_in Two facts files

-- The one text of facts and a tree in version 1.
abbrev pub old_text_of : Values → Files → List ℕ
old_text_of facts files = text_in One facts files
