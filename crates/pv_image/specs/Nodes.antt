-- The object that the fields of a node line describe.
use Rattle.std.specs.Prelude.{◌≡◌, ℕ, ◌/◌, ◌≤◌, true, List, [], ◌∷◌, ◌++◌}
use Rattle.std.specs.Fmt.{decimal}
use Rattle.pv_acl.specs.declared.part.Acl.{Acl}
use Rattle.pv_acl.specs.Parts.{base_of, is_acl, part_of_mode}
use Rattle.pv_steps.specs.declared.node.Kind.{Kind}
use Rattle.pv_steps.specs.declared.object.Object.{Object}
use Rattle.pv_steps.specs.Objects.{AclFits, IsId, StampsFit}
use Rattle.pv_image.specs.declared.extras.Extras.{Extras}
use Rattle.pv_image.specs.declared.node.LineTexts.{LineTexts}
use Rattle.pv_image.specs.declared.node.Plain.{Plain}
use Rattle.pv_image.specs.declared.payload.Payload.{Payload}
use Rattle.pv_image.specs.Reading.{texts}
use Rattle.pv_image.specs.Spelling.{kind_text, mode_text, stamps_text}

-- The fields that are letters and digits alone: kind, mode, user, group and timestamps.
abbrev pub plain_texts : Plain → List (List ℕ)
plain_texts plain = kind_text plain.kind ∷ mode_text plain.mode ∷ decimal plain.uid ∷ decimal plain.gid ∷ stamps_text plain.stamps ∷ []

-- The texts of these fields of a line.
abbrev pub plain_columns : LineTexts → List (List ℕ)
plain_columns line = line.kind.now ∷ line.mode.now ∷ line.uid.now ∷ line.gid.now ∷ line.stamps.now ∷ []

-- The texts of all fields of a line, in their order.
abbrev pub all_columns : LineTexts → List (List ℕ)
all_columns line =
    line.kind.now ∷ line.path.now ∷ line.mode.now ∷ line.uid.now ∷ line.gid.now ∷ line.stamps.now ∷ line.acl.now
    ∷ texts line.extras.now ++ line.payload.now ∷ []

-- The values of these fields are in range.
pub record IsPlain (plain : Plain) : Type 0 where
  pub mode : plain.mode ≤ 4095
  pub uid : IsId plain.uid
  pub gid : IsId plain.gid
  pub stamps : StampsFit plain.stamps

-- An object of this kind may have this ACL beside this mode. The mode gives its base entries.
pub record IsAclOf (kind : Kind) (mode : ℕ) (acl : Acl) : Type 0 where
  pub base : base_of acl.access ≡ part_of_mode mode
  pub allowed : is_acl acl ≡ true
  pub fits : AclFits kind (mode / 512) acl

-- The object that the values of the fields describe.
abbrev pub object_of : Plain → Acl → Extras → Payload → Object
object_of plain acl extras payload = record {
  node = record {
    kind = plain.kind;
    special = plain.mode / 512;
    uid = plain.uid;
    gid = plain.gid;
    acl = acl;
    stamps = plain.stamps;
    major = payload.major;
    minor = payload.minor;
    attrs = extras.attrs;
    letters = extras.letters;
  };
  payload = payload.bytes;
}
