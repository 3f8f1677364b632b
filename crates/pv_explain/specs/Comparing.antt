-- Comparing objects in two parts.
use Rattle.std.specs.Prelude.{Bool, ◌&&◌, ◌==◌}
use Rattle.std.specs.Cmp.Lexicographic.{pointwise}
use Rattle.pv_acl.specs.contracts.part.AclPartialEq as acl_eq
use Rattle.pv_walk.specs.declared.object_state.Body.{Body}
use Rattle.pv_walk.specs.declared.object_state.Metadata.{Metadata}
use Rattle.pv_walk.specs.Nodes.{same_kind}
use Rattle.pv_path.specs.Names.{same_bytes}
use Rattle.pv_table.specs.Effects.{same_attr}

-- Whether two objects have the same kind, payload and device numbers.
abbrev pub same_body : Body → Body → Bool
same_body a b = same_kind a.kind b.kind && same_bytes a.payload b.payload && a.major == b.major && a.minor == b.minor

-- Whether two objects have the same metadata.
abbrev pub same_metadata : Metadata → Metadata → Bool
same_metadata a b =
    a.uid == b.uid && a.gid == b.gid && a.special == b.special && (acl_eq.TheImpl.eq-value).it a.acl b.acl
    && pointwise same_attr a.attrs b.attrs && a.letters == b.letters
