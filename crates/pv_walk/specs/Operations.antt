-- What lines of configuration do to the object at one path (tmpfiles.d(5)).
use Rattle.std.specs.Prelude.{ℕ, Bool, true, false, not, ◌&&◌, ◌||◌, List, ◌++◌, Option, Some, None, unwrap_or, fold, if◌then◌else◌}
use Rattle.pv_acl.specs.Applying.{acl_after}
use Rattle.pv_acl.specs.Parts as parts
use Rattle.pv_acl.specs.Parts.{special_of}
use Rattle.pv_steps.specs.Attributes.{put_attrs}
use Rattle.pv_steps.specs.Letters.{letters_after}
use Rattle.pv_steps.specs.declared.node.Kind.{Kind}
use Rattle.pv_walk.specs.declared.object_state.Metadata.{Metadata}
use Rattle.pv_walk.specs.declared.object_state.Body.{Body}
use Rattle.pv_walk.specs.declared.object_state.ObjectState.{ObjectState}
use Rattle.pv_walk.specs.declared.operation.Guard.{Guard}
use Rattle.pv_walk.specs.declared.operation.Guard.TheVariants.{Every, NoLink, Only}
use Rattle.pv_walk.specs.declared.operation.Test.{Test}
use Rattle.pv_walk.specs.declared.operation.Change.{Change}
use Rattle.pv_walk.specs.declared.operation.Change.TheVariants.{Write, Append, Owner, Mode, Entries, Attrs, Letters}
use Rattle.pv_walk.specs.declared.operation.Operation.{Operation}
use Rattle.pv_walk.specs.declared.operation.Operation.TheVariants.{Make, Renew, Erase, Apply}
use Rattle.pv_walk.specs.Masks.{with_masked, masked_special}
use Rattle.pv_steps.specs.Objects.{is_directory}
use Rattle.pv_walk.specs.Nodes.{carries_letters, is_file, is_link, same_kind, same_substance}

-- Whether a change is for objects of this kind.
abbrev pub admits : Guard → Kind → Bool
admits Every kind = true
admits NoLink kind = not (is_link kind)
admits (Only wanted) kind = same_kind wanted kind

-- Whether a present object stays if a new one is wanted. It has the same kind and, if the test is exact, the same
-- target or device numbers. If the test spares directories, a directory stays in any case.
abbrev pub stays : Test → Body → Body → Bool
stays test new old =
    (same_kind new.kind old.kind && (not test.exact || same_substance new old))
    || (test.spares_directories && is_directory old.kind)

-- The metadata of an object of a kind after a mode was set, masked or not.
abbrev pub with_mode : Kind → ℕ → Bool → Metadata → Metadata
with_mode kind mode false d = record d { special = special_of mode; acl = record d.acl { access = parts.with_mode mode d.acl.access } }
with_mode kind mode true d = record d { special = masked_special kind mode; acl = record d.acl { access = with_masked mode d.acl.access } }

-- An object of a kind after a change. Only a file gets bytes, and only a directory gets a default part. A link gets
-- no extended attributes, and only files and directories get file attribute flags.
abbrev pub changed : Kind → Change → ObjectState → ObjectState
changed kind (Write bytes) b = if is_file kind then record b { body = record b.body { payload = bytes } } else b
changed kind (Append bytes) b = if is_file kind then record b { body = record b.body { payload = b.body.payload ++ bytes } } else b
changed kind (Owner uid gid) b = record b { metadata = record b.metadata { uid = unwrap_or uid b.metadata.uid; gid = unwrap_or gid b.metadata.gid } }
changed kind (Mode mode masked) b = record b { metadata = with_mode kind mode masked b.metadata }
changed kind (Entries line how) b = record b { metadata = record b.metadata { acl = acl_after b.metadata.acl line how (is_directory kind) } }
changed kind (Attrs attrs) b = if is_link kind then b else record b { metadata = record b.metadata { attrs = put_attrs attrs b.metadata.attrs } }
changed kind (Letters how letters) b = if carries_letters kind then record b { metadata = record b.metadata { letters = letters_after how letters b.metadata.letters } } else b

-- What is at a path after one operation. Make makes the object if there is none. Renew also replaces one that does
-- not stay. Erase removes it. Apply changes a present object that the guard admits.
abbrev pub done : Operation → Option ObjectState → Option ObjectState
done (Make new) None = Some new
done (Make new) (Some b) = Some b
done (Renew test new) None = Some new
done (Renew test new) (Some b) = Some (if stays test new.body b.body then b else new)
done Erase b = None
done (Apply guard change) None = None
done (Apply guard change) (Some b) = Some (if admits guard b.body.kind then changed b.body.kind change b else b)

-- What is at a path after several operations, one after the other.
abbrev pub run : List Operation → Option ObjectState → Option ObjectState
run operations b = fold (λ b operation. done operation b) b operations
