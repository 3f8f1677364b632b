-- What a line that copies sets of an object that stays changes nothing of its own copy.
use Rattle.std.specs.Prelude.{◌≡◌, ℕ, ◌%◌, Bool, true, false, List, ◌∷◌, Option, Some, None, unwrap_or}
use Rattle.std.proofs.Common.{refl, sym, ap, ◌∙◌, arith}
use Rattle.pv_acl.specs.declared.part.Part.{Part}
use Rattle.pv_acl.specs.Parts as parts
use Rattle.pv_acl.specs.Parts.{special_of}
use Rattle.pv_steps.specs.declared.node.Kind.{Kind}
use Rattle.pv_steps.specs.declared.node.Kind.TheVariants.{Directory, File, Link, Fifo, CharDevice, BlockDevice}
use Rattle.pv_walk.specs.declared.object_state.ObjectState.{ObjectState}
use Rattle.pv_walk.specs.declared.operation.Change.TheVariants.{Owner}
use Rattle.pv_walk.specs.declared.operation.Guard.TheVariants.{Every}
use Rattle.pv_walk.specs.declared.operation.Operation.{Operation}
use Rattle.pv_walk.specs.declared.operation.Operation.TheVariants.{Apply}
use Rattle.pv_walk.specs.Masks.{with_masked}
use Rattle.pv_walk.specs.Operations.{run}
use Rattle.pv_walk.proofs.Absorbing.{with_masked-own}
use Rattle.pv_lines.specs.declared.line.Line.{Line}
use Rattle.pv_lines.specs.declared.line.LineId.{LineId}
use Rattle.pv_lines.specs.declared.line.LineMode.{LineMode}
use Rattle.pv_table.specs.declared.action.Copying.{Copying}
use Rattle.pv_table.specs.ActionTable.{id_for_new, id_to_set, without_links, mode_to_set, owners_and_mode, source_of}
use Rattle.pv_table.specs.Turns.{topped_by}
use Rattle.pv_laws.proofs.Sets.{masked_low, no_special, own_owner, mode_of_line}

-- what a line copies
abbrev pub copied_by : Line → Copying
copied_by line = record {
  source = source_of line.argument;
  mode = line.mode;
  uid = id_for_new line.user;
  gid = id_for_new line.group;
  renews = line.replace;
  sets = owners_and_mode Every line;
}

-- a masked mode set again over a part with it, or with what is left of it
masked_again : (value : ℕ) (part : Part) → with_masked value (parts.with_mode value part) ≡ parts.with_mode value part
masked_again value part = λ i. record part { owner = (with_masked-own value i).owner; group = (with_masked-own value i).group; other = (with_masked-own value i).other }

low_again : (value : ℕ) (part : Part) → with_masked value (parts.with_mode (value % 512) part) ≡ parts.with_mode (value % 512) part
low_again value part = λ i. record part { owner = (masked_low value i).owner; group = (masked_low value i).group; other = (masked_low value i).other }

-- owners set again
owners_again : (user group : Option LineId) (d e : ℕ) (xs : List Operation) (top : ObjectState) → top.metadata.uid ≡ unwrap_or (id_for_new user) d → top.metadata.gid ≡ unwrap_or (id_for_new group) e
    → run (Apply Every (Owner (id_to_set user) (id_to_set group)) ∷ xs) (Some top) ≡ run xs (Some top)
owners_again user group d e xs top u g = λ i. run xs (Some (record top {
  metadata = record top.metadata {
    uid = (ap (unwrap_or (id_to_set user)) u ∙ own_owner user d ∙ sym u) i;
    gid = (ap (unwrap_or (id_to_set group)) g ∙ own_owner group e ∙ sym g) i;
  };
}))

-- the object at a line's mode, with its owners
abbrev owned : Line → ObjectState → Kind → ObjectState
owned line b kind = record b {
  body = record b.body { kind = kind };
  metadata = record b.metadata { uid = unwrap_or (id_for_new line.user) b.metadata.uid; gid = unwrap_or (id_for_new line.group) b.metadata.gid };
}

abbrev of_kind : ObjectState → Kind → ObjectState
of_kind b kind = record b { body = record b.body { kind = kind } }

abbrev IsSetAgain : Line → Option LineMode → ObjectState → Kind → Type 0
IsSetAgain line mode b kind =
    run (mode_to_set mode (without_links Every)) (Some (topped_by (copied_by (record line { mode = mode })) (of_kind b kind))) ≡ Some (topped_by (copied_by (record line { mode = mode })) (of_kind b kind))

low_special : (line : Line) (b : ObjectState) (kind : Kind) (value : ℕ)
    → record (owned line b kind) { metadata = record (owned line b kind).metadata { special = 0; acl = record b.metadata.acl { access = with_masked value (parts.with_mode (value % 512) b.metadata.acl.access) } } }
    ≡ record (owned line b kind) { metadata = record (owned line b kind).metadata { special = special_of (value % 512); acl = record b.metadata.acl { access = parts.with_mode (value % 512) b.metadata.acl.access } } }
low_special line b kind value = λ i. record (owned line b kind) {
  metadata = record (owned line b kind).metadata { special = sym (no_special value) i; acl = record b.metadata.acl { access = low_again value b.metadata.acl.access i } };
}

mode_again : (line : Line) (mode : Option LineMode) (b : ObjectState) (kind : Kind) → IsSetAgain line mode b kind
mode_again line None b kind = refl
mode_again line (Some mode) b kind = by kind mode.new_only mode.masked
  where
    by : (k : Kind) (new_only masked : Bool) → IsSetAgain line (Some (mode_of_line mode.value new_only masked)) b k
    by k true masked = refl
    by Link false masked = refl
    by Directory false false = refl
    by File false false = refl
    by Fifo false false = refl
    by CharDevice false false = refl
    by BlockDevice false false = refl
    by Directory false true = λ i. Some (record (owned line b Directory) { metadata = record (owned line b Directory).metadata { special = special_of mode.value; acl = record b.metadata.acl { access = masked_again mode.value b.metadata.acl.access i } } })
    by File false true = ap (λ (x : ObjectState). Some x) (low_special line b File mode.value)
    by Fifo false true = ap (λ (x : ObjectState). Some x) (low_special line b Fifo mode.value)
    by CharDevice false true = ap (λ (x : ObjectState). Some x) (low_special line b CharDevice mode.value)
    by BlockDevice false true = ap (λ (x : ObjectState). Some x) (low_special line b BlockDevice mode.value)

top_owners : (line : Line) (mode : Option LineMode) (b : ObjectState) (kind : Kind) → ((topped_by (copied_by (record line { mode = mode })) (of_kind b kind)).metadata.uid ≡ unwrap_or (id_for_new line.user) b.metadata.uid) × ((topped_by (copied_by (record line { mode = mode })) (of_kind b kind)).metadata.gid ≡ unwrap_or (id_for_new line.group) b.metadata.gid)
top_owners line mode b kind = grind arith

-- so all that is set changes nothing of it
pub top_again : (line : Line) (b : ObjectState) → run (copied_by line).sets (Some (topped_by (copied_by line) b)) ≡ Some (topped_by (copied_by line) b)
top_again line b =
    let owners = top_owners line line.mode b b.body.kind in
    owners_again line.user line.group b.metadata.uid b.metadata.gid (mode_to_set line.mode (without_links Every)) (topped_by (copied_by line) b) owners.0 owners.1
    ∙ mode_again line line.mode b b.body.kind
