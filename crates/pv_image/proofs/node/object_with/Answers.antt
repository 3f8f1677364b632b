use Rattle.pv_image.specs.Reading.{texts}
use Rattle.pv_image.proofs.Columns.{none_acl, none_extras, none_payload, entry_is}
use Rattle.pv_image.proofs.node.object_with.Goals as goal

pub returns-in_default : goal.returns-in_default
returns-in_default c =
    let l = c.args.line.now in λ names read.
    none_acl c.args.version l.kind.now l.path.now l.mode.now l.uid.now l.gid.now l.stamps.now l.acl.now (texts l.extras.now) l.payload.now c.args.plain c.requires.plain (rw c.in_default.is at c.in_ok-acl.ensures)

pub returns-in_default-2 : goal.returns-in_default-2
returns-in_default-2 c =
    let l = c.args.line.now in λ names read.
    none_extras c.args.version l.kind.now l.path.now l.mode.now l.uid.now l.gid.now l.stamps.now l.acl.now (texts l.extras.now) l.payload.now c.args.plain c.requires.plain (rw c.in_default-2.is at c.in_ok-extras.ensures)

pub returns-in_default-3 : goal.returns-in_default-3
returns-in_default-3 c =
    let l = c.args.line.now in λ names read.
    none_payload c.args.version l.kind.now l.path.now l.mode.now l.uid.now l.gid.now l.stamps.now l.acl.now (texts l.extras.now) l.payload.now c.args.plain c.requires.plain (rw c.in_default-3.is at c.in_ok-payload.ensures)

pub returns : goal.returns
returns c =
    let l = c.args.line.now in λ names read.
    rw c.object_of.ensures (entry_is c.args.version l.kind.now l.path.now l.mode.now l.uid.now l.gid.now l.stamps.now l.acl.now (texts l.extras.now) l.payload.now c.args.plain c.requires.plain names c.in-Some.acl c.in-Some-2.extras c.in-Some-3.payload
    read (rw c.in-Some.is at c.in_ok-acl.ensures) (rw c.in-Some-2.is at c.in_ok-extras.ensures) (rw c.in-Some-3.is at c.in_ok-payload.ensures))
