use Rattle.pv_image.specs.Reading.{texts}
use Rattle.pv_image.proofs.Columns.{none_plain, none_path}
use Rattle.pv_image.proofs.node.entry_with.Goals as goal

pub returns-in_default : goal.returns-in_default
returns-in_default c =
    let l = c.args.line.now in
    none_plain c.args.version l.kind.now l.path.now l.mode.now l.uid.now l.gid.now l.stamps.now l.acl.now (texts l.extras.now) l.payload.now (rw c.in_default.is at c.read_plain.ensures)

pub returns-in_default-2 : goal.returns-in_default-2
returns-in_default-2 c =
    let l = c.args.line.now in
    none_path c.args.version l.kind.now l.path.now l.mode.now l.uid.now l.gid.now l.stamps.now l.acl.now (texts l.extras.now) l.payload.now (rw c.in_default-2.is at c.in_ok-path.ensures)

pub object_with-requires : goal.object_with-requires
object_with-requires c = let read = rw c.in-Some.is at c.read_plain.ensures in record { mode = read.0.mode; plain = read }

pub returns-in_default-3 : goal.returns-in_default-3
returns-in_default-3 c = rw c.in_default-3.is at (c.in_ok-object.ensures c.in-Some-2.path (rw c.in-Some-2.is at c.in_ok-path.ensures))

pub returns : goal.returns
returns c = rw c.in-Some-3.is at (c.in_ok-object.ensures c.in-Some-2.path (rw c.in-Some-2.is at c.in_ok-path.ensures))
