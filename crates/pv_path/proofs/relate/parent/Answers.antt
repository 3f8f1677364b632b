use Rattle.std.proofs.Common.{◌-◌, length}
use Rattle.pv_path.proofs.PathLaws.{has_names-take}
use Rattle.pv_path.proofs.relate.parent.Goals as goal

pub of-requires : goal.of-requires
of-requires c = rw c.names.ensures.value (has_names-take (length c.args.path.now - 1) c.args.path.now c.names.ensures.names)
