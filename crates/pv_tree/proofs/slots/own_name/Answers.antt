use Rattle.std.proofs.Common.{sym}
use Rattle.pv_path.proofs.PathLaws.{path_parts, no_last_name}
use Rattle.pv_tree.proofs.slots.own_name.Goals as goal

pub returns : goal.returns
returns c = path_parts c.args.path.now c.in-Some.name.now (sym c.in-Some.ensures)

pub unreachable-requires : goal.unreachable-requires
unreachable-requires c = c.requires (no_last_name c.args.path.now (sym c.in-None.ensures))
