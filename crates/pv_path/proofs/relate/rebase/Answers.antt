use Rattle.std.proofs.Common.{◌≡◌, Some}
use Rattle.pv_path.specs.Paths.{rest_under}
use Rattle.pv_path.proofs.PathLaws.{has_names-rest}
use Rattle.pv_path.proofs.Relating.{rest_of_prefix}
use Rattle.pv_path.proofs.relate.rebase.Goals as goal

pub followed_by-requires : goal.followed_by-requires
followed_by-requires c =
    let follows = rw (c.names.ensures.value, c.names-2.ensures.value) at c.names_under.ensures in
    let rest : rest_under c.args.from.now c.args.path.now ≡ Some c.in-Some.names.now = cc in
    has_names-rest c.args.from.now c.args.path.now c.in-Some.names.now rest c.names-2.ensures.names

pub unreachable-requires : goal.unreachable-requires
unreachable-requires c =
    rest_of_prefix c.names_under.result c.args.from.now c.args.path.now (rw (c.names.ensures.value, c.names-2.ensures.value) at c.names_under.ensures) c.requires c.in-None.is
