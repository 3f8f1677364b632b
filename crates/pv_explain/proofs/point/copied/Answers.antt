use Rattle.std.proofs.Common.{sym}
use Rattle.pv_path.proofs.PathLaws.{has_names-rest}
use Rattle.pv_explain.proofs.point.copied.Goals as goal

pub after_copying-requires-clause-names : goal.after_copying-requires-clause-names
after_copying-requires-clause-names c =
    let follows = rw (c.names.ensures.value, c.names-2.ensures.value) at c.in-Some.ensures in
    has_names-rest c.args.turn.now.path.now c.args.other.now c.in-Some.rest.now (sym follows) c.names-2.ensures.names
