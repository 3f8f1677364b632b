use Rattle.std.proofs.Common.{◌∙◌}
use Rattle.pv_path.proofs.Relating.{prefix_from_rest}
use Rattle.pv_path.proofs.relate.is_prefix.Goals as goal

pub returns : goal.returns
returns c =
    c.is_some.ensures ∙ prefix_from_rest c.names_under.result c.args.a.now c.args.b.now (rw (c.names.ensures.value, c.names-2.ensures.value) at c.names_under.ensures)
