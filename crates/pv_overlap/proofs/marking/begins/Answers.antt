use Rattle.std.proofs.Common.{◌∙◌}
use Rattle.pv_path.proofs.Relating.{prefix_from_rest}
use Rattle.pv_overlap.proofs.marking.begins.Goals as goal

pub returns : goal.returns
returns c = c.is_some.ensures ∙ prefix_from_rest c.names_under.result c.args.above.now c.args.path.now c.names_under.ensures
