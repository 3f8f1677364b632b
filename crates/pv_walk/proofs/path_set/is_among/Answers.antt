use Rattle.std.proofs.Common.{◌∙◌}
use Rattle.pv_walk.proofs.FindingLaws.{one_of-tied}
use Rattle.pv_walk.proofs.path_set.is_among.Goals as goal

pub returns : goal.returns
returns c = c.contains.ensures ∙ one_of-tied c.args.paths.now.keys c.args.path.now
