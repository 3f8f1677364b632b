use Rattle.std.proofs.Common.{◌∙◌}
use Rattle.pv_glob.proofs.OneName.{one_is}
use Rattle.pv_glob.proofs.literal_name.is_matched.Goals as goal

pub returns : goal.returns
returns c = c.matches.ensures ∙ one_is c.push.new.self c.root-plain.result c.args.component.now c.in_ok-copied.field-0 c.args.name.now c.in_ok-copy.field-0 c.root-plain.ensures c.in_ok-push.ensures.ok c.in_ok-copied.ensures c.in_ok-copy.ensures c.requires
