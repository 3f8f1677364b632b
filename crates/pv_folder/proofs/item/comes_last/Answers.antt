use Rattle.std.proofs.Common.{◌∙◌}
use Rattle.pv_folder.proofs.Listing.{last_decides}
use Rattle.pv_folder.proofs.item.comes_last.Goals as goal

pub returns-in-len1-up : goal.returns-in-len1-up
returns-in-len1-up c =
    c.comes_before.ensures ∙ last_decides c.args.items.now c.last-item.result c.args.item.now c.in-len1-up.len_at_least c.last-item.is c.requires
