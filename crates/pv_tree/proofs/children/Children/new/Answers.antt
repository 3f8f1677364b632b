use Rattle.pv_tree.proofs.Names.{as_empty}
use Rattle.pv_tree.proofs.children.Children.new.Goals as goal

pub returns : goal.returns
returns c = as_empty c.new.result.items c.new.ensures.items
