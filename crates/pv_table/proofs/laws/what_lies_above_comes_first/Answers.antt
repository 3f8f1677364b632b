use Rattle.pv_table.proofs.OrderLaws.{order_is_create_order}
use Rattle.pv_table.proofs.laws.what_lies_above_comes_first.Goals as goal

pub returns : goal.returns
returns c = order_is_create_order
