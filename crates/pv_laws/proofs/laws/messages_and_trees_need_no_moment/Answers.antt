use Rattle.pv_laws.proofs.Moments.{created_same, messages_same}
use Rattle.pv_laws.proofs.laws.messages_and_trees_need_no_moment.Goals as goal

pub returns : goal.returns
returns c = record { new_messages = messages_same; left = created_same }
