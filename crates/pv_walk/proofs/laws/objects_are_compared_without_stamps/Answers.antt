use Rattle.pv_walk.proofs.OperationLaws.{object_state_of-same, object_state-same, object_states_of-same, object_states-same}
use Rattle.pv_walk.proofs.laws.objects_are_compared_without_stamps.Goals as goal

pub returns : goal.returns
returns c = record { same = object_state_of-same; back = object_state-same; places_same = object_states_of-same; places_back = object_states-same }
