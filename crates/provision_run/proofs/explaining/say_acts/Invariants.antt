use Rattle.std.proofs.Common.{◌≡◌, ◌++◌, map, take}
use Rattle.provision_run.specs.Explained.{act_text}
use Rattle.provision_run.proofs.explaining.say_acts.Given as goal

abbrev pub invariant-loop-found : goal.invariant-loop-found
invariant-loop-found l = l.messages ≡ l.initial.messages ++ map (act_text l.path) (take l.found-index l.acts)
