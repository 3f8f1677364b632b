use Rattle.std.proofs.Common.{◌≡◌, ◌++◌, take}
use Rattle.std.specs.List.{flat_map}
use Rattle.std.specs.Option.{option_to_list}
use Rattle.pv_sysusers.proofs.pool.add_need_numbers.Given as goal

abbrev pub invariant-loop-need : goal.invariant-loop-need
invariant-loop-need l = l.numbers.items ≡ l.fn.numbers.items ++ flat_map (λ need. option_to_list need.number) (take l.need-index l.needs)
