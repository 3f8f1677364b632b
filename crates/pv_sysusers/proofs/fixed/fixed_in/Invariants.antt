use Rattle.std.proofs.Common.{◌≡◌, ℕ, List, drop}
use Rattle.std.specs.Option.{option_or}
use Rattle.pv_sysusers.specs.Deciding.{fixed_by}
use Rattle.pv_sysusers.specs.Needs.{fixed_for}
use Rattle.pv_sysusers.proofs.fixed.fixed_in.Given as goal

abbrev pub invariant-loop-need : goal.invariant-loop-need
invariant-loop-need l = (name : List ℕ) → option_or (fixed_by l.fixed name) (fixed_for (drop l.need-index l.needs) name) ≡ fixed_for l.needs name
