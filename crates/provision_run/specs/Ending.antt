-- How a run over a tree ends.
use Rattle.std.specs.Prelude.{Bool, true, if◌then◌else◌}
use Rattle.pv_steps.specs.declared.carried.Carried.{Carried}
use Rattle.pv_steps.specs.declared.carried.Carried.TheVariants as carried
use Rattle.provision_run.specs.declared.ending.RunEnd.{RunEnd}
use Rattle.provision_run.specs.declared.ending.RunEnd.TheVariants.{Done, ConfigInvalid, NotCarriedOut}

-- Something was refused or left unfinished, or a FILE argument was not found.
abbrev pub is_uncarried : Carried → Bool → Bool
is_uncarried carried.Whole missing = missing
is_uncarried carried.NotCarriedOut missing = true

-- The end of a run. It is NotCarriedOut if something was not carried out. Otherwise it is ConfigInvalid if a line is
-- invalid, and Done if none is.
abbrev pub end_of : Bool → Bool → RunEnd
end_of uncarried invalid = if uncarried then NotCarriedOut else if invalid then ConfigInvalid else Done
