-- How calls report the refusal of a line at a path.
use Rattle.std.specs.Prelude.{Option, option_map}
use Rattle.std.specs.Option.{option_and_then}
use Rattle.pv_steps.specs.Trees.{Places}
use Rattle.pv_table.specs.declared.action.Action.{Action}
use Rattle.pv_table.specs.Turns.{Refused, copied, source_refusal}
use Rattle.pv_create.specs.declared.refusing.Refused.{Refused as Answer}
use Rattle.pv_create.specs.declared.refusing.Refused.TheVariants as answer

-- The refusal of what a line copies.
abbrev pub source_refused : Action → Places → Option Refused
source_refused action t = option_and_then (λ source. option_map (λ place. Refused.source source place.0 place.1) (source_refusal t source)) (copied action)

-- The refusal that an answer stands for.
abbrev pub refused_as : Answer → Refused
refused_as (answer.Source path k reason) = Refused.source path.now k reason
refused_as (answer.Named path k reason) = Refused.named path.now k reason
