use Rattle.pv_laws.proofs.AgainStops.{again_recovered}
use Rattle.pv_laws.proofs.laws.runs_cut_short_again_and_again_recover.Goals as goal

pub returns : goal.returns
returns c = λ lines moments now later t u tree there are distinct repeatable runs again. again_recovered lines are distinct repeatable moments now later t u tree there runs again
