use Rattle.std.proofs.Common.{◌∙◌, ◌++◌, List, ap}
use Rattle.std.proofs.lemmas.Iterator.Adapters.{YieldsList-from_rev_slice}
use Rattle.std.proofs.lemmas.Iterator.Consumers.{YieldsList-end}
use Rattle.pv_folder.specs.declared.found.Found.{Found}
use Rattle.pv_folder.specs.Reading.{found_in}
use Rattle.pv_folder.proofs.ListingLaws.{map_now}
use Rattle.pv_folder.proofs.found.push_found.Goals as goal

pub returns-clause-pushed : goal.returns-clause-pushed
returns-clause-pushed c =
    let all = YieldsList-end (YieldsList-from_rev_slice c.args.items.now cc) c.loop-item.yielded _ c.loop-item.yielded_by _ _ c.in-None.is c.next.ensures.steps in
    c.loop-item.invariant
    ∙ ap (λ (more : List Found). c.args.pending.now.items ++ more) (map_now (found_in c.args.directory.now) c.args.items.now c.loop-item.yielded all.0)
