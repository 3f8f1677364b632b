use Rattle.std.proofs.Common.{◌≡◌, length}
use Rattle.std.specs.List.{list_any}
use Rattle.pv_glob.specs.Elements.{is_bad_range, items_of}
use Rattle.pv_glob.proofs.bracket.has_bad_range.Given as goal

abbrev pub invariant-loop-rest : goal.invariant-loop-rest
invariant-loop-rest l = list_any is_bad_range (items_of l.rest) ≡ list_any is_bad_range (items_of l.body)

abbrev pub decreases-loop-rest : goal.decreases-loop-rest
decreases-loop-rest l = length l.rest
