use Rattle.std.proofs.Common.{◌≡◌, ◌++◌, map}
use Rattle.pv_folder.specs.Reading.{found_in}
use Rattle.pv_folder.proofs.found.push_found.Given as goal

-- what was gone through of the listing, backwards, is put behind what was there
abbrev pub invariant-loop-item : goal.invariant-loop-item
invariant-loop-item l =
    l.pending.items ≡ l.initial.pending.items ++ map (λ item. found_in l.directory item.now) l.yielded
