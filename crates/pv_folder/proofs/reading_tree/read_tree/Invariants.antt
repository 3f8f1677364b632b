use Rattle.std.proofs.Common.{◌≡◌, ◌≤◌, ◌-◌, ◌+◌}
use Rattle.pv_folder.specs.Content.{spelled}
use Rattle.pv_folder.specs.Merge.{IsPlain}
use Rattle.pv_folder.specs.Opening.{most_bytes, most_objects}
use Rattle.pv_folder.proofs.GoingLaws.{IsGoing}
use Rattle.pv_folder.proofs.reading_tree.read_tree.Given as goal

-- what was found and not looked at leads to the rest of the tree
abbrev pub invariant-loop-found : goal.invariant-loop-found
invariant-loop-found g l =
    IsGoing (g.H.Host.content l.fn.host) (spelled l.folder) l.reading.objects l.reading.bytes l.reading.builder.files l.reading.builder.last l.reading.pending.items
    × (l.reading.objects ≤ most_objects) × (l.reading.bytes ≤ most_bytes)
    × (g.H.Host.content l.host ≡ g.H.Host.content l.fn.host) × (g.H.Host.faults l.fn.host ≤ g.H.Host.faults l.host)
    × IsPlain l.reading.builder.files × (g.H.Host.changes l.host ≡ g.H.Host.changes l.fn.host)

abbrev pub decreases-loop-found : goal.decreases-loop-found
decreases-loop-found g l = most_objects + 1 - l.reading.objects
