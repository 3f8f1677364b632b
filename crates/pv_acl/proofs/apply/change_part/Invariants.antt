use Rattle.std.proofs.Common.{◌≡◌, take, fold}
use Rattle.pv_acl.specs.Applying.{put_entry, kept}
use Rattle.pv_acl.proofs.apply.change_part.Given as goal

abbrev pub invariant-loop-entry : goal.invariant-loop-entry
invariant-loop-entry l = l.new ≡ fold put_entry (kept l.fn.how l.part) (take l.entry-index l.entry-items)
