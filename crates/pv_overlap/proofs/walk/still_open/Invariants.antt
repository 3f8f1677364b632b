use Rattle.std.proofs.Common.{◌≡◌, filter, take}
use Rattle.pv_path.specs.Paths.{is_prefix}
use Rattle.pv_overlap.specs.Walk.{head_at}
use Rattle.pv_overlap.proofs.walk.still_open.Given as goal

abbrev pub invariant-loop-q : goal.invariant-loop-q
invariant-loop-q l = l.kept.items ≡ filter (λ q. is_prefix (head_at l.order q).path (head_at l.order l.at).path) (take l.q-index l.opened)
