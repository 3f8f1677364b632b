use Rattle.std.proofs.Common.{◌≡◌, ◌==◌, length}
use Rattle.std.specs.List.{list_any, slice_split}
use Rattle.std.specs.Str.{bytes_eq}
use Rattle.pv_accounts.specs.Bytes.{comma}
use Rattle.pv_accounts.proofs.edit.is_piece.Given as goal

abbrev pub invariant-loop-piece : goal.invariant-loop-piece
invariant-loop-piece l =
    list_any (λ piece. bytes_eq piece l.word) (slice_split (λ c. c == comma) l.rest) ≡ list_any (λ piece. bytes_eq piece l.word) (slice_split (λ c. c == comma) l.text)

abbrev pub decreases-loop-piece : goal.decreases-loop-piece
decreases-loop-piece l = length l.rest
