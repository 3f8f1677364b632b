use Rattle.std.proofs.Common.{◌≡◌, ℕ, List, [], map, drop}
use Rattle.pv_accounts.specs.Among.{is_among}
use Rattle.pv_accounts.specs.Entries.{is_gshadow}
use Rattle.pv_sysusers.specs.Texts.{is_known, without_entry}
use Rattle.pv_sysusers.proofs.texts.without_entry.Given as goal

abbrev pub invariant-loop-need : goal.invariant-loop-need
invariant-loop-need l =
    (without_entry is_gshadow l.file (map (λ n. n.now) l.names.items) (drop l.need-index l.needs) ≡ without_entry is_gshadow l.file [] l.needs)
    × ((other : List ℕ) → is_among l.known other ≡ is_known is_gshadow l.file (map (λ n. n.now) l.names.items) other)
