-- Looking up the name of an entry in a set of names.
use Rattle.std.specs.Prelude.{ℕ, Bool, List}
use Rattle.std.specs.HashSet.{contains_by}
use Rattle.std.specs.Str.{bytes_eq}
use Rattle.pv_accounts.specs.declared.entry_names.EntryNames.{EntryNames}

-- Whether a name is in the set.
abbrev pub is_among : EntryNames → List ℕ → Bool
is_among names name = contains_by (λ k. bytes_eq name k.now) names.names
