-- The bytes of a source or a sink after a call that moves a whole content.
use Rattle.std.specs.Prelude.{◌<◌, ℕ, Option, List, length, take}
use Rattle.std.specs.Io.KnownBytes.{Appends, Consumes}

-- The call took a prefix of the bytes that were left, and nothing else.
abbrev pub ConsumesPrefix : Option (List ℕ) → Option (List ℕ) → Type 0
ConsumesPrefix old new = (taken : List ℕ) × Consumes old new taken

-- The call appended a proper prefix of the bytes: some or none of them, but not all.
abbrev pub AppendsPrefix : Option (List ℕ) → Option (List ℕ) → List ℕ → Type 0
AppendsPrefix old new bytes = (k : ℕ) × (k < length bytes) × Appends old new (take k bytes)
