-- How many calls a source or a sink has had, if it counts them.
use Rattle.std.specs.Prelude.{◌≡◌, ◌≤◌, ◌+◌, ◌^◌, ℕ, min, Option, None, Some, ⊤}

-- The number of the next call after a call with this number. It rises by one, up to 2^64.
abbrev pub call_after : ℕ → ℕ
call_after n = min (n + 1) (2 ^ 64)

-- One more call was counted, if calls are counted.
abbrev pub CountsCall : Option ℕ → Option ℕ → Type 0
CountsCall None new = ⊤
CountsCall (Some n) None = ⊥
CountsCall (Some n) (Some m) = m ≡ call_after n

-- At most this many more calls were counted, if calls are counted.
abbrev pub CountsAtMost : ℕ → Option ℕ → Option ℕ → Type 0
CountsAtMost most None new = ⊤
CountsAtMost most (Some n) None = ⊥
CountsAtMost most (Some n) (Some m) = m ≤ n + most
