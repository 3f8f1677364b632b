-- The numbers that may be given to new users and groups (sysusers.d(5), "r").
use Rattle.std.specs.Prelude.{ℕ, zero, suc, Bool, not, ◌&&◌, ◌==◌, nat_le, max, List, [], ◌∷◌, Option, Some, None, if◌then◌else◌}
use Rattle.std.specs.List.{list_any}
use Rattle.pv_accounts.specs.InUse.{Ids, is_held}
use Rattle.pv_requests.specs.declared.request.Request.TheVariants as request
use Rattle.pv_sysusers.specs.Lines.{Line}

-- The range of an `r` line.
abbrev pub range_of : Line → List (ℕ × ℕ)
range_of (request.Range first last place, owners) = (first, last) ∷ []
range_of _ = []

-- The ranges of all `r` lines. If there are none, 1 to 999.
abbrev pub ranges_or_own : List (ℕ × ℕ) → List (ℕ × ℕ)
ranges_or_own [] = (1, 999) ∷ []
ranges_or_own (range ∷ ranges) = range ∷ ranges

-- Whether a number is in a range.
abbrev pub is_between : ℕ → ℕ × ℕ → Bool
is_between n range = nat_le range.0 n && nat_le n range.1

-- Whether a number may be given. It is in a range, it is not 0 or 65535, and no line fixes it.
abbrev pub is_pooled : List (ℕ × ℕ) → List ℕ → ℕ → Bool
is_pooled ranges fixed n =
    list_any (is_between n) (ranges_or_own ranges) && not (n == 0) && not (n == 65535) && not (list_any (λ m. m == n) fixed)

-- The highest number below a bound that passes a test.
unfoldable pub highest : (ℕ → Bool) → ℕ → Option ℕ
highest test zero = None
highest test (suc n) = if test n then Some n else highest test n

-- The last number of a range that is not empty.
abbrev pub last_of : ℕ × ℕ → Option ℕ
last_of range = if nat_le range.0 range.1 then Some range.1 else None

-- The greater one of two numbers, if there are any.
abbrev pub greater : Option ℕ → Option ℕ → Option ℕ
greater None other = other
greater (Some a) None = Some a
greater (Some a) (Some b) = Some (max a b)

-- The highest number of the pool, below a bound, that no user and no group has.
abbrev pub free_below : (ℕ → Bool) → Ids → Ids → ℕ → Option ℕ
free_below pooled users groups bound = highest (λ n. pooled n && not (is_held users n) && not (is_held groups n)) bound

-- The highest number of the pool that no user and no group has. It is at most 4294967294.
abbrev pub free_number : (ℕ → Bool) → Ids → Ids → Option ℕ
free_number pooled users groups = free_below pooled users groups 4294967295
