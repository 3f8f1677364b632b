-- The order of words and of paths that decides which one is chosen as the first. Shorter ones come first, and
-- letters come before digits (this project's own).
use Rattle.std.specs.Prelude.{◌≡◌, ℕ, ◌+◌, ◌-◌, Bool, true, false, ◌&&◌, nat_le, List, length, map, Option, Some, None, if◌then◌else◌}
use Rattle.std.specs.Ordering.{nat_cmp, is_gt, on, then_cmp}
use Rattle.std.specs.Cmp.Lexicographic.{slice_cmp}
use Rattle.std.specs.declared.cmp.Ordering.{Ordering}
use Rattle.pv_path.specs.Paths.{Path}

-- The rank of a byte in this order: `a` to `z`, `0` to `9`, `A` to `Z`, and then the others by value.
abbrev pub rank : ℕ → ℕ
rank b =
    if nat_le 97 b && nat_le b 122 then b - 97
    else if nat_le 48 b && nat_le b 57 then b - 48 + 26
    else if nat_le 65 b && nat_le b 90 then b - 65 + 36
    else b + 62

-- The order of lists of numbers: by length, and then by the first numbers that differ.
abbrev pub shortlex : List ℕ → List ℕ → Ordering
shortlex = then_cmp (on length nat_cmp) (slice_cmp nat_cmp)

-- The order of words: by length, and then by the ranks of the first bytes that differ.
abbrev pub word_cmp : List ℕ → List ℕ → Ordering
word_cmp = on (map rank) shortlex

-- The order of paths: by their number of names, and then by the first names that differ.
abbrev pub shared_cmp : Path → Path → Ordering
shared_cmp = then_cmp (on length nat_cmp) (slice_cmp word_cmp)

-- A value passes a test, and no value that passes it comes before this one in an order.
pub record IsFirst {A : Type 0} (order : A → A → Ordering) (test : A → Bool) (first : A) : Type 0 where
  pub passes : test first ≡ true
  pub least : (other : A) → test other ≡ true → is_gt (order first other) ≡ false

-- The answer is the first path that passes a test. If the answer is none, no path passes it.
abbrev pub Finds : (Path → Bool) → Option Path → Type 0
Finds test None = (path : Path) → test path ≡ false
Finds test (Some path) = IsFirst shared_cmp test path

-- The earlier of two paths, or the only one if there is just one.
abbrev pub earlier_of : Option Path → Option Path → Option Path
earlier_of None next = next
earlier_of (Some path) None = Some path
earlier_of (Some path) (Some other) = if is_gt (shared_cmp path other) then Some other else Some path
