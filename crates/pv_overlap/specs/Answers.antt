-- The pairs of heads for which there is a path. Heads are counted from 0.
use Rattle.std.specs.Prelude.{◌≡◌, ◌↔◌, ℕ, ◌<◌, ◌⊎◌, List, Option, Some, None, Contains}
use Rattle.pv_path.specs.Paths.{Path}
use Rattle.pv_overlap.specs.declared.pair.Pair.{Pair}

-- Which answers are allowed for the indices of two heads, the lower index first: a path or none.
abbrev pub Answers : Type 1
Answers = ℕ → ℕ → Option Path → Type 0

-- The same answers are allowed.
abbrev pub SameAnswers : Answers → Answers → Type 0
SameAnswers old new = (i j : ℕ) (answer : Option Path) → old i j answer ↔ new i j answer

-- A pair of two heads, with a path that is an allowed answer for them.
abbrev pub IsAnswered : Answers → ℕ → Pair → Type 0
IsAnswered answers heads pair = (pair.first < pair.second) × (pair.second < heads) × answers pair.first pair.second (Some pair.path)

-- Two heads are among the pairs, or the answer that there is no path is allowed.
abbrev pub IsReported : Answers → List Pair → ℕ → ℕ → Type 0
IsReported answers pairs i j = ((path : Path) × Contains pairs (record { first = i; second = j; path = path })) ⊎ answers i j None

-- Pairs are ordered by their first indices, and then by their second ones.
abbrev pub ComesBefore : Pair → Pair → Type 0
ComesBefore p q = (p.first < q.first) ⊎ ((p.first ≡ q.first) × (p.second < q.second))
