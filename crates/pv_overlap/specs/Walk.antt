-- What is known while heads are read in order: which of them are prefixes of the next one, and which answers were
-- found.
use Rattle.std.specs.Prelude.{◌≡◌, ◌≢◌, ℕ, ◌<◌, ◌≤◌, ◌⊎◌, min, max, true, List, [], length, map, slice_index_or, All, AllPairs, Contains, Option, Some, None}
use Rattle.std.specs.Ordering.{nat_cmp, ordering_then}
use Rattle.std.specs.declared.cmp.Ordering.{Ordering}
use Rattle.std.specs.declared.cmp.Ordering.TheVariants.{Greater}
use Rattle.std.specs.BTreeMap.{BTreeMap, get}
use Rattle.pv_path.specs.Paths.{Path, path_cmp, is_prefix}
use Rattle.pv_overlap.specs.declared.walk.Head.{Head}
use Rattle.pv_overlap.specs.Answers.{Answers}
use Rattle.pv_overlap.specs.Questions.{Question}

-- The head at an index after the end of a list.
abbrev pub no_head : Head
no_head = record { path = []; index = 0 }

abbrev pub head_at : List Head → ℕ → Head
head_at order at = slice_index_or order at no_head

-- A head has the path at its index in a list of paths.
abbrev pub IsHeadOf : List Path → Head → Type 0
IsHeadOf heads head = (head.index < length heads) × (head.path ≡ slice_index_or heads head.index [])

-- Heads in the order of their paths, each once and with its index.
pub record IsOrderOf (heads : List Path) (order : List Head) : Type 0 where
  pub all : (i : ℕ) → i < length heads → (k : ℕ) × (k < length order) × ((head_at order k).index ≡ i)
  pub each : (k : ℕ) → k < length order → IsHeadOf heads (head_at order k)
  pub once : (k l : ℕ) → k < l → l < length order → (head_at order k).index ≢ (head_at order l).index
  pub sorted : (k l : ℕ) → k ≤ l → l < length order → path_cmp (head_at order k).path (head_at order l).path ≢ Greater

-- The open heads among those before an index `at`, in order. These include each one that is a prefix of a head at or
-- after `at`.
pub record IsOpen (order : List Head) (at : ℕ) (open' : List ℕ) : Type 0 where
  pub below : All (λ q. q < at) open'
  pub rising : AllPairs ◌<◌ open'
  pub all : (q p : ℕ) → q < at → at ≤ p → p < length order → is_prefix (head_at order q).path (head_at order p).path ≡ true → Contains open' q

-- The question about two heads, and the questions about the head at an index and some others.
abbrev pub question_of : Head → Head → Question
question_of a b = (min a.index b.index, max a.index b.index)

abbrev pub questions_at : List Head → ℕ → List ℕ → List Question
questions_at order at places = map (λ q. question_of (head_at order q) (head_at order at)) places

-- The paths that were found, by the indices of two heads.
abbrev pub Found : Type 0
Found = BTreeMap (ℕ × ℕ) Path

-- Pairs of indices are ordered by the first, and then by the second.
abbrev pub key_cmp : ℕ × ℕ → ℕ × ℕ → Ordering
key_cmp x y = ordering_then (nat_cmp x.0 y.0) (nat_cmp x.1 y.1)

abbrev pub found_at : Found → ℕ → ℕ → Option Path
found_at found i j = get key_cmp found (i, j)

-- What was found are allowed answers.
abbrev pub IsSound : Answers → ℕ → Found → Type 0
IsSound answers heads found = (i j : ℕ) (path : Path) → found_at found i j ≡ Some path → (i < j) × (j < heads) × answers i j (Some path)

-- A path was found for two heads.
abbrev pub IsFound : Found → ℕ → ℕ → Type 0
IsFound found i j = (path : Path) × (found_at found i j ≡ Some path)

-- For two heads a path was found, or the answer that there is none is allowed.
abbrev pub HasAnswer : Answers → Found → ℕ → ℕ → Type 0
HasAnswer answers found i j = (i < j → IsFound found i j ⊎ answers i j None) × (j < i → IsFound found j i ⊎ answers j i None)

-- More was found, and nothing was lost.
pub record Grown (answers : Answers) (heads : ℕ) (old new : Found) : Type 0 where
  pub sound : IsSound answers heads new
  pub kept : (i j : ℕ) → IsFound old i j → IsFound new i j

-- What is known when all heads before an index have been read.
pub record Walked (answers : Answers) (heads : ℕ) (order : List Head) (at : ℕ) (open' : List ℕ) (found : Found) : Type 0 where
  pub is_open : IsOpen order at open'
  pub sound : IsSound answers heads found
  pub all : (q p : ℕ) → q < p → p < at → HasAnswer answers found (head_at order q).index (head_at order p).index
