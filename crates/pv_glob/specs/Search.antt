-- What a breadth-first search of a machine knows between its levels. Level n has the states that words of n bytes
-- lead to, but no shorter words do. Words are given by the ranks of their bytes.
use Rattle.std.specs.Prelude.{◌≡◌, ℕ, ◌+◌, ◌<◌, ◌≤◌, ◌⊎◌, true, false, List, [], ◌∷◌, ◌++◌, length, map, slice_index_or, set, All, Contains, Option, Some, None, is_none, count_by, if◌then◌else◌}
use Rattle.std.specs.Ordering.{is_gt}
use Rattle.pv_glob.specs.declared.moves.Move.{Move}
use Rattle.pv_glob.specs.Machines.{Machine, reads, goes_by}
use Rattle.pv_glob.specs.Words.{rank, shortlex}

-- For each state the first word that was found to lead there, if one was found.
abbrev pub Found : Type 0
Found = List (Option (List ℕ))

-- The word that was found for a state, if there is one.
abbrev pub word_at : Found → ℕ → Option (List ℕ)
word_at found at = slice_index_or found at None

-- The number of states for which no word was found.
abbrev pub unfound : Found → ℕ
unfound found = count_by is_none found

-- The earlier of two words: the one that was found before, if there is one, and another.
abbrev pub earlier : Option (List ℕ) → List ℕ → List ℕ
earlier None word = word
earlier (Some old) word = if is_gt (shortlex old word) then word else old

-- What is found after a word to a state was noted: the state keeps the earlier word.
abbrev pub noted : Found → ℕ → List ℕ → Found
noted found at word = set found at (Some (earlier (word_at found at) word))

-- The states of the next level, with this state added if no word to it was found before.
abbrev pub listed : Found → List ℕ → ℕ → List ℕ
listed found next at = next ++ (if is_none (word_at found at) then at ∷ [] else [])

-- Some word with these ranks leads from the first state to this state: if a rest is accepted from this state, the
-- word followed by this rest is accepted from the first state.
abbrev pub Leads : Machine → List ℕ → ℕ → Type 0
Leads machine ranks at =
    (word : List ℕ) × All (λ b. b < 256) word × (map rank word ≡ ranks)
    × ((rest : List ℕ) → reads machine at rest ≡ true → reads machine 0 (word ++ rest) ≡ true)

-- For this state a word was found that does not come later than this one.
abbrev pub HasUpTo : Found → ℕ → List ℕ → Type 0
HasUpTo found at ranks = (word : List ℕ) × (word_at found at ≡ Some word) × (is_gt (shortlex word ranks) ≡ false)

-- A word of a state of this level, followed by a rest that is accepted from there, does not come later than the
-- given word.
abbrev pub Covers : Machine → Found → List ℕ → List ℕ → Type 0
Covers machine found level word =
    (at : ℕ) × (ranks : List ℕ) × (rest : List ℕ) × Contains level at × (word_at found at ≡ Some ranks)
    × (reads machine at rest ≡ true) × (is_gt (shortlex (ranks ++ map rank rest) (map rank word)) ≡ false)

-- What holds when a level is complete. `depth` is the length of the words that lead to its states.
pub record Searched (machine : Machine) (depth : ℕ) (found : Found) (level : List ℕ) : Type 0 where
  -- Each state has an entry.
  pub size : length found ≡ machine.places
  -- A word that was found leads to its state, and has at most `depth` bytes.
  pub sound : (at : ℕ) (ranks : List ℕ) → word_at found at ≡ Some ranks → (length ranks ≤ depth) × Leads machine ranks at
  -- A state of the level has a word of exactly `depth` bytes.
  pub level_is : (at : ℕ) → Contains level at → (at < machine.places) × ((ranks : List ℕ) × (word_at found at ≡ Some ranks) × (length ranks ≡ depth))
  -- The level covers each accepted word.
  pub covers : (word : List ℕ) → reads machine 0 word ≡ true → Covers machine found level word

-- The same for some depth.
abbrev pub IsSearched : Machine → Found → List ℕ → Type 0
IsSearched machine found level = (depth : ℕ) × Searched machine depth found level

-- What holds while the states of a level are looked at. `from` is what was found before, and `next` lists the states
-- found since.
pub record Ahead (machine : Machine) (depth : ℕ) (from found : Found) (next : List ℕ) : Type 0 where
  -- Each state has an entry.
  pub size : length found ≡ length from
  -- A word that was found before stays.
  pub keeps : (at : ℕ) (ranks : List ℕ) → word_at from at ≡ Some ranks → word_at found at ≡ Some ranks
  -- A word found since leads to its state, has one byte more than those of the level, and its state is listed.
  pub fresh : (at : ℕ) (ranks : List ℕ) → word_at found at ≡ Some ranks → (word_at from at ≡ Some ranks) ⊎ ((length ranks ≡ depth + 1) × Leads machine ranks at × Contains next at)
  -- A listed state has such a word.
  pub lists : (at : ℕ) → Contains next at → (at < length from) × ((ranks : List ℕ) × (word_at found at ≡ Some ranks) × (length ranks ≡ depth + 1))
  -- As many states were found since as are listed.
  pub count : unfound found + length next ≡ unfound from

-- What holds after the words that follow a word by some transitions were noted.
pub record Noted (old : Found) (listed : List ℕ) (word : List ℕ) (moves : List Move) (new : Found) (list : List ℕ) : Type 0 where
  -- Each state has an entry.
  pub size : length new ≡ length old
  -- If `Ahead` held before, it holds now. Premises: the words of `from` have at most `depth` bytes, and this word has
  -- `depth` bytes. The word followed by a byte of a transition leads to the transition's state.
  pub ahead : (machine : Machine) (depth : ℕ) (from : Found) → Ahead machine depth from old listed
      → ((at : ℕ) (ranks : List ℕ) → word_at from at ≡ Some ranks → length ranks ≤ depth) → length word ≡ depth
      → ((move : Move) (b : ℕ) → b < 256 → Contains moves move → goes_by b move ≡ true → Leads machine (word ++ rank b ∷ []) move.to)
      → Ahead machine depth from new list
  -- A state that had a word no later than another still has one.
  pub kept : (at : ℕ) (ranks : List ℕ) → HasUpTo old at ranks → HasUpTo new at ranks
  -- Each of these transitions leads to a state with a word no later than the word with this byte.
  pub all : (move : Move) (b : ℕ) → Contains moves move → goes_by b move ≡ true → HasUpTo new move.to (word ++ rank b ∷ [])

-- What holds when some states of a level have been looked at.
pub record Asked (machine : Machine) (from : Found) (level : List ℕ) (asked : List ℕ) (found : Found) (next : List ℕ) : Type 0 where
  -- The length of the words that lead to the level.
  pub depth : ℕ
  -- The level was complete.
  pub before : Searched machine depth from level
  -- The next level is being found.
  pub ahead : Ahead machine depth from found next
  -- From each state that was looked at, each byte leads to a state with a word no later than that word with this byte.
  pub all : (at b to : ℕ) (ranks : List ℕ) → Contains asked at → word_at from at ≡ Some ranks → Contains (machine.after at b) to → HasUpTo found to (ranks ++ rank b ∷ [])

-- The first word found to an accepting state among these. If the answer is none, none of these states accepts.
abbrev pub FirstEnd : Machine → Found → List ℕ → Option (List ℕ) → Type 0
FirstEnd machine found places None = (at : ℕ) → Contains places at → machine.is_end at ≡ false
FirstEnd machine found places (Some first) =
    ((at : ℕ) × Contains places at × (machine.is_end at ≡ true) × (word_at found at ≡ Some first))
    × ((at : ℕ) (ranks : List ℕ) → Contains places at → machine.is_end at ≡ true → word_at found at ≡ Some ranks → is_gt (shortlex first ranks) ≡ false)
