-- Which questions about heads an asker is asked.
use Rattle.std.specs.Prelude.{◌≡◌, ◌≢◌, ℕ, ◌<◌, Bool, true, List, [], length, slice_index_or, All, AllPairs, Contains}
use Rattle.pv_path.specs.Paths.{Path}
use Rattle.pv_overlap.specs.Heads.{related}

-- A question is about two heads: their indices, counted from 0, the lower one first.
abbrev pub Question : Type 0
Question = ℕ × ℕ

-- A question may be asked if one of the two heads is a prefix of the other.
abbrev pub IsQuestion : List Path → Question → Type 0
IsQuestion heads question = (question.0 < question.1) × (question.1 < length heads) × (related (slice_index_or heads question.0 []) (slice_index_or heads question.1 []) ≡ true)

-- An asker was asked some questions about these heads: only those that may be asked, and none twice. If `whole`, it
-- was asked all of them.
pub record WasAsked (asked : List Question → Type 0) (heads : List Path) (whole : Bool) : Type 0 where
  pub questions : List Question
  pub recorded : asked questions
  pub each : All (IsQuestion heads) questions
  pub once : AllPairs ◌≢◌ questions
  pub all : whole ≡ true → (question : Question) → IsQuestion heads question → Contains questions question
