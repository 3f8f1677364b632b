-- Reaches that are equal, and answers that are known for them (this project's own).
use Rattle.std.specs.Prelude.{◌≡◌, ℕ, ◌+◌, ◌*◌, ◌<◌, ◌^◌, List, [], ◌∷◌, map, length, get_or, nat_eq, Option, Some}
use Rattle.std.specs.List.{flat_map}
use Rattle.std.specs.Map.{lookup}
use Rattle.pv_path.specs.Paths.{Path}
use Rattle.pv_glob.specs.declared.element.Element.{Element}
use Rattle.pv_glob.specs.declared.element.Element.TheVariants.{Byte, Any, Many, OneOf}
use Rattle.pv_glob.specs.declared.meeting.Reach.{Reach}
use Rattle.pv_glob.specs.Words.{Finds}
use Rattle.pv_overlap.specs.Subjects.{meets, reach_at}

-- The byte that stands for an element of a pattern: the byte itself, `?`, `*` or `[`.
abbrev pub byte_for : Element → ℕ
byte_for (Byte b) = b
byte_for Any = 63
byte_for Many = 42
byte_for (OneOf set) = 91

-- The text that stands for some components, each after a slash.
abbrev pub spelled : List (List Element) → List ℕ
spelled components = flat_map (λ component. 47 ∷ map byte_for component) components

-- The text that stands for a reach whose pattern has one expansion. Otherwise it is empty.
abbrev pub spelling_of : Reach → List ℕ
spelling_of reach = by reach.pattern
  where
    by : List (List (List Element)) → List ℕ
    by (plain ∷ []) = spelled plain
    by other = []

-- For each reach the index of one that is equal.
pub record AreFirsts (reaches : List Reach) (firsts : List ℕ) : Type 0 where
  pub count : length firsts ≡ length reaches
  pub same : (i : ℕ) → i < length reaches → reach_at reaches (get_or firsts i 0) ≡ reach_at reaches i

-- The number that stands for the indices of two reaches.
abbrev pub key_of : ℕ → ℕ → ℕ
key_of a b = a * 2 ^ 32 + b

-- A known answer for two reaches is the first path that they share, or none if they share no path.
abbrev pub AreAnswers : List Reach → List (ℕ × Option Path) → Type 0
AreAnswers reaches known = (a b : ℕ) (answer : Option Path) → a < 2 ^ 32 → b < 2 ^ 32 → lookup (nat_eq (key_of a b)) known ≡ Some answer
    → Finds (meets (reach_at reaches a) (reach_at reaches b)) answer
