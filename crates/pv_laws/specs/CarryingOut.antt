-- Which lines of a run are carried out, and which two lines are apart (tmpfiles.d(5)).
use Rattle.std.specs.Prelude.{◌≡◌, ◌⊎◌, ℕ, true, false, ◌&&◌, List, [], ◌∷◌}
use Rattle.pv_lines.specs.declared.line.Line.{Line}
use Rattle.pv_path.specs.Paths.{Path, has_names}
use Rattle.pv_steps.specs.Trees.{Files, places}
use Rattle.pv_table.specs.ActionTable.{action_of}
use Rattle.pv_table.specs.Created.{by_line}
use Rattle.pv_table.specs.Reaching.{reaches, governs}
use Rattle.pv_table.specs.Turns.{has_something}

-- A line is one of some that are carried out in order. It is refused at no path, and what it copies exists when its
-- turn comes.
abbrev pub IsCarriedOut : Line → List Line → ℕ → Files → Type 0
IsCarriedOut line [] now t = ⊥
IsCarriedOut line (first ∷ lines) now t =
    ((first ≡ line) × ((by_line now).is_refused first t ≡ false) × (has_something (places t) (action_of first) ≡ true))
    ⊎ IsCarriedOut line lines now ((by_line now).after first t)

-- Two lines are apart if neither reaches a path that the other governs. Only paths that a tree can have count.
abbrev pub AreApart : Line → Line → Type 0
AreApart a b = (q : Path) → has_names q ≡ true → ((reaches a q && governs b q) ≡ false) × ((reaches b q && governs a q) ≡ false)
