-- Texts of one line. Messages and the lines of an image are such texts (this project's own).
use Rattle.std.specs.Prelude.{ℕ, Bool, not, ◌==◌, List}
use Rattle.std.specs.List.{list_all}

-- Whether a byte does not occur in a text.
abbrev pub lacks : ℕ → List ℕ → Bool
lacks c text = list_all (λ b. not (b == c)) text

-- Whether a text is one line: it has no line feed.
abbrev pub is_line : List ℕ → Bool
is_line text = lacks 10 text

-- Whether each of these texts is one line.
abbrev pub are_lines : List (List ℕ) → Bool
are_lines texts = list_all is_line texts
