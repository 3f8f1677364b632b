-- The look-up by path that is kept while a table of lines is built.
use Rattle.std.specs.Prelude.{◌≡◌, ℕ, suc, Bool, ◌&&◌, List, [], ◌∷◌, Option, Some, None, option_map, if◌then◌else◌}
use Rattle.pv_lines.specs.declared.line.Line.{Line}
use Rattle.pv_path.specs.Paths.{Path, same_path}
use Rattle.pv_table.specs.Reaching.{is_creating, path_in}

-- The index of the first item that passes a test.
abbrev pub first_index : {A : Type 0} → (A → Bool) → List A → Option ℕ
first_index test [] = None
first_index test (x ∷ xs) = if test x then Some 0 else option_map suc (first_index test xs)

-- Whether a line makes the object at a path.
abbrev pub makes : Path → Line → Bool
makes path line = is_creating line && same_path (path_in line.path) path

-- A look-up gives for each path the index of the first line that makes the object there.
abbrev pub IsIndexOf : List Line → (Path → Option ℕ) → Type 0
IsIndexOf lines look = (path : Path) → look path ≡ first_index (makes path) lines
