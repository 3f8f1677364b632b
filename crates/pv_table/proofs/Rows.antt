-- Rows on the definitions: what lines of configuration ask for, in which order they are carried out.
use Rattle.std.proofs.Common.{◌≡◌, refl}
use Rattle.std.specs.Prelude.{ℕ, false, List, [], ◌∷◌, codes, None}
use Rattle.pv_glob.specs.Matching.{literal_of}
use Rattle.pv_lines.specs.declared.line.Argument.TheVariants as argument
use Rattle.pv_lines.specs.declared.line.Line.{Line}
use Rattle.pv_lines.specs.declared.line.LinePath.TheVariants.{Literal, Glob}
use Rattle.pv_path.specs.Paths.{Path}
use Rattle.pv_table.specs.Active.{active, create_order, remove_order}

-- ---- lines and trees

-- a line of a letter over a path, with nothing else given
abbrev pub line : ℕ → Path → Line
line letter path = record {
  letter = letter;
  plus = false;
  boot = false;
  minus = false;
  replace = false;
  encoded = false;
  purge = false;
  path = Literal path;
  path_text = [];
  moved = false;
  mode = None;
  user = None;
  group = None;
  age = None;
  argument = argument.Ignored;
  place = record { file = []; number = 1 };
}

-- a line of a letter over the pattern that matches one path alone
abbrev pub pattern_line : ℕ → Path → Line
pattern_line letter path = record (line letter path) { path = Glob (literal_of path ∷ []) }

abbrev a : List ℕ
a = codes "a"

abbrev b : List ℕ
b = codes "b"

abbrev c : List ℕ
c = codes "c"

abbrev x : List ℕ
x = codes "x"

-- ---- orders

what_lies_above_comes_first : create_order (line 100 (a ∷ b ∷ c ∷ []) ∷ line 100 (x ∷ []) ∷ line 100 (a ∷ []) ∷ line 100 (a ∷ b ∷ []) ∷ []) ≡ 2 ∷ 3 ∷ 0 ∷ 1 ∷ []
what_lies_above_comes_first = refl

lines_that_adjust_come_last : create_order (pattern_line 122 (a ∷ []) ∷ line 100 (a ∷ b ∷ []) ∷ line 100 (a ∷ []) ∷ []) ≡ 2 ∷ 1 ∷ 0 ∷ []
lines_that_adjust_come_last = refl

lines_that_take_away : remove_order (pattern_line 114 (a ∷ []) ∷ line 100 (b ∷ []) ∷ line 68 (c ∷ []) ∷ pattern_line 82 (x ∷ []) ∷ []) ≡ 0 ∷ 2 ∷ 3 ∷ []
lines_that_take_away = refl

the_first_of_one_path_stays : active false None None (line 100 (x ∷ []) ∷ line 102 (x ∷ []) ∷ pattern_line 122 (x ∷ []) ∷ []) ≡ line 100 (x ∷ []) ∷ pattern_line 122 (x ∷ []) ∷ []
the_first_of_one_path_stays = refl
