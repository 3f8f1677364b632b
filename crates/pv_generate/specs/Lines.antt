-- The lines of a generated configuration. A random number picks one of eight forms and one of eight directories for
-- each line (tmpfiles.d(5); the choice is this project's own).
use Rattle.std.specs.Prelude.{ℕ, ◌/◌, ◌%◌, ◌==◌, zero, suc, List, [], ◌++◌, codes, if◌then◌else◌}
use Rattle.std.specs.Fmt.{decimal}
use Rattle.pv_generate.specs.Drawing.{number_in, state_of}

-- A line for an object in a directory, with the number of the line in its name.
abbrev pub own_line : List ℕ → ℕ → List ℕ → ℕ → List ℕ → List ℕ
own_line letters group name i rest = letters ++ codes " /data/g" ++ decimal group ++ name ++ decimal i ++ rest

-- A line for a directory, or for what a pattern matches in it.
abbrev pub shared_line : List ℕ → ℕ → List ℕ → List ℕ
shared_line letters group rest = letters ++ codes " /data/g" ++ decimal group ++ rest

-- The line of a form, for a directory, with the number of the line.
abbrev pub line_in : ℕ → ℕ → ℕ → List ℕ
line_in form group i =
    if form == 0 then own_line (codes "d") group (codes "/d") i (codes " 0700 0 0\n")
    else if form == 1 then own_line (codes "f") group (codes "/f") i (codes " 0600 0 0 - text\n")
    else if form == 2 then own_line (codes "L") group (codes "/l") i (codes " - - - - /data\n")
    else if form == 3 then own_line (codes "f+") group (codes "/e") i (codes " - - - - more\n")
    else if form == 4 then shared_line (codes "z") group (codes "/e? 0640\n")
    else if form == 5 then shared_line (codes "w") group (codes "/e1* - - - - new\n")
    else if form == 6 then shared_line (codes "a+") group (codes "/e* - - - - u:1:r\n")
    else shared_line (codes "Z") group (codes " ~0755\n")

-- The line for a random number, with the number of the line.
abbrev pub line_of : ℕ → ℕ → List ℕ
line_of number i = line_in (number / 8 % 8) (number % 8) i

-- The first lines of a seed.
abbrev pub lines_of : ℕ → ℕ → List ℕ
lines_of seed zero = []
lines_of seed (suc i) = lines_of seed i ++ line_of (number_in (state_of seed (suc i))) i
