-- What a component stands for when a part of it has been read.
use Rattle.std.specs.Prelude.{ℕ, List, [], ◌∷◌, ◌++◌, reverse, Option, Some, None}
use Rattle.pv_glob.specs.declared.element.Element.{Element}
use Rattle.pv_glob.specs.declared.brace_reading.Pair.{Pair}
use Rattle.pv_glob.specs.declared.brace_reading.Reading.{Reading}
use Rattle.pv_glob.specs.Braces.{Rest, joined, rests_of}

-- The words of the whole component. Given are the open pairs of braces, innermost first, the words of the
-- alternative so far, and what is left.
abbrev pub completed : List Pair → List (List Element) → List Rest → Option (List (List Element))
completed pairs words [] = None
completed [] words (component ∷ []) = Some (joined words component.words)
completed [] words (pair ∷ outer ∷ around) = None
completed (pair ∷ pairs) words (rest ∷ rests) = completed pairs (joined pair.before (pair.done ++ (joined words rest.words ++ rest.others))) rests

-- What a component stands for, given what has been read and what is left.
abbrev pub continued : Reading → List Rest → Option (List (List Element))
continued reading rests = completed (reverse reading.opened.items) reading.words rests

-- What a component stands for, given what has been read and the positions that are left.
abbrev pub meaning : Reading → List (List ℕ) → Option (List (List Element))
meaning reading places = continued reading (rests_of places)
