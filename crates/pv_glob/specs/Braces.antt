-- What the braces in a component of a pattern stand for, as in the brace expansion of bash(1). Unlike there, a pair
-- with one alternative is expanded too: `{a}` stands for `a`. There are no sequences such as `{1..3}`.
use Rattle.std.specs.Prelude.{ℕ, ◌==◌, nat_lt, List, [], ◌∷◌, ◌++◌, map, length, slice_index, Option, Some, None, if◌then◌else◌}
use Rattle.std.specs.List.{flat_map}
use Rattle.pv_glob.specs.declared.element.Element.{Element}
use Rattle.pv_glob.specs.declared.element.Element.TheVariants.{Byte}
use Rattle.pv_glob.specs.Elements.{element_at, elements_of}

-- Each of the first words, followed by each of the second.
abbrev pub joined : {A : Type 0} → List (List A) → List (List A) → List (List A)
joined firsts seconds = flat_map (λ first. map (λ second. first ++ second) seconds) firsts

-- What is left of a pair of braces after some position in it. `words` are the words that the rest of the alternative
-- at this position stands for. `others` are the words of the alternatives after it.
pub record Rest : Type 0 where
  pub words : List (List Element)
  pub others : List (List Element)

-- What is left at the end of the last alternative: the empty word, and no other alternatives.
abbrev pub nothing : Rest
nothing = record { words = [] ∷ []; others = [] }

-- The next definitions read a component from its end to its beginning. They take what is left after a position: of each
-- pair of braces that is open there, innermost first, and last of the component. They give what is left at the position
-- itself. If the braces are not balanced, they give the empty list.

-- An element comes before each word of the innermost pair.
abbrev pub with_element : Element → List Rest → List Rest
with_element element [] = []
with_element element (rest ∷ around) = record { words = map (λ word. element ∷ word) rest.words; others = rest.others } ∷ around

-- `}` ends a pair. Just before it, this pair has nothing left but the end of its last alternative.
abbrev pub with_close : List Rest → List Rest
with_close [] = []
with_close (rest ∷ around) = nothing ∷ rest ∷ around

-- `,` ends an alternative of the innermost pair. Just before it, this alternative is at its end, and the words after
-- it are the others. Outside of braces it is an ordinary byte.
abbrev pub with_comma : List Rest → List Rest
with_comma [] = []
with_comma (component ∷ []) = with_element (Byte 44) (component ∷ [])
with_comma (pair ∷ outer ∷ around) = record { words = [] ∷ []; others = pair.words ++ pair.others } ∷ outer ∷ around

-- `{` begins a pair. It stands for any one of its alternatives, each followed by what is left behind the pair.
abbrev pub with_open : List Rest → List Rest
with_open [] = []
with_open (component ∷ []) = []
with_open (pair ∷ outer ∷ around) = record { words = joined (pair.words ++ pair.others) outer.words; others = outer.others } ∷ around

-- What is left, with the element at this position of a component added before it.
abbrev pub with_place : List ℕ → List Rest → List Rest
with_place place rests =
    if slice_index place 0 == 123 then with_open rests
    else if slice_index place 0 == 44 then with_comma rests
    else if slice_index place 0 == 125 then with_close rests
    else with_element (element_at place) rests

-- What is left from the first of these positions on.
abbrev pub rests_of : List (List ℕ) → List Rest
rests_of [] = nothing ∷ []
rests_of (place ∷ places) = with_place place (rests_of places)

-- The words of a component that is in no pair of braces. If a pair is still open, there are none.
abbrev pub whole : List Rest → Option (List (List Element))
whole [] = None
whole (component ∷ []) = Some component.words
whole (pair ∷ outer ∷ around) = None

-- The expansions of a component: the words without braces, one for each choice of an alternative in each pair. The
-- choice in the first pair changes last. If the braces are not balanced, there are none. Example: `{a,b}{c,d}` has
-- `ac`, `ad`, `bc` and `bd`.
abbrev pub expansions_of : List ℕ → Option (List (List Element))
expansions_of component = whole (rests_of (elements_of component))

-- The words, if there are at most `most`.
abbrev pub within : ℕ → Option (List (List Element)) → Option (List (List Element))
within most None = None
within most (Some words) = if nat_lt most (length words) then None else Some words
