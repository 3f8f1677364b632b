-- Words that follow one another, and how a component with braces is read from its start.
use Rattle.std.proofs.Common.{◌≡◌, ℕ, suc, ◌+◌, ◌*◌, ◌/◌, ◌<◌, ◌≤◌, Bool, true, false, ◌==◌, nat_lt, List, [], ◌∷◌, ◌++◌, map, reverse, length, drop, get_or, slice_index, Some, None, refl, sym, ap, ◌∙◌, arith, append_assoc, length-append}
use Rattle.std.proofs.lemmas.List.{append-nil, length-map, map-append, reverse-append}
use Rattle.std.proofs.lemmas.List.Concat.{flat_map-append, flat_map_single}
use Rattle.std.proofs.Math.Nat.{add-mul, one-mul, le-mul_of_pos_right, mul_comm, one-le-mul, zero-mul, div-lt_iff_lt-mul}
use Rattle.std.proofs.lemmas.Bool.Decides.{nat_tests}
use Rattle.pv_glob.specs.declared.element.Element.{Element}
use Rattle.pv_glob.specs.declared.element.Element.TheVariants.{Byte}
use Rattle.pv_glob.specs.declared.brace_reading.Pair.{Pair}
use Rattle.pv_glob.specs.declared.brace_reading.Reading.{Reading}
use Rattle.pv_glob.specs.Elements.{element_at, element_length, elements_of}
use Rattle.pv_glob.specs.Braces.{Rest, expansions_of, joined, with_close, with_comma, with_element, with_open, with_place, rests_of, whole, within}
use Rattle.pv_glob.specs.Reading.{completed, meaning}

one_more : (n k : ℕ) → suc n * k ≡ k + n * k
one_more n k = let e : suc n ≡ 1 + n = omega arith in rw e (add-mul 1 n k ∙ ap (λ (m : ℕ). m + n * k) (one-mul k))

-- ---- words that follow one another

module _ {A : Type 0} where
  -- words after an empty one
  pub joined-empty_first : (words : List (List A)) → joined ([] ∷ []) words ≡ words
  joined-empty_first [] = refl
  joined-empty_first (word ∷ words) = ap (λ (ws : List (List A)). word ∷ ws) (joined-empty_first words)

  -- words before an empty one
  pub joined-empty_second : (words : List (List A)) → joined words ([] ∷ []) ≡ words
  joined-empty_second [] = refl
  joined-empty_second (word ∷ words) = rw (append-nil word) (ap (λ (ws : List (List A)). word ∷ ws) (joined-empty_second words))

  pub joined-append : (firsts more seconds : List (List A)) → joined (firsts ++ more) seconds ≡ joined firsts seconds ++ joined more seconds
  joined-append firsts more seconds = flat_map-append (λ first. map (λ second. first ++ second) seconds) firsts more

  -- one word before words that follow one another
  chained_words : (word other : List A) (thirds : List (List A)) → map (λ third. (word ++ other) ++ third) thirds ≡ map (λ w. word ++ w) (map (λ third. other ++ third) thirds)
  chained_words word other [] = refl
  chained_words word other (third ∷ thirds) = rw (append_assoc word other third) (ap (λ (ws : List (List A)). (word ++ (other ++ third)) ∷ ws) (chained_words word other thirds))

  word_before : (word : List A) (seconds thirds : List (List A)) → joined (map (λ second. word ++ second) seconds) thirds ≡ map (λ w. word ++ w) (joined seconds thirds)
  word_before word [] thirds = refl
  word_before word (second ∷ seconds) thirds =
      ap (λ (ws : List (List A)). ws ++ joined (map (λ s. word ++ s) seconds) thirds) (chained_words word second thirds)
      ∙ ap (λ (ws : List (List A)). map (λ w. word ++ w) (map (λ third. second ++ third) thirds) ++ ws) (word_before word seconds thirds)
      ∙ sym (map-append (λ w. word ++ w) (map (λ third. second ++ third) thirds) (joined seconds thirds))

  pub joined-joined : (firsts seconds thirds : List (List A)) → joined (joined firsts seconds) thirds ≡ joined firsts (joined seconds thirds)
  joined-joined [] seconds thirds = refl
  joined-joined (first ∷ firsts) seconds thirds =
      joined-append (map (λ second. first ++ second) seconds) (joined firsts seconds) thirds
      ∙ ap (λ (ws : List (List A)). ws ++ joined (joined firsts seconds) thirds) (word_before first seconds thirds)
      ∙ ap (λ (ws : List (List A)). map (λ w. first ++ w) (joined seconds thirds) ++ ws) (joined-joined firsts seconds thirds)

  -- an element between words
  element_between : (x : A) (word : List A) (seconds : List (List A)) → map (λ second. (word ++ x ∷ []) ++ second) seconds ≡ map (λ s. word ++ s) (map (λ second. x ∷ second) seconds)
  element_between x word [] = refl
  element_between x word (second ∷ seconds) = rw (append_assoc word (x ∷ []) second) (ap (λ (ws : List (List A)). (word ++ x ∷ second) ∷ ws) (element_between x word seconds))

  pub joined-element : (x : A) (firsts seconds : List (List A)) → joined (map (λ word. word ++ x ∷ []) firsts) seconds ≡ joined firsts (map (λ word. x ∷ word) seconds)
  joined-element x [] seconds = refl
  joined-element x (first ∷ firsts) seconds =
      ap (λ (ws : List (List A)). ws ++ joined (map (λ word. word ++ x ∷ []) firsts) seconds) (element_between x first seconds)
      ∙ ap (λ (ws : List (List A)). map (λ s. first ++ s) (map (λ word. x ∷ word) seconds) ++ ws) (joined-element x firsts seconds)

  pub length-joined : (firsts seconds : List (List A)) → length (joined firsts seconds) ≡ length firsts * length seconds
  length-joined [] seconds = sym (zero-mul (length seconds))
  length-joined (first ∷ firsts) seconds =
      length-append (map (λ second. first ++ second) seconds) (joined firsts seconds)
      ∙ ap (λ (n : ℕ). n + length (joined firsts seconds)) (length-map seconds (λ second. first ++ second))
      ∙ ap (λ (n : ℕ). length seconds + n) (length-joined firsts seconds)
      ∙ sym (one_more (length firsts) (length seconds))

-- ---- one step of reading

-- only the words so far followed by those that are left matter
resume : (pairs : List Pair) (a b : List (List Element)) (v w others : List (List Element)) (around : List Rest) → joined a v ≡ joined b w
    → completed pairs a (record { words = v; others = others } ∷ around) ≡ completed pairs b (record { words = w; others = others } ∷ around)
resume [] a b v w others [] same = ap Some same
resume [] a b v w others (rest ∷ around) same = refl
resume (pair ∷ pairs) a b v w others around same = ap (λ (ws : List (List Element)). completed pairs (joined pair.before (pair.done ++ (ws ++ others))) around) same

-- nothing is left where braces are not balanced
none_left : (pairs : List Pair) (words : List (List Element)) → completed pairs words [] ≡ None
none_left [] words = refl
none_left (pair ∷ pairs) words = refl

pub element_step : (pairs : List Pair) (words : List (List Element)) (element : Element) (rests : List Rest) → completed pairs (map (λ word. word ++ element ∷ []) words) rests ≡ completed pairs words (with_element element rests)
element_step pairs words element [] = none_left pairs (map (λ word. word ++ element ∷ []) words) ∙ sym (none_left pairs words)
element_step pairs words element (rest ∷ around) = resume pairs _ words rest.words _ rest.others around (joined-element element words rest.words)

pub open_step : (pairs : List Pair) (pair : Pair) (rests : List Rest) → pair.done ≡ [] → completed (pair ∷ pairs) ([] ∷ []) rests ≡ completed pairs pair.before (with_open rests)
open_step pairs pair [] none = sym (none_left pairs pair.before)
open_step pairs pair (component ∷ []) none = none_left pairs (joined pair.before (pair.done ++ (joined ([] ∷ []) component.words ++ component.others))) ∙ sym (none_left pairs pair.before)
open_step pairs pair (inner ∷ outer ∷ around) none =
    rw (none, joined-empty_first inner.words)
    (resume pairs (joined pair.before (inner.words ++ inner.others)) pair.before outer.words (joined (inner.words ++ inner.others) outer.words) outer.others around (joined-joined pair.before (inner.words ++ inner.others) outer.words))

pub comma_step : (pairs : List Pair) (pair next : Pair) (words : List (List Element)) (rests : List Rest) → next.before ≡ pair.before → next.done ≡ pair.done ++ words
    → completed (next ∷ pairs) ([] ∷ []) rests ≡ completed (pair ∷ pairs) words (with_comma rests)
comma_step pairs pair next words [] same more = refl
comma_step pairs pair next words (component ∷ []) same more = none_left pairs (joined next.before (next.done ++ (joined ([] ∷ []) component.words ++ component.others)))
    ∙ sym (none_left pairs (joined pair.before (pair.done ++ (joined words (map (λ word. Byte 44 ∷ word) component.words) ++ component.others))))
comma_step pairs pair next words (inner ∷ outer ∷ around) same more =
    rw (same, more, joined-empty_first inner.words, joined-empty_second words, append_assoc pair.done words (inner.words ++ inner.others)) refl

pub close_step : (pairs : List Pair) (pair : Pair) (words done : List (List Element)) (rests : List Rest) → done ≡ pair.done ++ words → completed pairs (joined pair.before done) rests ≡ completed (pair ∷ pairs) words (with_close rests)
close_step pairs pair words done [] more = none_left pairs (joined pair.before done)
close_step pairs pair words done (rest ∷ around) more = rw (more, joined-empty_second words, append-nil words) refl

-- ---- how many words there are

abbrev pub Worded : List Rest → Type 0
Worded [] = Unit {0}
Worded (rest ∷ around) = (0 < length rest.words) × Worded around

some_joined : (firsts seconds : List (List Element)) → 0 < length firsts → 0 < length seconds → 0 < length (joined firsts seconds)
some_joined firsts seconds a b = rw (length-joined firsts seconds) (one-le-mul a b)

more_joined : (firsts seconds : List (List Element)) → 0 < length seconds → length firsts ≤ length (joined firsts seconds)
more_joined firsts seconds l = rw (length-joined firsts seconds) (le-mul_of_pos_right (length firsts) l)

element_worded : (element : Element) (rests : List Rest) → Worded rests → Worded (with_element element rests)
element_worded element [] w = tt
element_worded element (rest ∷ around) w = (rw (length-map rest.words (λ word. element ∷ word)) w.0, w.1)

comma_worded : (rests : List Rest) → Worded rests → Worded (with_comma rests)
comma_worded [] w = tt
comma_worded (component ∷ []) w = element_worded (Byte 44) (component ∷ []) w
comma_worded (inner ∷ outer ∷ around) w = (omega arith, w.1)

close_worded : (rests : List Rest) → Worded rests → Worded (with_close rests)
close_worded [] w = tt
close_worded (rest ∷ around) w = (omega arith, w)

open_worded : (rests : List Rest) → Worded rests → Worded (with_open rests)
open_worded [] w = tt
open_worded (component ∷ []) w = tt
open_worded (inner ∷ outer ∷ around) w =
    let some : 0 < length (inner.words ++ inner.others) = let first : 0 < length inner.words = w.0 in omega (arith, length-append inner.words inner.others) in
    (some_joined (inner.words ++ inner.others) outer.words some w.1.0, w.1.1)

place_worded : (place : List ℕ) (rests : List Rest) → Worded rests → Worded (with_place place rests)
place_worded place rests w = by_open (slice_index place 0 == 123) (slice_index place 0 == 44) (slice_index place 0 == 125) refl refl refl
  where
    by_open : (a b c : Bool) → (slice_index place 0 == 123) ≡ a → (slice_index place 0 == 44) ≡ b → (slice_index place 0 == 125) ≡ c → Worded (with_place place rests)
    by_open true b c e f g = rw e (open_worded rests w)
    by_open false true c e f g = rw (e, f) (comma_worded rests w)
    by_open false false true e f g = rw (e, f, g) (close_worded rests w)
    by_open false false false e f g = rw (e, f, g) (element_worded (element_at place) rests w)

-- each rest has a word
pub rests_worded : (places : List (List ℕ)) → Worded (rests_of places)
rests_worded [] = (omega arith, tt)
rests_worded (place ∷ places) = place_worded place (rests_of places) (rests_worded places)

le_left : (m n : ℕ) → 0 < m → n ≤ m * n
le_left m n l = rw (mul_comm m n) (le-mul_of_pos_right n l)

above : (most n : ℕ) (words : List (List Element)) → most < n → n ≤ length words → within most (Some words) ≡ None
above most n words l m = let test : nat_lt most (length words) ≡ true = grind (arith, nat_tests) in rw test refl

-- what has too many words already has too many in the end
pub too_many : (most : ℕ) (pairs : List Pair) (words : List (List Element)) (rests : List Rest) → Worded rests → most < length words → within most (completed pairs words rests) ≡ None
too_many most pairs words [] w l = ap (within most) (none_left pairs words)
too_many most [] words (component ∷ []) w l = above most (length words) (joined words component.words) l (more_joined words component.words w.0)
too_many most [] words (inner ∷ outer ∷ around) w l = refl
too_many most (pair ∷ pairs) words (rest ∷ rests) w l =
    let a : length words ≤ length (joined words rest.words) = more_joined words rest.words w.0 in
    let b = length-append pair.done (joined words rest.words ++ rest.others) in
    let c = length-append (joined words rest.words) rest.others in
    let d : length words ≤ length (pair.done ++ (joined words rest.words ++ rest.others)) = omega arith in
    let e : length (pair.done ++ (joined words rest.words ++ rest.others)) ≤ length (joined pair.before (pair.done ++ (joined words rest.words ++ rest.others))) =
    rw (length-joined pair.before (pair.done ++ (joined words rest.words ++ rest.others))) (le_left (length pair.before) (length (pair.done ++ (joined words rest.words ++ rest.others))) pair.some) in
    too_many most pairs (joined pair.before (pair.done ++ (joined words rest.words ++ rest.others))) rests w.1 (omega arith)

-- ---- reading, where the pair opened last stands last

turned : (pairs : List Pair) (pair : Pair) → reverse (pairs ++ pair ∷ []) ≡ pair ∷ reverse pairs
turned pairs pair = reverse-append pairs (pair ∷ [])

pub start_means : (opened : List Pair) (words : List (List Element)) (rests : List Rest) → opened ≡ [] → words ≡ [] ∷ [] → completed (reverse opened) words rests ≡ whole rests
start_means opened words rests none one = rw (none, one) (by_rests rests)
  where
    by_rests : (rests : List Rest) → completed [] ([] ∷ []) rests ≡ whole rests
    by_rests [] = refl
    by_rests (component ∷ []) = ap Some (joined-empty_first component.words)
    by_rests (inner ∷ outer ∷ around) = refl

pub open_means : (old new : List Pair) (pair : Pair) (words fresh : List (List Element)) (rests : List Rest) → new ≡ old ++ pair ∷ [] → pair.before ≡ words → pair.done ≡ [] → fresh ≡ [] ∷ []
    → completed (reverse new) fresh rests ≡ completed (reverse old) words (with_open rests)
open_means old new pair words fresh rests is same none one =
    rw (is, one, turned old pair) (open_step (reverse old) pair rests none ∙ ap (λ (ws : List (List Element)). completed (reverse old) ws (with_open rests)) same)

pub comma_means : (old around new : List Pair) (pair next : Pair) (words fresh : List (List Element)) (rests : List Rest) → old ≡ around ++ pair ∷ [] → new ≡ around ++ next ∷ [] → next.before ≡ pair.before → next.done ≡ pair.done ++ words → fresh ≡ [] ∷ []
    → completed (reverse new) fresh rests ≡ completed (reverse old) words (with_comma rests)
comma_means old around new pair next words fresh rests was is same more one =
    rw (was, is, one, turned around pair, turned around next) (comma_step (reverse around) pair next words rests same more)

pub close_means : (old around : List Pair) (pair : Pair) (words done made : List (List Element)) (rests : List Rest) → old ≡ around ++ pair ∷ [] → done ≡ pair.done ++ words → made ≡ joined pair.before done
    → completed (reverse around) made rests ≡ completed (reverse old) words (with_close rests)
close_means old around pair words done made rests was more is =
    rw (was, is, turned around pair) (close_step (reverse around) pair words done rests more)

pub beyond_means : (most : ℕ) (old around : List Pair) (pair : Pair) (words done : List (List Element)) (places : List (List ℕ)) → old ≡ around ++ pair ∷ [] → done ≡ pair.done ++ words → most / length pair.before < length done
    → within most (completed (reverse old) words (with_close (rests_of places))) ≡ None
beyond_means most old around pair words done places was more l =
    let many : most < length done * length pair.before = (div-lt_iff_lt-mul pair.some).0 l in
    let lower : most < length (joined pair.before done) = rw (length-joined pair.before done, mul_comm (length pair.before) (length done)) many in
    ap (within most) (sym (close_means old around pair words done (joined pair.before done) (rests_of places) was more refl))
    ∙ too_many most (reverse around) (joined pair.before done) (rests_of places) (rests_worded places) lower

pub finish_means : (opened : List Pair) (words : List (List Element)) → length opened ≡ 0 → Some words ≡ completed (reverse opened) words (rests_of [])
finish_means [] words none = ap Some (sym (joined-empty_second words))
finish_means (pair ∷ opened) words none = absurd (omega arith)

pub some_made : (before done made : List (List Element)) → made ≡ joined before done → 0 < length before → 0 < length done → 0 < length made
some_made before done made is a b = rw is (some_joined before done a b)

pub some_together : (done words all : List (List Element)) → all ≡ done ++ words → 0 < length words → 0 < length all
some_together done words all is some = rw is (omega (arith, length-append done words))

-- a place that has been read, and then the places behind it
pub read_on : (component text next : List ℕ) (n : ℕ) (old new : Reading) → n ≡ element_length text → next ≡ drop n text → elements_of text ≡ text ∷ elements_of (drop (element_length text) text)
    → ((places : List (List ℕ)) → meaning new places ≡ meaning old (text ∷ places)) → meaning old (elements_of text) ≡ expansions_of component → meaning new (elements_of next) ≡ expansions_of component
read_on component text next n old new is behind step reads before =
    let places : elements_of text ≡ text ∷ elements_of next = step ∙ ap (λ (k : ℕ). text ∷ elements_of (drop k text)) (sym is) ∙ ap (λ (t : List ℕ). text ∷ elements_of t) (sym behind) in
    reads (elements_of next) ∙ ap (meaning old) (sym places) ∙ before

-- words before one word
pub joined-only : (firsts seconds words : List (List Element)) (only : List Element) → 1 ≤ length seconds → length seconds < 2 → only ≡ get_or seconds 0 only → words ≡ map (λ word. word ++ only) firsts → words ≡ joined firsts seconds
joined-only firsts [] words only some few first is = absurd (omega arith)
joined-only firsts (second ∷ third ∷ seconds) words only some few first is = absurd (omega arith)
joined-only firsts (second ∷ []) words only some few first is =
    is ∙ sym (flat_map_single (λ word. word ++ only) firsts) ∙ ap (λ (word : List Element). joined firsts (word ∷ [])) first
