-- The parts of words, where a dash may be a file word: without one they are the parts, and with one there are none.
use Rattle.std.proofs.Common.{◌≡◌, ◌∙◌, ℕ, Bool, cond, true, false, refl, sym, ap, List, [], ◌∷◌, Option, Some, None, true≢false}
use Rattle.std.specs.Prelude.{option_and_then, if◌then◌else◌}
use Rattle.std.specs.List.{list_any}
use Rattle.std.specs.Option.{option_map}
use Rattle.clap.specs.Lexer.{name_and_value}
use Rattle.pv_words.specs.Parts.{Step, end_of, given, is_dash, option_word, parts_of, step, with_part, word_step}
use Rattle.pv_words.specs.Part.{Part}
use Rattle.pv_words.specs.Part as part
use Rattle.pv_words.specs.Pieces.{Parts}
use Rattle.pv_words.specs.Stage.{Stage, Options, ValueOf, Files}
use Rattle.pv_words.specs.Reading.{has_short}
use Rattle.pv_words.specs.Table.{option_named}
use Rattle.pv_words.specs.declared.option.OptionName.{OptionName}
use Rattle.pv_words.proofs.RuleLaws.{valued}
use Rattle.pv_words.proofs.WordLaws.{View, by_value, dash, empty, ends, long, long-is, long_read, plain, short, view}

abbrev pub free_step : Stage → List ℕ → Option Step
free_step Options word = if is_dash word then Some (step Options (part.File word)) else option_word word
free_step (ValueOf option) word = word_step (ValueOf option) word
free_step Files word = Some (step Files (part.File word))

abbrev pub free_parts : Stage → List (List ℕ) → Option Parts
free_parts stage [] = end_of stage
free_parts stage (word ∷ words) =
    option_and_then (λ s. option_map (with_part s.part) (free_parts s.stage words)) (free_step stage word)

-- no file word is a dash
abbrev pub undashed : Option Parts → Option Parts
undashed None = None
undashed (Some parts) = if list_any is_dash parts.files then None else Some parts

-- what a word brings is not a file word that is a dash
abbrev IsClean : Part → Type 0
IsClean part.Nothing = Unit {0}
IsClean (part.Given g) = Unit {0}
IsClean (part.File word) = is_dash word ≡ false

kept : (p : Part) (rest : Option Parts) → IsClean p → option_map (with_part p) (undashed rest) ≡ undashed (option_map (with_part p) rest)
kept p None clean = refl
kept part.Nothing (Some parts) clean = go (list_any is_dash parts.files)
  where
    go : (b : Bool) → option_map (with_part part.Nothing) (cond b None (Some parts)) ≡ cond b None (Some parts)
    go true = refl
    go false = refl
kept (part.Given g) (Some parts) clean = go (list_any is_dash parts.files)
  where
    go : (b : Bool) → option_map (with_part (part.Given g)) (cond b None (Some parts)) ≡ cond b None (Some (with_part (part.Given g) parts))
    go true = refl
    go false = refl
kept (part.File word) (Some parts) clean = rw clean (go (list_any is_dash parts.files))
  where
    go : (b : Bool) → option_map (with_part (part.File word)) (cond b None (Some parts)) ≡ cond b None (Some (with_part (part.File word) parts))
    go true = refl
    go false = refl

gone : (rest : Option Parts) → None ≡ undashed (option_map (with_part (part.File (45 ∷ []))) rest)
gone None = refl
gone (Some parts) = refl

-- the same from the next word on
abbrev Same : List (List ℕ) → Type 0
Same words = (stage : Stage) → parts_of stage words ≡ undashed (free_parts stage words)

abbrev then_parts : List (List ℕ) → Option Step → Option Parts
then_parts words = option_and_then (λ s. option_map (with_part s.part) (parts_of s.stage words))

abbrev then_free : List (List ℕ) → Option Step → Option Parts
then_free words = option_and_then (λ s. option_map (with_part s.part) (free_parts s.stage words))

goes_on : (s : Step) (words : List (List ℕ)) → Same words → IsClean s.part → then_parts words (Some s) ≡ undashed (then_free words (Some s))
goes_on s words same clean = ap (option_map (with_part s.part)) (same s.stage) ∙ kept s.part (free_parts s.stage words) clean

by-value : (b : Bool) (option : OptionName) (value : Option (List ℕ)) (words : List (List ℕ)) → Same words
    → then_parts words (by_value b option value) ≡ undashed (then_free words (by_value b option value))
by-value true option None words same = goes_on (step (ValueOf option) part.Nothing) words same tt
by-value true option (Some value) words same = goes_on (given option value) words same tt
by-value false option None words same = goes_on (given option []) words same tt
by-value false option (Some value) words same = refl

by-name : (found : Option OptionName) (value : Option (List ℕ)) (words : List (List ℕ)) → Same words
    → then_parts words (long_read found value) ≡ undashed (then_free words (long_read found value))
by-name None value words same = refl
by-name (Some option) value words same = by-value (valued option) option value words same

one_word : (stage : Stage) {word : List ℕ} (words : List (List ℕ)) → View word → Same words → parts_of stage (word ∷ words) ≡ undashed (free_parts stage (word ∷ words))
one_word Options words empty same = goes_on (step Options (part.File [])) words same refl
one_word Options words dash same = gone (free_parts Options words)
one_word Options words ends same = goes_on (step Files part.Nothing) words same tt
one_word Options words (long b bs) same =
    let text = b ∷ bs in
    ap (then_parts words) (long-is text) ∙ by-name (option_named (name_and_value text).0) (name_and_value text).1 words same
    ∙ ap (λ o. undashed (then_free words o)) (sym (long-is text))
one_word Options words (short b bs e f) same = rw (e, f) refl
one_word Options words (plain b bs e) same = rw e (goes_on (step Options (part.File (b ∷ bs))) words same (rw e refl))
one_word (ValueOf option) words empty same = goes_on (given option []) words same tt
one_word (ValueOf option) words dash same = goes_on (given option (45 ∷ [])) words same tt
one_word (ValueOf option) words ends same = refl
one_word (ValueOf option) words (long b bs) same = refl
one_word (ValueOf option) words (short b bs e f) same = refl
one_word (ValueOf option) words (plain b bs e) same = rw e (goes_on (given option (b ∷ bs)) words same tt)
one_word Files words empty same = goes_on (step Files (part.File [])) words same refl
one_word Files words dash same = gone (free_parts Files words)
one_word Files words ends same = goes_on (step Files (part.File (45 ∷ 45 ∷ []))) words same refl
one_word Files words (long b bs) same = goes_on (step Files (part.File (45 ∷ 45 ∷ b ∷ bs))) words same refl
one_word Files words (short b bs e f) same = goes_on (step Files (part.File (45 ∷ b ∷ bs))) words same refl
one_word Files words (plain b bs e) same = rw e (goes_on (step Files (part.File (b ∷ bs))) words same (rw e refl))

pub parts-free : (words : List (List ℕ)) (stage : Stage) → parts_of stage words ≡ undashed (free_parts stage words)
parts-free [] Options = refl
parts-free [] (ValueOf option) = refl
parts-free [] Files = refl
parts-free (word ∷ words) stage = one_word stage words (view word) (parts-free words)

-- ---- a word of one dash and more has no meaning

-- words with such a word have no parts, before the end of the options
abbrev NoParts : List (List ℕ) → Type 0
NoParts words = has_short words ≡ true → (parts_of Options words ≡ None) × ((option : OptionName) → parts_of (ValueOf option) words ≡ None)

none_by-value : (b : Bool) (option : OptionName) (value : Option (List ℕ)) (words : List (List ℕ))
    → (parts_of Options words ≡ None) × ((o : OptionName) → parts_of (ValueOf o) words ≡ None) → then_parts words (by_value b option value) ≡ None
none_by-value true option None words none = rw (none.1 option) refl
none_by-value true option (Some value) words none = rw none.0 refl
none_by-value false option None words none = rw none.0 refl
none_by-value false option (Some value) words none = refl

none_by-name : (found : Option OptionName) (value : Option (List ℕ)) (words : List (List ℕ))
    → (parts_of Options words ≡ None) × ((o : OptionName) → parts_of (ValueOf o) words ≡ None) → then_parts words (long_read found value) ≡ None
none_by-name None value words none = refl
none_by-name (Some option) value words none = none_by-value (valued option) option value words none

none_here : {word : List ℕ} (words : List (List ℕ)) → View word → NoParts words → NoParts (word ∷ words)
none_here words empty rest has = let none = rest has in (rw none.0 refl, λ option. rw none.0 refl)
none_here words dash rest has = let none = rest has in (refl, λ option. rw none.0 refl)
none_here words ends rest has = absurd (true≢false (sym has))
none_here words (long b bs) rest has =
    let none = rest has in
    (ap (then_parts words) (long-is (b ∷ bs)) ∙ none_by-name (option_named (name_and_value (b ∷ bs)).0) (name_and_value (b ∷ bs)).1 words none, λ option. refl)
none_here words (short b bs e f) rest has = (rw (e, f) refl, λ option. refl)
none_here words (plain b bs e) rest has =
    let none = rest (rw e at has) in
    (rw (e, none.0) refl, λ option. rw (e, none.0) refl)

pub short-none : (words : List (List ℕ)) → NoParts words
short-none [] has = absurd (true≢false (sym has))
short-none (word ∷ words) has = none_here words (view word) (short-none words) has
