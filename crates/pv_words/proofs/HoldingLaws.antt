-- Rows that hold the parts of words: one row for each option that stands, and one for the file words.
use Rattle.std.proofs.Common.{◌≡◌, ◌∙◌, ◌≤◌, ◌+◌, ℕ, Bool, cond, true, false, refl, sym, ap, subst, arith, List, [], ◌∷◌, ◌++◌, Option, Some, None, is_some, nat_le, true≢false}
use Rattle.std.specs.List.{count_by, find, list_any, sum_by}
use Rattle.std.specs.Option.{option_map, option_map_or, option_or}
use Rattle.std.specs.Str.{bytes_eq}
use Rattle.std.proofs.lemmas.Bool.Decides.{nat_tests}
use Rattle.std.proofs.lemmas.List.Folds.{find-append}
use Rattle.std.proofs.lemmas.List.Sums.{sum_by-append}
use Rattle.clap.specs.Walk.{Row, has_row, used, with_values}
use Rattle.clap.specs.declared.builder.value_parser.Reading.TheVariants.{AsWritten}
use Rattle.clap.specs.declared.parser.matches.ValueSource.TheVariants.{CommandLine}
use Rattle.pv_words.specs.Meaning.{times_given, value_of}
use Rattle.pv_words.specs.Parts.{added, no_parts}
use Rattle.pv_words.specs.Part.{Part}
use Rattle.pv_words.specs.Part as part
use Rattle.pv_words.specs.Pieces.{Given, Parts}
use Rattle.pv_words.specs.Table.{option_named, same_option}
use Rattle.pv_words.specs.declared.option.OptionName.{OptionName}
use Rattle.pv_words.proofs.RowLaws.{grown, is-row, new_row, same-text, seen, seen-other, seen-own, without-none}
use Rattle.pv_words.proofs.RuleLaws.{files_id, files-id, id-files, id-own, name_of, named-own, option_made, stands_for, used-is, uses, valued}
use Rattle.pv_path.proofs.Tests.{none_of}

abbrev pub option_row : OptionName → List ℕ → Row
option_row option value = new_row (name_of option) AsWritten CommandLine (stands_for (valued option) value)

abbrev pub files_row : List (List ℕ) → Option Row
files_row [] = None
files_row (word ∷ words) = Some (new_row files_id AsWritten CommandLine (word ∷ words))

pub record Holds (rows : List Row) (parts : Parts) : Type 0 where
  pub option : (o : OptionName) → seen (name_of o) rows ≡ option_map (option_row o) (value_of parts.given o)
  pub files : seen files_id rows ≡ files_row parts.files
  pub once : (o : OptionName) → nat_le (times_given parts.given o) 1 ≡ true

pub holds-none : Holds [] no_parts
holds-none = record { option = λ o. refl; files = refl; once = λ o. refl }

-- ---- options by their names

pub one_option : (a b : OptionName) → same_option a b ≡ true → a ≡ b
one_option a b e = some-is (sym (named-own a) ∙ ap option_named (same-text (name_of a) (name_of b) e) ∙ named-own b)
  where
    some-is : Some a ≡ Some b → a ≡ b
    some-is f = ap (λ (o : Option OptionName). Rattle.std.specs.Option.unwrap_or o a) f

pub value-more : (given : List Given) (g : Given) (o : OptionName)
    → value_of (given ++ g ∷ []) o ≡ option_or (value_of given o) (cond (same_option g.option o) (Some g.value) None)
value-more given g o =
    ap (option_map (λ (h : Given). h.value)) (find-append (λ (h : Given). same_option h.option o) given (g ∷ []))
    ∙ go (find (λ (h : Given). same_option h.option o) given) (same_option g.option o)
  where
    go : (f : Option Given) (b : Bool) → option_map (λ (h : Given). h.value) (option_or f (cond b (Some g) None))
        ≡ option_or (option_map (λ (h : Given). h.value) f) (cond b (Some g.value) None)
    go (Some h) b = refl
    go None true = refl
    go None false = refl

pub times-more : (given : List Given) (g : Given) (o : OptionName)
    → times_given (given ++ g ∷ []) o ≡ times_given given o + (0 + cond (same_option g.option o) 1 0)
times-more given g o = sum_by-append (λ (h : Given). cond (same_option h.option o) 1 0) given (g ∷ [])

times-front : (g : Given) (given : List Given) (o : OptionName)
    → times_given (g ∷ given) o ≡ (0 + cond (same_option g.option o) 1 0) + times_given given o
times-front g given o = sum_by-append (λ (h : Given). cond (same_option h.option o) 1 0) (g ∷ []) given

-- an option that has no value stands nowhere, and one that has stands once at least
pub times-none : (given : List Given) (o : OptionName) → value_of given o ≡ None → times_given given o ≡ 0
times-none [] o none = refl
times-none (g ∷ given) o none = times-front g given o ∙ go (same_option g.option o) none (times-none given o)
  where
    go : (b : Bool) → option_map (λ (h : Given). h.value) (cond b (Some g) (find (λ (h : Given). same_option h.option o) given)) ≡ None
        → (value_of given o ≡ None → times_given given o ≡ 0) → (0 + cond b 1 0) + times_given given o ≡ 0
    go true wrong more = absurd (true≢false (ap is_some wrong))
    go false none' more = let rest = more none' in omega arith

pub times-some : (given : List Given) (o : OptionName) → is_some (value_of given o) ≡ true → 1 ≤ times_given given o
times-some [] o some = absurd (true≢false (sym some))
times-some (g ∷ given) o some = rw (times-front g given o) (go (same_option g.option o) some (times-some given o))
  where
    go : (b : Bool) → is_some (option_map (λ (h : Given). h.value) (cond b (Some g) (find (λ (h : Given). same_option h.option o) given))) ≡ true
        → (is_some (value_of given o) ≡ true → 1 ≤ times_given given o) → 1 ≤ (0 + cond b 1 0) + times_given given o
    go true some' more = omega arith
    go false some' more = let rest = more some' in omega arith

pub is_some-map : {A B : Type 0} (f : A → B) (o : Option A) → is_some (option_map f o) ≡ is_some o
is_some-map f None = refl
is_some-map f (Some a) = refl

-- an option has a row where it stands
pub row-given : (rows : List Row) (parts : Parts) (o : OptionName) → Holds rows parts → has_row (name_of o) rows ≡ is_some (value_of parts.given o)
row-given rows parts o holds =
    is-row (name_of o) rows ∙ ap is_some (holds.option o) ∙ is_some-map (option_row o) (value_of parts.given o)

-- ---- one part more

option-more : (rows : List Row) (parts : Parts) (o : OptionName) (value : List ℕ) → Holds rows parts → has_row (name_of o) rows ≡ false
    → Holds (with_values (name_of o) AsWritten CommandLine (stands_for (valued o) value) rows) (added parts (part.Given (record { option = o; value = value })))
option-more rows parts o value holds none = record {
  option = λ p. each p (same_option o p) refl;
  files = seen-other (name_of o) files_id AsWritten CommandLine (stands_for (valued o) value) rows (id-files o) ∙ holds.files;
  once = λ p. times p (same_option o p) refl;
}
  where
    absent : value_of parts.given o ≡ None
    absent = none_of (value_of parts.given o) (sym (row-given rows parts o holds) ∙ none)

    own : seen (name_of o) (with_values (name_of o) AsWritten CommandLine (stands_for (valued o) value) rows)
        ≡ option_map (option_row o) (option_or (value_of parts.given o) (cond (same_option o o) (Some value) None))
    own =
        seen-own (name_of o) AsWritten CommandLine (stands_for (valued o) value) rows (id-own o)
        ∙ ap (λ (r : Option Row). Some (option_map_or (grown CommandLine (stands_for (valued o) value)) r (option_row o value)))
        (holds.option o ∙ ap (option_map (option_row o)) absent)
        ∙ sym (ap (λ (v : Option (List ℕ)). option_map (option_row o) (option_or v (cond (same_option o o) (Some value) None))) absent
        ∙ ap (λ (b : Bool). option_map (option_row o) (cond b (Some value) None)) (id-own o))

    or-none : (v : Option (List ℕ)) → option_or v None ≡ v
    or-none None = refl
    or-none (Some x) = refl

    each : (p : OptionName) (b : Bool) → same_option o p ≡ b
        → seen (name_of p) (with_values (name_of o) AsWritten CommandLine (stands_for (valued o) value) rows)
        ≡ option_map (option_row p) (value_of (parts.given ++ record { option = o; value = value } ∷ []) p)
    each p true e =
        subst (λ q. seen (name_of q) (with_values (name_of o) AsWritten CommandLine (stands_for (valued o) value) rows)
        ≡ option_map (option_row q) (option_or (value_of parts.given q) (cond (same_option o q) (Some value) None))) (one_option o p e) own
        ∙ ap (option_map (option_row p)) (sym (value-more parts.given (record { option = o; value = value }) p))
    each p false e =
        seen-other (name_of o) (name_of p) AsWritten CommandLine (stands_for (valued o) value) rows e ∙ holds.option p
        ∙ ap (option_map (option_row p)) (sym (value-more parts.given (record { option = o; value = value }) p
        ∙ ap (λ (b : Bool). option_or (value_of parts.given p) (cond b (Some value) None)) e ∙ or-none (value_of parts.given p)))

    at_once : (n : ℕ) → n ≡ 0 → nat_le (n + (0 + 1)) 1 ≡ true
    at_once n e = rw e refl

    still_once : (n : ℕ) → nat_le n 1 ≡ true → nat_le (n + (0 + 0)) 1 ≡ true
    still_once n e = grind (arith, nat_tests)

    times : (p : OptionName) (b : Bool) → same_option o p ≡ b → nat_le (times_given (parts.given ++ record { option = o; value = value } ∷ []) p) 1 ≡ true
    times p true e =
        ap (λ n. nat_le n 1) (times-more parts.given (record { option = o; value = value }) p ∙ ap (λ (b : Bool). times_given parts.given p + (0 + cond b 1 0)) e)
        ∙ at_once (times_given parts.given p) (subst (λ q. times_given parts.given q ≡ 0) (one_option o p e) (times-none parts.given o absent))
    times p false e =
        ap (λ n. nat_le n 1) (times-more parts.given (record { option = o; value = value }) p ∙ ap (λ (b : Bool). times_given parts.given p + (0 + cond b 1 0)) e)
        ∙ still_once (times_given parts.given p) (holds.once p)

-- after a use of an option
pub holds-option : (rows : List Row) (parts : Parts) (o : OptionName) (value : List ℕ) → Holds rows parts → has_row (name_of o) rows ≡ false
    → Holds (used (option_made o) (uses (valued o) value) rows) (added parts (part.Given (record { option = o; value = value })))
holds-option rows parts o value holds none =
    subst (λ now. Holds now (added parts (part.Given (record { option = o; value = value }))))
    (ap (with_values (name_of o) AsWritten CommandLine (stands_for (valued o) value)) (sym (without-none (name_of o) rows none))
    ∙ sym (used-is (name_of o) (valued o) value rows))
    (option-more rows parts o value holds none)

-- after a file word
pub holds-file : (rows : List Row) (parts : Parts) (word : List ℕ) → Holds rows parts
    → Holds (with_values files_id AsWritten CommandLine (word ∷ []) rows) (added parts (part.File word))
holds-file rows parts word holds = record {
  option = λ o. seen-other files_id (name_of o) AsWritten CommandLine (word ∷ []) rows (files-id o) ∙ holds.option o;
  files = seen-own files_id AsWritten CommandLine (word ∷ []) rows refl
      ∙ ap (λ (r : Option Row). Some (option_map_or (grown CommandLine (word ∷ [])) r (new_row files_id AsWritten CommandLine (word ∷ [])))) holds.files
      ∙ go parts.files;
  once = holds.once;
}
  where
    go : (files : List (List ℕ))
        → Some (option_map_or (grown CommandLine (word ∷ [])) (files_row files) (new_row files_id AsWritten CommandLine (word ∷ []))) ≡ files_row (files ++ word ∷ [])
    go [] = refl
    go (f ∷ files) = refl

-- ---- an option that stands twice

abbrev pub Repeats : List Given → Type 0
Repeats given = (o : OptionName) × (nat_le (times_given given o) 1 ≡ false)

pub repeats-again : (rows : List Row) (parts : Parts) (o : OptionName) (value : List ℕ) → Holds rows parts → has_row (name_of o) rows ≡ true
    → Repeats (added parts (part.Given (record { option = o; value = value }))).given
repeats-again rows parts o value holds one = (o, twice (times_given parts.given o) _ some more)
  where
    some : 1 ≤ times_given parts.given o
    some = times-some parts.given o (sym (row-given rows parts o holds) ∙ one)

    more : times_given (parts.given ++ record { option = o; value = value } ∷ []) o ≡ times_given parts.given o + (0 + 1)
    more = times-more parts.given (record { option = o; value = value }) o ∙ ap (λ (b : Bool). times_given parts.given o + (0 + cond b 1 0)) (id-own o)

    twice : (n m : ℕ) → 1 ≤ n → m ≡ n + (0 + 1) → nat_le m 1 ≡ false
    twice n m least is = grind (arith, nat_tests)

pub repeats-more : (first second : List Given) → Repeats first → Repeats (first ++ second)
repeats-more first second repeats =
    let o = repeats.0 in
    (o, most (times_given first o) _ _ repeats.1 (sum_by-append (λ (h : Given). cond (same_option h.option o) 1 0) first second))
  where
    most : (n k m : ℕ) → nat_le n 1 ≡ false → m ≡ n + k → nat_le m 1 ≡ false
    most n k m e is = grind (arith, nat_tests)
