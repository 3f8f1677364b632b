-- What `clap`'s rows have for an id.
use Rattle.std.proofs.Common.{◌≡◌, ◌∙◌, ◌&&◌, ◌||◌, Bool, cond, true, false, not, refl, sym, ap, List, [], ◌∷◌, ◌++◌, Option, Some, None, is_some, suc, length, arith, true≢false}
use Rattle.std.specs.Prelude.{option_and_then}
use Rattle.std.specs.List.{find, fold, list_all}
use Rattle.std.specs.Option.{option_map_or, option_or}
use Rattle.std.specs.Str.{bytes_eq}
use Rattle.std.proofs.lemmas.List.Folds.{find-append}
use Rattle.std.proofs.lemmas.Slice.Eq.{bytes_eq-Decides}
use Rattle.std.proofs.lemmas.Bool.Decides.{Decides-eqb}
use Rattle.clap.specs.Walk.{Row, Rule, Text, at_row, default_rows, has_row, is_empty, more_values, reading_by, stronger, with_default, with_values, without}
use Rattle.clap.specs.declared.builder.value_parser.Reading.{Reading}
use Rattle.clap.specs.declared.parser.matches.ValueSource.{ValueSource}
use Rattle.clap.specs.declared.parser.matches.ValueSource.TheVariants.{DefaultValue}
use Rattle.pv_words.specs.Reading.{is_from_words}
use Rattle.pv_path.proofs.Tests.{list_any-find}

-- the row of an id
abbrev pub seen : Text → List Row → Option Row
seen id rows = find (λ r. bytes_eq r.id id) rows

pub same-text : (a b : Text) → bytes_eq a b ≡ true → a ≡ b
same-text a b e = (bytes_eq-Decides a b).0 e

-- a row comes to the end where its id has none
pub at-missing : (id : Text) (change : Row → List Row) (missing rows : List Row) → has_row id rows ≡ false → at_row id change missing rows ≡ rows ++ missing
at-missing id change missing [] none = refl
at-missing id change missing (r ∷ rows) none = go (bytes_eq r.id id) none (at-missing id change missing rows)
  where
    go : (b : Bool) → (b || has_row id rows) ≡ false → (has_row id rows ≡ false → at_row id change missing rows ≡ rows ++ missing)
        → cond b (change r ++ rows) (r ∷ at_row id change missing rows) ≡ r ∷ (rows ++ missing)
    go true none' more = absurd (true≢false none')
    go false none' more = ap (λ rs. r ∷ rs) (more none')

-- no row of the id goes
pub without-none : (id : Text) (rows : List Row) → has_row id rows ≡ false → without id rows ≡ rows
without-none id [] none = refl
without-none id (r ∷ rows) none = go (bytes_eq r.id id) none (without-none id rows)
  where
    go : (b : Bool) → (b || has_row id rows) ≡ false → (has_row id rows ≡ false → without id rows ≡ rows) → cond b rows (r ∷ without id rows) ≡ r ∷ rows
    go true none' more = absurd (true≢false none')
    go false none' more = ap (λ rs. r ∷ rs) (more none')

-- what a row is after more values
abbrev pub grown : ValueSource → List Text → Row → Row
grown s values r = record r { values = r.values ++ values; source = Some (stronger r.source s) }

abbrev pub new_row : Text → Reading → ValueSource → List Text → Row
new_row id how s values = record { id = id; values = values; count = None; source = Some s; reading = how }

-- more values leave the rows of other ids
pub seen-other : (id other : Text) (how : Reading) (s : ValueSource) (values : List Text) (rows : List Row) → bytes_eq id other ≡ false
    → seen other (with_values id how s values rows) ≡ seen other rows
seen-other id other how s values [] differs = rw differs refl
seen-other id other how s values (r ∷ rows) differs = go (bytes_eq r.id id) refl (seen-other id other how s values rows differs)
  where
    go : (b : Bool) → bytes_eq r.id id ≡ b → seen other (with_values id how s values rows) ≡ seen other rows
        → seen other (cond b (grown s values r ∷ rows) (r ∷ with_values id how s values rows)) ≡ seen other (r ∷ rows)
    go true same more =
        let is : r.id ≡ id = same-text r.id id same in
        let differs' : bytes_eq r.id other ≡ false = rw is differs in
        rw differs' refl
    go false same more = ap (λ (o : Option Row). cond (bytes_eq r.id other) (Some r) o) more

-- and change the row of their own
pub seen-own : (id : Text) (how : Reading) (s : ValueSource) (values : List Text) (rows : List Row) → bytes_eq id id ≡ true
    → seen id (with_values id how s values rows) ≡ Some (option_map_or (grown s values) (seen id rows) (new_row id how s values))
seen-own id how s values [] same = rw same refl
seen-own id how s values (r ∷ rows) same = go (bytes_eq r.id id) refl (seen-own id how s values rows same)
  where
    go : (b : Bool) → bytes_eq r.id id ≡ b
        → seen id (with_values id how s values rows) ≡ Some (option_map_or (grown s values) (seen id rows) (new_row id how s values))
        → seen id (cond b (grown s values r ∷ rows) (r ∷ with_values id how s values rows))
        ≡ Some (option_map_or (grown s values) (cond b (Some r) (seen id rows)) (new_row id how s values))
    go true here more = rw here refl
    go false here more = rw here more

pub is-row : (id : Text) (rows : List Row) → has_row id rows ≡ is_some (seen id rows)
is-row id rows = list_any-find (λ (r : Row). bytes_eq r.id id) rows

-- ---- defaults

abbrev pub source_of : Option Row → Option ValueSource
source_of = option_and_then (λ (r : Row). r.source)

-- a default is no use
pub default-no_use : (rows : List Row) (a : Rule) (id : Text) → is_from_words (source_of (seen id (with_default rows a))) ≡ is_from_words (source_of (seen id rows))
default-no_use rows a id = go (has_row a.id rows) refl a.defaults
  where
    late : (o : Option Row) (r : Row) (b : Bool) → r.source ≡ Some DefaultValue
        → is_from_words (source_of (option_or o (cond b (Some r) None))) ≡ is_from_words (source_of o)
    late (Some x) r b e = refl
    late None r true e = rw e refl
    late None r false e = refl

    go : (b : Bool) → has_row a.id rows ≡ b → (ds : List Text)
        → is_from_words (source_of (seen id (cond b rows (default_rows a.id (reading_by a) ds rows)))) ≡ is_from_words (source_of (seen id rows))
    go true e ds = refl
    go false e [] = refl
    go false e (d ∷ ds) =
        let new = new_row a.id (reading_by a) DefaultValue (d ∷ ds) in
        let more : with_values a.id (reading_by a) DefaultValue (d ∷ ds) rows ≡ rows ++ new ∷ [] =
        at-missing a.id (more_values DefaultValue (d ∷ ds)) (new ∷ []) rows e in
        rw (more, find-append (λ (r : Row). bytes_eq r.id id) rows (new ∷ [])) (late (seen id rows) new (bytes_eq a.id id) refl)

pub defaults-no_use : (rules : List Rule) (rows : List Row) (id : Text)
    → is_from_words (source_of (seen id (fold with_default rows rules))) ≡ is_from_words (source_of (seen id rows))
defaults-no_use [] rows id = refl
defaults-no_use (a ∷ rules) rows id = defaults-no_use rules (with_default rows a) id ∙ default-no_use rows a id

some_texts : (d : Text) (ds : List Text) → is_empty (d ∷ ds) ≡ false
some_texts d ds = go (is_empty (d ∷ ds)) refl
  where
    go : (b : Bool) → is_empty (d ∷ ds) ≡ b → b ≡ false
    go false e = refl
    go true e = let wrong : suc (length ds) ≡ 0 = (Decides-eqb (length (d ∷ ds)) 0).0 e in absurd (omega arith)

-- a rule has no default for the id
abbrev pub leaves : Text → Rule → Bool
leaves id a = is_empty a.defaults || not (bytes_eq a.id id)

pub default-other : (rows : List Row) (a : Rule) (id : Text) → leaves id a ≡ true → seen id (with_default rows a) ≡ seen id rows
default-other rows a id free = go (has_row a.id rows) a.defaults free
  where
    other : (b : Bool) (ds : List Text) (d : Text) → bytes_eq a.id id ≡ b → not b ≡ true
        → seen id (with_values a.id (reading_by a) DefaultValue (d ∷ ds) rows) ≡ seen id rows
    other true ds d e free' = absurd (true≢false (sym free'))
    other false ds d e free' = seen-other a.id id (reading_by a) DefaultValue (d ∷ ds) rows e

    go : (b : Bool) (ds : List Text) → (is_empty ds || not (bytes_eq a.id id)) ≡ true
        → seen id (cond b rows (default_rows a.id (reading_by a) ds rows)) ≡ seen id rows
    go true ds free' = refl
    go false [] free' = refl
    go false (d ∷ ds) free' = other (bytes_eq a.id id) ds d refl (rw (some_texts d ds) at free')

pub defaults-other : (rules : List Rule) (rows : List Row) (id : Text) → list_all (leaves id) rules ≡ true → seen id (fold with_default rows rules) ≡ seen id rows
defaults-other [] rows id free = refl
defaults-other (a ∷ rules) rows id free = go (leaves id a) refl free (defaults-other rules (with_default rows a) id)
  where
    go : (b : Bool) → leaves id a ≡ b → (b && list_all (leaves id) rules) ≡ true
        → (list_all (leaves id) rules ≡ true → seen id (fold with_default (with_default rows a) rules) ≡ seen id (with_default rows a)) → seen id (fold with_default (with_default rows a) rules) ≡ seen id rows
    go true e free' more = more free' ∙ default-other rows a id e
    go false e free' more = absurd (true≢false (sym free'))
