-- What `clap` reads of words is what they mean.
use Rattle.std.proofs.Common.{◌≡◌, ◌∙◌, ◌&&◌, ◌⊎◌, ℕ, Bool, cond, true, false, not, refl, sym, ap, subst, List, [], ◌∷◌, Option, Some, None, Err, is_some, inl, inr, nat_le, true≢false}
use Rattle.std.specs.Prelude.{option_and_then, slice_get, if◌then◌else◌, fold}
use Rattle.std.specs.List.{find, list_all, list_any}
use Rattle.std.specs.Option.{option_map}
use Rattle.std.specs.Str.{bytes_eq}
use Rattle.clap.specs.Facts.{Entry}
use Rattle.clap.specs.Faults.{check_fault, fault_of, is_simple_and_free, settle_fault, walk_fault}
use Rattle.clap.specs.Kinds.{IsAmong, Kinds, or_else}
use Rattle.clap.specs.Matches.{found_of, matched_of}
use Rattle.clap.specs.Simple.{App, HasMatchesOf, built}
use Rattle.clap.specs.Walk.{Row, Text, first_of, finished, idle, nothing_held, row_of, rows_of, settled, walked, with_default}
use Rattle.clap.specs.declared.error.kind.ErrorKind.{ErrorKind}
use Rattle.clap.specs.declared.error.kind.ErrorKind.TheVariants.{OutOfMemory}
use Rattle.clap.specs.declared.parser.matches.ArgMatches.{ArgMatches}
use Rattle.clap.specs.declared.parser.matches.Found.{Found}
use Rattle.clap.proofs.FaultLemmas.{leaf_fault}
use Rattle.clap.proofs.WalkLemmas.{find_row, first_value-rows, raw_values-rows}
use Rattle.pv_text.specs.declared.tool.Tool.{Tool}
use Rattle.pv_words.specs.Command.{words_app}
use Rattle.pv_words.specs.Meaning.{is_allowed, is_given, meaning_for, options_from, options_with, times_given, value_of}
use Rattle.pv_words.specs.Parts.{is_dash}
use Rattle.pv_words.specs.Pieces.{Given, Parts}
use Rattle.pv_words.specs.Reading.{Reads, fault_of as fault_for, files_in, has_short, is_found, is_from_words, options_in, value_in}
use Rattle.pv_words.specs.Stage as stage
use Rattle.pv_words.specs.Table.{all_options, same_option}
use Rattle.pv_words.specs.Values.{values_read}
use Rattle.pv_words.specs.declared.words_fault.WordsFault.{WordsFault}
use Rattle.pv_words.specs.declared.words_fault.WordsFault.TheVariants.{Usage, Memory}
use Rattle.pv_words.specs.declared.option.OptionName.{OptionName}
use Rattle.pv_words.specs.declared.options.Options.{Options}
use Rattle.pv_words.specs.declared.options.Values.{Values}
use Rattle.pv_words.proofs.FilesLaws.{all_or_none, files-or}
use Rattle.pv_words.proofs.HoldingLaws.{Holds, Repeats, files_row, is_some-map, option_row}
use Rattle.pv_words.proofs.ParsingLaws.{free_parts, parts-free, short-none, undashed}
use Rattle.pv_words.proofs.RowLaws.{defaults-no_use, defaults-other, seen, source_of}
use Rattle.pv_words.proofs.RuleLaws.{app-simple, defaults-pass, each, files-free, files_id, name_of, stands_for, subs-none, top, top-table, valued, valued-free}
use Rattle.pv_words.proofs.ToldLaws.{NoMeaning, UnlessMemory, fails, passes, stated}
use Rattle.pv_words.proofs.TurnLaws.{at, rows_from, walk_from_fault}
use Rattle.pv_path.proofs.Tests.{list_any-find}

-- ---- what was found, by the rows

source-rows : (found : Found) (id : Text) → option_and_then (λ a. a.source) (matched_of found id) ≡ source_of (seen id (rows_of found))
source-rows found id = go (find (λ (e : Entry). bytes_eq e.0.now id) found.entries.items) ∙ ap source_of (sym (find_row found.entries.items id))
  where
    go : (o : Option Entry) → option_and_then (λ a. a.source) (option_map (λ (e : Entry). e.1) o) ≡ source_of (option_map row_of o)
    go None = refl
    go (Some e) = refl

module _ (found : Found) (rows : List Row) (parts : Parts) (are : rows_of found ≡ fold with_default rows top.rules) (holds : Holds rows parts) where
  found-is : (o : OptionName) → is_found found o ≡ is_given parts.given o
  found-is o =
      ap is_from_words (source-rows found (name_of o)) ∙ ap (λ (rs : List Row). is_from_words (source_of (seen (name_of o) rs))) are
      ∙ defaults-no_use top.rules rows (name_of o) ∙ ap (λ (r : Option Row). is_from_words (source_of r)) (holds.option o)
      ∙ go (value_of parts.given o) ∙ is_some-map (λ (g : Given). g.value) (find (λ (g : Given). same_option g.option o) parts.given)
      ∙ sym (list_any-find (λ (g : Given). same_option g.option o) parts.given)
    where
      go : (v : Option (List ℕ)) → is_from_words (source_of (option_map (option_row o) v)) ≡ is_some v
      go None = refl
      go (Some x) = refl

  value-is : (o : OptionName) → valued o ≡ true → value_in found o ≡ value_of parts.given o
  value-is o takes =
      first_value-rows found (name_of o) ∙ ap (first_of (name_of o)) are
      ∙ ap (option_and_then (λ (r : Row). slice_get r.values 0)) (defaults-other top.rules rows (name_of o) (valued-free o takes) ∙ holds.option o)
      ∙ go (value_of parts.given o)
    where
      go : (v : Option (List ℕ)) → option_and_then (λ (r : Row). slice_get r.values 0) (option_map (option_row o) v) ≡ v
      go None = refl
      go (Some x) = ap (λ (t : Bool). slice_get (stands_for t x) 0) takes

  files-is : files_in found ≡ parts.files
  files-is =
      files-or (matched_of found files_id) ∙ ap all_or_none (raw_values-rows found files_id
      ∙ ap (λ (rs : List Row). option_map (λ (r : Row). r.values) (seen files_id rs)) are
      ∙ ap (option_map (λ (r : Row). r.values)) (defaults-other top.rules rows files_id files-free ∙ holds.files))
      ∙ go parts.files
    where
      go : (files : List (List ℕ)) → all_or_none (option_map (λ (r : Row). r.values) (files_row files)) ≡ files
      go [] = refl
      go (f ∷ fs) = refl

-- ---- the options, by which of them stand, the file words and the values

abbrev options_by : Tool → (OptionName → Bool) → List (List ℕ) → Option Values → Option Options
options_by tool stands files values =
    if is_allowed tool stands files && not (list_any is_dash files) then option_map (options_with tool stands files) values else None

-- values are read of the options that take one
values-same : (f g : OptionName → Option (List ℕ)) → ((o : OptionName) → valued o ≡ true → f o ≡ g o) → values_read f ≡ values_read g
values-same f g same = λ i. values_read (λ o. by_kind o (valued o) refl i)
  where
    by_kind : (o : OptionName) (b : Bool) → valued o ≡ b → cond b (f o) None ≡ cond b (g o) None
    by_kind o true takes = same o takes
    by_kind o false takes = refl

every : {X : Type 0} (f : X → Bool) (xs : List X) → ((x : X) → f x ≡ true) → list_all f xs ≡ true
every f [] h = refl
every f (x ∷ xs) h = rw (h x) (every f xs h)

-- where each option stands at most once, they are the options of the parts
options-given : (tool : Tool) (parts : Parts) → ((o : OptionName) → nat_le (times_given parts.given o) 1 ≡ true)
    → options_by tool (is_given parts.given) parts.files (values_read (value_of parts.given)) ≡ option_and_then (options_from tool) (undashed (Some parts))
options-given tool parts once =
    allowed (is_allowed tool (is_given parts.given) parts.files) (list_any is_dash parts.files) read
    ∙ dashed (list_any is_dash parts.files) (cond (is_allowed tool (is_given parts.given) parts.files) read None) from
  where
    read : Option Options
    read = option_map (options_with tool (is_given parts.given) parts.files) (values_read (value_of parts.given))

    from : options_from tool parts ≡ cond (is_allowed tool (is_given parts.given) parts.files) read None
    from = ap (λ (b : Bool). cond (b && is_allowed tool (is_given parts.given) parts.files) read None)
        (every (λ (o : OptionName). nat_le (times_given parts.given o) 1) all_options once)

    dashed : (d : Bool) (x : Option Options) → options_from tool parts ≡ x → cond d None x ≡ option_and_then (options_from tool) (cond d None (Some parts))
    dashed true x e = refl
    dashed false x e = sym e

    allowed : (a d : Bool) (x : Option Options) → cond (a && not d) x None ≡ cond d None (cond a x None)
    allowed true true x = refl
    allowed true false x = refl
    allowed false true x = refl
    allowed false false x = refl

-- ---- an option that stands twice

one_fails : (f : OptionName → Bool) (o : OptionName) → f o ≡ false → list_all f all_options ≡ false
one_fails f o e = go (list_all f all_options) refl
  where
    go : (b : Bool) → list_all f all_options ≡ b → b ≡ false
    go false all = refl
    go true all = absurd (true≢false (sym (each f all o) ∙ e))

refused-twice : (tool : Tool) (parts : Parts) → Repeats parts.given → options_from tool parts ≡ None
refused-twice tool parts repeats =
    let o = repeats.0 in
    ap (λ (b : Bool). if b && is_allowed tool (is_given parts.given) parts.files
    then option_map (options_with tool (is_given parts.given) parts.files) (values_read (value_of parts.given)) else None)
    (one_fails (λ (p : OptionName). nat_le (times_given parts.given p) 1) o repeats.1)

refused : (tool : Tool) (meaning : Option Parts) → NoMeaning meaning → option_and_then (options_from tool) (undashed meaning) ≡ None
refused tool None none = refl
refused tool (Some parts) none = go (list_any is_dash parts.files)
  where
    go : (d : Bool) → option_and_then (options_from tool) (cond d None (Some parts)) ≡ None
    go true = refl
    go false = refused-twice tool parts (none parts refl)

-- ---- what the command reads

or-none : (a : Kinds) → or_else a [] ≡ a
or-none [] = refl
or-none (k ∷ ks) = refl

-- the command fails as the walk over the words does
fault-is : (words : List Text) → fault_of words_app words ≡ walk_from_fault top (at nothing_held idle false) words
fault-is words =
    let end = (fold (walked top.rules []) (at nothing_held idle false) words).held in
    let settle = settle_fault top.rules top.args_override_self end in
    let over = walk_fault top [] (at nothing_held idle false) words in
    leaf_fault (built words_app) nothing_held words subs-none
    ∙ ap (λ (d : Kinds). or_else over (or_else settle (or_else d (check_fault top (finished top.rules end) false)))) (defaults-pass (settled top.rules end).rows)
    ∙ ap (or_else over) (or-none settle)

-- the matches tell what the words mean
reads-matches : (words : List Text) (m : ArgMatches) → has_short words ≡ false → fault_of words_app words ≡ [] → HasMatchesOf words_app words m
    → (tool : Tool) → options_in tool (found_of m) ≡ meaning_for tool words
reads-matches words m none passed has tool =
    go (stated top top-table words none) ∙ ap (option_and_then (options_from tool)) (sym (parts-free words stage.Options))
  where
    go : UnlessMemory (walk_from_fault top (at nothing_held idle false) words) (rows_from top (at nothing_held idle false) words) (free_parts stage.Options words)
        → options_in tool (found_of m) ≡ option_and_then (options_from tool) (undashed (free_parts stage.Options words))
    go (fails k ks fault twice) = absurd (cc (passed, fault-is words, fault))
    go (passes parts some fault holds) =
        let found = found_of m in
        let rows = rows_from top (at nothing_held idle false) words in
        let are : rows_of found ≡ fold with_default rows top.rules = (has refl).0 in
        (λ i. options_by tool (λ o. found-is found rows parts are holds o i) (files-is found rows parts are holds i)
        (values-same (value_in found) (value_of parts.given) (value-is found rows parts are holds) i))
        ∙ options-given tool parts holds.once
        ∙ ap (λ (p : Option Parts). option_and_then (options_from tool) (undashed p)) (sym some)

-- words that the command refuses mean nothing
reads-fault : (words : List Text) (k : ErrorKind) → has_short words ≡ false → (k ≡ OutOfMemory) ⊎ IsAmong k (fault_of words_app words)
    → Reads (Err (fault_for k)) words
reads-fault words k none among = go (fault_for k) refl
  where
    twice : UnlessMemory (walk_from_fault top (at nothing_held idle false) words) (rows_from top (at nothing_held idle false) words) (free_parts stage.Options words)
        → IsAmong k (fault_of words_app words) → NoMeaning (free_parts stage.Options words)
    twice (fails _ _ fault repeats) here = repeats
    twice (passes parts some fault holds) here = absurd (subst (IsAmong k) (fault-is words ∙ fault) here)

    not_memory : fault_for k ≡ Usage → (k ≡ OutOfMemory) ⊎ IsAmong k (fault_of words_app words) → IsAmong k (fault_of words_app words)
    not_memory usage (inl memory) = absurd (cc (sym usage ∙ ap fault_for memory))
    not_memory usage (inr here) = here

    go : (fault : WordsFault) → fault_for k ≡ fault → Reads (Err fault) words
    go Memory e = tt
    go Usage e = λ tool.
        ap (option_and_then (options_from tool)) (parts-free words stage.Options)
        ∙ refused tool (free_parts stage.Options words) (twice (stated top top-table words none) (not_memory e among))

-- and so do words with a word of one dash and more
pub reads-short : (words : List Text) → has_short words ≡ true → (tool : Tool) → meaning_for tool words ≡ None
reads-short words has tool = ap (option_and_then (options_from tool)) (short-none words has).0

-- the same of a command that is known to be that one
pub command-matches : (app : App) (words : List Text) (m : ArgMatches) → app ≡ words_app → has_short words ≡ false
    → (is_simple_and_free app ≡ true → fault_of app words ≡ []) → HasMatchesOf app words m → (tool : Tool) → options_in tool (found_of m) ≡ meaning_for tool words
command-matches app words m is none kinds has =
    reads-matches words m none (ap (λ (a : App). fault_of a words) (sym is) ∙ kinds (ap is_simple_and_free is ∙ app-simple))
    (subst (λ (a : App). HasMatchesOf a words m) is has)

pub command-fault : (app : App) (words : List Text) (k : ErrorKind) → app ≡ words_app → has_short words ≡ false
    → (is_simple_and_free app ≡ true → (k ≡ OutOfMemory) ⊎ IsAmong k (fault_of app words)) → Reads (Err (fault_for k)) words
command-fault app words k is none kinds =
    reads-fault words k none (subst (λ (a : App). (k ≡ OutOfMemory) ⊎ IsAmong k (fault_of a words)) is (kinds (ap is_simple_and_free is ∙ app-simple)))
