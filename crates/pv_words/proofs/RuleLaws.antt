-- The rules of the command as `clap` builds it.
use Rattle.std.proofs.Common.{◌≡◌, ◌∙◌, ◌||◌, ℕ, Bool, cond, true, false, not, refl, sym, ap, List, [], ◌∷◌, ◌++◌, Option, Some, codes, is_some, map, true≢false}
use Rattle.std.specs.List.{find, list_all}
use Rattle.std.specs.Option.{option_map, unwrap_or}
use Rattle.std.specs.Str.{bytes_eq}
use Rattle.std.proofs.lemmas.Bool.{not-true}
use Rattle.clap.specs.Walk.{Row, Rule, arg_by_id, arg_by_index, arg_by_long, has_row, takes_values, used, with_default, with_values, without}
use Rattle.clap.specs.Simple.{Shape, built, filled, with_index}
use Rattle.clap.specs.Kinds.{Kinds, or_else}
use Rattle.clap.specs.Faults.{default_fault, defaults_fault, is_simple_and_free, use_fault}
use Rattle.clap.specs.declared.builder.value_parser.Reading.TheVariants.{AsWritten}
use Rattle.clap.specs.declared.error.kind.ErrorKind.TheVariants.{ArgumentConflict, InvalidValue}
use Rattle.clap.specs.declared.parser.matches.ValueSource.TheVariants.{CommandLine}
use Rattle.clap.proofs.WalkLemmas.{both}
use Rattle.pv_path.specs.Names.{same_bytes}
use Rattle.pv_words.specs.Command.{action_for, files_rule, rule_named, words_app}
use Rattle.pv_words.specs.Table.{all_options, option_named, row_of, takes_value}
use Rattle.pv_words.specs.declared.option.OptionName.{OptionName}
use Rattle.pv_words.specs.declared.option.OptionName.TheVariants.{Create, Remove, Clean, Report, Purge, Explain, Boot, Prefix, ExcludePrefix, StopAfter, Now}
use Rattle.pv_words.proofs.RowLaws.{leaves}

-- what an option is called, and whether it takes a value
abbrev pub name_of : OptionName → List ℕ
name_of option = (row_of option).name

abbrev pub valued : OptionName → Bool
valued option = takes_value (row_of option)

-- an option as it is built, and the file words
abbrev pub made : List ℕ → Bool → Rule
made name takes = filled (rule_named name (action_for takes))

abbrev pub option_made : OptionName → Rule
option_made option = made (name_of option) (valued option)

abbrev pub files_made : Rule
files_made = with_index 1 (filled files_rule)

abbrev pub files_id : List ℕ
files_id = codes "files"

-- what the walk reads of the built command
pub record IsTable (s : Shape) : Type 0 where
  pub again : s.args_override_self ≡ false
  pub by_long : (name : List ℕ) → arg_by_long s.rules name ≡ option_map option_made (option_named name)
  pub by_id : (option : OptionName) → arg_by_id s.rules (name_of option) ≡ Some (option_made option)
  pub files : arg_by_id s.rules files_id ≡ Some files_made
  pub first : arg_by_index s.rules 1 ≡ Some files_made

abbrev pub top : Shape
top = (built words_app).top

-- one more option in the search by a name
found_next : (o : OptionName) (b : Bool) (x : Option Rule) (y : Option OptionName) → x ≡ option_map option_made y
    → cond (b || false) (Some (option_made o)) x ≡ option_map option_made (cond b (Some o) y)
found_next o true x y e = refl
found_next o false x y e = e

long-is : (name : List ℕ) → arg_by_long top.rules name ≡ option_map option_made (option_named name)
long-is name =
    found_next Create _ _ _ (found_next Remove _ _ _ (found_next Clean _ _ _ (found_next Report _ _ _ (found_next Purge _ _ _
    (found_next Explain _ _ _ (found_next Boot _ _ _ (found_next Prefix _ _ _ (found_next ExcludePrefix _ _ _ (found_next StopAfter _ _ _ (found_next Now _ _ _ refl))))))))))

id-is : (option : OptionName) → arg_by_id top.rules (name_of option) ≡ Some (option_made option)
id-is Create = refl
id-is Remove = refl
id-is Clean = refl
id-is Report = refl
id-is Purge = refl
id-is Explain = refl
id-is Boot = refl
id-is Prefix = refl
id-is ExcludePrefix = refl
id-is StopAfter = refl
id-is Now = refl

pub top-table : IsTable top
top-table = record {
  again = refl;
  by_long = long-is;
  by_id = id-is;
  files = refl;
  first = refl;
}

pub app-simple : is_simple_and_free words_app ≡ true
app-simple = refl

pub subs-none : (built words_app).subs ≡ []
subs-none = refl

-- the names
pub named-own : (option : OptionName) → option_named (name_of option) ≡ Some option
named-own Create = refl
named-own Remove = refl
named-own Clean = refl
named-own Report = refl
named-own Purge = refl
named-own Explain = refl
named-own Boot = refl
named-own Prefix = refl
named-own ExcludePrefix = refl
named-own StopAfter = refl
named-own Now = refl

-- what all pass, one that is found among them passes
found-passes : {X : Type 0} (f p : X → Bool) (xs : List X) (x : X) → find p xs ≡ Some x → list_all f xs ≡ true → f x ≡ true
found-passes f p [] x found all = absurd (true≢false (ap is_some (sym found)))
found-passes f p (y ∷ ys) x found all = go (p y) found (both (f y) (list_all f ys) all) (found-passes f p ys x)
  where
    go : (b : Bool) → cond b (Some y) (find p ys) ≡ Some x → (f y ≡ true) × (list_all f ys ≡ true)
        → (find p ys ≡ Some x → list_all f ys ≡ true → f x ≡ true) → f x ≡ true
    go true is pair more = ap f (sym (ap (λ (o : Option _). unwrap_or o y) is)) ∙ pair.0
    go false is pair more = more is pair.1

-- what the whole table passes, each option passes
pub each : (f : OptionName → Bool) → list_all f all_options ≡ true → (option : OptionName) → f option ≡ true
each f all option = found-passes f (λ (o : OptionName). same_bytes (name_of o) (name_of option)) all_options option (named-own option) all

pub id-own : (option : OptionName) → bytes_eq (name_of option) (name_of option) ≡ true
id-own = each (λ (o : OptionName). bytes_eq (name_of o) (name_of o)) refl

pub id-files : (option : OptionName) → bytes_eq (name_of option) files_id ≡ false
id-files option = not-true (bytes_eq (name_of option) files_id) (each (λ (o : OptionName). not (bytes_eq (name_of o) files_id)) refl option)

pub files-id : (option : OptionName) → bytes_eq files_id (name_of option) ≡ false
files-id option = not-true (bytes_eq files_id (name_of option)) (each (λ (o : OptionName). not (bytes_eq files_id (name_of o))) refl option)

-- no default stands for an option with a value, nor for file words
pub valued-free : (option : OptionName) → valued option ≡ true → list_all (leaves (name_of option)) top.rules ≡ true
valued-free option takes =
    sym (ap (λ (b : Bool). not b || list_all (leaves (name_of option)) top.rules) takes)
    ∙ each (λ (o : OptionName). not (valued o) || list_all (leaves (name_of o)) top.rules) refl option

pub files-free : list_all (leaves files_id) top.rules ≡ true
files-free = refl

-- ---- one use

pub takes-is : (name : List ℕ) (takes : Bool) → takes_values (made name takes) ≡ takes
takes-is name true = refl
takes-is name false = refl

-- the values of a use
abbrev pub uses : Bool → List ℕ → List (List ℕ)
uses true value = value ∷ []
uses false value = []

-- the values that stand for it
abbrev pub stands_for : Bool → List ℕ → List (List ℕ)
stands_for true value = value ∷ []
stands_for false value = codes "true" ∷ []

-- a first use passes, and a second is refused
pub use-first : (name : List ℕ) (takes : Bool) (value : List ℕ) (rows : List Row) → has_row name rows ≡ false
    → use_fault false (made name takes) (uses takes value) rows ≡ []
use-first name true value rows none = rw none refl
use-first name false value rows none = rw none refl

pub use-again : (name : List ℕ) (takes : Bool) (value : List ℕ) (rows : List Row) → has_row name rows ≡ true
    → use_fault false (made name takes) (uses takes value) rows ≡ ArgumentConflict ∷ []
use-again name true value rows one = rw one refl
use-again name false value rows one = rw one refl

-- an option that waits for its value has none
pub use-none : (name : List ℕ) (rows : List Row) → use_fault false (made name true) [] rows ≡ InvalidValue ∷ []
use-none name rows = refl

pub used-is : (name : List ℕ) (takes : Bool) (value : List ℕ) (rows : List Row)
    → used (made name takes) (uses takes value) rows ≡ with_values name AsWritten CommandLine (stands_for takes value) (without name rows)
used-is name true value rows = refl
used-is name false value rows = refl

pub use-files : (word : List ℕ) (rows : List Row) → use_fault false files_made (word ∷ []) rows ≡ []
use-files word rows = refl

pub used-files : (word : List ℕ) (rows : List Row) → used files_made (word ∷ []) rows ≡ with_values files_id AsWritten CommandLine (word ∷ []) rows
used-files word rows = refl

-- ---- after the walk

-- no default of the command's is at fault
either : (b : Bool) → ◌≡◌ {A = Kinds} (cond b [] []) []
either true = refl
either false = refl

option-fine : (name : List ℕ) (takes : Bool) (rows : List Row) → default_fault rows (made name takes) ≡ []
option-fine name true rows = either (has_row name rows || true)
option-fine name false rows = either (has_row name rows || false)

files-fine : (rows : List Row) → default_fault rows files_made ≡ []
files-fine rows = either (has_row files_id rows || true)

past : (a b : Kinds) → a ≡ [] → b ≡ [] → or_else a b ≡ []
past a b e f = rw (e, f) refl

each-fine : (options : List OptionName) (rows : List Row) → defaults_fault rows (map option_made options ++ files_made ∷ []) ≡ []
unfolding defaults_fault
each-fine [] rows = past (default_fault rows files_made) [] (files-fine rows) refl
each-fine (o ∷ options) rows = past _ _ (option-fine (name_of o) (valued o) rows) (each-fine options (with_default rows (option_made o)))

pub defaults-pass : (rows : List Row) → defaults_fault rows top.rules ≡ []
defaults-pass rows = each-fine all_options rows
