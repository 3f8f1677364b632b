-- Arguments that ask for a run in a folder: those of a tool with `--root=FOLDER` or `--root FOLDER`, once among the
-- options. The option is that of systemd-tmpfiles(8) and systemd-sysusers(8).
use Rattle.std.specs.Prelude.{ℕ, ◌+◌, Bool, true, false, not, ◌&&◌, ◌||◌, ◌==◌, nat_eq, nat_lt, List, [], ◌∷◌, ◌++◌, length, take, drop, codes, Option, Some, None, option_and_then, if◌then◌else◌}
use Rattle.std.specs.List.{list_all, list_any, starts_with}
use Rattle.std.specs.Option.{option_map}
use Rattle.pv_path.specs.Names.{same_bytes}
use Rattle.pv_words.specs.Cut.{Cut}
use Rattle.pv_words.specs.Meaning.{options_of}
use Rattle.pv_words.specs.Parts.{begins_with_dash, is_dash}
use Rattle.pv_words.specs.Table.{all_options, row_of, takes_value}
use Rattle.pv_words.specs.declared.option.OptionName.{OptionName}
use Rattle.pv_words.specs.declared.options.Options.{Options}
use Rattle.pv_words.specs.declared.rooted.Rooted.{Rooted}

-- ---- where the option is

-- Whether an argument is `--root`, alone or with a value.
abbrev pub is_root : List ℕ → Bool
is_root word = same_bytes word (codes "--root") || starts_with nat_eq word (codes "--root=")

-- Whether an argument is `--NAME` of this option of the table, and the option takes a value.
abbrev pub is_alone : List ℕ → OptionName → Bool
is_alone word option = takes_value (row_of option) && same_bytes (drop 2 word) (row_of option).name

-- Whether the value of this argument is the next argument.
abbrev pub awaits_value : List ℕ → Bool
awaits_value word = starts_with nat_eq word (codes "--") && list_any (is_alone word) all_options

-- The index of the first `--root` among the options. One after `--` does not count, nor one that is the value of an
-- option. The first of these arguments has the index `i`, and is such a value if one is awaited.
abbrev pub root_place : Bool → ℕ → List (List ℕ) → Option ℕ
root_place awaited i [] = None
root_place true i (word ∷ words) = root_place false (i + 1) words
root_place false i (word ∷ words) =
    if same_bytes word (codes "--") then None
    else if is_root word then Some i
    else root_place (awaits_value word) (i + 1) words

-- ---- the folder and the other arguments

-- `--root FOLDER`: the next argument is the folder. It is `-`, or it does not begin with a dash.
abbrev pub cut_next : List (List ℕ) → List (List ℕ) → Option Cut
cut_next before [] = None
cut_next before (word ∷ words) =
    if begins_with_dash word && not (is_dash word) then None else Some (record { folder = word; others = before ++ words })

-- The folder and the other arguments. Given are the arguments before `--root`, and those from it on.
abbrev pub cut_by : List (List ℕ) → List (List ℕ) → Option Cut
cut_by before [] = None
cut_by before (word ∷ words) =
    if same_bytes word (codes "--root") then cut_next before words else Some (record { folder = drop 7 word; others = before ++ words })

-- The folder and the other arguments, if there is a `--root` with a value.
abbrev pub cut_of : List (List ℕ) → Option Cut
cut_of words = option_and_then (λ i. cut_by (take i words) (drop i words)) (root_place false 0 words)

-- ---- the meaning

-- Whether bytes can name a folder: there is at least one, and none is NUL.
abbrev pub is_folder : List ℕ → Bool
is_folder bytes = nat_lt 0 (length bytes) && list_all (λ b. not (b == 0)) bytes

-- The folder, with what the other arguments mean, if both are right.
abbrev pub rooted_with : List ℕ → Option Options → Option Rooted
rooted_with folder options =
    if is_folder folder then option_map (λ o. record { folder = folder; options = o }) options else None

-- The folder, and what the other arguments mean. Their options cannot be another `--root`, because the table has no
-- option with this name.
abbrev pub rooted_of : List (List ℕ) → Option Rooted
rooted_of [] = None
rooted_of (tool ∷ words) = option_and_then (λ c. rooted_with c.folder (options_of (tool ∷ c.others))) (cut_of words)
