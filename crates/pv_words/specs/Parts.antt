-- The arguments after the tool, divided into options with their values and FILE arguments. The form is that of
-- getopt_long(3), as in systemd-tmpfiles(8) and systemd-sysusers(8): `--NAME`, `--NAME=VALUE`, `--NAME VALUE`, and
-- `--` at the end of the options. Three rules are this project's own. Names are given in full. A value in an
-- argument of its own is `-` or does not begin with a dash. `-` is not a FILE argument.
use Rattle.std.specs.Prelude.{ℕ, ◌+◌, Bool, false, not, ◌&&◌, ◌==◌, nat_eq, List, [], ◌∷◌, ◌++◌, take, drop, codes, position, Option, Some, None, option_and_then, if◌then◌else◌}
use Rattle.std.specs.List.{starts_with}
use Rattle.std.specs.Option.{option_map}
use Rattle.pv_path.specs.Names.{same_bytes}
use Rattle.pv_words.specs.Table.{row_of, option_named, takes_value}
use Rattle.pv_words.specs.declared.option.OptionName.{OptionName}
use Rattle.pv_words.specs.Pieces.{Parts}
use Rattle.pv_words.specs.Part.{Part}
use Rattle.pv_words.specs.Part as part
use Rattle.pv_words.specs.Stage.{Stage, Options, ValueOf, Files}

-- What one argument contributes, and what the next argument may be.
pub record Step : Type 0 where
  pub stage : Stage
  pub part : Part

-- Whether an argument is a single dash.
abbrev pub is_dash : List ℕ → Bool
is_dash word = same_bytes word (codes "-")

-- Whether an argument begins with a dash.
abbrev pub begins_with_dash : List ℕ → Bool
begins_with_dash [] = false
begins_with_dash (b ∷ bs) = b == 45

-- An argument that contributes this part. The stage says what the next one may be.
abbrev pub step : Stage → Part → Step
step next part = record { stage = next; part = part }

-- An argument that completes an option with this value. After it come options again.
abbrev pub given : OptionName → List ℕ → Step
given option value = step Options (part.Given (record { option = option; value = value }))

-- `--NAME`: a flag is complete, and any other option takes the next argument as its value.
abbrev pub alone : OptionName → Option Step
alone option =
    if takes_value (row_of option) then Some (step (ValueOf option) part.Nothing)
    else Some (given option [])

-- `--NAME=VALUE`: the option has this value. A flag takes none, so this form is an error for it.
abbrev pub with_value : List ℕ → OptionName → Option Step
with_value value option = if takes_value (row_of option) then Some (given option value) else None

-- An argument without its two dashes. If it has a `=`, the first one separates the name from the value.
abbrev pub long_word : List ℕ → Option ℕ → Option Step
long_word text None = option_and_then alone (option_named text)
long_word text (Some i) = option_and_then (with_value (drop (i + 1) text)) (option_named (take i text))

-- An argument where an option may come. If it does not begin with a dash, it is a FILE argument. Otherwise it is
-- `--`, which ends the options, or a long option. Anything else is an error.
abbrev pub option_word : List ℕ → Option Step
option_word word =
    if not (begins_with_dash word) then Some (step Options (part.File word))
    else if same_bytes word (codes "--") then Some (step Files part.Nothing)
    else if starts_with nat_eq word (codes "--") then long_word (drop 2 word) (position (λ b. b == 61) (drop 2 word))
    else None

-- What an argument is at a stage. Options: an option, `--` or a FILE argument. The value of an option: `-`, or what
-- does not begin with a dash. After `--`: a FILE argument, which may be anything except `-`.
abbrev pub word_step : Stage → List ℕ → Option Step
word_step Options word = option_word word
word_step (ValueOf option) word =
    if begins_with_dash word && not (is_dash word) then None else Some (given option word)
word_step Files word = if is_dash word then None else Some (step Files (part.File word))

-- No options and no FILE arguments.
abbrev pub no_parts : Parts
no_parts = record { given = []; files = [] }

-- The parts, with one more before the others.
abbrev pub with_part : Part → Parts → Parts
with_part part.Nothing parts = parts
with_part (part.Given g) parts = record parts { given = g ∷ parts.given }
with_part (part.File word) parts = record parts { files = word ∷ parts.files }

-- The parts, with one more after the others.
abbrev pub added : Parts → Part → Parts
added parts part.Nothing = parts
added parts (part.Given g) = record parts { given = parts.given ++ g ∷ [] }
added parts (part.File word) = record parts { files = parts.files ++ word ∷ [] }

-- The parts at the end of the arguments: none. It is an error if an option still needs its value.
abbrev pub end_of : Stage → Option Parts
end_of Options = Some no_parts
end_of (ValueOf option) = None
end_of Files = Some no_parts

-- The parts of these arguments, from a stage on, in their order. If one of them is an error, there are none.
abbrev pub parts_of : Stage → List (List ℕ) → Option Parts
parts_of stage [] = end_of stage
parts_of stage (word ∷ words) =
    option_and_then (λ s. option_map (with_part s.part) (parts_of s.stage words)) (word_step stage word)
