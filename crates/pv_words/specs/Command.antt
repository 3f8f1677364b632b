-- The command with which `clap` reads the arguments after the tool. It has each option of the table, and the FILE
-- arguments. The form is this project's own, by `clap`'s definition of simple commands. The names of options are in
-- systemd-tmpfiles(8) and systemd-sysusers(8).
use Rattle.std.specs.Prelude.{ℕ, Bool, true, List, codes, Some, fold, if◌then◌else◌}
use Rattle.clap.specs.Walk.{Rule}
use Rattle.clap.specs.Simple.{App, Shape, new_app, new_rule, on_top, with_rule}
use Rattle.clap.specs.declared.builder.action.ArgAction.{ArgAction}
use Rattle.clap.specs.declared.builder.action.ArgAction.TheVariants.{Append, Set, SetTrue}
use Rattle.pv_words.specs.Table.{all_options, row_of, takes_value}
use Rattle.pv_words.specs.declared.option.OptionName.{OptionName}

-- What `clap` does for an option: it sets the value of an option that has one, and otherwise a flag.
abbrev pub action_for : Bool → ArgAction
action_for valued = if valued then Set else SetTrue

-- The rule of `clap` for an option with this long name.
abbrev pub rule_named : List ℕ → ArgAction → Rule
rule_named name action = record (new_rule name) { long = Some name; action = Some action }

-- What `clap` does for an option of the table.
abbrev pub action_of : OptionName → ArgAction
action_of option = action_for (takes_value (row_of option))

-- The rule of an option of the table.
abbrev pub option_rule : OptionName → Rule
option_rule option = rule_named (row_of option).name (action_of option)

-- The rule of the FILE arguments: one positional argument that takes all of them.
abbrev pub files_rule : Rule
files_rule = record (new_rule (codes "files")) { action = Some Append }

-- The arguments do not begin with the name of the program, and there is no `--help` and no `--version`.
abbrev pub bare_shape : Shape → Shape
bare_shape shape = record shape { no_binary_name = true; disable_help_flag = true; disable_version_flag = true }

-- The command without options and FILE arguments.
abbrev pub bare_app : App
bare_app = on_top bare_shape (new_app (codes "provision"))

-- A command with the rules of these options added at its end.
abbrev pub with_options : App → List OptionName → App
with_options = fold (λ app option. with_rule app (option_rule option))

-- The command: the rule of each option of the table, and then that of the FILE arguments.
abbrev pub words_app : App
words_app = with_rule (with_options bare_app all_options) files_rule
