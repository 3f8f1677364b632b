-- The options that are left make of the command so far what all make of the command.
use Rattle.std.proofs.Common.{◌≡◌, drop}
use Rattle.clap.specs.Simple.{app_of}
use Rattle.pv_words.specs.Command.{with_options}
use Rattle.pv_words.proofs.command.with_options.Given as goal

abbrev pub invariant-loop-option : goal.invariant-loop-option
invariant-loop-option l = with_options (app_of l.command) (drop l.option-index l.options) ≡ with_options (app_of l.fn.command) l.options
