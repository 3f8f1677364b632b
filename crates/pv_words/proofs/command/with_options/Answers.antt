-- One more option of those that are left.
use Rattle.std.proofs.Common.{◌≡◌, ◌<◌, ◌≤◌, ◌+◌, ℕ, List, length, get_or, drop, add-one}
use Rattle.std.proofs.Math.Seq.{drop-cons}
use Rattle.std.proofs.lemmas.List.{drop_all}
use Rattle.clap.specs.Walk.{Rule}
use Rattle.clap.specs.Simple.{App, with_rule}
use Rattle.pv_words.specs.Command.{option_rule, with_options}
use Rattle.pv_words.specs.declared.option.OptionName.{OptionName}
use Rattle.pv_words.proofs.command.with_options.Goals as goal

one_more : (start app new : App) (options : List OptionName) (i : ℕ) (d : OptionName) (rule : Rule) → i < length options
    → with_options app (drop i options) ≡ with_options start options → new ≡ with_rule app rule → rule ≡ option_rule (get_or options i d)
    → with_options new (drop (i + 1) options) ≡ with_options start options
one_more start app new options i d rule below before one is = rw (one, is, add-one i) (rw (drop-cons options i d below) at before)

none_left : (start app : App) (options : List OptionName) (i : ℕ) → length options ≤ i → with_options app (drop i options) ≡ with_options start options → app ≡ with_options start options
none_left start app options i past before = rw (drop_all i options past) at before

pub loop-option-preserved : goal.loop-option-preserved
loop-option-preserved c =
    one_more _ _ _ c.args.options.now c.loop-option.option-index _ _ c.loop-option-test.true c.loop-option.invariant c.in_ok-command.ensures c.option_arg.ensures.rule

pub returns : goal.returns
returns c = none_left _ _ c.args.options.now c.loop-option.option-index c.loop-option-test.false c.loop-option.invariant
