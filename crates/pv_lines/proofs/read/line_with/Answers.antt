use Rattle.std.proofs.Common.{ap, rules, sym, ◌∙◌}
use Rattle.pv_lines.proofs.Rows.{typed_of-typed}
use Rattle.pv_lines.proofs.Fields.{line_is, line_age_of-used, mode_of-small, named_of-named}
use Rattle.pv_lines.specs.Lines.{given}
use Rattle.pv_lines.specs.PathField.{named_of}
use Rattle.pv_lines.specs.TypeField.{typed_of}
use Rattle.pv_lines.proofs.read.line_with.Goals as goal

pub returns-in_err-settings-clause-read : goal.returns-in_err-settings-clause-read
returns-in_err-settings-clause-read g c =
    let typed = ap typed_of (sym c.text.ensures) ∙ sym c.in_ok-typed.ensures in
    let named = ap (named_of c.args.facts.now c.in_ok-typed.typed) (sym c.text-2.ensures) ∙ c.in_ok-named.ensures in
    let first = c.in_err-settings.ensures.fault c.args.facts.now c.args.place c.in_ok-named.named typed named in
    search rules

pub returns-clause-whole : goal.returns-clause-whole
returns-clause-whole g c =
    line_is c.in_ok-typed.typed c.in_ok-named.named c.in_ok-settings.settings.mode c.in_ok-settings.settings.user c.in_ok-settings.settings.group c.in_ok-settings.settings.age c.in_ok-argument.argument c.args.place
    (typed_of-typed c.text.result.now c.in_ok-typed.typed (sym c.in_ok-typed.ensures))
    (named_of-named c.args.facts.now c.in_ok-typed.typed c.text-2.result.now c.in_ok-named.named c.in_ok-named.ensures)
    (mode_of-small (given c.args.texts.now 2) c.in_ok-settings.settings.mode c.in_ok-settings.ensures.read.0) c.in_ok-settings.ensures.small.0 c.in_ok-settings.ensures.small.1
    (line_age_of-used c.in_ok-typed.typed.row (given c.args.texts.now 5) c.in_ok-settings.settings.age c.in_ok-settings.ensures.read.3) c.in_ok-argument.ensures.fits
