use Rattle.std.proofs.Common.{◌≡◌, ◌∙◌, IfOk, ap, subst, sym}
use Rattle.std.specs.Option.{option_copied}
use Rattle.pv_table.proofs.KeepLaws.{with_line-dropped, with_line-new}
use Rattle.pv_table.proofs.building.keep.Goals as goal

pub returns-in_ok-say_dropped-in-Some-clause-kept : goal.returns-in_ok-say_dropped-in-Some-clause-kept
returns-in_ok-say_dropped-in-Some-clause-kept c = sym (with_line-dropped c.args.table c.args.line c.in-Some.first.now (sym c.like.ensures ∙ ap option_copied c.in-Some.is))

pub returns-in-None-clause-kept : goal.returns-in-None-clause-kept
returns-in-None-clause-kept c =
    subst (λ lines. IfOk c.with.result (λ more. more ≡ lines)) (sym (with_line-new c.args.table c.args.line (sym c.like.ensures ∙ ap option_copied c.in-None.is))) c.with.ensures
