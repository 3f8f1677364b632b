use Rattle.std.proofs.Common.{sym, ◌∙◌}
use Rattle.pv_accounts.proofs.Lines.{place_found, place_kept}
use Rattle.pv_accounts.proofs.edit.entry_place.Goals as goal

pub returns-then-is_behind_new : goal.returns-then-is_behind_new
returns-then-is_behind_new c =
    place_found c.args.lines.now c.loop-at.at _ c.loop-at-test.true (sym c.is_behind_new.ensures ∙ c.if-is_behind_new.true) c.loop-at.invariant

pub loop-at-preserved : goal.loop-at-preserved
loop-at-preserved c =
    place_kept c.args.lines.now c.loop-at.at _ c.loop-at-test.true (sym c.is_behind_new.ensures ∙ c.if-is_behind_new.false) c.loop-at.invariant
