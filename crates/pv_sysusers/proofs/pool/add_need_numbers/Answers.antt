use Rattle.std.proofs.lemmas.Result.{IfOk-from_err}
use Rattle.std.proofs.Common.{ℕ, List, ◌++◌, ap, ◌∙◌}
use Rattle.std.specs.Option.{option_to_list}
use Rattle.pv_sysusers.specs.declared.needs.Need.{Need}
use Rattle.pv_sysusers.proofs.LineLaws.{items_more}
use Rattle.pv_sysusers.proofs.pool.add_need_numbers.Goals as goal

pub returns-in_err-add_number : goal.returns-in_err-add_number
returns-in_err-add_number c = IfOk-from_err c.from_residual.result _ c.from_residual.ensures.0

pub loop-need-preserved : goal.loop-need-preserved
loop-need-preserved c =
    c.in_ok-add_number.ensures ∙ ap (λ (ns : List ℕ). ns ++ option_to_list c.need-item.result.number) c.loop-need.invariant
    ∙ items_more (λ (need : Need). option_to_list need.number) c.args.numbers.now.items c.args.needs.now c.loop-need.need-index c.need-item.result c.loop-need-test.true c.need-item.is
