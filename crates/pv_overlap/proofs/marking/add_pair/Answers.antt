use Rattle.std.proofs.Common.{◌≡◌, ◌∙◌, ◌++◌, List, subst, sym, ap}
use Rattle.std.specs.Prelude.{OnOk}
use Rattle.pv_overlap.specs.Marks.{Mark}
use Rattle.pv_overlap.proofs.OrderLaws.{append_nil, pair_none, pair_one}
use Rattle.pv_overlap.proofs.marking.add_pair.Goals as goal

pub returns-in_default : goal.returns-in_default
returns-in_default c =
    sym (append_nil c.args.marks.now.items) ∙ ap (λ (ms : List Mark). c.args.marks.now.items ++ ms) (pair_none c.args.lines.now c.args.sources c.args.pair.now c.in_default.ensures.line)

pub returns-in-None : goal.returns-in-None
returns-in-None c = subst (λ (ms : List Mark). OnOk c.add_outer.result (c.add_outer.new.marks.items ≡ c.args.marks.now.items ++ ms))
    (pair_one c.args.lines.now c.args.sources c.args.pair.now c.in-Some.first.line.now c.in-Some.first.number c.in-Some.ensures.number c.in-Some.ensures.line c.in-None.ensures.line) c.add_outer.ensures
