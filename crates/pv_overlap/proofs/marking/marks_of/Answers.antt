use Rattle.std.proofs.lemmas.Result.{IfOk-from_err}
use Rattle.std.proofs.Common.{◌≡◌, ◌+◌, ◌++◌, [], List, length, sym, ap, ◌∙◌}
use Rattle.std.specs.List.{flat_map}
use Rattle.std.proofs.lemmas.List.{append-nil, take_all}
use Rattle.pv_overlap.specs.declared.pair.Pair.{Pair}
use Rattle.pv_overlap.specs.Marks.{own_marks, pair_marks}
use Rattle.pv_overlap.specs.Subjects.{sources_of}
use Rattle.pv_overlap.proofs.marking.marks_of.Goals as goal

pub returns-in_err-traits : goal.returns-in_err-traits
returns-in_err-traits c = IfOk-from_err c.from_residual.result _ c.from_residual.ensures.0

pub returns-in_err-sources_of : goal.returns-in_err-sources_of
returns-in_err-sources_of c = IfOk-from_err c.from_residual-in_err-sources_of.result _ c.from_residual-in_err-sources_of.ensures.0

pub returns-in_err-marks : goal.returns-in_err-marks
returns-in_err-marks c = IfOk-from_err c.from_residual-in_err-marks.result _ c.from_residual-in_err-marks.ensures.0

pub returns-in_err-add_pair : goal.returns-in_err-add_pair
returns-in_err-add_pair c = IfOk-from_err c.from_residual-in_err-add_pair.result _ c.from_residual-in_err-add_pair.ensures.0

pub loop-pair-init : goal.loop-pair-init
loop-pair-init c = c.in_ok-marks.ensures ∙ sym (append-nil (own_marks 0 c.args.lines.now))

pub returns : goal.returns
returns c =
    let lines = c.args.lines.now in
    c.loop-pair.invariant
    ∙ ap (λ (ps : List Pair). own_marks 0 lines ++ flat_map (pair_marks lines (length lines + length (sources_of lines))) ps) (take_all c.loop-pair.pair-index c.args.pairs.now c.loop-pair-test.false)
