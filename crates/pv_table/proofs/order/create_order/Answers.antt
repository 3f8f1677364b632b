use Rattle.std.proofs.Common.{◌∙◌, [], ◌++◌, ap, sym, ℕ, List, map, filter, fold}
use Rattle.std.specs.List.{enumerate_from}
use Rattle.pv_lines.specs.declared.line.Line.{Line}
use Rattle.pv_table.specs.Active.{Listed, is_adjusting_line, placed}
use Rattle.pv_table.specs.Reaching.{is_creating}
use Rattle.pv_table.proofs.RankLaws.{places-append}
use Rattle.pv_table.proofs.order.create_order.Goals as goal

pub returns : goal.returns
returns c =
    let made : (lines : List Line) → List Listed = λ lines. fold placed [] (filter (λ line. is_creating line.1) (enumerate_from 0 lines)) in
    let adjustment : (lines : List Line) → List Listed = λ lines. filter (λ line. is_adjusting_line line.1) (enumerate_from 0 lines) in
    c.in_ok-add_adjustment.ensures
    ∙ ap (λ (places : List ℕ). places ++ map (λ (x : Listed). x.0) (adjustment c.lines.result.now)) c.in_ok-order.ensures
    ∙ ap (λ (lines : List Line). map (λ (x : Listed). x.0) (made c.args.table.now) ++ map (λ (x : Listed). x.0) (adjustment lines)) c.lines.ensures.lines
    ∙ sym (places-append (made c.args.table.now) (adjustment c.args.table.now))
