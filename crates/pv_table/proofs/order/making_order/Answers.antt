use Rattle.std.proofs.Common.{◌≡◌, ◌∙◌, IfOk, [], ap, ℕ, List, map, filter, fold, subst}
use Rattle.std.specs.List.{enumerate_from}
use Rattle.pv_lines.specs.declared.line.Line.{Line}
use Rattle.pv_table.specs.Active.{Listed, placed}
use Rattle.pv_table.specs.Ranking.{Rank, with_rank}
use Rattle.pv_table.specs.Reaching.{is_creating}
use Rattle.pv_table.proofs.RankLaws.{places-ranked, ranks_are_placed}
use Rattle.pv_table.proofs.order.making_order.Goals as goal

pub returns : goal.returns
returns c =
    let made : (lines : List Line) → List Listed = λ lines. fold placed [] (filter (λ line. is_creating line.1) (enumerate_from 0 lines)) in
    let ranked : (lines : List Line) → List (Rank × ℕ) = λ lines. fold (with_rank lines) [] (enumerate_from 0 lines) in
    let entries = c.in_ok-ranks.ensures ∙ ap ranked c.lines.ensures.lines ∙ ranks_are_placed c.args.table.now c.lines.ensures.distinct in
    subst (λ (places : List ℕ). IfOk c.places_of.result (λ order. order ≡ places)) (ap (map (λ (e : Rank × ℕ). e.1)) entries ∙ places-ranked c.args.table.now (made c.args.table.now)) c.places_of.ensures
