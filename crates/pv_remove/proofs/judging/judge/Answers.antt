use Rattle.std.proofs.Common.{◌||◌, ◌∙◌, ap, map, is_some, take}
use Rattle.std.specs.List.{flat_map, list_any}
use Rattle.pv_lines.specs.declared.line.Line.{Line}
use Rattle.pv_steps.specs.Trees.{places}
use Rattle.pv_text.specs.GivenMessages.{message_text_at}
use Rattle.pv_table.specs.Removed.{judged, keeps, refused_place, removal_texts}
use Rattle.pv_walk.proofs.FindingLaws.{any_more}
use Rattle.pv_remove.proofs.JudgeLaws.{flat_more}
use Rattle.pv_remove.proofs.judging.judge.Goals as goal

pub loop-line-preserved : goal.loop-line-preserved
loop-line-preserved g c =
    let t = g.T.Tree.state c.args.tree.now in
    let lines = c.args.lines.now in
    let f = λ (line : Line). list_any (λ path. is_some (refused_place line (places t) path) || keeps lines line t path) (judged line t) in
    record {
      new_messages = flat_more (λ (line : Line). map (message_text_at line.place) (flat_map (removal_texts lines line t) (judged line t))) lines c.loop-line.line-index c.line-item.result c.args.new_messages.now c.loop-line.new_messages c.judge_line.new.new_messages
          c.loop-line-test.true c.line-item.is c.loop-line.invariant.new_messages (c.in_ok-unfinished.ensures.new_messages lines c.requires.gone);
      unfinished = ap (λ b. b || c.in_ok-unfinished.field-0) c.loop-line.invariant.unfinished ∙ ap (λ b. list_any f (take c.loop-line.line-index lines) || b) (c.in_ok-unfinished.ensures.unfinished lines c.requires.gone)
          ∙ any_more f lines c.loop-line.line-index c.line-item.result c.loop-line-test.true c.line-item.is;
    }
