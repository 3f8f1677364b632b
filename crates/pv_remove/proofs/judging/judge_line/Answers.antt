use Rattle.std.proofs.Common.{◌<◌, ◌||◌, ◌∙◌, ap, List, length, get_or, is_some, take, arith}
use Rattle.std.specs.List.{list_any}
use Rattle.std.proofs.lemmas.List.{take_all}
use Rattle.pv_path.specs.Paths.{Path}
use Rattle.pv_steps.specs.Trees.{places}
use Rattle.pv_text.specs.GivenMessages.{message_text_at}
use Rattle.pv_table.specs.Removed.{judged, keeps, refused_place, removal_texts}
use Rattle.pv_walk.proofs.FindingLaws.{any_more}
use Rattle.pv_remove.proofs.JudgeLaws.{judged_short, map_more}
use Rattle.pv_remove.proofs.judging.judge_line.Goals as goal

pub judge_path-requires : goal.judge_path-requires
judge_path-requires g c =
    let t = g.T.Tree.state c.args.tree.now in
    let items = c.deref-path-items.ensures.value ∙ c.in_ok-paths.ensures in
    let path = c.path-item.result in
    let i = c.loop-path.path-index in
    let within : i < length (judged c.args.line.now t) = omega (arith, c.loop-path-test.true, ap length items) in
    judged_short c.args.line.now t i path c.requires.line within (c.path-item.is ∙ ap (λ (v : List Path). get_or v i path) items)

pub loop-path-preserved : goal.loop-path-preserved
loop-path-preserved g c = λ lines same.
    let t = g.T.Tree.state c.args.tree.now in
    let line = c.args.line.now in
    let before = c.loop-path.invariant lines same in
    let f = λ (path : Path). is_some (refused_place line (places t) path) || keeps lines line t path in (
      map_more (message_text_at line.place) (removal_texts lines line t) c.deref-path-items.result.now c.loop-path.path-index c.path-item.result c.args.new_messages.now c.loop-path.new_messages c.judge_path.new.new_messages
          c.loop-path-test.true c.path-item.is before.0 (c.in_ok-unfinished.ensures.new_messages lines same),
      ap (λ b. b || c.in_ok-unfinished.field-0) before.1 ∙ ap (λ b. list_any f (take c.loop-path.path-index c.deref-path-items.result.now) || b) (c.in_ok-unfinished.ensures.unfinished lines same)
          ∙ any_more f c.deref-path-items.result.now c.loop-path.path-index c.path-item.result c.loop-path-test.true c.path-item.is,
    )

pub returns-clause-unfinished : goal.returns-clause-unfinished
returns-clause-unfinished g c = λ lines same.
    let t = g.T.Tree.state c.args.tree.now in
    let line = c.args.line.now in
    (c.loop-path.invariant lines same).1
    ∙ ap (λ (ps : List Path). list_any (λ path. is_some (refused_place line (places t) path) || keeps lines line t path) ps)
    (take_all c.loop-path.path-index c.deref-path-items.result.now c.loop-path-test.false ∙ c.deref-path-items.ensures.value ∙ c.in_ok-paths.ensures)
