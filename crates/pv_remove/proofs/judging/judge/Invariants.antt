use Rattle.std.proofs.Common.{◌≡◌, ◌||◌, ◌++◌, map, take, is_some}
use Rattle.std.specs.List.{flat_map, list_any}
use Rattle.pv_steps.specs.Trees.{places}
use Rattle.pv_text.specs.GivenMessages.{message_text_at}
use Rattle.pv_table.specs.Removed.{judged, keeps, refused_place, removal_texts}
use Rattle.pv_remove.proofs.judging.judge.Given as goal

abbrev pub invariant-loop-line : goal.invariant-loop-line
invariant-loop-line g l = record {
  new_messages : l.new_messages ≡ l.fn.new_messages ++ flat_map (λ line. map (message_text_at line.place) (flat_map (removal_texts l.lines line (g.T.Tree.state l.tree)) (judged line (g.T.Tree.state l.tree)))) (take l.line-index l.lines);
  unfinished : l.unfinished ≡ list_any (λ line. list_any (λ path. is_some (refused_place line (places (g.T.Tree.state l.tree)) path) || keeps l.lines line (g.T.Tree.state l.tree) path) (judged line (g.T.Tree.state l.tree))) (take l.line-index l.lines);
}
