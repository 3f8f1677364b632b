use Rattle.std.proofs.Common.{◌≡◌, ◌||◌, ◌++◌, List, map, take, is_some}
use Rattle.std.specs.List.{flat_map, list_any}
use Rattle.pv_lines.specs.declared.line.Line.{Line}
use Rattle.pv_path.specs.Paths.{Path}
use Rattle.pv_steps.specs.Trees.{places}
use Rattle.pv_text.specs.GivenMessages.{message_text_at}
use Rattle.pv_walk.specs.Removal.{is_one_of}
use Rattle.pv_table.specs.Removed.{is_gone, keeps, refused_place, removal_texts}
use Rattle.pv_remove.proofs.judging.judge_line.Given as goal

abbrev pub invariant-loop-path : goal.invariant-loop-path
invariant-loop-path g l = (lines : List Line) → ((q : Path) → is_one_of l.gone q ≡ is_gone lines (g.T.Tree.state l.tree) q)
    → (l.new_messages ≡ l.fn.new_messages ++ map (message_text_at l.line.place) (flat_map (removal_texts lines l.line (g.T.Tree.state l.tree)) (take l.path-index l.path-items)))
    × (l.unfinished ≡ list_any (λ path. is_some (refused_place l.line (places (g.T.Tree.state l.tree)) path) || keeps lines l.line (g.T.Tree.state l.tree) path) (take l.path-index l.path-items))
