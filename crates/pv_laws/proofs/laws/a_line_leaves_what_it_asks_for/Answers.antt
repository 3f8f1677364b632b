use Rattle.pv_steps.specs.Trees.{places}
use Rattle.pv_laws.proofs.Lines.{line_is_plain, line_point}
use Rattle.pv_laws.proofs.Shapes.{tree_shaped}
use Rattle.pv_laws.proofs.laws.a_line_leaves_what_it_asks_for.Goals as goal

pub returns : goal.returns
returns c = λ line now t q tree is none quiet plain. (line_point now line (line_is_plain line is none) t (tree_shaped (places t) tree) quiet).point q plain
