-- A line when it is carried out.
use Rattle.std.specs.Prelude.{◌≡◌}
use Rattle.pv_table.specs.ActionTable.{action_of}
use Rattle.pv_table.specs.Pointwise.{view}
use Rattle.pv_table.specs.Reaching.{path_in}
use Rattle.pv_table.specs.Turns.{is_childless}
use Rattle.pv_explain.specs.declared.line_turn.LineTurn.{LineTurn}

-- What a line asks for, its path, and whether the directory there is empty, staging names aside.
pub record IsLineTurn (turn : LineTurn) : Type 0 where
  pub action : turn.action.now ≡ action_of turn.line.now
  pub path : turn.path.now ≡ path_in turn.line.now.path
  pub childless : turn.childless ≡ is_childless (view turn.before.now) turn.path.now
