use Rattle.std.proofs.Common.{◌≡◌, drop}
use Rattle.pv_table.specs.ActionTable.{action_of}
use Rattle.pv_create.proofs.LineLaws.{OnLine}
use Rattle.pv_create.proofs.line.at_turns.Given as goal

abbrev pub invariant-loop-path : goal.invariant-loop-path
invariant-loop-path g l = (action_of l.line ≡ l.action) × OnLine g.T.Tree l.now l.line l.path-items (drop l.path-index l.path-items) l.carried l.fn.tree l.tree l.fn.messages l.messages
