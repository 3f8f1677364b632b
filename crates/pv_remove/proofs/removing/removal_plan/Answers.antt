use Rattle.std.proofs.Common.{◌∙◌, ap, List, subst, sym}
use Rattle.std.specs.List.{AllByRecursion}
use Rattle.pv_lines.specs.Lines.{IsLine}
use Rattle.pv_lines.specs.declared.line.Line.{Line}
use Rattle.pv_table.specs.Removed.{is_gone}
use Rattle.pv_remove.proofs.RunLaws.{covered_gone}
use Rattle.pv_remove.proofs.removing.removal_plan.Goals as goal

pub covered_paths-requires-clause-lines : goal.covered_paths-requires-clause-lines
covered_paths-requires-clause-lines g c = subst (AllByRecursion IsLine) (sym c.lines-lines.ensures.lines) c.lines-lines.ensures.whole

pub judge-requires-clause-lines : goal.judge-requires-clause-lines
judge-requires-clause-lines g c = subst (AllByRecursion IsLine) (sym c.lines-lines.ensures.lines) c.lines-lines.ensures.whole

pub judge-requires-clause-gone : goal.judge-requires-clause-gone
judge-requires-clause-gone g c = λ q. c.in_ok-paths.ensures q ∙ covered_gone c.lines-lines.result.now (g.T.Tree.state c.args.tree.now) c.in_ok-covered.covered.items c.in_ok-covered.ensures q

pub returns-clause-gone : goal.returns-clause-gone
returns-clause-gone g c = λ q.
    let t = g.T.Tree.state c.args.tree.now in
    c.in_ok-paths.ensures q ∙ covered_gone c.lines-lines.result.now t c.in_ok-covered.covered.items c.in_ok-covered.ensures q
    ∙ ap (λ (lines : List Line). is_gone lines t q) c.lines-lines.ensures.lines
