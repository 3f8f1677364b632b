use Rattle.std.proofs.Common.{◌∙◌, ap, List, subst, sym}
use Rattle.std.specs.List.{AllByRecursion}
use Rattle.pv_lines.specs.Lines.{IsLine}
use Rattle.pv_lines.specs.declared.line.Line.{Line}
use Rattle.pv_table.specs.Removed.{is_purged}
use Rattle.pv_remove.proofs.RunLaws.{purged_whole}
use Rattle.pv_remove.proofs.purging.purge_plan.Goals as goal

pub purged_paths-requires : goal.purged_paths-requires
purged_paths-requires g c = record { lines = subst (AllByRecursion IsLine) (sym c.lines-lines.ensures.lines) c.lines-lines.ensures.whole }

pub judge_purge-requires : goal.judge_purge-requires
judge_purge-requires g c = record { lines = subst (AllByRecursion IsLine) (sym c.lines-lines.ensures.lines) c.lines-lines.ensures.whole }

pub returns-clause-gone : goal.returns-clause-gone
returns-clause-gone g c = λ q.
    let t = g.T.Tree.state c.args.tree.now in
    c.in_ok-paths.ensures q ∙ purged_whole c.lines-lines.result.now t c.in_ok-purged.purged.items c.in_ok-purged.ensures q
    ∙ ap (λ (lines : List Line). is_purged lines t q) c.lines-lines.ensures.lines
