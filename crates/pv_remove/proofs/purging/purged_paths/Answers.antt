use Rattle.std.proofs.Common.{◌||◌, ◌∙◌, ap, List, is_some}
use Rattle.std.proofs.lemmas.List.Folds.{list_any-append}
use Rattle.pv_path.specs.Paths.{Path, same_path}
use Rattle.pv_steps.specs.Trees.{places}
use Rattle.pv_walk.specs.Removal.{is_one_of}
use Rattle.pv_table.specs.Removed.{purges}
use Rattle.pv_remove.proofs.CoverLaws.{both_or}
use Rattle.pv_remove.proofs.purging.purged_paths.Goals as goal

pub loop-line-preserved : goal.loop-line-preserved
loop-line-preserved g c = λ q.
    let t = g.T.Tree.state c.args.tree.now in
    ap (λ (xs : List Path). is_one_of xs q) c.in_ok-append.ensures.items
    ∙ list_any-append (λ p. same_path p q) c.loop-line.purged.items c.in_ok-more.more.items
    ∙ ap (λ b. is_one_of c.loop-line.purged.items q || b) (c.in_ok-more.ensures q)
    ∙ both_or (λ line. purges line (places t) q) (is_some (places t q)) c.args.lines.now c.loop-line.line-index c.line-item.result (is_one_of c.loop-line.purged.items q) c.loop-line-test.true c.line-item.is (c.loop-line.invariant q)
