use Rattle.std.proofs.Common.{◌≢◌, ◌-◌, ℕ, sym, ◌∙◌, subst}
use Rattle.pv_path.specs.Paths.{Path}
use Rattle.pv_tree.specs.Growth.{IsShared}
use Rattle.pv_tree.proofs.GrowthLaws.{begins_not}
use Rattle.pv_tree.proofs.builder.depth_after.Goals as goal

pub returns-then-len-shared-ne1-clause-apart : goal.returns-then-len-shared-ne1-clause-apart
returns-then-len-shared-ne1-clause-apart c = λ _.
    begins_not c.args.last.now c.args.path.now c.shared_names-shared.result
    (subst (λ (p : Path). IsShared p c.args.path.now c.shared_names-shared.result) c.names.ensures.value
    (subst (λ (q : Path). IsShared c.names.result.now q c.shared_names-shared.result) c.names-2.ensures.value c.shared_names-shared.ensures))
    (sym c.comes_after.ensures ∙ c.if-not-comes_after.false) (subst (λ (n : ℕ). n - c.shared_names-shared.result ≢ 1) c.len.ensures.count c.if-len-shared-ne1.true)
