use Rattle.std.proofs.Common.{[], sym, subst}
use Rattle.std.specs.FinMap as fin
use Rattle.std.proofs.lemmas.Result.{err_from_is_err_and}
use Rattle.pv_steps.specs.Trees.{IsTree}
use Rattle.pv_image.specs.Images.{Before, InFacts, IsImage}
use Rattle.pv_image.proofs.Stages.{fails_later, whole_image}
use Rattle.std.proofs.lemmas.Result.{IfOk-from_err}
use Rattle.pv_image.proofs.reader.read_whole.Goals as goal

pub returns-in_err-facts-clause-err : goal.returns-in_err-facts-clause-err
returns-in_err-facts-clause-err c =
    let p = err_from_is_err_and c.from_residual-in_err-facts.result c.from_residual-in_err-facts.ensures.1 in
    let version = c.in_ok-version.version in
    rw (p.1, p.2) (fails_later 1 Before c.args.bytes.now c.in_ok-version.left.number (InFacts version []) c.in_ok-version.left.bytes.now c.in_err-facts.field-0.0 c.in_ok-version.ensures.leads (c.in_err-facts.ensures.err version))

pub returns-in_err-tree-clause-err : goal.returns-in_err-tree-clause-err
returns-in_err-tree-clause-err c =
    let p = err_from_is_err_and c.from_residual-in_err-tree.result c.from_residual-in_err-tree.ensures.1 in
    let stage = InFacts c.in_ok-version.version (fin.entries c.in_ok-facts.facts) in
    rw (p.1, p.2) (fails_later 1 Before c.args.bytes.now c.in_ok-facts.left.number stage c.in_ok-facts.left.bytes.now c.in_err-tree.field-0.0
    (λ f h. c.in_ok-version.ensures.leads f (c.in_ok-facts.ensures.leads c.in_ok-version.version f h)) (c.in_err-tree.ensures.err (fin.entries c.in_ok-facts.facts)))

pub returns-clause-image : goal.returns-clause-image
returns-clause-image c =
    subst (IsImage c.args.bytes.now c.in_ok-facts.facts) (sym c.finish.ensures.files)
    (whole_image c.in_ok-version.version c.args.bytes.now c.in_ok-facts.facts c.read_nodes.new.tree.files c.in_ok-version.left.bytes.now c.in_ok-facts.left.bytes.now c.in_ok-left.left.bytes.now
    c.in_ok-version.ensures.text c.in_ok-facts.ensures.text (c.in_ok-left.ensures.text c.in_ok-facts.left.bytes.now c.in_ok-tree.ensures.text) c.in_ok-check_end.ensures.ok (subst IsTree c.finish.ensures.files c.finish.result.tree))

pub returns-in_err-version-clause-image : goal.returns-in_err-version-clause-image
returns-in_err-version-clause-image c = IfOk-from_err c.from_residual.result _ c.from_residual.ensures.0

pub returns-in_err-version-clause-steps : goal.returns-in_err-version-clause-steps
returns-in_err-version-clause-steps c = IfOk-from_err c.from_residual.result _ c.from_residual.ensures.0

pub returns-in_err-facts-clause-image : goal.returns-in_err-facts-clause-image
returns-in_err-facts-clause-image c = IfOk-from_err c.from_residual-in_err-facts.result _ c.from_residual-in_err-facts.ensures.0

pub returns-in_err-facts-clause-steps : goal.returns-in_err-facts-clause-steps
returns-in_err-facts-clause-steps c = IfOk-from_err c.from_residual-in_err-facts.result _ c.from_residual-in_err-facts.ensures.0

pub returns-in_err-tree-clause-image : goal.returns-in_err-tree-clause-image
returns-in_err-tree-clause-image c = IfOk-from_err c.from_residual-in_err-tree.result _ c.from_residual-in_err-tree.ensures.0

pub returns-in_err-tree-clause-steps : goal.returns-in_err-tree-clause-steps
returns-in_err-tree-clause-steps c = IfOk-from_err c.from_residual-in_err-tree.result _ c.from_residual-in_err-tree.ensures.0

pub returns-in_err-left-clause-image : goal.returns-in_err-left-clause-image
returns-in_err-left-clause-image c = IfOk-from_err c.from_residual-in_err-left.result _ c.from_residual-in_err-left.ensures.0

pub returns-in_err-left-clause-steps : goal.returns-in_err-left-clause-steps
returns-in_err-left-clause-steps c = IfOk-from_err c.from_residual-in_err-left.result _ c.from_residual-in_err-left.ensures.0

pub returns-in_err-check_end-clause-image : goal.returns-in_err-check_end-clause-image
returns-in_err-check_end-clause-image c = IfOk-from_err c.from_residual-in_err-check_end.result _ c.from_residual-in_err-check_end.ensures.0

pub returns-in_err-check_end-clause-steps : goal.returns-in_err-check_end-clause-steps
returns-in_err-check_end-clause-steps c = IfOk-from_err c.from_residual-in_err-check_end.result _ c.from_residual-in_err-check_end.ensures.0
