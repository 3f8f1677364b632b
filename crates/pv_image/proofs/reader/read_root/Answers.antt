use Rattle.std.proofs.Common.{refl, sym, subst, arith}
use Rattle.std.proofs.lemmas.Result.{err_from_is_err_and}
use Rattle.pv_image.specs.Images.{cut_off}
use Rattle.pv_image.specs.Progress.{IsLastPath}
use Rattle.pv_image.proofs.Stages.{cut_length, first_fails, root_fails, root_last, root_leads, tree_one}
use Rattle.pv_image.proofs.reader.read_root.Goals as goal

pub returns-in_default-clause-err : goal.returns-in_default-clause-err
returns-in_default-clause-err c = λ facts. cut_off c.in_default.ensures.none refl

pub returns-in_default-2-clause-err : goal.returns-in_default-2-clause-err
returns-in_default-2-clause-err c = λ facts.
    first_fails c.args.version c.args.left.number facts c.args.left.bytes.now c.in-Some.text.now c.in-Some.rest.now c.fault_of.result c.in-Some.ensures.some c.requires.next (rw c.in_default-2.is at c.in_ok-path.ensures) c.fault_of.ensures.either

pub returns-in_err-tree-clause-err : goal.returns-in_err-tree-clause-err
returns-in_err-tree-clause-err c = λ facts.
    let p = err_from_is_err_and c.from_residual-in_err-tree.result c.from_residual-in_err-tree.ensures.1 in
    rw (p.1, p.2) (root_fails c.args.version c.args.left.number facts c.args.left.bytes.now c.in-Some.text.now c.in-Some.rest.now (c.in-Some-2.path, c.in-Some-2.object) c.in_err-tree.field-0.0 c.in-Some.ensures.some
    (rw c.in-Some-2.is at c.in_ok-path.ensures) c.in_err-tree.ensures.refused)

pub returns-clause-leads : goal.returns-clause-leads
returns-clause-leads c = λ facts.
    root_leads c.args.version c.args.left.number facts c.args.left.bytes.now c.in-Some.text.now c.in-Some.rest.now (c.in-Some-2.path, c.in-Some-2.object) c.in_ok-tree.tree.files c.in-Some.ensures.some
    (rw c.in-Some-2.is at c.in_ok-path.ensures) c.in_ok-tree.ensures.is_root c.in_ok-tree.ensures.root

pub returns-clause-last : goal.returns-clause-last
returns-clause-last c =
    subst (IsLastPath c.in_ok-tree.tree.files) (sym c.in_ok-tree.ensures.last) (root_last c.in_ok-tree.tree.files (c.in-Some-2.path, c.in-Some-2.object) c.in_ok-tree.ensures.is_root c.in_ok-tree.ensures.root)

pub returns-clause-text : goal.returns-clause-text
returns-clause-text c =
    let read = rw c.in-Some-2.is at c.in_ok-path.ensures in
    tree_one c.args.version c.args.left.bytes.now c.in_ok-tree.tree.files (c.in-Some-2.path, c.in-Some-2.object) c.in-Some.text.now c.in-Some.rest.now c.in_ok-tree.ensures.root read.0 c.in-Some.ensures.some read.1

pub returns-clause-small : goal.returns-clause-small
returns-clause-small c =
    let shorter = cut_length c.args.left.bytes.now c.in-Some.text.now c.in-Some.rest.now c.in-Some.ensures.some in
    let so_far = c.requires.small in
    omega arith
