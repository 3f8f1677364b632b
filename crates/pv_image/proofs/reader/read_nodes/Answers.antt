use Rattle.std.proofs.Common.{◌≡◌, ◌+◌, ◌<◌, ◌≤◌, ℕ, true, false, sym, subst, ◌∙◌, arith, refl}
use Rattle.std.proofs.lemmas.Result.{err_from_is_err_and}
use Rattle.std.specs.FinMap as fin
use Rattle.pv_image.specs.Images.{After, End, InNodes, Node, cut_off}
use Rattle.pv_image.specs.Progress.{IsLastPath}
use Rattle.pv_image.proofs.Stages.{bad_node, cut_length, fails_later, leads_on, nodes_on, path_more, refuses_fails, tree_end, tree_more}
use Rattle.std.proofs.lemmas.Result.{IfOk-from_err}
use Rattle.pv_image.proofs.reader.read_nodes.Goals as goal

pub returns-then-is_end-clause-leads : goal.returns-then-is_end-clause-leads
returns-then-is_end-clause-leads c =
    leads_on c.args.left.number (InNodes c.args.version (fin.entries c.args.tree.now.files)) c.args.left.bytes.now c.loop-text.number (InNodes c.args.version (fin.entries c.loop-text.tree.files)) After
    c.in-Some.text.now c.loop-text.rest.now c.in-Some.after.now End c.loop-text.invariant.leads c.in-Some.ensures.some (c.is_end.ensures.0 c.if-is_end.true) refl

pub returns-then-is_end-clause-text : goal.returns-then-is_end-clause-text
returns-then-is_end-clause-text c = λ bytes so_far.
    tree_end c.args.version bytes c.loop-text.tree.files c.loop-text.rest.now c.in-Some.text.now c.in-Some.after.now (c.loop-text.invariant.text bytes so_far) c.in-Some.ensures.some (c.is_end.ensures.0 c.if-is_end.true)

pub returns-in_default-2-clause-err : goal.returns-in_default-2-clause-err
returns-in_default-2-clause-err c =
    c.loop-text.invariant.leads _ (bad_node c.loop-text.number c.loop-text.rest.now c.in-Some.text.now c.in-Some.after.now c.in-Some.ensures.some c.args.version (fin.entries c.loop-text.tree.files)
    (rw c.in_default-2.is at c.in_ok-path.ensures) (λ e. let bad : true ≡ false = sym (c.is_end.ensures.1 e) ∙ c.if-is_end.false in cc))

pub returns-in_err-add_node-clause-err : goal.returns-in_err-add_node-clause-err
returns-in_err-add_node-clause-err c =
    let p = err_from_is_err_and c.from_residual-in_err-add_node.result c.from_residual-in_err-add_node.ensures.1 in
    let stage = InNodes c.args.version (fin.entries c.loop-text.tree.files) in
    rw (p.1, p.2) (fails_later c.args.left.number (InNodes c.args.version (fin.entries c.args.tree.now.files)) c.args.left.bytes.now c.loop-text.number stage c.loop-text.rest.now c.in_err-add_node.field-0.0 c.loop-text.invariant.leads
    (refuses_fails c.loop-text.number stage c.loop-text.rest.now c.in-Some.text.now c.in-Some.after.now (Node c.args.version (c.in-Some-2.path, c.in-Some-2.object)) c.in_err-add_node.field-0.0 c.in-Some.ensures.some
    (rw c.in-Some-2.is at c.in_ok-path.ensures) (c.in_err-add_node.ensures.refused c.args.version)))

pub loop-text-preserved : goal.loop-text-preserved
loop-text-preserved c =
    let old = c.loop-text.tree.files in
    let new = c.add_node.new.tree.files in
    let text = c.in-Some.text.now in
    let rest = c.loop-text.rest.now in
    let after = c.in-Some.after.now in
    let cut = c.in-Some.ensures.some in
    let read = rw c.in-Some-2.is at c.in_ok-path.ensures in
    record {
      leads = nodes_on c.args.version c.args.left.number (InNodes c.args.version (fin.entries c.args.tree.now.files)) c.args.left.bytes.now c.loop-text.number old new (c.in-Some-2.path, c.in-Some-2.object) text rest after c.loop-text.invariant.leads cut read (c.in_ok-add_node.ensures.judged c.args.version) c.in_ok-add_node.ensures.added;
      text = λ bytes so_far. tree_more c.args.version bytes old new (c.in-Some-2.path, c.in-Some-2.object) rest text after (c.loop-text.invariant.text bytes so_far) c.in_ok-add_node.ensures.added read.0 cut read.1;
      last = subst (IsLastPath new) (sym c.in_ok-add_node.ensures.last) (path_more old new (c.in-Some-2.path, c.in-Some-2.object) c.in_ok-add_node.ensures.added);
      small = let shorter = cut_length rest text after cut in let so_far = c.loop-text.invariant.small in omega arith;
    }

pub returns-clause-err : goal.returns-clause-err
returns-clause-err c = c.loop-text.invariant.leads _ (cut_off c.in_default.ensures.none refl)

less : (m n : ℕ) → m + 1 ≤ n → m < n
less m n h = omega arith

pub loop-text-smaller : goal.loop-text-smaller
loop-text-smaller c = less _ _ (cut_length c.loop-text.rest.now c.in-Some.text.now c.in-Some.after.now c.in-Some.ensures.some)

pub returns-in_err-path-clause-leads : goal.returns-in_err-path-clause-leads
returns-in_err-path-clause-leads c = IfOk-from_err c.from_residual.result _ c.from_residual.ensures.0

pub returns-in_err-path-clause-text : goal.returns-in_err-path-clause-text
returns-in_err-path-clause-text c = λ bytes so_far. IfOk-from_err c.from_residual.result _ c.from_residual.ensures.0

pub returns-in_err-add_node-clause-leads : goal.returns-in_err-add_node-clause-leads
returns-in_err-add_node-clause-leads c = IfOk-from_err c.from_residual-in_err-add_node.result _ c.from_residual-in_err-add_node.ensures.0

pub returns-in_err-add_node-clause-text : goal.returns-in_err-add_node-clause-text
returns-in_err-add_node-clause-text c = λ bytes so_far. IfOk-from_err c.from_residual-in_err-add_node.result _ c.from_residual-in_err-add_node.ensures.0
