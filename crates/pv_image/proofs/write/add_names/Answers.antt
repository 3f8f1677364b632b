use Rattle.std.proofs.Common.{List, ℕ, ◌∷◌, ◌++◌, append-nil, sym, ap, ◌∙◌}
use Rattle.std.proofs.lemmas.List.{take_all}
use Rattle.std.proofs.lemmas.Result.{IfOk-from_err}
use Rattle.std.specs.List.{flat_map}
use Rattle.pv_path.specs.Printing.{printed}
use Rattle.pv_image.proofs.Wholes.{item_more}
use Rattle.pv_image.proofs.write.add_names.Goals as goal

pub loop-name-init : goal.loop-name-init
loop-name-init c = sym (append-nil c.args.output.now.items)

pub loop-name-preserved : goal.loop-name-preserved
loop-name-preserved c =
    item_more (λ (n : List ℕ). 47 ∷ printed n) c.args.output.now.items c.loop-name.output.items c.add_name.new.output.items c.args.path.now c.loop-name.name-index c.name-item.result c.loop-name-test.true c.name-item.is c.loop-name.invariant
    (c.in_ok-add_name.ensures ∙ ap (λ (n : List ℕ). c.loop-name.output.items ++ 47 ∷ printed n) c.bytes.ensures.value)

pub returns : goal.returns
returns c = c.loop-name.invariant ∙ ap (λ (v : List (List ℕ)). c.args.output.now.items ++ flat_map (λ (n : List ℕ). 47 ∷ printed n) v) (take_all c.loop-name.name-index c.args.path.now c.loop-name-test.false)

pub returns-in_err-add_name : goal.returns-in_err-add_name
returns-in_err-add_name c = IfOk-from_err c.from_residual.result _ c.from_residual.ensures.0
