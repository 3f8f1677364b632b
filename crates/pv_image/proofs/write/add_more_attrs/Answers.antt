use Rattle.std.proofs.Common.{List, ℕ, [], ◌∷◌, ◌++◌, append-nil, append_assoc, sym, ap, ◌∙◌}
use Rattle.std.proofs.lemmas.List.{take_all}
use Rattle.std.proofs.lemmas.Result.{IfOk-from_err}
use Rattle.std.specs.List.{flat_map}
use Rattle.pv_steps.specs.declared.attr.Attr.{Attr}
use Rattle.pv_image.specs.Spelling.{attr_text}
use Rattle.pv_image.proofs.Wholes.{item_more}
use Rattle.pv_image.proofs.write.add_more_attrs.Goals as goal

pub loop-attr-init : goal.loop-attr-init
loop-attr-init c = sym (append-nil c.args.output.now.items)

pub loop-attr-preserved : goal.loop-attr-preserved
loop-attr-preserved c =
    item_more (λ (x : Attr). 44 ∷ attr_text x) c.args.output.now.items c.loop-attr.output.items c.add_attr.new.output.items c.args.attrs.now c.loop-attr.attr-index c.attr-item.result c.loop-attr-test.true c.attr-item.is c.loop-attr.invariant
    (c.in_ok-add_attr.ensures ∙ ap (λ (t : List ℕ). t ++ attr_text c.attr-item.result) c.in_ok-push.ensures.items ∙ append_assoc c.loop-attr.output.items (44 ∷ []) (attr_text c.attr-item.result))

pub returns : goal.returns
returns c = c.loop-attr.invariant ∙ ap (λ (v : List (Attr)). c.args.output.now.items ++ flat_map (λ (x : Attr). 44 ∷ attr_text x) v) (take_all c.loop-attr.attr-index c.args.attrs.now c.loop-attr-test.false)

pub returns-in_err-push : goal.returns-in_err-push
returns-in_err-push c = IfOk-from_err c.from_residual.result _ c.from_residual.ensures.0

pub returns-in_err-add_attr : goal.returns-in_err-add_attr
returns-in_err-add_attr c = IfOk-from_err c.from_residual-in_err-add_attr.result _ c.from_residual-in_err-add_attr.ensures.0
