use Rattle.std.proofs.Common.{◌≡◌, true, sym, ap, subst, ◌∙◌}
use Rattle.pv_steps.specs.declared.attr.Attr.{Attr}
use Rattle.pv_steps.specs.Attributes.{is_attr, are_attrs, put_attr}
use Rattle.pv_steps.proofs.AttrPutting.{allowed_at, put_more}
use Rattle.pv_steps.proofs.attr.AttrList.with_all.Goals as goal

pub put-requires : goal.put-requires
put-requires c =
    let item = c.attr-item.result in
    let are : are_attrs c.as_slice-attr-items.result.now ≡ true = ap are_attrs c.as_slice-attr-items.ensures.value ∙ c.as_slice-attr-items.ensures.allowed in
    let at = allowed_at c.as_slice-attr-items.result.now c.loop-attr.attr-index item c.loop-attr-test.true are in
    subst (λ (x : Attr). is_attr x.name x.value ≡ true) (sym c.attr-item.is ∙ sym c.in_ok-copy.ensures) at

pub loop-attr-preserved : goal.loop-attr-preserved
loop-attr-preserved c =
    let item = c.attr-item.result in
    c.in_ok-put.ensures.ok
    ∙ ap (λ (x : Attr). put_attr x c.loop-attr.all) (c.in_ok-copy.ensures ∙ c.attr-item.is)
    ∙ ap (put_attr _) c.loop-attr.invariant
    ∙ sym (put_more c.as_slice-attr-items.result.now c.loop-attr.attr-index item c.args.self.now c.loop-attr-test.true)
