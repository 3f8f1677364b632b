use Rattle.std.proofs.lemmas.Result.{IfOk-from_err}
use Rattle.std.proofs.Common.{◌≡◌, ◌+◌, ◌++◌, ◌∷◌, [], ℕ, List, map, take, get_or, sym, ap, ◌∙◌, append_assoc}
use Rattle.std.proofs.lemmas.List.{map_more, take_all}
use Rattle.pv_glob.specs.declared.element.Element.{Element}
use Rattle.pv_overlap.specs.Alike.{byte_for}
use Rattle.pv_overlap.proofs.alike.add_spelled.Goals as goal

pub returns-in_err-push : goal.returns-in_err-push
returns-in_err-push c = IfOk-from_err c.from_residual.result _ c.from_residual.ensures.0

pub returns-in_err-push-2 : goal.returns-in_err-push-2
returns-in_err-push-2 c = IfOk-from_err c.from_residual-in_err-push-2.result _ c.from_residual-in_err-push-2.ensures.0

pub loop-element-init : goal.loop-element-init
loop-element-init c = c.in_ok-push.ensures.items

pub loop-element-preserved : goal.loop-element-preserved
loop-element-preserved c =
    let component = c.args.component.now in
    let i = c.loop-element.element-index in
    let old = c.args.text.now.items in
    let before = 47 ∷ map byte_for (take i component) in
    let spelled : c.byte_for.result ≡ byte_for (get_or component i c.element-item.result) = c.byte_for.ensures ∙ ap byte_for c.element-item.is in
    c.in_ok-push-2.ensures.items
    ∙ ap (λ (ts : List ℕ). ts ++ c.byte_for.result ∷ []) c.loop-element.invariant
    ∙ append_assoc old before (c.byte_for.result ∷ [])
    ∙ ap (λ (b : ℕ). old ++ 47 ∷ (map byte_for (take i component) ++ b ∷ [])) spelled
    ∙ ap (λ (ts : List ℕ). old ++ 47 ∷ ts) (sym (map_more byte_for component i c.element-item.result c.loop-element-test.true))

pub returns : goal.returns
returns c = c.loop-element.invariant ∙ ap (λ (es : List Element). c.args.text.now.items ++ 47 ∷ map byte_for es) (take_all c.loop-element.element-index c.args.component.now c.loop-element-test.false)
