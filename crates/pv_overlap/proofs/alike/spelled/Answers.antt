use Rattle.std.proofs.lemmas.Result.{IfOk-from_err}
use Rattle.std.proofs.Common.{◌≡◌, ◌+◌, ◌++◌, ◌∷◌, [], ℕ, List, map, take, get_or, sym, ap, ◌∙◌}
use Rattle.std.specs.List.{flat_map}
use Rattle.std.proofs.lemmas.List.{flat_map_more, take_all, take_more}
use Rattle.pv_glob.specs.declared.element.Element.{Element}
use Rattle.pv_overlap.specs.Alike.{byte_for, spelled}
use Rattle.pv_overlap.proofs.alike.spelled.Goals as goal

pub returns-in_err-add_spelled : goal.returns-in_err-add_spelled
returns-in_err-add_spelled c = IfOk-from_err c.from_residual.result _ c.from_residual.ensures.0

pub loop-component-preserved : goal.loop-component-preserved
loop-component-preserved c =
    let f : (List Element → List ℕ) = λ component. 47 ∷ map byte_for component in
    let components = c.args.components.now in
    let i = c.loop-component.component-index in
    let is : c.as_slice.result.now ≡ get_or components i c.component-item.result = c.as_slice.ensures ∙ c.component-item.is in
    c.in_ok-add_spelled.ensures
    ∙ ap (λ (ts : List ℕ). ts ++ f c.as_slice.result.now) c.loop-component.invariant
    ∙ ap (λ (x : List Element). flat_map f (take i components) ++ f x) is
    ∙ flat_map_more f [] (take i components) (get_or components i c.component-item.result)
    ∙ ap (flat_map f) (sym (take_more components i c.component-item.result c.loop-component-test.true))

pub returns : goal.returns
returns c = c.loop-component.invariant ∙ ap spelled (take_all c.loop-component.component-index c.args.components.now c.loop-component-test.false)
