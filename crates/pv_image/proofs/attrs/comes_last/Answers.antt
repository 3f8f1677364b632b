use Rattle.std.proofs.Common.{◌≡◌, ◌-◌, List, Some, length, sym, subst, ◌∙◌}
use Rattle.std.specs.Prelude.{slice_get}
use Rattle.pv_steps.specs.declared.attr.Attr.{Attr}
use Rattle.pv_image.proofs.AttrTexts.{late_is}
use Rattle.pv_image.proofs.attrs.comes_last.Goals as goal

pub returns-in-Some : goal.returns-in-Some
returns-in-Some c =
    let last = c.in-Some.last.now in
    c.is_before.ensures ∙ late_is c.args.attrs.now last c.args.attr.now c.as_slice.ensures.allowed (subst (λ (xs : List Attr). slice_get xs (length xs - 1) ≡ Some last) c.as_slice.ensures.value (sym c.in-Some.ensures.value))
