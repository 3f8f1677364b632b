use Rattle.std.proofs.Common.{◌≡◌, List, ℕ, false, ap, sym, ◌∙◌}
use Rattle.pv_steps.specs.Attributes.{is_attr}
use Rattle.pv_image.proofs.AttrTexts.{none_attr, none_name, none_value}
use Rattle.pv_image.proofs.attrs.attr_with.Goals as goal

pub returns-in_default : goal.returns-in_default
returns-in_default c = none_name c.args.name.now c.args.value.now (rw c.in_default.is at c.in_ok-name.ensures)

pub returns-in_default-2 : goal.returns-in_default-2
returns-in_default-2 c = none_value c.args.name.now c.args.value.now (rw c.in_default-2.is at c.in_ok-value.ensures)

pub returns-then-not-is_attr : goal.returns-then-not-is_attr
returns-then-not-is_attr c =
    let name = rw c.in-Some.is at c.in_ok-name.ensures in
    let value = rw c.in-Some-2.is at c.in_ok-value.ensures in
    let no : is_attr c.in-Some.name c.in-Some-2.value ≡ false = sym (ap (λ (n : List ℕ). is_attr n c.as_slice-2.result.now) c.as_slice.ensures ∙ ap (is_attr c.in-Some.name) c.as_slice-2.ensures) ∙ sym c.is_attr.ensures ∙ c.if-not-is_attr.true in
    none_attr c.args.name.now c.args.value.now (record { name = c.in-Some.name; value = c.in-Some-2.value }) name.1 value.1 no
