use Rattle.std.proofs.Common.{◌≡◌, ap, sym, ◌∙◌, map}
use Rattle.pv_path.specs.Names.{is_staging}
use Rattle.pv_glob.specs.declared.element.Element.TheVariants.{Byte}
use Rattle.pv_walk.proofs.FindingLaws.{written_alone}
use Rattle.pv_walk.proofs.matching.written_name.Goals as goal

pub returns-in_ok-of-in-Some : goal.returns-in_ok-of-in-Some
returns-in_ok-of-in-Some c =
    let is : c.args.component.now ≡ map (λ b. Byte b) c.in-Some.bytes.items = rw c.in-Some.is at c.in_ok-bytes.ensures in
    λ n h.
    written_alone c.args.component.now c.in-Some.bytes.items is (ap is_staging (sym c.deref-then-is_name.ensures.value) ∙ sym c.if-not-is_staging.ensures) n h
    ∙ sym c.deref-in-Some.ensures.value ∙ sym c.in_ok-of-in-Some.ensures
