use Rattle.std.proofs.Common.{◌≡◌, ◌∷◌, ◌-◌, ◌≤◌, ℕ, List, length, take, drop, get_or, rules, subst, sym, ◌∙◌}
use Rattle.pv_glob.specs.declared.element.Element.{Element}
use Rattle.pv_glob.specs.declared.element.Element.TheVariants.{Many}
use Rattle.pv_glob.proofs.Along.{Going, front_number, front_read, many_step, byte_step}
use Rattle.pv_glob.proofs.matching.rest_matches.Goals as goal

pub loop-rest-preserved-in-Many-1 : goal.loop-rest-preserved-in-Many-1
loop-rest-preserved-in-Many-1 c =
    let first : Many ≡ get_or c.loop-rest.rest.now 0 Many = search rules in
    let whole = front_read c.loop-rest.rest.now Many c.in-Many-default.len_at_least first in
    many_step c.args.elements.now c.args.name.now _ c.loop-rest.left c.loop-rest.last_many
    (subst (λ es. Going c.args.elements.now c.args.name.now es c.loop-rest.left.now c.loop-rest.last_many) whole c.loop-rest.invariant)

pub loop-rest-preserved-then-byte_matches : goal.loop-rest-preserved-then-byte_matches
loop-rest-preserved-then-byte_matches c =
    let some_elements : 1 ≤ length c.loop-rest.rest.now = search rules in
    let some_bytes : 1 ≤ length c.loop-rest.left.now = search rules in
    let first = front_read c.loop-rest.rest.now c.element-item.result some_elements c.element-item.is in
    let byte = front_number c.loop-rest.left.now some_bytes in
    let going = subst (λ (es : List Element). Going c.args.elements.now c.args.name.now es c.loop-rest.left.now c.loop-rest.last_many) first c.loop-rest.invariant in
    byte_step c.args.elements.now c.args.name.now c.element-item.result _ (get_or c.loop-rest.left.now 0 0) _ c.loop-rest.last_many (sym c.byte_matches.ensures ∙ c.if-byte_matches.true)
    (subst (λ (bs : List ℕ). Going c.args.elements.now c.args.name.now (c.element-item.result ∷ take (length c.loop-rest.rest.now - 1) (drop 1 c.loop-rest.rest.now)) bs c.loop-rest.last_many) byte going)
