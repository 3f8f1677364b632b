use Rattle.std.proofs.Common.{◌≡◌, List, [], true, rules, subst, sym, ◌∙◌}
use Rattle.std.proofs.lemmas.List.{nil_from_length}
use Rattle.pv_glob.specs.declared.element.Element.{Element}
use Rattle.pv_glob.proofs.Disjoint.{Disjoint, disjoint_left, disjoint_right}
use Rattle.pv_glob.proofs.apart.are_apart.Goals as goal

pub returns-then-is_empty : goal.returns-then-is_empty
returns-then-is_empty c = λ e name m.
    let left = c.loop-left.left.now in
    let right = c.loop-left.right.now in
    let none : left ≡ [] = nil_from_length left (search rules) in
    c.loop-left.invariant (subst (λ (x : List Element). Disjoint x right) (sym none) (disjoint_left right (sym c.needs_byte.ensures ∙ e))) true name m

pub returns-then-is_empty-2 : goal.returns-then-is_empty-2
returns-then-is_empty-2 c = λ e name m.
    let left = c.loop-left.left.now in
    let right = c.loop-left.right.now in
    let none : right ≡ [] = nil_from_length right (search rules) in
    c.loop-left.invariant (subst (λ (x : List Element). Disjoint left x) (sym none) (disjoint_right left (sym c.needs_byte-then-is_empty-2.ensures ∙ e))) true name m
