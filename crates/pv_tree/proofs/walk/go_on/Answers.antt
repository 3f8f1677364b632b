use Rattle.std.proofs.Common.{◌≡◌, true, false, None, Result, Ok, Err, OnOk, ℕ, suc, length, ◌+◌, ◌++◌, ◌∷◌, [], sym, ap, subst, ◌∙◌, arith}
use Rattle.std.proofs.lemmas.Option.{MatchOption-at_none}
use Rattle.pv_path.specs.Paths.{Path}
use Rattle.pv_tree.specs.Walks.{IsWay, left_in}
use Rattle.pv_tree.proofs.WalkLaws.{way_push, way_length, left_push, child_there, way_pop, left_closed}
use Rattle.pv_tree.proofs.walk.go_on.Goals as goal

both : {E P Q R : Type 0} → (r : Result (Unit {0}) E) → (P → Q → R) → OnOk r P → OnOk r Q → OnOk r R
both (Ok u) f p q = f p q
both (Err e) f p q = tt

way : (c : goal.After-open_child) → IsWay c.args.slots.now.items c.loop-number.names.items (c.pop.new.self.items ++ (c.in-Some.number, c.in-Some.next) ∷ [])
way c = subst (IsWay c.args.slots.now.items c.loop-number.names.items) c.in-Some.ensures.items c.loop-number.invariant.way

pub returns-in-Some-child_at-clause-way : goal.returns-in-Some-child_at-clause-way
returns-in-Some-child_at-clause-way c =
    let child = c.in-Some-child_at.child.now in
    both c.open_child.result
    (λ names_are opened_are.
    subst (λ (n : Path). IsWay c.args.slots.now.items n c.open_child.new.opened.items) (sym names_are)
    (subst (IsWay c.args.slots.now.items (c.loop-number.names.items ++ child.0 ∷ [])) (sym opened_are)
    (way_push c.args.slots.now.items c.loop-number.names.items c.pop.new.self.items c.in-Some.number c.in-Some.next (c.in-Some.next + 1) child.0 child.1 (way c)
    (child_there c.args.slots.now.items c.in-Some.number c.in-Some.next child.0 child.1 (sym c.in-Some-child_at.ensures.child)))))
    c.open_child.ensures.names c.open_child.ensures.opened

pub returns-in-Some-child_at-clause-left : goal.returns-in-Some-child_at-clause-left
returns-in-Some-child_at-clause-left c =
    let child = c.in-Some-child_at.child.now in
    let N : ℕ = length c.args.slots.now.items in
    let next : c.in-Some.next + 1 ≡ suc c.in-Some.next = omega arith in
    both c.open_child.result
    (λ names_are opened_are.
    ap (λ (n : Path). left_in true N c.args.slots.now.items n c.open_child.new.opened.items) names_are
    ∙ ap (left_in true N c.args.slots.now.items (c.loop-number.names.items ++ child.0 ∷ [])) opened_are
    ∙ left_push c.args.slots.now.items N c.loop-number.names.items c.pop.new.self.items c.in-Some.number c.in-Some.next (c.in-Some.next + 1) child.0 child.1 next
    (way_length c.args.slots.now.items c.loop-number.names.items c.pop.new.self.items (c.in-Some.number, c.in-Some.next) (way c)) (sym c.in-Some-child_at.ensures.child)
    ∙ ap (left_in false N c.args.slots.now.items c.loop-number.names.items) (sym c.in-Some.ensures.items) ∙ c.loop-number.invariant.left)
    c.open_child.ensures.names c.open_child.ensures.opened

pub loop-number-preserved-in_default-child_at : goal.loop-number-preserved-in_default-child_at
loop-number-preserved-in_default-child_at c =
    let N : ℕ = length c.args.slots.now.items in
    let way : IsWay c.args.slots.now.items c.loop-number.names.items (c.pop.new.self.items ++ (c.in-Some.number, c.in-Some.next) ∷ []) =
    subst (IsWay c.args.slots.now.items c.loop-number.names.items) c.in-Some.ensures.items c.loop-number.invariant.way in
    let none : c.pop-closed.result ≡ None → length c.loop-number.names.items ≡ 0 =
    λ h. (let zero = (MatchOption-at_none _ _ h c.pop-closed.ensures.cases).0 in omega (arith, zero, c.loop-number.names.ok.0)) in
    record {
      way = way_pop c.args.slots.now.items c.loop-number.names.items c.pop-closed.new.self.items c.pop-closed.result c.pop.new.self.items (c.in-Some.number, c.in-Some.next) c.pop-closed.ensures.items none way;
      left =
          left_closed c.args.slots.now.items N c.loop-number.names.items c.pop-closed.new.self.items c.pop-closed.result c.pop.new.self.items (c.in-Some.number, c.in-Some.next) c.pop-closed.ensures.items none way
          (sym c.in_default-child_at.ensures.child)
          ∙ ap (left_in false N c.args.slots.now.items c.loop-number.names.items) (sym c.in-Some.ensures.items) ∙ c.loop-number.invariant.left;
    }

pub loop-number-preserved : goal.loop-number-preserved
loop-number-preserved c =
    let N : ℕ = length c.args.slots.now.items in
    let way : IsWay c.args.slots.now.items c.loop-number.names.items (c.pop.new.self.items ++ (c.in-Some.number, c.in-Some.next) ∷ []) =
    subst (IsWay c.args.slots.now.items c.loop-number.names.items) c.in-Some.ensures.items c.loop-number.invariant.way in
    let none : c.pop-closed.result ≡ None → length c.loop-number.names.items ≡ 0 =
    λ h. (let zero = (MatchOption-at_none _ _ h c.pop-closed.ensures.cases).0 in omega (arith, zero, c.loop-number.names.ok.0)) in
    record {
      way = way_pop c.args.slots.now.items c.loop-number.names.items c.pop-closed.new.self.items c.pop-closed.result c.pop.new.self.items (c.in-Some.number, c.in-Some.next) c.pop-closed.ensures.items none way;
      left =
          left_closed c.args.slots.now.items N c.loop-number.names.items c.pop-closed.new.self.items c.pop-closed.result c.pop.new.self.items (c.in-Some.number, c.in-Some.next) c.pop-closed.ensures.items none way
          (sym c.in_default-child_at.ensures.child)
          ∙ ap (left_in false N c.args.slots.now.items c.loop-number.names.items) (sym c.in-Some.ensures.items) ∙ c.loop-number.invariant.left;
    }

pub loop-number-preserved-in_default-child_at-2 : goal.loop-number-preserved-in_default-child_at-2
loop-number-preserved-in_default-child_at-2 c =
    let N : ℕ = length c.args.slots.now.items in
    let way : IsWay c.args.slots.now.items c.loop-number.names.items (c.pop.new.self.items ++ (c.in-Some.number, c.in-Some.next) ∷ []) =
    subst (IsWay c.args.slots.now.items c.loop-number.names.items) c.in-Some.ensures.items c.loop-number.invariant.way in
    let none : c.pop-closed.result ≡ None → length c.loop-number.names.items ≡ 0 =
    λ h. (let zero = (MatchOption-at_none _ _ h c.pop-closed.ensures.cases).0 in omega (arith, zero, c.loop-number.names.ok.0)) in
    record {
      way = way_pop c.args.slots.now.items c.loop-number.names.items c.pop-closed.new.self.items c.pop-closed.result c.pop.new.self.items (c.in-Some.number, c.in-Some.next) c.pop-closed.ensures.items none way;
      left =
          left_closed c.args.slots.now.items N c.loop-number.names.items c.pop-closed.new.self.items c.pop-closed.result c.pop.new.self.items (c.in-Some.number, c.in-Some.next) c.pop-closed.ensures.items none way
          (sym c.in_default-child_at.ensures.child)
          ∙ ap (left_in false N c.args.slots.now.items c.loop-number.names.items) (sym c.in-Some.ensures.items) ∙ c.loop-number.invariant.left;
    }
