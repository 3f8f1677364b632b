use Rattle.std.proofs.Common.{◌≡◌, ℕ, ◌+◌, ◌<◌, get_or, ◌∷◌, ◌++◌, [], List, take, drop, length, sym, ap, subst, ◌∙◌, arith, true, add-one, append_assoc}
use Rattle.std.proofs.lemmas.List.{take-append-drop, take_all}
use Rattle.std.proofs.lemmas.Option.{slice_get_past}
use Rattle.std.proofs.Math.Seq.{take-suc}
use Rattle.pv_path.specs.Paths.{Path}
use Rattle.pv_tree.specs.Slots.{entries_in}
use Rattle.pv_tree.specs.Walks.{IsWay, children_in, left_in}
use Rattle.pv_tree.proofs.WalkLaws.{left_none}
use Rattle.pv_tree.proofs.BelowLaws.{kept, IsClosed, closed_push, closed_left, closed_off, closed_way}
use Rattle.pv_tree.proofs.walk.opened_along.Goals as goal

-- the names as far as the next one
next : (names : Path) (j : ℕ) (name : List ℕ) → j < length names → name ≡ get_or names j name → take (j + 1) names ≡ take j names ++ name ∷ []
next names j name within is = ap (λ i. take i names) (add-one j) ∙ take-suc names j name within ∙ ap (λ n. take j names ++ n ∷ []) (sym is)

pub returns-in_default-clause-left : goal.returns-in_default-clause-left
returns-in_default-clause-left c =
    let slots = c.args.slots.now.items in
    let names = c.args.names.now in
    let j = c.loop-name.name-index in
    let name = c.name-item.result in
    let split : names ≡ take j names ++ name ∷ drop (j + 1) names =
    sym (take-append-drop (j + 1) names) ∙ ap (λ (v : Path). v ++ drop (j + 1) names) (next names j name c.loop-name-test.true c.name-item.is)
    ∙ append_assoc (take j names) (name ∷ []) (drop (j + 1) names) in
    ap (left_in true (length slots) slots names) c.new.ensures.items ∙ left_none slots true (length slots) names
    ∙ sym (ap (λ (v : Path). kept v (entries_in (length slots) slots 0)) split
    ∙ closed_off slots (length slots) 0 (take j names) c.loop-name.opened.items c.loop-name.number name (drop (j + 1) names) c.loop-name.invariant
    (sym c.child_of.ensures ∙ c.in_default.is))

pub loop-name-preserved : goal.loop-name-preserved
loop-name-preserved c =
    let slots = c.args.slots.now.items in
    let names = c.args.names.now in
    let j = c.loop-name.name-index in
    let name = c.name-item.result in
    subst (λ (v : List (ℕ × ℕ)). IsClosed slots 0 (take (j + 1) names) v c.in-Some.child) (sym c.in_ok-push.ensures.items)
    (subst (λ (p : Path). IsClosed slots 0 p (c.loop-name.opened.items ++ (c.loop-name.number, c.child_count.result) ∷ []) c.in-Some.child)
    (sym (next names j name c.loop-name-test.true c.name-item.is))
    (closed_push slots 0 (take j names) c.loop-name.opened.items c.loop-name.number c.child_count.result c.in-Some.child name c.loop-name.invariant
    (slice_get_past (children_in slots c.loop-name.number) c.child_count.result (omega (arith, c.child_count.ensures)))
    (sym c.child_of.ensures ∙ c.in-Some.is)))

pub returns-clause-way : goal.returns-clause-way
returns-clause-way c =
    let slots = c.args.slots.now.items in
    let names = c.args.names.now in
    subst (λ (v : List (ℕ × ℕ)). IsWay slots names v) (sym c.in_ok-push-2.ensures.items)
    (closed_way slots names c.loop-name.opened.items c.loop-name.number
    (subst (λ (p : Path). IsClosed slots 0 p c.loop-name.opened.items c.loop-name.number) (take_all c.loop-name.name-index names (omega (arith, c.loop-name-test.false))) c.loop-name.invariant))

pub returns-clause-left : goal.returns-clause-left
returns-clause-left c =
    let slots = c.args.slots.now.items in
    let names = c.args.names.now in
    ap (left_in true (length slots) slots names) c.in_ok-push-2.ensures.items
    ∙ closed_left slots (length slots) 0 names c.loop-name.opened.items c.loop-name.number
    (subst (λ (p : Path). IsClosed slots 0 p c.loop-name.opened.items c.loop-name.number) (take_all c.loop-name.name-index names (omega (arith, c.loop-name-test.false))) c.loop-name.invariant)
