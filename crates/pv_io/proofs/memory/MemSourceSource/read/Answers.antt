-- What was left is what was given, and then what is left.
use Rattle.std.proofs.Common.{◌≡◌, ◌+◌, ◌-◌, ◌++◌, ◌∙◌, false, true, ℕ, List, length, take, drop, refl, sym, subst, ap}
use Rattle.std.specs.List.{Contains}
use Rattle.std.proofs.lemmas.List.{take_rest, take-append-drop, drop-drop}
use Rattle.pv_io.specs.Memory.{Reading}
use Rattle.pv_io.proofs.memory.MemSourceSource.read.Goals as goal

front_then_rest : (n i : ℕ) (xs : List ℕ) → take n (take (length xs - i) (drop i xs)) ++ drop (i + n) xs ≡ drop i xs
front_then_rest n i xs = rw (take_rest xs i) (rw (← drop-drop n i xs) (take-append-drop n (drop i xs)))

pub returns-clause-takes : goal.returns-clause-takes
returns-clause-takes c =
    let count = c.put_front-count.result in
    let items = c.self.inside.content.items in
    let seen = ap (λ r. r.left) c.self.view_is in
    let same = c.deref.ensures.value in
    let front = c.put_front-count.ensures.front in
    let whole = front_then_rest count c.self.inside.given items in
    rw (front, same, whole) (cc)

pub returns-then-begin_call-clause-planned : goal.returns-then-begin_call-clause-planned
returns-then-begin_call-clause-planned c =
    (λ _. subst (λ (r : Reading). Contains r.plan.fails r.plan.calls) c.self.view_is (c.begin_call.ensures.listed.0 c.if-begin_call.true), λ _. refl)

pub returns-clause-planned : goal.returns-clause-planned
returns-clause-planned c = (
  λ e. absurd (let differ : false ≡ true = e in cc),
  λ listed. sym c.if-begin_call.false ∙ c.begin_call.ensures.listed.1 (subst (λ (r : Reading). Contains r.plan.fails r.plan.calls) (sym c.self.view_is) listed),
)
