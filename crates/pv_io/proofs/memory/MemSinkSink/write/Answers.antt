-- A write fails where the plan lists it, and where the room is full.
use Rattle.std.proofs.Common.{rules, ◌≡◌, ◌≤◌, false, true, length, inl, inr, refl, subst, sym, ◌∙◌, arith}
use Rattle.std.specs.List.{Contains}
use Rattle.pv_io.specs.Memory.{Writing}
use Rattle.pv_io.proofs.memory.MemSinkSink.write.Goals as goal

pub returns-then-begin_call-clause-planned : goal.returns-then-begin_call-clause-planned
returns-then-begin_call-clause-planned c =
    let count : c.len.result ≡ length c.self.inside.content.items = search rules in (
      λ _. elim c.then-begin_call.either [
        | inl listed ↦ inl (subst (λ (w : Writing). Contains w.plan.fails w.plan.calls) c.self.view_is (c.begin_call.ensures.listed.0 listed))
        | inr full ↦ inr (subst (λ (w : Writing). w.room ≤ length w.written) c.self.view_is (let none = full.1 in omega (arith, none, count)))
      ],
      λ _. refl,
    )

pub returns-clause-planned : goal.returns-clause-planned
returns-clause-planned c =
    let count : c.len.result ≡ length c.self.inside.content.items = search rules in (
      λ e. absurd (let differ : false ≡ true = e in cc),
      λ h. elim h [
        | inl listed ↦ sym c.if-begin_call.false ∙ c.begin_call.ensures.listed.1 (subst (λ (w : Writing). Contains w.plan.fails w.plan.calls) (sym c.self.view_is) listed)
        | inr full ↦ absurd (let inside = subst (λ (w : Writing). w.room ≤ length w.written) (sym c.self.view_is) full in c.if-free-eq0.false (omega (arith, inside, count)))
      ],
    )
