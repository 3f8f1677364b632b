use Rattle.std.proofs.Common.{◌≡◌, ◌<◌, Some, List, ℕ, slice_get, length, ◌-◌, ap, ◌∙◌, arith}
use Rattle.pv_path.specs.Paths.{Path}
use Rattle.pv_steps.specs.declared.object.Object.{Object}
use Rattle.pv_tree.proofs.WalkLaws.{last_within, stands_at}
use Rattle.pv_tree.proofs.walk.Walk.place.Goals as goal

pub index-slot-requires : goal.index-slot-requires
index-slot-requires c =
    let at : Some c.in-Some.last.now ≡ slice_get c.self.inside.opened.items (length c.self.inside.opened.items - 1) =
    c.in-Some.ensures.value ∙ ap (λ (v : List (ℕ × ℕ)). slice_get v (length v - 1)) c.deref.ensures.value in
    let small : c.in-Some.last.now.0 < length c.self.inside.slots.now.items = last_within c.self.inside.slots.now.items c.self.inside.names.items c.self.inside.opened.items c.self.invariant c.in-Some.last.now at in
    omega (arith, small, c.self.inside.slots.now.ok.0)

pub returns-in-Some : goal.returns-in-Some
returns-in-Some c =
    let at : Some c.in-Some.last.now ≡ slice_get c.self.inside.opened.items (length c.self.inside.opened.items - 1) =
    c.in-Some.ensures.value ∙ ap (λ (v : List (ℕ × ℕ)). slice_get v (length v - 1)) c.deref.ensures.value in
    ap (λ (n : Path). Some (n, record { node = c.index-slot.result.now.node; payload = c.payload.result.now })) c.as_slice.ensures.value
    ∙ ap (λ (b : List ℕ). Some (c.self.inside.names.items, record { node = c.index-slot.result.now.node; payload = b })) c.payload.ensures
    ∙ stands_at c.self.inside.slots.now.items c.self.inside.names.items c.self.inside.opened.items c.self.invariant c.in-Some.last.now c.index-slot.result.now at c.index-slot.ensures
    ∙ ap (λ (v : List (Path × Object)). slice_get v 0) c.self.view_is
