-- What adjusting makes of an object.
use Rattle.std.specs.Prelude.{◌≡◌, ℕ, true, cond, List, [], ◌∷◌, Some}
use Rattle.std.proofs.Common.{refl, ap, ◌∙◌}
use Rattle.std.specs.List.{list_all}
use Rattle.pv_steps.specs.declared.object.Object.{Object}
use Rattle.pv_walk.specs.declared.object_state.ObjectState.{ObjectState}
use Rattle.pv_walk.specs.declared.operation.Operation.{Operation}
use Rattle.pv_walk.specs.declared.operation.Operation.TheVariants.{Make, Renew, Erase, Apply}
use Rattle.pv_walk.specs.Nodes.{object_state_of}
use Rattle.pv_walk.specs.Operations as operations
use Rattle.pv_walk.specs.Operations.{admits, run}
use Rattle.pv_table.specs.Effects.{restamped, become}
use Rattle.pv_table.proofs.Restamping.{object_state_restamped}
use Rattle.pv_laws.proofs.Sets.{impossible, is_adjustment}

-- adjusting an object on a tree does what it does without timestamps
pub become-object_state : (now : ℕ) (xs : List Operation) → list_all is_adjustment xs ≡ true → (o : Object) → Some (object_state_of (become now xs o)) ≡ run xs (Some (object_state_of o))
become-object_state now [] h o = refl
become-object_state now (Make b ∷ xs) h o = impossible h
become-object_state now (Renew test b ∷ xs) h o = impossible h
become-object_state now (Erase ∷ xs) h o = impossible h
become-object_state now (Apply guard change ∷ xs) h o =
    let next : ObjectState = cond (admits guard o.node.kind) (operations.changed o.node.kind change (object_state_of o)) (object_state_of o) in
    become-object_state now xs h (restamped now next o) ∙ ap (λ (b : ObjectState). run xs (Some b)) (object_state_restamped now next o)
