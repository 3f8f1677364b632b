-- Laws of what adjusting leaves of an object, timestamps included: the sets one after the other leave what they give at once.
use Rattle.std.specs.Prelude.{◌≡◌, ℕ, ◌∷◌, ◌++◌, List, [], Option, Some}
use Rattle.std.proofs.Common.{refl, sym, ap, ◌∙◌}
use Rattle.std.proofs.lemmas.Grind.{fold-append}
use Rattle.std.proofs.lemmas.Option.{same_Some}
use Rattle.pv_steps.specs.declared.object.Object.{Object}
use Rattle.pv_walk.specs.declared.object_state.ObjectState.{ObjectState}
use Rattle.pv_walk.specs.declared.operation.Change.{Change}
use Rattle.pv_walk.specs.declared.operation.Guard.{Guard}
use Rattle.pv_walk.specs.declared.operation.Operation.{Operation}
use Rattle.pv_walk.specs.declared.operation.Operation.TheVariants.{Apply}
use Rattle.pv_walk.specs.Nodes.{object_state_of}
use Rattle.pv_walk.specs.Operations.{run}
use Rattle.pv_walk.proofs.OperationLaws.{run-append}
use Rattle.pv_table.specs.Effects.{restamped, adjusted, become}
use Rattle.pv_create.specs.Sets.{AreSets, AtMostOne, SetsBytes, SetsOwners, SetsMode}
use Rattle.pv_create.proofs.Making.{with_payload, BytesMade, OwnersMade, ModeMade, bytes_made, owners_made, mode_made}
use Rattle.pv_table.proofs.Restamping.{restamped-same, object_state_restamped, restamped_then}

-- ---- the sets

module _ (now : ℕ) where
  one_becomes : (is : Guard → Change → Type 0) (xs : List Operation) → AtMostOne is xs → (o : Object) (new : ObjectState) → run xs (Some (object_state_of o)) ≡ Some new → become now xs o ≡ restamped now new o
  one_becomes is [] h o new e = sym (restamped-same now new o (same_Some new (object_state_of o) (sym e)))
  one_becomes is (Apply guard change ∷ []) h o new e = ap (λ (x : ObjectState). restamped now x o) (same_Some _ _ e)
  one_becomes is (x ∷ []) h o new e = absurd h
  one_becomes is (x ∷ y ∷ xs) h o new e = absurd h

  module _ (bytes owners mode : List Operation) (first : AtMostOne SetsBytes bytes) (second : AtMostOne SetsOwners owners) (third : AtMostOne SetsMode mode) (o : Object) where
    abbrev made : BytesMade bytes (object_state_of o)
    made = bytes_made bytes first (object_state_of o)

    abbrev with_bytes : ObjectState
    with_bytes = with_payload made.payload (object_state_of o)

    abbrev owned : OwnersMade owners with_bytes
    owned = owners_made owners second with_bytes

    abbrev with_owners : ObjectState
    with_owners = record with_bytes { metadata = record with_bytes.metadata { uid = owned.uid; gid = owned.gid } }

    abbrev moded : ModeMade mode with_owners
    moded = mode_made mode third with_owners

    abbrev with_mode : ObjectState
    with_mode = record with_owners { metadata = record with_owners.metadata { special = moded.special; acl = record with_owners.metadata.acl { access = moded.access } } }

    firm_bytes : with_owners ≡ object_state_of o → with_bytes ≡ object_state_of o
    firm_bytes e = ap (λ (x : ObjectState). with_payload x.body.payload (object_state_of o)) e

    firm_owners : with_mode ≡ object_state_of o → with_owners ≡ object_state_of o
    firm_owners e = ap (λ (x : ObjectState). record with_owners { body = record with_owners.body { payload = x.body.payload }; metadata = record with_owners.metadata { uid = x.metadata.uid; gid = x.metadata.gid } }) e

    several_become : become now (bytes ++ (owners ++ mode)) o ≡ restamped now with_mode o
    several_become =
        fold-append (adjusted now) o bytes (owners ++ mode) ∙ ap (λ (x : Object). become now (owners ++ mode) x) (one_becomes SetsBytes bytes first o with_bytes made.is)
        ∙ fold-append (adjusted now) (restamped now with_bytes o) owners mode
        ∙ ap (λ (x : Object). become now mode x)
        (one_becomes SetsOwners owners second (restamped now with_bytes o) with_owners (ap (λ (x : ObjectState). run owners (Some x)) (object_state_restamped now with_bytes o) ∙ owned.is)
        ∙ restamped_then now with_bytes with_owners o firm_bytes refl)
        ∙ one_becomes SetsMode mode third (restamped now with_owners o) with_mode (ap (λ (x : ObjectState). run mode (Some x)) (object_state_restamped now with_owners o) ∙ moded.is)
        ∙ restamped_then now with_owners with_mode o firm_owners refl

    run_several : run (bytes ++ (owners ++ mode)) (Some (object_state_of o)) ≡ Some with_mode
    run_several =
        run-append bytes (owners ++ mode) (Some (object_state_of o)) ∙ ap (λ (b : Option ObjectState). run (owners ++ mode) b) made.is
        ∙ run-append owners mode (Some with_bytes) ∙ ap (λ (b : Option ObjectState). run mode b) owned.is ∙ moded.is

  -- the sets one after the other leave what they give at once
  pub becomes : (sets : List Operation) → AreSets sets → (o : Object) (new : ObjectState) → run sets (Some (object_state_of o)) ≡ Some new → become now sets o ≡ restamped now new o
  becomes sets (AreSets.several bytes owners mode e one two three) o new is =
      ap (λ (xs : List Operation). become now xs o) e ∙ several_become bytes owners mode one two three o
      ∙ ap (λ (x : ObjectState). restamped now x o)
      (same_Some _ _ (sym (run_several bytes owners mode one two three o) ∙ ap (λ (xs : List Operation). run xs (Some (object_state_of o))) (sym e) ∙ is))
  becomes sets (AreSets.alone h) o new is = one_becomes _ sets h o new is
