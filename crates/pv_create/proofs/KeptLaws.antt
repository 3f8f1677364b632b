-- What is set of an object that has it already.
use Rattle.std.proofs.Common.{◌≡◌, ℕ, List, ◌∷◌, [], take, length, get_or, ◌<◌, ◌≤◌, ◌+◌, ◌++◌, Some, refl, sym, ap, ◌∙◌}
use Rattle.std.proofs.lemmas.List.{take_all, take_more}
use Rattle.pv_walk.specs.declared.operation.Operation.{Operation}
use Rattle.pv_walk.specs.Nodes.{object_state_of}
use Rattle.pv_walk.specs.Operations.{done, run}
use Rattle.pv_walk.proofs.EditLaws.{on_at-put, put_at-same}
use Rattle.pv_walk.proofs.OperationLaws.{run-append}
use Rattle.pv_path.specs.Paths.{Path}
use Rattle.pv_steps.specs.declared.object.Object.{Object}
use Rattle.pv_steps.specs.Steps.{on_at, put_at}
use Rattle.pv_steps.specs.Trees.{Files, Places, places, IsPresent}
use Rattle.pv_table.specs.Effects.{become}
use Rattle.pv_table.proofs.Restamping.{restamped-same}
use Rattle.pv_create.specs.Sets.{AreSets}
use Rattle.pv_create.proofs.AdjustLaws.{standing}
use Rattle.pv_create.proofs.Becoming.{becomes}

-- operations leave the object at a path as it is, timestamps aside
abbrev pub AreKept : List Operation → Places → Path → Type 0
AreKept sets t path = (o : Object) → t path ≡ Some o → run sets (Some (object_state_of o)) ≡ Some (object_state_of o)

-- one more that does
pub kept_more : (sets : List Operation) (i : ℕ) (operation : Operation) (t : Places) (path : Path) → i < length sets → operation ≡ get_or sets i operation → AreKept (take i sets) t path
    → ((o : Object) → t path ≡ Some o → done operation (Some (object_state_of o)) ≡ Some (object_state_of o)) → AreKept (take (i + 1) sets) t path
kept_more sets i operation t path lt is before last o there =
    ap (λ xs. run xs (Some (object_state_of o))) (take_more sets i operation lt ∙ ap (λ x. take i sets ++ x ∷ []) (sym is))
    ∙ run-append (take i sets) (operation ∷ []) (Some (object_state_of o)) ∙ ap (done operation) (before o there) ∙ last o there

pub kept_all : (sets : List Operation) (i : ℕ) (t : Places) (path : Path) → length sets ≤ i → AreKept (take i sets) t path → AreKept sets t path
kept_all sets i t path past kept o there = ap (λ xs. run xs (Some (object_state_of o))) (sym (take_all i sets past)) ∙ kept o there

-- then nothing changes
pub stays_so : (path : Path) (sets : List Operation) → AreSets sets → (now : ℕ) (t : Files) → IsPresent t path → AreKept sets (places t) path → places t ≡ on_at path (become now sets) (places t)
stays_so path sets are now t present kept = λ j q. sym (each q) j
  where
    o : Object
    o = (standing t path present).0

    there : places t path ≡ Some o
    there = (standing t path present).1

    same : become now sets o ≡ o
    same = becomes now sets are o (object_state_of o) (kept o there) ∙ restamped-same now (object_state_of o) o refl

    each : (q : Path) → on_at path (become now sets) (places t) q ≡ places t q
    each q = on_at-put path (become now sets) o (places t) there q ∙ ap (λ x. put_at path (Some x) (places t) q) same ∙ put_at-same path (Some o) (places t) there q
