-- Laws of writing the bytes of a file: nothing is asked where it holds them, otherwise one step gives them.
use Rattle.std.specs.Prelude.{◌≡◌, ◌≢◌, ℕ, Bool, true, false, List, Option, Some, None, option_map, Result, Ok, Err, OnOk, if◌then◌else◌}
use Rattle.std.proofs.Common.{refl, sym, ap, subst, ◌∙◌, inl, inr}
use Rattle.std.proofs.lemmas.Option.{same_Some}
use Rattle.pv_path.specs.Names.{same_bytes}
use Rattle.pv_path.specs.Paths.{Path}
use Rattle.pv_path.proofs.PathLaws.{same_bytes-decides}
use Rattle.pv_steps.specs.declared.node.Kind.TheVariants.{File}
use Rattle.pv_steps.specs.declared.object.Object.{Object}
use Rattle.pv_steps.specs.declared.step.Step.TheVariants.{Write}
use Rattle.pv_steps.specs.declared.tree.TreeFault.{TreeFault}
use Rattle.pv_steps.specs.Objects.{object_state, with_content}
use Rattle.pv_steps.specs.Same.{object_states, Differ}
use Rattle.pv_steps.specs.Steps.{on_at, after}
use Rattle.pv_steps.specs.Trees.{Files, Places, places, kind_of, payload_at, IsKind}
use Rattle.pv_steps.proofs.ActingLaws.{Asks}
use Rattle.pv_steps.proofs.StepLaws.{at_after}
use Rattle.pv_walk.specs.SettingMetadata.{IsKeptBy, Lacks}
use Rattle.pv_walk.specs.Changing.{Changing}
use Rattle.pv_walk.proofs.EditLaws.{path_cases, object_states-on_at, on_at-else, on_at-here}
use Rattle.pv_create.specs.Adjusting.{GivesBytes, holding, written}

-- ---- nothing to write

-- a change that keeps the object at the path changes nothing
pub unchanged : (path : Path) (f : Object → Object) (t : Places) → ((o : Object) → t path ≡ Some o → f o ≡ o) → t ≡ on_at path f t
unchanged path f t keeps = λ j q. by q j
  where
    here : (v : Option Object) → t path ≡ v → v ≡ option_map f v
    here None e = refl
    here (Some o) e = ap Some (sym (keeps o e))

    by : (q : Path) → t q ≡ on_at path f t q
    by q = elim (path_cases path q) [
      | inl e ↦ subst (λ q. t q ≡ on_at path f t q) e (here (t path) refl ∙ sym (on_at-here path f t))
      | inr e ↦ sym (on_at-else path q f t e)
    ]

-- ---- the bytes of a file

module _ (path : Path) (t : Files) (file : IsKind File t path) (own bytes : List ℕ) (seen : Some own ≡ payload_at t path) (now : ℕ) where
  stands : (o : Object) × (places t path ≡ Some o)
  stands = by (places t path) refl file
    where
      by : (v : Option Object) → places t path ≡ v → kind_of v ≡ Some File → (o : Object) × (places t path ≡ Some o)
      by None e h = let wrong : None ≡ Some File = h in cc
      by (Some o) e h = (o, e)

  abbrev o : Object
  o = stands.0

  there : places t path ≡ Some o
  there = stands.1

  own_is : own ≡ o.payload
  own_is = same_Some own o.payload (seen ∙ ap (option_map (λ (x : Object). x.payload)) there)

  at_path : (x : Object) → places t path ≡ Some x → o ≡ x
  at_path x e = same_Some o x (sym there ∙ e)

  -- the file holds them
  pub held_already : same_bytes own bytes ≡ true → places t ≡ on_at path (written now (Some bytes)) (places t)
  held_already same = unchanged path (written now (Some bytes)) (places t) keeps
    where
      keeps : (x : Object) → places t path ≡ Some x → written now (Some bytes) x ≡ x
      keeps x e =
          let is : bytes ≡ x.payload = sym ((same_bytes-decides own bytes).0 same) ∙ own_is ∙ ap (λ (y : Object). y.payload) (at_path x e) in
          ap (λ s. if s then x else with_content bytes now x) ((same_bytes-decides bytes x.payload).1 is)

  -- it holds others
  module _ (differs : same_bytes own bytes ≡ false) where
    others : o.payload ≢ bytes
    others e = let wrong : true ≡ false = sym ((same_bytes-decides own bytes).1 (own_is ∙ e)) ∙ differs in cc

    pub lacks_bytes : Lacks (λ x. x.payload) bytes path t
    lacks_bytes x e h = others (ap (λ (y : Object). y.payload) (at_path x e) ∙ h)

    pub not_kept : IsKeptBy (holding (Some bytes)) path t → ⊥
    not_kept kept = others (sym (ap (λ (y : Object). y.payload) (kept o there)))

    busy : Differ t (after t (Write path bytes) now)
    busy = (path, λ e. others (ap (λ (y : Object). y.payload) (same_Some (object_state o) (object_state (with_content bytes now o)) (sym (ap (option_map object_state) there) ∙ e ∙ after_is))))
      where
        after_is : object_states (places (after t (Write path bytes) now)) path ≡ Some (object_state (with_content bytes now o))
        after_is = ap (λ p. object_states p path) (at_after t (Write path bytes) now) ∙ ap (option_map object_state) (on_at-here path (with_content bytes now) (places t) ∙ ap (option_map (with_content bytes now)) there)

    pub asks_bytes : Asks (Changing path (holding (Some bytes)) t) (GivesBytes path bytes t) t (Write path bytes) now
    asks_bytes = record {
      start = inl (λ q. refl);
      can = file;
      busy = busy;
      there = λ u is. inr (λ q. ap (λ p. object_states p q) (ap places is ∙ at_after t (Write path bytes) now) ∙ object_states-on_at path (with_content bytes now) (holding (Some bytes)) (λ x. refl) (places t) q);
      gives = (refl, lacks_bytes);
    }

    writes_all : with_content bytes now o ≡ written now (Some bytes) o
    writes_all = sym (ap (λ s. if s then o else with_content bytes now o) (no_same (same_bytes bytes o.payload) refl))
      where
        no_same : (s : Bool) → same_bytes bytes o.payload ≡ s → same_bytes bytes o.payload ≡ false
        no_same true e = absurd (others (sym ((same_bytes-decides bytes o.payload).0 e)))
        no_same false e = e

    pub wrote_ok : (r : Result (Unit {0}) TreeFault) (u : Files) → OnOk r (u ≡ after t (Write path bytes) now) → OnOk r (places u ≡ on_at path (written now (Some bytes)) (places t))
    wrote_ok (Ok x) u is = ap places is ∙ at_after t (Write path bytes) now ∙ (λ j q. by q j)
      where
        by : (q : Path) → on_at path (with_content bytes now) (places t) q ≡ on_at path (written now (Some bytes)) (places t) q
        by q = elim (path_cases path q) [
          | inl e ↦ subst (λ q. on_at path (with_content bytes now) (places t) q ≡ on_at path (written now (Some bytes)) (places t) q) e
              (on_at-here path (with_content bytes now) (places t) ∙ ap (option_map (with_content bytes now)) there ∙ ap Some writes_all
              ∙ sym (on_at-here path (written now (Some bytes)) (places t) ∙ ap (option_map (written now (Some bytes))) there))
          | inr e ↦ on_at-else path q (with_content bytes now) (places t) e ∙ sym (on_at-else path q (written now (Some bytes)) (places t) e)
        ]
    wrote_ok (Err e) u is = tt
