-- What preparing a path leaves at each path, timestamps and staging names aside: a parent above the path where nothing stood,
-- and elsewhere what stood there.
use Rattle.std.specs.Prelude.{◌≡◌, ◌≢◌, ℕ, Bool, true, false, cond, ◌&&◌, ◌||◌, List, [], ◌∷◌, fold, Option, Some, None, is_some, option_map}
use Rattle.std.proofs.Common.{refl, sym, ap, ◌∙◌, arith}
use Rattle.std.proofs.lemmas.Bool.{or_parts}
use Rattle.pv_path.specs.Paths.{Path, same_path, is_prefix, parent_of, has_staging, same_path-decides}
use Rattle.pv_steps.specs.declared.object.Object.{Object}
use Rattle.pv_steps.specs.Trees.{Places}
use Rattle.pv_steps.specs.Steps.{touched, made, put_at}
use Rattle.pv_walk.specs.declared.object_state.ObjectState.{ObjectState}
use Rattle.pv_walk.specs.declared.operation.Operation.TheVariants.{Make}
use Rattle.pv_walk.specs.Edits.{cut, taken, all_taken}
use Rattle.pv_walk.specs.Nodes.{object_state_of, object_states_of}
use Rattle.pv_walk.specs.Operations.{done}
use Rattle.pv_walk.specs.Preparing.{parents_of, parent_file, with_parent, prepared}
use Rattle.pv_walk.specs.Staging.{staging_names, is_under_any, new_object}
use Rattle.pv_walk.proofs.PreparedLaws.{object_states_of-touched, stands_in, has_some, in_prefixes, in_parents, parent_no_prefix, under_no_stage}
use Rattle.pv_table.specs.Pointwise.{parent_object_state}

-- ---- what is taken away

module _ (now : ℕ) where
  taken-outside : (p : Path) (t : Places) (q : Path) → is_prefix p q ≡ false → object_states_of (taken now p t) q ≡ object_states_of t q
  taken-outside p t q h = elim (is_some (t p)) as (λ b. option_map object_state_of (cond b (touched now p (cut p t)) t q) ≡ object_states_of t q) [
    | true ↦ object_states_of-touched now p (cut p t) q ∙ ap (λ b. option_map object_state_of (cond b None (t q))) h
    | false ↦ refl
  ]

  -- what lies outside of what is taken is kept, timestamps aside
  all_taken-outside : (ps : List Path) (t : Places) (q : Path) → is_under_any ps q ≡ false → object_states_of (all_taken now ps t) q ≡ object_states_of t q
  all_taken-outside [] t q h = refl
  all_taken-outside (p ∷ ps) t q h =
      let two = or_parts (is_prefix p q) (is_under_any ps q) h in
      all_taken-outside ps (taken now p t) q two.1 ∙ taken-outside p t q two.0

-- what an earlier run has staged along a path taken away
abbrev pub swept : ℕ → Path → Places → Places
swept now path t = all_taken now (staging_names path) t

-- ---- the parents

-- a parent, if there is to be one and nothing stands
abbrev pub filled : Bool → Option ObjectState → Option ObjectState
filled is_parent b = cond is_parent (done (Make parent_object_state) b) b

module _ (now : ℕ) where
  with_parent-at : (t : Places) (p q : Path) → object_states_of (with_parent now t p) q ≡ filled (same_path p q) (object_states_of t q)
  with_parent-at t p q = by (t p) refl
    where
      absent : t p ≡ None → (b : Bool) → same_path p q ≡ b → option_map object_state_of (cond b (Some (new_object parent_file now)) (t q)) ≡ filled b (object_states_of t q)
      absent e true s = sym (ap (λ o. done (Make parent_object_state) (option_map object_state_of o)) (sym (ap t ((same_path-decides p q).0 s)) ∙ e))
      absent e false s = refl

      present : (x : Object) → t p ≡ Some x → (b : Bool) → same_path p q ≡ b → object_states_of t q ≡ filled b (object_states_of t q)
      present x e true s = let here : t q ≡ Some x = sym (ap t ((same_path-decides p q).0 s)) ∙ e in ap (option_map object_state_of) here ∙ sym (ap (λ o. done (Make parent_object_state) (option_map object_state_of o)) here)
      present x e false s = refl

      by : (o : Option Object) → t p ≡ o → object_states_of (with_parent now t p) q ≡ filled (same_path p q) (object_states_of t q)
      by None e =
          ap (λ o. option_map object_state_of (cond (is_some o) t (made now p (new_object parent_file now) t) q)) e
          ∙ object_states_of-touched now p (put_at p (Some (new_object parent_file now)) t) q
          ∙ absent e (same_path p q) refl
      by (Some x) e =
          ap (λ o. option_map object_state_of (cond (is_some o) t (made now p (new_object parent_file now) t) q)) e
          ∙ present x e (same_path p q) refl

  twice : (a b : Bool) (o : Option ObjectState) → filled b (filled a o) ≡ filled (a || b) o
  twice a b o = grind arith

  -- some places made where they are absent
  all_made-at : (ps : List Path) (t : Places) (q : Path) → object_states_of (fold (with_parent now) t ps) q ≡ filled (stands_in q ps) (object_states_of t q)
  all_made-at [] t q = refl
  all_made-at (p ∷ ps) t q =
      all_made-at ps (with_parent now t p) q
      ∙ ap (filled (stands_in q ps)) (with_parent-at t p q)
      ∙ twice (same_path p q) (stands_in q ps) (object_states_of t q)

-- ---- a prepared path

module _ (now : ℕ) (path : Path) (t : Places) where
  -- at any path: a parent, or what was not taken away
  pub prepared-at : (q : Path) → object_states_of (prepared now path t) q ≡ filled (stands_in q (parents_of path)) (object_states_of (swept now path t) q)
  prepared-at q = all_made-at now (parents_of path) (swept now path t) q

  not_taken : (q : Path) → has_staging q ≡ false → object_states_of (swept now path t) q ≡ object_states_of t q
  not_taken q plain = all_taken-outside now (staging_names path) t q (under_no_stage path q plain)

  -- at the path itself
  pub prepared-here : has_staging path ≡ false → object_states_of (prepared now path t) path ≡ object_states_of t path
  prepared-here plain =
      prepared-at path
      ∙ ap (λ b. filled b (object_states_of (swept now path t) path)) (in_prefixes path (parent_of path) ∙ parent_no_prefix path)
      ∙ not_taken path plain

  -- and at any other path
  pub prepared-else : is_some (object_states_of t []) ≡ true → (q : Path) → has_staging q ≡ false → q ≢ path → object_states_of (prepared now path t) q ≡ filled (is_prefix q path) (object_states_of t q)
  prepared-else root q plain other =
      prepared-at q
      ∙ ap (λ b. filled b (object_states_of (swept now path t) q)) (in_parents q path other)
      ∙ ap (filled (is_prefix q path && has_some q)) (not_taken q plain)
      ∙ by q (is_prefix q path)
    where
      there : (b : Option ObjectState) → is_some b ≡ true → b ≡ done (Make parent_object_state) b
      there b h = grind arith

      by : (r : Path) (b : Bool) → filled (b && has_some r) (object_states_of t r) ≡ filled b (object_states_of t r)
      by [] true = there (object_states_of t []) root
      by [] false = refl
      by (n ∷ r) true = refl
      by (n ∷ r) false = refl

-- ---- presence

pub object_state_some : (o : Option Object) → is_some (option_map object_state_of o) ≡ is_some o
object_state_some o = grind arith

-- what follows from each value that may be there follows where one is
pub with_some : {A P : Type 0} (o : Option A) → is_some o ≡ true → ((x : A) → o ≡ Some x → P) → P
with_some None h f = absurd (let no : false ≡ true = h in cc)
with_some (Some x) h f = f x refl

-- ---- paths

pub some_named : (p : Path) → p ≢ [] → has_some p ≡ true
some_named [] h = absurd (h refl)
some_named (name ∷ p) h = refl
