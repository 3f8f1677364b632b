-- Objects that are found the same except for timestamps are the same without them; and the timestamps of an object that is made another.
use Rattle.std.specs.Prelude.{◌≡◌, ℕ, Bool, true, false, ◌&&◌, List, if◌then◌else◌}
use Rattle.std.specs.Bool.{Decides}
use Rattle.std.specs.Cmp.Lexicographic.{pointwise_decides}
use Rattle.std.proofs.Common.{refl, sym, ap, ◌∙◌, inl, inr, ◌⊎◌}
use Rattle.std.proofs.lemmas.Bool.{eqb-true, eq-eqb, and_parts}
use Rattle.pv_acl.proofs.Equality.{acl_decides}
use Rattle.pv_path.specs.Names.{same_bytes}
use Rattle.pv_path.proofs.PathLaws.{same_bytes-decides}
use Rattle.pv_steps.specs.declared.attr.Attr.{Attr}
use Rattle.pv_steps.proofs.AttrPutting as attrs
use Rattle.pv_steps.specs.declared.node.Kind.{Kind}
use Rattle.pv_steps.specs.declared.node.Kind.TheVariants.{Directory, File, Link, Fifo, CharDevice, BlockDevice}
use Rattle.pv_steps.specs.declared.object.Object.{Object}
use Rattle.pv_steps.specs.Objects.{changed, modified}
use Rattle.pv_walk.specs.declared.object_state.ObjectState.{ObjectState}
use Rattle.pv_walk.specs.Nodes.{object_state_of, same_kind}
use Rattle.pv_table.specs.Effects.{same_attr, same_object_state, as_object_state, restamped}
use Rattle.pv_walk.proofs.Repeating.{same_kind-refl}

-- ---- the same except for timestamps

pub same_kind-true : (a b : Kind) → same_kind a b ≡ true → a ≡ b
same_kind-true Directory Directory h = refl
same_kind-true File File h = refl
same_kind-true Link Link h = refl
same_kind-true Fifo Fifo h = refl
same_kind-true CharDevice CharDevice h = refl
same_kind-true BlockDevice BlockDevice h = refl
same_kind-true a b h = let wrong : false ≡ true = h in cc

same_attr-decides : (a b : Attr) → Decides (same_attr a b) (a ≡ b)
same_attr-decides a b = attrs.same_attr a b

pub same_object_state-true : (a b : ObjectState) → same_object_state a b ≡ true → a ≡ b
same_object_state-true a b h =
    let l1 = and_parts _ _ h in
    let l2 = and_parts _ _ l1.0 in
    let l3 = and_parts _ _ l2.0 in
    let l4 = and_parts _ _ l3.0 in
    let l5 = and_parts _ _ l4.0 in
    let l6 = and_parts _ _ l5.0 in
    let l7 = and_parts _ _ l6.0 in
    let l8 = and_parts _ _ l7.0 in
    let l9 = and_parts (same_kind a.body.kind b.body.kind) (same_bytes a.body.payload b.body.payload) l8.0 in
    let kind = same_kind-true a.body.kind b.body.kind l9.0 in
    let payload = (same_bytes-decides a.body.payload b.body.payload).0 l9.1 in
    let major = eqb-true a.body.major b.body.major l8.1 in
    let minor = eqb-true a.body.minor b.body.minor l7.1 in
    let uid = eqb-true a.metadata.uid b.metadata.uid l6.1 in
    let gid = eqb-true a.metadata.gid b.metadata.gid l5.1 in
    let special = eqb-true a.metadata.special b.metadata.special l4.1 in
    let acl = (acl_decides a.metadata.acl b.metadata.acl).0 l3.1 in
    let attrs = (pointwise_decides same_attr-decides a.metadata.attrs b.metadata.attrs).0 l2.1 in
    let letters = eqb-true a.metadata.letters b.metadata.letters l1.1 in
    λ i. record {
      body = record { kind = kind i; payload = payload i; major = major i; minor = minor i };
      metadata = record { uid = uid i; gid = gid i; special = special i; acl = acl i; attrs = attrs i; letters = letters i };
    }

pub same_object_state-refl : (a : ObjectState) → same_object_state a a ≡ true
same_object_state-refl a =
    let kind = same_kind-refl a.body.kind in
    let payload = (same_bytes-decides a.body.payload a.body.payload).1 refl in
    let major = eq-eqb a.body.major a.body.major refl in
    let minor = eq-eqb a.body.minor a.body.minor refl in
    let uid = eq-eqb a.metadata.uid a.metadata.uid refl in
    let gid = eq-eqb a.metadata.gid a.metadata.gid refl in
    let special = eq-eqb a.metadata.special a.metadata.special refl in
    let acl = (acl_decides a.metadata.acl a.metadata.acl).1 refl in
    let attrs = (pointwise_decides same_attr-decides a.metadata.attrs a.metadata.attrs).1 refl in
    let letters = eq-eqb a.metadata.letters a.metadata.letters refl in
    λ i. kind i && payload i && major i && minor i && uid i && gid i && special i && acl i && attrs i && letters i

pub object_state_cases : (a b : ObjectState) → (a ≡ b) ⊎ (same_object_state a b ≡ false)
object_state_cases a b = by (same_object_state a b) refl
  where
    by : (s : Bool) → same_object_state a b ≡ s → (a ≡ b) ⊎ (same_object_state a b ≡ false)
    by true e = inl (same_object_state-true a b e)
    by false e = inr e

pub bytes_cases : (a b : List ℕ) → (a ≡ b) ⊎ (same_bytes a b ≡ false)
bytes_cases a b = by (same_bytes a b) refl
  where
    by : (s : Bool) → same_bytes a b ≡ s → (a ≡ b) ⊎ (same_bytes a b ≡ false)
    by true e = inl ((same_bytes-decides a b).0 e)
    by false e = inr e

-- ---- timestamps

module _ (now : ℕ) where
  -- by whether the object and its bytes are the same
  abbrev stamped_by : Bool → Bool → ObjectState → Object → Object
  stamped_by s t b o = if s then o else if t then changed now (as_object_state b o) else modified now (as_object_state b o)

  pub restamped-same : (b : ObjectState) (o : Object) → b ≡ object_state_of o → restamped now b o ≡ o
  restamped-same b o e = ap (λ s. stamped_by s (same_bytes b.body.payload o.payload) b o) (ap (λ (x : ObjectState). same_object_state x (object_state_of o)) e ∙ same_object_state-refl (object_state_of o))

  restamped-differs : (b : ObjectState) (o : Object) → same_object_state b (object_state_of o) ≡ false → (t : Bool) → same_bytes b.body.payload o.payload ≡ t → restamped now b o ≡ stamped_by false t b o
  restamped-differs b o e t f = λ i. stamped_by (e i) (f i) b o

  -- its bytes are the same
  pub restamped-changed : (b : ObjectState) (o : Object) → same_object_state b (object_state_of o) ≡ false → b.body.payload ≡ o.payload → restamped now b o ≡ changed now (as_object_state b o)
  restamped-changed b o e f = restamped-differs b o e true ((same_bytes-decides b.body.payload o.payload).1 f)

  pub restamped-modified : (b : ObjectState) (o : Object) → same_bytes b.body.payload o.payload ≡ false → restamped now b o ≡ modified now (as_object_state b o)
  restamped-modified b o f = elim (object_state_cases b (object_state_of o)) [
    | inl e ↦ absurd (let wrong : true ≡ false = sym ((same_bytes-decides b.body.payload o.payload).1 (ap (λ (x : ObjectState). x.body.payload) e)) ∙ f in cc)
    | inr e ↦ restamped-differs b o e false f
  ]

  -- without its timestamps it is what it is to be
  pub object_state_restamped : (b : ObjectState) (o : Object) → object_state_of (restamped now b o) ≡ b
  object_state_restamped b o = elim (object_state_cases b (object_state_of o)) [
    | inl e ↦ ap object_state_of (restamped-same b o e) ∙ sym e
    | inr e ↦ by (same_bytes b.body.payload o.payload) refl e
  ]
    where
      by : (t : Bool) → same_bytes b.body.payload o.payload ≡ t → same_object_state b (object_state_of o) ≡ false → object_state_of (restamped now b o) ≡ b
      by true f e = ap object_state_of (restamped-differs b o e true f)
      by false f e = ap object_state_of (restamped-differs b o e false f)

  -- one after the other, where the second keeps the bytes and does not undo the first
  pub restamped_then : (b c : ObjectState) (o : Object) → (c ≡ object_state_of o → b ≡ object_state_of o) → c.body.payload ≡ b.body.payload → restamped now c (restamped now b o) ≡ restamped now c o
  restamped_then b c o firm bytes = elim (object_state_cases b (object_state_of o)) [
    | inl e ↦ ap (restamped now c) (restamped-same b o e)
    | inr e ↦ second e
  ]
    where
      last : same_object_state b (object_state_of o) ≡ false → same_object_state c (object_state_of o) ≡ false
      last e = elim (object_state_cases c (object_state_of o)) [
        | inl f ↦ absurd (let wrong : true ≡ false = sym (ap (λ (x : ObjectState). same_object_state x (object_state_of o)) (firm f) ∙ same_object_state-refl (object_state_of o)) ∙ e in cc)
        | inr f ↦ f
      ]

      by : same_object_state b (object_state_of o) ≡ false → same_object_state c b ≡ false → (t : Bool) → same_bytes b.body.payload o.payload ≡ t → restamped now c (restamped now b o) ≡ restamped now c o
      by e f true g =
          ap (restamped now c) (restamped-differs b o e true g) ∙ restamped-changed c (changed now (as_object_state b o)) f bytes
          ∙ sym (restamped-differs c o (last e) true (ap (λ (p : List ℕ). same_bytes p o.payload) bytes ∙ g))
      by e f false g =
          ap (restamped now c) (restamped-differs b o e false g) ∙ restamped-changed c (modified now (as_object_state b o)) f bytes
          ∙ sym (restamped-differs c o (last e) false (ap (λ (p : List ℕ). same_bytes p o.payload) bytes ∙ g))

      second : same_object_state b (object_state_of o) ≡ false → restamped now c (restamped now b o) ≡ restamped now c o
      second e = elim (object_state_cases c b) [
        | inl f ↦ restamped-same c (restamped now b o) (f ∙ sym (object_state_restamped b o)) ∙ ap (λ (x : ObjectState). restamped now x o) (sym f)
        | inr f ↦ by e f (same_bytes b.body.payload o.payload) refl
      ]
