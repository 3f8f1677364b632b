-- Laws of trees: what is above a present path is present, and each step leaves a tree.
use Rattle.std.specs.Prelude.{◌≡◌, ◌≢◌, ℕ, ◌^◌, ◌<◌, Bool, true, false, cond, ◌&&◌, List, [], ◌∷◌, ◌++◌, Option, Some, None, is_some, option_map}
use Rattle.std.proofs.Common.{refl, sym, ap, subst, ◌∙◌, inl, inr, ◌⊎◌, append_assoc, lit≤}
use Rattle.std.proofs.lemmas.List.{append-nil}
use Rattle.std.proofs.lemmas.Option.{same_Some}
use Rattle.std.proofs.lemmas.Bool.{false_from_ne_true}
use Rattle.pv_path.specs.Paths.{Path, same_path, rest_under, is_prefix, parent_of, has_names, same_path-decides}
use Rattle.pv_path.proofs.PathLaws.{parent_of-push, path_ends, rest_under-Some, rest_under-append, rest_under-None, is_some-rest_under, is_prefix-trans, parent_of-is_prefix, parent_of-differs, is_prefix-antisym, parent_parts, has_names-append, has_names-both, is_prefix-nil}
use Rattle.pv_acl.specs.declared.part.Acl.{Acl}
use Rattle.pv_steps.specs.declared.node.Kind.{Kind}
use Rattle.pv_steps.specs.declared.node.Kind.TheVariants.{Directory, File, Link, Fifo, CharDevice, BlockDevice}
use Rattle.pv_steps.specs.declared.object.Object.{Object}
use Rattle.pv_steps.specs.declared.step.Step.{Step}
use Rattle.pv_steps.specs.declared.step.Step.TheVariants.{MakeDir, MakeFile, MakeFifo, MakeDevice, MakeLink, Write, SetMode, SetOwner, SetAcl, SetAttrs, SetLetters, SetStamps, Rename, Unlink, RemoveDir}
use Rattle.pv_steps.specs.Objects.{fresh, changed, modified, with_mode, with_owner, with_acl, with_attrs, with_letters, with_stamps, with_content, IsObject}
use Rattle.pv_steps.proofs.ObjectLaws.{IsObject-changed, IsObject-modified, IsObject-with_owner, IsObject-with_stamps, IsObject-with_content, IsObject-with_acl, IsObject-with_attrs, IsObject-with_letters, IsObject-with_mode, IsObject-fresh}
use Rattle.pv_steps.specs.Trees.{Files, Places, places, kind_of, IsPresentIn, IsAbsentIn, IsKindIn, IsEmptyIn, IsTreeIn, IsTree}
use Rattle.pv_steps.specs.Steps.{Can, HasRoom, IsOther, Movable, Yields, absent, objects, directories, TakesAcl, StepFits, after, after_at, put_at, on_at, touched, made, gone, moved, moved_at, carried, device_kind}
use Rattle.pv_steps.proofs.StepLaws.{at_after, is_some-on_at, is_some-touched}
use Rattle.pv_path.proofs.Tests.{true_not_false}

-- ---- presence and kinds

kind_present : (o : Option Object) (kind : Kind) → kind_of o ≡ Some kind → is_some o ≡ true
kind_present None kind h = cc
kind_present (Some x) kind h = refl

pub present_of_kind : (t : Places) (path : Path) (kind : Kind) → IsKindIn kind t path → IsPresentIn t path
present_of_kind t path kind h = kind_present (t path) kind h

present_absent : (o : Option Object) → is_some o ≡ true → o ≡ None → ⊥
present_absent None h e = let no : false ≡ true = h in cc
present_absent (Some x) h e = cc

pub not_absent : (t : Places) (path : Path) → IsPresentIn t path → IsAbsentIn t path → ⊥
not_absent t path h e = present_absent (t path) h e

push_nonempty : (path : Path) (name : List ℕ) → path ++ name ∷ [] ≢ []
push_nonempty [] name e = cc
push_nonempty (n ∷ path) name e = cc

kind_of-on : (f : Object → Object) → ((o : Object) → (f o).node.kind ≡ o.node.kind) → (o : Option Object) → kind_of (option_map f o) ≡ kind_of o
kind_of-on f keeps None = refl
kind_of-on f keeps (Some o) = ap Some (keeps o)

pub kind_of-on_at : (path : Path) (f : Object → Object) → ((o : Object) → (f o).node.kind ≡ o.node.kind) → (t : Places) (q : Path) → kind_of (on_at path f t q) ≡ kind_of (t q)
kind_of-on_at path f keeps t q =
    elim (same_path path q) as (λ b. kind_of (cond b (option_map f (t q)) (t q)) ≡ kind_of (t q)) [ true ↦ kind_of-on f keeps (t q) | false ↦ refl ]

pub kind_of-touched : (now : ℕ) (path : Path) (t : Places) (q : Path) → kind_of (touched now path t q) ≡ kind_of (t q)
kind_of-touched now path t q = kind_of-on_at (parent_of path) (modified now) (λ o. refl) t q

-- ---- what is above a present path

module _ (t : Places) (tree : IsTreeIn t) where
  -- each prefix of a present path is present
  pub present_above : (path rest : Path) → IsPresentIn t (path ++ rest) → IsPresentIn t path
  present_above path [] h = subst (λ p. is_some (t p) ≡ true) (append-nil path) h
  present_above path (name ∷ rest) h =
      let below : IsPresentIn t ((path ++ name ∷ []) ++ rest) = subst (λ p. is_some (t p) ≡ true) (sym (append_assoc path (name ∷ []) rest)) h in
      let child = present_above (path ++ name ∷ []) rest below in
      let parent = tree.parents (path ++ name ∷ []) child (push_nonempty path name) in
      subst (λ p. is_some (t p) ≡ true) (parent_of-push path name) (present_of_kind t _ Directory parent)

  -- each proper prefix of a present path is a directory
  pub directory_above : (path : Path) (name : List ℕ) (rest : Path) → IsPresentIn t (path ++ name ∷ rest) → IsKindIn Directory t path
  directory_above path name rest h =
      let below : IsPresentIn t ((path ++ name ∷ []) ++ rest) = subst (λ p. is_some (t p) ≡ true) (sym (append_assoc path (name ∷ []) rest)) h in
      let parent = tree.parents (path ++ name ∷ []) (present_above (path ++ name ∷ []) rest below) (push_nonempty path name) in
      subst (λ p. kind_of (t p) ≡ Some Directory) (parent_of-push path name) parent

-- ---- one object changed

on_some : (f : Object → Object) (o : Option Object) (y : Object) → option_map f o ≡ Some y → (x : Object) × (o ≡ Some x) × (f x ≡ y)
on_some f None y e = cc
on_some f (Some x) y e = (x, refl, same_Some (f x) y e)

pub IsTreeIn-on_at : (path : Path) (f : Object → Object) (t : Places) → ((o : Object) → (f o).node.kind ≡ o.node.kind)
    → ((o : Object) → t path ≡ Some o → IsObject o → IsObject (f o)) → IsTreeIn t → IsTreeIn (on_at path f t)
IsTreeIn-on_at path f t keeps whole tree = record {
  root = kind_of-on_at path f keeps t [] ∙ tree.root;
  parents = λ q h nonempty. kind_of-on_at path f keeps t (parent_of q) ∙ tree.parents q (sym (is_some-on_at path f t q) ∙ h) nonempty;
  names = λ q h. tree.names q (sym (is_some-on_at path f t q) ∙ h);
  objects = λ q y.
      elim (same_path path q) as (λ b. same_path path q ≡ b → cond b (option_map f (t q)) (t q) ≡ Some y → IsObject y) [
        | true ↦ λ is e.
            let found = on_some f (t q) y e in
            let here : path ≡ q = (same_path-decides path q).0 is in
            let at : t path ≡ Some found.0 = ap t here ∙ found.1 in
            subst IsObject found.2 (whole found.0 at (tree.objects q found.0 found.1))
        | false ↦ λ is e. tree.objects q y e
      ] refl;
}

-- a directory that gained or lost a child
pub IsTreeIn-touched : (now : ℕ) (path : Path) (t : Places) → now < 2 ^ 64 → IsTreeIn t → IsTreeIn (touched now path t)
IsTreeIn-touched now path t fits tree =
    IsTreeIn-on_at (parent_of path) (modified now) t (λ o. refl) (λ o e h. IsObject-modified now fits o h) tree

-- ---- an object that comes, and one that goes

module _ (path : Path) (t : Places) (tree : IsTreeIn t) where
  put_keeps : (o : Option Object) → IsAbsentIn t path → (q : Path) → IsPresentIn t q → put_at path o t q ≡ t q
  put_keeps o free q h =
      elim (same_path path q) as (λ b. same_path path q ≡ b → cond b o (t q) ≡ t q) [
        | true ↦ λ is. absurd (not_absent t q h (ap t (sym ((same_path-decides path q).0 is)) ∙ free))
        | false ↦ λ is. refl
      ] refl

  put_keeps_kind : (o : Option Object) → IsAbsentIn t path → (q : Path) → IsKindIn Directory t q → IsKindIn Directory (put_at path o t) q
  put_keeps_kind o free q h = ap kind_of (put_keeps o free q (present_of_kind t q Directory h)) ∙ h

  pub IsTreeIn-put : (o : Object) → HasRoom t path → has_names path ≡ true → IsObject o → IsTreeIn (put_at path (Some o) t)
  IsTreeIn-put o room named whole = record {
    root = put_keeps_kind (Some o) room.0 [] tree.root;
    parents = λ q h nonempty. put_keeps_kind (Some o) room.0 (parent_of q) (
        elim (same_path path q) as (λ b. same_path path q ≡ b → is_some (cond b (Some o) (t q)) ≡ true → IsKindIn Directory t (parent_of q)) [
          | true ↦ λ is e. subst (λ p. IsKindIn Directory t (parent_of p)) ((same_path-decides path q).0 is) room.1
          | false ↦ λ is e. tree.parents q e nonempty
        ] refl h);
    names = λ q.
        elim (same_path path q) as (λ b. same_path path q ≡ b → is_some (cond b (Some o) (t q)) ≡ true → has_names q ≡ true) [
          | true ↦ λ is e. subst (λ p. has_names p ≡ true) ((same_path-decides path q).0 is) named
          | false ↦ λ is e. tree.names q e
        ] refl;
    objects = λ q y.
        elim (same_path path q) as (λ b. cond b (Some o) (t q) ≡ Some y → IsObject y) [
          | true ↦ λ e. subst IsObject (same_Some o y e) whole
          | false ↦ λ e. tree.objects q y e
        ];
  }

  pub IsTreeIn-remove : path ≢ [] → ((q : Path) → IsPresentIn t q → q ≢ [] → parent_of q ≢ path) → IsTreeIn (put_at path None t)
  IsTreeIn-remove nonempty childless = record {
    root =
        elim (same_path path []) as (λ b. same_path path [] ≡ b → kind_of (cond b None (t [])) ≡ Some Directory) [
          | true ↦ λ is. absurd (nonempty ((same_path-decides path []).0 is))
          | false ↦ λ is. tree.root
        ] refl;
    parents = λ q.
        elim (same_path path q) as (λ b. is_some (cond b None (t q)) ≡ true → q ≢ [] → IsKindIn Directory (put_at path None t) (parent_of q)) [
          | true ↦ λ e ne. let wrong : false ≡ true = e in cc
          | false ↦ λ e ne.
              elim (same_path path (parent_of q)) as (λ b. same_path path (parent_of q) ≡ b → kind_of (cond b None (t (parent_of q))) ≡ Some Directory) [
                | true ↦ λ is. absurd (childless q e ne (sym ((same_path-decides path (parent_of q)).0 is)))
                | false ↦ λ is. tree.parents q e ne
              ] refl
        ];
    names = λ q.
        elim (same_path path q) as (λ b. is_some (cond b None (t q)) ≡ true → has_names q ≡ true) [
          | true ↦ λ e. let wrong : false ≡ true = e in cc
          | false ↦ λ e. tree.names q e
        ];
    objects = λ q y.
        elim (same_path path q) as (λ b. cond b None (t q) ≡ Some y → IsObject y) [
          | true ↦ λ e. cc
          | false ↦ λ e. tree.objects q y e
        ];
  }

  pub IsTreeIn-made : (now : ℕ) (o : Object) → now < 2 ^ 64 → HasRoom t path → has_names path ≡ true → IsObject o → IsTreeIn (made now path o t)
  IsTreeIn-made now o fits room named whole = IsTreeIn-touched now path (put_at path (Some o) t) fits (IsTreeIn-put o room named whole)

  -- an object that is not a directory has nothing below it
  pub childless_object : IsOther Directory t path → (q : Path) → IsPresentIn t q → q ≢ [] → parent_of q ≢ path
  childless_object other q h nonempty e = other.1 (subst (λ p. kind_of (t p) ≡ Some Directory) e (tree.parents q h nonempty))

  -- nor has an empty directory
  pub childless_empty : IsEmptyIn t path → (q : Path) → IsPresentIn t q → q ≢ [] → parent_of q ≢ path
  childless_empty empty q h nonempty e =
      let parts = parent_parts q nonempty in
      let there : q ≡ path ++ parts.0 ∷ [] = parts.1 ∙ ap (λ p. p ++ parts.0 ∷ []) e in
      not_absent t q h (ap t there ∙ empty parts.0)

  pub IsTreeIn-gone : (now : ℕ) → now < 2 ^ 64 → path ≢ [] → ((q : Path) → IsPresentIn t q → q ≢ [] → parent_of q ≢ path) → IsTreeIn (gone now path t)
  IsTreeIn-gone now fits nonempty childless = IsTreeIn-touched now path (put_at path None t) fits (IsTreeIn-remove nonempty childless)

-- the root is no object but a directory
other_nonempty : (t : Places) → IsTreeIn t → (path : Path) → IsOther Directory t path → path ≢ []
other_nonempty t tree path other e = other.1 (ap (λ p. kind_of (t p)) e ∙ tree.root)

-- ---- a subtree that moves

front : (path : Path) → path ≢ [] → (name : List ℕ) × (rest : Path) × (path ≡ (name ∷ []) ++ rest)
front [] h = absurd (h refl)
front (name ∷ rest) h = (name, rest, refl)

second_true : (a b : Bool) → (a && b) ≡ true → b ≡ true
second_true true b h = h
second_true false b h = let wrong : false ≡ true = h in cc

-- what is no prefix of a path is no prefix of its parent
no_prefix_above : (p q : Path) → is_prefix p q ≡ false → is_prefix p (parent_of q) ≡ false
no_prefix_above p q h = false_from_ne_true (is_prefix p (parent_of q)) (λ e. true_not_false _ (is_prefix-trans p (parent_of q) q e (parent_of-is_prefix q)) h)

pub no_rest_no_prefix : (p q : Path) → rest_under p q ≡ None → is_prefix p q ≡ false
no_rest_no_prefix p q e = sym (is_some-rest_under p q) ∙ ap is_some e

module _ (now : ℕ) (from to : Path) (t : Places) (tree : IsTreeIn t) (fits : now < 2 ^ 64) (can : Movable t from to) where
  to_nonempty : to ≢ []
  to_nonempty e = by can.yields
    where
      by : Yields t from to → ⊥
      by (absent h) = not_absent t [] (present_of_kind t [] Directory tree.root) (ap t (sym e) ∙ h)
      by (objects f other) = other_nonempty t tree to other e
      by (directories f d empty) =
          let parts = front from can.no_root in
          let child : IsPresentIn t ([] ++ parts.0 ∷ []) = present_above t tree (parts.0 ∷ []) parts.1 (subst (λ p. is_some (t p) ≡ true) parts.2 can.present) in
          not_absent t (parts.0 ∷ []) child (subst (λ p. t (p ++ parts.0 ∷ []) ≡ None) e (empty parts.0))

  parent_of_to_outside : is_prefix from (parent_of to) ≡ false
  parent_of_to_outside = no_prefix_above from to can.outside

  parent_of_to_above : rest_under to (parent_of to) ≡ None
  parent_of_to_above = rest_under-None to (parent_of to) (false_from_ne_true (is_prefix to (parent_of to)) (λ e. parent_of-differs to to_nonempty (is_prefix-antisym (parent_of to) to (parent_of-is_prefix to) e)))

  pub moved_under : (q rest : Path) → rest_under to q ≡ Some rest → moved now from to t q ≡ carried now from t rest
  moved_under q rest e = ap (moved_at now from to t q) e

  pub moved_else : (q : Path) → rest_under to q ≡ None → is_prefix from q ≡ false → moved now from to t q ≡ touched now from (touched now to t) q
  moved_else q e h = ap (moved_at now from to t q) e ∙ ap (λ b. cond b None (touched now from (touched now to t) q)) h

  kind_else : (q : Path) → rest_under to q ≡ None → is_prefix from q ≡ false → kind_of (moved now from to t q) ≡ kind_of (t q)
  kind_else q e h = ap kind_of (moved_else q e h) ∙ kind_of-touched now from (touched now to t) q ∙ kind_of-touched now to t q

  kind_carried : (rest : Path) → kind_of (carried now from t rest) ≡ kind_of (t (from ++ rest))
  kind_carried [] = kind_of-on (changed now) (λ o. refl) (t from) ∙ ap (λ p. kind_of (t p)) (sym (append-nil from))
  kind_carried (name ∷ rest) = refl

  present_carried : (rest : Path) → is_some (carried now from t rest) ≡ is_some (t (from ++ rest))
  present_carried [] = by (t from) ∙ ap (λ p. is_some (t p)) (sym (append-nil from))
    where
      by : (o : Option Object) → is_some (option_map (changed now) o) ≡ is_some o
      by None = refl
      by (Some x) = refl
  present_carried (name ∷ rest) = refl

  moved_root : IsKindIn Directory (moved now from to t) []
  moved_root = kind_else [] (rest_under-None to [] (is_prefix-nil to to_nonempty)) (is_prefix-nil from can.no_root) ∙ tree.root

  -- the parent of what was carried
  parent_carried : (q rest : Path) → q ≡ to ++ rest → is_some (carried now from t rest) ≡ true → IsKindIn Directory (moved now from to t) (parent_of q)
  parent_carried q rest is h =
      elim (path_ends rest) [
        | inl e ↦
            let top : q ≡ to = is ∙ ap (λ r. to ++ r) e ∙ append-nil to in
            subst (λ p. IsKindIn Directory (moved now from to t) (parent_of p)) (sym top) (kind_else (parent_of to) parent_of_to_above parent_of_to_outside ∙ can.parent)
        | inr ends ↦
            let e : rest ≡ ends.0 ++ ends.1 ∷ [] = ends.2 in
            let up : parent_of q ≡ to ++ ends.0 = ap parent_of (is ∙ ap (λ r. to ++ r) e ∙ sym (append_assoc to ends.0 (ends.1 ∷ []))) ∙ parent_of-push (to ++ ends.0) ends.1 in
            let below : IsPresentIn t ((from ++ ends.0) ++ ends.1 ∷ []) = subst (λ p. is_some (t p) ≡ true) (ap (λ r. from ++ r) e ∙ sym (append_assoc from ends.0 (ends.1 ∷ []))) (sym (present_carried rest) ∙ h) in
            let dir = directory_above t tree (from ++ ends.0) ends.1 [] below in
            subst (λ p. IsKindIn Directory (moved now from to t) p) (sym up) (ap kind_of (moved_under (to ++ ends.0) ends.0 (rest_under-append to ends.0)) ∙ kind_carried ends.0 ∙ dir)
      ]

  -- what is present after the move was carried, or stood elsewhere
  moved_cases : (q : Path) → IsPresentIn (moved now from to t) q
      → ((rest : Path) × (rest_under to q ≡ Some rest) × (is_some (carried now from t rest) ≡ true)) ⊎ ((rest_under to q ≡ None) × (is_prefix from q ≡ false) × (is_some (t q) ≡ true))
  moved_cases q =
      elim (rest_under to q) as (λ v. rest_under to q ≡ v → is_some (moved_at now from to t q v) ≡ true
      → ((rest : Path) × (rest_under to q ≡ Some rest) × (is_some (carried now from t rest) ≡ true)) ⊎ ((rest_under to q ≡ None) × (is_prefix from q ≡ false) × (is_some (t q) ≡ true))) [
        | Some rest ↦ λ e h. inl (rest, e, h)
        | None ↦ λ e.
            elim (is_prefix from q) as (λ b. is_prefix from q ≡ b → is_some (cond b None (touched now from (touched now to t) q)) ≡ true
            → ((rest : Path) × (rest_under to q ≡ Some rest) × (is_some (carried now from t rest) ≡ true)) ⊎ ((rest_under to q ≡ None) × (is_prefix from q ≡ false) × (is_some (t q) ≡ true))) [
              | true ↦ λ p h. let wrong : false ≡ true = h in cc
              | false ↦ λ p h. inr (e, p, sym (is_some-touched now from (touched now to t) q ∙ is_some-touched now to t q) ∙ h)
            ] refl
      ] refl

  parent_else : (q : Path) → rest_under to q ≡ None → is_prefix from q ≡ false → is_some (t q) ≡ true → q ≢ [] → IsKindIn Directory (moved now from to t) (parent_of q)
  parent_else q e p h nonempty =
      let above = rest_under-None to (parent_of q) (no_prefix_above to q (no_rest_no_prefix to q e)) in
      kind_else (parent_of q) above (no_prefix_above from q p) ∙ tree.parents q h nonempty

  names_carried : (q rest : Path) → has_names to ≡ true → q ≡ to ++ rest → is_some (carried now from t rest) ≡ true → has_names q ≡ true
  names_carried q rest named is h =
      let whole = tree.names (from ++ rest) (sym (present_carried rest) ∙ h) in
      let below : has_names rest ≡ true = second_true (has_names from) (has_names rest) (sym (has_names-append from rest) ∙ whole) in
      subst (λ p. has_names p ≡ true) (sym is) (has_names-both to rest named below)

  object_carried : (rest : Path) (y : Object) → carried now from t rest ≡ Some y → IsObject y
  object_carried [] y e =
      let found = on_some (changed now) (t from) y e in
      subst IsObject found.2 (IsObject-changed now fits found.0 (tree.objects from found.0 found.1))
  object_carried (name ∷ rest) y e = tree.objects (from ++ name ∷ rest) y e

  moved_objects : (q : Path) (y : Object) → moved now from to t q ≡ Some y → IsObject y
  moved_objects q y =
      let kept = IsTreeIn-touched now from (touched now to t) fits (IsTreeIn-touched now to t fits tree) in
      elim (rest_under to q) as (λ v. moved_at now from to t q v ≡ Some y → IsObject y) [
        | Some rest ↦ λ e. object_carried rest y e
        | None ↦
            elim (is_prefix from q) as (λ b. cond b None (touched now from (touched now to t) q) ≡ Some y → IsObject y) [
              | true ↦ λ e. cc
              | false ↦ λ e. kept.objects q y e
            ]
      ]

  pub IsTreeIn-moved : has_names to ≡ true → IsTreeIn (moved now from to t)
  IsTreeIn-moved named = record {
    root = moved_root;
    parents = λ q h nonempty. elim (moved_cases q h) [
      | inl c ↦ parent_carried q c.0 (rest_under-Some to q c.0 c.1) c.2
      | inr c ↦ parent_else q c.0 c.1 c.2 nonempty
    ];
    names = λ q h. elim (moved_cases q h) [
      | inl c ↦ names_carried q c.0 named (rest_under-Some to q c.0 c.1) c.2
      | inr c ↦ tree.names q c.2
    ];
    objects = moved_objects;
  }

-- ---- each step leaves a tree

kind_is : (t : Places) (path : Path) (kind : Kind) (o : Object) → IsKindIn kind t path → t path ≡ Some o → o.node.kind ≡ kind
kind_is t path kind o h e = let both : Some o.node.kind ≡ Some kind = sym (ap kind_of e) ∙ h in cc

kind_is_other : (t : Places) (path : Path) (kind : Kind) (o : Object) → IsOther kind t path → t path ≡ Some o → o.node.kind ≡ kind → ⊥
kind_is_other t path kind o h e is = h.1 (ap kind_of e ∙ ap Some is)

IsObject-device : (block : Bool) (major minor now : ℕ) → now < 2 ^ 64 → major < 2 ^ 32 → minor < 2 ^ 32 → IsObject (fresh (device_kind block) 0o600 [] major minor now)
IsObject-device true major minor now fits a b = IsObject-fresh BlockDevice 0o600 [] major minor now fits (lit≤ tt) refl refl (a, b) refl
IsObject-device false major minor now fits a b = IsObject-fresh CharDevice 0o600 [] major minor now fits (lit≤ tt) refl refl (a, b) refl

module _ (t : Places) (tree : IsTreeIn t) (now : ℕ) (fits : now < 2 ^ 64) where
  takes_default : (path : Path) (acl : Acl) (o : Object) → TakesAcl t path acl → t path ≡ Some o → (acl.default_part ≡ None) ⊎ (o.node.kind ≡ Directory)
  takes_default path acl o (inl h) e = inl h
  takes_default path acl o (inr h) e = inr (kind_is t path Directory o h e)

  carries : (path : Path) (o : Object) → IsKindIn File t path ⊎ IsKindIn Directory t path → t path ≡ Some o → (o.node.kind ≡ File) ⊎ (o.node.kind ≡ Directory)
  carries path o (inl h) e = inl (kind_is t path File o h e)
  carries path o (inr h) e = inr (kind_is t path Directory o h e)

  pub tree_after_at : (step : Step) → Can t step → StepFits step → IsTreeIn (after_at t step now)
  tree_after_at (MakeDir path) can named = IsTreeIn-made path t tree now _ fits can named (IsObject-fresh Directory 0o700 [] 0 0 now fits (lit≤ tt) refl refl (refl, refl) tt)
  tree_after_at (MakeFile path) can named = IsTreeIn-made path t tree now _ fits can named (IsObject-fresh File 0o600 [] 0 0 now fits (lit≤ tt) tt refl (refl, refl) refl)
  tree_after_at (MakeFifo path) can named = IsTreeIn-made path t tree now _ fits can named (IsObject-fresh Fifo 0o600 [] 0 0 now fits (lit≤ tt) refl refl (refl, refl) refl)
  tree_after_at (MakeDevice path block major minor) can h = IsTreeIn-made path t tree now _ fits can h.0 (IsObject-device block major minor now fits h.1.0 h.1.1)
  tree_after_at (MakeLink path target) can h = IsTreeIn-made path t tree now _ fits can.0 h.0 (IsObject-fresh Link 0o777 target 0 0 now fits (lit≤ tt) can.1 h.1 (refl, refl) (refl, refl))
  tree_after_at (Write path content) can h = IsTreeIn-on_at path (with_content content now) t (λ o. refl) (λ o e whole. IsObject-with_content now fits content o (kind_is t path File o can e) h.1 whole) tree
  tree_after_at (SetMode path mode) can h = IsTreeIn-on_at path (with_mode mode now) t (λ o. refl) (λ o e whole. IsObject-with_mode now fits mode o can.1 (kind_is_other t path Link o can.0 e) whole) tree
  tree_after_at (SetOwner path uid gid) can h = IsTreeIn-on_at path (with_owner uid gid now) t (λ o. refl) (λ o e whole. IsObject-with_owner now fits uid gid o can.1.0 can.1.1 whole) tree
  tree_after_at (SetAcl path acl) can h = IsTreeIn-on_at path (with_acl acl now) t (λ o. refl) (λ o e whole. IsObject-with_acl now fits acl o (kind_is_other t path Link o can.0 e) (takes_default path acl o can.1.0 e) can.1.1 whole) tree
  tree_after_at (SetAttrs path attrs) can h = IsTreeIn-on_at path (with_attrs attrs now) t (λ o. refl) (λ o e whole. IsObject-with_attrs now fits attrs o (kind_is_other t path Link o can.0 e) can.1 whole) tree
  tree_after_at (SetLetters path letters) can h = IsTreeIn-on_at path (with_letters letters now) t (λ o. refl) (λ o e whole. IsObject-with_letters now fits letters o (carries path o can e) h.1 whole) tree
  tree_after_at (SetStamps path access modify) can h = IsTreeIn-on_at path (with_stamps access modify now) t (λ o. refl) (λ o e whole. IsObject-with_stamps now fits access modify o h.1.0 h.1.1 whole) tree
  tree_after_at (Rename from to) can h = IsTreeIn-moved now from to t tree fits can h.1
  tree_after_at (Unlink path) can h = IsTreeIn-gone path t tree now fits (other_nonempty t tree path can) (childless_object path t tree can)
  tree_after_at (RemoveDir path) can h = IsTreeIn-gone path t tree now fits can.1.1 (childless_empty path t tree can.1.0)

-- a step that may be done leaves a tree a tree
pub tree_after : (files : Files) (step : Step) (now : ℕ) → IsTree files → Can (places files) step → StepFits step → now < 2 ^ 64 → IsTree (after files step now)
tree_after files step now tree can named fits = subst IsTreeIn (sym (at_after files step now)) (tree_after_at (places files) tree now fits step can named)
