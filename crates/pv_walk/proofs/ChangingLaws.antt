-- Laws of the changes that metadata makes.
use Rattle.std.specs.Prelude.{◌≡◌, ◌≢◌, ◌↔◌, IsTrue, ℕ, Bool, List, ◌/◌, ◌%◌, ◌≤◌, true, false, cond, ◌&&◌, Option, Some, None, is_some, option_map, Result, Ok, Err, IsErrAnd, OnOk, [], ◌⊎◌}
use Rattle.std.proofs.Common.{refl, sym, ap, subst, ◌∙◌, inl, inr, arith}
use Rattle.std.proofs.lemmas.Bool.{and_parts}
use Rattle.std.proofs.lemmas.Option.{same_Some}
use Rattle.pv_path.specs.Paths.{Path, same_path}
use Rattle.pv_acl.specs.declared.part.Part.{Part}
use Rattle.pv_acl.specs.declared.perm.Named.{Named}
use Rattle.pv_acl.specs.NamedEntries.{is_perm}
use Rattle.pv_acl.specs.Parts as parts
use Rattle.pv_acl.specs.Parts.{is_part, mode_of}
use Rattle.pv_steps.specs.Attributes.{are_attrs}
use Rattle.pv_steps.specs.declared.node.Kind.{Kind}
use Rattle.pv_steps.specs.declared.node.Kind.TheVariants.{Directory, File, Link, Fifo, CharDevice, BlockDevice}
use Rattle.pv_steps.specs.declared.node.Node.{Node}
use Rattle.pv_steps.specs.declared.object.Object.{Object}
use Rattle.pv_steps.specs.declared.step.Step.{Step}
use Rattle.pv_steps.specs.declared.step.Step.TheVariants.{SetOwner, SetMode, SetAcl, SetAttrs, SetLetters}
use Rattle.pv_steps.specs.declared.tree.TreeFault.{TreeFault}
use Rattle.pv_steps.specs.Objects.{object_state, changed, with_mode, AclFits, AttrsFit, LettersFit}
use Rattle.pv_steps.specs.Trees.{Files, Places, places, kind_of, node_at, IsPresentIn, IsKindIn, IsTree}
use Rattle.pv_steps.specs.Steps.{Can, TakesAcl, after, after_at, put_at, on_at}
use Rattle.pv_steps.specs.Runs.{HasEffect}
use Rattle.pv_steps.specs.Acting.{Acted}
use Rattle.pv_steps.specs.Counting.{refused}
use Rattle.pv_steps.proofs.ActingLaws.{Moves, Asks, acted_then, acted_weaken}
use Rattle.pv_steps.specs.declared.tree.Tree.{Ghosts}
use Rattle.pv_steps.proofs.StepLaws.{at_after}
use Rattle.pv_steps.specs.Same.{object_states, Differ}
use Rattle.pv_walk.specs.declared.object_state.Metadata.{Metadata}
use Rattle.pv_walk.proofs.EditLaws.{put_at-here, put_at-same, put_at-twice, on_at-here, on_at-put, on_at-twice, object_states-on_at, object_states-on_both, object_states-stamped}
use Rattle.pv_walk.specs.SettingMetadata.{IsMetadata, CanSetMetadata, metadata_mode, with_metadata, with_owner_of, with_mode_of, with_acl_of, with_attrs_of, with_letters_of, Lacks, SettingMetadata, GivesMetadata, IsChanged, IsKeptBy, ChangedAt}
use Rattle.pv_walk.specs.Changing.{HasOwner, HasMode, HasExtended, Changing, Gives, GivesAcl, GivesAttrs, GivesLetters, with_access_of, with_extended_of}
use Rattle.pv_acl.proofs.Allowed.{perm_fits}

-- ---- objects

-- objects that are the same except for timestamps, and have the same timestamps, are the same
restored : (o x : Object) → o.node.stamps ≡ x.node.stamps → object_state o ≡ object_state x → o ≡ x
restored o x stamps same = λ i. record (same i) { node = record (same i).node { stamps = stamps i } }

-- a change that keeps the timestamps
abbrev pub Keeps : (Object → Object) → Type 0
Keeps change = (o : Object) → (change o).node.stamps ≡ o.node.stamps

-- ---- one change of an object of a tree

module _ (path : Path) (change : Object → Object) (now : ℕ) (t : Files) (o : Object) (there : places t path ≡ Some o) where
  changed_none : change o ≡ o → (u : Files) → u ≡ t → ChangedAt change path now t u
  changed_none same u is = record {
    old = o;
    object = o;
    there = there;
    is = inl (same, refl);
    left = ap places is ∙ (λ j q. sym (put_at-same path (Some o) (places t) there q) j);
  }

  module _ (s : Step) (leaves : after_at (places t) s now ≡ on_at path (λ x. changed now (change x)) (places t)) where
    -- the change is seen, timestamps aside
    pub change_busy : Keeps change → change o ≢ o → Differ t (after t s now)
    change_busy keeps differs = (path, λ e. differs (restored (change o) o (keeps o) (same_Some (object_state (change o)) (object_state o) (sym (sym old ∙ e ∙ new)))))
      where
        old : object_states (places t) path ≡ Some (object_state o)
        old = ap (option_map object_state) there

        new : object_states (places (after t s now)) path ≡ Some (object_state (change o))
        new = ap (λ p. object_states p path) (at_after t s now ∙ leaves) ∙ ap (option_map object_state) (on_at-here path (λ x. changed now (change x)) (places t) ∙ ap (option_map (λ x. changed now (change x))) there)

    pub changing_one : (u : Files) → u ≡ after t s now → Changing path change t u
    changing_one u is = inr (λ q. ap (λ p. object_states p q) (ap places is ∙ at_after t s now ∙ leaves) ∙ object_states-on_at path (λ x. changed now (change x)) change (λ x. refl) (places t) q)

    changed_one : change o ≢ o → (u : Files) → u ≡ after t s now → ChangedAt change path now t u
    changed_one differs u is = record {
      old = o;
      object = changed now (change o);
      there = there;
      is = inr (differs, refl);
      left = ap places is ∙ at_after t s now ∙ leaves ∙ (λ j q. on_at-put path (λ x. changed now (change x)) o (places t) there q j);
    }

    pub changed_on : change o ≢ o → (r : Result (Unit {0}) TreeFault) (u : Files) → OnOk r (u ≡ after t s now) → OnOk r (ChangedAt change path now t u)
    changed_on differs (Ok x) u done = changed_one differs u done
    changed_on differs (Err e) u done = tt

    -- the step may be asked for
    pub change_asks : (Q : Step → Type 0) → Keeps change → change o ≢ o → Can (places t) s → (Differ t (after t s now) → HasEffect t s now) → Q s → Asks (Changing path change t) Q t s now
    change_asks Q keeps differs can busy q = record { start = inl (λ q. refl); can = can; busy = busy (change_busy keeps differs); there = changing_one; gives = q }

-- ---- one change after another

-- timestamps aside, a change leaves what it gives
pub object_states_changed : (path : Path) (change : Object → Object) (now : ℕ) (t u : Files) → ChangedAt change path now t u → (q : Path) → object_states (places u) q ≡ object_states (on_at path change (places t)) q
object_states_changed path change now t u h q =
    ap (λ p. object_states p q) h.left ∙ by h.is ∙ sym (ap (option_map object_state) (on_at-put path change h.old (places t) h.there q))
  where
    put : (x y : Object) → object_state x ≡ object_state y → object_states (put_at path (Some x) (places t)) q ≡ object_states (put_at path (Some y) (places t)) q
    put x y e = elim (same_path path q) as (λ c. option_map object_state (cond c (Some x) (places t q)) ≡ option_map object_state (cond c (Some y) (places t q))) [ true ↦ ap Some e | false ↦ refl ]

    by : IsChanged change now h.old h.object → object_states (put_at path (Some h.object) (places t)) q ≡ object_states (put_at path (Some (change h.old)) (places t)) q
    by (inl s) = put h.object (change h.old) (ap object_state (s.1 ∙ sym s.0))
    by (inr s) = put h.object (change h.old) (ap object_state s.1)

-- the object there afterwards
after_change : (path : Path) (change : Object → Object) (now : ℕ) (t u : Files) → (h : ChangedAt change path now t u) → places u path ≡ Some h.object
after_change path change now t u h = ap (λ p. p path) h.left ∙ put_at-here path (Some h.object) (places t)

-- after a change that keeps the kind, an object can get its metadata as before
pub can_after : (path : Path) (new : Metadata) (change : Object → Object) (now : ℕ) (t u : Files) → ((o : Object) → (change o).node.kind ≡ o.node.kind) → CanSetMetadata t path new → ChangedAt change path now t u → CanSetMetadata u path new
can_after path new change now t u stays can h = record {
  kind = can.kind;
  there = ap kind_of (after_change path change now t u h) ∙ ap Some (same_kind h.object h.is) ∙ sym (ap kind_of h.there) ∙ can.there;
  metadata = can.metadata;
}
  where
    same_kind : (o : Object) → IsChanged change now h.old o → o.node.kind ≡ h.old.node.kind
    same_kind o (inl e) = ap (λ (x : Object). x.node.kind) e.1
    same_kind o (inr e) = ap (λ (x : Object). x.node.kind) e.1 ∙ stays h.old

module _ (now : ℕ) (c d : Object → Object) (past : (o : Object) → d (changed now o) ≡ changed now (d o)) (firm : (o : Object) → d (c o) ≡ o → c o ≡ o) where
  changed_twice : (a b e : Object) → IsChanged c now a b → IsChanged d now b e → IsChanged (λ x. d (c x)) now a e
  changed_twice a b e (inl f) (inl g) = inl (ap d (f.0 ∙ sym f.1) ∙ g.0 ∙ f.1, g.1 ∙ f.1)
  changed_twice a b e (inl f) (inr g) = inr (λ h. g.0 (ap d (f.1 ∙ sym f.0) ∙ h ∙ sym f.1), g.1 ∙ ap (λ x. changed now (d x)) (f.1 ∙ sym f.0))
  changed_twice a b e (inr f) (inl g) = inr (λ h. f.0 (firm a h), g.1 ∙ sym g.0 ∙ ap d f.1 ∙ past (c a))
  changed_twice a b e (inr f) (inr g) = inr (λ h. f.0 (firm a h), g.1 ∙ ap (changed now) (ap d f.1 ∙ past (c a)))

  pub changed_then : (path : Path) (t u v : Files) → ChangedAt c path now t u → ChangedAt d path now u v → ChangedAt (λ x. d (c x)) path now t v
  changed_then path t u v h g =
      let same : g.old ≡ h.object = same_Some g.old h.object (sym g.there ∙ after_change path c now t u h) in
      record {
        old = h.old;
        object = g.object;
        there = h.there;
        is = changed_twice h.old h.object g.object h.is (subst (λ x. IsChanged d now x g.object) same g.is);
        left = g.left ∙ ap (put_at path (Some g.object)) h.left ∙ (λ j q. put_at-twice path (Some h.object) (Some g.object) (places t) q j);
      }

-- ---- on the way

module _ (path : Path) (f c : Object → Object) (past : (o : Object) → object_state (c o) ≡ c (object_state o)) (t u v : Files) where
  pub more_changed : ((q : Path) → object_states (places u) q ≡ object_states (on_at path f (places t)) q) → ((q : Path) → object_states (places v) q ≡ object_states (on_at path c (places u)) q)
      → (q : Path) → object_states (places v) q ≡ object_states (on_at path (λ o. c (f o)) (places t)) q
  more_changed before step q =
      step q ∙ object_states-on_both path c past (places u) (on_at path f (places t)) q (before q) ∙ ap (option_map object_state) (on_at-twice path f c (places t) q)

-- ---- the three changes

record Digits (m special : ℕ) (part : Part) : Type 0 where
  owner : m / 64 % 8 ≡ part.owner
  group : m / 8 % 8 ≡ part.group
  other : m % 8 ≡ part.other
  bits : m / 512 ≡ special
  bound : special ≤ 7 → m ≤ 4095

digits : (special : ℕ) (part : Part) → is_part part ≡ true → Digits (mode_of special part) special part
digits special part h =
    let bases = (and_parts _ _ (and_parts _ _ (and_parts _ _ h).0).0).0 in
    let first = (and_parts (is_perm part.owner && is_perm part.group) (is_perm part.other) bases) in
    let o = perm_fits part.owner (and_parts (is_perm part.owner) (is_perm part.group) first.0).0 in
    let g = perm_fits part.group (and_parts (is_perm part.owner) (is_perm part.group) first.0).1 in
    let a = perm_fits part.other first.1 in
    record { owner = omega arith; group = omega arith; other = omega arith; bits = omega arith; bound = λ s. omega arith }

pub sets_metadata_owner : (new : Metadata) (o : Object) → HasOwner new o.node → with_owner_of new o ≡ o
sets_metadata_owner new o h = λ i. record o { node = record o.node { uid = sym h.uid i; gid = sym h.gid i } }

pub owner_worn : (new : Metadata) (o : Object) → with_owner_of new o ≡ o → HasOwner new o.node
owner_worn new o e = record { uid = sym (ap (λ x. x.node.uid) e); gid = sym (ap (λ x. x.node.gid) e) }

module _ (kind : Kind) (new : Metadata) (fits : IsMetadata kind new) where
  mode_digits : Digits (metadata_mode new) new.special new.acl.access
  mode_digits = digits new.special new.acl.access (and_parts (is_part new.acl.access) _ fits.acl).0

  pub mode_bound : metadata_mode new ≤ 4095
  mode_bound = mode_digits.bound fits.special

  pub sets_metadata_mode : (o : Object) → HasMode new o.node → with_mode_of new o ≡ o
  sets_metadata_mode o h = λ i. record o {
    node = record o.node {
      special = sym h.special i;
      acl = record o.node.acl {
        access = record o.node.acl.access {
          owner = (mode_digits.owner ∙ sym h.base.owner) i;
          group = (mode_digits.group ∙ sym h.base.group) i;
          other = (mode_digits.other ∙ sym h.base.other) i;
        };
      };
    };
  }

  pub mode_worn : (o : Object) → with_mode_of new o ≡ o → HasMode new o.node
  mode_worn o e = record {
    special = sym (ap (λ x. x.node.special) e);
    base = record {
      owner = sym (ap (λ x. x.node.acl.access.owner) e) ∙ mode_digits.owner;
      group = sym (ap (λ x. x.node.acl.access.group) e) ∙ mode_digits.group;
      other = sym (ap (λ x. x.node.acl.access.other) e) ∙ mode_digits.other;
    };
  }

  -- the step gives the special bits of the metadata
  pub mode_leaves : (path : Path) (now : ℕ) (t : Places) → on_at path (with_mode (metadata_mode new) now) t ≡ on_at path (λ x. changed now (with_mode_of new x)) t
  mode_leaves path now t = ap (λ s. on_at path (λ o. changed now (record o { node = record o.node { special = s; acl = record o.node.acl { access = parts.with_mode (metadata_mode new) o.node.acl.access } } })) t) mode_digits.bits

  -- what has the whole metadata has the first two changes
  pub firm_mode : (o : Object) → with_acl_of new (with_mode_of new (with_owner_of new o)) ≡ o → with_mode_of new (with_owner_of new o) ≡ o
  firm_mode o e =
      let acl : o.node.acl ≡ new.acl = sym (ap (λ x. x.node.acl) e) in
      sets_metadata_mode (with_owner_of new o) (record {
        special = sym (ap (λ x. x.node.special) e);
        base = record { owner = ap (λ a. a.access.owner) acl; group = ap (λ a. a.access.group) acl; other = ap (λ a. a.access.other) acl };
      }) ∙ sets_metadata_owner new o (record { uid = sym (ap (λ x. x.node.uid) e); gid = sym (ap (λ x. x.node.gid) e) })

pub sets_metadata_acl : (new : Metadata) (o : Object) → o.node.acl ≡ new.acl → with_acl_of new o ≡ o
sets_metadata_acl new o e = λ i. record o { node = record o.node { acl = sym e i } }

pub acl_worn : (new : Metadata) (o : Object) → with_acl_of new o ≡ o → o.node.acl ≡ new.acl
acl_worn new o e = sym (ap (λ x. x.node.acl) e)

pub sets_metadata_extended : (new : Metadata) (o : Object) → HasExtended new o.node → with_extended_of new o ≡ o
sets_metadata_extended new o h = λ i. record o {
  node = record o.node {
    acl = record {
      access = record o.node.acl.access { mask = sym h.mask i; named = sym h.named i };
      default_part = sym h.default_part i;
    };
  };
}

pub extended_worn : (new : Metadata) (o : Object) → with_extended_of new o ≡ o → HasExtended new o.node
extended_worn new o e = record {
  mask = sym (ap (λ x. x.node.acl.access.mask) e);
  named = sym (ap (λ x. x.node.acl.access.named) e);
  default_part = sym (ap (λ x. x.node.acl.default_part) e);
}

pub firm_owner : (new : Metadata) (o : Object) → with_mode_of new (with_owner_of new o) ≡ o → with_owner_of new o ≡ o
firm_owner new o e = sets_metadata_owner new o (record { uid = sym (ap (λ x. x.node.uid) e); gid = sym (ap (λ x. x.node.gid) e) })

pub sets_metadata_attrs : (new : Metadata) (o : Object) → o.node.attrs ≡ new.attrs → with_attrs_of new o ≡ o
sets_metadata_attrs new o e = λ i. record o { node = record o.node { attrs = sym e i } }

pub attrs_worn : (new : Metadata) (o : Object) → with_attrs_of new o ≡ o → o.node.attrs ≡ new.attrs
attrs_worn new o e = sym (ap (λ x. x.node.attrs) e)

pub sets_metadata_letters : (new : Metadata) (o : Object) → o.node.letters ≡ new.letters → with_letters_of new o ≡ o
sets_metadata_letters new o e = λ i. record o { node = record o.node { letters = sym e i } }

pub letters_worn : (new : Metadata) (o : Object) → with_letters_of new o ≡ o → o.node.letters ≡ new.letters
letters_worn new o e = sym (ap (λ x. x.node.letters) e)

-- what has owner, mode and ACL, and more, has these
sets_metadata_access : (new : Metadata) (o x : Object) → with_access_of new x ≡ x → x ≡ o → with_access_of new o ≡ o
sets_metadata_access new o x e same = subst (λ y. with_access_of new y ≡ y) same e

firm_access : (new : Metadata) (o : Object) → with_attrs_of new (with_access_of new o) ≡ o → with_access_of new o ≡ o
firm_access new o e = sets_metadata_access new o (with_attrs_of new (with_access_of new o)) refl e

firm_attrs : (new : Metadata) (o : Object) → with_letters_of new (with_attrs_of new (with_access_of new o)) ≡ o → with_attrs_of new (with_access_of new o) ≡ o
firm_attrs new o e = subst (λ y. with_attrs_of new (with_access_of new y) ≡ y) e refl

-- ---- links, which have one mode and one ACL

link_mode : (new : Metadata) (o : Object) → AclFits Link new.special new.acl → AclFits Link o.node.special o.node.acl → HasMode new o.node
link_mode new o n h =
    let e : o.node.acl ≡ new.acl = h.1 ∙ sym n.1 in
    record { special = h.0 ∙ sym n.0; base = record { owner = ap (λ a. a.access.owner) e; group = ap (λ a. a.access.group) e; other = ap (λ a. a.access.other) e } }

link_acl : (new : Metadata) (o : Object) → AclFits Link new.special new.acl → AclFits Link o.node.special o.node.acl → o.node.acl ≡ new.acl
link_acl new o n h = h.1 ∙ sym n.1

-- ---- the object at a path, and the changes that it keeps

module _ (path : Path) (new : Metadata) (t : Files) (can : CanSetMetadata t path new) where
  standing : (o : Object) × (places t path ≡ Some o)
  standing = by (places t path) refl
    where
      by : (v : Option Object) → places t path ≡ v → (o : Object) × (places t path ≡ Some o)
      by None e = let wrong : None ≡ Some can.kind = sym (ap kind_of e) ∙ can.there in cc
      by (Some o) e = (o, e)

  abbrev object : Object
  object = standing.0

  there : places t path ≡ Some object
  there = standing.1

  pub present : IsPresentIn (places t) path
  present = ap is_some there

  kind_is : object.node.kind ≡ can.kind
  kind_is = let e : Some object.node.kind ≡ Some can.kind = sym (ap kind_of there) ∙ can.there in cc

  -- what is kept is set without a step
  pub kept_none : (change : Object → Object) → IsKeptBy change path t → (now : ℕ) → ChangedAt change path now t t
  kept_none change kept now = changed_none path change now t object there (kept object there) t refl

  other_object : (change : Object → Object) → (IsKeptBy change path t → ⊥) → change object ≢ object
  other_object change other e = other (λ o f. let same : object ≡ o = same_Some object o (sym there ∙ f) in subst (λ x. change x ≡ x) same e)

  -- an object keeps a change where its node, as it was seen, has what the change gives
  pub kept_as_seen : (change : Object → Object) (Has : Node → Type 0) → ((o : Object) → Has o.node → change o ≡ o) → ((o : Object) → change o ≡ o → Has o.node)
      → (node : Node) → Some node ≡ node_at t path → (kept : Bool) → (IsTrue kept ↔ Has node) → (IsTrue kept ↔ IsKeptBy change path t)
  kept_as_seen change Has wears worn node seen kept h = (
    λ yes o e. let same : Some node ≡ Some o.node = seen ∙ ap (option_map (λ x. x.node)) e in wears o (subst Has (same_Some node o.node same) (h.0 yes)),
    λ keeps.
        let same : Some object.node ≡ Some node = sym (seen ∙ ap (option_map (λ x. x.node)) there) in
        h.1 (subst Has (same_Some object.node node same) (worn object (keeps object there))),
  )

  -- ---- owners

  module _ (now : ℕ) (other : IsKeptBy (with_owner_of new) path t → ⊥) where
    pub owner_asks : Asks (Changing path (with_owner_of new) t) (λ step. step ≡ SetOwner path new.uid new.gid) t (SetOwner path new.uid new.gid) now
    owner_asks =
        change_asks path (with_owner_of new) now t object there (SetOwner path new.uid new.gid) refl
        (λ step. step ≡ SetOwner path new.uid new.gid) (λ o. refl) (other_object (with_owner_of new) other) (present, can.metadata.owner) (λ d. d) refl

    pub owner_ok : (r : Result (Unit {0}) TreeFault) (u : Files) → OnOk r (u ≡ after t (SetOwner path new.uid new.gid) now) → OnOk r (ChangedAt (with_owner_of new) path now t u)
    owner_ok r u done = changed_on path (with_owner_of new) now t object there (SetOwner path new.uid new.gid) refl (other_object (with_owner_of new) other) r u done

  -- ---- modes

  -- what is not the mode or the ACL of the metadata stands at no link
  module _ (tree : IsTree t) where
    link_fits : kind_of (places t path) ≡ Some Link → AclFits Link new.special new.acl × AclFits Link object.node.special object.node.acl
    link_fits e =
        let of_can : can.kind ≡ Link = (let both : Some can.kind ≡ Some Link = sym can.there ∙ e in cc) in (
          subst (λ v. AclFits v new.special new.acl) of_can can.metadata.fits,
          subst (λ v. AclFits v object.node.special object.node.acl) (kind_is ∙ of_can) (tree.objects path object there).kind_acl,
        )

    module _ (now : ℕ) (other : IsKeptBy (with_mode_of new) path t → ⊥) (mode : ℕ) (is : mode ≡ metadata_mode new) where
      no_mode : with_mode_of new object ≢ object
      no_mode = other_object (with_mode_of new) other

      mode_no_link : kind_of (places t path) ≢ Some Link
      mode_no_link e = let both = link_fits e in no_mode (sets_metadata_mode can.kind new can.metadata object (link_mode new object both.0 both.1))

      can_mode : Can (places t) (SetMode path (metadata_mode new))
      can_mode = ((present, mode_no_link), mode_bound can.kind new can.metadata)

      pub mode_asks : Asks (Changing path (with_mode_of new) t) (λ step. step ≡ SetMode path (metadata_mode new)) t (SetMode path mode) now
      mode_asks =
          subst (λ m. Asks (Changing path (with_mode_of new) t) (λ step. step ≡ SetMode path (metadata_mode new)) t (SetMode path m) now) (sym is)
          (change_asks path (with_mode_of new) now t object there (SetMode path (metadata_mode new)) (mode_leaves can.kind new can.metadata path now (places t))
          (λ step. step ≡ SetMode path (metadata_mode new)) (λ o. refl) no_mode can_mode (λ d. d) refl)

      pub mode_ok : (r : Result (Unit {0}) TreeFault) (u : Files) → OnOk r (u ≡ after t (SetMode path mode) now) → OnOk r (ChangedAt (with_mode_of new) path now t u)
      mode_ok r u done =
          changed_on path (with_mode_of new) now t object there (SetMode path (metadata_mode new)) (mode_leaves can.kind new can.metadata path now (places t)) no_mode r u
          (subst (λ m. OnOk r (u ≡ after t (SetMode path m) now)) is done)

    -- ---- ACLs

    takes_acl : (kind : Kind) → kind_of (places t path) ≡ Some kind → (kind ≡ Link → ⊥) → AclFits kind new.special new.acl → TakesAcl (places t) path new.acl
    takes_acl Directory e real h = inr e
    takes_acl File e real h = inl h
    takes_acl Link e real h = absurd (real refl)
    takes_acl Fifo e real h = inl h
    takes_acl CharDevice e real h = inl h
    takes_acl BlockDevice e real h = inl h

    module _ (other : IsKeptBy (with_acl_of new) path t → ⊥) where
      acl_no_link : kind_of (places t path) ≢ Some Link
      acl_no_link e = let both = link_fits e in other_object (with_acl_of new) other (sets_metadata_acl new object (link_acl new object both.0 both.1))

      pub can_acl : Can (places t) (SetAcl path new.acl)
      can_acl = ((present, acl_no_link), (takes_acl can.kind can.there (λ e. acl_no_link (can.there ∙ ap Some e)) can.metadata.fits, can.metadata.acl))

    -- ---- extended attributes

    of_kind : (kind : Kind) → kind_of (places t path) ≡ Some kind → can.kind ≡ kind
    of_kind kind e = let both : Some can.kind ≡ Some kind = sym can.there ∙ e in cc

    are_new : (kind : Kind) → (kind ≡ Link → ⊥) → AttrsFit kind new.attrs → are_attrs new.attrs ≡ true
    are_new Directory real h = h
    are_new File real h = h
    are_new Link real h = absurd (real refl)
    are_new Fifo real h = h
    are_new CharDevice real h = h
    are_new BlockDevice real h = h

    module _ (other : IsKeptBy (with_attrs_of new) path t → ⊥) where
      attrs_no_link : kind_of (places t path) ≢ Some Link
      attrs_no_link e =
          let is = of_kind Link e in
          let a : new.attrs ≡ [] = subst (λ v. AttrsFit v new.attrs) is can.metadata.attrs in
          let b : object.node.attrs ≡ [] = subst (λ v. AttrsFit v object.node.attrs) (kind_is ∙ is) (tree.objects path object there).attrs in
          other_object (with_attrs_of new) other (sets_metadata_attrs new object (b ∙ sym a))

      pub can_attrs : Can (places t) (SetAttrs path new.attrs)
      can_attrs = ((present, attrs_no_link), are_new can.kind (λ e. attrs_no_link (can.there ∙ ap Some e)) can.metadata.attrs)

    -- ---- file attribute flags

    module _ (other : IsKeptBy (with_letters_of new) path t → ⊥) where
      letters_zero : (kind : Kind) → can.kind ≡ kind → ((l : ℕ) → LettersFit kind l → l ≡ 0) → ⊥
      letters_zero kind e zero =
          other_object (with_letters_of new) other (sets_metadata_letters new object
          (zero object.node.letters (subst (λ v. LettersFit v object.node.letters) (kind_is ∙ e) (tree.objects path object there).letters)
          ∙ sym (zero new.letters (subst (λ v. LettersFit v new.letters) e can.metadata.letters))))

      pub can_letters : Can (places t) (SetLetters path new.letters)
      can_letters = by can.kind refl
        where
          by : (kind : Kind) → can.kind ≡ kind → IsKindIn File (places t) path ⊎ IsKindIn Directory (places t) path
          by File e = inl (can.there ∙ ap Some e)
          by Directory e = inr (can.there ∙ ap Some e)
          by Link e = absurd (letters_zero Link e (λ l h. h))
          by Fifo e = absurd (letters_zero Fifo e (λ l h. h))
          by CharDevice e = absurd (letters_zero CharDevice e (λ l h. h))
          by BlockDevice e = absurd (letters_zero BlockDevice e (λ l h. h))

  -- one part of a node, which a step gives where the object lacks it
  module _ {A : Type 0} (part : Node → A) (wanted : A) (change : Object → Object) (keeps : Keeps change) (wears : (o : Object) → part o.node ≡ wanted → change o ≡ o)
      (step : Step) (leaves : (now : ℕ) → after_at (places t) step now ≡ on_at path (λ x. changed now (change x)) (places t)) (busy : (now : ℕ) → Differ t (after t step now) → HasEffect t step now)
      (now : ℕ) (other : IsKeptBy change path t → ⊥) where
    no_part : change object ≢ object
    no_part = other_object change other

    other_part : Lacks (λ o. part o.node) wanted path t
    other_part o e h = let same : object ≡ o = same_Some object o (sym there ∙ e) in no_part (wears object (ap (λ x. part x.node) same ∙ h))

    pub part_asks : Can (places t) step → Asks (Changing path change t) (Gives (λ o. part o.node) wanted step path t) t step now
    part_asks able =
        change_asks path change now t object there step (leaves now)
        (Gives (λ o. part o.node) wanted step path t) keeps no_part able (busy now) (record { is = refl; other = other_part })

    pub part_ok : (r : Result (Unit {0}) TreeFault) (u : Files) → OnOk r (u ≡ after t step now) → OnOk r (ChangedAt change path now t u)
    part_ok r u done = changed_on path change now t object there step (leaves now) no_part r u done

-- ---- parts that a change leaves as they are

module _ (path : Path) (now : ℕ) (t u : Files) {A : Type 0} (part : Object → A) (change : Object → Object) (stays : (o : Object) → part (change o) ≡ part o) (past : (o : Object) → part (changed now o) ≡ part o)
    (first : ChangedAt change path now t u) where
  part_kept : (a b : Object) → IsChanged change now a b → part b ≡ part a
  part_kept a b (inl h) = ap part h.1
  part_kept a b (inr h) = ap part h.1 ∙ past (change a) ∙ stays a

  pub lacks_before : (wanted : A) → Lacks part wanted path u → Lacks part wanted path t
  lacks_before wanted lacks o e h =
      let same : first.old ≡ o = same_Some first.old o (sym first.there ∙ e) in
      lacks first.object (after_change path change now t u first) (part_kept first.old first.object first.is ∙ ap part same ∙ h)

  -- a later change that gives this part is kept after this change where it is kept before it
  module _ (wanted : A) (later : Object → Object) (wears : (o : Object) → part o ≡ wanted → later o ≡ o) (worn : (o : Object) → later o ≡ o → part o ≡ wanted) where
    kept_after : IsKeptBy later path t → IsKeptBy later path u
    kept_after kept o e =
        let same : first.object ≡ o = same_Some first.object o (sym (after_change path change now t u first) ∙ e) in
        wears o (sym (ap part same) ∙ part_kept first.old first.object first.is ∙ worn first.old (kept first.old first.there))

    kept_before : IsKeptBy later path u → IsKeptBy later path t
    kept_before kept o e =
        let same : first.old ≡ o = same_Some first.old o (sym first.there ∙ e) in
        wears o (sym (ap part same) ∙ sym (part_kept first.old first.object first.is) ∙ worn first.object (kept first.object (after_change path change now t u first)))

    pub still_kept : (kept : Bool) → (IsTrue kept ↔ IsKeptBy later path t) → (IsTrue kept ↔ IsKeptBy later path u)
    still_kept kept h = (λ yes. kept_after (h.0 yes), λ keeps. h.1 (kept_before keeps))

-- ---- what changes nothing leaves what is there

-- where a change changes nothing of the object at a path, that stands there after it
pub kept_there : (change : Object → Object) (path : Path) (now : ℕ) (t u : Files) → ChangedAt change path now t u → IsKeptBy change path t → places u path ≡ places t path
kept_there change path now t u a kept = after_change path change now t u a ∙ ap Some (same a.is) ∙ sym a.there
  where
    same : IsChanged change now a.old a.object → a.object ≡ a.old
    same (inl h) = h.1
    same (inr h) = absurd (h.0 (kept a.old a.there))

-- what has all of owner, mode and ACL has each of them
module _ (kind : Kind) (new : Metadata) (fits : IsMetadata kind new) (o : Object) (kept : with_access_of new o ≡ o) where
  pub owner_kept : with_owner_of new o ≡ o
  owner_kept = firm_owner new o (firm_mode kind new fits o kept)

  pub mode_kept : with_mode_of new o ≡ o
  mode_kept = ap (with_mode_of new) (sym owner_kept) ∙ firm_mode kind new fits o kept

  pub acl_left : with_acl_of new o ≡ o
  acl_left = sets_metadata_acl new o (sym (ap (λ x. x.node.acl) kept))

-- an answer passed on refuses what the call before refused
pub refused_passed : (q r : Result (Unit {0}) TreeFault) {e : TreeFault} → q ≡ Err e → IsErrAnd r (λ y. y ≡ e) → refused r ≡ refused q
refused_passed q (Ok x) was h = absurd h
refused_passed q (Err y) was h = ap (λ (f : TreeFault). refused {A = Unit {0}} (Err f)) h ∙ sym (ap (λ (v : Result (Unit {0}) TreeFault). refused v) was)

-- ---- the changes one after another

module _ (path : Path) (new : Metadata) (now : ℕ) (t : Files) where
  abbrev first_two : Object → Object
  first_two = λ o. with_mode_of new (with_owner_of new o)

  setting_metadata_owner : (v : Files) → Changing path (with_owner_of new) t v → SettingMetadata path new t v
  setting_metadata_owner v (inl e) = (0, λ q. e q ∙ sym (object_states-stamped path (λ o. o) (λ o. refl) (places t) q))
  setting_metadata_owner v (inr e) = (1, e)

  setting_metadata_mode : (u v : Files) → ChangedAt (with_owner_of new) path now t u → Changing path (with_mode_of new) u v → SettingMetadata path new t v
  setting_metadata_mode u v first (inl e) = (1, λ q. e q ∙ object_states_changed path (with_owner_of new) now t u first q)
  setting_metadata_mode u v first (inr e) = (2, more_changed path (with_owner_of new) (with_mode_of new) (λ o. refl) t u v (object_states_changed path (with_owner_of new) now t u first) e)

  setting_metadata_acl : (u v : Files) → ChangedAt first_two path now t u → Changing path (with_acl_of new) u v → SettingMetadata path new t v
  setting_metadata_acl u v first (inl e) = (2, λ q. e q ∙ object_states_changed path first_two now t u first q)
  setting_metadata_acl u v first (inr e) = (3, more_changed path first_two (with_acl_of new) (λ o. refl) t u v (object_states_changed path first_two now t u first) e)

  same_acl : (a b : Object) → IsChanged first_two now a b → b.node.acl ≡ (first_two a).node.acl
  same_acl a b (inl h) = ap (λ o. o.node.acl) (h.1 ∙ sym h.0)
  same_acl a b (inr h) = ap (λ o. o.node.acl) h.1

  gives_acl : (u : Files) → ChangedAt first_two path now t u → (s : Step) → GivesAcl path new u s → GivesMetadata path new t s
  gives_acl u first s gives = inr (inr (inl (
    gives.is,
    λ o e h.
        let same : first.old ≡ o = same_Some first.old o (sym first.there ∙ e) in
        gives.other first.object (after_change path first_two now t u first) (same_acl first.old first.object first.is ∙ ap (λ x. (first_two x).node.acl) same ∙ h),
  )))

  pub two_changed : (u v : Files) → ChangedAt (with_owner_of new) path now t u → ChangedAt (with_mode_of new) path now u v → ChangedAt first_two path now t v
  two_changed u v a b = changed_then now (with_owner_of new) (with_mode_of new) (λ o. refl) (firm_owner new) path t u v a b

  -- ---- what is kept after the changes before it

  abbrev mode_parts : Object → ℕ × (ℕ × (ℕ × ℕ))
  mode_parts o = (o.node.special, (o.node.acl.access.owner, (o.node.acl.access.group, o.node.acl.access.other)))

  abbrev extended_parts : Object → Option ℕ × (List Named × Option Part)
  extended_parts o = (o.node.acl.access.mask, (o.node.acl.access.named, o.node.acl.default_part))

  has_mode_of : (o : Object) → mode_parts o ≡ (new.special, (new.acl.access.owner, (new.acl.access.group, new.acl.access.other))) → HasMode new o.node
  has_mode_of o e = record {
    special = λ i. (e i).0;
    base = record { owner = λ i. (e i).1.0; group = λ i. (e i).1.1.0; other = λ i. (e i).1.1.1 };
  }

  has_extended_of : (o : Object) → extended_parts o ≡ (new.acl.access.mask, (new.acl.access.named, new.acl.default_part)) → HasExtended new o.node
  has_extended_of o e = record { mask = λ i. (e i).0; named = λ i. (e i).1.0; default_part = λ i. (e i).1.1 }

  module _ (kind : Kind) (fits : IsMetadata kind new) (u : Files) (first : ChangedAt (with_owner_of new) path now t u) (kept : Bool) where
    pub mode_still : (IsTrue kept ↔ IsKeptBy (with_mode_of new) path t) → (IsTrue kept ↔ IsKeptBy (with_mode_of new) path u)
    mode_still =
        still_kept path now t u mode_parts (with_owner_of new) (λ o. refl) (λ o. refl) first
        (new.special, (new.acl.access.owner, (new.acl.access.group, new.acl.access.other))) (with_mode_of new) (λ o e. sets_metadata_mode kind new fits o (has_mode_of o e))
        (λ o e. let h = mode_worn kind new fits o e in λ i. (h.special i, (h.base.owner i, (h.base.group i, h.base.other i)))) kept

    module _ (v : Files) (second : ChangedAt (with_mode_of new) path now u v) where
      both : ChangedAt first_two path now t v
      both = two_changed u v first second

      extended_still : (IsTrue kept ↔ IsKeptBy (with_extended_of new) path t) → (IsTrue kept ↔ IsKeptBy (with_extended_of new) path v)
      extended_still =
          still_kept path now t v extended_parts first_two (λ o. refl) (λ o. refl) both
          (new.acl.access.mask, (new.acl.access.named, new.acl.default_part)) (with_extended_of new) (λ o e. sets_metadata_extended new o (has_extended_of o e))
          (λ o e. let h = extended_worn new o e in λ i. (h.mask i, (h.named i, h.default_part i))) kept

      -- with the mode there, what the mode does not give makes up the ACL
      acl_of_extended : IsKeptBy (with_extended_of new) path v → IsKeptBy (with_acl_of new) path v
      acl_of_extended keeps o e =
          let same : both.object ≡ o = same_Some both.object o (sym (after_change path first_two now t v both) ∙ e) in
          let acl : o.node.acl ≡ (first_two both.old).node.acl = sym (ap (λ x. x.node.acl) same) ∙ same_acl both.old both.object both.is in
          let base = mode_digits kind new fits in
          let rest = extended_worn new o (keeps o e) in
          sets_metadata_acl new o (λ i. record {
            access = record {
              owner = (ap (λ x. x.access.owner) acl ∙ base.owner) i;
              group = (ap (λ x. x.access.group) acl ∙ base.group) i;
              other = (ap (λ x. x.access.other) acl ∙ base.other) i;
              mask = rest.mask i;
              named = rest.named i;
            };
            default_part = rest.default_part i;
          })

      extended_of_acl : IsKeptBy (with_acl_of new) path v → IsKeptBy (with_extended_of new) path v
      extended_of_acl keeps o e =
          let acl : o.node.acl ≡ new.acl = acl_worn new o (keeps o e) in
          sets_metadata_extended new o (record { mask = ap (λ x. x.access.mask) acl; named = ap (λ x. x.access.named) acl; default_part = ap (λ x. x.default_part) acl })

      pub acl_still : (IsTrue kept ↔ IsKeptBy (with_extended_of new) path t) → (IsTrue kept ↔ IsKeptBy (with_acl_of new) path v)
      acl_still h = let here = extended_still h in (λ yes. acl_of_extended (here.0 yes), λ keeps. here.1 (extended_of_acl keeps))

  pub all_changed : (kind : Kind) → IsMetadata kind new → (u v w : Files) → ChangedAt (with_owner_of new) path now t u → ChangedAt (with_mode_of new) path now u v → ChangedAt (with_acl_of new) path now v w → ChangedAt (with_access_of new) path now t w
  all_changed kind fits u v w a b c = changed_then now first_two (with_acl_of new) (λ o. refl) (firm_mode kind new fits) path t v w (two_changed u v a b) c

  pub all_changed_on : (r : Result (Unit {0}) TreeFault) → (kind : Kind) → IsMetadata kind new → (u v w : Files) → ChangedAt (with_owner_of new) path now t u → ChangedAt (with_mode_of new) path now u v
      → OnOk r (ChangedAt (with_acl_of new) path now v w) → OnOk r (ChangedAt (with_access_of new) path now t w)
  all_changed_on (Ok x) kind fits u v w a b c = all_changed kind fits u v w a b c
  all_changed_on (Err e) kind fits u v w a b c = tt

  -- ---- extended attributes and letters after these

  abbrev first_four : Object → Object
  first_four = λ o. with_attrs_of new (with_access_of new o)

  setting_metadata_attrs : (u v : Files) → ChangedAt (with_access_of new) path now t u → Changing path (with_attrs_of new) u v → SettingMetadata path new t v
  setting_metadata_attrs u v first (inl e) = (3, λ q. e q ∙ object_states_changed path (with_access_of new) now t u first q)
  setting_metadata_attrs u v first (inr e) = (4, more_changed path (with_access_of new) (with_attrs_of new) (λ o. refl) t u v (object_states_changed path (with_access_of new) now t u first) e)

  setting_metadata_letters : (u v : Files) → ChangedAt first_four path now t u → Changing path (with_letters_of new) u v → SettingMetadata path new t v
  setting_metadata_letters u v first (inl e) = (4, λ q. e q ∙ object_states_changed path first_four now t u first q)
  setting_metadata_letters u v first (inr e) = (5, more_changed path first_four (with_letters_of new) (λ o. refl) t u v (object_states_changed path first_four now t u first) e)

  gives_attrs : (u : Files) → ChangedAt (with_access_of new) path now t u → (s : Step) → GivesAttrs path new u s → GivesMetadata path new t s
  gives_attrs u first s gives = inr (inr (inr (inl (gives.is, lacks_before path now t u (λ o. o.node.attrs) (with_access_of new) (λ o. refl) (λ o. refl) first new.attrs gives.other))))

  gives_letters : (u : Files) → ChangedAt first_four path now t u → (s : Step) → GivesLetters path new u s → GivesMetadata path new t s
  gives_letters u first s gives = inr (inr (inr (inr (gives.is, lacks_before path now t u (λ o. o.node.letters) first_four (λ o. refl) (λ o. refl) first new.letters gives.other))))

  pub four_changed : (u v : Files) → ChangedAt (with_access_of new) path now t u → ChangedAt (with_attrs_of new) path now u v → ChangedAt first_four path now t v
  four_changed u v a b = changed_then now (with_access_of new) (with_attrs_of new) (λ o. refl) (firm_access new) path t u v a b

  module _ (u : Files) (first : ChangedAt (with_access_of new) path now t u) (kept : Bool) where
    pub attrs_still : (IsTrue kept ↔ IsKeptBy (with_attrs_of new) path t) → (IsTrue kept ↔ IsKeptBy (with_attrs_of new) path u)
    attrs_still = still_kept path now t u (λ o. o.node.attrs) (with_access_of new) (λ o. refl) (λ o. refl) first new.attrs (with_attrs_of new) (sets_metadata_attrs new) (attrs_worn new) kept

    pub letters_still : (v : Files) → ChangedAt (with_attrs_of new) path now u v → (IsTrue kept ↔ IsKeptBy (with_letters_of new) path t) → (IsTrue kept ↔ IsKeptBy (with_letters_of new) path v)
    letters_still v second =
        still_kept path now t v (λ o. o.node.letters) first_four (λ o. refl) (λ o. refl) (four_changed u v first second) new.letters (with_letters_of new) (sets_metadata_letters new) (letters_worn new) kept

  pub with_metadata_on : (r : Result (Unit {0}) TreeFault) → (u v w : Files) → ChangedAt (with_access_of new) path now t u → ChangedAt (with_attrs_of new) path now u v
      → OnOk r (ChangedAt (with_letters_of new) path now v w) → OnOk r (ChangedAt (with_metadata new) path now t w)
  with_metadata_on (Ok x) u v w a b c = changed_then now first_four (with_letters_of new) (λ o. refl) (firm_attrs new) path t v w (four_changed u v a b) c
  with_metadata_on (Err e) u v w a b c = tt

-- ---- calls that make the changes

module _ {S : Type 0} (tree : Ghosts S) (moves : Moves tree) (path : Path) (new : Metadata) (now : ℕ) (a b : S) where
  -- on the way from the tree at the beginning
  abbrev on_way : Files → Type 0
  on_way = SettingMetadata path new (tree.state a)

  abbrev step_of : Step → Type 0
  step_of = GivesMetadata path new (tree.state a)

  pub owner_sets_metadata : {A : Type 0} {r : Result A TreeFault} → Acted tree (Changing path (with_owner_of new) (tree.state a)) (λ step. step ≡ SetOwner path new.uid new.gid) 1 now a b r
      → Acted tree on_way step_of 1 now a b r
  owner_sets_metadata acted =
      acted_weaken tree (Changing path (with_owner_of new) (tree.state a)) on_way (λ step. step ≡ SetOwner path new.uid new.gid) step_of 1 1
      (setting_metadata_owner path new now (tree.state a)) (λ s e. inl e) (omega arith) acted

  module _ {A B : Type 0} {x : A} {r : Result B TreeFault} (c : S) where
    pub mode_sets_metadata : Acted tree (Changing path (with_owner_of new) (tree.state a)) (λ step. step ≡ SetOwner path new.uid new.gid) 1 now a b (Ok x)
        → ChangedAt (with_owner_of new) path now (tree.state a) (tree.state b)
        → Acted tree (Changing path (with_mode_of new) (tree.state b)) (λ step. step ≡ SetMode path (metadata_mode new)) 1 now b c r → Acted tree on_way step_of 2 now a c r
    mode_sets_metadata before first after =
        acted_then tree moves on_way step_of (owner_sets_metadata before)
        (acted_weaken tree (Changing path (with_mode_of new) (tree.state b)) on_way (λ step. step ≡ SetMode path (metadata_mode new)) step_of 1 1
        (λ w. setting_metadata_mode path new now (tree.state a) (tree.state b) w first) (λ s e. inr (inl e)) (omega arith) after)

    pub acl_sets_metadata : Acted tree on_way step_of 2 now a b (Ok x) → ChangedAt (first_two path new now (tree.state a)) path now (tree.state a) (tree.state b)
        → Acted tree (Changing path (with_acl_of new) (tree.state b)) (GivesAcl path new (tree.state b)) 1 now b c r → Acted tree on_way step_of 3 now a c r
    acl_sets_metadata before first after =
        acted_then tree moves on_way step_of before
        (acted_weaken tree (Changing path (with_acl_of new) (tree.state b)) on_way (GivesAcl path new (tree.state b)) step_of 1 1
        (λ w. setting_metadata_acl path new now (tree.state a) (tree.state b) w first) (gives_acl path new now (tree.state a) (tree.state b) first) (omega arith) after)

    pub attrs_sets_metadata : Acted tree on_way step_of 3 now a b (Ok x) → ChangedAt (with_access_of new) path now (tree.state a) (tree.state b)
        → Acted tree (Changing path (with_attrs_of new) (tree.state b)) (GivesAttrs path new (tree.state b)) 1 now b c r → Acted tree on_way step_of 4 now a c r
    attrs_sets_metadata before first after =
        acted_then tree moves on_way step_of before
        (acted_weaken tree (Changing path (with_attrs_of new) (tree.state b)) on_way (GivesAttrs path new (tree.state b)) step_of 1 1
        (λ w. setting_metadata_attrs path new now (tree.state a) (tree.state b) w first) (gives_attrs path new now (tree.state a) (tree.state b) first) (omega arith) after)

    pub letters_sets_metadata : Acted tree on_way step_of 4 now a b (Ok x) → ChangedAt (first_four path new now (tree.state a)) path now (tree.state a) (tree.state b)
        → Acted tree (Changing path (with_letters_of new) (tree.state b)) (GivesLetters path new (tree.state b)) 1 now b c r → Acted tree on_way step_of 5 now a c r
    letters_sets_metadata before first after =
        acted_then tree moves on_way step_of before
        (acted_weaken tree (Changing path (with_letters_of new) (tree.state b)) on_way (GivesLetters path new (tree.state b)) step_of 1 1
        (λ w. setting_metadata_letters path new now (tree.state a) (tree.state b) w first) (gives_letters path new now (tree.state a) (tree.state b) first) (omega arith) after)
