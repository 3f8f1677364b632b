-- Doing operations again changes nothing.
use Rattle.std.specs.Prelude.{◌≡◌, ℕ, Bool, true, false, List, [], ◌∷◌, fold, ◌⊎◌, if◌then◌else◌}
use Rattle.std.proofs.Common.{refl, inl, inr}
use Rattle.std.specs.List.{list_any}
use Rattle.std.specs.Int.{bit_at}
use Rattle.std.proofs.lemmas.Nat.Bits.{same_from_bits}
use Rattle.pv_acl.specs.declared.part.Part.{Part}
use Rattle.pv_acl.specs.Parts.{part_of_mode}
use Rattle.pv_steps.specs.declared.node.Kind.{Kind}
use Rattle.pv_walk.specs.declared.object_state.ObjectState.{ObjectState}
use Rattle.pv_walk.specs.declared.operation.Change.{Change}
use Rattle.pv_walk.specs.declared.operation.Operation.{Operation}
use Rattle.pv_walk.specs.declared.operation.Operation.TheVariants.{Make, Renew, Erase, Apply}
use Rattle.pv_walk.specs.Masks.{with_masked}
use Rattle.pv_walk.specs.Operations.{admits, changed}
use Rattle.pv_walk.specs.Reasons.{is_adjusting, is_append, is_masked, gives_base}
use Rattle.pv_walk.proofs.Settling.{Settled, settled_twice, settled-chained, IsChained, chained_all}
use Rattle.pv_walk.proofs.Cutting.{cut-self, Cuts, cuts_twice, cuts-chained}
use Rattle.pv_walk.proofs.Puts.{Puts, puts_twice, puts-chained, PutsAttrs, puts_attrs_twice, puts_attrs-chained}
use Rattle.pv_walk.proofs.PartChanges.{plain-part_after, base}
use Rattle.pv_walk.proofs.NodeChanges.{Keeps, keeps-chained, keeps-changed, settled-payload, settled-uid, settled-gid, settled-special, settled-base, settled-mask, cuts-base, puts-named, puts-attrs, settled-letters, MayFill, fills-chained, fills_twice, fills-changed}

-- ---- the changes of a list, for an object of a kind

abbrev pub adjusted : Kind → Operation → ObjectState → ObjectState
adjusted kind (Apply guard change) b = if admits guard kind then changed kind change b else b
adjusted kind operation b = b

abbrev pub all_adjusted : Kind → List Operation → ObjectState → ObjectState
all_adjusted kind xs b = fold (λ b x. adjusted kind x b) b xs

module _ (P : (ObjectState → ObjectState) → Type 0) (chained : IsChained P) (kind : Kind) (bad : Change → Bool) (each : (c : Change) → bad c ≡ false → P (changed kind c)) where
  chained_one : (x : Operation) → is_adjusting bad x ≡ false → P (adjusted kind x)
  chained_one (Make new) h = chained.none
  chained_one (Renew test new) h = chained.none
  chained_one Erase h = chained.none
  chained_one (Apply guard change) h = by (admits guard kind)
    where
      by : (t : Bool) → P (λ b. if t then changed kind change b else b)
      by true = each change h
      by false = chained.none

  pub chained_adjusted : (xs : List Operation) → list_any (is_adjusting bad) xs ≡ false → P (all_adjusted kind xs)
  chained_adjusted xs h = chained_all P chained (adjusted kind) (is_adjusting bad) chained_one xs h

-- a test that nothing passes
abbrev never : Change → Bool
never c = false

none_adjusting : (xs : List Operation) → list_any (is_adjusting never) xs ≡ false
none_adjusting [] = refl
none_adjusting (Make new ∷ xs) = none_adjusting xs
none_adjusting (Renew test new ∷ xs) = none_adjusting xs
none_adjusting (Erase ∷ xs) = none_adjusting xs
none_adjusting (Apply guard change ∷ xs) = none_adjusting xs

module _ (P : (ObjectState → ObjectState) → Type 0) (chained : IsChained P) (kind : Kind) (each : (c : Change) → P (changed kind c)) where
  pub chained_any : (xs : List Operation) → P (all_adjusted kind xs)
  chained_any xs = chained_adjusted P chained kind never (λ c h. each c) xs (none_adjusting xs)

pub keeps-adjusted : (kind : Kind) (xs : List Operation) → Keeps kind (all_adjusted kind xs)
keeps-adjusted kind xs = chained_any (Keeps kind) (keeps-chained kind) kind (keeps-changed kind) xs

-- ---- twice is once

module _ (kind : Kind) (xs : List Operation) where
  abbrev all : ObjectState → ObjectState
  all b = all_adjusted kind xs b

  settled_all : {B : Type 0} (attribute : ObjectState → B) (bad : Change → Bool) → ((c : Change) → bad c ≡ false → Settled attribute (changed kind c)) → list_any (is_adjusting bad) xs ≡ false → (b : ObjectState) → attribute (all (all b)) ≡ attribute (all b)
  settled_all attribute bad each h b = settled_twice attribute all (chained_adjusted (Settled attribute) (settled-chained attribute) kind bad each xs h) b

  settled_any : {B : Type 0} (attribute : ObjectState → B) → ((c : Change) → Settled attribute (changed kind c)) → (b : ObjectState) → attribute (all (all b)) ≡ attribute (all b)
  settled_any attribute each b = settled_twice attribute all (chained_any (Settled attribute) (settled-chained attribute) kind each xs) b

  -- the base entries, one by one where no mode is masked, together if no line gives one
  base_twice : (list_any (is_adjusting is_masked) xs ≡ false) ⊎ (list_any (is_adjusting gives_base) xs ≡ false) → (b : ObjectState) → base (all (all b)).metadata.acl.access ≡ base (all b).metadata.acl.access
  base_twice (inl h) b = λ i. record { owner = owner i; group = group i; other = other i }
    where
      owner : (all (all b)).metadata.acl.access.owner ≡ (all b).metadata.acl.access.owner
      owner = settled_all (λ b. b.metadata.acl.access.owner) is_masked (settled-base (λ (p : Part). p.owner) (λ m x y. refl) (λ how es. (plain-part_after how es).owner) kind) h b

      group : (all (all b)).metadata.acl.access.group ≡ (all b).metadata.acl.access.group
      group = settled_all (λ b. b.metadata.acl.access.group) is_masked (settled-base (λ (p : Part). p.group) (λ m x y. refl) (λ how es. (plain-part_after how es).group) kind) h b

      other : (all (all b)).metadata.acl.access.other ≡ (all b).metadata.acl.access.other
      other = settled_all (λ b. b.metadata.acl.access.other) is_masked (settled-base (λ (p : Part). p.other) (λ m x y. refl) (λ how es. (plain-part_after how es).other) kind) h b
  base_twice (inr h) b = cuts_twice (λ (b : ObjectState). base b.metadata.acl.access) all (chained_adjusted (Cuts (λ (b : ObjectState). base b.metadata.acl.access)) (cuts-chained (λ (b : ObjectState). base b.metadata.acl.access)) kind gives_base (cuts-base kind) xs h) b

  named_twice : (b : ObjectState) → (all (all b)).metadata.acl.access.named ≡ (all b).metadata.acl.access.named
  named_twice b = puts_twice (λ (b : ObjectState). b.metadata.acl.access.named) all (chained_any (Puts (λ (b : ObjectState). b.metadata.acl.access.named)) (puts-chained (λ (b : ObjectState). b.metadata.acl.access.named)) kind (puts-named kind) xs) b

  attrs_twice : (b : ObjectState) → (all (all b)).metadata.attrs ≡ (all b).metadata.attrs
  attrs_twice b = puts_attrs_twice (λ (b : ObjectState). b.metadata.attrs) all (chained_any (PutsAttrs (λ (b : ObjectState). b.metadata.attrs)) (puts_attrs-chained (λ (b : ObjectState). b.metadata.attrs)) kind (puts-attrs kind) xs) b

  letters_twice : (b : ObjectState) → (all (all b)).metadata.letters ≡ (all b).metadata.letters
  letters_twice b = same_from_bits (all (all b)).metadata.letters (all b).metadata.letters (λ i. settled_any (λ b. bit_at b.metadata.letters i) (settled-letters i kind) b)

  default_twice : (b : ObjectState) → (all (all b)).metadata.acl.default_part ≡ (all b).metadata.acl.default_part
  default_twice b = fills_twice all (chained_any MayFill fills-chained kind (fills-changed kind) xs) b

  pub adjusted_twice : list_any (is_adjusting is_append) xs ≡ false → (list_any (is_adjusting is_masked) xs ≡ false) ⊎ (list_any (is_adjusting gives_base) xs ≡ false) → (b : ObjectState) → all (all b) ≡ all b
  adjusted_twice append mask b = λ i. record {
    body = record { kind = same.same (all b) i; payload = payload i; major = same.major (all b) i; minor = same.minor (all b) i };
    metadata = record {
      uid = settled_any (λ b. b.metadata.uid) (settled-uid kind) b i;
      gid = settled_any (λ b. b.metadata.gid) (settled-gid kind) b i;
      special = settled_any (λ b. b.metadata.special) (settled-special kind) b i;
      acl = record {
        access = record {
          owner = (bases i).owner;
          group = (bases i).group;
          other = (bases i).other;
          named = named_twice b i;
          mask = settled_any (λ b. b.metadata.acl.access.mask) (settled-mask kind) b i;
        };
        default_part = default_twice b i;
      };
      attrs = attrs_twice b i;
      letters = letters_twice b i;
    };
  }
    where
      same : Keeps kind all
      same = keeps-adjusted kind xs

      payload : (all (all b)).body.payload ≡ (all b).body.payload
      payload = settled_all (λ b. b.body.payload) is_append (settled-payload kind) append b

      bases : base (all (all b)).metadata.acl.access ≡ base (all b).metadata.acl.access
      bases = base_twice mask b

-- ---- a mask and its own mode

pub with_masked-own : (mode : ℕ) → with_masked mode (part_of_mode mode) ≡ part_of_mode mode
with_masked-own mode = λ i. record (part_of_mode mode) {
  owner = (cut-self (base (part_of_mode mode)) i).owner;
  group = (cut-self (base (part_of_mode mode)) i).group;
  other = (cut-self (base (part_of_mode mode)) i).other;
}
