-- Laws of single operations that are set: what each makes of an object without its timestamps, and that the object stays one
-- that its kind can be.
use Rattle.std.specs.Prelude.{◌≡◌, ℕ, ◌-◌, ◌++◌, ◌/◌, ◌%◌, ◌<◌, ◌≤◌, ◌^◌, Bool, true, false, ◌&&◌, ◌∷◌, List, [], bit_and, Some, unwrap_or, if◌then◌else◌}
use Rattle.std.specs.List.{list_all}
use Rattle.std.proofs.Common.{refl, sym, ap, ◌∙◌, arith}
use Rattle.std.proofs.lemmas.Bool.Decides.{nat_tests}
use Rattle.std.proofs.lemmas.Nat.{and_le_l, or_lt}
use Rattle.std.proofs.lemmas.Bool.{and_parts}
use Rattle.pv_acl.specs.declared.part.Acl.{Acl}
use Rattle.pv_acl.specs.declared.part.Part.{Part}
use Rattle.pv_acl.specs.declared.line.AclLine.{AclLine}
use Rattle.pv_acl.specs.declared.line.How.{How}
use Rattle.pv_acl.specs.NamedEntries.{is_perm}
use Rattle.pv_acl.specs.Applying.{acl_after}
use Rattle.pv_acl.specs.Parts as parts
use Rattle.pv_acl.specs.Parts.{is_acl, is_part, special_of}
use Rattle.pv_acl.proofs.Allowed.{allowed_of, is_part-from}
use Rattle.pv_steps.specs.declared.attr.Attr.{Attr}
use Rattle.pv_steps.specs.Attributes.{is_attr, is_ordered, are_attrs, put_attr, put_attrs}
use Rattle.pv_steps.specs.Letters.{letters_after}
use Rattle.pv_steps.specs.declared.letters.LetterHow.{LetterHow}
use Rattle.pv_steps.specs.declared.letters.LetterHow.TheVariants as how
use Rattle.pv_steps.specs.declared.node.Kind.{Kind}
use Rattle.pv_steps.specs.declared.node.Kind.TheVariants.{Directory, File, Link, Fifo, CharDevice, BlockDevice}
use Rattle.pv_steps.specs.Objects.{IsId, AclFits, AttrsFit, LettersFit, is_directory}
use Rattle.pv_steps.proofs.ObjectLaws.{is_acl-with_mode, small_special}
use Rattle.pv_steps.proofs.AttrPutting.{are_attrs-put_attr}
use Rattle.pv_walk.specs.declared.object_state.ObjectState.{ObjectState}
use Rattle.pv_walk.specs.declared.operation.Change.TheVariants.{Write, Append, Owner, Mode}
use Rattle.pv_walk.specs.declared.operation.Guard.{Guard}
use Rattle.pv_walk.specs.declared.operation.Operation.{Operation}
use Rattle.pv_walk.specs.declared.operation.Operation.TheVariants.{Apply}
use Rattle.pv_walk.specs.Dividing.{parts}
use Rattle.pv_walk.specs.SettingMetadata.{IsMetadata}
use Rattle.pv_walk.specs.Masks.{granted, with_masked, masked_special}
use Rattle.pv_walk.specs.Nodes.{carries_letters, is_file, is_link}
use Rattle.pv_walk.specs.Operations.{admits, changed, run}
use Rattle.pv_create.specs.Sets.{AtMostOne, SetsBytes, SetsOwners, SetsMode}
use Rattle.pv_walk.proofs.CopiedLaws.{id_is}

-- an object with other bytes
abbrev pub with_payload : List ℕ → ObjectState → ObjectState
with_payload payload b = record b { body = record b.body { payload = payload } }

-- ---- bytes

pub record BytesMade (xs : List Operation) (b : ObjectState) : Type 0 where
  pub payload : List ℕ
  pub is : run xs (Some b) ≡ Some (with_payload payload b)
  pub plain : parts xs ≡ xs

module _ (b : ObjectState) (guard : Guard) (bytes : List ℕ) where
  abbrev payload_after : List ℕ
  payload_after = if admits guard b.body.kind then (if is_file b.body.kind then bytes else b.body.payload) else b.body.payload

  payload_is : Some (if admits guard b.body.kind then (if is_file b.body.kind then with_payload bytes b else b) else b) ≡ Some (with_payload payload_after b)
  payload_is = by (admits guard b.body.kind) (is_file b.body.kind)
    where
      by : (s t : Bool) → Some (if s then (if t then with_payload bytes b else b) else b) ≡ Some (with_payload (if s then (if t then bytes else b.body.payload) else b.body.payload) b)
      by true true = refl
      by true false = refl
      by false t = refl

pub bytes_made : (xs : List Operation) → AtMostOne SetsBytes xs → (b : ObjectState) → BytesMade xs b
bytes_made [] h b = record { payload = b.body.payload; is = refl; plain = refl }
bytes_made (Apply guard (Write bytes) ∷ []) h b = record { payload = payload_after b guard bytes; is = payload_is b guard bytes; plain = refl }
bytes_made (Apply guard (Append bytes) ∷ []) h b = record { payload = payload_after b guard (b.body.payload ++ bytes); is = payload_is b guard (b.body.payload ++ bytes); plain = refl }
bytes_made (x ∷ []) h b = absurd h
bytes_made (x ∷ y ∷ xs) h b = absurd h

-- ---- owners

pub record OwnersMade (xs : List Operation) (b : ObjectState) : Type 0 where
  pub uid : ℕ
  pub gid : ℕ
  pub is : run xs (Some b) ≡ Some (record b { metadata = record b.metadata { uid = uid; gid = gid } })
  pub ids : IsId b.metadata.uid × IsId b.metadata.gid → IsId uid × IsId gid
  pub plain : parts xs ≡ xs

pub owners_made : (xs : List Operation) → AtMostOne SetsOwners xs → (b : ObjectState) → OwnersMade xs b
owners_made [] h b = record { uid = b.metadata.uid; gid = b.metadata.gid; is = refl; ids = λ k. k; plain = refl }
owners_made (Apply guard (Owner uid gid) ∷ []) h b = by (admits guard b.body.kind) refl
  where
    by : (s : Bool) → admits guard b.body.kind ≡ s → OwnersMade (Apply guard (Owner uid gid) ∷ []) b
    by true e = record {
      uid = unwrap_or uid b.metadata.uid;
      gid = unwrap_or gid b.metadata.gid;
      is = ap (λ s. Some (if s then changed b.body.kind (Owner uid gid) b else b)) e;
      ids = λ k. (id_is uid b.metadata.uid h.0 k.0, id_is gid b.metadata.gid h.1 k.1);
      plain = refl;
    }
    by false e = record {
      uid = b.metadata.uid;
      gid = b.metadata.gid;
      is = ap (λ s. Some (if s then changed b.body.kind (Owner uid gid) b else b)) e;
      ids = λ k. k;
      plain = refl;
    }
owners_made (x ∷ []) h b = absurd h
owners_made (x ∷ y ∷ xs) h b = absurd h

-- ---- modes

pub record ModeMade (xs : List Operation) (b : ObjectState) : Type 0 where
  pub special : ℕ
  pub access : Part
  pub is : run xs (Some b) ≡ Some (record b { metadata = record b.metadata { special = special; acl = record b.metadata.acl { access = access } } })
  pub rest : access ≡ record b.metadata.acl.access { owner = access.owner; group = access.group; other = access.other }
  pub fits : IsMetadata b.body.kind b.metadata → IsMetadata b.body.kind (record b.metadata { special = special; acl = record b.metadata.acl { access = access } })
  pub plain : parts xs ≡ xs

-- what is not a link takes other base entries and other special bits
other_mode : (kind : Kind) (special other : ℕ) (acl : Acl) (access : Part) → (kind ≡ Link → ⊥) → AclFits kind special acl → AclFits kind other (record acl { access = access })
other_mode Directory special other acl access real h = tt
other_mode File special other acl access real h = h
other_mode Link special other acl access real h = absurd (real refl)
other_mode Fifo special other acl access real h = h
other_mode CharDevice special other acl access real h = h
other_mode BlockDevice special other acl access real h = h

small_masked : (kind : Kind) (mode : ℕ) → mode ≤ 4095 → masked_special kind mode ≤ 7
small_masked kind mode h = by (is_directory kind)
  where
    by : (t : Bool) → (if t then special_of mode else 0) ≤ 7
    by true = small_special mode h
    by false = omega arith

cut_perm : (n a : ℕ) → is_perm (bit_and (n % 8) a) ≡ true
cut_perm n a = let h : bit_and (n % 8) a ≤ 7 = (let l = and_le_l (n % 8) a in omega (arith, l)) in grind (arith, nat_tests)

is_acl-with_masked : (mode : ℕ) (acl : Acl) → is_acl acl ≡ true → is_acl (record acl { access = with_masked mode acl.access }) ≡ true
is_acl-with_masked mode acl h =
    let two = and_parts (is_part acl.access) _ h in
    let a = allowed_of acl.access two.0 in
    let part : is_part (with_masked mode acl.access) ≡ true = is_part-from (with_masked mode acl.access) (record {
      owner = cut_perm (mode / 64) (granted acl.access);
      group = cut_perm (mode / 8) (granted acl.access);
      other = cut_perm mode (granted acl.access);
      named = a.named;
      ordered = a.ordered;
      mask = a.mask;
    }) in
    (λ i. part i && two.1 i)

module _ (b : ObjectState) (guard : Guard) (mode : ℕ) (small : mode ≤ 4095) (real : admits guard Link ≡ false) where
  mode_with : (masked : Bool) → admits guard b.body.kind ≡ true → ModeMade (Apply guard (Mode mode masked) ∷ []) b
  mode_with masked e = by masked
    where
      no_link : b.body.kind ≡ Link → ⊥
      no_link k = let wrong : true ≡ false = sym e ∙ ap (admits guard) k ∙ real in cc

      by : (masked : Bool) → ModeMade (Apply guard (Mode mode masked) ∷ []) b
      by false = record {
        special = special_of mode;
        access = parts.with_mode mode b.metadata.acl.access;
        is = ap (λ s. Some (if s then changed b.body.kind (Mode mode false) b else b)) e;
        rest = refl;
        fits = λ d. record {
          owner = d.owner;
          special = small_special mode small;
          acl = is_acl-with_mode mode b.metadata.acl d.acl;
          fits = other_mode b.body.kind b.metadata.special (special_of mode) b.metadata.acl (parts.with_mode mode b.metadata.acl.access) no_link d.fits;
          attrs = d.attrs;
          letters = d.letters;
        };
        plain = refl;
      }
      by true = record {
        special = masked_special b.body.kind mode;
        access = with_masked mode b.metadata.acl.access;
        is = ap (λ s. Some (if s then changed b.body.kind (Mode mode true) b else b)) e;
        rest = refl;
        fits = λ d. record {
          owner = d.owner;
          special = small_masked b.body.kind mode small;
          acl = is_acl-with_masked mode b.metadata.acl d.acl;
          fits = other_mode b.body.kind b.metadata.special (masked_special b.body.kind mode) b.metadata.acl (with_masked mode b.metadata.acl.access) no_link d.fits;
          attrs = d.attrs;
          letters = d.letters;
        };
        plain = refl;
      }

  mode_without : (masked : Bool) → admits guard b.body.kind ≡ false → ModeMade (Apply guard (Mode mode masked) ∷ []) b
  mode_without masked e = record {
    special = b.metadata.special;
    access = b.metadata.acl.access;
    is = ap (λ s. Some (if s then changed b.body.kind (Mode mode masked) b else b)) e;
    rest = refl;
    fits = λ d. d;
    plain = refl;
  }

  mode_either : (masked s : Bool) → admits guard b.body.kind ≡ s → ModeMade (Apply guard (Mode mode masked) ∷ []) b
  mode_either masked true e = mode_with masked e
  mode_either masked false e = mode_without masked e

pub mode_made : (xs : List Operation) → AtMostOne SetsMode xs → (b : ObjectState) → ModeMade xs b
mode_made [] h b = record { special = b.metadata.special; access = b.metadata.acl.access; is = refl; rest = refl; fits = λ d. d; plain = refl }
mode_made (Apply guard (Mode mode masked) ∷ []) h b = mode_either b guard mode h.1 h.0 masked (admits guard b.body.kind) refl
mode_made (x ∷ []) h b = absurd h
mode_made (x ∷ y ∷ xs) h b = absurd h

-- ---- entries, extended attributes, letters

-- what is not a link takes the ACL that entries make
pub fits_entries : (kind : Kind) (special : ℕ) (acl : Acl) (line : AclLine) (how : How) → (kind ≡ Link → ⊥) → AclFits kind special acl → AclFits kind special (acl_after acl line how (is_directory kind))
fits_entries Directory special acl line how real h = tt
fits_entries File special acl line how real h = h
fits_entries Link special acl line how real h = absurd (real refl)
fits_entries Fifo special acl line how real h = h
fits_entries CharDevice special acl line how real h = h
fits_entries BlockDevice special acl line how real h = h

are_attrs-all : (given xs : List Attr) → list_all (λ x. is_attr x.name x.value) given ≡ true → are_attrs xs ≡ true → are_attrs (put_attrs given xs) ≡ true
are_attrs-all [] xs each h = h
are_attrs-all (y ∷ given) xs each h =
    let two = and_parts (is_attr y.name y.value) (list_all (λ x. is_attr x.name x.value) given) each in
    are_attrs-all given (put_attr y xs) two.1 (are_attrs-put_attr y xs two.0 h)

pub fits_attrs : (kind : Kind) (given xs : List Attr) → is_link kind ≡ false → are_attrs given ≡ true → AttrsFit kind xs → AttrsFit kind (put_attrs given xs)
fits_attrs kind given xs real g h = by kind real h
  where
    all : are_attrs xs ≡ true → are_attrs (put_attrs given xs) ≡ true
    all = are_attrs-all given xs (and_parts (list_all (λ x. is_attr x.name x.value) given) (is_ordered given) g).0

    by : (kind : Kind) → is_link kind ≡ false → AttrsFit kind xs → AttrsFit kind (put_attrs given xs)
    by Directory real h = all h
    by File real h = all h
    by Link real h = let wrong : true ≡ false = real in cc
    by Fifo real h = all h
    by CharDevice real h = all h
    by BlockDevice real h = all h

letters_small : (how : LetterHow) (letters set : ℕ) → letters < 2 ^ 15 → set < 2 ^ 15 → letters_after how letters set < 2 ^ 15
letters_small how.Add letters set g h = or_lt 15 set letters h g
letters_small how.Take letters set g h = let l = and_le_l set (2 ^ 15 - 1 - letters) in omega (arith, l, h)
letters_small how.Put letters set g h = g

pub fits_letters : (kind : Kind) (how : LetterHow) (letters set : ℕ) → carries_letters kind ≡ true → letters < 2 ^ 15 → LettersFit kind set → LettersFit kind (letters_after how letters set)
fits_letters Directory how letters set c g h = letters_small how letters set g h
fits_letters File how letters set c g h = letters_small how letters set g h
fits_letters Link how letters set c g h = let wrong : false ≡ true = c in cc
fits_letters Fifo how letters set c g h = let wrong : false ≡ true = c in cc
fits_letters CharDevice how letters set c g h = let wrong : false ≡ true = c in cc
fits_letters BlockDevice how letters set c g h = let wrong : false ≡ true = c in cc
