-- Laws of objects: each change that a step makes leaves an object whole.
use Rattle.std.specs.Prelude.{◌≡◌, ℕ, ◌/◌, ◌^◌, ◌<◌, ◌≤◌, true, List, [], Option, None, Some, nat_lt, option_map, is_some}
use Rattle.std.proofs.Common.{refl, sym, ap, ◌∙◌, subst, arith, inl, inr, ◌⊎◌, lit≤}
use Rattle.std.specs.List.{list_all}
use Rattle.std.proofs.lemmas.Bool.{and_parts, and_from}
use Rattle.pv_acl.specs.declared.part.Acl.{Acl}
use Rattle.pv_acl.specs.declared.part.Part.{Part}
use Rattle.pv_acl.specs.Parts as parts
use Rattle.pv_acl.specs.Parts.{is_acl, is_part, special_of, acl_of_mode}
use Rattle.pv_steps.specs.declared.attr.Attr.{Attr}
use Rattle.pv_steps.specs.Attributes.{are_attrs}
use Rattle.pv_steps.specs.declared.node.Kind.{Kind}
use Rattle.pv_steps.specs.declared.node.Kind.TheVariants.{Directory, File, Link, Fifo, CharDevice, BlockDevice}
use Rattle.pv_steps.specs.declared.object.Object.{Object}
use Rattle.pv_steps.specs.Trees.{kind_of}
use Rattle.pv_steps.specs.Objects.{object_state, is_directory, fresh, changed, modified, with_mode, with_owner, with_acl, with_attrs, with_letters, with_stamps, with_content, IsObject, IsId, AclFits, PayloadFits, NumbersFit, AttrsFit, LettersFit}
use Rattle.pv_acl.proofs.Spelt.{is_perm-digit, is_acl-of_mode}

pub small_special : (mode : ℕ) → mode ≤ 4095 → special_of mode ≤ 7
small_special mode h = omega arith

is_part-with_mode : (mode : ℕ) (part : Part) → is_part part ≡ true → is_part (parts.with_mode mode part) ≡ true
is_part-with_mode mode part h =
    let abcdef = and_parts _ _ h in
    let abcde = and_parts _ _ abcdef.0 in
    let d = (and_parts _ _ abcde.0).1 in
    and_from _ _ (and_from _ _ (and_from _ _ (and_from _ _ (and_from _ _ (is_perm-digit (mode / 64)) (is_perm-digit (mode / 8))) (is_perm-digit mode)) d) abcde.1) abcdef.1

pub is_acl-with_mode : (mode : ℕ) (acl : Acl) → is_acl acl ≡ true → is_acl (record acl { access = parts.with_mode mode acl.access }) ≡ true
is_acl-with_mode mode acl h =
    and_from _ _ (is_part-with_mode mode acl.access (and_parts _ _ h).0) (and_parts (is_part acl.access) _ h).1

module _ (now : ℕ) (fits : now < 2 ^ 64) where
  pub IsObject-changed : (o : Object) → IsObject o → IsObject (changed now o)
  IsObject-changed o h = record { payload = h.payload; bytes = h.bytes; numbers = h.numbers; special = h.special; owner = h.owner; acl = h.acl; kind_acl = h.kind_acl; stamps = record { access = h.stamps.access; birth = h.stamps.birth; change = fits; modify = h.stamps.modify }; attrs = h.attrs; letters = h.letters }

  pub IsObject-modified : (o : Object) → IsObject o → IsObject (modified now o)
  IsObject-modified o h = record { payload = h.payload; bytes = h.bytes; numbers = h.numbers; special = h.special; owner = h.owner; acl = h.acl; kind_acl = h.kind_acl; stamps = record { access = h.stamps.access; birth = h.stamps.birth; change = fits; modify = fits }; attrs = h.attrs; letters = h.letters }

  pub IsObject-with_owner : (uid gid : ℕ) (o : Object) → IsId uid → IsId gid → IsObject o → IsObject (with_owner uid gid now o)
  IsObject-with_owner uid gid o u g h = record { payload = h.payload; bytes = h.bytes; numbers = h.numbers; special = h.special; owner = (u, g); acl = h.acl; kind_acl = h.kind_acl; stamps = record { access = h.stamps.access; birth = h.stamps.birth; change = fits; modify = h.stamps.modify }; attrs = h.attrs; letters = h.letters }

  pub IsObject-with_stamps : (access modify : ℕ) (o : Object) → access < 2 ^ 64 → modify < 2 ^ 64 → IsObject o → IsObject (with_stamps access modify now o)
  IsObject-with_stamps access modify o a m h = record { payload = h.payload; bytes = h.bytes; numbers = h.numbers; special = h.special; owner = h.owner; acl = h.acl; kind_acl = h.kind_acl; stamps = record { access = a; birth = h.stamps.birth; change = fits; modify = m }; attrs = h.attrs; letters = h.letters }

  fits_file : (kind : Kind) (payload : List ℕ) → kind ≡ File → PayloadFits kind payload
  fits_file kind payload e = subst (λ k. PayloadFits k payload) (sym e) tt

  pub IsObject-with_content : (content : List ℕ) (o : Object) → o.node.kind ≡ File → list_all (λ b. nat_lt b 256) content ≡ true → IsObject o → IsObject (with_content content now o)
  IsObject-with_content content o file bytes h = record { payload = fits_file o.node.kind content file; bytes = bytes; numbers = h.numbers; special = h.special; owner = h.owner; acl = h.acl; kind_acl = h.kind_acl; stamps = record { access = h.stamps.access; birth = h.stamps.birth; change = fits; modify = fits }; attrs = h.attrs; letters = h.letters }

  acl_fits : (kind : Kind) (special : ℕ) (acl : Acl) → (kind ≡ Link → ⊥) → ((acl.default_part ≡ None) ⊎ (kind ≡ Directory)) → AclFits kind special acl
  acl_fits Directory special acl real h = tt
  acl_fits File special acl real (inl h) = h
  acl_fits File special acl real (inr h) = cc
  acl_fits Link special acl real h = absurd (real refl)
  acl_fits Fifo special acl real (inl h) = h
  acl_fits Fifo special acl real (inr h) = cc
  acl_fits CharDevice special acl real (inl h) = h
  acl_fits CharDevice special acl real (inr h) = cc
  acl_fits BlockDevice special acl real (inl h) = h
  acl_fits BlockDevice special acl real (inr h) = cc

  pub IsObject-with_acl : (acl : Acl) (o : Object) → (o.node.kind ≡ Link → ⊥) → ((acl.default_part ≡ None) ⊎ (o.node.kind ≡ Directory)) → is_acl acl ≡ true → IsObject o → IsObject (with_acl acl now o)
  IsObject-with_acl acl o real default is h = record { payload = h.payload; bytes = h.bytes; numbers = h.numbers; special = h.special; owner = h.owner; acl = is; kind_acl = acl_fits o.node.kind o.node.special acl real default; stamps = record { access = h.stamps.access; birth = h.stamps.birth; change = fits; modify = h.stamps.modify }; attrs = h.attrs; letters = h.letters }

  attrs_fit : (kind : Kind) (attrs : List Attr) → (kind ≡ Link → ⊥) → are_attrs attrs ≡ true → AttrsFit kind attrs
  attrs_fit Directory attrs real h = h
  attrs_fit File attrs real h = h
  attrs_fit Link attrs real h = absurd (real refl)
  attrs_fit Fifo attrs real h = h
  attrs_fit CharDevice attrs real h = h
  attrs_fit BlockDevice attrs real h = h

  pub IsObject-with_attrs : (attrs : List Attr) (o : Object) → (o.node.kind ≡ Link → ⊥) → are_attrs attrs ≡ true → IsObject o → IsObject (with_attrs attrs now o)
  IsObject-with_attrs attrs o real are h = record { payload = h.payload; bytes = h.bytes; numbers = h.numbers; special = h.special; owner = h.owner; acl = h.acl; kind_acl = h.kind_acl; stamps = record { access = h.stamps.access; birth = h.stamps.birth; change = fits; modify = h.stamps.modify }; attrs = attrs_fit o.node.kind attrs real are; letters = h.letters }

  letters_fit : (kind : Kind) (letters : ℕ) → ((kind ≡ File) ⊎ (kind ≡ Directory)) → letters < 2 ^ 15 → LettersFit kind letters
  letters_fit kind letters (inl e) h = subst (λ k. LettersFit k letters) (sym e) h
  letters_fit kind letters (inr e) h = subst (λ k. LettersFit k letters) (sym e) h

  pub IsObject-with_letters : (letters : ℕ) (o : Object) → ((o.node.kind ≡ File) ⊎ (o.node.kind ≡ Directory)) → letters < 2 ^ 15 → IsObject o → IsObject (with_letters letters now o)
  IsObject-with_letters letters o carries is_perm-digit h = record { payload = h.payload; bytes = h.bytes; numbers = h.numbers; special = h.special; owner = h.owner; acl = h.acl; kind_acl = h.kind_acl; stamps = record { access = h.stamps.access; birth = h.stamps.birth; change = fits; modify = h.stamps.modify }; attrs = h.attrs; letters = letters_fit o.node.kind letters carries is_perm-digit }

  default_of : (kind : Kind) (special : ℕ) (acl : Acl) → (kind ≡ Link → ⊥) → AclFits kind special acl → (acl.default_part ≡ None) ⊎ (kind ≡ Directory)
  default_of Directory special acl real h = inr refl
  default_of File special acl real h = inl h
  default_of Link special acl real h = absurd (real refl)
  default_of Fifo special acl real h = inl h
  default_of CharDevice special acl real h = inl h
  default_of BlockDevice special acl real h = inl h

  pub IsObject-with_mode : (mode : ℕ) (o : Object) → mode ≤ 4095 → (o.node.kind ≡ Link → ⊥) → IsObject o → IsObject (with_mode mode now o)
  IsObject-with_mode mode o is_perm-digit real h = record { payload = h.payload; bytes = h.bytes; numbers = h.numbers; special = small_special mode is_perm-digit; owner = h.owner; acl = is_acl-with_mode mode o.node.acl h.acl; kind_acl = acl_fits o.node.kind (special_of mode) _ real (default_of o.node.kind o.node.special o.node.acl real h.kind_acl); stamps = record { access = h.stamps.access; birth = h.stamps.birth; change = fits; modify = h.stamps.modify }; attrs = h.attrs; letters = h.letters }

pub no_attrs : (kind : Kind) → AttrsFit kind []
no_attrs Directory = refl
no_attrs File = refl
no_attrs Link = refl
no_attrs Fifo = refl
no_attrs CharDevice = refl
no_attrs BlockDevice = refl

pub no_letters : (kind : Kind) → LettersFit kind 0
no_letters Directory = lit≤ tt
no_letters File = lit≤ tt
no_letters Link = refl
no_letters Fifo = refl
no_letters CharDevice = refl
no_letters BlockDevice = refl

-- a new object is whole where its kind takes the payload, the numbers and the mode
pub IsObject-fresh : (kind : Kind) (mode : ℕ) (payload : List ℕ) (major minor now : ℕ) → now < 2 ^ 64 → mode ≤ 4095 → PayloadFits kind payload → list_all (λ b. nat_lt b 256) payload ≡ true
    → NumbersFit kind major minor → AclFits kind (special_of mode) (acl_of_mode mode) → IsObject (fresh kind mode payload major minor now)
IsObject-fresh kind mode payload major minor now fits is_perm-digit p b n a = record {
  payload = p;
  bytes = b;
  numbers = n;
  special = small_special mode is_perm-digit;
  owner = (lit≤ tt, lit≤ tt);
  acl = is_acl-of_mode mode;
  kind_acl = a;
  stamps = record { access = fits; birth = fits; change = fits; modify = fits };
  attrs = no_attrs kind;
  letters = no_letters kind;
}

-- ---- objects that are the same except for timestamps

pub directory_is : (kind : Kind) → is_directory kind ≡ true → kind ≡ Directory
directory_is Directory e = refl
directory_is File e = cc
directory_is Link e = cc
directory_is Fifo e = cc
directory_is CharDevice e = cc
directory_is BlockDevice e = cc

pub kind_of-object_state : (o : Option Object) → kind_of (option_map object_state o) ≡ kind_of o
kind_of-object_state None = refl
kind_of-object_state (Some x) = refl

pub is_some-object_state : (o : Option Object) → is_some (option_map object_state o) ≡ is_some o
is_some-object_state None = refl
is_some-object_state (Some x) = refl

pub none_from_object_state : (o : Option Object) → option_map object_state o ≡ None → o ≡ None
none_from_object_state None e = refl
none_from_object_state (Some x) e = absurd (let no : Some (object_state x) ≡ None = e in cc)

pub kind_of-same : (a b : Option Object) → option_map object_state a ≡ option_map object_state b → kind_of a ≡ kind_of b
kind_of-same a b e = sym (kind_of-object_state a) ∙ ap kind_of e ∙ kind_of-object_state b

pub is_some-same : (a b : Option Object) → option_map object_state a ≡ option_map object_state b → is_some a ≡ is_some b
is_some-same a b e = sym (is_some-object_state a) ∙ ap is_some e ∙ is_some-object_state b
