-- What the columns of a node say of it.
use Rattle.std.proofs.Common.{◌≡◌, ◌≢◌, ℕ, ◌+◌, ◌*◌, ◌/◌, ◌%◌, ◌≤◌, true, ◌&&◌, ◌==◌, List, [], ◌∷◌, ◌++◌, Option, Some, None, refl, sym, ap, ◌∙◌, subst, arith, if◌then◌else◌}
use Rattle.std.specs.List.{list_all}
use Rattle.std.specs.Option.{option_map_or}
use Rattle.std.proofs.lemmas.Bool.{and_parts}
use Rattle.pv_acl.specs.declared.part.Acl.{Acl}
use Rattle.pv_acl.specs.declared.part.Part.{Part}
use Rattle.pv_acl.specs.NamedEntries.{is_named, is_ordered, is_perm}
use Rattle.pv_acl.specs.Parts.{base_of, is_acl, is_part, mode_of, part_of_mode}
use Rattle.pv_acl.specs.Texts.{acl_text}
use Rattle.pv_path.specs.Paths.{Path}
use Rattle.pv_path.specs.Printing.{printed_path}
use Rattle.pv_steps.specs.declared.node.Kind.{Kind}
use Rattle.pv_steps.specs.declared.node.Kind.TheVariants.{Directory, File, Link, Fifo, CharDevice, BlockDevice}
use Rattle.pv_steps.specs.declared.object.Object.{Object}
use Rattle.pv_steps.specs.Objects.{AclFits, IsObject}
use Rattle.pv_image.specs.declared.node.Plain.{Plain}
use Rattle.pv_image.specs.declared.extras.Extras.{Extras}
use Rattle.pv_image.specs.declared.payload.Payload.{Payload}
use Rattle.pv_image.specs.declared.version.Version.{Version}
use Rattle.pv_image.specs.Spelling.{HasNames, IsEntry, IsExtras, IsPayload, columns, extra_texts, extras_of, kind_text, mode_text, payload_of, payload_text}
use Rattle.pv_image.specs.Nodes.{IsAclOf, IsPlain, object_of, plain_texts}
use Rattle.pv_acl.proofs.Allowed.{perm_fits}

-- ---- the letter of a kind, and the digits of a mode

kind_at : ℕ → Option Kind
kind_at b =
    if b == 100 then Some Directory
    else if b == 102 then Some File
    else if b == 108 then Some Link
    else if b == 112 then Some Fifo
    else if b == 99 then Some CharDevice
    else Some BlockDevice

kind_in : List ℕ → Option Kind
kind_in [] = None
kind_in (b ∷ bs) = kind_at b

kind_back : (kind : Kind) → kind_in (kind_text kind) ≡ Some kind
unfolding kind_in kind_at
kind_back Directory = refl
kind_back File = refl
kind_back Link = refl
kind_back Fifo = refl
kind_back CharDevice = refl
kind_back BlockDevice = refl

pub kind_text-injective : (a b : Kind) → kind_text a ≡ kind_text b → a ≡ b
kind_text-injective a b e = let same : Some a ≡ Some b = sym (kind_back a) ∙ ap kind_in e ∙ kind_back b in cc

digits_back : (m : ℕ) → m ≤ 4095 → 512 * (m / 512 % 8) + 64 * (m / 64 % 8) + 8 * (m / 8 % 8) + m % 8 ≡ m
digits_back m small = omega arith

pub mode_text-injective : (m n : ℕ) → m ≤ 4095 → n ≤ 4095 → mode_text m ≡ mode_text n → m ≡ n
mode_text-injective m n fits small e =
    let a : 48 + m / 512 % 8 ≡ 48 + n / 512 % 8 = cc in
    let b : 48 + m / 64 % 8 ≡ 48 + n / 64 % 8 = cc in
    let c : 48 + m / 8 % 8 ≡ 48 + n / 8 % 8 = cc in
    let d : 48 + m % 8 ≡ 48 + n % 8 = cc in
    let x = digits_back m fits in
    let y = digits_back n small in
    omega arith

-- ---- what an entry has

-- the base entries of a part are permissions
pub record BaseFits (part : Part) : Type 0 where
  pub owner : part.owner ≤ 7
  pub group : part.group ≤ 7
  pub other : part.other ≤ 7

base_fits : (part : Part) → is_part part ≡ true → BaseFits part
base_fits part e =
    let o = is_perm part.owner in
    let g = is_perm part.group in
    let t = is_perm part.other in
    let n = list_all is_named part.named in
    let r = is_ordered part.named in
    let five = (and_parts (o && g && t && n && r) (option_map_or is_perm part.mask true) e).0 in
    let four = (and_parts (o && g && t && n) r five).0 in
    let three = (and_parts (o && g && t) n four).0 in
    let two = and_parts (o && g) t three in
    let one = and_parts o g two.0 in
    record { owner = perm_fits part.owner one.0; group = perm_fits part.group one.1; other = perm_fits part.other two.1 }

access_is : (acl : Acl) → is_acl acl ≡ true → is_part acl.access ≡ true
access_is acl e = (and_parts (is_part acl.access) (option_map_or is_part acl.default_part true) e).0

base_is : (special : ℕ) (part : Part) → BaseFits part → base_of part ≡ part_of_mode (mode_of special part)
base_is special part fits =
    let o : part.owner ≡ mode_of special part / 64 % 8 = let a = fits.owner in let b = fits.group in let c = fits.other in omega arith in
    let g : part.group ≡ mode_of special part / 8 % 8 = let a = fits.owner in let b = fits.group in let c = fits.other in omega arith in
    let t : part.other ≡ mode_of special part % 8 = let a = fits.owner in let b = fits.group in let c = fits.other in omega arith in
    λ i. record { owner = o i; group = g i; other = t i; named = []; mask = None }

-- the plain columns of an entry
abbrev pub mode_at : Object → ℕ
mode_at o = mode_of o.node.special o.node.acl.access

abbrev pub plain_at : Object → Plain
plain_at o = record { kind = o.node.kind; mode = mode_at o; uid = o.node.uid; gid = o.node.gid; stamps = o.node.stamps }

pub plain_is : (o : Object) → IsObject o → IsPlain (plain_at o)
plain_is o is =
    let fits = base_fits o.node.acl.access (access_is o.node.acl is.acl) in
    record {
      mode = let a = fits.owner in let b = fits.group in let c = fits.other in let d = is.special in omega arith;
      uid = is.owner.0;
      gid = is.owner.1;
      stamps = is.stamps;
    }

pub special_is : (o : Object) → IsObject o → o.node.special ≡ mode_at o / 512
special_is o is =
    let fits = base_fits o.node.acl.access (access_is o.node.acl is.acl) in
    let a = fits.owner in
    let b = fits.group in
    let c = fits.other in
    omega arith

pub acl_is : (o : Object) → IsObject o → IsAclOf o.node.kind (mode_at o) o.node.acl
acl_is o is = record {
  base = base_is o.node.special o.node.acl.access (base_fits o.node.acl.access (access_is o.node.acl is.acl));
  allowed = is.acl;
  fits = subst (λ (s : ℕ). AclFits o.node.kind s o.node.acl) (special_is o is) is.kind_acl;
}

pub payload_is : (o : Object) → IsObject o → IsPayload o.node.kind (payload_of o)
payload_is o is = record { fits = is.payload; are_bytes = is.bytes; numbers = is.numbers }

-- ---- columns that are no entry's

-- the plain columns say the kind and the mode
pub same_plain : (a b : Plain) → IsPlain a → IsPlain b → plain_texts a ≡ plain_texts b → (a.kind ≡ b.kind) × (a.mode ≡ b.mode)
same_plain a b is fits e =
    let kinds : kind_text a.kind ≡ kind_text b.kind = cc in
    let modes : mode_text a.mode ≡ mode_text b.mode = cc in
    (kind_text-injective a.kind b.kind kinds, mode_text-injective a.mode b.mode is.mode fits.mode modes)

-- the last element of a list, and those before it
pub last_apart : {A : Type 0} (xs ys : List A) (x y : A) → xs ++ x ∷ [] ≡ ys ++ y ∷ [] → (xs ≡ ys) × (x ≡ y)
last_apart [] [] x y e = (refl, cc)
last_apart [] (b ∷ []) x y e = cc
last_apart [] (b ∷ c ∷ ys) x y e = cc
last_apart (a ∷ []) [] x y e = cc
last_apart (a ∷ b ∷ xs) [] x y e = cc
last_apart (a ∷ xs) (b ∷ ys) x y e =
    let rest : xs ++ x ∷ [] ≡ ys ++ y ∷ [] = cc in
    let first : a ≡ b = cc in
    let below = last_apart xs ys x y rest in
    (let same : xs ≡ ys = below.0 in cc, below.1)

pub extras_is : (version : Version) (e : Path × Object) → IsEntry version e → IsExtras version e.1.node.kind (extras_of e.1)
extras_is version e is = record { attrs = is.object.attrs; letters = is.object.letters; shown = is.shown }

module _ (version : Version) (kind path mode uid gid stamps acl : List ℕ) (more : List (List ℕ)) (payload : List ℕ) where
  abbrev pub plain_columns : List (List ℕ)
  plain_columns = kind ∷ mode ∷ uid ∷ gid ∷ stamps ∷ []

  abbrev pub all_columns : List (List ℕ)
  all_columns = kind ∷ path ∷ mode ∷ uid ∷ gid ∷ stamps ∷ acl ∷ more ++ payload ∷ []

  plain_part : (e : Path × Object) → all_columns ≡ columns version e → plain_columns ≡ plain_texts (plain_at e.1)
  plain_part e same = cc

  last_part : (e : Path × Object) → all_columns ≡ columns version e → (more ≡ extra_texts version (extras_of e.1)) × (payload ≡ payload_text e.1.node.kind (payload_of e.1))
  last_part e same =
      let rest : more ++ payload ∷ [] ≡ extra_texts version (extras_of e.1) ++ payload_text e.1.node.kind (payload_of e.1) ∷ [] = cc in
      last_apart more (extra_texts version (extras_of e.1)) payload (payload_text e.1.node.kind (payload_of e.1)) rest

  pub none_plain : ((x : Plain) → IsPlain x → plain_columns ≢ plain_texts x) → (e : Path × Object) → IsEntry version e → all_columns ≢ columns version e
  none_plain none e is same = none (plain_at e.1) (plain_is e.1 is.object) (plain_part e same)

  pub none_path : ((x : Path) → HasNames x → path ≢ printed_path x) → (e : Path × Object) → IsEntry version e → all_columns ≢ columns version e
  none_path none e is same = none e.0 is.path (let p : path ≡ printed_path e.0 = cc in p)

  module _ (plain : Plain) (read : IsPlain plain × (plain_columns ≡ plain_texts plain)) where
    same_as : (e : Path × Object) → IsEntry version e → all_columns ≡ columns version e → (e.1.node.kind ≡ plain.kind) × (mode_at e.1 ≡ plain.mode)
    same_as e is same = same_plain (plain_at e.1) plain (plain_is e.1 is.object) read.0 (sym (plain_part e same) ∙ read.1)

    pub none_acl : ((x : Acl) → IsAclOf plain.kind plain.mode x → acl ≢ acl_text x) → (e : Path × Object) → IsEntry version e → all_columns ≢ columns version e
    none_acl none e is same =
        let alike = same_as e is same in
        let here : acl ≡ acl_text e.1.node.acl = cc in
        let fits : IsAclOf plain.kind (mode_at e.1) e.1.node.acl = subst (λ (k : Kind). IsAclOf k (mode_at e.1) e.1.node.acl) alike.0 (acl_is e.1 is.object) in
        none e.1.node.acl (subst (λ (m : ℕ). IsAclOf plain.kind m e.1.node.acl) alike.1 fits) here

    pub none_extras : ((x : Extras) → IsExtras version plain.kind x → more ≢ extra_texts version x) → (e : Path × Object) → IsEntry version e → all_columns ≢ columns version e
    none_extras none e is same =
        none (extras_of e.1) (subst (λ (k : Kind). IsExtras version k (extras_of e.1)) (same_as e is same).0 (extras_is version e is)) (last_part e same).0

    pub none_payload : ((x : Payload) → IsPayload plain.kind x → payload ≢ payload_text plain.kind x) → (e : Path × Object) → IsEntry version e → all_columns ≢ columns version e
    none_payload none e is same =
        let alike = same_as e is same in
        let here : payload ≡ payload_text e.1.node.kind (payload_of e.1) = (last_part e same).1 in
        none (payload_of e.1) (subst (λ (k : Kind). IsPayload k (payload_of e.1)) alike.0 (payload_is e.1 is.object))
        (subst (λ (k : Kind). payload ≡ payload_text k (payload_of e.1)) alike.0 here)

    pub entry_is : (names : Path) (list : Acl) (extras : Extras) (rest : Payload) → HasNames names × (path ≡ printed_path names) → IsAclOf plain.kind plain.mode list × (acl ≡ acl_text list)
        → IsExtras version plain.kind extras × (more ≡ extra_texts version extras)
        → IsPayload plain.kind rest × (payload ≡ payload_text plain.kind rest) → IsEntry version (names, object_of plain list extras rest) × (all_columns ≡ columns version (names, object_of plain list extras rest))
    entry_is names list extras rest p a x w =
        let bits : plain.mode / 512 ≤ 7 = let m = read.0.mode in omega arith in
        let owner : list.access.owner ≡ plain.mode / 64 % 8 = ap (λ (x : Part). x.owner) a.0.base in
        let group : list.access.group ≡ plain.mode / 8 % 8 = ap (λ (x : Part). x.group) a.0.base in
        let other : list.access.other ≡ plain.mode % 8 = ap (λ (x : Part). x.other) a.0.base in
        let whole : mode_of (plain.mode / 512) list.access ≡ plain.mode = let m = read.0.mode in omega arith in
        let modes : mode ≡ mode_text (mode_of (plain.mode / 512) list.access) = let here : mode ≡ mode_text plain.mode = cc in here ∙ ap mode_text (sym whole) in
        let object : IsObject (object_of plain list extras rest) = record {
          payload = w.0.fits;
          bytes = w.0.are_bytes;
          numbers = w.0.numbers;
          special = bits;
          owner = (read.0.uid, read.0.gid);
          acl = a.0.allowed;
          kind_acl = a.0.fits;
          stamps = read.0.stamps;
          attrs = x.0.attrs;
          letters = x.0.letters;
        } in
        (record { path = p.0; object = object; shown = x.0.shown }, cc (read.1, p.1, a.1, x.1, w.1, modes))
