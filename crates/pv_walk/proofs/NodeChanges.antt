-- What changes make of an object of a kind, attribute by attribute.
use Rattle.std.specs.Prelude.{◌≡◌, ℕ, ◌/◌, ◌%◌, Bool, true, false, if◌then◌else◌, List, [], ◌∷◌, Option, Some, None, ◌⊎◌}
use Rattle.std.proofs.Common.{refl, sym, ap, ◌∙◌, inl, inr}
use Rattle.pv_acl.specs.declared.line.Entry.{Entry}
use Rattle.pv_acl.specs.declared.line.How.{How}
use Rattle.pv_acl.specs.declared.part.Part.{Part}
use Rattle.pv_acl.specs.Parts as parts
use Rattle.pv_acl.specs.Parts.{base_of}
use Rattle.pv_acl.specs.Applying.{part_after, default_after}
use Rattle.pv_steps.specs.declared.attr.Attr.{Attr}
use Rattle.pv_steps.specs.declared.letters.LetterHow.{LetterHow}
use Rattle.pv_steps.specs.Attributes.{put_attrs}
use Rattle.pv_steps.specs.Letters.{letters_after}
use Rattle.pv_steps.specs.declared.node.Kind.{Kind}
use Rattle.pv_steps.specs.declared.node.Kind.TheVariants.{Directory, File}
use Rattle.pv_walk.specs.declared.object_state.ObjectState.{ObjectState}
use Rattle.pv_walk.specs.declared.operation.Change.{Change}
use Rattle.pv_walk.specs.declared.operation.Change.TheVariants.{Write, Append, Owner, Mode, Entries, Attrs, Letters}
use Rattle.pv_walk.specs.Nodes.{carries_letters, is_link}
use Rattle.pv_walk.specs.Operations.{changed}
use Rattle.pv_walk.specs.Reasons.{is_append, is_masked, gives_base}
use Rattle.pv_walk.proofs.Settling.{Settled, IsChained}
use Rattle.pv_walk.proofs.Cutting.{Cuts}
use Rattle.std.specs.Int.{bit_at}
use Rattle.pv_walk.proofs.LetterChanges.{settled-letter}
use Rattle.pv_walk.proofs.Puts.{Puts, PutsAttrs}
use Rattle.pv_walk.proofs.PartChanges.{IsPlain, plain_twice, plain-chained, plain-part_after, base, base-part_after}

-- ---- what stays: the kind, the numbers of a device, the target of a link

pub record Keeps (kind : Kind) (f : ObjectState → ObjectState) : Type 0 where
  pub same : (b : ObjectState) → (f b).body.kind ≡ b.body.kind
  pub major : (b : ObjectState) → (f b).body.major ≡ b.body.major
  pub minor : (b : ObjectState) → (f b).body.minor ≡ b.body.minor
  pub target : is_link kind ≡ true → (b : ObjectState) → (f b).body.payload ≡ b.body.payload

pub keeps-chained : (kind : Kind) → IsChained (Keeps kind)
keeps-chained kind = record {
  none = record { same = λ b. refl; major = λ b. refl; minor = λ b. refl; target = λ l b. refl };
  both = λ f g p q. record {
    same = λ b. q.same (f b) ∙ p.same b;
    major = λ b. q.major (f b) ∙ p.major b;
    minor = λ b. q.minor (f b) ∙ p.minor b;
    target = λ l b. q.target l (f b) ∙ p.target l b;
  };
}

pub keeps-changed : (kind : Kind) (c : Change) → Keeps kind (changed kind c)
keeps-changed File (Write bytes) = record { same = λ b. refl; major = λ b. refl; minor = λ b. refl; target = λ l. absurd (let no : false ≡ true = l in cc) }
keeps-changed kind (Write bytes) = (keeps-chained kind).none
keeps-changed File (Append bytes) = record { same = λ b. refl; major = λ b. refl; minor = λ b. refl; target = λ l. absurd (let no : false ≡ true = l in cc) }
keeps-changed kind (Append bytes) = (keeps-chained kind).none
keeps-changed kind (Owner uid gid) = record { same = λ b. refl; major = λ b. refl; minor = λ b. refl; target = λ l b. refl }
keeps-changed kind (Mode mode false) = record { same = λ b. refl; major = λ b. refl; minor = λ b. refl; target = λ l b. refl }
keeps-changed kind (Mode mode true) = record { same = λ b. refl; major = λ b. refl; minor = λ b. refl; target = λ l b. refl }
keeps-changed kind (Entries line how) = record { same = λ b. refl; major = λ b. refl; minor = λ b. refl; target = λ l b. refl }
keeps-changed kind (Attrs attrs) = by (is_link kind)
  where
    by : (t : Bool) → Keeps kind (λ b. if t then b else record b { metadata = record b.metadata { attrs = put_attrs attrs b.metadata.attrs } })
    by true = (keeps-chained kind).none
    by false = record { same = λ b. refl; major = λ b. refl; minor = λ b. refl; target = λ l b. refl }
keeps-changed kind (Letters how letters) = by (carries_letters kind)
  where
    by : (t : Bool) → Keeps kind (λ b. if t then record b { metadata = record b.metadata { letters = letters_after how letters b.metadata.letters } } else b)
    by true = record { same = λ b. refl; major = λ b. refl; minor = λ b. refl; target = λ l b. refl }
    by false = (keeps-chained kind).none

-- ---- what is given one value or stays

-- changes of extended attributes and letters leave what lies beside them
module _ {B : Type 0} (attribute : ObjectState → B) where
  beside_attrs : ((new : List Attr) (b : ObjectState) → attribute (record b { metadata = record b.metadata { attrs = new } }) ≡ attribute b) → (kind : Kind) (attrs : List Attr) (b : ObjectState) → attribute (changed kind (Attrs attrs) b) ≡ attribute b
  beside_attrs stays kind attrs b = by (is_link kind)
    where
      by : (t : Bool) → attribute (if t then b else record b { metadata = record b.metadata { attrs = put_attrs attrs b.metadata.attrs } }) ≡ attribute b
      by true = refl
      by false = stays (put_attrs attrs b.metadata.attrs) b

  beside_letters : ((new : ℕ) (b : ObjectState) → attribute (record b { metadata = record b.metadata { letters = new } }) ≡ attribute b) → (kind : Kind) (how : LetterHow) (letters : ℕ) (b : ObjectState) → attribute (changed kind (Letters how letters) b) ≡ attribute b
  beside_letters stays kind how letters b = by (carries_letters kind)
    where
      by : (t : Bool) → attribute (if t then record b { metadata = record b.metadata { letters = letters_after how letters b.metadata.letters } } else b) ≡ attribute b
      by true = stays (letters_after how letters b.metadata.letters) b
      by false = refl

pub settled-payload : (kind : Kind) (c : Change) → is_append c ≡ false → Settled (λ (b : ObjectState). b.body.payload) (changed kind c)
settled-payload File (Write bytes) h = inr (λ a b. refl)
settled-payload kind (Write bytes) h = inl (λ b. refl)
settled-payload kind (Append bytes) h = cc
settled-payload kind (Owner uid gid) h = inl (λ b. refl)
settled-payload kind (Mode mode false) h = inl (λ b. refl)
settled-payload kind (Mode mode true) h = inl (λ b. refl)
settled-payload kind (Entries line how) h = inl (λ b. refl)
settled-payload kind (Attrs attrs) h = inl (beside_attrs (λ (b : ObjectState). b.body.payload) (λ n b. refl) kind attrs)
settled-payload kind (Letters how letters) h = inl (beside_letters (λ (b : ObjectState). b.body.payload) (λ n b. refl) kind how letters)

pub settled-uid : (kind : Kind) (c : Change) → Settled (λ (b : ObjectState). b.metadata.uid) (changed kind c)
settled-uid File (Write bytes) = inl (λ b. refl)
settled-uid kind (Write bytes) = inl (λ b. refl)
settled-uid File (Append bytes) = inl (λ b. refl)
settled-uid kind (Append bytes) = inl (λ b. refl)
settled-uid kind (Owner None gid) = inl (λ b. refl)
settled-uid kind (Owner (Some uid) gid) = inr (λ a b. refl)
settled-uid kind (Mode mode false) = inl (λ b. refl)
settled-uid kind (Mode mode true) = inl (λ b. refl)
settled-uid kind (Entries line how) = inl (λ b. refl)
settled-uid kind (Attrs attrs) = inl (beside_attrs (λ (b : ObjectState). b.metadata.uid) (λ n b. refl) kind attrs)
settled-uid kind (Letters how letters) = inl (beside_letters (λ (b : ObjectState). b.metadata.uid) (λ n b. refl) kind how letters)

pub settled-gid : (kind : Kind) (c : Change) → Settled (λ (b : ObjectState). b.metadata.gid) (changed kind c)
settled-gid File (Write bytes) = inl (λ b. refl)
settled-gid kind (Write bytes) = inl (λ b. refl)
settled-gid File (Append bytes) = inl (λ b. refl)
settled-gid kind (Append bytes) = inl (λ b. refl)
settled-gid kind (Owner uid None) = inl (λ b. refl)
settled-gid kind (Owner uid (Some gid)) = inr (λ a b. refl)
settled-gid kind (Mode mode false) = inl (λ b. refl)
settled-gid kind (Mode mode true) = inl (λ b. refl)
settled-gid kind (Entries line how) = inl (λ b. refl)
settled-gid kind (Attrs attrs) = inl (beside_attrs (λ (b : ObjectState). b.metadata.gid) (λ n b. refl) kind attrs)
settled-gid kind (Letters how letters) = inl (beside_letters (λ (b : ObjectState). b.metadata.gid) (λ n b. refl) kind how letters)

pub settled-special : (kind : Kind) (c : Change) → Settled (λ (b : ObjectState). b.metadata.special) (changed kind c)
settled-special File (Write bytes) = inl (λ b. refl)
settled-special kind (Write bytes) = inl (λ b. refl)
settled-special File (Append bytes) = inl (λ b. refl)
settled-special kind (Append bytes) = inl (λ b. refl)
settled-special kind (Owner uid gid) = inl (λ b. refl)
settled-special kind (Mode mode false) = inr (λ a b. refl)
settled-special kind (Mode mode true) = inr (λ a b. refl)
settled-special kind (Entries line how) = inl (λ b. refl)
settled-special kind (Attrs attrs) = inl (beside_attrs (λ (b : ObjectState). b.metadata.special) (λ n b. refl) kind attrs)
settled-special kind (Letters how letters) = inl (beside_letters (λ (b : ObjectState). b.metadata.special) (λ n b. refl) kind how letters)

-- ---- the access part

-- an attribute of the access part that a change of the part settles
at_access : {B : Type 0} (attribute : Part → B) (f : Part → Part) → Settled attribute f → (g : ObjectState → ObjectState)
    → ((b : ObjectState) → (g b).metadata.acl.access ≡ f b.metadata.acl.access) → Settled (λ (b : ObjectState). attribute b.metadata.acl.access) g
at_access attribute f (inl p) g e = inl (λ b. ap attribute (e b) ∙ p b.metadata.acl.access)
at_access attribute f (inr p) g e = inr (λ a b. ap attribute (e a) ∙ p a.metadata.acl.access b.metadata.acl.access ∙ sym (ap attribute (e b)))

-- without masked modes the base entries, one by one
module _ {B : Type 0} (attribute : Part → B) (one : (m : ℕ) (a b : Part) → attribute (parts.with_mode m a) ≡ attribute (parts.with_mode m b))
    (entries : (how : How) (es : List Entry) → Settled attribute (λ p. part_after how p es)) where
  pub settled-base : (kind : Kind) (c : Change) → is_masked c ≡ false → Settled (λ (b : ObjectState). attribute b.metadata.acl.access) (changed kind c)
  settled-base File (Write bytes) h = inl (λ b. refl)
  settled-base kind (Write bytes) h = inl (λ b. refl)
  settled-base File (Append bytes) h = inl (λ b. refl)
  settled-base kind (Append bytes) h = inl (λ b. refl)
  settled-base kind (Owner uid gid) h = inl (λ b. refl)
  settled-base kind (Mode mode false) h = inr (λ a b. one mode a.metadata.acl.access b.metadata.acl.access)
  settled-base kind (Mode mode true) h = cc
  settled-base kind (Entries line how) h = at_access attribute (λ p. part_after how p line.access) (entries how line.access) (changed kind (Entries line how)) (λ b. refl)
  settled-base kind (Attrs attrs) h = inl (beside_attrs (λ (b : ObjectState). attribute b.metadata.acl.access) (λ n b. refl) kind attrs)
  settled-base kind (Letters how letters) h = inl (beside_letters (λ (b : ObjectState). attribute b.metadata.acl.access) (λ n b. refl) kind how letters)

-- without base entries of lines the base entries together
pub cuts-base : (kind : Kind) (c : Change) → gives_base c ≡ false → Cuts (λ (b : ObjectState). base b.metadata.acl.access) (changed kind c)
cuts-base File (Write bytes) h = inl (inl (λ b. refl))
cuts-base kind (Write bytes) h = inl (inl (λ b. refl))
cuts-base File (Append bytes) h = inl (inl (λ b. refl))
cuts-base kind (Append bytes) h = inl (inl (λ b. refl))
cuts-base kind (Owner uid gid) h = inl (inl (λ b. refl))
cuts-base kind (Mode mode false) h = inl (inr (λ a b. refl))
cuts-base kind (Mode mode true) h = inr (record { owner = mode / 64 % 8; group = mode / 8 % 8; other = mode % 8 }, λ b. refl)
cuts-base kind (Entries line how) h = inl (inl (λ b. base-part_after how line.access h b.metadata.acl.access))
cuts-base kind (Attrs attrs) h = inl (inl (beside_attrs (λ (b : ObjectState). base b.metadata.acl.access) (λ n b. refl) kind attrs))
cuts-base kind (Letters how letters) h = inl (inl (beside_letters (λ (b : ObjectState). base b.metadata.acl.access) (λ n b. refl) kind how letters))

pub settled-mask : (kind : Kind) (c : Change) → Settled (λ (b : ObjectState). b.metadata.acl.access.mask) (changed kind c)
settled-mask File (Write bytes) = inl (λ b. refl)
settled-mask kind (Write bytes) = inl (λ b. refl)
settled-mask File (Append bytes) = inl (λ b. refl)
settled-mask kind (Append bytes) = inl (λ b. refl)
settled-mask kind (Owner uid gid) = inl (λ b. refl)
settled-mask kind (Mode mode false) = inl (λ b. refl)
settled-mask kind (Mode mode true) = inl (λ b. refl)
settled-mask kind (Entries line how) = at_access (λ (p : Part). p.mask) (λ p. part_after how p line.access) (plain-part_after how line.access).mask (changed kind (Entries line how)) (λ b. refl)
settled-mask kind (Attrs attrs) = inl (beside_attrs (λ (b : ObjectState). b.metadata.acl.access.mask) (λ n b. refl) kind attrs)
settled-mask kind (Letters how letters) = inl (beside_letters (λ (b : ObjectState). b.metadata.acl.access.mask) (λ n b. refl) kind how letters)

named_at_access : (f : Part → Part) → Puts (λ (p : Part). p.named) f → (g : ObjectState → ObjectState) → ((b : ObjectState) → (g b).metadata.acl.access ≡ f b.metadata.acl.access) → Puts (λ (b : ObjectState). b.metadata.acl.access.named) g
named_at_access f (inl p) g e = inl (p.0, λ b. ap (λ (x : Part). x.named) (e b) ∙ p.1 b.metadata.acl.access)
named_at_access f (inr p) g e = inr (λ a b. ap (λ (x : Part). x.named) (e a) ∙ p a.metadata.acl.access b.metadata.acl.access ∙ sym (ap (λ (x : Part). x.named) (e b)))

pub puts-named : (kind : Kind) (c : Change) → Puts (λ (b : ObjectState). b.metadata.acl.access.named) (changed kind c)
puts-named File (Write bytes) = inl ([], λ b. refl)
puts-named kind (Write bytes) = inl ([], λ b. refl)
puts-named File (Append bytes) = inl ([], λ b. refl)
puts-named kind (Append bytes) = inl ([], λ b. refl)
puts-named kind (Owner uid gid) = inl ([], λ b. refl)
puts-named kind (Mode mode false) = inl ([], λ b. refl)
puts-named kind (Mode mode true) = inl ([], λ b. refl)
puts-named kind (Entries line how) = named_at_access (λ p. part_after how p line.access) (plain-part_after how line.access).named (changed kind (Entries line how)) (λ b. refl)
puts-named kind (Attrs attrs) = inl ([], beside_attrs (λ (b : ObjectState). b.metadata.acl.access.named) (λ n b. refl) kind attrs)
puts-named kind (Letters how letters) = inl ([], beside_letters (λ (b : ObjectState). b.metadata.acl.access.named) (λ n b. refl) kind how letters)

-- ---- extended attributes, and letters

pub puts-attrs : (kind : Kind) (c : Change) → PutsAttrs (λ (b : ObjectState). b.metadata.attrs) (changed kind c)
puts-attrs File (Write bytes) = inl ([], λ b. refl)
puts-attrs kind (Write bytes) = inl ([], λ b. refl)
puts-attrs File (Append bytes) = inl ([], λ b. refl)
puts-attrs kind (Append bytes) = inl ([], λ b. refl)
puts-attrs kind (Owner uid gid) = inl ([], λ b. refl)
puts-attrs kind (Mode mode false) = inl ([], λ b. refl)
puts-attrs kind (Mode mode true) = inl ([], λ b. refl)
puts-attrs kind (Entries line how) = inl ([], λ b. refl)
puts-attrs kind (Attrs attrs) = by (is_link kind)
  where
    by : (t : Bool) → PutsAttrs (λ (b : ObjectState). b.metadata.attrs) (λ b. if t then b else record b { metadata = record b.metadata { attrs = put_attrs attrs b.metadata.attrs } })
    by true = inl ([], λ b. refl)
    by false = inl (attrs, λ b. refl)
puts-attrs kind (Letters how letters) = inl ([], beside_letters (λ (b : ObjectState). b.metadata.attrs) (λ n b. refl) kind how letters)

pub settled-letters : (i : ℕ) (kind : Kind) (c : Change) → Settled (λ (b : ObjectState). bit_at b.metadata.letters i) (changed kind c)
settled-letters i File (Write bytes) = inl (λ b. refl)
settled-letters i kind (Write bytes) = inl (λ b. refl)
settled-letters i File (Append bytes) = inl (λ b. refl)
settled-letters i kind (Append bytes) = inl (λ b. refl)
settled-letters i kind (Owner uid gid) = inl (λ b. refl)
settled-letters i kind (Mode mode false) = inl (λ b. refl)
settled-letters i kind (Mode mode true) = inl (λ b. refl)
settled-letters i kind (Entries line how) = inl (λ b. refl)
settled-letters i kind (Attrs attrs) = inl (beside_attrs (λ (b : ObjectState). bit_at b.metadata.letters i) (λ n b. refl) kind attrs)
settled-letters i kind (Letters how letters) = by (carries_letters kind) (settled-letter how letters i)
  where
    by : (t : Bool) → Settled (λ (set : ℕ). bit_at set i) (λ set. letters_after how letters set)
        → Settled (λ (b : ObjectState). bit_at b.metadata.letters i) (λ b. if t then record b { metadata = record b.metadata { letters = letters_after how letters b.metadata.letters } } else b)
    by true (inl p) = inl (λ b. p b.metadata.letters)
    by true (inr p) = inr (λ a b. p a.metadata.letters b.metadata.letters)
    by false p = inl (λ b. refl)

-- ---- the default part

-- a change that makes a default part if there is none, and changes it alike if there is one
pub record Fills (f : ObjectState → ObjectState) : Type 0 where
  pub part : Part → Part
  pub plain : IsPlain part
  pub over : (b : ObjectState) (p : Part) → b.metadata.acl.default_part ≡ Some p → (f b).metadata.acl.default_part ≡ Some (part p)
  pub made : (b : ObjectState) → (p : Part) × ((f b).metadata.acl.default_part ≡ Some (part p))

abbrev pub MayFill : (ObjectState → ObjectState) → Type 0
MayFill f = ((b : ObjectState) → (f b).metadata.acl.default_part ≡ b.metadata.acl.default_part) ⊎ Fills f

fills_then : (f g : ObjectState → ObjectState) → MayFill f → MayFill g → MayFill (λ b. g (f b))
fills_then f g (inl p) (inl q) = inl (λ b. q (f b) ∙ p b)
fills_then f g (inl p) (inr q) = inr (record { part = q.part; plain = q.plain; over = λ b d h. q.over (f b) d (p b ∙ h); made = λ b. q.made (f b) })
fills_then f g (inr p) (inl q) = inr (record { part = p.part; plain = p.plain; over = λ b d h. q (f b) ∙ p.over b d h; made = λ b. ((p.made b).0, q (f b) ∙ (p.made b).1) })
fills_then f g (inr p) (inr q) = inr (record {
  part = λ d. q.part (p.part d);
  plain = plain-chained.both p.part q.part p.plain q.plain;
  over = λ b d h. q.over (f b) (p.part d) (p.over b d h);
  made = λ b. ((p.made b).0, q.over (f b) (p.part (p.made b).0) (p.made b).1);
})

pub fills-chained : IsChained MayFill
fills-chained = record { none = inl (λ b. refl); both = fills_then }

pub fills_twice : (f : ObjectState → ObjectState) → MayFill f → (b : ObjectState) → (f (f b)).metadata.acl.default_part ≡ (f b).metadata.acl.default_part
fills_twice f (inl p) b = p (f b)
fills_twice f (inr p) b =
    let m : (d : Part) × ((f b).metadata.acl.default_part ≡ Some (p.part d)) = p.made b in
    p.over (f b) (p.part m.0) m.1 ∙ ap (λ (d : Part). Some d) (plain_twice p.part p.plain m.0) ∙ sym m.1

fills_entries : (how : How) (es : List Entry) (f : ObjectState → ObjectState) (access : ObjectState → Part) → ((b : ObjectState) → (f b).metadata.acl.default_part ≡ default_after how (access b) b.metadata.acl.default_part es) → MayFill f
fills_entries how [] f access e = inl e
fills_entries how (x ∷ es) f access e = inr (record {
  part = λ p. part_after how p (x ∷ es);
  plain = plain-part_after how (x ∷ es);
  over = λ b p h. e b ∙ ap (λ d. default_after how (access b) d (x ∷ es)) h;
  made = λ b. by (access b) b.metadata.acl.default_part (f b).metadata.acl.default_part (e b);
})
  where
    by : (a : Part) (d new : Option Part) → new ≡ default_after how a d (x ∷ es) → (p : Part) × (new ≡ Some (part_after how p (x ∷ es)))
    by a None new h = (base_of a, h)
    by a (Some p) new h = (p, h)

pub fills-changed : (kind : Kind) (c : Change) → MayFill (changed kind c)
fills-changed File (Write bytes) = inl (λ b. refl)
fills-changed kind (Write bytes) = inl (λ b. refl)
fills-changed File (Append bytes) = inl (λ b. refl)
fills-changed kind (Append bytes) = inl (λ b. refl)
fills-changed kind (Owner uid gid) = inl (λ b. refl)
fills-changed kind (Mode mode false) = inl (λ b. refl)
fills-changed kind (Mode mode true) = inl (λ b. refl)
fills-changed Directory (Entries line how) = fills_entries how line.default_part (changed Directory (Entries line how)) (λ b. part_after how b.metadata.acl.access line.access) (λ b. refl)
fills-changed kind (Entries line how) = inl (λ b. refl)
fills-changed kind (Attrs attrs) = inl (beside_attrs (λ (b : ObjectState). b.metadata.acl.default_part) (λ n b. refl) kind attrs)
fills-changed kind (Letters how letters) = inl (beside_letters (λ (b : ObjectState). b.metadata.acl.default_part) (λ n b. refl) kind how letters)
