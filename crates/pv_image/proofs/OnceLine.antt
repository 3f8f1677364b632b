-- No line says two things.
use Rattle.std.proofs.Common.{◌≡◌, ◌≢◌, ℕ, ◌/◌, ◌<◌, ◌^◌, true, false, ◌==◌, List, [], ◌∷◌, ◌++◌, drop, map, codes, refl, sym, ap, ◌∙◌, subst, arith}
use Rattle.std.specs.List.{slice_split, join_with_byte}
use Rattle.std.specs.Fmt.{decimal}
use Rattle.std.proofs.lemmas.Bool.Decides.{nat_tests}
use Rattle.std.proofs.lemmas.Fmt.{decimal_injective}
use Rattle.std.proofs.lemmas.Bool.{and_parts}
use Rattle.pv_acl.specs.Parts.{base_of, part_of_mode}
use Rattle.pv_acl.specs.Texts.{acl_text}
use Rattle.pv_path.specs.Names.{is_name}
use Rattle.pv_path.specs.Paths.{Path, has_names}
use Rattle.pv_path.specs.Printing.{is_plain, printed, printed_path}
use Rattle.pv_steps.specs.declared.node.Kind.{Kind}
use Rattle.pv_steps.specs.declared.node.Kind.TheVariants.{Directory, File, Link, Fifo, CharDevice, BlockDevice}
use Rattle.pv_steps.specs.declared.node.Stamps.{Stamps}
use Rattle.pv_steps.specs.declared.object.Object.{Object}
use Rattle.pv_steps.specs.Objects.{IsObject, StampsFit}
use Rattle.pv_image.specs.declared.extras.Extras.{Extras}
use Rattle.pv_image.specs.declared.payload.Payload.{Payload}
use Rattle.pv_image.specs.declared.version.Version.{Version}
use Rattle.pv_image.specs.declared.version.Version.TheVariants.{One, Two}
use Rattle.pv_image.specs.Spelling.{HasNames, IsEntry, IsExtras, IsPayload, attrs_text, columns, end_text, extra_texts, extras_of, fact_text, fact_texts, header_text, kind_text, letters_text, mode_text, node_text, number_texts, numbers_text, path_texts, payload_of, payload_text, stamp_texts, stamps_text}
use Rattle.pv_image.specs.Images.{IsByteFact, Spells, What, Note, Header, Fact, Node, End, is_note}
use Rattle.pv_image.proofs.AttrTexts.{attrs_are, attrs_once}
use Rattle.pv_image.proofs.Columns.{acl_is, extras_is, kind_text-injective, last_apart, mode_at, mode_text-injective, payload_is, plain_is, special_is}
use Rattle.pv_image.proofs.Facts.{fact_again}
use Rattle.pv_image.proofs.Characters.{numbers_again, path_again, path_joined, stamps_again}
use Rattle.pv_image.proofs.LetterTexts.{letters_are, letters_once}
use Rattle.pv_image.proofs.Once.{content_once}
use Rattle.pv_image.proofs.OnceAcl.{acl_once}
use Rattle.pv_image.proofs.Printing.{printed_injective, some_printed}
use Rattle.pv_image.proofs.Solid.{node_again}

-- ---- columns

path_texts_once : (p q : Path) → has_names p ≡ true → has_names q ≡ true → path_texts p ≡ path_texts q → p ≡ q
path_texts_once [] [] f g e = refl
path_texts_once [] (m ∷ q) f g e = absurd (no_text m (and_parts (is_name m) (has_names q) g).0 (let h : [] ≡ printed m = cc in h))
  where
    no_text : (m : List ℕ) → is_name m ≡ true → [] ≡ printed m → ⊥
    no_text [] f h = let no : is_name [] ≡ false = refl in cc
    no_text (b ∷ m) f h = some_printed is_plain refl b (printed m) (sym h)
path_texts_once (n ∷ p) [] f g e = absurd (no_text n (and_parts (is_name n) (has_names p) f).0 (let h : [] ≡ printed n = cc in h))
  where
    no_text : (m : List ℕ) → is_name m ≡ true → [] ≡ printed m → ⊥
    no_text [] f h = let no : is_name [] ≡ false = refl in cc
    no_text (b ∷ m) f h = some_printed is_plain refl b (printed m) (sym h)
path_texts_once (n ∷ p) (m ∷ q) f g e = names (n ∷ p) (m ∷ q) (let h : map printed (n ∷ p) ≡ map printed (m ∷ q) = cc in h)
  where
    names : (p q : Path) → map printed p ≡ map printed q → p ≡ q
    names [] [] h = refl
    names [] (m ∷ q) h = cc
    names (n ∷ p) [] h = cc
    names (n ∷ p) (m ∷ q) h =
        let first : printed n ≡ printed m = cc in
        let rest : map printed p ≡ map printed q = cc in
        let same : n ≡ m = printed_injective n m first in
        let below : p ≡ q = names p q rest in
        cc

path_once : (p q : Path) → HasNames p → HasNames q → printed_path p ≡ printed_path q → p ≡ q
path_once p q f g e =
    let joined : join_with_byte 47 (path_texts p) ≡ join_with_byte 47 (path_texts q) = path_joined p ∙ e ∙ sym (path_joined q) in
    path_texts_once p q f g (sym (path_again p f) ∙ ap (slice_split (λ b. b == 47)) joined ∙ path_again q g)

stamps_once : (a b : Stamps) → StampsFit a → StampsFit b → stamps_text a ≡ stamps_text b → a ≡ b
stamps_once a b f g e =
    let texts : stamp_texts a ≡ stamp_texts b = sym (stamps_again a f) ∙ ap (slice_split (λ c. c == 44)) e ∙ stamps_again b g in
    let one : decimal a.access ≡ decimal b.access = cc in
    let two : decimal a.birth ≡ decimal b.birth = cc in
    let three : decimal a.change ≡ decimal b.change = cc in
    let four : decimal a.modify ≡ decimal b.modify = cc in
    let access = decimal_injective a.access b.access f.access g.access one in
    let birth = decimal_injective a.birth b.birth f.birth g.birth two in
    let change = decimal_injective a.change b.change f.change g.change three in
    let modify = decimal_injective a.modify b.modify f.modify g.modify four in
    λ i. record { access = access i; birth = birth i; change = change i; modify = modify i }

numbers_once : (a b : ℕ × ℕ) → (a.0 < 2 ^ 32) × (a.1 < 2 ^ 32) → (b.0 < 2 ^ 32) × (b.1 < 2 ^ 32) → numbers_text a ≡ numbers_text b → (a.0 ≡ b.0) × (a.1 ≡ b.1)
numbers_once a b f g e =
    let texts : number_texts a ≡ number_texts b = sym (numbers_again a f) ∙ ap (slice_split (λ c. c == 58)) e ∙ numbers_again b g in
    let one : decimal a.0 ≡ decimal b.0 = cc in
    let two : decimal a.1 ≡ decimal b.1 = cc in
    let f0 = f.0 in
    let f1 = f.1 in
    let g0 = g.0 in
    let g1 = g.1 in
    (decimal_injective a.0 b.0 (omega arith) (omega arith) one, decimal_injective a.1 b.1 (omega arith) (omega arith) two)

made : (x y : Payload) → x.bytes ≡ y.bytes → x.major ≡ y.major → x.minor ≡ y.minor → x ≡ y
made x y p q r = λ i. record { bytes = p i; major = q i; minor = r i }

payload_once : (kind : Kind) (x y : Payload) → IsPayload kind x → IsPayload kind y → payload_text kind x ≡ payload_text kind y → x ≡ y
payload_once Directory x y f g e = made x y (f.fits ∙ sym g.fits) (f.numbers.0 ∙ sym g.numbers.0) (f.numbers.1 ∙ sym g.numbers.1)
payload_once File x y f g e = made x y (content_once x.bytes y.bytes f.are_bytes g.are_bytes e) (f.numbers.0 ∙ sym g.numbers.0) (f.numbers.1 ∙ sym g.numbers.1)
payload_once Link x y f g e = made x y (printed_injective x.bytes y.bytes e) (f.numbers.0 ∙ sym g.numbers.0) (f.numbers.1 ∙ sym g.numbers.1)
payload_once Fifo x y f g e = made x y (f.fits ∙ sym g.fits) (f.numbers.0 ∙ sym g.numbers.0) (f.numbers.1 ∙ sym g.numbers.1)
payload_once CharDevice x y f g e =
    let both = numbers_once (x.major, x.minor) (y.major, y.minor) f.numbers g.numbers e in
    made x y (f.fits ∙ sym g.fits) both.0 both.1
payload_once BlockDevice x y f g e =
    let both = numbers_once (x.major, x.minor) (y.major, y.minor) f.numbers g.numbers e in
    made x y (f.fits ∙ sym g.fits) both.0 both.1

-- ---- nodes

-- the columns of an object except for the kind, read as those of one kind
object_once : (a b : Object) → IsObject a → IsObject b → a.node.kind ≡ b.node.kind → mode_text (mode_at a) ≡ mode_text (mode_at b) → decimal a.node.uid ≡ decimal b.node.uid → decimal a.node.gid ≡ decimal b.node.gid
    → stamps_text a.node.stamps ≡ stamps_text b.node.stamps → acl_text a.node.acl ≡ acl_text b.node.acl → payload_text a.node.kind (payload_of a) ≡ payload_text b.node.kind (payload_of b) → extras_of a ≡ extras_of b → a ≡ b
object_once a b f g kind modes uids gids stamps acls payloads extras =
    let mode : mode_at a ≡ mode_at b = mode_text-injective (mode_at a) (mode_at b) (plain_is a f).mode (plain_is b g).mode modes in
    let special : a.node.special ≡ b.node.special = special_is a f ∙ ap (λ (m : ℕ). m / 512) mode ∙ sym (special_is b g) in
    let fu = f.owner.0 in
    let fg = f.owner.1 in
    let gu = g.owner.0 in
    let gg = g.owner.1 in
    let uid : a.node.uid ≡ b.node.uid = decimal_injective a.node.uid b.node.uid (omega arith) (omega arith) uids in
    let gid : a.node.gid ≡ b.node.gid = decimal_injective a.node.gid b.node.gid (omega arith) (omega arith) gids in
    let times : a.node.stamps ≡ b.node.stamps = stamps_once a.node.stamps b.node.stamps f.stamps g.stamps stamps in
    let base : base_of a.node.acl.access ≡ base_of b.node.acl.access = (acl_is a f).base ∙ ap part_of_mode mode ∙ sym (acl_is b g).base in
    let acl : a.node.acl ≡ b.node.acl = acl_once a.node.acl b.node.acl f.acl g.acl base acls in
    let moved : IsPayload a.node.kind (payload_of b) = subst (λ (k : Kind). IsPayload k (payload_of b)) (sym kind) (payload_is b g) in
    let text : payload_text a.node.kind (payload_of a) ≡ payload_text a.node.kind (payload_of b) = payloads ∙ ap (λ (k : Kind). payload_text k (payload_of b)) (sym kind) in
    let payload : payload_of a ≡ payload_of b = payload_once a.node.kind (payload_of a) (payload_of b) (payload_is a f) moved text in
    λ i. record {
      node = record { kind = kind i; special = special i; uid = uid i; gid = gid i; acl = acl i; stamps = times i; major = (payload i).major; minor = (payload i).minor; attrs = (extras i).attrs; letters = (extras i).letters };
      payload = (payload i).bytes;
    }

extras_same : (x y : Extras) → x.attrs ≡ y.attrs → x.letters ≡ y.letters → x ≡ y
extras_same x y p q = λ i. record { attrs = p i; letters = q i }

extras_once : (version : Version) (k l : Kind) (x y : Extras) → IsExtras version k x → IsExtras version l y → extra_texts version x ≡ extra_texts version y → x ≡ y
extras_once One k l x y f g e = extras_same x y (f.shown.0 ∙ sym g.shown.0) (f.shown.1 ∙ sym g.shown.1)
extras_once Two k l x y f g e =
    let attrs : attrs_text x.attrs ≡ attrs_text y.attrs = cc in
    let letters : letters_text x.letters ≡ letters_text y.letters = cc in
    extras_same x y (attrs_once x.attrs y.attrs (attrs_are k x.attrs f.attrs) (attrs_are l y.attrs g.attrs) attrs)
    (letters_once x.letters y.letters (letters_are k x.letters f.letters) (letters_are l y.letters g.letters) letters)

pub node_once : (version : Version) (a b : Path × Object) → IsEntry version a → IsEntry version b → node_text version a ≡ node_text version b → a ≡ b
node_once version a b f g e =
    let texts : columns version a ≡ columns version b = sym (node_again version a f) ∙ ap (slice_split (λ c. c == 32)) e ∙ node_again version b g in
    let kinds : kind_text a.1.node.kind ≡ kind_text b.1.node.kind = cc in
    let paths : printed_path a.0 ≡ printed_path b.0 = cc in
    let modes : mode_text (mode_at a.1) ≡ mode_text (mode_at b.1) = cc in
    let uids : decimal a.1.node.uid ≡ decimal b.1.node.uid = cc in
    let gids : decimal a.1.node.gid ≡ decimal b.1.node.gid = cc in
    let stamps : stamps_text a.1.node.stamps ≡ stamps_text b.1.node.stamps = cc in
    let acls : acl_text a.1.node.acl ≡ acl_text b.1.node.acl = cc in
    let rest : extra_texts version (extras_of a.1) ++ payload_text a.1.node.kind (payload_of a.1) ∷ [] ≡ extra_texts version (extras_of b.1) ++ payload_text b.1.node.kind (payload_of b.1) ∷ [] = cc in
    let last = last_apart (extra_texts version (extras_of a.1)) (extra_texts version (extras_of b.1)) (payload_text a.1.node.kind (payload_of a.1)) (payload_text b.1.node.kind (payload_of b.1)) rest in
    let extras : extras_of a.1 ≡ extras_of b.1 = extras_once version a.1.node.kind b.1.node.kind (extras_of a.1) (extras_of b.1) (extras_is version a f) (extras_is version b g) last.0 in
    let path : a.0 ≡ b.0 = path_once a.0 b.0 f.path g.path paths in
    let object : a.1 ≡ b.1 = object_once a.1 b.1 f.object g.object (kind_text-injective a.1.node.kind b.1.node.kind kinds) modes uids gids stamps acls last.1 extras in
    λ i. (path i, object i)

-- the versions have different numbers of columns
versions_apart : (a b : Path × Object) → IsEntry One a → IsEntry Two b → node_text One a ≡ node_text Two b → ⊥
versions_apart a b f g e =
    let texts : columns One a ≡ columns Two b = sym (node_again One a f) ∙ ap (slice_split (λ c. c == 32)) e ∙ node_again Two b g in
    cc

pub node_version : (v w : Version) (a b : Path × Object) → IsEntry v a → IsEntry w b → node_text v a ≡ node_text w b → v ≡ w
node_version One One a b f g e = refl
node_version One Two a b f g e = absurd (versions_apart a b f g e)
node_version Two One a b f g e = absurd (versions_apart b a g f (sym e))
node_version Two Two a b f g e = refl

pub fact_once : (a b : ℕ × List ℕ) → IsByteFact a → IsByteFact b → fact_text a ≡ fact_text b → a ≡ b
fact_once a b f g e =
    let texts : fact_texts a ≡ fact_texts b = sym (fact_again a f) ∙ ap (slice_split (λ c. c == 32)) e ∙ fact_again b g in
    let letter : a.0 ≡ b.0 = cc in
    let values : printed a.1 ≡ printed b.1 = cc in
    let value : a.1 ≡ b.1 = printed_injective a.1 b.1 values in
    λ i. (letter i, value i)

-- ---- the first bytes of a line

-- a line of a node begins with a letter and a space
record NodeFront (text : List ℕ) : Type 0 where
  letter : ℕ
  rest : List ℕ
  is : text ≡ letter ∷ 32 ∷ rest
  no_colon : letter ≡ 58 → ⊥

byte_and_rest : (kind : Kind) (rest : List ℕ) → NodeFront (kind_text kind ++ 32 ∷ rest)
byte_and_rest Directory rest = record { letter = 100; rest = rest; is = refl; no_colon = omega arith }
byte_and_rest File rest = record { letter = 102; rest = rest; is = refl; no_colon = omega arith }
byte_and_rest Link rest = record { letter = 108; rest = rest; is = refl; no_colon = omega arith }
byte_and_rest Fifo rest = record { letter = 112; rest = rest; is = refl; no_colon = omega arith }
byte_and_rest CharDevice rest = record { letter = 99; rest = rest; is = refl; no_colon = omega arith }
byte_and_rest BlockDevice rest = record { letter = 98; rest = rest; is = refl; no_colon = omega arith }

node_front : (version : Version) (e : Path × Object) → NodeFront (node_text version e)
node_front version e = byte_and_rest e.1.node.kind _

second_byte : (a b : ℕ) (r s t : List ℕ) → t ≡ a ∷ b ∷ r → NodeFront t → b ≢ 32 → ⊥
second_byte a b r s t e front other = let h : a ∷ b ∷ r ≡ front.letter ∷ 32 ∷ front.rest = sym e ∙ front.is in other (let k : b ≡ 32 = cc in k)

no_note : (version : Version) (e : Path × Object) → is_note (node_text version e) ≡ true → ⊥
no_note version e h =
    let front = node_front version e in
    let k : is_note (front.letter ∷ 32 ∷ front.rest) ≡ true = subst (λ (t : List ℕ). is_note t ≡ true) front.is h in
    front.no_colon (colon front.letter front.rest k)
  where
    colon : (b : ℕ) (rest : List ℕ) → is_note (b ∷ 32 ∷ rest) ≡ true → b ≡ 58
    colon b rest k = let one : (58 == b) ≡ true = (and_parts (58 == b) true k).0 in grind (arith, nat_tests)

-- ---- what a line says

-- a header is no note
header_no_note : (version : Version) → is_note (header_text version) ≡ true → ⊥
header_no_note One h = let no : is_note (header_text One) ≡ false = refl in cc
header_no_note Two h = let no : is_note (header_text Two) ≡ false = refl in cc

-- a note is none of the other lines
note_alone : (text : List ℕ) (what : What) → is_note text ≡ true → Spells text what → what ≡ Note
note_alone text Note h spells = refl
note_alone text (Header version) h spells = absurd (header_no_note version (subst (λ (t : List ℕ). is_note t ≡ true) spells h))
note_alone text (Fact fact) h spells = absurd (let k : is_note (fact_text fact) ≡ true = subst (λ (t : List ℕ). is_note t ≡ true) spells.1 h in let no : is_note (fact_text fact) ≡ false = refl in cc)
note_alone text (Node version e) h spells = absurd (no_note version e (subst (λ (t : List ℕ). is_note t ≡ true) spells.1 h))
note_alone text End h spells = absurd (let k : is_note end_text ≡ true = subst (λ (t : List ℕ). is_note t ≡ true) spells h in let no : is_note end_text ≡ false = refl in cc)

header_no_node : (version : Version) → NodeFront (header_text version) → ⊥
header_no_node One front = second_byte 116 114 (codes "ee-image 1") [] (header_text One) refl front (omega arith)
header_no_node Two front = second_byte 116 114 (codes "ee-image 2") [] (header_text Two) refl front (omega arith)

node_alone : (text : List ℕ) (version : Version) (e : Path × Object) (what : What) → Spells text (Node version e) → Spells text what → what ≡ Node version e
node_alone text version e Note is spells = sym (note_alone text (Node version e) spells is)
node_alone text version e (Header other) is spells = absurd (header_no_node other (subst NodeFront (sym is.1 ∙ spells) (node_front version e)))
node_alone text version e (Fact fact) is spells =
    absurd (let front : NodeFront (fact_text fact) = subst NodeFront (sym is.1 ∙ spells.1) (node_front version e) in second_byte 102 97 (99 ∷ 116 ∷ 32 ∷ fact.0 ∷ 32 ∷ printed fact.1) [] (fact_text fact) refl front (omega arith))
node_alone text version e (Node other x) is spells =
    let same : other ≡ version = node_version other version x e spells.0 is.0 (sym spells.1 ∙ is.1) in
    let moved : IsEntry version x × (text ≡ node_text version x) = subst (λ (v : Version). IsEntry v x × (text ≡ node_text v x)) same spells in
    let one : x ≡ e = node_once version x e moved.0 is.0 (sym moved.1 ∙ is.1) in
    λ i. Node (same i) (one i)
node_alone text version e End is spells = absurd (let front : NodeFront end_text = subst NodeFront (sym is.1 ∙ spells) (node_front version e) in second_byte 101 110 (codes "d") [] end_text refl front (omega arith))

differ : (a b : ℕ) (r s : List ℕ) → a ≢ b → a ∷ r ≡ b ∷ s → ⊥
differ a b r s other e = other (let k : a ≡ b = cc in k)

header_no_fact : (version : Version) (fact : ℕ × List ℕ) → header_text version ≡ fact_text fact → ⊥
header_no_fact One fact h = differ 116 102 _ _ (omega arith) h
header_no_fact Two fact h = differ 116 102 _ _ (omega arith) h

header_no_end : (version : Version) → header_text version ≡ end_text → ⊥
header_no_end One h = differ 116 101 _ _ (omega arith) h
header_no_end Two h = differ 116 101 _ _ (omega arith) h

header_once : (v w : Version) → header_text v ≡ header_text w → v ≡ w
header_once One One h = refl
header_once One Two h = absurd (differ 49 50 [] [] (omega arith) (ap (drop 11) h))
header_once Two One h = absurd (differ 50 49 [] [] (omega arith) (ap (drop 11) h))
header_once Two Two h = refl

pub spells_once : (text : List ℕ) (a b : What) → Spells text a → Spells text b → a ≡ b
spells_once text Note b f g = sym (note_alone text b f g)
spells_once text (Node version e) b f g = sym (node_alone text version e b f g)
spells_once text (Header version) Note f g = note_alone text (Header version) g f
spells_once text (Header version) (Header other) f g = ap (λ (v : Version). Header v) (header_once version other (sym f ∙ g))
spells_once text (Header version) (Fact fact) f g = absurd (header_no_fact version fact (sym f ∙ g.1))
spells_once text (Header version) (Node other e) f g = node_alone text other e (Header version) g f
spells_once text (Header version) End f g = absurd (header_no_end version (sym f ∙ g))
spells_once text (Fact fact) Note f g = note_alone text (Fact fact) g f
spells_once text (Fact fact) (Header version) f g = absurd (header_no_fact version fact (sym g ∙ f.1))
spells_once text (Fact fact) (Fact other) f g = ap (λ (x : ℕ × List ℕ). Fact x) (fact_once fact other f.0 g.0 (sym f.1 ∙ g.1))
spells_once text (Fact fact) (Node version e) f g = node_alone text version e (Fact fact) g f
spells_once text (Fact fact) End f g = absurd (let h : fact_text fact ≡ end_text = sym f.1 ∙ g in differ 102 101 _ _ (omega arith) h)
spells_once text End Note f g = note_alone text End g f
spells_once text End (Header version) f g = absurd (header_no_end version (sym g ∙ f))
spells_once text End (Fact fact) f g = absurd (let h : fact_text fact ≡ end_text = sym g.1 ∙ f in differ 102 101 _ _ (omega arith) h)
spells_once text End (Node version e) f g = node_alone text version e End g f
spells_once text End End f g = refl
