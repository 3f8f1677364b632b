-- No column of a node has a space or a line feed in it.
use Rattle.std.proofs.Common.{◌≡◌, ℕ, ◌/◌, ◌%◌, Bool, true, false, not, ◌&&◌, ◌||◌, ◌==◌, nat_le, nat_lt, List, [], ◌∷◌, ◌++◌, ◌+◌, map, codes, refl, arith, ◌≤◌, length}
use Rattle.std.specs.List.{list_all, flat_map, slice_split, join_with_byte}
use Rattle.std.specs.Fmt.{decimal}
use Rattle.std.proofs.lemmas.Bool.Decides.{nat_tests}
use Rattle.std.proofs.lemmas.Bool.{and_parts, and_from}
use Rattle.pv_acl.specs.declared.part.Acl.{Acl}
use Rattle.pv_acl.specs.Texts.{access_texts, acl_text, default_texts, or_dash}
use Rattle.pv_path.specs.Paths.{Path}
use Rattle.pv_path.specs.Printing.{hex_digit, is_plain, is_plain_but, printed, printed_by, printed_path}
use Rattle.pv_steps.specs.declared.node.Kind.{Kind}
use Rattle.pv_steps.specs.declared.node.Kind.TheVariants.{Directory, File, Link, Fifo, CharDevice, BlockDevice}
use Rattle.pv_steps.specs.declared.node.Stamps.{Stamps}
use Rattle.pv_steps.specs.declared.object.Object.{Object}
use Rattle.pv_steps.specs.declared.attr.Attr.{Attr}
use Rattle.pv_steps.specs.Letters.{all_letters, has_letter, letters_of}
use Rattle.pv_image.specs.declared.extras.Extras.{Extras}
use Rattle.pv_image.specs.declared.payload.Payload.{Payload}
use Rattle.pv_image.specs.declared.version.Version.{Version}
use Rattle.pv_image.specs.declared.version.Version.TheVariants.{One, Two}
use Rattle.pv_text.specs.Lines.{lacks}
use Rattle.pv_image.specs.Spelling.{IsEntry, attr_text, attr_texts, attrs_text, columns, content_text, extra_texts, extras_of, kind_text, letters_text, mode_text, node_text, numbers_text, object_text, object_texts, payload_of, payload_text, stamps_text}
use Rattle.pv_text.proofs.Characters.{all_append, all_joined, all_weaker, is_digit, printed_all}
use Rattle.pv_image.proofs.AclLetters.{PassesEntries, all_filter, entries_pass}
use Rattle.pv_image.proofs.Contents.{encoded_all}
use Rattle.pv_image.proofs.Columns.{mode_at}
use Rattle.pv_image.proofs.Decimals.{all_digits}
use Rattle.pv_image.proofs.Cutting.{are_apart, split_join}

abbrev pub is_solid : ℕ → Bool
is_solid b = not (b == 10) && not (b == 32)

abbrev pub AreSolid : List ℕ → Type 0
AreSolid text = list_all is_solid text ≡ true

digit_solid : (b : ℕ) → is_digit b ≡ true → is_solid b ≡ true
digit_solid b e = grind (arith, nat_tests)

pub decimal_solid : (n : ℕ) → AreSolid (decimal n)
decimal_solid n = all_weaker is_digit is_solid digit_solid (decimal n) (all_digits n)

-- ---- printed bytes

plain_solid : (b : ℕ) → (not (is_plain b) || is_solid b) ≡ true
plain_solid b = by_test (is_plain b) refl
  where
    by_test : (t : Bool) → is_plain b ≡ t → (not (is_plain b) || is_solid b) ≡ true
    by_test true e = rw e (let low : nat_le 33 b ≡ true = (and_parts (nat_le 33 b) (nat_le b 126) (and_parts (nat_le 33 b && nat_le b 126) (not (b == 92)) e).0).0 in grind (arith, nat_tests))
    by_test false e = rw e refl

all_plain_solid : (bytes : List ℕ) → list_all (λ b. not (is_plain b) || is_solid b) bytes ≡ true
all_plain_solid [] = refl
all_plain_solid (b ∷ bytes) = and_from (not (is_plain b) || is_solid b) (list_all (λ x. not (is_plain x) || is_solid x) bytes) (plain_solid b) (all_plain_solid bytes)

hex_solid : (d : ℕ) → is_solid (hex_digit d) ≡ true
hex_solid d = by_test (nat_lt d 10) refl
  where
    by_test : (t : Bool) → nat_lt d 10 ≡ t → is_solid (hex_digit d) ≡ true
    by_test true e = rw e (grind (arith, nat_tests))
    by_test false e = rw e (grind (arith, nat_tests))

pub printed_solid : (bytes : List ℕ) → AreSolid (printed bytes)
printed_solid bytes = printed_all is_plain is_solid refl refl hex_solid bytes (all_plain_solid bytes)

hidden_solid : (hidden : List ℕ) (b : ℕ) → (not (is_plain_but hidden b) || is_solid b) ≡ true
hidden_solid hidden b = by_test (is_plain b) refl (plain_solid b)
  where
    or_yes : (t : Bool) → (not t || true) ≡ true
    or_yes true = refl
    or_yes false = refl

    by_test : (t : Bool) → is_plain b ≡ t → (not (is_plain b) || is_solid b) ≡ true → (not (is_plain_but hidden b) || is_solid b) ≡ true
    by_test true e f = let is : is_solid b ≡ true = rw e at f in rw is (or_yes (is_plain_but hidden b))
    by_test false e f = rw e refl

all_hidden_solid : (hidden bytes : List ℕ) → list_all (λ b. not (is_plain_but hidden b) || is_solid b) bytes ≡ true
all_hidden_solid hidden [] = refl
all_hidden_solid hidden (b ∷ bytes) = and_from (not (is_plain_but hidden b) || is_solid b) (list_all (λ x. not (is_plain_but hidden x) || is_solid x) bytes) (hidden_solid hidden b) (all_hidden_solid hidden bytes)

-- more hidden bytes change nothing
pub printed_but_solid : (hidden bytes : List ℕ) → AreSolid (printed_by (is_plain_but hidden) bytes)
printed_but_solid hidden bytes = printed_all (is_plain_but hidden) is_solid refl refl hex_solid bytes (all_hidden_solid hidden bytes)

names_solid : (path : Path) → AreSolid (flat_map (λ n. 47 ∷ printed n) path)
names_solid [] = refl
names_solid (name ∷ path) = all_append is_solid (47 ∷ printed name) (flat_map (λ n. 47 ∷ printed n) path) (printed_solid name) (names_solid path)

pub path_solid : (path : Path) → AreSolid (printed_path path)
path_solid [] = refl
path_solid (name ∷ path) = names_solid (name ∷ path)

-- ---- ACLs

abbrev pub AllSolid : List (List ℕ) → Type 0
AllSolid texts = list_all (list_all is_solid) texts ≡ true

solid_entries : PassesEntries is_solid
solid_entries = record { digit = digit_solid; dash = refl; colon = refl; user = refl; group = refl; mask = refl; other = refl; default_mark = refl; read = refl; write = refl; execute = refl }

dash_solid : (text : List ℕ) → AreSolid text → AreSolid (or_dash text)
dash_solid [] e = refl
dash_solid (b ∷ bs) e = e

pub acl_solid : (acl : Acl) → AreSolid (acl_text acl)
acl_solid acl =
    let texts = access_texts acl.access ++ default_texts acl.default_part in
    dash_solid (join_with_byte 44 texts) (all_joined is_solid 44 refl texts (entries_pass is_solid solid_entries acl))

-- ---- the columns

kind_solid : (kind : Kind) → AreSolid (kind_text kind)
kind_solid Directory = refl
kind_solid File = refl
kind_solid Link = refl
kind_solid Fifo = refl
kind_solid CharDevice = refl
kind_solid BlockDevice = refl

octal_solid : (n : ℕ) → is_solid (48 + n % 8) ≡ true
octal_solid n = grind (arith, nat_tests)

pub mode_solid : (mode : ℕ) → AreSolid (mode_text mode)
mode_solid mode = rw (octal_solid (mode / 512), octal_solid (mode / 64), octal_solid (mode / 8), octal_solid mode) refl

pub stamps_solid : (stamps : Stamps) → AreSolid (stamps_text stamps)
stamps_solid stamps =
    all_joined is_solid 44 refl (decimal stamps.access ∷ decimal stamps.birth ∷ decimal stamps.change ∷ decimal stamps.modify ∷ [])
    (rw (decimal_solid stamps.access, decimal_solid stamps.birth, decimal_solid stamps.change, decimal_solid stamps.modify) refl)

numbers_solid : (major minor : ℕ) → AreSolid (numbers_text (major, minor))
numbers_solid major minor = all_joined is_solid 58 refl (decimal major ∷ decimal minor ∷ []) (rw (decimal_solid major, decimal_solid minor) refl)

content_solid : (bytes : List ℕ) → AreSolid (content_text bytes)
content_solid [] = refl
content_solid (b ∷ bytes) = encoded_all is_solid refl refl refl (b ∷ bytes)

payload_solid : (kind : Kind) (payload : Payload) → AreSolid (payload_text kind payload)
payload_solid Directory payload = refl
payload_solid File payload = content_solid payload.bytes
payload_solid Link payload = printed_solid payload.bytes
payload_solid Fifo payload = refl
payload_solid CharDevice payload = numbers_solid payload.major payload.minor
payload_solid BlockDevice payload = numbers_solid payload.major payload.minor

attr_solid : (attr : Attr) → AreSolid (attr_text attr)
attr_solid attr =
    all_joined is_solid 61 refl (attr_texts attr) (rw (printed_but_solid (codes ",=") attr.name, printed_but_solid (codes ",=") attr.value) refl)

all_attrs_solid : (attrs : List Attr) → AllSolid (map attr_text attrs)
all_attrs_solid [] = refl
all_attrs_solid (attr ∷ attrs) = and_from (list_all is_solid (attr_text attr)) (list_all (list_all is_solid) (map attr_text attrs)) (attr_solid attr) (all_attrs_solid attrs)

attrs_solid : (attrs : List Attr) → AreSolid (attrs_text attrs)
attrs_solid [] = refl
attrs_solid (attr ∷ attrs) = all_joined is_solid 44 refl (map attr_text (attr ∷ attrs)) (all_attrs_solid (attr ∷ attrs))

letters_solid : (letters : ℕ) → AreSolid (letters_text letters)
letters_solid letters = dash_solid (letters_of letters) (all_filter is_solid (has_letter letters) all_letters refl)

extras_solid : (version : Version) (extras : Extras) → AllSolid (extra_texts version extras)
extras_solid One extras = refl
extras_solid Two extras = rw (attrs_solid extras.attrs, letters_solid extras.letters) refl

pub columns_solid : (version : Version) (e : Path × Object) → AllSolid (columns version e)
columns_solid version e =
    let o = e.1 in
    let last : AllSolid (payload_text o.node.kind (payload_of o) ∷ []) = rw (payload_solid o.node.kind (payload_of o)) refl in
    rw (kind_solid o.node.kind, path_solid e.0, mode_solid (mode_at o), decimal_solid o.node.uid, decimal_solid o.node.gid, stamps_solid o.node.stamps, acl_solid o.node.acl)
    (all_append (list_all is_solid) (extra_texts version (extras_of o)) (payload_text o.node.kind (payload_of o) ∷ []) (extras_solid version (extras_of o)) last)

object_solid : (o : Object) → AllSolid (object_texts o)
object_solid o =
    rw (kind_solid o.node.kind, mode_solid (mode_at o), decimal_solid o.node.uid, decimal_solid o.node.gid, acl_solid o.node.acl, attrs_solid o.node.attrs, letters_solid o.node.letters, payload_solid o.node.kind (payload_of o)) refl

solid_apart : (b : ℕ) → is_solid b ≡ true → not (b == 32) ≡ true
solid_apart b e = (and_parts (not (b == 10)) (not (b == 32)) e).1

solid_whole : (b : ℕ) → is_solid b ≡ true → not (b == 10) ≡ true
solid_whole b e = (and_parts (not (b == 10)) (not (b == 32)) e).0

pub pieces_apart : (texts : List (List ℕ)) → AllSolid texts → are_apart 32 texts ≡ true
pieces_apart texts e = all_weaker (list_all is_solid) (lacks 32) (λ text f. all_weaker is_solid (λ b. not (b == 32)) solid_apart text f) texts e

-- joined by spaces they make a line
pub pieces_whole : (texts : List (List ℕ)) → AllSolid texts → lacks 10 (join_with_byte 32 texts) ≡ true
pieces_whole texts e =
    all_joined (λ b. not (b == 10)) 32 refl texts (all_weaker (list_all is_solid) (lacks 10) (λ text f. all_weaker is_solid (λ b. not (b == 10)) solid_whole text f) texts e)

pub node_again : (version : Version) (e : Path × Object) → IsEntry version e → slice_split (λ b. b == 32) (join_with_byte 32 (columns version e)) ≡ columns version e
node_again version e is =
    let o = e.1 in
    split_join 32 (kind_text o.node.kind)
    (printed_path e.0 ∷ mode_text (mode_at o) ∷ decimal o.node.uid ∷ decimal o.node.gid ∷ stamps_text o.node.stamps ∷ acl_text o.node.acl ∷ extra_texts version (extras_of o) ++ payload_text o.node.kind (payload_of o) ∷ [])
    (pieces_apart (columns version e) (columns_solid version e))

pub node_whole : (version : Version) (e : Path × Object) → IsEntry version e → lacks 10 (node_text version e) ≡ true
node_whole version e is = pieces_whole (columns version e) (columns_solid version e)

-- and so is an object without its path and its timestamps
pub object_whole : (o : Object) → lacks 10 (object_text o) ≡ true
object_whole o = pieces_whole (object_texts o) (object_solid o)

-- a node has at most ten columns
pub few_columns : (version : Version) (e : Path × Object) → length (columns version e) ≤ 10
few_columns One e = omega arith
few_columns Two e = omega arith
