-- What allowed lines ask for: names that stand for themselves in account files, IDs, and texts of one field.
use Rattle.std.proofs.Common.{◌≡◌, ℕ, zero, suc, ◌+◌, Bool, true, false, not, ◌&&◌, ◌==◌, nat_le, List, [], ◌∷◌, ◌++◌, length, Option, Some, None, option_map, unwrap_or, refl, sym, ap, ◌∙◌, if◌then◌else◌}
use Rattle.std.specs.Prelude.{is_some}
use Rattle.std.specs.List.{AllByRecursion, flat_map, list_all}
use Rattle.std.proofs.lemmas.Bool.{and_parts, eqb-true}
use Rattle.pv_acl.specs.NamedEntries.{is_id}
use Rattle.pv_acl.proofs.Splitting.{lacks}
use Rattle.pv_accounts.proofs.Rereading.{IsPlain}
use Rattle.pv_path.specs.Parsing.{begins_with_slash}
use Rattle.pv_requests.specs.Allowed.{IsAllowed, are_allowed_texts, is_allowed_group, is_allowed_user, is_any_id}
use Rattle.pv_requests.specs.Names.{is_account_name, is_comment, is_name_part, is_name_start, is_place, is_text_byte}
use Rattle.pv_requests.specs.declared.request.GroupId.{GroupId}
use Rattle.pv_requests.specs.declared.request.GroupId.TheVariants as group
use Rattle.pv_requests.specs.declared.request.Primary.TheVariants as primary
use Rattle.pv_requests.specs.declared.request.Request.{Request}
use Rattle.pv_requests.specs.declared.request.Request.TheVariants as request
use Rattle.pv_requests.specs.declared.request.UserId.{UserId}
use Rattle.pv_requests.specs.declared.request.UserId.TheVariants as user
use Rattle.pv_text.specs.declared.place.Place.{Place}
use Rattle.pv_sysusers.specs.Allowed.{AreOwners, IsAllowedLine}
use Rattle.pv_sysusers.specs.Lines.{Line, counting, earlier, lines_from, owners_at, with_counting}
use Rattle.pv_sysusers.specs.Needs.{accounts_of, group_number, made_account, main_of, member_needs, needs_of, user_needs, user_number}
use Rattle.pv_sysusers.specs.Texts.{membership_of}
use Rattle.pv_sysusers.specs.declared.needs.Account.{Account}
use Rattle.pv_sysusers.specs.declared.needs.Main.{Main}
use Rattle.pv_sysusers.specs.declared.needs.Main.TheVariants as main
use Rattle.pv_sysusers.specs.declared.needs.Need.{Need}
use Rattle.pv_sysusers.specs.declared.path_ids.PathId.{PathId}
use Rattle.pv_path.proofs.Tests.{all_append}

-- ---- bytes

-- what passes a test is none that does not
differs : (p : ℕ → Bool) (c b : ℕ) → p c ≡ false → p b ≡ true → not (b == c) ≡ true
differs p c b none some = by (b == c) refl
  where
    by : (t : Bool) → (b == c) ≡ t → not t ≡ true
    by false e = refl
    by true e = absurd (let no : true ≡ false = sym some ∙ ap p (eqb-true b c e) ∙ none in cc)

all_lack : (p : ℕ → Bool) (c : ℕ) → p c ≡ false → (bs : List ℕ) → list_all p bs ≡ true → lacks c bs ≡ true
all_lack p c none [] h = refl
all_lack p c none (b ∷ bs) h =
    let parts = and_parts (p b) (list_all p bs) h in
    rw (differs p c b none parts.0) (all_lack p c none bs parts.1)

first_lack : (p : ℕ → Bool) (c b : ℕ) (bs : List ℕ) → p c ≡ false → p b ≡ true → lacks c bs ≡ true → lacks c (b ∷ bs) ≡ true
first_lack p c b bs none here rest = rw (differs p c b none here) rest

-- a name that a user or a group may get stands for itself
pub name_plain : (name : List ℕ) → is_account_name name ≡ true → IsPlain name
name_plain [] h = absurd (let no : false ≡ true = h in cc)
name_plain (b ∷ bs) h =
    let whole = and_parts (is_name_start b && list_all is_name_part bs) (nat_le (length bs) 30) h in
    let parts = and_parts (is_name_start b) (list_all is_name_part bs) whole.0 in
    record {
      colon = first_lack is_name_start 58 b bs refl parts.0 (all_lack is_name_part 58 refl bs parts.1);
      comma = first_lack is_name_start 44 b bs refl parts.0 (all_lack is_name_part 44 refl bs parts.1);
      ending = first_lack is_name_start 10 b bs refl parts.0 (all_lack is_name_part 10 refl bs parts.1);
      entry = rw (differs is_name_start 43 b refl parts.0, differs is_name_start 45 b refl parts.0, differs is_name_start 35 b refl parts.0) refl;
    }

-- a text of one field
pub record IsField (text : List ℕ) : Type 0 where
  pub colon : lacks 58 text ≡ true
  pub ending : lacks 10 text ≡ true

text_field : (text : List ℕ) → list_all is_text_byte text ≡ true → IsField text
text_field text h = record { colon = all_lack is_text_byte 58 refl text h; ending = all_lack is_text_byte 10 refl text h }

comment_field : (gecos : Option (List ℕ)) → is_comment gecos ≡ true → (own : List ℕ) → IsField own → IsField (unwrap_or gecos own)
comment_field None h own is = is
comment_field (Some text) h own is = text_field text h

place_field : (text : Option (List ℕ)) → is_place text ≡ true → (own : List ℕ) → IsField own → IsField (unwrap_or text own)
place_field None h own is = is
place_field (Some text) h own is = text_field text (and_parts (begins_with_slash text) (list_all is_text_byte text) h).1

-- ---- what lines ask for

pub record IsFitNeed (need : Need) : Type 0 where
  pub name : IsPlain need.name
  pub number : is_any_id need.number ≡ true

abbrev pub is_main_id : Main → Bool
is_main_id (main.Gid n) = is_id n
is_main_id main.Own = true
is_main_id (main.Named group) = true

pub record IsFitAccount (account : Account) : Type 0 where
  pub name : IsPlain account.name
  pub uid : is_any_id account.uid ≡ true
  pub main : is_main_id account.main ≡ true
  pub gecos : (own : List ℕ) → IsField own → IsField (unwrap_or account.gecos own)
  pub home : (own : List ℕ) → IsField own → IsField (unwrap_or account.home own)
  pub shell : (own : List ℕ) → IsField own → IsField (unwrap_or account.shell own)

owner_gid : (owners : Option PathId) → AreOwners owners → is_any_id (option_map (λ o. o.gid) owners) ≡ true
owner_gid None h = refl
owner_gid (Some o) h = (and_parts (is_id o.uid) (is_id o.gid) h).1

owner_uid : (owners : Option PathId) → AreOwners owners → is_any_id (option_map (λ o. o.uid) owners) ≡ true
owner_uid None h = refl
owner_uid (Some o) h = (and_parts (is_id o.uid) (is_id o.gid) h).0

user_fit : (name : List ℕ) (place : Place) (owners : Option PathId) (id : UserId) → IsPlain name → is_allowed_user id ≡ true → AreOwners owners → AllByRecursion IsFitNeed (user_needs name place owners id)
user_fit name place owners user.Auto plain h own = (record { name = plain; number = refl }, tt)
user_fit name place owners (user.Number n) plain h own = (record { name = plain; number = h }, tt)
user_fit name place owners (user.Path path) plain h own = (record { name = plain; number = owner_gid owners own }, tt)
user_fit name place owners (user.Primary uid (primary.Gid n)) plain h own = tt
user_fit name place owners (user.Primary uid (primary.Name group)) plain h own =
    (record { name = name_plain group (and_parts (is_any_id uid) (is_account_name group) h).1; number = refl }, tt)

group_fit : (id : GroupId) (owners : Option PathId) → is_allowed_group id ≡ true → AreOwners owners → is_any_id (group_number owners id) ≡ true
group_fit group.Auto owners h own = refl
group_fit (group.Number n) owners h own = h
group_fit (group.Path path) owners h own = owner_gid owners own

member_fit : (made : Bool) (user group : List ℕ) (place : Place) → IsPlain user → IsPlain group → AllByRecursion IsFitNeed (member_needs made user group place)
member_fit true user group place a b = (record { name = a; number = refl }, (record { name = b; number = refl }, tt))
member_fit false user group place a b = (record { name = b; number = refl }, tt)

-- the groups that a line needs
pub needs_fit : (made : List ℕ → Bool) (line : Line) → IsAllowedLine line → AllByRecursion IsFitNeed (needs_of made line)
needs_fit made (request.User name id locked gecos home shell place, owners) is =
    let parts = and_parts (is_account_name name) (is_allowed_user id && are_allowed_texts gecos home shell) is.0 in
    user_fit name place owners id (name_plain name parts.0) (and_parts (is_allowed_user id) (are_allowed_texts gecos home shell) parts.1).0 is.1
needs_fit made (request.Group name id place, owners) is =
    let parts = and_parts (is_account_name name) (is_allowed_group id) is.0 in
    (record { name = name_plain name parts.0; number = group_fit id owners parts.1 is.1 }, tt)
needs_fit made (request.Member user group place, owners) is =
    let parts = and_parts (is_account_name user) (is_account_name group) is.0 in
    member_fit (made user) user group place (name_plain user parts.0) (name_plain group parts.1)
needs_fit made (request.Range first last place, owners) is = tt

user_number_fit : (id : UserId) (owners : Option PathId) → is_allowed_user id ≡ true → AreOwners owners → is_any_id (user_number owners id) ≡ true
user_number_fit user.Auto owners h own = refl
user_number_fit (user.Number n) owners h own = h
user_number_fit (user.Path path) owners h own = owner_uid owners own
user_number_fit (user.Primary uid (primary.Gid n)) owners h own = (and_parts (is_any_id uid) (is_id n) h).0
user_number_fit (user.Primary uid (primary.Name name)) owners h own = (and_parts (is_any_id uid) (is_account_name name) h).0

main_fit : (id : UserId) → is_allowed_user id ≡ true → is_main_id (main_of id) ≡ true
main_fit user.Auto h = refl
main_fit (user.Number n) h = refl
main_fit (user.Path path) h = refl
main_fit (user.Primary uid (primary.Gid n)) h = (and_parts (is_any_id uid) (is_id n) h).1
main_fit (user.Primary uid (primary.Name name)) h = refl

made_fit : (made : Bool) (user : List ℕ) (place : Place) → IsPlain user → AllByRecursion IsFitAccount (made_account made user place)
made_fit false user place plain = tt
made_fit true user place plain = (record { name = plain; uid = refl; main = refl; gecos = λ own is. is; home = λ own is. is; shell = λ own is. is }, tt)

-- the users that a line needs
pub accounts_fit : (made : List ℕ → Bool) (line : Line) → IsAllowedLine line → AllByRecursion IsFitAccount (accounts_of made line)
accounts_fit made (request.User name id locked gecos home shell place, owners) is =
    let parts = and_parts (is_account_name name) (is_allowed_user id && are_allowed_texts gecos home shell) is.0 in
    let id_texts = and_parts (is_allowed_user id) (are_allowed_texts gecos home shell) parts.1 in
    let texts = and_parts (is_comment gecos && is_place home) (is_place shell) id_texts.1 in
    let first_texts = and_parts (is_comment gecos) (is_place home) texts.0 in (
      record {
        name = name_plain name parts.0;
        uid = user_number_fit id owners id_texts.0 is.1;
        main = main_fit id id_texts.0;
        gecos = comment_field gecos first_texts.0;
        home = place_field home first_texts.1;
        shell = place_field shell texts.1;
      },
      tt,
    )
accounts_fit made (request.Group name id place, owners) is = tt
accounts_fit made (request.Member user group place, owners) is =
    let parts = and_parts (is_account_name user) (is_account_name group) is.0 in
    made_fit (made user) user place (name_plain user parts.0)
accounts_fit made (request.Range first last place, owners) is = tt

-- the members that a line adds
pub members_fit : (line : Line) → IsAllowedLine line → AllByRecursion (λ m. IsPlain m.1) (membership_of line)
members_fit (request.User name id locked gecos home shell place, owners) is = tt
members_fit (request.Group name id place, owners) is = tt
members_fit (request.Member user group place, owners) is = (name_plain user (and_parts (is_account_name user) (is_account_name group) is.0).0, tt)
members_fit (request.Range first last place, owners) is = tt

-- ---- lists

pub all_flat : {X Y : Type 0} (Q : X → Type 0) (P : Y → Type 0) (f : X → List Y) → ((x : X) → Q x → AllByRecursion P (f x)) → (xs : List X) → AllByRecursion Q xs → AllByRecursion P (flat_map f xs)
all_flat Q P f each [] all = tt
all_flat Q P f each (x ∷ xs) all = all_append P (f x) (flat_map f xs) (each x all.0) (all_flat Q P f each xs all.1)

-- lines that count are among the lines
pub counting_all : (P : Line → Type 0) (kept lines : List Line) → AllByRecursion P kept → AllByRecursion P lines → AllByRecursion P (counting kept lines)
counting_all P kept [] a b = a
counting_all P kept (line ∷ lines) a b = counting_all P (with_counting kept line) lines (by (is_some (earlier kept line))) b.1
  where
    by : (t : Bool) → AllByRecursion P (if t then kept else kept ++ line ∷ [])
    by true = a
    by false = all_append P kept (line ∷ []) a (b.0, tt)

owners_all : (taken : List (Option PathId)) → AllByRecursion AreOwners taken → (i : ℕ) → AreOwners (owners_at taken i)
owners_all [] all i = refl
owners_all (o ∷ taken) all zero = all.0
owners_all (o ∷ taken) all (suc i) = owners_all taken all.1 i

pub lines_all : (taken : List (Option PathId)) → AllByRecursion AreOwners taken → (requests : List Request) (i : ℕ) → AllByRecursion IsAllowed requests → AllByRecursion IsAllowedLine (lines_from taken i requests)
lines_all taken own [] i all = tt
lines_all taken own (request ∷ requests) i all = ((all.0, owners_all taken own i), lines_all taken own requests (i + 1) all.1)
