-- A line that was read has only names, IDs and texts that are allowed.
use Rattle.std.specs.Prelude.{◌≡◌, ℕ, Bool, true, false, not, ◌&&◌, ◌==◌, nat_le, List, [], ◌∷◌, Option, Some, None, option_map, option_and_then, Result, Ok, Err, IfOk, if◌then◌else◌}
use Rattle.std.specs.List.{slice_split}
use Rattle.std.proofs.Common.{refl, subst}
use Rattle.std.proofs.lemmas.Bool.{and_parts, and_from}
use Rattle.pv_acl.specs.NamedEntries.{is_id}
use Rattle.pv_acl.specs.Numbers.{may_be_written, number_of, written_id}
use Rattle.pv_path.specs.Parsing.{begins_with_slash, path_of}
use Rattle.pv_path.specs.Paths.{Path, has_staging}
use Rattle.pv_path.proofs.Spelled.{path_of-spelled, spelled_names}
use Rattle.pv_path.specs.Results.{◌>>=◌, or_fault}
use Rattle.pv_path.specs.declared.path_fault.PathFault.{PathFault}
use Rattle.pv_text.specs.Facts.{Values}
use Rattle.pv_text.specs.Fields.{Cut}
use Rattle.pv_text.specs.declared.place.Place.{Place}
use Rattle.pv_requests.specs.Allowed.{IsAllowed, is_allowed_group, is_allowed_path, is_allowed_primary, is_allowed_user, is_any_id}
use Rattle.pv_requests.specs.Faults.{Gives}
use Rattle.pv_requests.specs.FieldTexts.{has_more, is_dash, text}
use Rattle.pv_requests.specs.Names.{is_account_name}
use Rattle.pv_requests.specs.Numbers.{group_id_in, is_account_place, number_or_dash, path_in, primary_in, range_in, user_id_by, user_id_in}
use Rattle.pv_requests.specs.Requests.{are_account_texts, ended, group_with, member_with, range_with, request_by, request_in, two_needed, two_texts, type_of, user_texts, user_with}
use Rattle.pv_requests.specs.declared.request_fault.RequestFault.{RequestFault}
use Rattle.pv_requests.specs.declared.request_fault.RequestFault.TheVariants as fault
use Rattle.pv_requests.specs.declared.read.LineType.{LineType}
use Rattle.pv_requests.specs.declared.read.LineType.TheVariants as line
use Rattle.pv_requests.specs.declared.read.UserTexts.{UserTexts}
use Rattle.pv_requests.specs.declared.request.GroupId.{GroupId}
use Rattle.pv_requests.specs.declared.request.GroupId.TheVariants as group
use Rattle.pv_requests.specs.declared.request.Primary.{Primary}
use Rattle.pv_requests.specs.declared.request.Primary.TheVariants as primary
use Rattle.pv_requests.specs.declared.request.Request.{Request}
use Rattle.pv_requests.specs.declared.request.Request.TheVariants as request
use Rattle.pv_requests.specs.declared.request.UserId.{UserId}
use Rattle.pv_requests.specs.declared.request.UserId.TheVariants as user

-- ---- numbers and names

-- what holds of what there is
abbrev Holds : {A : Type 0} → (A → Bool) → Option A → Type 0
Holds test None = Unit {0}
Holds test (Some x) = test x ≡ true

id_written : (text : List ℕ) → Holds is_id (written_id text)
id_written text = by (number_of text)
  where
    tested : (n : ℕ) (b : Bool) → may_be_written n ≡ b → Holds is_id (if b then Some n else None)
    tested n true e = (and_parts (nat_le n 4294967294) (not (n == 65535)) e).0
    tested n false e = tt

    by : (o : Option ℕ) → Holds is_id (option_and_then (λ n. if may_be_written n then Some n else None) o)
    by None = tt
    by (Some n) = tested n (may_be_written n) refl

path_allowed : (text : List ℕ) → Holds is_allowed_path (path_in text)
path_allowed text = by (path_of text) refl
  where
    tested : (p : Path) → has_staging p ≡ false → (b : Bool) → is_account_place p ≡ b → Holds is_allowed_path (if b then None else Some p)
    tested p plain true e = tt
    tested p plain false e = rw (e, plain) refl

    by : (r : Result Path PathFault) → path_of text ≡ r → Holds is_allowed_path (path_in text)
    by (Err f) is = rw is tt
    by (Ok p) is = rw is (tested p (spelled_names p (path_of-spelled text p is).names).2 (is_account_place p) refl)

dash_allowed : (text : List ℕ) → Holds is_any_id (number_or_dash text)
dash_allowed text = by (is_dash text) (written_id text) (id_written text)
  where
    by : (dash : Bool) (o : Option ℕ) → Holds is_id o → Holds is_any_id (if dash then Some None else option_map (λ n. Some n) o)
    by true o h = refl
    by false None h = tt
    by false (Some n) h = h

primary_allowed : (text : List ℕ) → Holds is_allowed_primary (primary_in text)
primary_allowed text = by (written_id text) refl (id_written text)
  where
    named : (b : Bool) → is_account_name text ≡ b → Holds is_allowed_primary (if b then Some (primary.Name text) else None)
    named true e = e
    named false e = tt

    by : (o : Option ℕ) → written_id text ≡ o → Holds is_id o → Holds is_allowed_primary (primary_in text)
    by None e h = rw e (named (is_account_name text) refl)
    by (Some n) e h = rw e h

user_id_allowed : (text : List ℕ) → Holds is_allowed_user (user_id_in text)
user_id_allowed text = by (begins_with_slash text)
  where
    by_path : (o : Option Path) → Holds is_allowed_path o → Holds is_allowed_user (option_map (λ path. user.Path path) o)
    by_path None h = tt
    by_path (Some path) h = h

    by_number : (dash : Bool) (o : Option ℕ) → Holds is_id o → Holds is_allowed_user (if dash then Some user.Auto else option_map (λ n. user.Number n) o)
    by_number true o h = refl
    by_number false None h = tt
    by_number false (Some n) h = h

    by_both : (o : Option (Option ℕ)) (p : Option Primary) → Holds is_any_id o → Holds is_allowed_primary p → Holds is_allowed_user (option_and_then (λ uid. option_map (λ group. user.Primary uid group) p) o)
    by_both None p h k = tt
    by_both (Some uid) None h k = tt
    by_both (Some uid) (Some primary) h k = and_from (is_any_id uid) (is_allowed_primary primary) h k

    by_pieces : (pieces : List (List ℕ)) → Holds is_allowed_user (user_id_by pieces)
    by_pieces [] = tt
    by_pieces (one ∷ []) = by_number (is_dash one) (written_id one) (id_written one)
    by_pieces (first ∷ second ∷ []) = by_both (number_or_dash first) (primary_in second) (dash_allowed first) (primary_allowed second)
    by_pieces (first ∷ second ∷ third ∷ more) = tt

    by : (slash : Bool) → Holds is_allowed_user (if slash then option_map (λ path. user.Path path) (path_in text) else user_id_by (slice_split (λ b. b == 58) text))
    by true = by_path (path_in text) (path_allowed text)
    by false = by_pieces (slice_split (λ b. b == 58) text)

group_id_allowed : (text : List ℕ) → Holds is_allowed_group (group_id_in text)
group_id_allowed text = by (begins_with_slash text)
  where
    by_path : (o : Option Path) → Holds is_allowed_path o → Holds is_allowed_group (option_map (λ path. group.Path path) o)
    by_path None h = tt
    by_path (Some path) h = h

    by_number : (dash : Bool) (o : Option ℕ) → Holds is_id o → Holds is_allowed_group (if dash then Some group.Auto else option_map (λ n. group.Number n) o)
    by_number true o h = refl
    by_number false None h = tt
    by_number false (Some n) h = h

    by : (slash : Bool) → Holds is_allowed_group (if slash then option_map (λ path. group.Path path) (path_in text) else (if is_dash text then Some group.Auto else option_map (λ n. group.Number n) (written_id text)))
    by true = by_path (path_in text) (path_allowed text)
    by false = by_number (is_dash text) (written_id text) (id_written text)

-- ---- requests

abbrev IsAllowedIn : Result Request RequestFault → Type 0
IsAllowedIn (Ok line) = IsAllowed line
IsAllowedIn (Err fault) = Unit {0}

then_allowed : {A : Type 0} (r : Result A RequestFault) (f : A → Result Request RequestFault) → ((x : A) → IsAllowedIn (f x)) → IsAllowedIn (r >>= f)
then_allowed (Ok x) f all = all x
then_allowed (Err fault) f all = tt

ended_allowed : (more : Bool) (r : Request) → IsAllowed r → IsAllowedIn (ended more r)
ended_allowed true r is = tt
ended_allowed false r is = is

user_with-allowed : (place : Place) (locked more : Bool) (texts : UserTexts) → IsAllowedIn (user_with place locked more texts)
user_with-allowed place locked more texts = by (is_account_name texts.name) refl (user_id_in texts.id) (user_id_allowed texts.id) (are_account_texts texts) refl
  where
    by : (named : Bool) → is_account_name texts.name ≡ named → (o : Option UserId) → Holds is_allowed_user o → (fit : Bool) → are_account_texts texts ≡ fit
        → IsAllowedIn (if named then or_fault fault.BadId o >>= (λ id. if fit then ended more (request.User texts.name id locked texts.gecos texts.home texts.shell place) else Err fault.BadField) else Err fault.BadName)
    by false e o h fit k = tt
    by true e None h fit k = tt
    by true e (Some id) h false k = tt
    by true e (Some id) h true k =
        ended_allowed more (request.User texts.name id locked texts.gecos texts.home texts.shell place)
        (and_from (is_account_name texts.name) (is_allowed_user id && are_account_texts texts) e (and_from (is_allowed_user id) (are_account_texts texts) h k))

group_with-allowed : (place : Place) (more : Bool) (name id : List ℕ) → IsAllowedIn (group_with place more name id)
group_with-allowed place more name text = by (is_account_name name) refl (group_id_in text) (group_id_allowed text)
  where
    by : (named : Bool) → is_account_name name ≡ named → (o : Option GroupId) → Holds is_allowed_group o
        → IsAllowedIn (if named then or_fault fault.BadId o >>= (λ id. ended more (request.Group name id place)) else Err fault.BadName)
    by false e o h = tt
    by true e None h = tt
    by true e (Some id) h = ended_allowed more (request.Group name id place) (and_from (is_account_name name) (is_allowed_group id) e h)

member_with-allowed : (place : Place) (more : Bool) (user group : List ℕ) → IsAllowedIn (member_with place more user group)
member_with-allowed place more user group = by (is_account_name user && is_account_name group) refl
  where
    by : (named : Bool) → (is_account_name user && is_account_name group) ≡ named → IsAllowedIn (if named then ended more (request.Member user group place) else Err fault.BadName)
    by false e = tt
    by true e = ended_allowed more (request.Member user group place) e

range_with-allowed : (place : Place) (more : Bool) (name range : List ℕ) → IsAllowedIn (range_with place more name range)
range_with-allowed place more name range = by (is_dash name) (range_in range)
  where
    by : (dash : Bool) (o : Option (ℕ × ℕ)) → IsAllowedIn (if dash then or_fault fault.BadRange o >>= (λ numbers. ended more (request.Range numbers.0 numbers.1 place)) else Err fault.BadName)
    by false o = tt
    by true None = tt
    by true (Some numbers) = ended_allowed more (request.Range numbers.0 numbers.1 place) refl

request_by-allowed : (facts : Values) (place : Place) (cut : Cut) (typed : LineType) → IsAllowedIn (request_by facts place cut typed)
request_by-allowed facts place cut (line.User locked) = then_allowed (user_texts facts cut) (user_with place locked (has_more cut)) (user_with-allowed place locked (has_more cut))
request_by-allowed facts place cut line.Group = then_allowed (two_texts facts cut) (λ texts. group_with place (has_more cut) texts.0 texts.1) (λ texts. group_with-allowed place (has_more cut) texts.0 texts.1)
request_by-allowed facts place cut line.Member = then_allowed (two_needed facts cut) (λ texts. member_with place (has_more cut) texts.0 texts.1) (λ texts. member_with-allowed place (has_more cut) texts.0 texts.1)
request_by-allowed facts place cut line.Range = then_allowed (two_needed facts cut) (λ texts. range_with place (has_more cut) texts.0 texts.1) (λ texts. range_with-allowed place (has_more cut) texts.0 texts.1)

request_in-allowed : (facts : Values) (place : Place) (cut : Cut) → IsAllowedIn (request_in facts place cut)
request_in-allowed facts place cut = then_allowed (type_of (text cut 0)) (request_by facts place cut) (request_by-allowed facts place cut)

-- a request that was read is allowed
pub given-allowed : (facts : Values) (place : Place) (cut : Cut) (r : Result Request RequestFault) → Gives r (request_in facts place cut) → IfOk r IsAllowed
given-allowed facts place cut (Ok request) gives = subst IsAllowedIn gives (request_in-allowed facts place cut)
given-allowed facts place cut (Err fault) gives = tt
