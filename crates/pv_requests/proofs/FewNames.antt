-- The path of a line that was read has few names, since the text that spells it is short.
use Rattle.std.specs.Prelude.{◌≡◌, ℕ, ◌<◌, ◌≤◌, ◌^◌, Bool, true, false, ◌&&◌, ◌==◌, List, [], ◌∷◌, length, Option, Some, None, option_map, option_and_then, Result, Ok, Err, IfOk, if◌then◌else◌}
use Rattle.std.specs.List.{slice_split}
use Rattle.std.proofs.Common.{refl, arith, subst}
use Rattle.std.proofs.lemmas.Option.{same_Some}
use Rattle.pv_acl.specs.Numbers.{written_id}
use Rattle.pv_path.specs.Parsing.{begins_with_slash, path_of}
use Rattle.pv_path.specs.Paths.{Path}
use Rattle.pv_path.specs.Results.{◌>>=◌, or_fault}
use Rattle.pv_path.specs.declared.path_fault.PathFault.{PathFault}
use Rattle.pv_path.proofs.Spelled.{path_of-spelled}
use Rattle.pv_text.specs.Facts.{Values}
use Rattle.pv_text.specs.Fields.{Cut}
use Rattle.pv_text.specs.declared.place.Place.{Place}
use Rattle.pv_requests.specs.Faults.{Gives}
use Rattle.pv_requests.specs.FieldTexts.{has_more, is_dash, text}
use Rattle.pv_requests.specs.Names.{is_account_name}
use Rattle.pv_requests.specs.Numbers.{group_id_in, is_account_place, number_or_dash, path_in, primary_in, range_in, user_id_by, user_id_in, with_primary}
use Rattle.pv_requests.specs.Paths.{HasFewNames}
use Rattle.pv_requests.specs.Requests.{are_account_texts, ended, group_with, member_with, range_with, request_by, request_in, two_needed, two_texts, type_of, user_texts, user_with}
use Rattle.pv_requests.specs.declared.request_fault.RequestFault.{RequestFault}
use Rattle.pv_requests.specs.declared.request_fault.RequestFault.TheVariants as fault
use Rattle.pv_requests.specs.declared.read.LineType.{LineType}
use Rattle.pv_requests.specs.declared.read.LineType.TheVariants as line
use Rattle.pv_requests.specs.declared.read.UserTexts.{UserTexts}
use Rattle.pv_requests.specs.declared.request.GroupId.{GroupId}
use Rattle.pv_requests.specs.declared.request.GroupId.TheVariants as group
use Rattle.pv_requests.specs.declared.request.Primary.{Primary}
use Rattle.pv_requests.specs.declared.request.Request.{Request}
use Rattle.pv_requests.specs.declared.request.Request.TheVariants as request
use Rattle.pv_requests.specs.declared.request.UserId.{UserId}
use Rattle.pv_requests.specs.declared.request.UserId.TheVariants as user

-- ---- paths that texts spell

abbrev IsFew : Option Path → Type 0
IsFew None = Unit {0}
IsFew (Some path) = length path < 2 ^ 32

path_in-few : (text : List ℕ) → IsFew (path_in text)
path_in-few text = by (path_of text) refl
  where
    by_place : (b : Bool) (p : Path) → length p ≤ 4096 → IsFew (if b then None else Some p)
    by_place true p short = tt
    by_place false p short = omega (arith, short)

    by : (r : Result Path PathFault) → path_of text ≡ r → IsFew (path_in text)
    by (Err f) is = rw is tt
    by (Ok p) is = rw is (by_place (is_account_place p) p (path_of-spelled text p is).few)

-- ---- where numbers come from

abbrev IsFewUser : Option UserId → Type 0
IsFewUser (Some (user.Path path)) = length path < 2 ^ 32
IsFewUser id = Unit {0}

abbrev IsFewGroup : Option GroupId → Type 0
IsFewGroup (Some (group.Path path)) = length path < 2 ^ 32
IsFewGroup id = Unit {0}

user_id_in-few : (text : List ℕ) → IsFewUser (user_id_in text)
user_id_in-few text = by (begins_with_slash text)
  where
    by_path : (o : Option Path) → IsFew o → IsFewUser (option_map (λ path. user.Path path) o)
    by_path None few = tt
    by_path (Some path) few = few

    by_number : (dash : Bool) (o : Option ℕ) → IsFewUser (if dash then Some user.Auto else option_map (λ n. user.Number n) o)
    by_number true o = tt
    by_number false None = tt
    by_number false (Some n) = tt

    by_primary : (first second : List ℕ) → IsFewUser (with_primary first second)
    by_primary first second = by_both (number_or_dash first) (primary_in second)
      where
        by_both : (o : Option (Option ℕ)) (p : Option Primary) → IsFewUser (option_and_then (λ uid. option_map (λ group. user.Primary uid group) p) o)
        by_both None p = tt
        by_both (Some uid) None = tt
        by_both (Some uid) (Some primary) = tt

    by_pieces : (pieces : List (List ℕ)) → IsFewUser (user_id_by pieces)
    by_pieces [] = tt
    by_pieces (one ∷ []) = by_number (is_dash one) (written_id one)
    by_pieces (first ∷ second ∷ []) = by_primary first second
    by_pieces (first ∷ second ∷ third ∷ more) = tt

    by : (slash : Bool) → IsFewUser (if slash then option_map (λ path. user.Path path) (path_in text) else user_id_by (slice_split (λ b. b == 58) text))
    by true = by_path (path_in text) (path_in-few text)
    by false = by_pieces (slice_split (λ b. b == 58) text)

group_id_in-few : (text : List ℕ) → IsFewGroup (group_id_in text)
group_id_in-few text = by (begins_with_slash text)
  where
    by_path : (o : Option Path) → IsFew o → IsFewGroup (option_map (λ path. group.Path path) o)
    by_path None few = tt
    by_path (Some path) few = few

    by_number : (dash : Bool) (o : Option ℕ) → IsFewGroup (if dash then Some group.Auto else option_map (λ n. group.Number n) o)
    by_number true o = tt
    by_number false None = tt
    by_number false (Some n) = tt

    by : (slash : Bool) → IsFewGroup (if slash then option_map (λ path. group.Path path) (path_in text) else (if is_dash text then Some group.Auto else option_map (λ n. group.Number n) (written_id text)))
    by true = by_path (path_in text) (path_in-few text)
    by false = by_number (is_dash text) (written_id text)

-- ---- requests

abbrev IsFewIn : Result Request RequestFault → Type 0
IsFewIn (Ok line) = HasFewNames line
IsFewIn (Err fault) = Unit {0}

no_path : (q : Path) → ◌≡◌ {A = Option Path} None (Some q) → ⊥
no_path q e = cc

then_few : {A : Type 0} (r : Result A RequestFault) (f : A → Result Request RequestFault) → ((x : A) → IsFewIn (f x)) → IsFewIn (r >>= f)
then_few (Ok x) f all = all x
then_few (Err fault) f all = tt

user_few : (name : List ℕ) (id : UserId) (locked : Bool) (gecos home shell : Option (List ℕ)) (place : Place) → IsFewUser (Some id) → HasFewNames (request.User name id locked gecos home shell place)
user_few name user.Auto locked gecos home shell place few q e = absurd (no_path q e)
user_few name (user.Number n) locked gecos home shell place few q e = absurd (no_path q e)
user_few name (user.Path p) locked gecos home shell place few q e = subst (λ (x : Path). length x < 2 ^ 32) (same_Some p q e) few
user_few name (user.Primary uid primary) locked gecos home shell place few q e = absurd (no_path q e)

group_few : (name : List ℕ) (id : GroupId) (place : Place) → IsFewGroup (Some id) → HasFewNames (request.Group name id place)
group_few name group.Auto place few q e = absurd (no_path q e)
group_few name (group.Number n) place few q e = absurd (no_path q e)
group_few name (group.Path p) place few q e = subst (λ (x : Path). length x < 2 ^ 32) (same_Some p q e) few

user_with-few : (place : Place) (locked more : Bool) (texts : UserTexts) → IsFewIn (user_with place locked more texts)
user_with-few place locked more texts = by (is_account_name texts.name) (user_id_in texts.id) (user_id_in-few texts.id) (are_account_texts texts) more
  where
    by : (named : Bool) (o : Option UserId) → IsFewUser o → (fit more : Bool)
        → IsFewIn (if named then or_fault fault.BadId o >>= (λ id. if fit then ended more (request.User texts.name id locked texts.gecos texts.home texts.shell place) else Err fault.BadField) else Err fault.BadName)
    by false o few fit more = tt
    by true None few fit more = tt
    by true (Some id) few false more = tt
    by true (Some id) few true true = tt
    by true (Some id) few true false = user_few texts.name id locked texts.gecos texts.home texts.shell place few

group_with-few : (place : Place) (more : Bool) (name id : List ℕ) → IsFewIn (group_with place more name id)
group_with-few place more name text = by (is_account_name name) (group_id_in text) (group_id_in-few text) more
  where
    by : (named : Bool) (o : Option GroupId) → IsFewGroup o → (more : Bool)
        → IsFewIn (if named then or_fault fault.BadId o >>= (λ id. ended more (request.Group name id place)) else Err fault.BadName)
    by false o few more = tt
    by true None few more = tt
    by true (Some id) few true = tt
    by true (Some id) few false = group_few name id place few

member_with-few : (place : Place) (more : Bool) (user group : List ℕ) → IsFewIn (member_with place more user group)
member_with-few place more user group = by (is_account_name user && is_account_name group) more
  where
    by : (named more : Bool) → IsFewIn (if named then ended more (request.Member user group place) else Err fault.BadName)
    by false more = tt
    by true true = tt
    by true false = λ q e. absurd (no_path q e)

range_with-few : (place : Place) (more : Bool) (name range : List ℕ) → IsFewIn (range_with place more name range)
range_with-few place more name range = by (is_dash name) (range_in range) more
  where
    by : (dash : Bool) (o : Option (ℕ × ℕ)) (more : Bool) → IsFewIn (if dash then or_fault fault.BadRange o >>= (λ numbers. ended more (request.Range numbers.0 numbers.1 place)) else Err fault.BadName)
    by false o more = tt
    by true None more = tt
    by true (Some numbers) true = tt
    by true (Some numbers) false = λ q e. absurd (no_path q e)

request_by-few : (facts : Values) (place : Place) (cut : Cut) (typed : LineType) → IsFewIn (request_by facts place cut typed)
request_by-few facts place cut (line.User locked) = then_few (user_texts facts cut) (user_with place locked (has_more cut)) (user_with-few place locked (has_more cut))
request_by-few facts place cut line.Group = then_few (two_texts facts cut) (λ texts. group_with place (has_more cut) texts.0 texts.1) (λ texts. group_with-few place (has_more cut) texts.0 texts.1)
request_by-few facts place cut line.Member = then_few (two_needed facts cut) (λ texts. member_with place (has_more cut) texts.0 texts.1) (λ texts. member_with-few place (has_more cut) texts.0 texts.1)
request_by-few facts place cut line.Range = then_few (two_needed facts cut) (λ texts. range_with place (has_more cut) texts.0 texts.1) (λ texts. range_with-few place (has_more cut) texts.0 texts.1)

request_in-few : (facts : Values) (place : Place) (cut : Cut) → IsFewIn (request_in facts place cut)
request_in-few facts place cut = then_few (type_of (text cut 0)) (request_by facts place cut) (request_by-few facts place cut)

-- a request that was read has few names
pub given-few : (facts : Values) (place : Place) (cut : Cut) (r : Result Request RequestFault) → Gives r (request_in facts place cut) → IfOk r HasFewNames
given-few facts place cut (Ok request) gives = subst IsFewIn gives (request_in-few facts place cut)
given-few facts place cut (Err fault) gives = tt
