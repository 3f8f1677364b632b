-- The groups and the users that lines need, and the numbers that they fix (sysusers.d(5), "Type" and "ID").
use Rattle.std.specs.Option.{option_to_list}
use Rattle.std.specs.Prelude.{ℕ, Bool, false, not, ◌&&◌, List, [], ◌∷◌, ◌++◌, Option, Some, None, is_none, option_map, if◌then◌else◌}
use Rattle.std.specs.List.{flat_map}
use Rattle.std.specs.Str.{bytes_eq}
use Rattle.pv_accounts.specs.InUse.{Ids, id_of}
use Rattle.pv_requests.specs.declared.request.GroupId.{GroupId}
use Rattle.pv_requests.specs.declared.request.GroupId.TheVariants as group
use Rattle.pv_requests.specs.declared.request.Primary.TheVariants as primary
use Rattle.pv_requests.specs.declared.request.Request.TheVariants as request
use Rattle.pv_requests.specs.declared.request.UserId.{UserId}
use Rattle.pv_requests.specs.declared.request.UserId.TheVariants as user
use Rattle.pv_text.specs.declared.place.Place.{Place}
use Rattle.pv_sysusers.specs.Lines.{Line, is_named}
use Rattle.pv_sysusers.specs.declared.needs.Account.{Account}
use Rattle.pv_sysusers.specs.declared.needs.Main.{Main}
use Rattle.pv_sysusers.specs.declared.needs.Main.TheVariants as main
use Rattle.pv_sysusers.specs.declared.needs.Need.{Need}
use Rattle.pv_sysusers.specs.declared.path_ids.PathId.{PathId}

-- Whether the user of an `m` line is made by this line: he has no entry, and no `u` line names him.
abbrev pub is_made : Ids → List Line → List ℕ → Bool
is_made users lines name = is_none (id_of users name) && not (is_named lines name)

-- A group that a line at a location needs, with the number that the line fixes for it.
abbrev pub need : List ℕ → Option ℕ → Place → Need
need name number place = record { name = name; number = number; place = place }

-- The group that a `u` line needs. It is the group of the user's name, or for `ID:GROUP` the named group. For
-- `ID:GID` there is none.
abbrev pub user_needs : List ℕ → Place → Option PathId → UserId → List Need
user_needs name place owners user.Auto = need name None place ∷ []
user_needs name place owners (user.Number n) = need name (Some n) place ∷ []
user_needs name place owners (user.Path path) = need name (option_map (λ o. o.gid) owners) place ∷ []
user_needs name place owners (user.Primary uid (primary.Gid n)) = []
user_needs name place owners (user.Primary uid (primary.Name group)) = need group None place ∷ []

-- The number that a `g` line fixes, if it does.
abbrev pub group_number : Option PathId → GroupId → Option ℕ
group_number owners group.Auto = None
group_number owners (group.Number n) = Some n
group_number owners (group.Path path) = option_map (λ o. o.gid) owners

-- The groups that an `m` line needs. If the user is made, the group of his name comes first.
abbrev pub member_needs : Bool → List ℕ → List ℕ → Place → List Need
member_needs made user group place = (if made then need user None place ∷ [] else []) ++ need group None place ∷ []

-- The groups that a line needs.
abbrev pub needs_of : (List ℕ → Bool) → Line → List Need
needs_of made (request.User name id locked gecos home shell place, owners) = user_needs name place owners id
needs_of made (request.Group name id place, owners) = need name (group_number owners id) place ∷ []
needs_of made (request.Member user group place, owners) = member_needs (made user) user group place
needs_of made (request.Range first last place, owners) = []

-- The UID that a `u` line fixes, if it does.
abbrev pub user_number : Option PathId → UserId → Option ℕ
user_number owners user.Auto = None
user_number owners (user.Number n) = Some n
user_number owners (user.Path path) = option_map (λ o. o.uid) owners
user_number owners (user.Primary uid group) = uid

-- The primary group of a user.
abbrev pub main_of : UserId → Main
main_of (user.Primary uid (primary.Gid n)) = main.Gid n
main_of (user.Primary uid (primary.Name group)) = main.Named group
main_of _ = main.Own

-- The user that an `m` line makes, as `u USER -` would.
abbrev pub plain_account : List ℕ → Place → Account
plain_account name place = record { name = name; uid = None; main = main.Own; locked = false; gecos = None; home = None; shell = None; place = place }

-- The user of an `m` line, if the line makes him.
abbrev pub made_account : Bool → List ℕ → Place → List Account
made_account made name place = if made then plain_account name place ∷ [] else []

-- The user of a `u` line.
abbrev pub account_of : Line → Option Account
account_of (request.User name id locked gecos home shell place, owners) =
    Some (record { name = name; uid = user_number owners id; main = main_of id; locked = locked; gecos = gecos; home = home; shell = shell; place = place })
account_of _ = None

-- The users that a line needs.
abbrev pub accounts_of : (List ℕ → Bool) → Line → List Account
accounts_of made (request.Member user group place, owners) = made_account (made user) user place
accounts_of made line = option_to_list (account_of line)

-- The number of a primary group that is given by number.
abbrev pub main_number : Main → List ℕ
main_number (main.Gid n) = n ∷ []
main_number _ = []

-- The numbers that the line of a user fixes: the UID, and the GID if the primary group is given by number.
abbrev pub account_numbers : Account → List ℕ
account_numbers account = option_to_list account.uid ++ main_number account.main

-- The numbers that lines fix. They are not given to others.
abbrev pub fixed_numbers : List Need → List Account → List ℕ
fixed_numbers needs accounts = flat_map (λ need. option_to_list need.number) needs ++ flat_map account_numbers accounts

-- The number that a line fixes, with its location, or otherwise what another line fixes.
abbrev pub fixed_or : Place → Option (ℕ × Place) → Option ℕ → Option (ℕ × Place)
fixed_or place other (Some n) = Some (n, place)
fixed_or place other None = other

-- The first number that a line fixes for this group, with the location of that line.
abbrev pub fixed_for : List Need → List ℕ → Option (ℕ × Place)
fixed_for [] name = None
fixed_for (n ∷ needs) name = if bytes_eq n.name name then fixed_or n.place (fixed_for needs name) n.number else fixed_for needs name
