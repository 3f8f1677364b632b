-- Laws of plans made again: once new groups and new users are there, none is new, and nothing is said.
use Rattle.std.specs.Prelude.{◌≡◌, ℕ, Bool, true, false, cond, List, [], ◌∷◌, ◌++◌, Option, Some, None, is_some}
use Rattle.std.proofs.Common.{refl, ap, subst, ◌∙◌, append_assoc}
use Rattle.std.specs.List.{AllByRecursion}
use Rattle.std.specs.Map.{lookup}
use Rattle.std.specs.Str.{bytes_eq}
use Rattle.pv_accounts.specs.InUse.{Ids, id_of}
use Rattle.pv_text.specs.declared.place.Place.{Place}
use Rattle.pv_sysusers.specs.Groups.{NewGroups, decided_groups, group_choice, group_chosen, no_groups}
use Rattle.pv_sysusers.specs.Settled.{ids_made}
use Rattle.pv_sysusers.specs.Users.{NewUsers, decided_users, no_users, user_choice, user_chosen}
use Rattle.pv_sysusers.specs.declared.needs.Account.{Account}
use Rattle.pv_sysusers.specs.declared.needs.Need.{Need}
use Rattle.std.proofs.lemmas.Slice.Eq.{bytes_eq-Decides}

-- ---- names that are there

abbrev pub HasId : Ids → List ℕ → Type 0
HasId ids name = is_some (id_of ids name) ≡ true

has_left : (ids more : Ids) (name : List ℕ) → HasId ids name → HasId (ids ++ more) name
has_left [] more name h = absurd (let no : false ≡ true = h in cc)
has_left (held ∷ ids) more name h = by (bytes_eq name held.0) h (has_left ids more name)
  where
    by : (b : Bool) → is_some (cond b (Some held.1) (lookup (bytes_eq name) ids)) ≡ true → (HasId ids name → HasId (ids ++ more) name)
        → is_some (cond b (Some held.1) (lookup (bytes_eq name) (ids ++ more))) ≡ true
    by true h rest = refl
    by false h rest = rest h

has_right : (ids more : Ids) (name : List ℕ) → HasId more name → HasId (ids ++ more) name
has_right [] more name h = h
has_right (held ∷ ids) more name h = by (bytes_eq name held.0) (has_right ids more name h)
  where
    by : (b : Bool) → HasId (ids ++ more) name → is_some (cond b (Some held.1) (lookup (bytes_eq name) (ids ++ more))) ≡ true
    by true rest = refl
    by false rest = rest

has_first : (name : List ℕ) (n : ℕ) (more : Ids) → HasId ((name, n) ∷ more) name
has_first name n more = ap (λ b. is_some (cond b (Some n) (lookup (bytes_eq name) more))) ((bytes_eq-Decides name name).1 refl)

-- ---- groups

module _ (pooled : ℕ → Bool) (users : Ids) (fixed : List ℕ → Option (ℕ × Place)) where
  abbrev pub decided : Ids → List Need → NewGroups
  decided = decided_groups pooled users fixed

  abbrev pub AreThere : Ids → List Need → Type 0
  AreThere groups needs = AllByRecursion (λ need. HasId groups need.name) needs

  there_chosen : (groups : Ids) (need : Need) (needs : List Need) (m : Option ℕ) (new_messages : List (List ℕ))
      → ((g : Ids) → (decided g needs).lacking ≡ None → AreThere (g ++ (decided g needs).made) needs)
      → (group_chosen need.name (record { number = m; new_messages = new_messages }) (λ n. decided (groups ++ (need.name, n) ∷ []) needs)).lacking ≡ None
      → AreThere (groups ++ (group_chosen need.name (record { number = m; new_messages = new_messages }) (λ n. decided (groups ++ (need.name, n) ∷ []) needs)).made) (need ∷ needs)
  there_chosen groups need needs None new_messages others h = absurd (let no : Some need.name ≡ None = h in cc)
  there_chosen groups need needs (Some n) new_messages others h =
      let rest = (decided (groups ++ (need.name, n) ∷ []) needs).made in (
        has_right groups ((need.name, n) ∷ rest) need.name (has_first need.name n rest),
        subst (λ (g : Ids). AreThere g needs) (append_assoc groups ((need.name, n) ∷ []) rest) (others (groups ++ (need.name, n) ∷ []) h),
      )

  abbrev chosen : Ids → Need → List Need → NewGroups
  chosen groups need needs = group_chosen need.name (group_choice pooled users groups need.name (fixed need.name)) (λ n. decided (groups ++ (need.name, n) ∷ []) needs)

  -- each group that lines need is there with the new ones
  pub groups_there : (needs : List Need) (groups : Ids) → (decided groups needs).lacking ≡ None → AreThere (groups ++ (decided groups needs).made) needs
  groups_there [] groups h = tt
  groups_there (need ∷ needs) groups h = by (is_some (id_of groups need.name)) refl h (λ g l. groups_there needs g l)
    where
      by : (b : Bool) → is_some (id_of groups need.name) ≡ b → (cond b (decided groups needs) (chosen groups need needs)).lacking ≡ None
          → ((g : Ids) → (decided g needs).lacking ≡ None → AreThere (g ++ (decided g needs).made) needs)
          → AreThere (groups ++ (cond b (decided groups needs) (chosen groups need needs)).made) (need ∷ needs)
      by true e h others = (has_left groups (decided groups needs).made need.name e, others groups h)
      by false e h others =
          there_chosen groups need needs (group_choice pooled users groups need.name (fixed need.name)).number (group_choice pooled users groups need.name (fixed need.name)).new_messages others h

pub none_new : (pooled : ℕ → Bool) (users : Ids) (fixed : List ℕ → Option (ℕ × Place)) (groups : Ids) (needs : List Need)
    → AllByRecursion (λ need. HasId groups need.name) needs → decided_groups pooled users fixed groups needs ≡ no_groups
none_new pooled users fixed groups [] all = refl
none_new pooled users fixed groups (need ∷ needs) all =
    ap (λ b. cond b (decided_groups pooled users fixed groups needs) (group_chosen need.name (group_choice pooled users groups need.name (fixed need.name)) (λ n. decided_groups pooled users fixed (groups ++ (need.name, n) ∷ []) needs))) all.0
    ∙ none_new pooled users fixed groups needs all.1

-- where the new groups are there, deciding again, by whatever pool, users and fixed numbers, makes none and says nothing
pub groups_settled : (pooled again : ℕ → Bool) (users later : Ids) (fixed then : List ℕ → Option (ℕ × Place)) (groups : Ids) (needs : List Need)
    → (decided_groups pooled users fixed groups needs).lacking ≡ None
    → decided_groups again later then (groups ++ (decided_groups pooled users fixed groups needs).made) needs ≡ no_groups
groups_settled pooled again users later fixed then groups needs h =
    none_new again later then (groups ++ (decided_groups pooled users fixed groups needs).made) needs (groups_there pooled users fixed needs groups h)

-- ---- users

module _ (pooled : ℕ → Bool) (groups : Ids) where
  abbrev pub decided_by : Ids → List Account → NewUsers
  decided_by = decided_users pooled groups

  abbrev pub AreMembers : Ids → List Account → Type 0
  AreMembers users accounts = AllByRecursion (λ account. HasId users account.name) accounts

  members_chosen : (users : Ids) (account : Account) (accounts : List Account) (m : Option ℕ) (new_messages : List (List ℕ))
      → ((u : Ids) → (decided_by u accounts).lacking ≡ None → AreMembers (u ++ ids_made (decided_by u accounts).made) accounts)
      → (user_chosen groups account (record { number = m; new_messages = new_messages }) (λ n. decided_by (users ++ (account.name, n) ∷ []) accounts)).lacking ≡ None
      → AreMembers (users ++ ids_made (user_chosen groups account (record { number = m; new_messages = new_messages }) (λ n. decided_by (users ++ (account.name, n) ∷ []) accounts)).made) (account ∷ accounts)
  members_chosen users account accounts None new_messages others h = absurd (let no : Some account.name ≡ None = h in cc)
  members_chosen users account accounts (Some n) new_messages others h =
      let rest = ids_made (decided_by (users ++ (account.name, n) ∷ []) accounts).made in (
        has_right users ((account.name, n) ∷ rest) account.name (has_first account.name n rest),
        subst (λ (u : Ids). AreMembers u accounts) (append_assoc users ((account.name, n) ∷ []) rest) (others (users ++ (account.name, n) ∷ []) h),
      )

  abbrev picked : Ids → Account → List Account → NewUsers
  picked users account accounts = user_chosen groups account (user_choice pooled users groups account) (λ n. decided_by (users ++ (account.name, n) ∷ []) accounts)

  -- each user that lines need is there with the new ones
  pub users_there : (accounts : List Account) (users : Ids) → (decided_by users accounts).lacking ≡ None → AreMembers (users ++ ids_made (decided_by users accounts).made) accounts
  users_there [] users h = tt
  users_there (account ∷ accounts) users h = by (is_some (id_of users account.name)) refl h (λ u l. users_there accounts u l)
    where
      by : (b : Bool) → is_some (id_of users account.name) ≡ b → (cond b (decided_by users accounts) (picked users account accounts)).lacking ≡ None
          → ((u : Ids) → (decided_by u accounts).lacking ≡ None → AreMembers (u ++ ids_made (decided_by u accounts).made) accounts)
          → AreMembers (users ++ ids_made (cond b (decided_by users accounts) (picked users account accounts)).made) (account ∷ accounts)
      by true e h others = (has_left users (ids_made (decided_by users accounts).made) account.name e, others users h)
      by false e h others =
          members_chosen users account accounts (user_choice pooled users groups account).number (user_choice pooled users groups account).new_messages others h

pub no_new : (pooled : ℕ → Bool) (groups users : Ids) (accounts : List Account) → AllByRecursion (λ account. HasId users account.name) accounts → decided_users pooled groups users accounts ≡ no_users
no_new pooled groups users [] all = refl
no_new pooled groups users (account ∷ accounts) all =
    ap (λ b. cond b (decided_users pooled groups users accounts) (user_chosen groups account (user_choice pooled users groups account) (λ n. decided_users pooled groups (users ++ (account.name, n) ∷ []) accounts))) all.0
    ∙ no_new pooled groups users accounts all.1

-- where the new users are there, deciding again, by whatever pool and groups, makes none and says nothing
pub users_settled : (pooled again : ℕ → Bool) (groups later users : Ids) (accounts : List Account) → (decided_users pooled groups users accounts).lacking ≡ None
    → decided_users again later (users ++ ids_made (decided_users pooled groups users accounts).made) accounts ≡ no_users
users_settled pooled again groups later users accounts h =
    no_new again later (users ++ ids_made (decided_users pooled groups users accounts).made) accounts (users_there pooled groups accounts users h)
