-- New groups and new users have names that were not there, IDs that they may have, and what their lines ask for.
use Rattle.std.proofs.Common.{◌≡◌, ℕ, ◌<◌, Bool, true, false, not, ◌&&◌, ◌||◌, ◌==◌, List, [], ◌∷◌, ◌++◌, Option, Some, None, is_some, unwrap_or, append_assoc, append-nil, refl, sym, ap, subst, ◌∙◌, arith, cond, if◌then◌else◌}
use Rattle.std.specs.List.{AllByRecursion}
use Rattle.std.specs.Option.{option_or}
use Rattle.std.specs.Str.{bytes_eq}
use Rattle.std.proofs.lemmas.Bool.Decides.{nat_tests}
use Rattle.std.proofs.lemmas.Slice.Eq.{bytes_eq-Decides}
use Rattle.pv_acl.specs.NamedEntries.{is_id}
use Rattle.pv_accounts.specs.InUse.{AreApart, Ids, id_of, is_held, is_held_beside}
use Rattle.pv_accounts.proofs.Counting.{apart_more}
use Rattle.pv_accounts.proofs.Rereading.{AreIds, IsPlain, id_append}
use Rattle.pv_text.specs.declared.place.Place.{Place}
use Rattle.pv_requests.specs.Allowed.{is_any_id}
use Rattle.pv_sysusers.specs.Groups.{Choice, decided_groups, group_choice, group_chosen, in_use_message}
use Rattle.pv_sysusers.specs.Needs.{fixed_for, fixed_or}
use Rattle.pv_sysusers.specs.Pools.{free_number}
use Rattle.pv_sysusers.specs.Settled.{ids_made}
use Rattle.pv_sysusers.specs.Users.{decided_users, gid_of, group_or_free, is_free_for, user_choice, user_chosen}
use Rattle.pv_sysusers.specs.declared.needs.Account.{Account}
use Rattle.pv_sysusers.specs.declared.needs.Main.{Main}
use Rattle.pv_sysusers.specs.declared.needs.Main.TheVariants as main
use Rattle.pv_sysusers.specs.declared.needs.Need.{Need}
use Rattle.pv_sysusers.specs.declared.users.NewUser.{NewUser}
use Rattle.pv_sysusers.proofs.AllowedLaws.{IsFitAccount, IsFitNeed, is_main_id}
use Rattle.pv_sysusers.proofs.Highest.{highest_below}

-- ---- names that are apart

-- a name of the second of two lists that are apart is none of the first
pub apart_parts : (a b : Ids) (name : List ℕ) → AreApart (a ++ b) → is_some (id_of b name) ≡ true → id_of a name ≡ None
apart_parts [] b name apart h = refl
apart_parts (held ∷ a) b name apart h = by (bytes_eq name held.0) refl (apart_parts a b name apart.1 h)
  where
    no_other : (o p : Option ℕ) → option_or o p ≡ None → is_some p ≡ true → ⊥
    no_other None None e k = let no : false ≡ true = k in cc
    no_other None (Some n) e k = let no : ◌≡◌ {A = Option ℕ} (Some n) None = e in cc
    no_other (Some n) p e k = let no : ◌≡◌ {A = Option ℕ} (Some n) None = e in cc

    by : (t : Bool) → bytes_eq name held.0 ≡ t → id_of a name ≡ None → cond t (Some held.1) (id_of a name) ≡ None
    by true e rest = absurd (no_other (id_of a held.0) (id_of b held.0) (sym (id_append a b held.0) ∙ apart.0) (ap (λ n. is_some (id_of b n)) (sym ((bytes_eq-Decides name held.0).0 e)) ∙ h))
    by false e rest = rest

none_of : (o : Option ℕ) → is_some o ≡ false → o ≡ None
none_of None h = refl
none_of (Some n) h = absurd (let no : true ≡ false = h in cc)

-- ---- numbers

free_is : (pooled : ℕ → Bool) (users groups : Ids) (n : ℕ) → free_number pooled users groups ≡ Some n → is_id n ≡ true
free_is pooled users groups n h =
    let below : n < 4294967295 = highest_below (λ m. pooled m && not (is_held users m) && not (is_held groups m)) 4294967295 n h in
    grind (arith, nat_tests)

same_id : (m n : ℕ) → is_id m ≡ true → ◌≡◌ {A = Option ℕ} (Some m) (Some n) → is_id n ≡ true
same_id m n h e = let same : m ≡ n = cc in subst (λ (x : ℕ). is_id x ≡ true) same h

-- a number that some line fixes is an ID
abbrev pub AreFixed : (List ℕ → Option (ℕ × Place)) → Type 0
AreFixed fixed = (name : List ℕ) (f : ℕ × Place) → fixed name ≡ Some f → is_id f.0 ≡ true

pub fixed_is : (needs : List Need) → AllByRecursion IsFitNeed needs → AreFixed (fixed_for needs)
fixed_is [] fit name f h = absurd (let no : ◌≡◌ {A = Option (ℕ × Place)} None (Some f) = h in cc)
fixed_is (n ∷ needs) fit name f h = by (bytes_eq n.name name) h (fixed_is needs fit.1 name f)
  where
    here : (o : Option ℕ) → is_any_id o ≡ true → (fixed_for needs name ≡ Some f → is_id f.0 ≡ true) → fixed_or n.place (fixed_for needs name) o ≡ Some f → is_id f.0 ≡ true
    here None is rest k = rest k
    here (Some m) is rest k =
        let whole : ◌≡◌ {A = Option (ℕ × Place)} (Some (m, n.place)) (Some f) = k in
        let same : (m, n.place) ≡ f = cc in
        subst (λ (x : ℕ × Place). is_id x.0 ≡ true) same is

    by : (t : Bool) → (if t then fixed_or n.place (fixed_for needs name) n.number else fixed_for needs name) ≡ Some f → (fixed_for needs name ≡ Some f → is_id f.0 ≡ true) → is_id f.0 ≡ true
    by true k rest = here n.number fit.0.number rest k
    by false k rest = rest k

-- ---- groups

-- a group with a name and an ID that it may have
pub record IsFitGroup (group : List ℕ × ℕ) : Type 0 where
  pub name : IsPlain group.0
  pub gid : is_id group.1 ≡ true

-- new groups are apart from those that were there, and fit
pub record AreNewGroups (groups made : Ids) : Type 0 where
  pub apart : AreApart (groups ++ made)
  pub fit : AllByRecursion IsFitGroup made

module _ (pooled : ℕ → Bool) (users : Ids) (fixed : List ℕ → Option (ℕ × Place)) (are : AreFixed fixed) where
  group_number_is : (groups : Ids) (name : List ℕ) (n : ℕ) → (group_choice pooled users groups name (fixed name)).number ≡ Some n → is_id n ≡ true
  group_number_is groups name n = by (fixed name) refl
    where
      by : (o : Option (ℕ × Place)) → fixed name ≡ o → (group_choice pooled users groups name o).number ≡ Some n → is_id n ≡ true
      by None e = λ h. free_is pooled users groups n h
      by (Some f) e = held (is_held groups f.0 || is_held_beside users f.0 name)
        where
          held : (t : Bool) → (cond {A = Choice} t (record { number = free_number pooled users groups; new_messages = in_use_message f.1 f.0 name ∷ [] }) (record { number = Some f.0; new_messages = [] })).number ≡ Some n → is_id n ≡ true
          held true h = free_is pooled users groups n h
          held false h = same_id f.0 n (are name f e) h

  new_after : (groups : Ids) (need : Need) (needs : List Need) → AreApart groups → id_of groups need.name ≡ None → IsFitNeed need
      → ((g : Ids) → AreApart g → AreNewGroups g (decided_groups pooled users fixed g needs).made)
      → (o : Option ℕ) (new_messages : List (List ℕ)) → ((n : ℕ) → o ≡ Some n → is_id n ≡ true)
      → AreNewGroups groups (group_chosen need.name (record { number = o; new_messages = new_messages }) (λ n. decided_groups pooled users fixed (groups ++ (need.name, n) ∷ []) needs)).made
  new_after groups need needs apart none fit rest None new_messages is = record { apart = subst AreApart (sym (append-nil groups)) apart; fit = tt }
  new_after groups need needs apart none fit rest (Some n) new_messages is =
      let later = rest (groups ++ (need.name, n) ∷ []) (apart_more groups need.name n apart none) in
      record {
        apart = subst AreApart (append_assoc groups ((need.name, n) ∷ []) (decided_groups pooled users fixed (groups ++ (need.name, n) ∷ []) needs).made) later.apart;
        fit = (record { name = fit.name; gid = is n refl }, later.fit);
      }

  pub groups_new : (needs : List Need) → AllByRecursion IsFitNeed needs → (groups : Ids) → AreApart groups → AreNewGroups groups (decided_groups pooled users fixed groups needs).made
  groups_new [] fit groups apart = record { apart = subst AreApart (sym (append-nil groups)) apart; fit = tt }
  groups_new (need ∷ needs) fit groups apart = by (is_some (id_of groups need.name)) refl (groups_new needs fit.1)
    where
      by : (t : Bool) → is_some (id_of groups need.name) ≡ t → ((g : Ids) → AreApart g → AreNewGroups g (decided_groups pooled users fixed g needs).made)
          → AreNewGroups groups (if t then decided_groups pooled users fixed groups needs
          else group_chosen need.name (group_choice pooled users groups need.name (fixed need.name)) (λ n. decided_groups pooled users fixed (groups ++ (need.name, n) ∷ []) needs)).made
      by true e rest = rest groups apart
      by false e rest =
          new_after groups need needs apart (none_of (id_of groups need.name) e) fit.0 rest (group_choice pooled users groups need.name (fixed need.name)).number
          (group_choice pooled users groups need.name (fixed need.name)).new_messages (group_number_is groups need.name)

-- ---- users

-- a user with IDs that he may have
pub record IsFitUser (user : NewUser) : Type 0 where
  pub account : IsFitAccount user.account
  pub uid : is_id user.uid ≡ true
  pub gid : is_id user.gid ≡ true

pub record AreNewUsers (users : Ids) (made : List NewUser) : Type 0 where
  pub apart : AreApart (users ++ ids_made made)
  pub fit : AllByRecursion IsFitUser made

module _ (pooled : ℕ → Bool) (groups : Ids) (are : AreIds groups) where
  named_gid : (o : Option ℕ) → ((n : ℕ) → o ≡ Some n → is_id n ≡ true) → is_id (unwrap_or o 0) ≡ true
  named_gid None is = refl
  named_gid (Some n) is = is n refl

  gid_is : (name : List ℕ) (m : Main) → is_main_id m ≡ true → is_id (gid_of groups name m) ≡ true
  gid_is name main.Own h = named_gid (id_of groups name) (are name)
  gid_is name (main.Gid n) h = h
  gid_is name (main.Named group) h = named_gid (id_of groups group) (are group)

  group_or_free_is : (users : Ids) (name : List ℕ) (n : ℕ) → group_or_free pooled users groups name ≡ Some n → is_id n ≡ true
  group_or_free_is users name n h = by (id_of groups name) refl
    where
      tested : (m : ℕ) → is_id m ≡ true → (t : Bool) → (if t then Some m else free_number pooled users groups) ≡ Some n → is_id n ≡ true
      tested m is true k = same_id m n is k
      tested m is false k = free_is pooled users groups n k

      by : (o : Option ℕ) → id_of groups name ≡ o → is_id n ≡ true
      by None e = free_is pooled users groups n (let k : free_number pooled users groups ≡ Some n = rw e at h in k)
      by (Some m) e =
          tested m (are name m e) (not (m == 0) && is_free_for users groups name m)
          (let k : (if not (m == 0) && is_free_for users groups name m then Some m else free_number pooled users groups) ≡ Some n = rw e at h in k)

  uid_is : (users : Ids) (account : Account) → is_any_id account.uid ≡ true → (n : ℕ) → (user_choice pooled users groups account).number ≡ Some n → is_id n ≡ true
  uid_is users account is n h = by account.uid refl
    where
      by : (o : Option ℕ) → account.uid ≡ o → is_id n ≡ true
      by None e = group_or_free_is users account.name n (let k : group_or_free pooled users groups account.name ≡ Some n = rw e at h in k)
      by (Some m) e = tested (is_free_for users groups account.name m) refl
        where
          fits : is_id m ≡ true
          fits = sym (ap is_any_id e) ∙ is

          tested : (t : Bool) → is_free_for users groups account.name m ≡ t → is_id n ≡ true
          tested true d = same_id m n fits (let k : ◌≡◌ {A = Option ℕ} (Some m) (Some n) = rw (e, d) at h in k)
          tested false d = group_or_free_is users account.name n (let k : group_or_free pooled users groups account.name ≡ Some n = rw (e, d) at h in k)

  user_after : (users : Ids) (account : Account) (accounts : List Account) → AreApart users → id_of users account.name ≡ None → IsFitAccount account
      → ((u : Ids) → AreApart u → AreNewUsers u (decided_users pooled groups u accounts).made)
      → (o : Option ℕ) (new_messages : List (List ℕ)) → ((n : ℕ) → o ≡ Some n → is_id n ≡ true)
      → AreNewUsers users (user_chosen groups account (record { number = o; new_messages = new_messages }) (λ n. decided_users pooled groups (users ++ (account.name, n) ∷ []) accounts)).made
  user_after users account accounts apart none fit rest None new_messages is = record { apart = subst AreApart (sym (append-nil users)) apart; fit = tt }
  user_after users account accounts apart none fit rest (Some n) new_messages is =
      let later = rest (users ++ (account.name, n) ∷ []) (apart_more users account.name n apart none) in
      record {
        apart = subst AreApart (append_assoc users ((account.name, n) ∷ []) (ids_made (decided_users pooled groups (users ++ (account.name, n) ∷ []) accounts).made)) later.apart;
        fit = (record { account = fit; uid = is n refl; gid = gid_is account.name account.main fit.main }, later.fit);
      }

  pub users_new : (accounts : List Account) → AllByRecursion IsFitAccount accounts → (users : Ids) → AreApart users → AreNewUsers users (decided_users pooled groups users accounts).made
  users_new [] fit users apart = record { apart = subst AreApart (sym (append-nil users)) apart; fit = tt }
  users_new (account ∷ accounts) fit users apart = by (is_some (id_of users account.name)) refl (users_new accounts fit.1)
    where
      by : (t : Bool) → is_some (id_of users account.name) ≡ t → ((u : Ids) → AreApart u → AreNewUsers u (decided_users pooled groups u accounts).made)
          → AreNewUsers users (if t then decided_users pooled groups users accounts
          else user_chosen groups account (user_choice pooled users groups account) (λ n. decided_users pooled groups (users ++ (account.name, n) ∷ []) accounts)).made
      by true e rest = rest users apart
      by false e rest =
          user_after users account accounts apart (none_of (id_of users account.name) e) fit.0 rest (user_choice pooled users groups account).number
          (user_choice pooled users groups account).new_messages (uid_is users account fit.0.uid)

-- ---- IDs of those that were there and the new

made_are : (made : Ids) → AllByRecursion IsFitGroup made → AreIds made
made_are [] fit name n h = absurd (let no : ◌≡◌ {A = Option ℕ} None (Some n) = h in cc)
made_are (held ∷ made) fit name n h = by (bytes_eq name held.0) h (made_are made fit.1 name n)
  where
    by : (t : Bool) → cond t (Some held.1) (id_of made name) ≡ Some n → (id_of made name ≡ Some n → is_id n ≡ true) → is_id n ≡ true
    by true k rest = same_id held.1 n fit.0.gid k
    by false k rest = rest k

pub ids_with : (groups made : Ids) → AreIds groups → AllByRecursion IsFitGroup made → AreIds (groups ++ made)
ids_with groups made are fit name n h = by (id_of groups name) refl (sym (id_append groups made name) ∙ h)
  where
    by : (o : Option ℕ) → id_of groups name ≡ o → option_or o (id_of made name) ≡ Some n → is_id n ≡ true
    by None e k = made_are made fit name n k
    by (Some m) e k = same_id m n (are name m e) k
