-- A plan that is made again, where an earlier run was stopped among its files, gives the same texts.
use Rattle.std.proofs.Common.{◌≡◌, ◌⊎◌, ℕ, ◌<◌, ◌^◌, Bool, true, false, not, ◌&&◌, ◌||◌, ◌==◌, List, [], ◌∷◌, ◌++◌, map, Option, Some, None, is_some, option_map, unwrap_or, Result, Ok, Err, append-nil, refl, sym, ap, subst, ◌∙◌, inl, inr, if◌then◌else◌}
use Rattle.std.specs.Prelude.{is_none}
use Rattle.std.specs.List.{AllByRecursion, flat_map}
use Rattle.std.specs.Option.{option_or}
use Rattle.pv_accounts.specs.Entries.{is_group, is_gshadow, is_passwd}
use Rattle.pv_accounts.specs.InUse.{Ids, id_of, ids_of, is_held}
use Rattle.pv_accounts.proofs.Alike.{AreAlike}
use Rattle.pv_accounts.proofs.Members.{group_members}
use Rattle.pv_accounts.proofs.Rereading.{IsPlain, apart_file, id_append, ids_file}
use Rattle.pv_accounts.specs.Edits.{appended}
use Rattle.pv_requests.specs.declared.request.Request.{Request}
use Rattle.pv_requests.specs.declared.request.Request.TheVariants as request
use Rattle.pv_text.specs.declared.place.Place.{Place}
use Rattle.pv_requests.specs.Allowed.{IsAllowed}
use Rattle.pv_walk.proofs.OrderLaws.{all_before, all_behind}
use Rattle.pv_sysusers.specs.Allowed.{AreOwners, IsAllowedLine}
use Rattle.pv_sysusers.specs.Finishing.{AreFinished, Finishes, IsEither, IsPartWritten, files_with}
use Rattle.pv_sysusers.specs.Groups.{NewGroups, decided_groups, in_use_message, no_groups}
use Rattle.pv_sysusers.specs.Lines.{Line, counting, is_named, lines_from}
use Rattle.pv_sysusers.specs.Needs.{accounts_of, fixed_for, is_made, made_account, member_needs, needs_of}
use Rattle.pv_sysusers.specs.Plans.{AccountFiles, Numbers, accounts_by, needs_by, numbers_after, numbers_by, numbers_of, plan_of, planned, pool_by, texts_by, texts_of, texts_or, with_users}
use Rattle.pv_sysusers.specs.Pools.{free_number, highest}
use Rattle.pv_sysusers.specs.Settled.{ids_made}
use Rattle.pv_sysusers.specs.Texts.{group_line, group_text, gshadow_text, has_entry, membership_of, passwd_text, shadow_text, with_memberships}
use Rattle.pv_sysusers.specs.Users.{NewUsers, decided_users, gid_of, group_or_free, is_free_for, no_users, user_choice, user_chosen, user_first}
use Rattle.pv_sysusers.specs.declared.needs.Account.{Account}
use Rattle.pv_sysusers.specs.declared.needs.Main.{Main}
use Rattle.pv_sysusers.specs.declared.needs.Main.TheVariants as main
use Rattle.pv_sysusers.specs.declared.needs.Need.{Need}
use Rattle.pv_sysusers.specs.declared.path_ids.PathId.{PathId}
use Rattle.pv_sysusers.specs.declared.planned.Texts.{Texts}
use Rattle.pv_sysusers.specs.declared.users.NewUser.{NewUser}
use Rattle.pv_sysusers.proofs.AgainLaws.{groups_entered, groups_read, gshadow_again, members_again, shadow_again, users_read}
use Rattle.pv_sysusers.proofs.AllowedLaws.{IsFitAccount, IsFitNeed, accounts_fit, all_flat, counting_all, lines_all, members_fit, needs_fit}
use Rattle.pv_sysusers.proofs.NewLaws.{AreNewGroups, AreNewUsers, fixed_is, groups_new, ids_with, users_new}
use Rattle.pv_sysusers.proofs.PlanLaws.{after_groups}
use Rattle.pv_sysusers.proofs.SettledLaws.{HasId, groups_there, no_new, none_new, users_there}
use Rattle.pv_path.proofs.Tests.{all_append}

-- ---- users decided among groups that are alike

module _ (pooled : ℕ → Bool) (a b : Ids) (like : AreAlike a b) where
  free_same : (users : Ids) → free_number pooled users a ≡ free_number pooled users b
  free_same users = λ i. highest (λ n. pooled n && not (is_held users n) && not (like.held i n)) 4294967295

  free_for_same : (users : Ids) (name : List ℕ) (n : ℕ) → is_free_for users a name n ≡ is_free_for users b name n
  free_for_same users name n = λ i. not (is_held users n || like.beside i n name)

  group_or_free_same : (users : Ids) (name : List ℕ) → group_or_free pooled users a name ≡ group_or_free pooled users b name
  group_or_free_same users name = by (id_of a name) refl (sym (λ i. like.ids i name))
    where
      by : (o : Option ℕ) → id_of a name ≡ o → id_of b name ≡ id_of a name → group_or_free pooled users a name ≡ group_or_free pooled users b name
      by None e same = let other : id_of b name ≡ None = same ∙ e in rw (e, other) (free_same users)
      by (Some n) e same =
          let other : id_of b name ≡ Some n = same ∙ e in
          rw (e, other) (λ i. if not (n == 0) && free_for_same users name n i then Some n else free_same users i)

  choice_same : (users : Ids) (account : Account) → user_choice pooled users a account ≡ user_choice pooled users b account
  choice_same users account = by account.uid refl
    where
      by : (o : Option ℕ) → account.uid ≡ o → user_choice pooled users a account ≡ user_choice pooled users b account
      by None e = rw e (λ i. record { number = group_or_free_same users account.name i; new_messages = [] })
      by (Some n) e = rw e (λ i.
          if free_for_same users account.name n i then record { number = Some n; new_messages = [] }
          else record { number = group_or_free_same users account.name i; new_messages = in_use_message account.place n account.name ∷ [] })

  gid_same : (name : List ℕ) (m : Main) → gid_of a name m ≡ gid_of b name m
  gid_same name main.Own = λ i. unwrap_or (like.ids i name) 0
  gid_same name (main.Gid n) = refl
  gid_same name (main.Named group) = λ i. unwrap_or (like.ids i group) 0

  chosen_same : (account : Account) (o : Option ℕ) (new_messages : List (List ℕ)) (rest : ℕ → NewUsers)
      → user_chosen a account (record { number = o; new_messages = new_messages }) rest ≡ user_chosen b account (record { number = o; new_messages = new_messages }) rest
  chosen_same account None new_messages rest = refl
  chosen_same account (Some n) new_messages rest = λ i. user_first (record { account = account; uid = n; gid = gid_same account.name account.main i }) new_messages (rest n)

  pub users_alike : (accounts : List Account) (users : Ids) → decided_users pooled a users accounts ≡ decided_users pooled b users accounts
  users_alike [] users = refl
  users_alike (account ∷ accounts) users =
      (λ i. if is_some (id_of users account.name) then users_alike accounts users i
      else user_chosen a account (choice_same users account i) (λ n. users_alike accounts (users ++ (account.name, n) ∷ []) i))
      ∙ ap (λ (c : NewUsers). if is_some (id_of users account.name) then decided_users pooled b users accounts else c)
      (chosen_same account (user_choice pooled users b account).number (user_choice pooled users b account).new_messages (λ n. decided_users pooled b (users ++ (account.name, n) ∷ []) accounts))

-- ---- groups and users that are there

there_alike : (a b : Ids) → AreAlike a b → (needs : List Need) → AllByRecursion (λ need. HasId b need.name) needs → AllByRecursion (λ need. HasId a need.name) needs
there_alike a b like [] all = tt
there_alike a b like (need ∷ needs) all = ((λ i. is_some (like.ids i need.name)) ∙ all.0, there_alike a b like needs all.1)

members_alike : (a b : Ids) → AreAlike a b → (accounts : List Account) → AllByRecursion (λ account. HasId b account.name) accounts → AllByRecursion (λ account. HasId a account.name) accounts
members_alike a b like [] all = tt
members_alike a b like (account ∷ accounts) all = ((λ i. is_some (like.ids i account.name)) ∙ all.0, members_alike a b like accounts all.1)

-- ---- what lines ask for where fewer users are made

module _ (made fewer : List ℕ → Bool) (less : (name : List ℕ) → fewer name ≡ true → made name ≡ true) where
  module _ (P : Need → Type 0) where
    member_less : (user group : List ℕ) (place : Place) → AllByRecursion P (member_needs (made user) user group place) → AllByRecursion P (member_needs (fewer user) user group place)
    member_less user group place = by (fewer user) (made user) (less user)
      where
        by : (f m : Bool) → (f ≡ true → m ≡ true) → AllByRecursion P (member_needs m user group place) → AllByRecursion P (member_needs f user group place)
        by false false sub all = all
        by false true sub all = all.1
        by true true sub all = all
        by true false sub all = absurd (let no : false ≡ true = sub refl in cc)

    line_less : (line : Line) → AllByRecursion P (needs_of made line) → AllByRecursion P (needs_of fewer line)
    line_less (request.User name id locked gecos home shell place, owners) all = all
    line_less (request.Group name id place, owners) all = all
    line_less (request.Member user group place, owners) all = member_less user group place all
    line_less (request.Range first last place, owners) all = all

    needs_less : (lines : List Line) → AllByRecursion P (flat_map (needs_of made) lines) → AllByRecursion P (flat_map (needs_of fewer) lines)
    needs_less [] all = tt
    needs_less (line ∷ lines) all =
        let here : AllByRecursion P (needs_of made line) = all_before P (needs_of made line) (flat_map (needs_of made) lines) all in
        let rest : AllByRecursion P (flat_map (needs_of made) lines) = all_behind P (needs_of made line) (flat_map (needs_of made) lines) all in
        all_append P (needs_of fewer line) (flat_map (needs_of fewer) lines) (line_less line here) (needs_less lines rest)

  module _ (P : Account → Type 0) where
    account_less : (user : List ℕ) (place : Place) → AllByRecursion P (made_account (made user) user place) → AllByRecursion P (made_account (fewer user) user place)
    account_less user place = by (fewer user) (made user) (less user)
      where
        by : (f m : Bool) → (f ≡ true → m ≡ true) → AllByRecursion P (made_account m user place) → AllByRecursion P (made_account f user place)
        by false m sub all = tt
        by true true sub all = all
        by true false sub all = absurd (let no : false ≡ true = sub refl in cc)

    user_less : (line : Line) → AllByRecursion P (accounts_of made line) → AllByRecursion P (accounts_of fewer line)
    user_less (request.User name id locked gecos home shell place, owners) all = all
    user_less (request.Group name id place, owners) all = all
    user_less (request.Member user group place, owners) all = account_less user place all
    user_less (request.Range first last place, owners) all = all

    accounts_less : (lines : List Line) → AllByRecursion P (flat_map (accounts_of made) lines) → AllByRecursion P (flat_map (accounts_of fewer) lines)
    accounts_less [] all = tt
    accounts_less (line ∷ lines) all =
        let here : AllByRecursion P (accounts_of made line) = all_before P (accounts_of made line) (flat_map (accounts_of made) lines) all in
        let rest : AllByRecursion P (flat_map (accounts_of made) lines) = all_behind P (accounts_of made line) (flat_map (accounts_of made) lines) all in
        all_append P (accounts_of fewer line) (flat_map (accounts_of fewer) lines) (user_less line here) (accounts_less lines rest)

-- a user who is made where more users are there is made if there are fewer
made_before : (users more after : Ids) (lines : List Line) → AreAlike after (users ++ more) → (name : List ℕ) → is_made after lines name ≡ true → is_made users lines name ≡ true
made_before users more after lines like name h = by (id_of users name) (is_named lines name) ((λ i. is_none (like.ids i name) && not (is_named lines name)) ∙ ap (λ o. is_none o && not (is_named lines name)) (id_append users more name)) h
  where
    by : (o : Option ℕ) (named : Bool) → (is_none (id_of after name) && not (is_named lines name)) ≡ (is_none (option_or o (id_of more name)) && not named)
        → (is_none (id_of after name) && not (is_named lines name)) ≡ true → (is_none o && not named) ≡ true
    by None true e k = absurd (let no : (is_none (id_of more name) && false) ≡ true = sym e ∙ k in none_false (is_none (id_of more name)) no)
      where
        none_false : (t : Bool) → (t && false) ≡ true → ⊥
        none_false true x = let no : false ≡ true = x in cc
        none_false false x = let no : false ≡ true = x in cc
    by None false e k = refl
    by (Some n) named e k = let no : false ≡ true = sym e ∙ k in absurd (let bad : false ≡ true = no in cc)

-- ---- the numbers and the texts of a plan

-- a plan that gives texts has a number for each name
pub record IsWhole (files : AccountFiles) (lines : List Line) (day : ℕ) (texts : Texts) : Type 0 where
  pub groups : (decided_groups (pool_by (ids_of is_passwd files.passwd) lines) (ids_of is_passwd files.passwd) (fixed_for (needs_by (ids_of is_passwd files.passwd) lines)) (ids_of is_group files.group)
      (needs_by (ids_of is_passwd files.passwd) lines)).lacking ≡ None
  pub users : (numbers_of files lines).lacking ≡ None
  pub gives : texts_of files lines day (numbers_of files lines) ≡ texts

whole_groups : (pooled : ℕ → Bool) (users groups : Ids) (accounts : List Account) (new : NewGroups) → (numbers_after pooled users groups accounts new).lacking ≡ None → new.lacking ≡ None
whole_groups pooled users groups accounts new h = by new.lacking refl
  where
    by : (o : Option (List ℕ)) → new.lacking ≡ o → o ≡ None
    by None e = refl
    by (Some name) e = let no : Some name ≡ None = rw e at h in no

whole_plan : (files : AccountFiles) (lines : List Line) (day : ℕ) (texts : Texts) → (plan_of files lines day).texts ≡ Ok texts → IsWhole files lines day texts
whole_plan files lines day texts h = by (numbers_of files lines).lacking refl h
  where
    by : (o : Option (List ℕ)) → (numbers_of files lines).lacking ≡ o → texts_or (texts_of files lines day (numbers_of files lines)) o ≡ Ok texts → IsWhole files lines day texts
    by (Some name) e k = absurd (let no : ◌≡◌ {A = Result Texts (List ℕ)} (Err name) (Ok texts) = k in cc)
    by None e k = record {
      groups = whole_groups (pool_by (ids_of is_passwd files.passwd) lines) (ids_of is_passwd files.passwd) (ids_of is_group files.group) (accounts_by (ids_of is_passwd files.passwd) lines)
          (decided_groups (pool_by (ids_of is_passwd files.passwd) lines) (ids_of is_passwd files.passwd) (fixed_for (needs_by (ids_of is_passwd files.passwd) lines)) (ids_of is_group files.group)
          (needs_by (ids_of is_passwd files.passwd) lines)) e;
      users = e;
      gives = let same : ◌≡◌ {A = Result Texts (List ℕ)} (Ok (texts_of files lines day (numbers_of files lines))) (Ok texts) = k in cc;
    }

-- ---- a plan among files of which some are new

module _ (files : AccountFiles) (lines : List Line) (allowed : AllByRecursion IsAllowedLine lines) (day : ℕ) (small : day < 2 ^ 64) (texts : Texts) (whole : IsWhole files lines day texts) where
  abbrev users : Ids
  users = ids_of is_passwd files.passwd

  abbrev groups : Ids
  groups = ids_of is_group files.group

  abbrev needs : List Need
  needs = needs_by users lines

  abbrev accounts : List Account
  accounts = accounts_by users lines

  abbrev pool : ℕ → Bool
  pool = pool_by users lines

  abbrev members : List (List ℕ × List ℕ)
  members = flat_map membership_of lines

  abbrev new_groups : NewGroups
  new_groups = decided_groups pool users (fixed_for needs) groups needs

  abbrev new_users : NewUsers
  new_users = decided_users pool (groups ++ new_groups.made) users accounts

  fit_needs : AllByRecursion IsFitNeed needs
  fit_needs = all_flat IsAllowedLine IsFitNeed (needs_of (is_made users lines)) (needs_fit (is_made users lines)) lines allowed

  fit_accounts : AllByRecursion IsFitAccount accounts
  fit_accounts = all_flat IsAllowedLine IsFitAccount (accounts_of (is_made users lines)) (accounts_fit (is_made users lines)) lines allowed

  plain_members : AllByRecursion (λ m. IsPlain m.1) members
  plain_members = all_flat IsAllowedLine (λ m. IsPlain m.1) membership_of members_fit lines allowed

  groups_are : AreNewGroups groups new_groups.made
  groups_are = groups_new pool users (fixed_for needs) (fixed_is needs fit_needs) needs fit_needs groups (apart_file is_group files.group)

  users_are : AreNewUsers users new_users.made
  users_are =
      users_new pool (groups ++ new_groups.made) (ids_with groups new_groups.made (ids_file is_group files.group) groups_are.fit) accounts fit_accounts users (apart_file is_passwd files.passwd)

  numbers_are : numbers_of files lines ≡ with_users new_groups new_users
  numbers_are = after_groups pool users groups accounts new_groups whole.groups

  users_whole : new_users.lacking ≡ None
  users_whole = sym (ap (λ (n : Numbers). n.lacking) numbers_are) ∙ whole.users

  made : texts_by files needs members day new_groups.made new_users.made ≡ texts
  made = ap (texts_of files lines day) (sym numbers_are) ∙ whole.gives

  group_is : group_text new_groups.made members files.group ≡ texts.group
  group_is = ap (λ (t : Texts). t.group) made

  gshadow_is : option_map (gshadow_text needs members) files.gshadow ≡ texts.gshadow
  gshadow_is = ap (λ (t : Texts). t.gshadow) made

  groups_like : AreAlike (ids_of is_group texts.group) (groups ++ new_groups.made)
  groups_like = subst (λ (t : List ℕ). AreAlike (ids_of is_group t) (groups ++ new_groups.made)) group_is (groups_read new_groups.made members files.group groups_are plain_members)

  users_like : AreAlike (ids_of is_passwd texts.passwd) (users ++ ids_made new_users.made)
  users_like = subst (λ (t : List ℕ). AreAlike (ids_of is_passwd t) (users ++ ids_made new_users.made)) (ap (λ (t : Texts). t.passwd) made) (users_read new_users.made files.passwd users_are)

  groups_again : with_memberships is_group members texts.group ≡ texts.group
  groups_again = subst (λ (t : List ℕ). with_memberships is_group members t ≡ t) group_is (members_again is_group group_members members plain_members (appended (map group_line new_groups.made) files.group))

  needs_there : AllByRecursion (λ need. HasId (ids_of is_group texts.group) need.name) needs
  needs_there = there_alike (ids_of is_group texts.group) (groups ++ new_groups.made) groups_like needs (groups_there pool users (fixed_for needs) needs groups whole.groups)

  accounts_there : AllByRecursion (λ account. HasId (ids_of is_passwd texts.passwd) account.name) accounts
  accounts_there = members_alike (ids_of is_passwd texts.passwd) (users ++ ids_made new_users.made) users_like accounts (users_there pool (groups ++ new_groups.made) accounts users users_whole)

  gshadow_twice : (some : List Need) → ((file : List ℕ) → AllByRecursion (λ need. has_entry is_gshadow (gshadow_text needs members file) need.name ≡ true) some)
      → option_map (gshadow_text some members) texts.gshadow ≡ texts.gshadow
  gshadow_twice some there = subst (λ (o : Option (List ℕ)). option_map (gshadow_text some members) o ≡ o) gshadow_is (by files.gshadow)
    where
      by : (o : Option (List ℕ)) → option_map (gshadow_text some members) (option_map (gshadow_text needs members) o) ≡ option_map (gshadow_text needs members) o
      by None = refl
      by (Some file) = ap (λ (t : List ℕ). Some t) (gshadow_again needs some fit_needs members plain_members file (there file))

  -- ---- where /etc/passwd is as it was

  -- the numbers are those of before, except for groups that are written
  record AreAgain (group : List ℕ) (numbers : Numbers) : Type 0 where
    users_again : numbers.users ≡ new_users.made
    whole_again : numbers.lacking ≡ None
    group_again : group_text numbers.groups members group ≡ texts.group

  abbrev numbers_with : List ℕ → Numbers
  numbers_with group = numbers_by pool (fixed_for needs) users (ids_of is_group group) needs accounts

  old_group : AreAgain files.group (numbers_with files.group)
  old_group = record {
    users_again = ap (λ (n : Numbers). n.users) numbers_are;
    whole_again = whole.users;
    group_again = ap (λ (n : Numbers). group_text n.groups members files.group) numbers_are ∙ group_is;
  }

  new_numbers : numbers_with texts.group ≡ with_users no_groups new_users
  new_numbers =
      ap (numbers_after pool users (ids_of is_group texts.group) accounts) (none_new pool users (fixed_for needs) (ids_of is_group texts.group) needs needs_there)
      ∙ ap (λ (u : NewUsers). with_users no_groups u)
      (ap (λ (ids : Ids). decided_users pool ids users accounts) (append-nil (ids_of is_group texts.group))
      ∙ users_alike pool (ids_of is_group texts.group) (groups ++ new_groups.made) groups_like accounts users)

  new_group : AreAgain texts.group (numbers_with texts.group)
  new_group = record {
    users_again = ap (λ (n : Numbers). n.users) new_numbers;
    whole_again = ap (λ (n : Numbers). n.lacking) new_numbers ∙ users_whole;
    group_again = ap (λ (n : Numbers). group_text n.groups members texts.group) new_numbers ∙ groups_again;
  }

  either_group : (group : List ℕ) → IsEither files.group texts.group group → AreAgain group (numbers_with group)
  either_group group (inl e) = subst (λ (g : List ℕ). AreAgain g (numbers_with g)) (sym e) old_group
  either_group group (inr e) = subst (λ (g : List ℕ). AreAgain g (numbers_with g)) (sym e) new_group

  shadow_is : shadow_text day new_users.made files.shadow ≡ texts.shadow
  shadow_is = ap (λ (t : Texts). t.shadow) made

  shadow_twice : (later : ℕ) → shadow_text later new_users.made texts.shadow ≡ texts.shadow
  shadow_twice later = subst (λ (t : List ℕ). shadow_text later new_users.made t ≡ t) shadow_is (shadow_again day later small new_users.made users_are.fit files.shadow)

  either_shadow : (later : ℕ) (shadow : List ℕ) → IsEither files.shadow texts.shadow shadow → (later ≡ day) ⊎ (shadow ≡ texts.shadow) → shadow_text later new_users.made shadow ≡ texts.shadow
  either_shadow later shadow (inr e) when = ap (shadow_text later new_users.made) e ∙ shadow_twice later
  either_shadow later shadow (inl e) (inr is) = ap (shadow_text later new_users.made) is ∙ shadow_twice later
  either_shadow later shadow (inl e) (inl same) = (λ i. shadow_text (same i) new_users.made (e i)) ∙ shadow_is

  either_gshadow : (gshadow : Option (List ℕ)) → IsEither files.gshadow texts.gshadow gshadow → option_map (gshadow_text needs members) gshadow ≡ texts.gshadow
  either_gshadow gshadow (inl e) = ap (option_map (gshadow_text needs members)) e ∙ gshadow_is
  either_gshadow gshadow (inr e) = ap (option_map (gshadow_text needs members)) e ∙ gshadow_twice needs (groups_entered needs fit_needs members plain_members)

  module _ (again : AccountFiles) (later : ℕ) where
    -- a plan whose numbers are whole gives texts
    finishes_by : (numbers : Numbers) → numbers.lacking ≡ None → AreFinished texts day later again (texts_of again lines later numbers) → Finishes texts day later again (texts_or (texts_of again lines later numbers) numbers.lacking)
    finishes_by numbers none is = subst (λ (o : Option (List ℕ)). Finishes texts day later again (texts_or (texts_of again lines later numbers) o)) (sym none) is

  old_passwd : (later : ℕ) (group shadow : List ℕ) (gshadow : Option (List ℕ)) → IsEither files.group texts.group group → IsEither files.shadow texts.shadow shadow → IsEither files.gshadow texts.gshadow gshadow
      → Finishes texts day later (record { passwd = files.passwd; group = group; shadow = shadow; gshadow = gshadow })
      (plan_of (record { passwd = files.passwd; group = group; shadow = shadow; gshadow = gshadow }) lines later).texts
  old_passwd later group shadow gshadow of_group of_shadow of_gshadow =
      let a = either_group group of_group in
      finishes_by (record { passwd = files.passwd; group = group; shadow = shadow; gshadow = gshadow }) later (numbers_with group) a.whole_again (record {
        passwd = ap (λ (us : List NewUser). passwd_text us files.passwd) a.users_again ∙ ap (λ (t : Texts). t.passwd) made;
        group = a.group_again;
        gshadow = either_gshadow gshadow of_gshadow;
        shadow = λ when. ap (λ (us : List NewUser). shadow_text later us shadow) a.users_again ∙ either_shadow later shadow of_shadow when;
      })

  -- ---- where all files are new

  abbrev users_then : Ids
  users_then = ids_of is_passwd texts.passwd

  fewer : (name : List ℕ) → is_made users_then lines name ≡ true → is_made users lines name ≡ true
  fewer = made_before users (ids_made new_users.made) users_then lines users_like

  none_then : numbers_of (files_with texts) lines ≡ with_users no_groups no_users
  none_then =
      ap (numbers_after (pool_by users_then lines) users_then (ids_of is_group texts.group) (accounts_by users_then lines))
      (none_new (pool_by users_then lines) users_then (fixed_for (needs_by users_then lines)) (ids_of is_group texts.group) (needs_by users_then lines)
      (needs_less (is_made users lines) (is_made users_then lines) fewer (λ need. HasId (ids_of is_group texts.group) need.name) lines needs_there))
      ∙ ap (λ (u : NewUsers). with_users no_groups u)
      (no_new (pool_by users_then lines) (ids_of is_group texts.group ++ []) users_then (accounts_by users_then lines)
      (accounts_less (is_made users lines) (is_made users_then lines) fewer (λ account. HasId users_then account.name) lines accounts_there))

  all_new : (later : ℕ) → Finishes texts day later (files_with texts) (plan_of (files_with texts) lines later).texts
  all_new later = finishes_by (files_with texts) later (numbers_of (files_with texts) lines) (ap (λ (n : Numbers). n.lacking) none_then) (record {
    passwd = ap (λ (n : Numbers). passwd_text n.users texts.passwd) none_then;
    group = ap (λ (n : Numbers). group_text n.groups members texts.group) none_then ∙ groups_again;
    gshadow = gshadow_twice (needs_by users_then lines) (λ file.
        needs_less (is_made users lines) (is_made users_then lines) fewer (λ need. has_entry is_gshadow (gshadow_text needs members file) need.name ≡ true) lines
        (groups_entered needs fit_needs members plain_members file));
    shadow = λ when. ap (λ (n : Numbers). shadow_text later n.users texts.shadow) none_then;
  })

  part_finishes : (again : AccountFiles) (later : ℕ) → IsPartWritten files texts again → Finishes texts day later again (plan_of again lines later).texts
  part_finishes again later part = by part.passwd
    where
      by : (again.passwd ≡ files.passwd) ⊎ (again ≡ files_with texts) → Finishes texts day later again (plan_of again lines later).texts
      by (inl e) = subst (λ (f : AccountFiles). Finishes texts day later f (plan_of f lines later).texts)
          (λ i. record { passwd = sym e i; group = again.group; shadow = again.shadow; gshadow = again.gshadow })
          (old_passwd later again.group again.shadow again.gshadow part.group part.shadow part.gshadow)
      by (inr e) = subst (λ (f : AccountFiles). Finishes texts day later f (plan_of f lines later).texts) (sym e) (all_new later)

-- where some of the files are new, a plan made again gives the texts that were planned
pub plan_finishes : (requests : List Request) → AllByRecursion IsAllowed requests → (taken : List (Option PathId)) → AllByRecursion AreOwners taken → (files again : AccountFiles) (day later : ℕ) → day < 2 ^ 64
    → (texts : Texts) → (planned requests taken files day).texts ≡ Ok texts → IsPartWritten files texts again → Finishes texts day later again (planned requests taken again later).texts
plan_finishes requests allowed taken own files again day later small texts is part =
    let lines : List Line = counting [] (lines_from taken 0 requests) in
    let fit : AllByRecursion IsAllowedLine lines = counting_all IsAllowedLine [] (lines_from taken 0 requests) tt (lines_all taken own requests 0 allowed) in
    part_finishes files lines fit day small texts (whole_plan files lines day texts is) again later part

-- where a name got no number, it gets none on another day
lacks_by : (one other : Texts) (o : Option (List ℕ)) (name : List ℕ) → texts_or one o ≡ Err name → texts_or other o ≡ Err name
lacks_by one other None name h = absurd (let no : ◌≡◌ {A = Result Texts (List ℕ)} (Ok one) (Err name) = h in cc)
lacks_by one other (Some n) name h = h

pub plan_lacks : (requests : List Request) (taken : List (Option PathId)) (files : AccountFiles) (day later : ℕ) (name : List ℕ)
    → (planned requests taken files day).texts ≡ Err name → (planned requests taken files later).texts ≡ Err name
plan_lacks requests taken files day later name h =
    let lines : List Line = counting [] (lines_from taken 0 requests) in
    let numbers : Numbers = numbers_of files lines in
    lacks_by (texts_of files lines day numbers) (texts_of files lines later numbers) numbers.lacking name h

-- /etc/gshadow is planned where it is there
some_mapped : (f : List ℕ → List ℕ) (o : Option (List ℕ)) → is_some (option_map f o) ≡ is_some o
some_mapped f None = refl
some_mapped f (Some x) = refl

pub plan_own : (requests : List Request) (taken : List (Option PathId)) (files : AccountFiles) (day : ℕ) (texts : Texts) → (planned requests taken files day).texts ≡ Ok texts → is_some texts.gshadow ≡ is_some files.gshadow
plan_own requests taken files day texts h =
    let lines : List Line = counting [] (lines_from taken 0 requests) in
    let whole : IsWhole files lines day texts = whole_plan files lines day texts h in
    sym (ap (λ (t : Texts). is_some t.gshadow) whole.gives)
    ∙ some_mapped (gshadow_text (needs_by (ids_of is_passwd files.passwd) lines) (flat_map membership_of lines)) files.gshadow
