-- Texts of account files that are made again stay as they are.
use Rattle.std.proofs.Common.{◌≡◌, ℕ, ◌<◌, ◌^◌, Bool, true, false, ◌||◌, List, [], ◌∷◌, ◌++◌, map, is_some, refl, sym, ap, ◌∙◌, if◌then◌else◌}
use Rattle.std.specs.List.{AllByRecursion, flat_map, list_all, list_any}
use Rattle.std.specs.Str.{bytes_eq}
use Rattle.std.proofs.lemmas.List.Folds.{list_any-append}
use Rattle.std.proofs.lemmas.Slice.Eq.{bytes_eq-Decides}
use Rattle.std.proofs.lemmas.Bool.{or_left, or_right}
use Rattle.pv_accounts.specs.Edits.{appended, lacks_end}
use Rattle.pv_accounts.specs.Entries.{is_group, is_gshadow, is_passwd, is_shadow}
use Rattle.pv_accounts.specs.Files.{lines_of}
use Rattle.pv_accounts.specs.InUse.{Ids, id_of, ids_of}
use Rattle.pv_accounts.specs.Kinds.{is_entry_named}
use Rattle.pv_accounts.proofs.Alike.{AreAlike, alike}
use Rattle.pv_accounts.proofs.Holding.{Fields}
use Rattle.pv_accounts.proofs.Members.{HasMembers, file_added, file_kept, file_named, file_pairs, file_stays, group_members, gshadow_members, is_in, with_member_in}
use Rattle.pv_accounts.proofs.Rereading.{IsPlain, any_appended, apart_file, id_appended, id_file, named_any, pairs}
use Rattle.pv_gshadow.specs.GroupPasswords.{new_group}
use Rattle.pv_sysusers.specs.Settled.{ids_made}
use Rattle.pv_sysusers.specs.Texts.{group_line, group_text, gshadow_text, has_entry, is_known, passwd_line, passwd_text, shadow_line, shadow_lines, shadow_text, with_memberships, without_entry}
use Rattle.pv_sysusers.specs.declared.needs.Need.{Need}
use Rattle.pv_sysusers.specs.declared.users.NewUser.{NewUser}
use Rattle.pv_sysusers.proofs.AllowedLaws.{IsFitNeed}
use Rattle.pv_sysusers.proofs.EntryLaws.{group_ends, group_pairs, new_group_ended, new_group_named, shadow_ended, shadow_named, user_ends, user_pairs}
use Rattle.pv_sysusers.proofs.NewLaws.{AreNewGroups, AreNewUsers, IsFitUser, apart_parts}

-- ---- members

module _ (test : Fields → Bool) (has : HasMembers test) where
  keep_in : (ms : List (List ℕ × List ℕ)) → AllByRecursion (λ m. IsPlain m.1) ms → (group user file : List ℕ) → is_in test group user (lines_of file) ≡ true
      → is_in test group user (lines_of (with_memberships test ms file)) ≡ true
  keep_in [] plain group user file h = h
  keep_in (m ∷ ms) plain group user file h =
      keep_in ms plain.1 group user (with_member_in test m.0 m.1 file) (file_kept test has m.0 m.1 plain.0 group user file h)

  all_added : (ms : List (List ℕ × List ℕ)) → AllByRecursion (λ m. IsPlain m.1) ms → (file : List ℕ)
      → AllByRecursion (λ m. is_in test m.0 m.1 (lines_of (with_memberships test ms file)) ≡ true) ms
  all_added [] plain file = tt
  all_added (m ∷ ms) plain file = (
    keep_in ms plain.1 m.0 m.1 (with_member_in test m.0 m.1 file) (file_added test has m.0 m.1 plain.0 file),
    all_added ms plain.1 (with_member_in test m.0 m.1 file),
  )

  none_added : (ms : List (List ℕ × List ℕ)) (file : List ℕ) → AllByRecursion (λ m. is_in test m.0 m.1 (lines_of file) ≡ true) ms → with_memberships test ms file ≡ file
  none_added [] file all = refl
  none_added (m ∷ ms) file all = ap (with_memberships test ms) (file_stays test has m.0 m.1 file all.0) ∙ none_added ms file all.1

  -- members who are added again are there
  pub members_again : (ms : List (List ℕ × List ℕ)) → AllByRecursion (λ m. IsPlain m.1) ms → (file : List ℕ) → with_memberships test ms (with_memberships test ms file) ≡ with_memberships test ms file
  members_again ms plain file = none_added ms (with_memberships test ms file) (all_added ms plain file)

  members_pairs : (ms : List (List ℕ × List ℕ)) → AllByRecursion (λ m. IsPlain m.1) ms → (file : List ℕ) → pairs test (lines_of (with_memberships test ms file)) ≡ pairs test (lines_of file)
  members_pairs [] plain file = refl
  members_pairs (m ∷ ms) plain file = members_pairs ms plain.1 (with_member_in test m.0 m.1 file) ∙ file_pairs test has m.0 m.1 plain.0 file

  members_named : (ms : List (List ℕ × List ℕ)) → AllByRecursion (λ m. IsPlain m.1) ms → (name file : List ℕ)
      → list_any (is_entry_named test name) (lines_of (with_memberships test ms file)) ≡ list_any (is_entry_named test name) (lines_of file)
  members_named [] plain name file = refl
  members_named (m ∷ ms) plain name file = members_named ms plain.1 name (with_member_in test m.0 m.1 file) ∙ file_named test has m.0 m.1 plain.0 name file

-- ---- /etc/group and /etc/passwd

-- /etc/group with new groups and members reads as the old groups and the new ones
pub groups_read : (made : Ids) (ms : List (List ℕ × List ℕ)) (file : List ℕ) → AreNewGroups (ids_of is_group file) made → AllByRecursion (λ m. IsPlain m.1) ms
    → AreAlike (ids_of is_group (group_text made ms file)) (ids_of is_group file ++ made)
groups_read made ms file new plain = alike (ids_of is_group (group_text made ms file)) (ids_of is_group file ++ made) (apart_file is_group (group_text made ms file)) new.apart (λ name.
    id_file is_group (group_text made ms file) name
    ∙ ap (λ (ps : Ids). id_of ps name) (members_pairs is_group group_members ms plain (appended (map group_line made) file))
    ∙ sym (id_file is_group (appended (map group_line made) file) name)
    ∙ id_appended is_group refl (map group_line made) file (group_ends made new.fit) name
    (λ some. apart_parts (ids_of is_group file) made name new.apart (sym (ap (λ (ps : Ids). is_some (id_of ps name)) (group_pairs made new.fit)) ∙ some))
    ∙ ap (λ (ps : Ids). id_of (ids_of is_group file ++ ps) name) (group_pairs made new.fit))

-- /etc/passwd with new users reads as the old users and the new ones
pub users_read : (made : List NewUser) (file : List ℕ) → AreNewUsers (ids_of is_passwd file) made → AreAlike (ids_of is_passwd (passwd_text made file)) (ids_of is_passwd file ++ ids_made made)
users_read made file new = alike (ids_of is_passwd (passwd_text made file)) (ids_of is_passwd file ++ ids_made made) (apart_file is_passwd (passwd_text made file)) new.apart (λ name.
    id_appended is_passwd refl (map passwd_line made) file (user_ends made new.fit) name
    (λ some. apart_parts (ids_of is_passwd file) (ids_made made) name new.apart (sym (ap (λ (ps : Ids). is_some (id_of ps name)) (user_pairs made new.fit)) ∙ some))
    ∙ ap (λ (ps : Ids). id_of (ids_of is_passwd file ++ ps) name) (user_pairs made new.fit))

-- ---- /etc/shadow

or_more : (a b c : Bool) → (b || c) ≡ true → ((a || b) || c) ≡ true
or_more true b c h = refl
or_more false b c h = h

module _ (day : ℕ) (small : day < 2 ^ 64) (file : List ℕ) where
  -- a user has an entry in the file, or among new ones
  abbrev IsShown : List (List ℕ) → NewUser → Type 0
  IsShown entries user = (list_any (is_entry_named is_shadow user.account.name) entries || list_any (is_entry_named is_shadow user.account.name) (lines_of file)) ≡ true

  shown_more : (more entries : List (List ℕ)) (users : List NewUser) → AllByRecursion (IsShown entries) users → AllByRecursion (IsShown (more ++ entries)) users
  shown_more more entries [] all = tt
  shown_more more entries (user ∷ users) all = (
    ap (λ b. b || list_any (is_entry_named is_shadow user.account.name) (lines_of file)) (list_any-append (is_entry_named is_shadow user.account.name) more entries)
        ∙ or_more (list_any (is_entry_named is_shadow user.account.name) more) (list_any (is_entry_named is_shadow user.account.name) entries) (list_any (is_entry_named is_shadow user.account.name) (lines_of file)) all.0,
    shown_more more entries users all.1,
  )

  shown_first : (user : NewUser) → IsPlain user.account.name → (rest : List (List ℕ)) → IsShown (shadow_lines day file user ++ rest) user
  shown_first user plain rest = by (has_entry is_shadow file user.account.name) refl
    where
      by : (b : Bool) → has_entry is_shadow file user.account.name ≡ b → IsShown ((if b then [] else shadow_line day user ∷ []) ++ rest) user
      by true e = or_right (list_any (is_entry_named is_shadow user.account.name) rest) (list_any (is_entry_named is_shadow user.account.name) (lines_of file))
          (sym (named_any is_shadow user.account.name (lines_of file)) ∙ e)
      by false e = ap (λ b. (b || list_any (is_entry_named is_shadow user.account.name) rest) || list_any (is_entry_named is_shadow user.account.name) (lines_of file)) (shadow_named day small user plain)

  all_shown : (made : List NewUser) → AllByRecursion IsFitUser made → AllByRecursion (IsShown (flat_map (shadow_lines day file) made)) made
  all_shown [] fit = tt
  all_shown (user ∷ made) fit = (
    shown_first user fit.0.account.name (flat_map (shadow_lines day file) made),
    shown_more (shadow_lines day file user) (flat_map (shadow_lines day file) made) made (all_shown made fit.1),
  )

  shadow_ends : (made : List NewUser) → AllByRecursion IsFitUser made → list_all lacks_end (flat_map (shadow_lines day file) made) ≡ true
  shadow_ends [] fit = refl
  shadow_ends (user ∷ made) fit = by (has_entry is_shadow file user.account.name) (shadow_ends made fit.1)
    where
      by : (b : Bool) → list_all lacks_end (flat_map (shadow_lines day file) made) ≡ true → list_all lacks_end ((if b then [] else shadow_line day user ∷ []) ++ flat_map (shadow_lines day file) made) ≡ true
      by true rest = rest
      by false rest = rw (shadow_ended day small user fit.0.account.name) rest

  entries_then : (made users : List NewUser) → AllByRecursion IsFitUser made → AllByRecursion (IsShown (flat_map (shadow_lines day file) made)) users
      → AllByRecursion (λ u. has_entry is_shadow (shadow_text day made file) u.account.name ≡ true) users
  entries_then made [] fit all = tt
  entries_then made (user ∷ users) fit all = (
    named_any is_shadow user.account.name (lines_of (shadow_text day made file))
        ∙ any_appended (is_entry_named is_shadow user.account.name) refl (flat_map (shadow_lines day file) made) file (shadow_ends made fit) ∙ all.0,
    entries_then made users fit all.1,
  )

no_lines : (later : ℕ) (file : List ℕ) (users : List NewUser) → AllByRecursion (λ u. has_entry is_shadow file u.account.name ≡ true) users → flat_map (shadow_lines later file) users ≡ []
no_lines later file [] all = refl
no_lines later file (user ∷ users) all =
    ap (λ b. (if b then [] else shadow_line later user ∷ []) ++ flat_map (shadow_lines later file) users) all.0 ∙ no_lines later file users all.1

-- users who are added again are there, whatever the day
pub shadow_again : (day later : ℕ) → day < 2 ^ 64 → (made : List NewUser) → AllByRecursion IsFitUser made → (file : List ℕ) → shadow_text later made (shadow_text day made file) ≡ shadow_text day made file
shadow_again day later small made fit file =
    ap (λ (es : List (List ℕ)). appended es (shadow_text day made file))
    (no_lines later (shadow_text day made file) made (entries_then day small file made made fit (all_shown day small file made fit)))

-- ---- /etc/gshadow

module _ (test : Fields → Bool) (file : List ℕ) where
  without_plain : (needs : List Need) → AllByRecursion IsFitNeed needs → (names : List (List ℕ)) → AllByRecursion IsPlain names → AllByRecursion IsPlain (without_entry test file names needs)
  without_plain [] fit names plain = plain
  without_plain (need ∷ needs) fit names plain = by (is_known test file names need.name) (without_plain needs fit.1)
    where
      with_one : (ns : List (List ℕ)) → AllByRecursion IsPlain ns → AllByRecursion IsPlain (ns ++ need.name ∷ [])
      with_one [] all = (fit.0.name, tt)
      with_one (n ∷ ns) all = (all.0, with_one ns all.1)

      by : (b : Bool) → ((ns : List (List ℕ)) → AllByRecursion IsPlain ns → AllByRecursion IsPlain (without_entry test file ns needs))
          → AllByRecursion IsPlain (if b then without_entry test file names needs else without_entry test file (names ++ need.name ∷ []) needs)
      by true rest = rest names plain
      by false rest = rest (names ++ need.name ∷ []) (with_one names plain)

  names_stay : (needs : List Need) (names : List (List ℕ)) (name : List ℕ) → list_any (bytes_eq name) names ≡ true → list_any (bytes_eq name) (without_entry test file names needs) ≡ true
  names_stay [] names name h = h
  names_stay (need ∷ needs) names name h = by (is_known test file names need.name) (λ ns. names_stay needs ns name)
    where
      by : (b : Bool) → ((ns : List (List ℕ)) → list_any (bytes_eq name) ns ≡ true → list_any (bytes_eq name) (without_entry test file ns needs) ≡ true)
          → list_any (bytes_eq name) (if b then without_entry test file names needs else without_entry test file (names ++ need.name ∷ []) needs) ≡ true
      by true rest = rest names h
      by false rest = rest (names ++ need.name ∷ []) (list_any-append (bytes_eq name) names (need.name ∷ []) ∙ or_left (list_any (bytes_eq name) names) (bytes_eq name need.name || false) h)

  known_later : (names more : List (List ℕ)) (name : List ℕ) → (list_any (bytes_eq name) names ≡ true → list_any (bytes_eq name) more ≡ true) → is_known test file names name ≡ true → is_known test file more name ≡ true
  known_later names more name stay h = by (has_entry test file name) h
    where
      by : (b : Bool) → (b || list_any (bytes_eq name) names) ≡ true → (b || list_any (bytes_eq name) more) ≡ true
      by true k = refl
      by false k = stay k

  all_known : (needs : List Need) (names : List (List ℕ)) → AllByRecursion (λ need. is_known test file (without_entry test file names needs) need.name ≡ true) needs
  all_known [] names = tt
  all_known (need ∷ needs) names = by (is_known test file names need.name) refl (all_known needs)
    where
      by : (b : Bool) → is_known test file names need.name ≡ b → ((ns : List (List ℕ)) → AllByRecursion (λ n. is_known test file (without_entry test file ns needs) n.name ≡ true) needs)
          → AllByRecursion (λ n. is_known test file (if b then without_entry test file names needs else without_entry test file (names ++ need.name ∷ []) needs) n.name ≡ true) (need ∷ needs)
      by true e rest = (known_later names (without_entry test file names needs) need.name (names_stay needs names need.name) e, rest names)
      by false e rest = (
        or_right (has_entry test file need.name) (list_any (bytes_eq need.name) (without_entry test file (names ++ need.name ∷ []) needs))
            (names_stay needs (names ++ need.name ∷ []) need.name
            (list_any-append (bytes_eq need.name) names (need.name ∷ [])
            ∙ or_right (list_any (bytes_eq need.name) names) (bytes_eq need.name need.name || false) (or_left (bytes_eq need.name need.name) false ((bytes_eq-Decides need.name need.name).1 refl)))),
        rest (names ++ need.name ∷ []),
      )

-- a name among new ones has an entry
among_named : (names : List (List ℕ)) → AllByRecursion IsPlain names → (name : List ℕ) → list_any (bytes_eq name) names ≡ true → list_any (is_entry_named is_gshadow name) (map new_group names) ≡ true
among_named [] plain name h = h
among_named (n ∷ names) plain name h = by (bytes_eq name n) refl h (among_named names plain.1 name)
  where
    by : (b : Bool) → bytes_eq name n ≡ b → (b || list_any (bytes_eq name) names) ≡ true → (list_any (bytes_eq name) names ≡ true → list_any (is_entry_named is_gshadow name) (map new_group names) ≡ true)
        → (is_entry_named is_gshadow name (new_group n) || list_any (is_entry_named is_gshadow name) (map new_group names)) ≡ true
    by true e k rest =
        or_left (is_entry_named is_gshadow name (new_group n)) (list_any (is_entry_named is_gshadow name) (map new_group names))
        (ap (λ (m : List ℕ). is_entry_named is_gshadow m (new_group n)) ((bytes_eq-Decides name n).0 e) ∙ new_group_named n plain.0)
    by false e k rest = or_right (is_entry_named is_gshadow name (new_group n)) (list_any (is_entry_named is_gshadow name) (map new_group names)) (rest k)

names_end : (names : List (List ℕ)) → AllByRecursion IsPlain names → list_all lacks_end (map new_group names) ≡ true
names_end [] plain = refl
names_end (n ∷ names) plain = rw (new_group_ended n plain.0) (names_end names plain.1)

module _ (needs : List Need) (fit : AllByRecursion IsFitNeed needs) (ms : List (List ℕ × List ℕ)) (plain : AllByRecursion (λ m. IsPlain m.1) ms) (file : List ℕ) where
  abbrev lacking : List (List ℕ)
  lacking = without_entry is_gshadow file [] needs

  lacking_plain : AllByRecursion IsPlain lacking
  lacking_plain = without_plain is_gshadow file needs fit [] tt

  entry_then : (name : List ℕ) → is_known is_gshadow file lacking name ≡ true → has_entry is_gshadow (gshadow_text needs ms file) name ≡ true
  entry_then name h =
      named_any is_gshadow name (lines_of (gshadow_text needs ms file))
      ∙ members_named is_gshadow gshadow_members ms plain name (appended (map new_group lacking) file)
      ∙ any_appended (is_entry_named is_gshadow name) refl (map new_group lacking) file (names_end lacking lacking_plain)
      ∙ by (has_entry is_gshadow file name) refl h
    where
      by : (b : Bool) → has_entry is_gshadow file name ≡ b → (b || list_any (bytes_eq name) lacking) ≡ true
          → (list_any (is_entry_named is_gshadow name) (map new_group lacking) || list_any (is_entry_named is_gshadow name) (lines_of file)) ≡ true
      by true e k =
          or_right (list_any (is_entry_named is_gshadow name) (map new_group lacking)) (list_any (is_entry_named is_gshadow name) (lines_of file)) (sym (named_any is_gshadow name (lines_of file)) ∙ e)
      by false e k =
          or_left (list_any (is_entry_named is_gshadow name) (map new_group lacking)) (list_any (is_entry_named is_gshadow name) (lines_of file)) (among_named lacking lacking_plain name k)

  all_then : (some : List Need) → AllByRecursion (λ need. is_known is_gshadow file lacking need.name ≡ true) some → AllByRecursion (λ need. has_entry is_gshadow (gshadow_text needs ms file) need.name ≡ true) some
  all_then [] all = tt
  all_then (need ∷ some) all = (entry_then need.name all.0, all_then some all.1)

  -- each needed group has an entry then
  pub groups_entered : AllByRecursion (λ need. has_entry is_gshadow (gshadow_text needs ms file) need.name ≡ true) needs
  groups_entered = all_then needs (all_known is_gshadow file needs [])

none_lack : (test : Fields → Bool) (file : List ℕ) (needs : List Need) → AllByRecursion (λ need. has_entry test file need.name ≡ true) needs → without_entry test file [] needs ≡ []
none_lack test file [] all = refl
none_lack test file (need ∷ needs) all =
    ap (λ b. if b || false then without_entry test file [] needs else without_entry test file (need.name ∷ []) needs) all.0 ∙ none_lack test file needs all.1

-- needed groups that are there and members who are added again
pub gshadow_again : (needs some : List Need) → AllByRecursion IsFitNeed needs → (ms : List (List ℕ × List ℕ)) → AllByRecursion (λ m. IsPlain m.1) ms → (file : List ℕ)
    → AllByRecursion (λ need. has_entry is_gshadow (gshadow_text needs ms file) need.name ≡ true) some → gshadow_text some ms (gshadow_text needs ms file) ≡ gshadow_text needs ms file
gshadow_again needs some fit ms plain file all =
    ap (λ (ns : List (List ℕ)). with_memberships is_gshadow ms (appended (map new_group ns) (gshadow_text needs ms file))) (none_lack is_gshadow (gshadow_text needs ms file) some all)
    ∙ members_again is_gshadow gshadow_members ms plain (appended (map new_group (without_entry is_gshadow file [] needs)) file)
