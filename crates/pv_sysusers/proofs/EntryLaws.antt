-- The entries of new groups and users read as their names and IDs.
use Rattle.std.proofs.Common.{◌≡◌, ℕ, ◌<◌, ◌^◌, Bool, true, false, not, ◌==◌, List, [], ◌∷◌, ◌++◌, codes, map, Some, option_map, unwrap_or, append_assoc, refl, ap, ◌∙◌, arith, inl, inr, if◌then◌else◌}
use Rattle.std.specs.List.{AllByRecursion, cons_option, list_all}
use Rattle.std.specs.Fmt.{decimal}
use Rattle.std.proofs.lemmas.List.Folds.{list_all-append}
use Rattle.std.proofs.lemmas.Slice.Eq.{bytes_eq-Decides}
use Rattle.pv_acl.specs.NamedEntries.{is_id}
use Rattle.pv_acl.specs.Spelling.{decimal_id}
use Rattle.pv_acl.proofs.Numerals.{number_of-decimal}
use Rattle.pv_acl.proofs.Splitting.{lacks, lacks-decimal, split_at, split_none}
use Rattle.pv_accounts.specs.Edits.{lacks_end}
use Rattle.pv_accounts.specs.Entries.{fields_of, is_group, is_gshadow, is_passwd, is_shadow}
use Rattle.pv_accounts.specs.Files.{id_in, name_of}
use Rattle.pv_accounts.specs.InUse.{Ids, named_in}
use Rattle.pv_accounts.specs.Kinds.{is_entry_named}
use Rattle.pv_accounts.proofs.Rereading.{IsPlain, pairs}
use Rattle.pv_gshadow.specs.GroupPasswords.{new_group}
use Rattle.pv_sysusers.specs.Settled.{ids_made}
use Rattle.pv_sysusers.specs.Texts.{group_line, own_shell, passwd_line, passwd_start, shadow_end, shadow_line}
use Rattle.pv_sysusers.specs.declared.users.NewUser.{NewUser}
use Rattle.pv_sysusers.proofs.AllowedLaws.{IsField}
use Rattle.pv_sysusers.proofs.NewLaws.{IsFitGroup, IsFitUser}
use Rattle.pv_acl.proofs.Rereading.{id_fits}

-- ---- IDs

id_read : (n : ℕ) → is_id n ≡ true → decimal_id (decimal n) ≡ Some n
id_read n h = rw (number_of-decimal n (decimal n) (id_fits n h) refl, h) refl

colon_free : (n : ℕ) → n < 2 ^ 64 → lacks 58 (decimal n) ≡ true
colon_free n h = lacks-decimal 58 n (inl (omega arith)) h

end_free : (n : ℕ) → n < 2 ^ 64 → lacks 10 (decimal n) ≡ true
end_free n h = lacks-decimal 10 n (inr (omega arith)) h

-- texts without a byte, one after another
lacks_both : (c : ℕ) (a b : List ℕ) → lacks c a ≡ true → lacks c b ≡ true → lacks c (a ++ b) ≡ true
lacks_both c a b h k = rw (list_all-append (λ x. not (x == c)) a b, h) k

-- a field before a colon
field_first : (a rest : List ℕ) → lacks 58 a ≡ true → fields_of (a ++ 58 ∷ rest) ≡ a ∷ fields_of rest
field_first a rest h = split_at 58 a rest h

-- the name and the ID of a line by its fields
named_by : (test : List (List ℕ) → Bool) (line : List ℕ) (fields : List (List ℕ)) → fields_of line ≡ fields → test fields ≡ true → named_in test line ≡ option_map (λ id. (name_of fields, id)) (id_in fields)
named_by test line fields e passes = rw (e, passes) refl

-- ---- groups

group_parts : (name : List ℕ) (n : ℕ) → group_line (name, n) ≡ name ++ 58 ∷ 120 ∷ 58 ∷ (decimal n ++ 58 ∷ [])
group_parts name n = append_assoc (name ++ codes ":x:") (decimal n) (codes ":") ∙ append_assoc name (codes ":x:") (decimal n ++ codes ":")

group_fields : (name : List ℕ) (n : ℕ) → IsPlain name → is_id n ≡ true → fields_of (group_line (name, n)) ≡ name ∷ (120 ∷ []) ∷ decimal n ∷ [] ∷ []
group_fields name n plain id =
    ap fields_of (group_parts name n)
    ∙ field_first name (120 ∷ 58 ∷ (decimal n ++ 58 ∷ [])) plain.colon
    ∙ ap (λ (fs : List (List ℕ)). name ∷ fs) (field_first (120 ∷ []) (decimal n ++ 58 ∷ []) refl)
    ∙ ap (λ (fs : List (List ℕ)). name ∷ (120 ∷ []) ∷ fs) (field_first (decimal n) [] (colon_free n (id_fits n id)))

group_named : (group : List ℕ × ℕ) → IsFitGroup group → named_in is_group (group_line group) ≡ Some group
group_named group fit =
    let id : decimal_id (decimal group.1) ≡ Some group.1 = id_read group.1 fit.gid in
    let passes : is_group (group.0 ∷ (120 ∷ []) ∷ decimal group.1 ∷ [] ∷ []) ≡ true = rw (fit.name.entry, id) refl in
    named_by is_group (group_line group) (group.0 ∷ (120 ∷ []) ∷ decimal group.1 ∷ [] ∷ []) (group_fields group.0 group.1 fit.name fit.gid) passes
    ∙ ap (option_map (λ n. (group.0, n))) id

group_end : (group : List ℕ × ℕ) → IsFitGroup group → lacks_end (group_line group) ≡ true
group_end group fit =
    ap lacks_end (group_parts group.0 group.1)
    ∙ lacks_both 10 group.0 (58 ∷ 120 ∷ 58 ∷ (decimal group.1 ++ 58 ∷ [])) fit.name.ending
    (lacks_both 10 (decimal group.1) (58 ∷ []) (end_free group.1 (id_fits group.1 fit.gid)) refl)

pub group_pairs : (made : Ids) → AllByRecursion IsFitGroup made → pairs is_group (map group_line made) ≡ made
group_pairs [] fit = refl
group_pairs (group ∷ made) fit =
    ap (λ o. cons_option o (pairs is_group (map group_line made))) (group_named group fit.0) ∙ ap (λ (ids : Ids). group ∷ ids) (group_pairs made fit.1)

pub group_ends : (made : Ids) → AllByRecursion IsFitGroup made → list_all lacks_end (map group_line made) ≡ true
group_ends [] fit = refl
group_ends (group ∷ made) fit = rw (group_end group fit.0) (group_ends made fit.1)

-- ---- users

-- the last fields of the entry of a user
abbrev last_fields : NewUser → List ℕ
last_fields user = unwrap_or user.account.gecos [] ++ 58 ∷ (unwrap_or user.account.home (codes "/") ++ 58 ∷ unwrap_or user.account.shell (own_shell user.uid))

-- the same entry, field by field
passwd_parts : (user : NewUser) → passwd_line user ≡ user.account.name ++ 58 ∷ 120 ∷ 58 ∷ (decimal user.uid ++ 58 ∷ (decimal user.gid ++ 58 ∷ last_fields user))
passwd_parts user =
    let name : List ℕ = user.account.name in
    let uid : List ℕ = decimal user.uid in
    let gid : List ℕ = decimal user.gid in
    let gecos : List ℕ = unwrap_or user.account.gecos [] in
    let home : List ℕ = unwrap_or user.account.home (codes "/") in
    let shell : List ℕ = unwrap_or user.account.shell (own_shell user.uid) in
    let start : List ℕ = passwd_start user in
    let c : List ℕ = codes ":" in
    let x : List ℕ = codes ":x:" in
    let last : List ℕ = gecos ++ (c ++ (home ++ (c ++ shell))) in
    append_assoc (((start ++ gecos) ++ c) ++ home) c shell
    ∙ append_assoc ((start ++ gecos) ++ c) home (c ++ shell)
    ∙ append_assoc (start ++ gecos) c (home ++ (c ++ shell))
    ∙ append_assoc start gecos (c ++ (home ++ (c ++ shell)))
    ∙ append_assoc ((((name ++ x) ++ uid) ++ c) ++ gid) c last
    ∙ append_assoc (((name ++ x) ++ uid) ++ c) gid (c ++ last)
    ∙ append_assoc ((name ++ x) ++ uid) c (gid ++ (c ++ last))
    ∙ append_assoc (name ++ x) uid (c ++ (gid ++ (c ++ last)))
    ∙ append_assoc name x (uid ++ (c ++ (gid ++ (c ++ last))))

shell_field : (uid : ℕ) → IsField (own_shell uid)
shell_field uid = by (uid == 0)
  where
    by : (t : Bool) → IsField (if t then codes "/bin/sh" else codes "/usr/sbin/nologin")
    by true = record { colon = refl; ending = refl }
    by false = record { colon = refl; ending = refl }

module _ (user : NewUser) (fit : IsFitUser user) where
  gecos_is : IsField (unwrap_or user.account.gecos [])
  gecos_is = fit.account.gecos [] (record { colon = refl; ending = refl })

  home_is : IsField (unwrap_or user.account.home (codes "/"))
  home_is = fit.account.home (codes "/") (record { colon = refl; ending = refl })

  shell_is : IsField (unwrap_or user.account.shell (own_shell user.uid))
  shell_is = fit.account.shell (own_shell user.uid) (shell_field user.uid)

  last_is : fields_of (last_fields user) ≡ unwrap_or user.account.gecos [] ∷ unwrap_or user.account.home (codes "/") ∷ unwrap_or user.account.shell (own_shell user.uid) ∷ []
  last_is =
      field_first (unwrap_or user.account.gecos []) (unwrap_or user.account.home (codes "/") ++ 58 ∷ unwrap_or user.account.shell (own_shell user.uid)) gecos_is.colon
      ∙ ap (λ (fs : List (List ℕ)). unwrap_or user.account.gecos [] ∷ fs)
      (field_first (unwrap_or user.account.home (codes "/")) (unwrap_or user.account.shell (own_shell user.uid)) home_is.colon
      ∙ ap (λ (fs : List (List ℕ)). unwrap_or user.account.home (codes "/") ∷ fs) (split_none 58 (unwrap_or user.account.shell (own_shell user.uid)) shell_is.colon))

  passwd_fields_are : fields_of (passwd_line user)
      ≡ user.account.name ∷ (120 ∷ []) ∷ decimal user.uid ∷ decimal user.gid ∷ unwrap_or user.account.gecos [] ∷ unwrap_or user.account.home (codes "/") ∷ unwrap_or user.account.shell (own_shell user.uid) ∷ []
  passwd_fields_are =
      ap fields_of (passwd_parts user)
      ∙ field_first user.account.name (120 ∷ 58 ∷ (decimal user.uid ++ 58 ∷ (decimal user.gid ++ 58 ∷ last_fields user))) fit.account.name.colon
      ∙ ap (λ (fs : List (List ℕ)). user.account.name ∷ fs)
      (field_first (120 ∷ []) (decimal user.uid ++ 58 ∷ (decimal user.gid ++ 58 ∷ last_fields user)) refl
      ∙ ap (λ (fs : List (List ℕ)). (120 ∷ []) ∷ fs)
      (field_first (decimal user.uid) (decimal user.gid ++ 58 ∷ last_fields user) (colon_free user.uid (id_fits user.uid fit.uid))
      ∙ ap (λ (fs : List (List ℕ)). decimal user.uid ∷ fs)
      (field_first (decimal user.gid) (last_fields user) (colon_free user.gid (id_fits user.gid fit.gid))
      ∙ ap (λ (fs : List (List ℕ)). decimal user.gid ∷ fs) last_is)))

  user_named : named_in is_passwd (passwd_line user) ≡ Some (user.account.name, user.uid)
  user_named =
      let fields : List (List ℕ) =
      user.account.name ∷ (120 ∷ []) ∷ decimal user.uid ∷ decimal user.gid ∷ unwrap_or user.account.gecos [] ∷ unwrap_or user.account.home (codes "/") ∷ unwrap_or user.account.shell (own_shell user.uid) ∷ [] in
      let uid : decimal_id (decimal user.uid) ≡ Some user.uid = id_read user.uid fit.uid in
      let gid : decimal_id (decimal user.gid) ≡ Some user.gid = id_read user.gid fit.gid in
      let passes : is_passwd fields ≡ true = rw (fit.account.name.entry, uid, gid) refl in
      named_by is_passwd (passwd_line user) fields passwd_fields_are passes ∙ ap (option_map (λ n. (user.account.name, n))) uid

  user_end : lacks_end (passwd_line user) ≡ true
  user_end =
      ap lacks_end (passwd_parts user)
      ∙ lacks_both 10 user.account.name (58 ∷ 120 ∷ 58 ∷ (decimal user.uid ++ 58 ∷ (decimal user.gid ++ 58 ∷ last_fields user))) fit.account.name.ending
      (lacks_both 10 (decimal user.uid) (58 ∷ (decimal user.gid ++ 58 ∷ last_fields user)) (end_free user.uid (id_fits user.uid fit.uid))
      (lacks_both 10 (decimal user.gid) (58 ∷ last_fields user) (end_free user.gid (id_fits user.gid fit.gid))
      (lacks_both 10 (unwrap_or user.account.gecos []) (58 ∷ (unwrap_or user.account.home (codes "/") ++ 58 ∷ unwrap_or user.account.shell (own_shell user.uid))) gecos_is.ending
      (lacks_both 10 (unwrap_or user.account.home (codes "/")) (58 ∷ unwrap_or user.account.shell (own_shell user.uid)) home_is.ending shell_is.ending))))

pub user_pairs : (made : List NewUser) → AllByRecursion IsFitUser made → pairs is_passwd (map passwd_line made) ≡ ids_made made
user_pairs [] fit = refl
user_pairs (user ∷ made) fit =
    ap (λ o. cons_option o (pairs is_passwd (map passwd_line made))) (user_named user fit.0) ∙ ap (λ (ids : Ids). (user.account.name, user.uid) ∷ ids) (user_pairs made fit.1)

pub user_ends : (made : List NewUser) → AllByRecursion IsFitUser made → list_all lacks_end (map passwd_line made) ≡ true
user_ends [] fit = refl
user_ends (user ∷ made) fit = rw (user_end user fit.0) (user_ends made fit.1)

-- ---- /etc/shadow

module _ (day : ℕ) (small : day < 2 ^ 64) (user : NewUser) (plain : IsPlain user.account.name) where
  shadow_parts : shadow_line day user ≡ user.account.name ++ 58 ∷ 33 ∷ 42 ∷ 58 ∷ (decimal day ++ shadow_end user.account.locked)
  shadow_parts = append_assoc (user.account.name ++ codes ":!*:") (decimal day) (shadow_end user.account.locked) ∙ append_assoc user.account.name (codes ":!*:") (decimal day ++ shadow_end user.account.locked)

  shadow_fields_are : (locked : Bool) → (last : List ℕ)
      × (fields_of (user.account.name ++ 58 ∷ 33 ∷ 42 ∷ 58 ∷ (decimal day ++ shadow_end locked)) ≡ user.account.name ∷ (33 ∷ 42 ∷ []) ∷ decimal day ∷ [] ∷ [] ∷ [] ∷ [] ∷ last ∷ [] ∷ [])
  shadow_fields_are true = (
    codes "1",
    field_first user.account.name (33 ∷ 42 ∷ 58 ∷ (decimal day ++ codes ":::::1:")) plain.colon
        ∙ ap (λ (fs : List (List ℕ)). user.account.name ∷ fs)
        (field_first (33 ∷ 42 ∷ []) (decimal day ++ codes ":::::1:") refl
        ∙ ap (λ (fs : List (List ℕ)). (33 ∷ 42 ∷ []) ∷ fs) (field_first (decimal day) (codes "::::1:") (colon_free day small))),
  )
  shadow_fields_are false = (
    [],
    field_first user.account.name (33 ∷ 42 ∷ 58 ∷ (decimal day ++ codes "::::::")) plain.colon
        ∙ ap (λ (fs : List (List ℕ)). user.account.name ∷ fs)
        (field_first (33 ∷ 42 ∷ []) (decimal day ++ codes "::::::") refl
        ∙ ap (λ (fs : List (List ℕ)). (33 ∷ 42 ∷ []) ∷ fs) (field_first (decimal day) (codes ":::::") (colon_free day small))),
  )

  pub shadow_named : is_entry_named is_shadow user.account.name (shadow_line day user) ≡ true
  shadow_named =
      let read = shadow_fields_are user.account.locked in
      let fields : fields_of (shadow_line day user) ≡ user.account.name ∷ (33 ∷ 42 ∷ []) ∷ decimal day ∷ [] ∷ [] ∷ [] ∷ [] ∷ read.0 ∷ [] ∷ [] = ap fields_of shadow_parts ∙ read.1 in
      rw (fields, plain.entry) ((bytes_eq-Decides user.account.name user.account.name).1 refl)

  ended : (locked : Bool) → lacks 10 (shadow_end locked) ≡ true
  ended true = refl
  ended false = refl

  pub shadow_ended : lacks_end (shadow_line day user) ≡ true
  shadow_ended =
      ap lacks_end shadow_parts
      ∙ lacks_both 10 user.account.name (58 ∷ 33 ∷ 42 ∷ 58 ∷ (decimal day ++ shadow_end user.account.locked)) plain.ending
      (lacks_both 10 (decimal day) (shadow_end user.account.locked) (end_free day small) (ended user.account.locked))

-- ---- /etc/gshadow

module _ (name : List ℕ) (plain : IsPlain name) where
  new_group_fields : fields_of (new_group name) ≡ name ∷ (33 ∷ 42 ∷ []) ∷ [] ∷ [] ∷ []
  new_group_fields = field_first name (33 ∷ 42 ∷ 58 ∷ 58 ∷ []) plain.colon

  pub new_group_named : is_entry_named is_gshadow name (new_group name) ≡ true
  new_group_named = rw (new_group_fields, plain.entry) ((bytes_eq-Decides name name).1 refl)

  pub new_group_ended : lacks_end (new_group name) ≡ true
  new_group_ended = lacks_both 10 name (58 ∷ 33 ∷ 42 ∷ 58 ∷ 58 ∷ []) plain.ending refl
