-- A run that was stopped is finished by the next.
use Rattle.std.specs.Prelude.{◌≡◌, ◌⊎◌, ◌≤◌, ◌<◌, ◌^◌, ◌/◌, ℕ, ◌==◌, nat_lt, min, Bool, true, false, not, ◌&&◌, ◌||◌, cond, List, [], ◌∷◌, ◌++◌, codes, length, map, take, drop, fold, Option, Some, None, is_some, option_map, option_and_then, unwrap_or, Result, Ok, Err, if◌then◌else◌}
use Rattle.std.proofs.Common.{zero, suc, refl, sym, ap, subst, ◌∙◌, arith, inl, inr}
use Rattle.std.specs.List.{AllByRecursion}
use Rattle.std.specs.Option.{option_map_or}
use Rattle.std.proofs.Math.Nat.{div-le_self}
use Rattle.std.proofs.Math.Seq.{drop-append_seam, drop-length}
use Rattle.std.proofs.lemmas.Bool.Decides.{nat_tests}
use Rattle.std.proofs.lemmas.List.{append-nil, take-append-drop, length-take}
use Rattle.std.proofs.lemmas.Bool.{and_parts, not-true}
use Rattle.std.proofs.lemmas.Option.{same_Some}
use Rattle.pv_acl.specs.NamedEntries.{is_id}
use Rattle.pv_path.specs.Paths.{Path, has_staging, same_path}
use Rattle.pv_steps.specs.declared.node.Kind.TheVariants.{File}
use Rattle.pv_steps.specs.declared.object.Object.{Object}
use Rattle.pv_steps.specs.declared.step.Step.{Step}
use Rattle.pv_steps.specs.Objects.{object_state}
use Rattle.pv_steps.specs.Refusal.{owner_at, refusal, why_unsafe}
use Rattle.pv_steps.specs.Runs.{Ran, after_all}
use Rattle.pv_steps.specs.Same.{Same, object_states}
use Rattle.pv_steps.specs.Trees.{Files, IsTree, IsTreeIn, Places, places, kind_of}
use Rattle.pv_steps.proofs.RunLaws.{along_prefix}
use Rattle.pv_steps.proofs.TreeLaws.{directory_above}
use Rattle.pv_walk.specs.Edits.{all_taken}
use Rattle.pv_steps.specs.Steps.{made}
use Rattle.pv_walk.proofs.EditLaws.{path_cases}
use Rattle.pv_path.specs.Names.{same_bytes}
use Rattle.pv_walk.specs.Preparing.{parent_file, with_parent}
use Rattle.pv_walk.specs.Staging.{new_object}
use Rattle.pv_walk.specs.Removal.{is_one_of}
use Rattle.pv_requests.specs.Allowed.{IsAllowed, are_allowed_texts, is_allowed_group, is_allowed_path, is_allowed_user}
use Rattle.pv_requests.specs.Names.{is_account_name}
use Rattle.pv_requests.specs.Numbers.{is_account_place}
use Rattle.pv_requests.specs.Paths.{number_path}
use Rattle.pv_requests.specs.declared.request.GroupId.TheVariants as group
use Rattle.pv_requests.specs.declared.request.Request.{Request}
use Rattle.pv_requests.specs.declared.request.Request.TheVariants as request
use Rattle.pv_requests.specs.declared.request.UserId.TheVariants as user
use Rattle.pv_sysusers.specs.Allowed.{AreOwners}
use Rattle.pv_sysusers.specs.Finishing.{AreFinished, Finishes, IsEither, IsPartWritten, files_with}
use Rattle.pv_sysusers.specs.Plans.{AccountFiles, planned}
use Rattle.pv_sysusers.specs.declared.path_ids.PathId.{PathId}
use Rattle.pv_sysusers.specs.declared.planned.Texts.{Texts}
use Rattle.pv_sysusers.proofs.FinishLaws.{plan_finishes, plan_lacks, plan_own}
use Rattle.pv_sysusers.specs.declared.edit.Edit.{Edit}
use Rattle.pv_sysusers.specs.Edits.{with_edit}
use Rattle.pv_layers.specs.Places.{etc, group_path, passwd_path}
use Rattle.pv_sysusers.specs.FileWriting.{AccountWay, account_paths, gshadow_path, shadow_path, swept_names, with_directory}
use Rattle.pv_sysusers.specs.Accounted.{HasPlainPath, IsUsable, accounted, accounted_unless, carried_files, day_of, edit_at, edit_to, edits_at, edits_by, edits_to, edits_unless, files_at, ids_at, ids_of, lacking_at, lacking_in, lacking_unless, other_text, plan_at, text_at, unusable_by, unusable_text, unusable_texts}
use Rattle.pv_sysusers.specs.Recovery.{EndAlike, Recovers}
use Rattle.pv_sysusers.proofs.BesideLaws.{AreElse, edits_left, first_all}
use Rattle.pv_sysusers.proofs.FileWritingLaws.{directory_object_states, no_directory, parent_object_states, with_some}
use Rattle.pv_sysusers.proofs.EditingLaws.{IsWell, all_usable, all_well}
use Rattle.pv_sysusers.proofs.RunningLaws.{usable_accounted}
use Rattle.pv_sysusers.proofs.SameLaws.{all_ids, all_taken_object_states, beside, unsafe_component, files_same, no_owner, owner, owners_of, places_carried, refusal_by, same_accounted, seen, seen_or, some_put, there_put, uid_in, unusables_same}
use Rattle.pv_sysusers.proofs.StopLaws.{AreNew, HasCome, IsAs, after_all_edits, all_beside, object_states_all, beside_all, come, kind_as, own_again, own_new, own_text_new, owner_as, text_new, there_text_new}
use Rattle.pv_path.proofs.PathLaws.{has_staging-take}
use Rattle.pv_steps.proofs.ObjectLaws.{kind_of-same, is_some-same, none_from_object_state}

-- ---- the paths of the account files

-- what holds of each account file
account_in : (P : Path → Type 0) → P group_path → P gshadow_path → P shadow_path → P passwd_path → (q : Path) → is_one_of account_paths q ≡ true → P q
account_in P a b c d q h = by_group (path_cases group_path q)
  where
    by_passwd : (passwd_path ≡ q) ⊎ (same_path passwd_path q ≡ false) → (same_path passwd_path q || false) ≡ true → P q
    by_passwd (inl e) k = subst P e d
    by_passwd (inr far) k = absurd (let bad : false ≡ true = sym (ap (λ x. x || false) far) ∙ k in cc)

    by_shadow : (shadow_path ≡ q) ⊎ (same_path shadow_path q ≡ false) → (same_path shadow_path q || (same_path passwd_path q || false)) ≡ true → P q
    by_shadow (inl e) k = subst P e c
    by_shadow (inr far) k = by_passwd (path_cases passwd_path q) (sym (ap (λ x. x || (same_path passwd_path q || false)) far) ∙ k)

    by_gshadow : (gshadow_path ≡ q) ⊎ (same_path gshadow_path q ≡ false) → (same_path gshadow_path q || (same_path shadow_path q || (same_path passwd_path q || false))) ≡ true → P q
    by_gshadow (inl e) k = subst P e b
    by_gshadow (inr far) k = by_shadow (path_cases shadow_path q) (sym (ap (λ x. x || (same_path shadow_path q || (same_path passwd_path q || false))) far) ∙ k)

    by_group : (group_path ≡ q) ⊎ (same_path group_path q ≡ false) → P q
    by_group (inl e) = subst P e a
    by_group (inr far) = by_gshadow (path_cases gshadow_path q) (sym (ap (λ x. x || (same_path gshadow_path q || (same_path shadow_path q || (same_path passwd_path q || false)))) far) ∙ h)

two_names : (q : Path) → is_one_of account_paths q ≡ true → length q ≡ 2
two_names = account_in (λ q. length q ≡ 2) refl refl refl refl

account_place : (q : Path) → is_one_of account_paths q ≡ true → is_account_place q ≡ true
account_place = account_in (λ q. is_account_place q ≡ true) refl refl refl refl

-- where the account files can be used, nothing stands below them
none_below : (t : Places) → IsTreeIn t → AllByRecursion (IsUsable t) account_paths → (p : Path) → is_one_of account_paths p ≡ true → (n : List ℕ) (rest : Path) → t (p ++ n ∷ rest) ≡ None
none_below t tree usable p one n rest = by (t (p ++ n ∷ rest)) refl
  where
    by : (o : Option Object) → t (p ++ n ∷ rest) ≡ o → t (p ++ n ∷ rest) ≡ None
    by None e = e
    by (Some x) e = absurd (no_directory (t p) (account_in (IsUsable t) usable.0 usable.1.0 usable.1.1.0 usable.1.1.1.0 p one) (directory_above t tree p n rest (ap is_some e)))

ids_none : (t : Places) (q : Path) → t q ≡ None → ids_at t q ≡ None
ids_none t q e = by (is_some (refusal t q 0))
  where
    by : (b : Bool) → ◌≡◌ {A = Option PathId} (if b then None else option_map owners_of (t q)) None
    by true = refl
    by false = ap (option_map owners_of) e

-- ---- the paths of lines

no_path : {A : Type 0} (q : Path) → ◌≡◌ {A = Option Path} None (Some q) → A
no_path q e = absurd (let no : ◌≡◌ {A = Option Path} None (Some q) = e in cc)

-- the path of an allowed line is none of an account file, and has no staging name
allowed_path : (line : Request) → IsAllowed line → (q : Path) → number_path line ≡ Some q → is_allowed_path q ≡ true
allowed_path (request.User name user.Auto locked gecos home shell place) is q e = no_path q e
allowed_path (request.User name (user.Number n) locked gecos home shell place) is q e = no_path q e
allowed_path (request.User name (user.Primary uid primary) locked gecos home shell place) is q e = no_path q e
allowed_path (request.User name (user.Path p) locked gecos home shell place) is q e =
    let parts = and_parts (is_account_name name) (is_allowed_user (user.Path p) && are_allowed_texts gecos home shell) is in
    let path = and_parts (is_allowed_user (user.Path p)) (are_allowed_texts gecos home shell) parts.1 in
    subst (λ (x : Path). is_allowed_path x ≡ true) (same_Some p q e) path.0
allowed_path (request.Group name group.Auto place) is q e = no_path q e
allowed_path (request.Group name (group.Number n) place) is q e = no_path q e
allowed_path (request.Group name (group.Path p) place) is q e =
    subst (λ (x : Path). is_allowed_path x ≡ true) (same_Some p q e) (and_parts (is_account_name name) (is_allowed_group (group.Path p)) is).1
allowed_path (request.Member member name place) is q e = no_path q e
allowed_path (request.Range first last place) is q e = no_path q e

not_place : (q : Path) → is_allowed_path q ≡ true → is_account_place q ≡ false
not_place q h = not-true (is_account_place q) (and_parts (not (is_account_place q)) (not (has_staging q)) h).0

not_staged : (q : Path) → is_allowed_path q ≡ true → has_staging q ≡ false
not_staged q h = not-true (has_staging q) (and_parts (not (is_account_place q)) (not (has_staging q)) h).1

not_directory : (q : Path) → is_account_place q ≡ false → same_path etc q ≡ false
not_directory q place = by (path_cases etc q)
  where
    by : (etc ≡ q) ⊎ (same_path etc q ≡ false) → same_path etc q ≡ false
    by (inl e) = absurd (let no : true ≡ false = ap is_account_place e ∙ place in cc)
    by (inr d) = d

plain_lines : (requests : List Request) → AllByRecursion IsAllowed requests → AllByRecursion HasPlainPath requests
plain_lines [] is = tt
plain_lines (line ∷ lines) is = (
  λ q e. let h : is_allowed_path q ≡ true = allowed_path line is.0 q e in (not_staged q h, not_directory q (not_place q h)),
  plain_lines lines is.1,
)

-- ---- owners

id_of_tree : (n : ℕ) → n ≤ 4294967294 → is_id n ≡ true
id_of_tree n h = grind (arith, nat_tests)

owners_at_path : (t : Places) → IsTreeIn t → (q : Path) → AreOwners (ids_at t q)
owners_at_path t tree q = by (is_some (refusal t q 0))
  where
    some : (o : Option Object) → t q ≡ o → AreOwners (option_map owners_of o)
    some None e = refl
    some (Some x) e =
        let own = (tree.objects q x e).owner in
        rw (id_of_tree x.node.uid own.0) (id_of_tree x.node.gid own.1)

    by : (b : Bool) → AreOwners (if b then None else option_map owners_of (t q))
    by true = refl
    by false = some (t q) refl

owners_of_line : (t : Places) → IsTreeIn t → (line : Request) → AreOwners (ids_of t line)
owners_of_line t tree line = by (number_path line)
  where
    by : (o : Option Path) → AreOwners (option_and_then (ids_at t) o)
    by None = refl
    by (Some q) = owners_at_path t tree q

owners_of_lines : (t : Places) → IsTreeIn t → (requests : List Request) → AllByRecursion AreOwners (map (ids_of t) requests)
owners_of_lines t tree [] = tt
owners_of_lines t tree (line ∷ lines) = (owners_of_line t tree line, owners_of_lines t tree lines)

-- ---- files that can be used

good_text : (t : Places) (path : Path) → refusal t path 0 ≡ None → IsUsable t path → unusable_text t path ≡ []
good_text t path e usable = ap (λ r. unusable_by path r (kind_of (t path))) e ∙ by usable
  where
    by : (kind_of (t path) ≡ None) ⊎ (kind_of (t path) ≡ Some File) → other_text path (kind_of (t path)) ≡ []
    by (inl k) = ap (other_text path) k
    by (inr k) = ap (other_text path) k

-- ---- among files of which some are new

module _ (t u : Places) (texts : Texts) (has : HasCome t u texts) (tree : IsTreeIn t) (well : unusable_texts t ≡ [])
    (etc_owner : uid_in (u etc) ≡ uid_in (t etc)) (etc_unsafe_component : why_unsafe (kind_of (u etc)) ≡ why_unsafe (kind_of (t etc))) where
  usable : AllByRecursion (IsUsable t) account_paths
  usable = all_usable t well

  as_passwd : IsAs t u passwd_path 420 (Some texts.passwd)
  as_passwd = by has.passwd
    where
      by : (object_states u passwd_path ≡ object_states t passwd_path) ⊎ AreNew t u texts → IsAs t u passwd_path 420 (Some texts.passwd)
      by (inl e) = inl e
      by (inr new) = inr new.passwd

  uid_account : (q : Path) → is_one_of account_paths q ≡ true → uid_in (u q) ≡ uid_in (t q)
  uid_account = account_in (λ q. uid_in (u q) ≡ uid_in (t q)) (owner_as t u group_path 420 (Some texts.group) has.group) (owner_as t u gshadow_path 0 texts.gshadow has.gshadow)
      (owner_as t u shadow_path 0 (Some texts.shadow) has.shadow) (owner_as t u passwd_path 420 (Some texts.passwd) as_passwd)

  uid_all : (q : Path) → has_staging q ≡ false → uid_in (u q) ≡ uid_in (t q)
  uid_all q plain = by (path_cases etc q)
    where
      account : (b : Bool) → is_one_of account_paths q ≡ b → same_path etc q ≡ false → uid_in (u q) ≡ uid_in (t q)
      account true e d = uid_account q e
      account false e d = seen_or (λ o. o.node.uid) 0 (λ o. refl) (u q) (t q) (has.beside q plain d e)

      by : (etc ≡ q) ⊎ (same_path etc q ≡ false) → uid_in (u q) ≡ uid_in (t q)
      by (inl e) = subst (λ (p : Path). uid_in (u p) ≡ uid_in (t p)) e etc_owner
      by (inr d) = account (is_one_of account_paths q) refl d

  unsafe_component_all : (q : Path) → has_staging q ≡ false → is_one_of account_paths q ≡ false → why_unsafe (kind_of (u q)) ≡ why_unsafe (kind_of (t q))
  unsafe_component_all q plain far = by (path_cases etc q)
    where
      by : (etc ≡ q) ⊎ (same_path etc q ≡ false) → why_unsafe (kind_of (u q)) ≡ why_unsafe (kind_of (t q))
      by (inl e) = subst (λ (p : Path). why_unsafe (kind_of (u p)) ≡ why_unsafe (kind_of (t p))) e etc_unsafe_component
      by (inr d) = ap why_unsafe (kind_of-same (u q) (t q) (has.beside q plain d far))

  owners : (path : Path) → has_staging path ≡ false → (k : ℕ) → owner_at u path 0 k ≡ owner_at t path 0 k
  owners path plain k =
      subst (λ (n : ℕ). option_map_or (λ (x : Object). x.node.uid) (u (take k path)) n ≡ option_map_or (λ (x : Object). x.node.uid) (t (take k path)) n)
      (sym (no_owner (k == length path))) (uid_all (take k path) (has_staging-take k path plain))

  below_two : (k : ℕ) → nat_lt k 2 ≡ true → k < 2
  below_two k h = grind (arith, nat_tests)

  account_refusal : (name : List ℕ) → has_staging (codes "etc" ∷ name ∷ []) ≡ false → refusal u (codes "etc" ∷ name ∷ []) 0 ≡ refusal t (codes "etc" ∷ name ∷ []) 0
  account_refusal name plain = refusal_by t u (codes "etc" ∷ name ∷ []) (owners (codes "etc" ∷ name ∷ []) plain) on_way
    where
      on_way : (k : ℕ) → nat_lt k 2 ≡ true → why_unsafe (kind_of (u (take k (codes "etc" ∷ name ∷ [])))) ≡ why_unsafe (kind_of (t (take k (codes "etc" ∷ name ∷ []))))
      on_way zero h = unsafe_component_all [] refl refl
      on_way (suc zero) h = unsafe_component_all etc refl refl
      on_way (suc (suc k)) h = absurd (let below : suc (suc k) < 2 = below_two (suc (suc k)) h in omega (arith, below))

  usable_kept : (path : Path) → IsUsable t path → (kind_of (u path) ≡ kind_of (t path)) ⊎ (kind_of (u path) ≡ Some File) → IsUsable u path
  usable_kept path (inl k) (inl e) = inl (e ∙ k)
  usable_kept path (inr k) (inl e) = inr (e ∙ k)
  usable_kept path is (inr e) = inr e

  -- the account files can be used
  well_then : unusable_texts u ≡ []
  well_then = λ i. ((group_text_is i ++ gshadow_text_is i) ++ shadow_text_is i) ++ passwd_text_is i
    where
      is_well : AllByRecursion (IsWell t) account_paths
      is_well = all_well t well

      group_text_is : unusable_text u group_path ≡ []
      group_text_is = good_text u group_path (account_refusal (codes "group") refl ∙ is_well.0.unrefused)
          (usable_kept group_path usable.0 (kind_as t u group_path 420 (Some texts.group) has.group))

      gshadow_text_is : unusable_text u gshadow_path ≡ []
      gshadow_text_is = good_text u gshadow_path (account_refusal (codes "gshadow") refl ∙ is_well.1.0.unrefused)
          (usable_kept gshadow_path usable.1.0 (kind_as t u gshadow_path 0 texts.gshadow has.gshadow))

      shadow_text_is : unusable_text u shadow_path ≡ []
      shadow_text_is = good_text u shadow_path (account_refusal (codes "shadow") refl ∙ is_well.1.1.0.unrefused)
          (usable_kept shadow_path usable.1.1.0 (kind_as t u shadow_path 0 (Some texts.shadow) has.shadow))

      passwd_text_is : unusable_text u passwd_path ≡ []
      passwd_text_is = good_text u passwd_path (account_refusal (codes "passwd") refl ∙ is_well.1.1.1.0.unrefused)
          (usable_kept passwd_path usable.1.1.1.0 (kind_as t u passwd_path 420 (Some texts.passwd) as_passwd))

  -- ---- the owners that lines name

  taken_two : (q : Path) (k : ℕ) → nat_lt k (length q) ≡ true → length (take k q) ≡ 2 → k ≡ 2
  taken_two q k below long =
      let shorter : k < length q = less k (length q) below in
      let cut : min k (length q) ≡ 2 = sym (length-take k q) ∙ long in
      omega (arith, shorter, cut)
    where
      less : (a b : ℕ) → nat_lt a b ≡ true → a < b
      less a b h = grind (arith, nat_tests)

  module _ (q : Path) (plain : has_staging q ≡ false) (place : is_account_place q ≡ false) where
    not_one : is_one_of account_paths q ≡ false
    not_one = by (is_one_of account_paths q) refl
      where
        by : (b : Bool) → is_one_of account_paths q ≡ b → b ≡ false
        by true e = absurd (let no : true ≡ false = sym (account_place q e) ∙ place in cc)
        by false e = refl

    not_etc : same_path etc q ≡ false
    not_etc = not_directory q place

    same_there : object_states u q ≡ object_states t q
    same_there = has.beside q plain not_etc not_one

    -- where no account file is on the way
    ids_apart : is_one_of account_paths (take 2 q) ≡ false → ids_at u q ≡ ids_at t q
    ids_apart far = λ i. if is_some (refused i) then None else seen owners_of (λ o. refl) (u q) (t q) same_there i
      where
        on_way : (k : ℕ) → nat_lt k (length q) ≡ true → why_unsafe (kind_of (u (take k q))) ≡ why_unsafe (kind_of (t (take k q)))
        on_way k below = unsafe_component_all (take k q) (has_staging-take k q plain) (by (is_one_of account_paths (take k q)) refl)
          where
            by : (b : Bool) → is_one_of account_paths (take k q) ≡ b → b ≡ false
            by false e = refl
            by true e =
                let two : k ≡ 2 = taken_two q k below (two_names (take k q) e) in
                sym e ∙ ap (λ (j : ℕ). is_one_of account_paths (take j q)) two ∙ far

        refused : refusal u q 0 ≡ refusal t q 0
        refused = refusal_by t u q (owners q plain) on_way

    -- where one is, nothing stands there
    none_there : is_one_of account_paths (take 2 q) ≡ true → t q ≡ None
    none_there one = by (drop 2 q) (take-append-drop 2 q)
      where
        by : (rest : Path) → take 2 q ++ rest ≡ q → t q ≡ None
        by [] e = absurd (let no : true ≡ false = sym (account_place (take 2 q) one) ∙ ap is_account_place (sym (append-nil (take 2 q)) ∙ e) ∙ place in cc)
        by (n ∷ rest) e = ap t (sym e) ∙ none_below t tree usable (take 2 q) one n rest

    ids_same : ids_at u q ≡ ids_at t q
    ids_same = by (is_one_of account_paths (take 2 q)) refl
      where
        by : (b : Bool) → is_one_of account_paths (take 2 q) ≡ b → ids_at u q ≡ ids_at t q
        by false e = ids_apart e
        by true e =
            let none : t q ≡ None = none_there e in
            let gone : u q ≡ None = none_from_object_state (u q) (same_there ∙ ap (option_map object_state) none) in
            ids_none u q gone ∙ sym (ids_none t q none)

  line_same : (line : Request) → IsAllowed line → HasPlainPath line → ids_of u line ≡ ids_of t line
  line_same line is plain = by (number_path line) refl
    where
      by : (o : Option Path) → number_path line ≡ o → option_and_then (ids_at u) o ≡ option_and_then (ids_at t) o
      by None e = refl
      by (Some q) e = ids_same q (plain q e).0 (not_place q (allowed_path line is q e))

  lines_same : (requests : List Request) → AllByRecursion IsAllowed requests → AllByRecursion HasPlainPath requests → map (ids_of u) requests ≡ map (ids_of t) requests
  lines_same [] is plain = refl
  lines_same (line ∷ lines) is plain = λ i. line_same line is.0 plain.0 i ∷ lines_same lines is.1 plain.1 i

  -- ---- the account files that are found

  text_as : (path : Path) (mode : ℕ) (text : List ℕ) → IsAs t u path mode (Some text) → IsEither (unwrap_or (text_at t path) []) text (unwrap_or (text_at u path) [])
  text_as path mode text (inl e) = inl (ap (λ o. unwrap_or o []) (seen (λ o. o.payload) (λ o. refl) (u path) (t path) e))
  text_as path mode text (inr e) = inr (text_new t u path mode text e)

  own_as : (path : Path) (mode : ℕ) (text : Option (List ℕ)) → IsAs t u path mode text → IsEither (text_at t path) text (text_at u path)
  own_as path mode text (inl e) = inl (seen (λ o. o.payload) (λ o. refl) (u path) (t path) e)
  own_as path mode None (inr e) = inl (seen (λ o. o.payload) (λ o. refl) (u path) (t path) e)
  own_as path mode (Some text) (inr e) = own_text_new t u path mode text e

  own_there : (path : Path) (mode : ℕ) (text : Option (List ℕ)) → is_some text ≡ is_some (text_at t path) → object_states u path ≡ own_new t path mode text (object_states t path) → text_at u path ≡ text
  own_there path mode None some e = seen (λ o. o.payload) (λ o. refl) (u path) (t path) e ∙ none (text_at t path) (sym some)
    where
      none : (o : Option (List ℕ)) → is_some o ≡ false → o ≡ None
      none None h = refl
      none (Some x) h = absurd (let no : true ≡ false = h in cc)
  own_there path mode (Some text) some e = by (text_at t path) refl (sym some)
    where
      by : (o : Option (List ℕ)) → text_at t path ≡ o → is_some o ≡ true → text_at u path ≡ Some text
      by None d h = absurd (let no : false ≡ true = h in cc)
      by (Some old) d h = there_text_new t u path mode old text d e

  part_written : is_some texts.gshadow ≡ is_some (text_at t gshadow_path) → IsPartWritten (files_at t) texts (files_at u)
  part_written own = record {
    group = text_as group_path 420 texts.group has.group;
    gshadow = own_as gshadow_path 0 texts.gshadow has.gshadow;
    shadow = text_as shadow_path 0 texts.shadow has.shadow;
    passwd = by has.passwd;
  }
    where
      by : (object_states u passwd_path ≡ object_states t passwd_path) ⊎ AreNew t u texts → ((files_at u).passwd ≡ (files_at t).passwd) ⊎ (files_at u ≡ files_with texts)
      by (inl e) = inl (ap (λ o. unwrap_or o []) (seen (λ o. o.payload) (λ o. refl) (u passwd_path) (t passwd_path) e))
      by (inr new) = inr (λ i. record {
        passwd = text_new t u passwd_path 420 texts.passwd new.passwd i;
        group = text_new t u group_path 420 texts.group new.group i;
        shadow = text_new t u shadow_path 0 texts.shadow new.shadow i;
        gshadow = own_there gshadow_path 0 texts.gshadow own new.gshadow i;
      })

-- ---- what runs leave

-- what is swept, and /etc put, changes nothing else
base_object_states : (now : ℕ) (cs : List Edit) (t : Places) (q : Path) → has_staging q ≡ false → same_path etc q ≡ false → object_states (with_directory now cs (all_taken now swept_names t)) q ≡ object_states t q
base_object_states now [] t q plain apart = all_taken_object_states now swept_names (refl, (refl, (refl, (refl, (refl, tt))))) t q plain
base_object_states now (c ∷ cs) t q plain apart =
    directory_object_states now (all_taken now swept_names t) q apart ∙ all_taken_object_states now swept_names (refl, (refl, (refl, (refl, (refl, tt))))) t q plain

-- a run whose texts are known
module _ (requests : List Request) (now : ℕ) (t : Files) (texts : Texts) (well : unusable_texts (places t) ≡ []) (is : (plan_at requests now (places t)).texts ≡ Ok texts) where
  run_leaves : accounted requests now t ≡ carried_files now (edits_to (places t) texts) t
  run_leaves =
      usable_accounted (unusable_texts (places t)) (lacking_in (plan_at requests now (places t)).texts) (edits_by (places t) (plan_at requests now (places t)).texts) now t well (ap lacking_in is)
      ∙ ap (λ r. carried_files now (edits_by (places t) r) t) is

  -- the object at a path, by what stood there when the texts were put
  leaves_at : (q : Path) → object_states (places (accounted requests now t)) q
      ≡ after_all_edits (places t) texts q (object_states (with_directory now (edits_to (places t) texts) (all_taken now swept_names (places t))) q)
  leaves_at q =
      ap (λ (f : Files). object_states (places f) q) run_leaves
      ∙ ap (option_map object_state) (places_carried now (edits_to (places t) texts) t q)
      ∙ object_states_all (places t) texts now (with_directory now (edits_to (places t) texts) (all_taken now swept_names (places t))) q

  leaves : (q : Path) → has_staging q ≡ false → same_path etc q ≡ false → object_states (places (accounted requests now t)) q ≡ after_all_edits (places t) texts q (object_states (places t) q)
  leaves q plain apart = leaves_at q ∙ ap (after_all_edits (places t) texts q) (base_object_states now (edits_to (places t) texts) (places t) q plain apart)

  edits_are : edits_at requests now (places t) ≡ edits_to (places t) texts
  edits_are =
      ap (λ xs. edits_unless xs (edits_by (places t) (plan_at requests now (places t)).texts)) well ∙ ap (edits_by (places t)) is

-- texts that a plan finishes
record Finished (new : Texts) (day later : ℕ) (files : AccountFiles) (r : Result Texts (List ℕ)) : Type 0 where
  texts : Texts
  gives : r ≡ Ok texts
  are : AreFinished new day later files texts

finished : (new : Texts) (day later : ℕ) (files : AccountFiles) (r : Result Texts (List ℕ)) → Finishes new day later files r → Finished new day later files r
finished new day later files (Ok texts) h = record { texts = texts; gives = refl; are = h }
finished new day later files (Err name) h = absurd h

day_below : (now : ℕ) → now < 2 ^ 64 → day_of now < 2 ^ 64
day_below now h = let less : now / 86400000000 ≤ now = div-le_self now 86400000000 in omega (arith, h, less)

text_alike : (t u : Files) (path : Path) → object_states (places u) path ≡ object_states (places t) path → text_at (places u) path ≡ text_at (places t) path
text_alike t u path e = seen (λ o. o.payload) (λ o. refl) (places u path) (places t path) e

-- trees that are the same
same_alike : (now later : ℕ) (t u : Files) → Same u t → EndAlike now later t u
same_alike now later t u same = record {
  group = text_alike t u group_path (same group_path refl);
  gshadow = text_alike t u gshadow_path (same gshadow_path refl);
  passwd = text_alike t u passwd_path (same passwd_path refl);
  same = λ day. same;
}

-- ---- where texts were planned

module _ (requests : List Request) (allowed : AllByRecursion IsAllowed requests) (plain : AllByRecursion HasPlainPath requests) (now later : ℕ) (small : now < 2 ^ 64) (t u : Files) (tree : IsTree t)
    (texts : Texts) (well : unusable_texts (places t) ≡ []) (is : (plan_at requests now (places t)).texts ≡ Ok texts) (has : HasCome (places t) (places u) texts)
    (etc_owner : uid_in (places u etc) ≡ uid_in (places t etc)) (etc_unsafe_component : why_unsafe (kind_of (places u etc)) ≡ why_unsafe (kind_of (places t etc))) where
  plan_then : Finishes texts (day_of now) (day_of later) (files_at (places u)) (plan_at requests later (places u)).texts
  plan_then = subst (λ (ids : List (Option PathId)). Finishes texts (day_of now) (day_of later) (files_at (places u)) (planned requests ids (files_at (places u)) (day_of later)).texts)
      (sym (lines_same (places t) (places u) texts has tree well etc_owner etc_unsafe_component requests allowed plain))
      (plan_finishes requests allowed (map (ids_of (places t)) requests) (owners_of_lines (places t) tree requests) (files_at (places t)) (files_at (places u)) (day_of now) (day_of later) (day_below now small) texts is
      (part_written (places t) (places u) texts has tree well etc_owner etc_unsafe_component (plan_own requests (map (ids_of (places t)) requests) (files_at (places t)) (day_of now) texts is)))

  found : Finished texts (day_of now) (day_of later) (files_at (places u)) (plan_at requests later (places u)).texts
  found = finished texts (day_of now) (day_of later) (files_at (places u)) (plan_at requests later (places u)).texts plan_then

  well_u : unusable_texts (places u) ≡ []
  well_u = well_then (places t) (places u) texts has tree well etc_owner etc_unsafe_component

  first : (q : Path) → has_staging q ≡ false → same_path etc q ≡ false → object_states (places (accounted requests now t)) q ≡ after_all_edits (places t) texts q (object_states (places t) q)
  first = leaves requests now t texts well is

  second : (q : Path) → has_staging q ≡ false → same_path etc q ≡ false → object_states (places (accounted requests later u)) q ≡ after_all_edits (places u) found.texts q (object_states (places u) q)
  second = leaves requests later u found.texts well_u found.gives

  at_group : object_states (places (accounted requests later u)) group_path ≡ object_states (places (accounted requests now t)) group_path
  at_group =
      second group_path refl refl
      ∙ ap (λ (x : List ℕ). own_new (places u) group_path 420 (Some x) (object_states (places u) group_path)) found.are.group
      ∙ own_again (places t) (places u) group_path 420 (Some texts.group) has.group ∙ sym (first group_path refl refl)

  at_gshadow : object_states (places (accounted requests later u)) gshadow_path ≡ object_states (places (accounted requests now t)) gshadow_path
  at_gshadow =
      second gshadow_path refl refl
      ∙ ap (λ (x : Option (List ℕ)). own_new (places u) gshadow_path 0 x (object_states (places u) gshadow_path)) found.are.gshadow
      ∙ own_again (places t) (places u) gshadow_path 0 texts.gshadow has.gshadow ∙ sym (first gshadow_path refl refl)

  at_passwd : object_states (places (accounted requests later u)) passwd_path ≡ object_states (places (accounted requests now t)) passwd_path
  at_passwd =
      second passwd_path refl refl
      ∙ ap (λ (x : List ℕ). own_new (places u) passwd_path 420 (Some x) (object_states (places u) passwd_path)) found.are.passwd
      ∙ own_again (places t) (places u) passwd_path 420 (Some texts.passwd) (as_passwd (places t) (places u) texts has tree well etc_owner etc_unsafe_component) ∙ sym (first passwd_path refl refl)

  at_shadow : day_of later ≡ day_of now → object_states (places (accounted requests later u)) shadow_path ≡ object_states (places (accounted requests now t)) shadow_path
  at_shadow day =
      second shadow_path refl refl
      ∙ ap (λ (x : List ℕ). own_new (places u) shadow_path 0 (Some x) (object_states (places u) shadow_path)) (found.are.shadow (inl day))
      ∙ own_again (places t) (places u) shadow_path 0 (Some texts.shadow) has.shadow ∙ sym (first shadow_path refl refl)

  -- on the same day, also beside the account files, where /etc is the same
  same_day : object_states (places (accounted requests later u)) etc ≡ object_states (places (accounted requests now t)) etc → day_of later ≡ day_of now → Same (accounted requests later u) (accounted requests now t)
  same_day at_etc day q plain = by (path_cases etc q)
    where
      account : (b : Bool) → is_one_of account_paths q ≡ b → same_path etc q ≡ false → object_states (places (accounted requests later u)) q ≡ object_states (places (accounted requests now t)) q
      account true e d =
          account_in (λ q. object_states (places (accounted requests later u)) q ≡ object_states (places (accounted requests now t)) q) at_group at_gshadow (at_shadow day) at_passwd q e
      account false e d =
          second q plain d ∙ all_beside (places u) found.texts q (beside_all q e) (object_states (places u) q) ∙ has.beside q plain d e
          ∙ sym (first q plain d ∙ all_beside (places t) texts q (beside_all q e) (object_states (places t) q))

      by : (etc ≡ q) ⊎ (same_path etc q ≡ false) → object_states (places (accounted requests later u)) q ≡ object_states (places (accounted requests now t)) q
      by (inl e) = subst (λ (p : Path). object_states (places (accounted requests later u)) p ≡ object_states (places (accounted requests now t)) p) e at_etc
      by (inr d) = account (is_one_of account_paths q) refl d

  alike : (day_of later ≡ day_of now → Same (accounted requests later u) (accounted requests now t)) → EndAlike now later (accounted requests now t) (accounted requests later u)
  alike same = record {
    group = text_alike (accounted requests now t) (accounted requests later u) group_path at_group;
    gshadow = text_alike (accounted requests now t) (accounted requests later u) gshadow_path at_gshadow;
    passwd = text_alike (accounted requests now t) (accounted requests later u) passwd_path at_passwd;
    same = same;
  }

  -- where some text changes and /etc was put
  etc_put : (k : ℕ) → 1 ≤ length (edits_to (places t) texts)
      → ((q : Path) → has_staging q ≡ false → object_states (places u) q ≡ object_states (fold (with_edit 0) (with_parent 0 (places t) etc) (take k (edits_to (places t) texts))) q)
      → object_states (places u) etc ≡ object_states (with_parent 0 (places t) etc) etc
      → object_states (places (accounted requests later u)) etc ≡ object_states (places (accounted requests now t)) etc
  etc_put k some at there =
      leaves_at requests later u found.texts well_u found.gives etc
      ∙ all_beside (places u) found.texts etc (beside_all etc refl) (object_states (with_directory later (edits_to (places u) found.texts) (all_taken later swept_names (places u))) etc)
      ∙ again (edits_to (places u) found.texts) ∙ there
      ∙ parent_object_states 0 now (places t) (all_taken now swept_names (places t)) (λ r object_state. sym (all_taken_object_states now swept_names (refl, (refl, (refl, (refl, (refl, tt))))) (places t) r object_state)) etc refl
      ∙ sym (ap (λ (x : Places). object_states x etc) (with_some now (edits_to (places t) texts) (all_taken now swept_names (places t)) some))
      ∙ sym (all_beside (places t) texts etc (beside_all etc refl) (object_states (with_directory now (edits_to (places t) texts) (all_taken now swept_names (places t))) etc))
      ∙ sym (leaves_at requests now t texts well is etc)
    where
      swept : object_states (all_taken later swept_names (places u)) etc ≡ object_states (places u) etc
      swept = all_taken_object_states later swept_names (refl, (refl, (refl, (refl, (refl, tt))))) (places u) etc refl

      stands : is_some (all_taken later swept_names (places u) etc) ≡ true
      stands =
          is_some-same (all_taken later swept_names (places u) etc) (with_parent 0 (places t) etc etc) (swept ∙ there)
          ∙ some_put (places t)

      again : (cs : List Edit) → object_states (with_directory later cs (all_taken later swept_names (places u))) etc ≡ object_states (places u) etc
      again [] = swept
      again (c ∷ cs) = ap (λ b. object_states (cond b (all_taken later swept_names (places u)) (made later etc (new_object parent_file later) (all_taken later swept_names (places u)))) etc) stands ∙ swept

-- ---- /etc

else_append : (cs ds : List Edit) → AreElse etc cs → AreElse etc ds → AreElse etc (cs ++ ds)
else_append [] ds a b = b
else_append (c ∷ cs) ds a b = (a.0, else_append cs ds a.1 b)

else_edit : (t : Places) (path : Path) (mode : ℕ) (text : List ℕ) → same_path path etc ≡ false → AreElse etc (edit_at t path mode text)
else_edit t path mode text far = by (same_bytes text (unwrap_or (text_at t path) []))
  where
    by : (b : Bool) → AreElse etc (cond {A = List Edit} b [] (edit_to t path mode text ∷ []))
    by true = tt
    by false = (far, tt)

else_own : (t : Places) (path : Path) (mode : ℕ) (text : Option (List ℕ)) → same_path path etc ≡ false → AreElse etc (option_map_or (edit_at t path mode) text [])
else_own t path mode None far = tt
else_own t path mode (Some text) far = else_edit t path mode text far

etc_kept : (t : Places) (texts : Texts) (base : Places) (k : ℕ) → object_states (fold (with_edit 0) base (take k (edits_to t texts))) etc ≡ object_states base etc
etc_kept t texts base k = edits_left etc (take k (edits_to t texts)) (first_all (λ c. same_path c.path etc ≡ false) k (edits_to t texts) all) base
  where
    one : AreElse etc (edit_at t group_path 420 texts.group)
    one = else_edit t group_path 420 texts.group refl

    two : AreElse etc (edit_at t group_path 420 texts.group ++ option_map_or (edit_at t gshadow_path 0) texts.gshadow [])
    two = else_append (edit_at t group_path 420 texts.group) (option_map_or (edit_at t gshadow_path 0) texts.gshadow []) one (else_own t gshadow_path 0 texts.gshadow refl)

    three : AreElse etc ((edit_at t group_path 420 texts.group ++ option_map_or (edit_at t gshadow_path 0) texts.gshadow []) ++ edit_at t shadow_path 0 texts.shadow)
    three = else_append (edit_at t group_path 420 texts.group ++ option_map_or (edit_at t gshadow_path 0) texts.gshadow []) (edit_at t shadow_path 0 texts.shadow) two (else_edit t shadow_path 0 texts.shadow refl)

    all : AreElse etc (edits_to t texts)
    all = else_append ((edit_at t group_path 420 texts.group ++ option_map_or (edit_at t gshadow_path 0) texts.gshadow []) ++ edit_at t shadow_path 0 texts.shadow) (edit_at t passwd_path 420 texts.passwd) three
        (else_edit t passwd_path 420 texts.passwd refl)

-- /etc that is put is root's, and does not stop a walk
module _ (t : Places) where
  put_uid : uid_in (with_parent 0 t etc etc) ≡ uid_in (t etc)
  put_uid = by (t etc) refl
    where
      by : (o : Option Object) → t etc ≡ o → uid_in (with_parent 0 t etc etc) ≡ uid_in (t etc)
      by None is = ap uid_in (there_put t is) ∙ sym (ap uid_in is)
      by (Some x) is = ap (λ (o : Option Object). uid_in (cond (is_some o) t (made 0 etc (new_object parent_file 0) t) etc)) is

  put_way : why_unsafe (kind_of (with_parent 0 t etc etc)) ≡ why_unsafe (kind_of (t etc))
  put_way = by (t etc) refl
    where
      by : (o : Option Object) → t etc ≡ o → why_unsafe (kind_of (with_parent 0 t etc etc)) ≡ why_unsafe (kind_of (t etc))
      by None is = ap (λ (o : Option Object). why_unsafe (kind_of o)) (there_put t is) ∙ sym (ap (λ (o : Option Object). why_unsafe (kind_of o)) is)
      by (Some x) is = ap (λ (o : Option Object). why_unsafe (kind_of (cond (is_some o) t (made 0 etc (new_object parent_file 0) t) etc))) is

-- ---- all stops

-- from a tree on the way a complete run ends alike
pub way_recovered : (requests : List Request) → AllByRecursion IsAllowed requests → AllByRecursion HasPlainPath requests → (now later : ℕ) → now < 2 ^ 64 → (t u : Files) → IsTree t
    → AccountWay (edits_at requests now (places t)) t u → EndAlike now later (accounted requests now t) (accounted requests later u)
way_recovered requests allowed plain now later small t u tree way = by (unusable_texts (places t)) refl (plan_at requests now (places t)).texts refl
  where
    stays : (v : Files) (moment : ℕ) → ((unusable_texts (places v)) ≡ [] → (lacking_in (plan_at requests moment (places v)).texts ≡ None) → ⊥) → accounted requests moment v ≡ v
    stays v moment never = by_both (unusable_texts (places v)) refl (lacking_in (plan_at requests moment (places v)).texts) refl
      where
        by_both : (xs : List (List ℕ)) → unusable_texts (places v) ≡ xs → (o : Option (List ℕ)) → lacking_in (plan_at requests moment (places v)).texts ≡ o → accounted requests moment v ≡ v
        by_both (x ∷ xs) e o d = ap (λ ys. accounted_unless ys (lacking_at requests moment (places v)) v (carried_files moment (edits_at requests moment (places v)) v)) e
        by_both [] e None d = absurd (never e d)
        by_both [] e (Some name) d =
            ap (λ ys. accounted_unless ys (lacking_unless ys (lacking_in (plan_at requests moment (places v)).texts)) v (carried_files moment (edits_at requests moment (places v)) v)) e
            ∙ ap (λ l. accounted_unless [] l v (carried_files moment (edits_at requests moment (places v)) v)) d

    none_done : edits_at requests now (places t) ≡ [] → Same u t
    none_done e = from way
      where
        from : AccountWay (edits_at requests now (places t)) t u → Same u t
        from (inl same) = same
        from (inr h) = absurd (let some : 1 ≤ length (edits_at requests now (places t)) = h.0 in let none : length (edits_at requests now (places t)) ≡ 0 = ap length e in omega (arith, some, none))

    both_stay : Same u t → accounted requests now t ≡ t → accounted requests later u ≡ u → EndAlike now later (accounted requests now t) (accounted requests later u)
    both_stay same e d = subst (λ (x : Files). EndAlike now later x (accounted requests later u)) (sym e) (subst (λ (y : Files). EndAlike now later t y) (sym d) (same_alike now later t u same))

    unusable_same : Same u t → unusable_texts (places u) ≡ unusable_texts (places t)
    unusable_same same = unusables_same (places t) (places u) (beside t u same) (owner t u same) (unsafe_component t u same)

    lacks_then : Same u t → (name : List ℕ) → (plan_at requests now (places t)).texts ≡ Err name → (plan_at requests later (places u)).texts ≡ Err name
    lacks_then same name e =
        (λ i. (planned requests (all_ids (places t) (places u) (beside t u same) (owner t u same) (unsafe_component t u same) requests plain i)
        (files_same (places t) (places u) (beside t u same) (owner t u same) (unsafe_component t u same) i) (day_of later)).texts)
        ∙ plan_lacks requests (map (ids_of (places t)) requests) (files_at (places t)) (day_of now) (day_of later) name e

    same_come : (texts : Texts) → Same u t → HasCome (places t) (places u) texts
    same_come texts same = record {
      group = inl (same group_path refl);
      gshadow = inl (same gshadow_path refl);
      shadow = inl (same shadow_path refl);
      passwd = inl (same passwd_path refl);
      beside = λ q object_state apart far. same q object_state;
    }

    with_texts : (texts : Texts) → (plan_at requests now (places t)).texts ≡ Ok texts → unusable_texts (places t) ≡ [] → EndAlike now later (accounted requests now t) (accounted requests later u)
    with_texts texts e well = from way
      where
        are : edits_at requests now (places t) ≡ edits_to (places t) texts
        are = edits_are requests now t texts well e

        from : AccountWay (edits_at requests now (places t)) t u → EndAlike now later (accounted requests now t) (accounted requests later u)
        from (inl same) = alike requests allowed plain now later small t u tree texts well e (same_come texts same) (owner t u same) (unsafe_component t u same)
            (λ day. same_accounted t u same requests now later plain day)
        from (inr h) =
            let some : 1 ≤ length (edits_to (places t) texts) = subst (λ (es : List Edit). 1 ≤ length es) are h.0 in
            let k : ℕ = h.1.0 in
            let at : (q : Path) → has_staging q ≡ false → object_states (places u) q ≡ object_states (fold (with_edit 0) (with_parent 0 (places t) etc) (take k (edits_to (places t) texts))) q =
            λ q object_state. h.1.1.0 q object_state ∙ ap (λ (es : List Edit). object_states (fold (with_edit 0) (with_parent 0 (places t) etc) (take k es)) q) are in
            put_first k some at
          where
            put_first : (k : ℕ) → 1 ≤ length (edits_to (places t) texts)
                → ((q : Path) → has_staging q ≡ false → object_states (places u) q ≡ object_states (fold (with_edit 0) (with_parent 0 (places t) etc) (take k (edits_to (places t) texts))) q)
                → EndAlike now later (accounted requests now t) (accounted requests later u)
            put_first k some at =
                let has : HasCome (places t) (places u) texts = come (places t) (places u) (with_parent 0 (places t) etc) texts (directory_object_states 0 (places t)) k at in
                let there : object_states (places u) etc ≡ object_states (with_parent 0 (places t) etc) etc = at_directory k at in
                alike requests allowed plain now later small t u tree texts well e has (uid_put there) (unsafe_component_put there)
                (same_day requests allowed plain now later small t u tree texts well e has (uid_put there) (unsafe_component_put there)
                (etc_put requests allowed plain now later small t u tree texts well e has (uid_put there) (unsafe_component_put there) k some at there))
              where
                at_directory : (k : ℕ) → ((q : Path) → has_staging q ≡ false → object_states (places u) q ≡ object_states (fold (with_edit 0) (with_parent 0 (places t) etc) (take k (edits_to (places t) texts))) q)
                    → object_states (places u) etc ≡ object_states (with_parent 0 (places t) etc) etc
                at_directory k at = at etc refl ∙ etc_kept (places t) texts (with_parent 0 (places t) etc) k

                uid_put : object_states (places u) etc ≡ object_states (with_parent 0 (places t) etc) etc → uid_in (places u etc) ≡ uid_in (places t etc)
                uid_put there = seen_or (λ o. o.node.uid) 0 (λ o. refl) (places u etc) (with_parent 0 (places t) etc etc) there ∙ put_uid (places t)

                unsafe_component_put : object_states (places u) etc ≡ object_states (with_parent 0 (places t) etc) etc → why_unsafe (kind_of (places u etc)) ≡ why_unsafe (kind_of (places t etc))
                unsafe_component_put there = ap why_unsafe (kind_of-same (places u etc) (with_parent 0 (places t) etc etc) there) ∙ put_way (places t)

    by : (xs : List (List ℕ)) → unusable_texts (places t) ≡ xs → (r : Result Texts (List ℕ)) → (plan_at requests now (places t)).texts ≡ r → EndAlike now later (accounted requests now t) (accounted requests later u)
    by (x ∷ xs) e r d =
        let same : Same u t = none_done (ap (λ ys. edits_unless ys (edits_by (places t) (plan_at requests now (places t)).texts)) e) in
        both_stay same (stays t now (λ w l. absurd (let no : ◌≡◌ {A = List (List ℕ)} (x ∷ xs) [] = sym e ∙ w in cc)))
        (stays u later (λ w l. absurd (let no : ◌≡◌ {A = List (List ℕ)} (x ∷ xs) [] = sym e ∙ sym (unusable_same same) ∙ w in cc)))
    by [] e (Err name) d =
        let same : Same u t = none_done (ap (λ ys. edits_unless ys (edits_by (places t) (plan_at requests now (places t)).texts)) e ∙ ap (edits_by (places t)) d) in
        both_stay same (stays t now (λ w l. absurd (let no : Some name ≡ None = sym (ap lacking_in d) ∙ l in cc)))
        (stays u later (λ w l. absurd (let no : Some name ≡ None = sym (ap lacking_in (lacks_then same name d)) ∙ l in cc)))
    by [] e (Ok texts) d = with_texts texts d e

-- a run that went by steps is finished after any of them
pub run_recovered : (requests : List Request) (now : ℕ) → now < 2 ^ 64 → (edits : List Edit) (Q : Step → Type 0) (t : Files) (h : List Step) (u : Files) (k : List Step) → IsTree t → edits ≡ edits_at requests now (places t)
    → Ran (AccountWay edits t) Q now t h u k → Recovers requests now t (drop (length h) k)
run_recovered requests now small edits Q t h u k tree are run n later allowed =
    way_recovered requests allowed (plain_lines requests allowed) now later small t (after_all t (take n (drop (length h) k)) now) tree
    (subst (λ (es : List Edit). AccountWay es t (after_all t (take n (drop (length h) k)) now)) are
    (subst (λ (steps : List Step). AccountWay edits t (after_all t (take n steps) now)) (sym (ap (drop (length h)) run.recorded ∙ drop-append_seam h run.steps)) (along_prefix (AccountWay edits t) t run.steps now n run.along)))

-- and so is one that has done nothing
pub none_recovered : (requests : List Request) (now : ℕ) → now < 2 ^ 64 → (t : Files) (h : List Step) → IsTree t → Recovers requests now t (drop (length h) h)
none_recovered requests now small t h tree n later allowed =
    way_recovered requests allowed (plain_lines requests allowed) now later small t (after_all t (take n (drop (length h) h)) now) tree
    (inl (subst (λ (steps : List Step). Same (after_all t (take n steps) now) t) (sym (drop-length h)) (λ q object_state. ap (λ (steps : List Step). object_states (places (after_all t steps now)) q) (none_taken n))))
  where
    none_taken : (j : ℕ) → ◌≡◌ {A = List Step} (take j []) []
    none_taken zero = refl
    none_taken (suc j) = refl
