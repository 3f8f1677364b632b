-- Laws of runs over trees that differ in timestamps and staging names alone: they plan the same, and leave the same.
use Rattle.std.specs.Prelude.{◌≡◌, ◌⊎◌, ◌≤◌, ℕ, ◌+◌, ◌-◌, ◌==◌, nat_lt, Bool, true, false, not, ◌&&◌, cond, List, [], ◌∷◌, ◌++◌, length, map, take, Option, Some, None, is_some, option_map, option_and_then, unwrap_or, Result, Ok, Err, if◌then◌else◌}
use Rattle.std.proofs.Common.{refl, sym, ap, subst, ◌∙◌, arith, inl, inr}
use Rattle.std.specs.FinMap as fin
use Rattle.std.specs.List.{AllByRecursion, range_with_len}
use Rattle.std.specs.Option.{option_map_or, option_or}
use Rattle.pv_path.specs.Names.{same_bytes}
use Rattle.pv_path.specs.Paths.{Path, has_staging, same_path}
use Rattle.pv_steps.specs.declared.object.Object.{Object}
use Rattle.pv_steps.specs.declared.why.Why.{Why}
use Rattle.pv_steps.specs.declared.why.Why.TheVariants as why
use Rattle.pv_steps.specs.Objects.{object_state}
use Rattle.pv_steps.specs.Refusal.{first_refused, owner_at, refusal, why_unsafe, why_refused}
use Rattle.pv_steps.specs.Same.{Same, object_states}
use Rattle.pv_steps.specs.Steps.{made, touched}
use Rattle.pv_steps.specs.Trees.{Files, Places, places, kind_of}
use Rattle.pv_steps.proofs.StepLaws.{places-tabulate}
use Rattle.pv_walk.specs.Edits.{all_taken, cut, taken}
use Rattle.pv_walk.specs.Nodes.{object_state_of}
use Rattle.pv_walk.proofs.EditLaws.{object_states-touched, made-here, path_cases, staging_outside}
use Rattle.pv_walk.specs.Preparing.{parent_file, with_parent}
use Rattle.pv_walk.specs.Staging.{new_object}
use Rattle.pv_requests.specs.declared.request.Request.{Request}
use Rattle.pv_requests.specs.Paths.{number_path}
use Rattle.pv_sysusers.specs.declared.path_ids.PathId.{PathId}
use Rattle.pv_sysusers.specs.declared.planned.Texts.{Texts}
use Rattle.pv_sysusers.specs.Planning.{files_in}
use Rattle.pv_sysusers.specs.Plans.{planned}
use Rattle.pv_sysusers.specs.declared.edit.Edit.{Edit}
use Rattle.pv_layers.specs.Places.{etc, group_path, passwd_path}
use Rattle.pv_sysusers.specs.FileWriting.{carried_out, gshadow_path, shadow_path, swept_names, with_directory}
use Rattle.pv_sysusers.specs.Accounted.{HasPlainPath, accounted, accounted_unless, accounts_messages, carried_files, day_of, metadata_at, edit_at, edits_at, edits_by, edits_to, edits_unless, files_at, ids_at, ids_of, lacking_at, lacking_in, lacking_unless, plain_metadata, plan_at, messages_unless, text_at, unusable_by, unusable_text, unusable_texts}
use Rattle.pv_sysusers.proofs.FileWritingLaws.{directory_object_states, parent_object_states, with_some}
use Rattle.pv_sysusers.proofs.StagingLaws.{object_states_edits}
use Rattle.pv_sysusers.proofs.RunningLaws.{present_run}
use Rattle.pv_path.proofs.PathLaws.{has_staging-take}
use Rattle.pv_steps.proofs.ObjectLaws.{kind_of-same}

-- ---- what does not depend on timestamps

pub seen : {A : Type 0} (f : Object → A) → ((o : Object) → f (object_state o) ≡ f o) → (a b : Option Object) → option_map object_state a ≡ option_map object_state b → option_map f a ≡ option_map f b
seen {A} f kept a b e = sym (object_state_seen a) ∙ ap (option_map f) e ∙ object_state_seen b
  where
    object_state_seen : (o : Option Object) → option_map f (option_map object_state o) ≡ option_map f o
    object_state_seen None = refl
    object_state_seen (Some x) = ap (λ (y : A). Some y) (kept x)

pub seen_or : {A : Type 0} (f : Object → A) (none : A) → ((o : Object) → f (object_state o) ≡ f o) → (a b : Option Object) → option_map object_state a ≡ option_map object_state b
    → option_map_or f a none ≡ option_map_or f b none
seen_or f none kept a b e = sym (object_state_seen a) ∙ ap (λ (o : Option Object). option_map_or f o none) e ∙ object_state_seen b
  where
    object_state_seen : (o : Option Object) → option_map_or f (option_map object_state o) none ≡ option_map_or f o none
    object_state_seen None = refl
    object_state_seen (Some x) = kept x

abbrev pub owners_of : Object → PathId
owners_of o = record { uid = o.node.uid; gid = o.node.gid }

-- ---- the plan

abbrev pub uid_in : Option Object → ℕ
uid_in o = option_map_or (λ (x : Object). x.node.uid) o 0

pub no_owner : (b : Bool) → ◌≡◌ {A = ℕ} (if b then 0 else 0) 0
no_owner true = refl
no_owner false = refl

-- a walk meets the same owners, and is stopped by the same kinds on its way
pub refusal_by : (t u : Places) (path : Path) → ((k : ℕ) → owner_at u path 0 k ≡ owner_at t path 0 k)
    → ((k : ℕ) → nat_lt k (length path) ≡ true → why_unsafe (kind_of (u (take k path))) ≡ why_unsafe (kind_of (t (take k path))))
    → refusal u path 0 ≡ refusal t path 0
refusal_by t u path owners unsafe_component = ap (λ (f : ℕ → Option Why). first_refused f (range_with_len 0 (length path + 1))) (λ i k. reason k i)
  where
    on_way : (k : ℕ) (b : Bool) → nat_lt k (length path) ≡ b
        → ◌≡◌ {A = Option Why} (if b then why_unsafe (kind_of (u (take k path))) else None) (if b then why_unsafe (kind_of (t (take k path))) else None)
    on_way k true e = unsafe_component k e
    on_way k false e = refl

    reason : (k : ℕ) → why_refused u path 0 k ≡ why_refused t path 0 k
    reason k = λ i. option_or (on_way k (nat_lt k (length path)) refl i)
        (if nat_lt 0 k && not (owners (k - 1) i == 0) && not (owners k i == owners (k - 1) i) then Some why.UnsafeOwner else None)

module _ (t u : Places) (same : (q : Path) → has_staging q ≡ false → same_path etc q ≡ false → object_states u q ≡ object_states t q)
    (owner : uid_in (u etc) ≡ uid_in (t etc)) (unsafe_component : why_unsafe (kind_of (u etc)) ≡ why_unsafe (kind_of (t etc))) where
  text_same : (path : Path) → has_staging path ≡ false → same_path etc path ≡ false → text_at u path ≡ text_at t path
  text_same path plain apart = seen (λ o. o.payload) (λ o. refl) (u path) (t path) (same path plain apart)

  metadata_same : (path : Path) → has_staging path ≡ false → same_path etc path ≡ false → (mode : ℕ) → metadata_at u path mode ≡ metadata_at t path mode
  metadata_same path plain apart mode = seen_or (λ o. (object_state_of o).metadata) (plain_metadata mode) (λ o. refl) (u path) (t path) (same path plain apart)

  owner_there : (p : Path) → has_staging p ≡ false → (none : ℕ) → none ≡ 0 → option_map_or (λ (x : Object). x.node.uid) (u p) none ≡ option_map_or (λ (x : Object). x.node.uid) (t p) none
  owner_there p plain none zeroed = by (path_cases etc p)
    where
      by : (etc ≡ p) ⊎ (same_path etc p ≡ false) → option_map_or (λ (x : Object). x.node.uid) (u p) none ≡ option_map_or (λ (x : Object). x.node.uid) (t p) none
      by (inl e) = subst (λ (n : ℕ). option_map_or (λ (x : Object). x.node.uid) (u p) n ≡ option_map_or (λ (x : Object). x.node.uid) (t p) n) (sym zeroed)
          (subst (λ (q : Path). uid_in (u q) ≡ uid_in (t q)) e owner)
      by (inr d) = seen_or (λ o. o.node.uid) none (λ o. refl) (u p) (t p) (same p plain d)

  unsafe_component_there : (p : Path) → has_staging p ≡ false → why_unsafe (kind_of (u p)) ≡ why_unsafe (kind_of (t p))
  unsafe_component_there p plain = by (path_cases etc p)
    where
      by : (etc ≡ p) ⊎ (same_path etc p ≡ false) → why_unsafe (kind_of (u p)) ≡ why_unsafe (kind_of (t p))
      by (inl e) = subst (λ (q : Path). why_unsafe (kind_of (u q)) ≡ why_unsafe (kind_of (t q))) e unsafe_component
      by (inr d) = ap why_unsafe (kind_of-same (u p) (t p) (same p plain d))

  module _ (path : Path) (plain : has_staging path ≡ false) (apart : same_path etc path ≡ false) where
    owner_same : (k : ℕ) → owner_at u path 0 k ≡ owner_at t path 0 k
    owner_same k = owner_there (take k path) (has_staging-take k path plain) (if k == length path then 0 else 0) (no_owner (k == length path))

    unsafe_component_same : (k : ℕ) → why_unsafe (kind_of (u (take k path))) ≡ why_unsafe (kind_of (t (take k path)))
    unsafe_component_same k = unsafe_component_there (take k path) (has_staging-take k path plain)

    refusal_same : refusal u path 0 ≡ refusal t path 0
    refusal_same = refusal_by t u path owner_same (λ k below. unsafe_component_same k)

    kind_same : kind_of (u path) ≡ kind_of (t path)
    kind_same = kind_of-same (u path) (t path) (same path plain apart)

    owners_same : option_map owners_of (u path) ≡ option_map owners_of (t path)
    owners_same = seen owners_of (λ o. refl) (u path) (t path) (same path plain apart)

    ids_same : ids_at u path ≡ ids_at t path
    ids_same = λ i. if is_some (refusal_same i) then None else owners_same i

    unusable_same : unusable_text u path ≡ unusable_text t path
    unusable_same = λ i. unusable_by path (refusal_same i) (kind_same i)

  line_ids : (line : Request) → HasPlainPath line → ids_of u line ≡ ids_of t line
  line_ids line plain = by (number_path line) refl
    where
      by : (o : Option Path) → number_path line ≡ o → option_and_then (ids_at u) o ≡ option_and_then (ids_at t) o
      by None e = refl
      by (Some path) e = ids_same path (plain path e).0 (plain path e).1

  pub all_ids : (requests : List Request) → AllByRecursion HasPlainPath requests → map (ids_of u) requests ≡ map (ids_of t) requests
  all_ids [] plain = refl
  all_ids (line ∷ lines) plain = λ i. line_ids line plain.0 i ∷ all_ids lines plain.1 i

  pub files_same : files_at u ≡ files_at t
  files_same = λ i. files_in (unwrap_or (text_same passwd_path refl refl i) []) (unwrap_or (text_same group_path refl refl i) []) (unwrap_or (text_same shadow_path refl refl i) []) (text_same gshadow_path refl refl i)

  pub unusables_same : unusable_texts u ≡ unusable_texts t
  unusables_same = λ i. unusable_same group_path refl refl i ++ unusable_same gshadow_path refl refl i ++ unusable_same shadow_path refl refl i ++ unusable_same passwd_path refl refl i

  edit_same : (path : Path) → has_staging path ≡ false → same_path etc path ≡ false → (mode : ℕ) (text : List ℕ) → edit_at u path mode text ≡ edit_at t path mode text
  edit_same path plain apart mode text = λ i. if same_bytes text (unwrap_or (text_same path plain apart i) []) then [] else record { path = path; text = text; metadata = metadata_same path plain apart mode i } ∷ []

  edits_same : (texts : Texts) → edits_to u texts ≡ edits_to t texts
  edits_same texts = λ i.
      edit_same group_path refl refl 420 texts.group i ++ option_map_or (λ x. edit_same gshadow_path refl refl 0 x i) texts.gshadow [] ++ edit_same shadow_path refl refl 0 texts.shadow i
      ++ edit_same passwd_path refl refl 420 texts.passwd i

  by_same : (r : Result Texts (List ℕ)) → edits_by u r ≡ edits_by t r
  by_same (Ok texts) = edits_same texts
  by_same (Err name) = refl

  module _ (requests : List Request) (plain : AllByRecursion HasPlainPath requests) (now later : ℕ) (day : day_of later ≡ day_of now) where
    plan_same : plan_at requests later u ≡ plan_at requests now t
    plan_same = λ i. planned requests (all_ids requests plain i) (files_same i) (day i)

    lacking_same : lacking_at requests later u ≡ lacking_at requests now t
    lacking_same = λ i. lacking_unless (unusables_same i) (lacking_in (plan_same i).texts)

    messages_same : accounts_messages requests later u ≡ accounts_messages requests now t
    messages_same = λ i. messages_unless requests (unusables_same i) (plan_same i).new_messages

    at_same : edits_at requests later u ≡ edits_at requests now t
    at_same =
        (λ i. edits_unless (unusables_same i) (edits_by u (plan_same i).texts))
        ∙ ap (λ (es : List Edit). edits_unless (unusable_texts t) es) (by_same (plan_at requests now t).texts)

-- ---- what a run leaves

pub places_carried : (now : ℕ) (cs : List Edit) (t : Files) (q : Path) → places (carried_files now cs t) q ≡ carried_out now cs (places t) q
places_carried now cs t q = places-tabulate (etc ∷ map (λ edit. edit.path) cs ++ fin.keys t) (carried_out now cs (places t)) q (present_run now q cs t)

taken_object_states : (now : ℕ) (x : Path) → has_staging x ≡ true → (t : Places) (q : Path) → has_staging q ≡ false → object_states (taken now x t) q ≡ object_states t q
taken_object_states now x staging t q plain = by (is_some (t x))
  where
    by : (b : Bool) → object_states (cond b (touched now x (cut x t)) t) q ≡ object_states t q
    by true = object_states-touched now x (cut x t) q ∙ ap (λ b. option_map object_state (cond b None (t q))) (staging_outside x staging q plain)
    by false = refl

pub all_taken_object_states : (now : ℕ) (xs : List Path) → AllByRecursion (λ x. has_staging x ≡ true) xs → (t : Places) (q : Path) → has_staging q ≡ false → object_states (all_taken now xs t) q ≡ object_states t q
all_taken_object_states now [] all t q plain = refl
all_taken_object_states now (x ∷ xs) all t q plain = all_taken_object_states now xs all.1 (taken now x t) q plain ∙ taken_object_states now x all.0 t q plain

directory_same : (now later : ℕ) (cs : List Edit) (t u : Places) → ((q : Path) → has_staging q ≡ false → object_states t q ≡ object_states u q)
    → (q : Path) → has_staging q ≡ false → object_states (with_directory now cs t) q ≡ object_states (with_directory later cs u) q
directory_same now later [] t u same q plain = same q plain
directory_same now later (c ∷ cs) t u same q plain = parent_object_states now later t u same q plain

carried_same : (now later : ℕ) (cs : List Edit) (t u : Files) → Same u t → Same (carried_files later cs u) (carried_files now cs t)
carried_same now later cs t u same q plain =
    ap (option_map object_state) (places_carried later cs u q)
    ∙ object_states_edits later now cs (with_directory later cs (all_taken later swept_names (places u))) (with_directory now cs (all_taken now swept_names (places t)))
    (directory_same later now cs (all_taken later swept_names (places u)) (all_taken now swept_names (places t)) swept) q plain
    ∙ sym (ap (option_map object_state) (places_carried now cs t q))
  where
    swept : (r : Path) → has_staging r ≡ false → object_states (all_taken later swept_names (places u)) r ≡ object_states (all_taken now swept_names (places t)) r
    swept r object_state =
        all_taken_object_states later swept_names (refl, (refl, (refl, (refl, (refl, tt))))) (places u) r object_state ∙ same r object_state
        ∙ sym (all_taken_object_states now swept_names (refl, (refl, (refl, (refl, (refl, tt))))) (places t) r object_state)

unless_same : (xs : List (List ℕ)) (lacking : Option (List ℕ)) (a b c d : Files) → Same a b → Same c d → Same (accounted_unless xs lacking a c) (accounted_unless xs lacking b d)
unless_same [] None a b c d first second = second
unless_same [] (Some name) a b c d first second = first
unless_same (x ∷ xs) lacking a b c d first second = first

-- ---- where nothing but timestamps and staging names has changed

module _ (t u : Files) (same : Same u t) where
  pub beside : (q : Path) → has_staging q ≡ false → same_path etc q ≡ false → object_states (places u) q ≡ object_states (places t) q
  beside q plain apart = same q plain

  pub owner : uid_in (places u etc) ≡ uid_in (places t etc)
  owner = seen_or (λ o. o.node.uid) 0 (λ o. refl) (places u etc) (places t etc) (same etc refl)

  pub unsafe_component : why_unsafe (kind_of (places u etc)) ≡ why_unsafe (kind_of (places t etc))
  unsafe_component = ap why_unsafe (kind_of-same (places u etc) (places t etc) (same etc refl))

  module _ (requests : List Request) (now later : ℕ) (plain : AllByRecursion HasPlainPath requests) (day : day_of later ≡ day_of now) where
    step : accounted requests later u
        ≡ accounted_unless (unusable_texts (places t)) (lacking_at requests now (places t)) u (carried_files later (edits_at requests now (places t)) u)
    step = λ i.
        accounted_unless (unusables_same (places t) (places u) beside owner unsafe_component i) (lacking_same (places t) (places u) beside owner unsafe_component requests plain now later day i) u
        (carried_files later (at_same (places t) (places u) beside owner unsafe_component requests plain now later day i) u)

    pub same_accounted : Same (accounted requests later u) (accounted requests now t)
    same_accounted =
        subst (λ (v : Files). Same v (accounted requests now t)) (sym step)
        (unless_same (unusable_texts (places t)) (lacking_at requests now (places t)) u t (carried_files later (edits_at requests now (places t)) u) (carried_files now (edits_at requests now (places t)) t)
        same (carried_same now later (edits_at requests now (places t)) t u same))

    pub same_messages : accounts_messages requests later (places u) ≡ accounts_messages requests now (places t)
    same_messages = messages_same (places t) (places u) beside owner unsafe_component requests plain now later day

-- ---- where /etc has been put too

whole_unless : (xs : List (List ℕ)) (lacking : Option (List ℕ)) (t u : Files) → xs ≡ [] → lacking ≡ None → accounted_unless xs lacking t u ≡ u
whole_unless xs lacking t u e none = ap (λ (ys : List (List ℕ)). accounted_unless ys lacking t u) e ∙ ap (λ (l : Option (List ℕ)). accounted_unless [] l t u) none

some_edits : (t : Places) (xs : List (List ℕ)) (r : Result Texts (List ℕ)) → 1 ≤ length (edits_unless xs (edits_by t r)) → (xs ≡ []) × (lacking_unless xs (lacking_in r) ≡ None)
some_edits t [] (Ok texts) h = (refl, refl)
some_edits t [] (Err name) h = absurd (omega (arith, h))
some_edits t (x ∷ xs) r h = absurd (omega (arith, h))

module _ (t : Places) where
  abbrev with_etc : Places
  with_etc = with_parent 0 t etc

  abbrev new_etc : Object
  new_etc = new_object parent_file 0

  pub there_put : t etc ≡ None → with_etc etc ≡ Some new_etc
  there_put is = ap (λ (o : Option Object). cond (is_some o) t (made 0 etc new_etc t) etc) is ∙ made-here 0 etc t (λ h. cc) new_etc

  pub some_put : is_some (with_etc etc) ≡ true
  some_put = by (is_some (t etc)) refl
    where
      by : (b : Bool) → is_some (t etc) ≡ b → is_some (cond b t (made 0 etc new_etc t) etc) ≡ true
      by true e = e
      by false e = ap is_some (made-here 0 etc t (λ h. cc) new_etc)

  stands : (later : ℕ) → with_parent later with_etc etc ≡ with_etc
  stands later = ap (λ (b : Bool). cond b with_etc (made later etc (new_object parent_file later) with_etc)) some_put

module _ (t u : Files) (put : (q : Path) → has_staging q ≡ false → object_states (places u) q ≡ object_states (with_etc (places t)) q) where
  put_beside : (q : Path) → has_staging q ≡ false → same_path etc q ≡ false → object_states (places u) q ≡ object_states (places t) q
  put_beside q plain apart = put q plain ∙ directory_object_states 0 (places t) q apart

  pub put_owner : uid_in (places u etc) ≡ uid_in (places t etc)
  put_owner = by (places t etc) refl
    where
      by : (o : Option Object) → places t etc ≡ o → uid_in (places u etc) ≡ uid_in (places t etc)
      by None is =
          seen_or (λ o. o.node.uid) 0 (λ o. refl) (places u etc) (Some (new_etc (places t))) (put etc refl ∙ ap (option_map object_state) (there_put (places t) is))
          ∙ sym (ap uid_in is)
      by (Some x) is =
          seen_or (λ o. o.node.uid) 0 (λ o. refl) (places u etc) (places t etc)
          (put etc refl ∙ ap (λ (o : Option Object). object_states (cond (is_some o) (places t) (made 0 etc (new_etc (places t)) (places t))) etc) is)

  pub put_unsafe_component : why_unsafe (kind_of (places u etc)) ≡ why_unsafe (kind_of (places t etc))
  put_unsafe_component = by (places t etc) refl
    where
      by : (o : Option Object) → places t etc ≡ o → why_unsafe (kind_of (places u etc)) ≡ why_unsafe (kind_of (places t etc))
      by None is =
          ap why_unsafe (kind_of-same (places u etc) (Some (new_etc (places t))) (put etc refl ∙ ap (option_map object_state) (there_put (places t) is)))
          ∙ sym (ap (λ (o : Option Object). why_unsafe (kind_of o)) is)
      by (Some x) is =
          ap why_unsafe (kind_of-same (places u etc) (places t etc)
          (put etc refl ∙ ap (λ (o : Option Object). object_states (cond (is_some o) (places t) (made 0 etc (new_etc (places t)) (places t))) etc) is))

  module _ (now later : ℕ) where
    abbrev swept_before : Places
    swept_before = all_taken now swept_names (places t)

    abbrev swept_later : Places
    swept_later = all_taken later swept_names (places u)

    put_directory : (q : Path) → has_staging q ≡ false → object_states (with_parent later swept_later etc) q ≡ object_states (with_parent now swept_before etc) q
    put_directory q plain =
        parent_object_states later later swept_later (with_etc (places t)) (λ r object_state. all_taken_object_states later swept_names (refl, (refl, (refl, (refl, (refl, tt))))) (places u) r object_state ∙ put r object_state) q plain
        ∙ ap (λ (x : Places). object_states x q) (stands (places t) later)
        ∙ parent_object_states 0 now (places t) swept_before (λ r object_state. sym (all_taken_object_states now swept_names (refl, (refl, (refl, (refl, (refl, tt))))) (places t) r object_state)) q plain

    put_carried : (cs : List Edit) → 1 ≤ length cs → Same (carried_files later cs u) (carried_files now cs t)
    put_carried cs some q plain =
        ap (option_map object_state) (places_carried later cs u q)
        ∙ object_states_edits later now cs (with_directory later cs swept_later) (with_directory now cs swept_before)
        (λ r object_state. ap (λ (x : Places). object_states x r) (with_some later cs swept_later some) ∙ put_directory r object_state ∙ sym (ap (λ (x : Places). object_states x r) (with_some now cs swept_before some))) q plain
        ∙ sym (ap (option_map object_state) (places_carried now cs t q))

    module _ (requests : List Request) (plain : AllByRecursion HasPlainPath requests) (day : day_of later ≡ day_of now) where
      put_step : accounted requests later u
          ≡ accounted_unless (unusable_texts (places t)) (lacking_at requests now (places t)) u (carried_files later (edits_at requests now (places t)) u)
      put_step = λ i.
          accounted_unless (unusables_same (places t) (places u) put_beside put_owner put_unsafe_component i) (lacking_same (places t) (places u) put_beside put_owner put_unsafe_component requests plain now later day i) u
          (carried_files later (at_same (places t) (places u) put_beside put_owner put_unsafe_component requests plain now later day i) u)

      pub put_accounted : 1 ≤ length (edits_at requests now (places t)) → Same (accounted requests later u) (accounted requests now t)
      put_accounted some =
          let es = edits_at requests now (places t) in
          let is = some_edits (places t) (unusable_texts (places t)) (plan_at requests now (places t)).texts some in
          let after = put_step ∙ whole_unless (unusable_texts (places t)) (lacking_at requests now (places t)) u (carried_files later es u) is.0 is.1 in
          let before = whole_unless (unusable_texts (places t)) (lacking_at requests now (places t)) t (carried_files now es t) is.0 is.1 in
          subst (λ (v : Files). Same v (accounted requests now t)) (sym after) (subst (λ (v : Files). Same (carried_files later es u) v) (sym before) (put_carried es some))
