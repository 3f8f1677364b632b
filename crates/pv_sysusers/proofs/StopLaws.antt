-- Laws of a run among account files of which an earlier run has brought some to their paths: what it finds there.
use Rattle.std.specs.Prelude.{◌≡◌, ◌⊎◌, ◌≤◌, ℕ, Bool, true, false, ◌||◌, cond, List, [], ◌∷◌, ◌++◌, length, take, fold, Option, Some, None, option_map, unwrap_or, if◌then◌else◌}
use Rattle.std.proofs.Common.{zero, suc, refl, sym, ap, ◌∙◌, arith, inl, inr}
use Rattle.std.specs.Option.{option_map_or}
use Rattle.std.proofs.lemmas.List.Sums.{fold-append}
use Rattle.std.proofs.lemmas.Bool.{or_parts}
use Rattle.pv_path.specs.Names.{same_bytes}
use Rattle.pv_path.specs.Paths.{Path, has_staging, same_path}
use Rattle.pv_path.proofs.PathLaws.{same_bytes-decides, same_bytes-refl}
use Rattle.pv_steps.specs.declared.node.Kind.TheVariants.{File}
use Rattle.pv_steps.specs.declared.object.Object.{Object}
use Rattle.pv_steps.specs.Objects.{object_state}
use Rattle.pv_steps.specs.Same.{object_states}
use Rattle.pv_steps.specs.Trees.{Places, kind_of}
use Rattle.pv_walk.specs.Nodes.{object_state_of}
use Rattle.pv_walk.proofs.EditLaws.{object_states-made}
use Rattle.pv_walk.specs.Removal.{is_one_of}
use Rattle.pv_sysusers.specs.declared.planned.Texts.{Texts}
use Rattle.pv_sysusers.specs.declared.edit.Edit.{Edit}
use Rattle.pv_sysusers.specs.Edits.{edited, with_edit}
use Rattle.pv_layers.specs.Places.{etc, group_path, passwd_path}
use Rattle.pv_sysusers.specs.FileWriting.{account_paths, gshadow_path, shadow_path}
use Rattle.pv_sysusers.specs.Accounted.{edit_at, edit_to, edits_to, plain_metadata, text_at}
use Rattle.pv_sysusers.proofs.SameLaws.{seen, seen_or, uid_in}
use Rattle.pv_steps.proofs.ObjectLaws.{kind_of-same}

-- ---- what edits leave at a path, timestamps aside

-- the new file at a path, timestamps aside
abbrev pub new_object_state : Places → Path → ℕ → List ℕ → Option Object
new_object_state t path mode text = option_map object_state (Some (edited 0 (edit_to t path mode text)))

-- the object at a path of which a text is told, if it is not that of the file
abbrev pub own_new : Places → Path → ℕ → Option (List ℕ) → Option Object → Option Object
own_new t path mode None o = o
own_new t path mode (Some text) o = if same_bytes text (unwrap_or (text_at t path) []) then o else new_object_state t path mode text

-- the object at another path, or at that one
abbrev pub after : Places → Path → ℕ → Option (List ℕ) → Path → Option Object → Option Object
after t path mode text q o = if same_path path q then own_new t path mode text o else o

either_way : {A : Type 0} (b : Bool) (x : A) → x ≡ (if b then x else x)
either_way true x = refl
either_way false x = refl

abbrev own_edits : Places → Path → ℕ → Option (List ℕ) → List Edit
own_edits t path mode text = option_map_or (edit_at t path mode) text []

after_edit : (now : ℕ) (t base : Places) (path : Path) (mode : ℕ) (text : Option (List ℕ)) (q : Path)
    → object_states (fold (with_edit now) base (own_edits t path mode text)) q ≡ after t path mode text q (object_states base q)
after_edit now t base path mode None q = either_way (same_path path q) (object_states base q)
after_edit now t base path mode (Some text) q = by (same_bytes text (unwrap_or (text_at t path) []))
  where
    put : (b : Bool) → option_map object_state (cond b (Some (edited now (edit_to t path mode text))) (base q)) ≡ (if b then new_object_state t path mode text else object_states base q)
    put true = refl
    put false = refl

    by : (b : Bool) → object_states (fold (with_edit now) base (if b then [] else edit_to t path mode text ∷ [])) q ≡ (if same_path path q then (if b then object_states base q else new_object_state t path mode text) else object_states base q)
    by true = either_way (same_path path q) (object_states base q)
    by false = object_states-made now path (edited now (edit_to t path mode text)) base q ∙ put (same_path path q)

-- the same of the edits of one file after another
module _ (t : Places) (texts : Texts) where
  abbrev one : List Edit
  one = edit_at t group_path 420 texts.group

  abbrev two : List Edit
  two = one ++ own_edits t gshadow_path 0 texts.gshadow

  abbrev three : List Edit
  three = two ++ edit_at t shadow_path 0 texts.shadow

  abbrev pub after_one : Path → Option Object → Option Object
  after_one q o = after t group_path 420 (Some texts.group) q o

  abbrev pub after_two : Path → Option Object → Option Object
  after_two q o = after t gshadow_path 0 texts.gshadow q (after_one q o)

  abbrev pub after_three : Path → Option Object → Option Object
  after_three q o = after t shadow_path 0 (Some texts.shadow) q (after_two q o)

  abbrev pub after_all_edits : Path → Option Object → Option Object
  after_all_edits q o = after t passwd_path 420 (Some texts.passwd) q (after_three q o)

  module _ (now : ℕ) (base : Places) (q : Path) where
    object_states_one : object_states (fold (with_edit now) base one) q ≡ after_one q (object_states base q)
    object_states_one = after_edit now t base group_path 420 (Some texts.group) q

    object_states_two : object_states (fold (with_edit now) base two) q ≡ after_two q (object_states base q)
    object_states_two =
        ap (λ (x : Places). object_states x q) (fold-append (with_edit now) base one (own_edits t gshadow_path 0 texts.gshadow))
        ∙ after_edit now t (fold (with_edit now) base one) gshadow_path 0 texts.gshadow q
        ∙ ap (after t gshadow_path 0 texts.gshadow q) object_states_one

    object_states_three : object_states (fold (with_edit now) base three) q ≡ after_three q (object_states base q)
    object_states_three =
        ap (λ (x : Places). object_states x q) (fold-append (with_edit now) base two (edit_at t shadow_path 0 texts.shadow))
        ∙ after_edit now t (fold (with_edit now) base two) shadow_path 0 (Some texts.shadow) q
        ∙ ap (after t shadow_path 0 (Some texts.shadow) q) object_states_two

    pub object_states_all : object_states (fold (with_edit now) base (edits_to t texts)) q ≡ after_all_edits q (object_states base q)
    object_states_all =
        ap (λ (x : Places). object_states x q) (fold-append (with_edit now) base three (edit_at t passwd_path 420 texts.passwd))
        ∙ after_edit now t (fold (with_edit now) base three) passwd_path 420 (Some texts.passwd) q
        ∙ ap (after t passwd_path 420 (Some texts.passwd) q) object_states_three

-- ---- how far a run has come

short_edit : (t : Places) (path : Path) (mode : ℕ) (text : List ℕ) → length (edit_at t path mode text) ≤ 1
short_edit t path mode text = by (same_bytes text (unwrap_or (text_at t path) []))
  where
    by : (b : Bool) → length (cond {A = List Edit} b [] (edit_to t path mode text ∷ [])) ≤ 1
    by true = omega arith
    by false = omega arith

short_own : (t : Places) (path : Path) (mode : ℕ) (text : Option (List ℕ)) → length (own_edits t path mode text) ≤ 1
short_own t path mode None = omega arith
short_own t path mode (Some text) = short_edit t path mode text

abbrev no_edits : List Edit
no_edits = []

none_taken : (j : ℕ) → take j no_edits ≡ no_edits
none_taken zero = refl
none_taken (suc j) = refl

-- of a list and at most one item more the first are the first of the list, or all
take_cases : (k : ℕ) (xs ys : List Edit) → length ys ≤ 1 → (take k (xs ++ ys) ≡ take k xs) ⊎ (take k (xs ++ ys) ≡ xs ++ ys)
take_cases zero [] ys short = inl refl
take_cases (suc k) [] [] short = inl refl
take_cases (suc k) [] (y ∷ []) short = inr (ap (λ (zs : List Edit). y ∷ zs) (none_taken k))
take_cases (suc k) [] (y ∷ z ∷ ys) short = absurd (omega (arith, short))
take_cases zero (x ∷ xs) ys short = inl refl
take_cases (suc k) (x ∷ xs) ys short = by (take_cases k xs ys short)
  where
    by : (take k (xs ++ ys) ≡ take k xs) ⊎ (take k (xs ++ ys) ≡ xs ++ ys) → (take (suc k) (x ∷ xs ++ ys) ≡ take (suc k) (x ∷ xs)) ⊎ (take (suc k) (x ∷ xs ++ ys) ≡ x ∷ xs ++ ys)
    by (inl e) = inl (ap (λ (zs : List Edit). x ∷ zs) e)
    by (inr e) = inr (ap (λ (zs : List Edit). x ∷ zs) e)

-- a file is as it was, or new
abbrev pub IsAs : Places → Places → Path → ℕ → Option (List ℕ) → Type 0
IsAs t u path mode text = (object_states u path ≡ object_states t path) ⊎ (object_states u path ≡ own_new t path mode text (object_states t path))

-- all are new
pub record AreNew (t u : Places) (texts : Texts) : Type 0 where
  pub group : object_states u group_path ≡ own_new t group_path 420 (Some texts.group) (object_states t group_path)
  pub gshadow : object_states u gshadow_path ≡ own_new t gshadow_path 0 texts.gshadow (object_states t gshadow_path)
  pub shadow : object_states u shadow_path ≡ own_new t shadow_path 0 (Some texts.shadow) (object_states t shadow_path)
  pub passwd : object_states u passwd_path ≡ own_new t passwd_path 420 (Some texts.passwd) (object_states t passwd_path)

-- what a run that came so far has left, timestamps and staging names aside
pub record HasCome (t u : Places) (texts : Texts) : Type 0 where
  pub group : IsAs t u group_path 420 (Some texts.group)
  pub gshadow : IsAs t u gshadow_path 0 texts.gshadow
  pub shadow : IsAs t u shadow_path 0 (Some texts.shadow)
  pub passwd : (object_states u passwd_path ≡ object_states t passwd_path) ⊎ AreNew t u texts
  pub beside : (q : Path) → has_staging q ≡ false → same_path etc q ≡ false → is_one_of account_paths q ≡ false → object_states u q ≡ object_states t q

-- a path that is none of the account files
pub record IsBesideAll (q : Path) : Type 0 where
  pub group : same_path group_path q ≡ false
  pub gshadow : same_path gshadow_path q ≡ false
  pub shadow : same_path shadow_path q ≡ false
  pub passwd : same_path passwd_path q ≡ false

pub beside_all : (q : Path) → is_one_of account_paths q ≡ false → IsBesideAll q
beside_all q h =
    let a = or_parts (same_path group_path q) (same_path gshadow_path q || (same_path shadow_path q || (same_path passwd_path q || false))) h in
    let b = or_parts (same_path gshadow_path q) (same_path shadow_path q || (same_path passwd_path q || false)) a.1 in
    let c = or_parts (same_path shadow_path q) (same_path passwd_path q || false) b.1 in
    let d = or_parts (same_path passwd_path q) false c.1 in
    record { group = a.0; gshadow = b.0; shadow = c.0; passwd = d.0 }

module _ (t : Places) (texts : Texts) (q : Path) (far : IsBesideAll q) (o : Option Object) where
  one_beside : after_one t texts q o ≡ o
  one_beside = ap (λ b. if b then own_new t group_path 420 (Some texts.group) o else o) far.group

  two_beside : after_two t texts q o ≡ o
  two_beside = ap (λ b. if b then own_new t gshadow_path 0 texts.gshadow (after_one t texts q o) else after_one t texts q o) far.gshadow ∙ one_beside

  three_beside : after_three t texts q o ≡ o
  three_beside = ap (λ b. if b then own_new t shadow_path 0 (Some texts.shadow) (after_two t texts q o) else after_two t texts q o) far.shadow ∙ two_beside

  pub all_beside : after_all_edits t texts q o ≡ o
  all_beside = ap (λ b. if b then own_new t passwd_path 420 (Some texts.passwd) (after_three t texts q o) else after_three t texts q o) far.passwd ∙ three_beside

-- from where nothing but /etc has been put, after the first edits
module _ (t u base : Places) (texts : Texts) (start : (q : Path) → same_path etc q ≡ false → object_states base q ≡ object_states t q) (k : ℕ)
    (at : (q : Path) → has_staging q ≡ false → object_states u q ≡ object_states (fold (with_edit 0) base (take k (edits_to t texts))) q) where
  step : (es : List Edit) → take k (edits_to t texts) ≡ es → (q : Path) → has_staging q ≡ false → object_states u q ≡ object_states (fold (with_edit 0) base es) q
  step es e q plain = at q plain ∙ ap (λ (xs : List Edit). object_states (fold (with_edit 0) base xs) q) e

  abbrev all : List Edit
  all = edits_to t texts

  come_all : take k all ≡ all → HasCome t u texts
  come_all e = record { group = inr new.group; gshadow = inr new.gshadow; shadow = inr new.shadow; passwd = inr new; beside = λ q plain apart far. went q plain ∙ all_beside t texts q (beside_all q far) (object_states base q) ∙ start q apart }
    where
      went : (q : Path) → has_staging q ≡ false → object_states u q ≡ after_all_edits t texts q (object_states base q)
      went q plain = step all e q plain ∙ object_states_all t texts 0 base q

      new : AreNew t u texts
      new = record {
        group = went group_path refl ∙ ap (own_new t group_path 420 (Some texts.group)) (start group_path refl);
        gshadow = went gshadow_path refl ∙ ap (own_new t gshadow_path 0 texts.gshadow) (start gshadow_path refl);
        shadow = went shadow_path refl ∙ ap (own_new t shadow_path 0 (Some texts.shadow)) (start shadow_path refl);
        passwd = went passwd_path refl ∙ ap (own_new t passwd_path 420 (Some texts.passwd)) (start passwd_path refl);
      }

  come_three : take k all ≡ three t texts → HasCome t u texts
  come_three e = record {
    group = inr (went group_path refl ∙ ap (own_new t group_path 420 (Some texts.group)) (start group_path refl));
    gshadow = inr (went gshadow_path refl ∙ ap (own_new t gshadow_path 0 texts.gshadow) (start gshadow_path refl));
    shadow = inr (went shadow_path refl ∙ ap (own_new t shadow_path 0 (Some texts.shadow)) (start shadow_path refl));
    passwd = inl (went passwd_path refl ∙ start passwd_path refl);
    beside = λ q plain apart far. went q plain ∙ three_beside t texts q (beside_all q far) (object_states base q) ∙ start q apart;
  }
    where
      went : (q : Path) → has_staging q ≡ false → object_states u q ≡ after_three t texts q (object_states base q)
      went q plain = step (three t texts) e q plain ∙ object_states_three t texts 0 base q

  come_two : take k all ≡ two t texts → HasCome t u texts
  come_two e = record {
    group = inr (went group_path refl ∙ ap (own_new t group_path 420 (Some texts.group)) (start group_path refl));
    gshadow = inr (went gshadow_path refl ∙ ap (own_new t gshadow_path 0 texts.gshadow) (start gshadow_path refl));
    shadow = inl (went shadow_path refl ∙ start shadow_path refl);
    passwd = inl (went passwd_path refl ∙ start passwd_path refl);
    beside = λ q plain apart far. went q plain ∙ two_beside t texts q (beside_all q far) (object_states base q) ∙ start q apart;
  }
    where
      went : (q : Path) → has_staging q ≡ false → object_states u q ≡ after_two t texts q (object_states base q)
      went q plain = step (two t texts) e q plain ∙ object_states_two t texts 0 base q

  come_one : take k all ≡ one t texts → HasCome t u texts
  come_one e = record {
    group = inr (went group_path refl ∙ ap (own_new t group_path 420 (Some texts.group)) (start group_path refl));
    gshadow = inl (went gshadow_path refl ∙ start gshadow_path refl);
    shadow = inl (went shadow_path refl ∙ start shadow_path refl);
    passwd = inl (went passwd_path refl ∙ start passwd_path refl);
    beside = λ q plain apart far. went q plain ∙ one_beside t texts q (beside_all q far) (object_states base q) ∙ start q apart;
  }
    where
      went : (q : Path) → has_staging q ≡ false → object_states u q ≡ after_one t texts q (object_states base q)
      went q plain = step (one t texts) e q plain ∙ object_states_one t texts 0 base q

  come_none : take k all ≡ [] → HasCome t u texts
  come_none e = record {
    group = inl (step [] e group_path refl ∙ start group_path refl);
    gshadow = inl (step [] e gshadow_path refl ∙ start gshadow_path refl);
    shadow = inl (step [] e shadow_path refl ∙ start shadow_path refl);
    passwd = inl (step [] e passwd_path refl ∙ start passwd_path refl);
    beside = λ q plain apart far. step [] e q plain ∙ start q apart;
  }

  -- a run that was stopped has come some way
  pub come : HasCome t u texts
  come = from_all (take_cases k (three t texts) (edit_at t passwd_path 420 texts.passwd) (short_edit t passwd_path 420 texts.passwd))
    where
      from_one : take k all ≡ take k (one t texts) → (take k (one t texts) ≡ take k no_edits) ⊎ (take k (one t texts) ≡ one t texts) → HasCome t u texts
      from_one e (inl d) = come_none (e ∙ d ∙ none_taken k)
      from_one e (inr d) = come_one (e ∙ d)

      from_two : take k all ≡ take k (two t texts) → (take k (two t texts) ≡ take k (one t texts)) ⊎ (take k (two t texts) ≡ two t texts) → HasCome t u texts
      from_two e (inl d) = from_one (e ∙ d) (take_cases k [] (one t texts) (short_edit t group_path 420 texts.group))
      from_two e (inr d) = come_two (e ∙ d)

      from_three : take k all ≡ take k (three t texts) → (take k (three t texts) ≡ take k (two t texts)) ⊎ (take k (three t texts) ≡ three t texts) → HasCome t u texts
      from_three e (inl d) = from_two (e ∙ d) (take_cases k (one t texts) (own_edits t gshadow_path 0 texts.gshadow) (short_own t gshadow_path 0 texts.gshadow))
      from_three e (inr d) = come_three (e ∙ d)

      from_all : (take k all ≡ take k (three t texts)) ⊎ (take k all ≡ all) → HasCome t u texts
      from_all (inl e) = from_three e (take_cases k (two t texts) (edit_at t shadow_path 0 texts.shadow) (short_edit t shadow_path 0 texts.shadow))
      from_all (inr e) = come_all e

-- ---- the object at the paths of the account files

module _ (t u : Places) (path : Path) (mode : ℕ) where
  text_seen : (a : Option Object) → object_states u path ≡ option_map object_state a → text_at u path ≡ option_map (λ o. o.payload) a
  text_seen a e = seen (λ o. o.payload) (λ o. refl) (u path) a e

  uid_seen : (a : Option Object) → object_states u path ≡ option_map object_state a → uid_in (u path) ≡ uid_in a
  uid_seen a e = seen_or (λ o. o.node.uid) 0 (λ o. refl) (u path) a e

  new_uid : (text : List ℕ) → uid_in (Some (edited 0 (edit_to t path mode text))) ≡ uid_in (t path)
  new_uid text = by (t path)
    where
      by : (o : Option Object) → (option_map_or (λ x. (object_state_of x).metadata) o (plain_metadata mode)).uid ≡ uid_in o
      by None = refl
      by (Some x) = refl

  -- its owner stays
  pub owner_as : (text : Option (List ℕ)) → IsAs t u path mode text → uid_in (u path) ≡ uid_in (t path)
  owner_as text (inl e) = uid_seen (t path) e
  owner_as None (inr e) = uid_seen (t path) e
  owner_as (Some text) (inr e) = by (same_bytes text (unwrap_or (text_at t path) [])) e
    where
      by : (b : Bool) → object_states u path ≡ (if b then object_states t path else new_object_state t path mode text) → uid_in (u path) ≡ uid_in (t path)
      by true k = uid_seen (t path) k
      by false k = uid_seen (Some (edited 0 (edit_to t path mode text))) k ∙ new_uid text

  kind_seen : (a : Option Object) → object_states u path ≡ option_map object_state a → kind_of (u path) ≡ kind_of a
  kind_seen a e = kind_of-same (u path) a e

  -- its kind stays, or it is a file
  pub kind_as : (text : Option (List ℕ)) → IsAs t u path mode text → (kind_of (u path) ≡ kind_of (t path)) ⊎ (kind_of (u path) ≡ Some File)
  kind_as text (inl e) = inl (kind_seen (t path) e)
  kind_as None (inr e) = inl (kind_seen (t path) e)
  kind_as (Some text) (inr e) = by (same_bytes text (unwrap_or (text_at t path) [])) e
    where
      by : (b : Bool) → object_states u path ≡ (if b then object_states t path else new_object_state t path mode text) → (kind_of (u path) ≡ kind_of (t path)) ⊎ (kind_of (u path) ≡ Some File)
      by true k = inl (kind_seen (t path) k)
      by false k = inr (kind_seen (Some (edited 0 (edit_to t path mode text))) k)

  -- a new file has the new text
  pub text_new : (text : List ℕ) → object_states u path ≡ own_new t path mode (Some text) (object_states t path) → unwrap_or (text_at u path) [] ≡ text
  text_new text e = by (same_bytes text (unwrap_or (text_at t path) [])) refl e
    where
      by : (b : Bool) → same_bytes text (unwrap_or (text_at t path) []) ≡ b → object_states u path ≡ (if b then object_states t path else new_object_state t path mode text) → unwrap_or (text_at u path) [] ≡ text
      by true d k = ap (λ o. unwrap_or o []) (text_seen (t path) k) ∙ sym ((same_bytes-decides text (unwrap_or (text_at t path) [])).0 d)
      by false d k = ap (λ o. unwrap_or o []) (text_seen (Some (edited 0 (edit_to t path mode text))) k)

  -- one that may be absent is as it was, or has it
  pub own_text_new : (text : List ℕ) → object_states u path ≡ own_new t path mode (Some text) (object_states t path) → (text_at u path ≡ text_at t path) ⊎ (text_at u path ≡ Some text)
  own_text_new text e = by (same_bytes text (unwrap_or (text_at t path) [])) e
    where
      by : (b : Bool) → object_states u path ≡ (if b then object_states t path else new_object_state t path mode text) → (text_at u path ≡ text_at t path) ⊎ (text_at u path ≡ Some text)
      by true k = inl (text_seen (t path) k)
      by false k = inr (text_seen (Some (edited 0 (edit_to t path mode text))) k)

  -- and where it was there, it has it
  pub there_text_new : (old text : List ℕ) → text_at t path ≡ Some old → object_states u path ≡ own_new t path mode (Some text) (object_states t path) → text_at u path ≡ Some text
  there_text_new old text was e = by (same_bytes text (unwrap_or (text_at t path) [])) refl e
    where
      by : (b : Bool) → same_bytes text (unwrap_or (text_at t path) []) ≡ b → object_states u path ≡ (if b then object_states t path else new_object_state t path mode text) → text_at u path ≡ Some text
      by true d k =
          text_seen (t path) k ∙ was
          ∙ ap (λ (x : List ℕ). Some x) (sym ((same_bytes-decides text (unwrap_or (text_at t path) [])).0 d ∙ ap (λ o. unwrap_or o []) was))
      by false d k = text_seen (Some (edited 0 (edit_to t path mode text))) k

  -- an edit made of what is the same leaves the same
  own_same : (text : Option (List ℕ)) → object_states u path ≡ object_states t path → own_new u path mode text (object_states u path) ≡ own_new t path mode text (object_states t path)
  own_same None e = e
  own_same (Some text) e = λ i.
      if same_bytes text (unwrap_or (text_seen (t path) e i) []) then e i
      else option_map object_state (Some (edited 0 (record { path = path; text = text; metadata = seen_or (λ o. (object_state_of o).metadata) (plain_metadata mode) (λ o. refl) (u path) (t path) e i })))

  -- and so does one that is made again
  pub own_again : (text : Option (List ℕ)) → IsAs t u path mode text → own_new u path mode text (object_states u path) ≡ own_new t path mode text (object_states t path)
  own_again text (inl e) = own_same text e
  own_again None (inr e) = e
  own_again (Some text) (inr e) = by (same_bytes text (unwrap_or (text_at t path) [])) refl e
    where
      by : (b : Bool) → same_bytes text (unwrap_or (text_at t path) []) ≡ b → object_states u path ≡ (if b then object_states t path else new_object_state t path mode text)
          → own_new u path mode (Some text) (object_states u path) ≡ own_new t path mode (Some text) (object_states t path)
      by true d k = own_same (Some text) k
      by false d k =
          ap (λ b. if b then object_states u path else new_object_state u path mode text)
          (ap (λ o. same_bytes text (unwrap_or o [])) (text_seen (Some (edited 0 (edit_to t path mode text))) k) ∙ same_bytes-refl text)
          ∙ k ∙ sym (ap (λ b. if b then object_states t path else new_object_state t path mode text) d)
