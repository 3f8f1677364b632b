-- Laws of a run: the tree that it leaves as a map, and what its answer says.
use Rattle.std.specs.Prelude.{◌≡◌, ◌⊎◌, ℕ, ◌≤◌, Bool, true, false, cond, List, [], ◌∷◌, ◌++◌, length, map, fold, Option, Some, None, is_some, Result, Ok, Err, OnOk}
use Rattle.std.proofs.Common.{refl, sym, ap, subst, ◌∙◌, arith, inl, inr}
use Rattle.std.specs.FinMap as fin
use Rattle.pv_path.specs.Paths.{Path, same_path, is_prefix}
use Rattle.pv_path.proofs.PathLaws.{same_path-refl}
use Rattle.std.proofs.lemmas.Bool.{or_right}
use Rattle.pv_steps.specs.declared.object.Object.{Object}
use Rattle.pv_steps.specs.declared.tree.TreeFault.{TreeFault}
use Rattle.pv_steps.specs.declared.tree.TreeFault.TheVariants as step
use Rattle.pv_steps.specs.Trees.{Files, Places, places}
use Rattle.pv_steps.specs.Steps.{made, put_at, touched}
use Rattle.pv_steps.proofs.StepLaws.{same_files, is_among, places-tabulate, among_keys, is_some-touched}
use Rattle.pv_walk.specs.Edits.{all_taken, cut, taken}
use Rattle.pv_walk.proofs.EditLaws.{path_cases, put_at-else}
use Rattle.pv_walk.specs.Preparing.{parent_file}
use Rattle.pv_walk.specs.Staging.{new_object}
use Rattle.pv_steps.specs.declared.carried.Carried.{Carried}
use Rattle.pv_sysusers.specs.declared.edit.Edit.{Edit}
use Rattle.pv_sysusers.specs.declared.accounts_fault.AccountsFault.{AccountsFault}
use Rattle.pv_sysusers.specs.declared.accounts_fault.AccountsFault.TheVariants.{Failed, Memory}
use Rattle.pv_sysusers.specs.Edits.{edited, with_edit}
use Rattle.pv_layers.specs.Places.{etc}
use Rattle.pv_sysusers.specs.FileWriting.{carried_out, swept_names, with_directory}
use Rattle.pv_requests.specs.declared.request.Request.{Request}
use Rattle.pv_sysusers.specs.Lines.{lines_from, duplicate_messages}
use Rattle.pv_sysusers.specs.Accounted.{accounted, accounted_unless, carried_files, edits_at, edits_by, edits_unless, lacking_at, lacking_in, lacking_unless, plan_at, messages_unless, unusable_texts}
use Rattle.pv_sysusers.specs.Running.{run_answer}
use Rattle.pv_walk.proofs.PreparedLaws.{among_first}

-- ---- which paths a run leaves present

module _ (now : ℕ) (q : Path) where
  present_made : (p : Path) (o : Object) (t : Places) → is_some (made now p o t q) ≡ true → (p ≡ q) ⊎ (is_some (t q) ≡ true)
  present_made p o t h = by (path_cases p q)
    where
      by : (p ≡ q) ⊎ (same_path p q ≡ false) → (p ≡ q) ⊎ (is_some (t q) ≡ true)
      by (inl e) = inl e
      by (inr d) = inr (sym (is_some-touched now p (put_at p (Some o) t) q ∙ ap is_some (put_at-else p q (Some o) t d)) ∙ h)

  present_taken : (x : Path) (t : Places) → is_some (taken now x t q) ≡ true → is_some (t q) ≡ true
  present_taken x t = by (is_some (t x))
    where
      left : (b : Bool) → is_some (cond b None (t q)) ≡ true → is_some (t q) ≡ true
      left true h = absurd (let no : false ≡ true = h in cc)
      left false h = h

      by : (b : Bool) → is_some (cond b (touched now x (cut x t)) t q) ≡ true → is_some (t q) ≡ true
      by true h = left (is_prefix x q) (sym (is_some-touched now x (cut x t) q) ∙ h)
      by false h = h

  present_all_taken : (xs : List Path) (t : Places) → is_some (all_taken now xs t q) ≡ true → is_some (t q) ≡ true
  present_all_taken [] t h = h
  present_all_taken (x ∷ xs) t h = present_taken x t (present_all_taken xs (taken now x t) h)

  present_directory : (cs : List Edit) (t : Places) → is_some (with_directory now cs t q) ≡ true → (etc ≡ q) ⊎ (is_some (t q) ≡ true)
  present_directory [] t h = inr h
  present_directory (c ∷ cs) t h = by (is_some (t etc)) h
    where
      by : (b : Bool) → is_some (cond b t (made now etc (new_object parent_file now) t) q) ≡ true → (etc ≡ q) ⊎ (is_some (t q) ≡ true)
      by true h = inr h
      by false h = present_made etc (new_object parent_file now) t h

  present_edits : (cs : List Edit) (t : Places) (keys : List Path) → is_some (fold (with_edit now) t cs q) ≡ true → (is_some (t q) ≡ true → is_among q keys ≡ true)
      → is_among q (map (λ edit. edit.path) cs ++ keys) ≡ true
  present_edits [] t keys h there = there h
  present_edits (c ∷ cs) t keys h there = by (path_cases c.path q) (present_edits cs (with_edit now t c) keys h)
    where
      before : same_path c.path q ≡ false → is_some (with_edit now t c q) ≡ true → is_some (t q) ≡ true
      before d g = sym (is_some-touched now c.path (put_at c.path (Some (edited now c)) t) q ∙ ap is_some (put_at-else c.path q (Some (edited now c)) t d)) ∙ g

      by : (c.path ≡ q) ⊎ (same_path c.path q ≡ false) → ((is_some (with_edit now t c q) ≡ true → is_among q keys ≡ true) → is_among q (map (λ edit. edit.path) cs ++ keys) ≡ true)
          → is_among q (c.path ∷ map (λ edit. edit.path) cs ++ keys) ≡ true
      by (inl e) rest = subst (λ (p : Path). is_among q (p ∷ map (λ edit. edit.path) cs ++ keys) ≡ true) (sym e) (among_first q (map (λ edit. edit.path) cs ++ keys))
      by (inr d) rest = or_right _ (is_among q (map (λ edit. edit.path) cs ++ keys)) (rest (λ g. there (before d g)))

  pub present_run : (cs : List Edit) (t : Files) → is_some (carried_out now cs (places t) q) ≡ true → is_among q (etc ∷ map (λ edit. edit.path) cs ++ fin.keys t) ≡ true
  present_run cs t h = by (path_cases etc q)
    where
      by : (etc ≡ q) ⊎ (same_path etc q ≡ false) → is_among q (etc ∷ map (λ edit. edit.path) cs ++ fin.keys t) ≡ true
      by (inl e) = subst (λ (p : Path). is_among q (p ∷ map (λ edit. edit.path) cs ++ fin.keys t) ≡ true) (sym e) (among_first q (map (λ edit. edit.path) cs ++ fin.keys t))
      by (inr d) = or_right _ (is_among q (map (λ edit. edit.path) cs ++ fin.keys t))
          (present_edits cs (with_directory now cs (all_taken now swept_names (places t))) (fin.keys t) h (λ g. known (present_directory cs (all_taken now swept_names (places t)) g)))
        where
          known : (etc ≡ q) ⊎ (is_some (all_taken now swept_names (places t) q) ≡ true) → is_among q (fin.keys t) ≡ true
          known (inl e) = absurd (let no : true ≡ false = sym (same_path-refl etc) ∙ ap (same_path etc) e ∙ d in cc)
          known (inr g) = among_keys t q ∙ present_all_taken swept_names (places t) g

-- the tree that a run leaves, as a map
pub carried_map : (now : ℕ) (cs : List Edit) (t u : Files) → places u ≡ carried_out now cs (places t) → u ≡ carried_files now cs t
carried_map now cs t u is = same_files u (carried_files now cs t) (λ q.
    ap (λ (x : Places). x q) is ∙ sym (places-tabulate (etc ∷ map (λ edit. edit.path) cs ++ fin.keys t) (carried_out now cs (places t)) q (present_run now q cs t)))

-- ---- where all files can be used, and where some file cannot

pub usable_accounted : (xs : List (List ℕ)) (lacking : Option (List ℕ)) (edits : List Edit) (now : ℕ) (t : Files) → xs ≡ [] → lacking ≡ None
    → accounted_unless xs (lacking_unless xs lacking) t (carried_files now (edits_unless xs edits) t) ≡ carried_files now edits t
usable_accounted xs lacking edits now t e none =
    ap (λ (ys : List (List ℕ)). accounted_unless ys (lacking_unless ys lacking) t (carried_files now (edits_unless ys edits) t)) e
    ∙ ap (λ (l : Option (List ℕ)). accounted_unless [] l t (carried_files now edits t)) none

-- where all files can be used, an answered run leaves what is to be left
pub ok_accounted : (requests : List Request) (now : ℕ) (t : Files) → unusable_texts (places t) ≡ [] → {A B : Type 0} (r : Result A B) (u : Files)
    → OnOk r (lacking_in (plan_at requests now (places t)).texts ≡ None)
    → OnOk r (u ≡ carried_files now (edits_by (places t) (plan_at requests now (places t)).texts) t)
    → OnOk r (u ≡ accounted requests now t)
ok_accounted requests now t none (Ok x) u enough is =
    let plan = plan_at requests now (places t) in
    is ∙ sym (usable_accounted (unusable_texts (places t)) (lacking_in plan.texts) (edits_by (places t) plan.texts) now t none enough)
ok_accounted requests now t none (Err e) u enough is = tt

pub some_unless : (xs : List (List ℕ)) (lacking : Option (List ℕ)) (t u : Files) → 1 ≤ length xs → accounted_unless xs lacking t u ≡ t
some_unless [] lacking t u h = absurd (omega (arith, h))
some_unless (x ∷ xs) lacking t u h = refl

-- where some file cannot be used, the tree is to stay
pub some_accounted : (requests : List Request) (now : ℕ) (t : Files) → 1 ≤ length (unusable_texts (places t)) → t ≡ accounted requests now t
some_accounted requests now t h =
    sym (some_unless (unusable_texts (places t)) (lacking_at requests now (places t)) t (carried_files now (edits_at requests now (places t)) t) h)

pub some_messages : (requests : List Request) (xs new_messages : List (List ℕ)) → 1 ≤ length xs → messages_unless requests xs new_messages ≡ duplicate_messages [] (lines_from [] 0 requests) ++ xs
some_messages requests [] new_messages h = absurd (omega (arith, h))
some_messages requests (x ∷ xs) new_messages h = refl

pub some_lacking : (xs : List (List ℕ)) (lacking : Option (List ℕ)) → 1 ≤ length xs → lacking_unless xs lacking ≡ None
some_lacking [] lacking h = absurd (omega (arith, h))
some_lacking (x ∷ xs) lacking h = refl

pub nil_of : (xs : List (List ℕ)) → length xs ≤ 0 → xs ≡ []
nil_of [] h = refl
nil_of (x ∷ xs) h = absurd (omega (arith, h))

pub on_answer : (r : Result (Unit {0}) TreeFault) (v : Result Carried AccountsFault) → v ≡ run_answer r → {X Y : Type 0} → (X → Y) → OnOk r X → OnOk v Y
on_answer r v e {X} {Y} f h = subst (λ (w : Result Carried AccountsFault). OnOk w Y) (sym e) (by r h)
  where
    by : (r : Result (Unit {0}) TreeFault) → OnOk r X → OnOk (run_answer r) Y
    by (Ok x) h = f h
    by (Err step.Failed) h = tt
    by (Err step.Memory) h = tt
