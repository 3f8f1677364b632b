-- Laws of runs that make accounts, from what such a run says of itself: what it leaves, says and does, and how it ends.
use Rattle.std.specs.Prelude.{◌≡◌, ℕ, ◌+◌, Bool, List, [], ◌∷◌, ◌++◌, length, Option, Some, None, Result, Ok, Err, OnOk, IfOk, IfErr, IsErrOf}
use Rattle.std.specs.Option.{option_map_or}
use Rattle.std.proofs.Common.{refl, sym, ap, subst, ◌∙◌, append-nil, append_assoc, arith, inl, inr, length-append}
use Rattle.pv_sysusers.specs.Accounted.{accounted, accounted_unless, accounts_messages, carried_files, edits_at, is_unusable, lacking_at, unusable_texts}
use Rattle.pv_sysusers.specs.FileWriting.{AccountWay, IsAccountStep, most_put, swept_names}
use Rattle.pv_sysusers.specs.Running.{IfLacking, Lacks, in_steps}
use Rattle.pv_sysusers.specs.declared.accounts_fault.AccountsFault.{AccountsFault}
use Rattle.pv_sysusers.specs.declared.accounts_fault.AccountsFault.TheVariants as fault
use Rattle.pv_read_config.specs.Requested.{requested}
use Rattle.pv_steps.specs.Courses.{carried_of}
use Rattle.pv_steps.specs.declared.carried.Carried.{Carried}
use Rattle.pv_requests.specs.declared.request.Request.{Request}
use Rattle.pv_steps.specs.declared.step.Step.{Step}
use Rattle.pv_steps.specs.declared.tree.Tree.{Ghosts}
use Rattle.pv_steps.specs.declared.tree.TreeFault.{TreeFault}
use Rattle.pv_steps.specs.declared.tree.TreeFault.TheVariants.{Failed, Memory}
use Rattle.pv_steps.specs.Counting.{refused, faults_after}
use Rattle.pv_steps.proofs.ActingLaws.{failed_refuses, refuses_failed}
use Rattle.pv_steps.specs.Acting.{Acted}
use Rattle.pv_steps.specs.Runs.{after_all}
use Rattle.pv_steps.specs.Trees.{Files, places}
use Rattle.pv_text.specs.Facts.{Values}
use Rattle.pv_text.specs.GivenMessages.{MessagesPart}
use Rattle.pv_walk.specs.Staging.{count_at_all}
use Rattle.pv_words.specs.declared.options.Options.{Options}
use Rattle.provision_run.specs.declared.ending.RunEnd.{RunEnd}
use Rattle.provision_run.specs.declared.ending.RunEnd.TheVariants.{NoFreeId}
use Rattle.provision_run.specs.Ending.{end_of, is_uncarried}
use Rattle.provision_run.specs.Accounts.{account_messages, accounts_end, accounts_end_by, IsEnded, lacking_text, run_lacking, run_requests}
use Rattle.pv_text.proofs.MessagesLaws.{messages_first, messages_then, messages_whole}

-- ---- answers

on_any : {A E P : Type 0} (r : Result A E) → P → OnOk r P
on_any (Ok x) p = p
on_any (Err e) p = tt

on_err : {A E : Type 0} (P : Type 0) (r : Result A E) (e : E) → r ≡ Err e → OnOk r P
on_err P r e is = subst (λ x. OnOk x P) (sym is) tt

if_err : {A E : Type 0} (P : A → Type 0) (r : Result A E) (e : E) → r ≡ Err e → IfOk r P
if_err P r e is = subst (λ x. IfOk x P) (sym is) tt

-- an answer that refuses as much as another
acted_as : {S A B : Type 0} (tree : Ghosts S) {P : Files → Type 0} {Q : Step → Type 0} {most now : ℕ} {a b : S} (q : Result A TreeFault) (r : Result B TreeFault)
    → refused r ≡ refused q → Acted tree P Q most now a b q → Acted tree P Q most now a b r
acted_as tree {a = a} q r same acted = record {
  ran = acted.ran;
  bound = omega (arith, same, acted.bound);
  reaches = acted.reaches;
  counted = acted.counted ∙ ap (λ k. faults_after k (tree.faults a)) (sym same);
  last = λ failed. acted.last (refuses_failed q (sym same ∙ failed_refuses r failed));
}

none_of : (xs : List Step) → length xs ≡ 0 → xs ≡ []
none_of [] e = refl
none_of (x ∷ xs) e = absurd (omega (arith, e))

-- ---- what a run says of itself

pub record Finished {S : Type 0} (tree : Ghosts S) (requests : List Request) (now : ℕ) (a b : S) (old new : List (List ℕ)) (answer : Result Carried AccountsFault) : Type 0 where
  pub ok : OnOk answer (tree.state b ≡ accounted requests now (tree.state a))
  pub new_messages : OnOk answer (new ≡ old ++ accounts_messages requests now (places (tree.state a)))
  pub carried : IfOk answer (λ c. c ≡ carried_of (is_unusable (places (tree.state a))))
  pub enough : OnOk answer (lacking_at requests now (places (tree.state a)) ≡ None)
  pub lacking : IfErr answer (Lacks (lacking_at requests now (places (tree.state a))))
  pub lacking_messages : IfLacking answer (new ≡ old ++ accounts_messages requests now (places (tree.state a)))
  pub lacking_idle : IfLacking answer (tree.steps b ≡ tree.steps a)
  pub failed_enough : IsErrOf answer fault.Failed → lacking_at requests now (places (tree.state a)) ≡ None
  pub failed_messages : IsErrOf answer fault.Failed → new ≡ old ++ accounts_messages requests now (places (tree.state a))
  pub part : MessagesPart (accounts_messages requests now (places (tree.state a))) old new
  pub acted : Acted tree (AccountWay (edits_at requests now (places (tree.state a))) (tree.state a)) (IsAccountStep (edits_at requests now (places (tree.state a))) (tree.state a))
      (count_at_all (tree.state a) swept_names + most_put (edits_at requests now (places (tree.state a))) (places (tree.state a))) now a b (in_steps answer)

module _ (options : Options) (facts : Values) (moment : ℕ) (t : Files) where
  -- where a number is left for each name, no more is said than of lines and files
  none_lacks : run_lacking options facts moment t ≡ None → accounts_messages (run_requests options facts t) moment (places t) ≡ account_messages options facts moment t
  none_lacks none =
      let new_messages = accounts_messages (run_requests options facts t) moment (places t) in
      sym (ap (λ (o : Option (List ℕ)). new_messages ++ option_map_or (λ name. lacking_text name ∷ []) o []) none ∙ append-nil new_messages)

  none_ends : run_lacking options facts moment t ≡ None
      → end_of (is_uncarried (carried_of (is_unusable (places t))) (requested t facts options.words).missing) (requested t facts options.words).invalid ≡ accounts_end options facts moment t
  none_ends none =
      ap
      (λ (o : Option (List ℕ)).
      accounts_end_by o (is_uncarried (carried_of (is_unusable (places t))) (requested t facts options.words).missing) (requested t facts options.words).invalid)
      (sym none)

  module _ (name : List ℕ) (lacks : run_lacking options facts moment t ≡ Some name) where
    -- else the name is told last
    one_lacks : accounts_messages (run_requests options facts t) moment (places t) ++ lacking_text name ∷ [] ≡ account_messages options facts moment t
    one_lacks =
        let new_messages = accounts_messages (run_requests options facts t) moment (places t) in
        sym (ap (λ (o : Option (List ℕ)). new_messages ++ option_map_or (λ n. lacking_text n ∷ []) o []) lacks)

    one_ends : NoFreeId name ≡ accounts_end options facts moment t
    one_ends =
        ap
        (λ (o : Option (List ℕ)).
        accounts_end_by o (is_uncarried (carried_of (is_unusable (places t))) (requested t facts options.words).missing) (requested t facts options.words).invalid)
        (sym lacks)

    -- and the tree is as it was
    one_left : t ≡ accounted (run_requests options facts t) moment t
    one_left = by (unusable_texts (places t)) (run_lacking options facts moment t) lacks
      where
        rest : Files
        rest = carried_files moment (edits_at (run_requests options facts t) moment (places t)) t

        by : (texts : List (List ℕ)) (o : Option (List ℕ)) → o ≡ Some name → t ≡ accounted_unless texts o t rest
        by [] None is = absurd (let no : None ≡ Some name = is in cc)
        by [] (Some other) is = refl
        by (text ∷ texts) None is = refl
        by (text ∷ texts) (Some other) is = refl

module _ {S : Type 0} (tree : Ghosts S) (options : Options) (facts : Values) (moment : ℕ) (a b : S) (old mid v new : List (List ℕ)) (missing invalid : Bool) where
  module _ (read : mid ≡ old ++ (requested (tree.state a) facts options.words).messages) where
    -- what it leaves
    pub ended_ok : (answer : Result Carried AccountsFault) (r : Result RunEnd TreeFault) → Finished tree (run_requests options facts (tree.state a)) moment a b mid v answer → IsEnded answer missing invalid r v new
        → OnOk r (tree.state b ≡ accounted (run_requests options facts (tree.state a)) moment (tree.state a))
    ended_ok (Ok c) r f e = on_any r f.ok
    ended_ok (Err (fault.NoFreeId name)) r f e =
        let ran = f.acted.ran in
        let stated : tree.steps b ≡ tree.steps a ++ ran.steps = ran.recorded in
        let count : length (tree.steps b) ≡ length (tree.steps a ++ ran.steps) = ap length stated in
        let idle : length (tree.steps b) ≡ length (tree.steps a) = ap length f.lacking_idle in
        let none : ran.steps ≡ [] = none_of ran.steps (omega (arith, count, idle, length-append (tree.steps a) ran.steps)) in
        on_any r (ran.reached ∙ ap (λ (steps : List Step). after_all (tree.state a) steps moment) none ∙ one_left options facts moment (tree.state a) name f.lacking)
    ended_ok (Err fault.Failed) r f e = on_err (tree.state b ≡ accounted (run_requests options facts (tree.state a)) moment (tree.state a)) r Failed e.0
    ended_ok (Err fault.Memory) r f e = on_err (tree.state b ≡ accounted (run_requests options facts (tree.state a)) moment (tree.state a)) r Memory e.0

    -- what it says
    pub ended_messages : (answer : Result Carried AccountsFault) (r : Result RunEnd TreeFault) → Finished tree (run_requests options facts (tree.state a)) moment a b mid v answer → IsEnded answer missing invalid r v new
        → OnOk r (new ≡ old ++ (requested (tree.state a) facts options.words).messages ++ account_messages options facts moment (tree.state a))
    ended_messages (Ok c) r f e =
        on_any r
        (e.1 ∙ f.new_messages ∙ ap (λ (m : List (List ℕ)). m ++ accounts_messages (run_requests options facts (tree.state a)) moment (places (tree.state a))) read
        ∙ ap (λ (m : List (List ℕ)). old ++ (requested (tree.state a) facts options.words).messages ++ m) (none_lacks options facts moment (tree.state a) f.enough))
    ended_messages (Err (fault.NoFreeId name)) r f (inl e) =
        on_any r
        (e.1 ∙ ap (λ (m : List (List ℕ)). m ++ lacking_text name ∷ []) f.lacking_messages
        ∙ append_assoc mid (accounts_messages (run_requests options facts (tree.state a)) moment (places (tree.state a))) (lacking_text name ∷ [])
        ∙ ap (λ (m : List (List ℕ)). mid ++ m) (one_lacks options facts moment (tree.state a) name f.lacking)
        ∙ ap (λ (m : List (List ℕ)). m ++ account_messages options facts moment (tree.state a)) read)
    ended_messages (Err (fault.NoFreeId name)) r f (inr e) = on_err (new ≡ old ++ (requested (tree.state a) facts options.words).messages ++ account_messages options facts moment (tree.state a)) r Memory e.0
    ended_messages (Err fault.Failed) r f e = on_err (new ≡ old ++ (requested (tree.state a) facts options.words).messages ++ account_messages options facts moment (tree.state a)) r Failed e.0
    ended_messages (Err fault.Memory) r f e = on_err (new ≡ old ++ (requested (tree.state a) facts options.words).messages ++ account_messages options facts moment (tree.state a)) r Memory e.0

    first_part : MessagesPart (accounts_messages (run_requests options facts (tree.state a)) moment (places (tree.state a))) mid v → new ≡ v → MessagesPart (account_messages options facts moment (tree.state a)) mid new
    first_part part same =
        subst (λ (m : List (List ℕ)). MessagesPart (account_messages options facts moment (tree.state a)) mid m) (sym same)
        (messages_first (accounts_messages (run_requests options facts (tree.state a)) moment (places (tree.state a)))
        (option_map_or (λ name. lacking_text name ∷ []) (run_lacking options facts moment (tree.state a)) []) mid v part)

    ended_front : (answer : Result Carried AccountsFault) (r : Result RunEnd TreeFault) → Finished tree (run_requests options facts (tree.state a)) moment a b mid v answer → IsEnded answer missing invalid r v new
        → MessagesPart (account_messages options facts moment (tree.state a)) mid new
    ended_front (Ok c) r f e = first_part f.part e.1
    ended_front (Err (fault.NoFreeId name)) r f (inl e) =
        messages_whole (account_messages options facts moment (tree.state a)) mid new
        (e.1 ∙ ap (λ (m : List (List ℕ)). m ++ lacking_text name ∷ []) f.lacking_messages
        ∙ append_assoc mid (accounts_messages (run_requests options facts (tree.state a)) moment (places (tree.state a))) (lacking_text name ∷ [])
        ∙ ap (λ (m : List (List ℕ)). mid ++ m) (one_lacks options facts moment (tree.state a) name f.lacking))
    ended_front (Err (fault.NoFreeId name)) r f (inr e) = first_part f.part e.1
    ended_front (Err fault.Failed) r f e = first_part f.part e.1
    ended_front (Err fault.Memory) r f e = first_part f.part e.1

    pub ended_part : (answer : Result Carried AccountsFault) (r : Result RunEnd TreeFault) → Finished tree (run_requests options facts (tree.state a)) moment a b mid v answer → IsEnded answer missing invalid r v new
        → MessagesPart ((requested (tree.state a) facts options.words).messages ++ account_messages options facts moment (tree.state a)) old new
    ended_part answer r f e =
        messages_then (requested (tree.state a) facts options.words).messages (account_messages options facts moment (tree.state a)) old mid new read (ended_front answer r f e)

    -- where a step was refused all is said
    pub ended_stopped : (answer : Result Carried AccountsFault) (r : Result RunEnd TreeFault) → Finished tree (run_requests options facts (tree.state a)) moment a b mid v answer → IsEnded answer missing invalid r v new
        → r ≡ Err Failed → new ≡ old ++ (requested (tree.state a) facts options.words).messages ++ account_messages options facts moment (tree.state a)
    ended_stopped (Ok c) r f e failed = absurd (let no : Ok (end_of (is_uncarried c missing) invalid) ≡ Err Failed = sym e.0 ∙ failed in cc)
    ended_stopped (Err (fault.NoFreeId name)) r f (inl e) failed = absurd (let no : Ok (NoFreeId name) ≡ Err Failed = sym e.0 ∙ failed in cc)
    ended_stopped (Err (fault.NoFreeId name)) r f (inr e) failed = absurd (let no : ◌≡◌ {A = Result RunEnd TreeFault} (Err Memory) (Err Failed) = sym e.0 ∙ failed in cc)
    ended_stopped (Err fault.Failed) r f e failed =
        e.1 ∙ f.failed_messages refl ∙ ap (λ (m : List (List ℕ)). m ++ accounts_messages (run_requests options facts (tree.state a)) moment (places (tree.state a))) read
        ∙ ap (λ (m : List (List ℕ)). old ++ (requested (tree.state a) facts options.words).messages ++ m) (none_lacks options facts moment (tree.state a) (f.failed_enough refl))
    ended_stopped (Err fault.Memory) r f e failed = absurd (let no : ◌≡◌ {A = Result RunEnd TreeFault} (Err Memory) (Err Failed) = sym e.0 ∙ failed in cc)

  -- how it ends
  pub ended_end : (answer : Result Carried AccountsFault) (r : Result RunEnd TreeFault) → missing ≡ (requested (tree.state a) facts options.words).missing → invalid ≡ (requested (tree.state a) facts options.words).invalid
      → Finished tree (run_requests options facts (tree.state a)) moment a b mid v answer → IsEnded answer missing invalid r v new → IfOk r (λ end. end ≡ accounts_end options facts moment (tree.state a))
  ended_end (Ok c) r m i f e =
      subst (λ x. IfOk x (λ end. end ≡ accounts_end options facts moment (tree.state a))) (sym e.0)
      (ap (λ k. end_of (is_uncarried k missing) invalid) f.carried
      ∙ ap (λ n. end_of (is_uncarried (carried_of (is_unusable (places (tree.state a)))) n) invalid) m
      ∙ ap (λ n. end_of (is_uncarried (carried_of (is_unusable (places (tree.state a)))) (requested (tree.state a) facts options.words).missing) n) i
      ∙ none_ends options facts moment (tree.state a) f.enough)
  ended_end (Err (fault.NoFreeId name)) r m i f (inl e) =
      subst (λ x. IfOk x (λ end. end ≡ accounts_end options facts moment (tree.state a))) (sym e.0) (one_ends options facts moment (tree.state a) name f.lacking)
  ended_end (Err (fault.NoFreeId name)) r m i f (inr e) = if_err (λ end. end ≡ accounts_end options facts moment (tree.state a)) r Memory e.0
  ended_end (Err fault.Failed) r m i f e = if_err (λ end. end ≡ accounts_end options facts moment (tree.state a)) r Failed e.0
  ended_end (Err fault.Memory) r m i f e = if_err (λ end. end ≡ accounts_end options facts moment (tree.state a)) r Memory e.0

-- what it does
pub ended_acted : {S : Type 0} (tree : Ghosts S) {P : Files → Type 0} {Q : Step → Type 0} {most now : ℕ} {a b : S} (v new : List (List ℕ)) (missing invalid : Bool) (answer : Result Carried AccountsFault)
    (r : Result RunEnd TreeFault) → IsEnded answer missing invalid r v new → Acted tree P Q most now a b (in_steps answer) → Acted tree P Q most now a b r
ended_acted tree v new missing invalid (Ok c) r e acted =
    acted_as tree (Ok c) r (ap (λ x. refused x) e.0) acted
ended_acted tree v new missing invalid (Err (fault.NoFreeId name)) r (inl e) acted =
    acted_as {A = Carried} tree (Err Memory) r (ap (λ x. refused x) e.0) acted
ended_acted tree v new missing invalid (Err (fault.NoFreeId name)) r (inr e) acted =
    acted_as {A = Carried} tree (Err Memory) r (ap (λ x. refused x) e.0) acted
ended_acted tree v new missing invalid (Err fault.Failed) r e acted = acted_as {A = Carried} tree (Err Failed) r (ap (λ x. refused x) e.0) acted
ended_acted tree v new missing invalid (Err fault.Memory) r e acted =
    acted_as {A = Carried} tree (Err Memory) r (ap (λ x. refused x) e.0) acted
