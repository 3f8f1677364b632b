-- Laws of runs by their task: what a task's own words say holds by the task.
use Rattle.std.specs.Prelude.{◌≡◌, ℕ, Bool, true, false, List, [], ◌∷◌, ◌++◌, length, take, drop, is_some, Result, OnOk, IfOk}
use Rattle.std.proofs.Common.{zero, suc, refl, sym, ap, subst, ◌∙◌, inl, inr, arith}
use Rattle.std.proofs.Math.Seq.{drop-append_seam, drop-length, take-length}
use Rattle.pv_sysusers.specs.Accounted.{accounted}
use Rattle.pv_sysusers.specs.FileWriting.{AccountWay, IsAccountStep}
use Rattle.pv_sysusers.specs.Recovery as accounts
use Rattle.pv_sysusers.specs.Swept as swept
use Rattle.pv_create.specs.OnTheWay.{IsFramed}
use Rattle.provision_run.specs.PhasesOnTheWay.{GiveBy, IsBetweenBy}
use Rattle.pv_steps.specs.Courses.{HasGone}
use Rattle.provision_run.specs.Phases.{RecoversBy, phases_of}
use Rattle.provision_run.specs.PhasesSwept.{IsSweptBy}
use Rattle.pv_steps.specs.Acting.{Acted, refused}
use Rattle.pv_steps.specs.declared.step.Step.{Step}
use Rattle.pv_steps.specs.declared.tree.Tree.{Ghosts}
use Rattle.pv_steps.specs.declared.tree.TreeFault.{TreeFault}
use Rattle.pv_steps.proofs.ActingLaws.{Moves, acted_none}
use Rattle.pv_steps.specs.Trees.{Files}
use Rattle.pv_text.specs.Facts.{Values}
use Rattle.pv_text.specs.GivenMessages.{MessagesPart}
use Rattle.pv_text.specs.declared.tool.Tool.{Tool}
use Rattle.pv_text.specs.declared.tool.Tool.TheVariants.{Tmpfiles, Sysusers}
use Rattle.pv_words.specs.declared.options.Options.{Options}
use Rattle.provision_run.specs.declared.ending.RunEnd.{RunEnd}
use Rattle.provision_run.specs.declared.task.Task.{Task}
use Rattle.provision_run.specs.declared.task.Task.TheVariants.{Phases, Report, Explain, Accounts}
use Rattle.provision_run.specs.Accounts.{account_messages, accounts_end, accounts_work, requests_messages, run_edits, run_requests}
use Rattle.provision_run.specs.Explained.{HasExplained, HasExplainedPart}
use Rattle.provision_run.specs.Framed.{AreAccountsFramed, IsFramedIn}
use Rattle.provision_run.specs.OnTheWay.{IsOnTheWayIn}
use Rattle.provision_run.specs.Phased.{is_phases_step, lines_messages, phase_messages, phased, phases_cut, phases_end, phases_way, phases_work, run_lines}
use Rattle.provision_run.specs.Reported.{HasReported, HasReportedPart, report_end}
use Rattle.provision_run.specs.Rereading.{AccountsRecoverAnew, AreRequestsReread, RecoversAnew, IsReread}
use Rattle.provision_run.specs.Swept.{IsSweptIn}
use Rattle.provision_run.specs.Tasks.{task_by, task_of}
use Rattle.provision_run.specs.Whole.{end_by, final_by, HasMessagesBy, HasMessagesPartBy, HasGoneBy, RecoversAnewIn, RecoversIn, AreMessagesBy, IsCutBy, is_step_by, read_by, way_by, work_by}
use Rattle.pv_path.proofs.Tests.{on_ok}
use Rattle.pv_text.proofs.MessagesLaws.{front_of}

-- what follows a part of a list in a prefix of the whole is a prefix of the rest
after_front : (a b s : List (List ℕ)) (n : ℕ) → a ++ s ≡ take n (a ++ b) → (k : ℕ) × (s ≡ take k b)
after_front [] b s n e = (n, e)
after_front (x ∷ a) b s zero e = absurd cc
after_front (x ∷ a) b s (suc n) e = let rest : a ++ s ≡ take n (a ++ b) = cc in after_front a b s n rest

-- what is said where a step was refused is a prefix of what is said in all
pub front_by : (asked : Task) (options : Options) (facts : Values) (moment : ℕ) (t : Files) (steps : List Step) (new_messages new : List (List ℕ)) → IsCutBy asked options facts moment 1 t steps new_messages
    → new ≡ read_by asked options facts t ++ new_messages → HasMessagesPartBy asked options facts moment t [] new
    → (whole : List (List ℕ)) × (AreMessagesBy asked options facts moment t whole × ((k : ℕ) × (new_messages ≡ take k whole)))
unfolding AreMessagesBy IsCutBy
front_by Phases options facts moment t steps new_messages new cut is (inl part) =
    let whole = phase_messages options facts moment t in
    let front = front_of (read_by Phases options facts t) whole part.0 in
    (whole, (refl, after_front (read_by Phases options facts t) whole new_messages front.0 (sym is ∙ part.1 ∙ front.1)))
front_by Phases options facts moment t steps new_messages new cut is (inr part) =
    (part.0, (part.1.0, after_front (read_by Phases options facts t) part.0 new_messages part.1.1.0 (sym is ∙ part.1.1.1)))
front_by Report options facts moment t steps new_messages new cut is part = absurd (let no : ◌≡◌ {A = ℕ} 1 0 = cut.0 in omega (arith, no))
front_by Explain options facts moment t steps new_messages new cut is part = absurd (let no : ◌≡◌ {A = ℕ} 1 0 = cut.0 in omega (arith, no))
front_by Accounts options facts moment t steps new_messages new cut is part =
    let whole = account_messages options facts moment t in
    (whole, (refl, (length whole, cut ∙ sym (take-length whole))))

module _ (options : Options) (facts : Values) (moment : ℕ) (t : Files) where
  -- ---- phases

  pub phases_left : (k : Task) → Phases ≡ k → (r : Result RunEnd TreeFault) (u : Files) → OnOk r (u ≡ phased options facts moment t) → OnOk r (u ≡ final_by k options facts moment t)
  unfolding final_by
  phases_left k is r u h = subst (λ (j : Task). OnOk r (u ≡ final_by j options facts moment t)) is h

  pub phases_messages : (k : Task) → Phases ≡ k → (r : Result RunEnd TreeFault) (old new : List (List ℕ))
      → OnOk r (new ≡ old ++ lines_messages options facts t ++ phase_messages options facts moment t) → OnOk r (HasMessagesBy k options facts moment t old new)
  unfolding AreMessagesBy read_by
  phases_messages k is r old new h =
      subst (λ (j : Task). OnOk r (HasMessagesBy j options facts moment t old new)) is
      (on_ok r {Y = HasMessagesBy Phases options facts moment t old new} (λ e. (phase_messages options facts moment t, (refl, e))) h)

  pub phases_ended : (k : Task) → Phases ≡ k → (r : Result RunEnd TreeFault) → IfOk r (λ end. end ≡ phases_end options facts moment t) → IfOk r (λ end. end ≡ end_by k options facts moment t)
  unfolding end_by
  phases_ended k is r h = subst (λ (j : Task). IfOk r (λ end. end ≡ end_by j options facts moment t)) is h

  pub phases_staged : (k : Task) → Phases ≡ k → (r : Result RunEnd TreeFault) (u : Files) → OnOk r (IsSweptBy (phases_of options) (run_lines options facts t) moment t u) → OnOk r (IsSweptIn k options facts moment t u)
  unfolding IsSweptIn
  phases_staged k is r u h = subst (λ (j : Task). OnOk r (IsSweptIn j options facts moment t u)) is h

  pub phases_part : (k : Task) → Phases ≡ k → (old new : List (List ℕ)) → MessagesPart (lines_messages options facts t ++ phase_messages options facts moment t) old new → HasMessagesPartBy k options facts moment t old new
  unfolding AreMessagesBy read_by
  phases_part k is old new h =
      subst (λ (j : Task). HasMessagesPartBy j options facts moment t old new) is (inr (phase_messages options facts moment t, (refl, h)))

  pub phases_gone : {S : Type 0} (tree : Ghosts S) (k : Task) → Phases ≡ k → (n : ℕ) (a b : S) (old new : List (List ℕ)) → HasGone tree (phases_cut options facts moment n t) moment a b (old ++ lines_messages options facts t) new
      → HasGoneBy k options facts moment n t (drop (length (tree.steps a)) (tree.steps b)) old new
  unfolding IsCutBy read_by
  phases_gone tree k is n a b old new gone =
      let steps : drop (length (tree.steps a)) (tree.steps b) ≡ gone.steps = ap (drop (length (tree.steps a))) gone.recorded ∙ drop-append_seam (tree.steps a) gone.steps in
      subst (λ (j : Task). HasGoneBy j options facts moment n t (drop (length (tree.steps a)) (tree.steps b)) old new) is
      (gone.texts, (gone.new_messages, subst (λ (v : List Step). phases_cut options facts moment n t v gone.texts) (sym steps) gone.is))

  pub phases_gone_ok : {S : Type 0} (tree : Ghosts S) (k : Task) → Phases ≡ k → (r : Result RunEnd TreeFault) (a b : S) (old new : List (List ℕ)) → OnOk r (HasGone tree (phases_cut options facts moment 0 t) moment a b (old ++ lines_messages options facts t) new)
      → OnOk r (HasGoneBy k options facts moment 0 t (drop (length (tree.steps a)) (tree.steps b)) old new)
  phases_gone_ok tree k is r a b old new h = on_ok r {Y = HasGoneBy k options facts moment 0 t (drop (length (tree.steps a)) (tree.steps b)) old new} (phases_gone tree k is 0 a b old new) h

  pub phases_recovered : (k : Task) → Phases ≡ k → (steps : List Step) → RecoversBy (phases_of options) (run_lines options facts t) moment t steps → RecoversIn k options facts moment t steps
  unfolding RecoversIn
  phases_recovered k is steps h = subst (λ (j : Task). RecoversIn j options facts moment t steps) is h

  pub phases_anew : (k : Task) → Phases ≡ k → (steps : List Step) → IsReread options facts moment t steps → RecoversAnew options facts moment t steps → RecoversAnewIn k options facts moment t steps
  unfolding RecoversAnewIn
  phases_anew k is steps same h = subst (λ (j : Task). RecoversAnewIn j options facts moment t steps) is (same, h)

  pub phases_framed : (k : Task) → Phases ≡ k → (steps : List Step) → IsFramed (run_lines options facts t) moment t steps → IsFramedIn k options facts moment t steps
  unfolding IsFramedIn
  phases_framed k is steps h = subst (λ (j : Task). IsFramedIn j options facts moment t steps) is h

  pub phases_between : (k : Task) → Phases ≡ k → (steps : List Step) → IsBetweenBy (phases_of options) (run_lines options facts t) moment t steps → GiveBy (phases_of options) (run_lines options facts t) moment t steps
      → IsOnTheWayIn k options facts moment t steps
  unfolding IsOnTheWayIn
  phases_between k is steps between gives = subst (λ (j : Task). IsOnTheWayIn j options facts moment t steps) is (between, gives)

  -- ---- accounts

  pub accounts_left : (k : Task) → Accounts ≡ k → (r : Result RunEnd TreeFault) (u : Files) → OnOk r (u ≡ accounted (run_requests options facts t) moment t) → OnOk r (u ≡ final_by k options facts moment t)
  unfolding final_by
  accounts_left k is r u h = subst (λ (j : Task). OnOk r (u ≡ final_by j options facts moment t)) is h

  pub accounts_new_messages : (k : Task) → Accounts ≡ k → (r : Result RunEnd TreeFault) (old new : List (List ℕ))
      → OnOk r (new ≡ old ++ requests_messages options facts t ++ account_messages options facts moment t) → OnOk r (HasMessagesBy k options facts moment t old new)
  unfolding AreMessagesBy read_by
  accounts_new_messages k is r old new h =
      subst (λ (j : Task). OnOk r (HasMessagesBy j options facts moment t old new)) is
      (on_ok r {Y = HasMessagesBy Accounts options facts moment t old new} (λ e. (account_messages options facts moment t, (refl, e))) h)

  pub accounts_ended : (k : Task) → Accounts ≡ k → (r : Result RunEnd TreeFault) → IfOk r (λ end. end ≡ accounts_end options facts moment t) → IfOk r (λ end. end ≡ end_by k options facts moment t)
  unfolding end_by
  accounts_ended k is r h = subst (λ (j : Task). IfOk r (λ end. end ≡ end_by j options facts moment t)) is h

  pub accounts_staged : (k : Task) → Accounts ≡ k → (r : Result RunEnd TreeFault) (u : Files) → OnOk r (swept.LeavesNoStagingName (run_requests options facts t) moment t u) → OnOk r (IsSweptIn k options facts moment t u)
  unfolding IsSweptIn
  accounts_staged k is r u h = subst (λ (j : Task). OnOk r (IsSweptIn j options facts moment t u)) is h

  pub accounts_part : (k : Task) → Accounts ≡ k → (old new : List (List ℕ)) → MessagesPart (requests_messages options facts t ++ account_messages options facts moment t) old new
      → HasMessagesPartBy k options facts moment t old new
  unfolding AreMessagesBy read_by
  accounts_part k is old new h =
      subst (λ (j : Task). HasMessagesPartBy j options facts moment t old new) is (inr (account_messages options facts moment t, (refl, h)))

  pub accounts_gone : (k : Task) → Accounts ≡ k → (n : ℕ) (steps : List Step) (old new : List (List ℕ)) → new ≡ old ++ requests_messages options facts t ++ account_messages options facts moment t
      → HasGoneBy k options facts moment n t steps old new
  unfolding IsCutBy read_by
  accounts_gone k is n steps old new h =
      subst (λ (j : Task). HasGoneBy j options facts moment n t steps old new) is (account_messages options facts moment t, (h, refl))

  pub accounts_gone_ok : (k : Task) → Accounts ≡ k → (r : Result RunEnd TreeFault) (steps : List Step) (old new : List (List ℕ)) → OnOk r (new ≡ old ++ requests_messages options facts t ++ account_messages options facts moment t)
      → OnOk r (HasGoneBy k options facts moment 0 t steps old new)
  accounts_gone_ok k is r steps old new h = on_ok r {Y = HasGoneBy k options facts moment 0 t steps old new} (accounts_gone k is 0 steps old new) h

  pub accounts_recovered : (k : Task) → Accounts ≡ k → (steps : List Step) → accounts.Recovers (run_requests options facts t) moment t steps → RecoversIn k options facts moment t steps
  unfolding RecoversIn
  accounts_recovered k is steps h = subst (λ (j : Task). RecoversIn j options facts moment t steps) is h

  pub accounts_anew : (k : Task) → Accounts ≡ k → (steps : List Step) → AreRequestsReread options facts moment t steps → AccountsRecoverAnew options facts moment t steps → RecoversAnewIn k options facts moment t steps
  unfolding RecoversAnewIn
  accounts_anew k is steps same h = subst (λ (j : Task). RecoversAnewIn j options facts moment t steps) is (same, h)

  pub accounts_framed : (k : Task) → Accounts ≡ k → (steps : List Step) → AreAccountsFramed moment t steps → IsFramedIn k options facts moment t steps
  unfolding IsFramedIn
  accounts_framed k is steps h = subst (λ (j : Task). IsFramedIn j options facts moment t steps) is h

  pub accounts_between : (k : Task) → Accounts ≡ k → (steps : List Step) → IsOnTheWayIn k options facts moment t steps
  unfolding IsOnTheWayIn
  accounts_between k is steps = subst (λ (j : Task). IsOnTheWayIn j options facts moment t steps) is tt

  -- ---- reports

  pub report_left : (k : Task) → Report ≡ k → t ≡ final_by k options facts moment t
  unfolding final_by
  report_left k is = subst (λ (j : Task). t ≡ final_by j options facts moment t) is refl

  pub report_new_messages : (k : Task) → Report ≡ k → (old new : List (List ℕ)) → HasReported options facts t old new → HasMessagesBy k options facts moment t old new
  unfolding AreMessagesBy read_by
  report_new_messages k is old new h = subst (λ (j : Task). HasMessagesBy j options facts moment t old new) is h

  pub report_gone : (k : Task) → Report ≡ k → (stated : List Step) (old new : List (List ℕ)) → HasReported options facts t old new → HasGoneBy k options facts moment 0 t (drop (length stated) stated) old new
  unfolding IsCutBy read_by
  report_gone k is stated old new h =
      subst (λ (j : Task). HasGoneBy j options facts moment 0 t (drop (length stated) stated) old new) is (h.0, (h.1.1, (refl, drop-length stated)))

  pub report_ended : (k : Task) → Report ≡ k → (end : RunEnd) → end ≡ report_end options facts t → end ≡ end_by k options facts moment t
  unfolding end_by
  report_ended k is end h = subst (λ (j : Task). end ≡ end_by j options facts moment t) is h

  pub report_staged : (k : Task) → Report ≡ k → (u : Files) → IsSweptIn k options facts moment t u
  unfolding IsSweptIn
  report_staged k is u = subst (λ (j : Task). IsSweptIn j options facts moment t u) is tt

  pub report_part : (k : Task) → Report ≡ k → (old new : List (List ℕ)) → HasReportedPart options facts t old new → HasMessagesPartBy k options facts moment t old new
  unfolding AreMessagesBy read_by
  report_part k is old new h = subst (λ (j : Task). HasMessagesPartBy j options facts moment t old new) is h

  pub report_recovered : (k : Task) → Report ≡ k → (stated : List Step) → RecoversIn k options facts moment t (drop (length stated) stated)
  unfolding RecoversIn
  report_recovered k is stated = subst (λ (j : Task). RecoversIn j options facts moment t (drop (length stated) stated)) is (drop-length stated)

  pub report_anew : (k : Task) → Report ≡ k → (steps : List Step) → RecoversAnewIn k options facts moment t steps
  unfolding RecoversAnewIn
  report_anew k is steps = subst (λ (j : Task). RecoversAnewIn j options facts moment t steps) is tt

  pub report_framed : (k : Task) → Report ≡ k → (stated : List Step) → IsFramedIn k options facts moment t (drop (length stated) stated)
  unfolding IsFramedIn
  report_framed k is stated = subst (λ (j : Task). IsFramedIn j options facts moment t (drop (length stated) stated)) is (drop-length stated)

  pub report_between : (k : Task) → Report ≡ k → (steps : List Step) → IsOnTheWayIn k options facts moment t steps
  unfolding IsOnTheWayIn
  report_between k is steps = subst (λ (j : Task). IsOnTheWayIn j options facts moment t steps) is tt

  -- ---- explanations

  pub explain_left : (k : Task) → Explain ≡ k → t ≡ final_by k options facts moment t
  unfolding final_by
  explain_left k is = subst (λ (j : Task). t ≡ final_by j options facts moment t) is refl

  pub explain_messages : (k : Task) → Explain ≡ k → (old new : List (List ℕ)) → HasExplained options facts t old new → HasMessagesBy k options facts moment t old new
  unfolding AreMessagesBy read_by
  explain_messages k is old new h = subst (λ (j : Task). HasMessagesBy j options facts moment t old new) is h

  pub explain_gone : (k : Task) → Explain ≡ k → (stated : List Step) (old new : List (List ℕ)) → HasExplained options facts t old new → HasGoneBy k options facts moment 0 t (drop (length stated) stated) old new
  unfolding IsCutBy read_by
  explain_gone k is stated old new h =
      subst (λ (j : Task). HasGoneBy j options facts moment 0 t (drop (length stated) stated) old new) is (h.0, (h.1.1, (refl, drop-length stated)))

  pub explain_ended : (k : Task) → Explain ≡ k → (end : RunEnd) → end ≡ report_end options facts t → end ≡ end_by k options facts moment t
  unfolding end_by
  explain_ended k is end h = subst (λ (j : Task). end ≡ end_by j options facts moment t) is h

  pub explain_staged : (k : Task) → Explain ≡ k → (u : Files) → IsSweptIn k options facts moment t u
  unfolding IsSweptIn
  explain_staged k is u = subst (λ (j : Task). IsSweptIn j options facts moment t u) is tt

  pub explain_part : (k : Task) → Explain ≡ k → (old new : List (List ℕ)) → HasExplainedPart options facts t old new → HasMessagesPartBy k options facts moment t old new
  unfolding AreMessagesBy read_by
  explain_part k is old new h = subst (λ (j : Task). HasMessagesPartBy j options facts moment t old new) is h

  pub explain_recovered : (k : Task) → Explain ≡ k → (stated : List Step) → RecoversIn k options facts moment t (drop (length stated) stated)
  unfolding RecoversIn
  explain_recovered k is stated = subst (λ (j : Task). RecoversIn j options facts moment t (drop (length stated) stated)) is (drop-length stated)

  pub explain_anew : (k : Task) → Explain ≡ k → (steps : List Step) → RecoversAnewIn k options facts moment t steps
  unfolding RecoversAnewIn
  explain_anew k is steps = subst (λ (j : Task). RecoversAnewIn j options facts moment t steps) is tt

  pub explain_between : (k : Task) → Explain ≡ k → (steps : List Step) → IsOnTheWayIn k options facts moment t steps
  unfolding IsOnTheWayIn
  explain_between k is steps = subst (λ (j : Task). IsOnTheWayIn j options facts moment t steps) is tt

  pub explain_framed : (k : Task) → Explain ≡ k → (stated : List Step) → IsFramedIn k options facts moment t (drop (length stated) stated)
  unfolding IsFramedIn
  explain_framed k is stated = subst (λ (j : Task). IsFramedIn j options facts moment t (drop (length stated) stated)) is (drop-length stated)

module _ {S : Type 0} (tree : Ghosts S) (options : Options) (facts : Values) (moment : ℕ) (t : Files) where
  pub phases_acted : (k : Task) → Phases ≡ k → (a b : S) (r : Result RunEnd TreeFault)
      → Acted tree (phases_way options facts moment t) (is_phases_step options facts moment t) (phases_work options facts moment t) moment a b r
      → Acted tree (way_by k options facts moment t) (is_step_by k options facts moment t) (work_by k options facts moment t) moment a b r
  unfolding way_by is_step_by work_by
  phases_acted k is a b r h =
      subst (λ (j : Task). Acted tree (way_by j options facts moment t) (is_step_by j options facts moment t) (work_by j options facts moment t) moment a b r) is h

  pub accounts_acted : (k : Task) → Accounts ≡ k → (a b : S) (r : Result RunEnd TreeFault)
      → Acted tree (AccountWay (run_edits options facts moment t) t) (IsAccountStep (run_edits options facts moment t) t) (accounts_work options facts moment t) moment a b r
      → Acted tree (way_by k options facts moment t) (is_step_by k options facts moment t) (work_by k options facts moment t) moment a b r
  unfolding way_by is_step_by work_by
  accounts_acted k is a b r h =
      subst (λ (j : Task). Acted tree (way_by j options facts moment t) (is_step_by j options facts moment t) (work_by j options facts moment t) moment a b r) is h

  pub report_acted : (k : Task) → Report ≡ k → Moves tree → (a : S) (r : Result RunEnd TreeFault) → tree.state a ≡ t → refused r ≡ 0
      → Acted tree (way_by k options facts moment t) (is_step_by k options facts moment t) (work_by k options facts moment t) moment a a r
  unfolding way_by is_step_by work_by
  report_acted k is moves a r same none =
      subst (λ (j : Task). Acted tree (way_by j options facts moment t) (is_step_by j options facts moment t) (work_by j options facts moment t) moment a a r) is
      (acted_none tree moves (way_by Report options facts moment t) (is_step_by Report options facts moment t) 0 moment a r none same)

  pub explain_acted : (k : Task) → Explain ≡ k → Moves tree → (a : S) (r : Result RunEnd TreeFault) → tree.state a ≡ t → refused r ≡ 0
      → Acted tree (way_by k options facts moment t) (is_step_by k options facts moment t) (work_by k options facts moment t) moment a a r
  unfolding way_by is_step_by work_by
  explain_acted k is moves a r same none =
      subst (λ (j : Task). Acted tree (way_by j options facts moment t) (is_step_by j options facts moment t) (work_by j options facts moment t) moment a a r) is
      (acted_none tree moves (way_by Explain options facts moment t) (is_step_by Explain options facts moment t) 0 moment a r none same)

-- a run that is to explain has a path
pub explain_path : (options : Options) → Explain ≡ task_of options → is_some options.explain ≡ true
explain_path options is = by options.tool options.report (is_some options.explain) is
  where
    by : (tool : Tool) (report explain : Bool) → Explain ≡ task_by tool report explain → explain ≡ true
    by Tmpfiles true explain e = cc
    by Tmpfiles false true e = refl
    by Tmpfiles false false e = cc
    by Sysusers report explain e = cc
