-- A run that makes accounts, stopped after any of its steps, has left a tree of which the same lines are read, so that a whole
-- run from there completes it.
use Rattle.std.specs.Prelude.{◌^◌, ◌<◌, ◌≡◌, ℕ, List, length, take, drop}
use Rattle.std.proofs.Common.{sym, ap, subst, ◌∙◌}
use Rattle.std.proofs.Math.Seq.{drop-append_seam, drop-length, take-nil}
use Rattle.pv_sysusers.specs.Accounted.{accounted}
use Rattle.pv_sysusers.specs.FileWriting.{AccountWay, IsAccountStep}
use Rattle.pv_sysusers.specs.Recovery.{EndAlike, Recovers}
use Rattle.pv_sysusers.proofs.BesideLaws.{edits_of_run}
use Rattle.pv_read_config.specs.Configuration.{Configured}
use Rattle.pv_read_config.specs.Requested.{requested}
use Rattle.pv_read_config.proofs.AllowedLaws.{requested_allowed}
use Rattle.pv_read_config.proofs.InputLaws.{requested-same}
use Rattle.pv_requests.specs.declared.request.Request.{Request}
use Rattle.pv_steps.specs.declared.step.Step.{Step}
use Rattle.pv_steps.specs.Runs.{after_all, Ran}
use Rattle.pv_steps.specs.Trees.{Files, IsTree}
use Rattle.pv_steps.proofs.RunLaws.{along_prefix, along_trees}
use Rattle.pv_text.specs.Facts.{Values}
use Rattle.pv_words.specs.declared.options.Options.{Options}
use Rattle.provision_run.specs.Accounts.{run_edits, run_requests}
use Rattle.provision_run.specs.Rereading.{AccountsRecoverAnew, AreRequestsReread}
use Rattle.provision_run.proofs.AccountInput.{requests_after}
use Rattle.pv_path.proofs.Tests.{all_take}

module _ (options : Options) (facts : Values) (moment : ℕ) (t : Files) where
  pub requests_reread : moment < 2 ^ 64 → IsTree t → (h : List Step) (u : Files) (k : List Step)
      → Ran (AccountWay (run_edits options facts moment t) t) (IsAccountStep (run_edits options facts moment t) t) moment t h u k → AreRequestsReread options facts moment t (drop (length h) k)
  requests_reread fits tree h u k run n plain =
      let added : drop (length h) k ≡ run.steps = ap (drop (length h)) run.recorded ∙ drop-append_seam h run.steps in
      let edits = run_edits options facts moment t in
      subst (λ (steps : List Step). requested (after_all t (take n steps) moment) facts options.words ≡ requested t facts options.words) (sym added)
      (requested-same (after_all t (take n run.steps) moment) t
      (requests_after moment t tree edits (edits_of_run (run_requests options facts t) moment t tree) (take n run.steps)
      (along_prefix IsTree t run.steps moment n (along_trees (AccountWay edits t) t run.steps moment fits tree run.along))
      (along_prefix (AccountWay edits t) t run.steps moment n run.along)
      (all_take (IsAccountStep edits t) n run.steps run.gives))
      facts options.words plain)

  -- after a run that has done nothing the same is read
  pub no_requests_reread : (h : List Step) → AreRequestsReread options facts moment t (drop (length h) h)
  no_requests_reread h n plain = ap (λ (steps : List Step). requested (after_all t steps moment) facts options.words) (ap (take n) (drop-length h) ∙ take-nil n)

  -- what recovers by a run of the same lines recovers by one that reads them anew
  pub accounts_recovered_anew : (steps : List Step) → AreRequestsReread options facts moment t steps → Recovers (run_requests options facts t) moment t steps
      → AccountsRecoverAnew options facts moment t steps
  accounts_recovered_anew steps again recovers n later plain =
      subst (λ (requests : List Request). EndAlike moment later (accounted (run_requests options facts t) moment t) (accounted requests later (after_all t (take n steps) moment)))
      (sym (ap (λ (c : Configured Request). c.lines) (again n plain))) (recovers n later (requested_allowed t facts options.words))
