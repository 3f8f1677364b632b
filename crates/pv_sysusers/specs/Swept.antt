-- What a complete run of systemd-sysusers leaves at staging names (systemd-sysusers(8)).
use Rattle.std.specs.Prelude.{◌≡◌, ℕ, List, [], None}
use Rattle.std.specs.List.{AllByRecursion}
use Rattle.pv_requests.specs.declared.request.Request.{Request}
use Rattle.pv_steps.specs.Trees.{Files, places, IsAbsentIn}
use Rattle.pv_sysusers.specs.Accounted.{lacking_at, unusable_texts}
use Rattle.pv_sysusers.specs.FileWriting.{swept_names}

-- After a run, nothing is left at the staging names of `/etc` and of the account files. This holds if each account
-- file could be used, and a number was left for each name.
abbrev pub LeavesNoStagingName : List Request → ℕ → Files → Files → Type 0
LeavesNoStagingName requests now t u = unusable_texts (places t) ≡ [] → lacking_at requests now (places t) ≡ None → AllByRecursion (IsAbsentIn (places u)) swept_names
