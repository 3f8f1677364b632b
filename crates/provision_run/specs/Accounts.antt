-- A complete run of systemd-sysusers(8): the lines that it reads from the tree, its messages, how it ends, and the
-- most steps that it takes. The tree that it leaves is defined in pv_sysusers.
use Rattle.std.specs.Prelude.{◌≡◌, ◌⊎◌, ℕ, ◌+◌, Bool, List, [], ◌∷◌, ◌++◌, codes, Option, Some, None, Result, Ok, Err}
use Rattle.std.specs.Option.{option_map_or}
use Rattle.pv_sysusers.specs.declared.edit.Edit.{Edit}
use Rattle.pv_sysusers.specs.Accounted.{accounts_messages, edits_at, is_unusable, lacking_at}
use Rattle.pv_sysusers.specs.FileWriting.{most_put, swept_names}
use Rattle.pv_sysusers.specs.declared.accounts_fault.AccountsFault.{AccountsFault}
use Rattle.pv_sysusers.specs.declared.accounts_fault.AccountsFault.TheVariants as fault
use Rattle.pv_read_config.specs.Requested.{requested}
use Rattle.pv_steps.specs.declared.carried.Carried.{Carried}
use Rattle.pv_steps.specs.declared.tree.TreeFault.{TreeFault}
use Rattle.pv_steps.specs.declared.tree.TreeFault.TheVariants as step
use Rattle.pv_steps.specs.Courses.{carried_of}
use Rattle.pv_path.specs.Printing.{printed}
use Rattle.pv_requests.specs.declared.request.Request.{Request}
use Rattle.pv_steps.specs.Trees.{Files, places}
use Rattle.pv_text.specs.Facts.{Values}
use Rattle.pv_walk.specs.Staging.{count_at_all}
use Rattle.pv_words.specs.declared.options.Options.{Options}
use Rattle.provision_run.specs.declared.ending.RunEnd.{RunEnd}
use Rattle.provision_run.specs.declared.ending.RunEnd.TheVariants.{NoFreeId}
use Rattle.provision_run.specs.Ending.{end_of, is_uncarried}

-- The lines of the configuration.
abbrev pub run_requests : Options → Values → Files → List Request
run_requests options facts t = (requested t facts options.words).lines

-- The messages about reading them.
abbrev pub requests_messages : Options → Values → Files → List (List ℕ)
requests_messages options facts t = (requested t facts options.words).messages

-- The account files that get new texts.
abbrev pub run_edits : Options → Values → ℕ → Files → List Edit
run_edits options facts moment t = edits_at (run_requests options facts t) moment (places t)

-- The name for which no number is left, if there is one.
abbrev pub run_lacking : Options → Values → ℕ → Files → Option (List ℕ)
run_lacking options facts moment t = lacking_at (run_requests options facts t) moment (places t)

-- The message that no number is left for a name.
abbrev pub lacking_text : List ℕ → List ℕ
lacking_text name = codes "no free id for " ++ printed name

-- The messages about the lines and the account files.
abbrev pub account_messages : Options → Values → ℕ → Files → List (List ℕ)
account_messages options facts moment t =
    accounts_messages (run_requests options facts t) moment (places t)
    ++ option_map_or (λ name. lacking_text name ∷ []) (run_lacking options facts moment t) []

-- How the run ends. If no number is left for a name, it is NoFreeId. Otherwise it depends on what was carried out and
-- read.
abbrev pub accounts_end_by : Option (List ℕ) → Bool → Bool → RunEnd
accounts_end_by (Some name) uncarried invalid = NoFreeId name
accounts_end_by None uncarried invalid = end_of uncarried invalid

-- How a complete run ends.
abbrev pub accounts_end : Options → Values → ℕ → Files → RunEnd
accounts_end options facts moment t =
    accounts_end_by (run_lacking options facts moment t)
    (is_uncarried (carried_of (is_unusable (places t))) (requested t facts options.words).missing)
    (requested t facts options.words).invalid

-- The most steps that the run takes.
abbrev pub accounts_work : Options → Values → ℕ → Files → ℕ
accounts_work options facts moment t = count_at_all t swept_names + most_put (run_edits options facts moment t) (places t)

-- ---- the end of a run

-- How a run has ended, by the answer about the accounts, and the messages that it has then given. If no number is
-- left for a name, there is one more message, unless memory ran out.
abbrev pub IsEnded : Result Carried AccountsFault → Bool → Bool → Result RunEnd TreeFault → List (List ℕ) → List (List ℕ) → Type 0
IsEnded (Ok carried) missing invalid r old new = (r ≡ Ok (end_of (is_uncarried carried missing) invalid)) × (new ≡ old)
IsEnded (Err (fault.NoFreeId name)) missing invalid r old new =
    ((r ≡ Ok (NoFreeId name)) × (new ≡ old ++ lacking_text name ∷ [])) ⊎ ((r ≡ Err step.Memory) × (new ≡ old))
IsEnded (Err fault.Failed) missing invalid r old new = (r ≡ Err step.Failed) × (new ≡ old)
IsEnded (Err fault.Memory) missing invalid r old new = (r ≡ Err step.Memory) × (new ≡ old)
