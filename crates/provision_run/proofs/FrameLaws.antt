-- What a run leaves as it was at each moment: one that has done nothing, and one that makes accounts.
use Rattle.std.specs.Prelude.{◌≡◌, ℕ, List, length, take, drop}
use Rattle.std.proofs.Common.{ap, ◌∙◌}
use Rattle.std.proofs.Math.Seq.{drop-length, take-nil}
use Rattle.pv_sysusers.specs.Accounted.{edits_at}
use Rattle.pv_sysusers.specs.FileWriting.{AccountWay}
use Rattle.pv_sysusers.proofs.BesideLaws.{edits_of_run, way_beside}
use Rattle.pv_walk.specs.Nodes.{object_states_of}
use Rattle.pv_walk.proofs.OperationLaws.{object_states_of-same}
use Rattle.pv_path.specs.Paths.{Path}
use Rattle.pv_table.proofs.GoingLaws.{told_prefix}
use Rattle.pv_requests.specs.declared.request.Request.{Request}
use Rattle.pv_steps.specs.declared.step.Step.{Step}
use Rattle.pv_steps.specs.Runs.{after_all, Ran}
use Rattle.pv_steps.specs.Trees.{Files, IsTree, places}
use Rattle.provision_run.specs.Framed.{AreAccountsFramed}

-- if no step was done, each path is as it was
pub none_stays : (now : ℕ) (t : Files) (stated : List Step) (n : ℕ) (q : Path) → object_states_of (places (after_all t (take n (drop (length stated) stated)) now)) q ≡ object_states_of (places t) q
none_stays now t stated n q = ap (λ (steps : List Step). object_states_of (places (after_all t steps now)) q) (ap (take n) (drop-length stated) ∙ take-nil n)

pub requests_framed : (requests : List Request) (now : ℕ) (Q : Step → Type 0) (t : Files) (h : List Step) (u : Files) (k : List Step) → IsTree t
    → Ran (AccountWay (edits_at requests now (places t)) t) Q now t h u k → AreAccountsFramed now t (drop (length h) k)
requests_framed requests now Q t h u k tree run n q plain off far =
    object_states_of-same (places (after_all t (take n (drop (length h) k)) now)) (places t) q (way_beside (edits_at requests now (places t)) t (after_all t (take n (drop (length h) k)) now) (edits_of_run requests now t tree)
    (told_prefix (AccountWay (edits_at requests now (places t)) t) Q now t h u k run n) q plain off far)
