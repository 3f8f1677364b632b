use Rattle.std.proofs.Common.{◌≡◌, ◌∙◌, ◌++◌, ◌∷◌, [], true, Option, sym, ap, subst, refl, le_refl}
use Rattle.std.specs.Option.{option_to_list}
use Rattle.std.specs.Prelude.{OnOk}
use Rattle.pv_path.specs.Paths.{Path}
use Rattle.pv_steps.specs.Trees.{places}
use Rattle.pv_folder.specs.Content.{Change, IsChanged, RemoveFile, spelled}
use Rattle.pv_folder.specs.Folders.{tree_path}
use Rattle.pv_folder.specs.Keeping.{IsChangedBy}
use Rattle.pv_folder.specs.Made.{AreRecorded}
use Rattle.pv_folder.proofs.AskingLaws.{file_removed, memory_caused, memory_counted}
use Rattle.std.proofs.lemmas.Result.{IfOk-from_err}
use Rattle.pv_folder.proofs.MadeLaws.{anyhow}
use Rattle.pv_folder.proofs.asking.remove_file.Goals as goal

pub returns-clause-done : goal.returns-clause-done
returns-clause-done g c =
    let there = places c.args.tree.now.files c.args.path.now in
    let top = tree_path (spelled c.args.folder.now) ++ c.args.path.now in
    let yes : c.is_file.result ≡ true = (let no = c.if-not-is_file.false in cc) in
    subst (λ (change : Option Change). OnOk c.remove_file.result (IsChangedBy change (g.H.Host.content c.args.host.now) (g.H.Host.content c.remove_file.new.self)))
    (sym (file_removed top there (c.is_file.ensures.0 yes)))
    (subst (λ (p : Path). OnOk c.remove_file.result (IsChanged (RemoveFile p) (g.H.Host.content c.args.host.now) (g.H.Host.content c.remove_file.new.self)))
    (ap spelled c.deref.ensures.value ∙ c.in_ok-host_path.ensures) c.remove_file.ensures.done)

pub returns-clause-recorded : goal.returns-clause-recorded
returns-clause-recorded g c =
    let there = places c.args.tree.now.files c.args.path.now in
    let top = tree_path (spelled c.args.folder.now) ++ c.args.path.now in
    let yes : c.is_file.result ≡ true = (let no = c.if-not-is_file.false in cc) in
    subst (λ (change : Option Change). OnOk c.remove_file.result (AreRecorded (option_to_list change) (g.H.Host.changes c.args.host.now) (g.H.Host.changes c.remove_file.new.self)))
    (sym (file_removed top there (c.is_file.ensures.0 yes)))
    (subst (λ (p : Path). OnOk c.remove_file.result (AreRecorded (RemoveFile p ∷ []) (g.H.Host.changes c.args.host.now) (g.H.Host.changes c.remove_file.new.self)))
    (ap spelled c.deref.ensures.value ∙ c.in_ok-host_path.ensures) c.remove_file.ensures.recorded)

pub returns-in_err-host_path-clause-done : goal.returns-in_err-host_path-clause-done
returns-in_err-host_path-clause-done g c = IfOk-from_err c.from_residual.result _ c.from_residual.ensures.0

pub returns-in_err-host_path-clause-kept : goal.returns-in_err-host_path-clause-kept
returns-in_err-host_path-clause-kept g c = anyhow c.from_residual.result refl

pub returns-in_err-host_path-clause-recorded : goal.returns-in_err-host_path-clause-recorded
returns-in_err-host_path-clause-recorded g c = IfOk-from_err c.from_residual.result _ c.from_residual.ensures.0

pub returns-in_err-host_path-clause-unrecorded : goal.returns-in_err-host_path-clause-unrecorded
returns-in_err-host_path-clause-unrecorded g c = anyhow c.from_residual.result refl

pub returns-in_err-host_path-clause-cause : goal.returns-in_err-host_path-clause-cause
returns-in_err-host_path-clause-cause g c = memory_caused c.from_residual.result (g.H.Host.faults c.args.host.now) (g.H.Host.faults c.args.host.now) c.from_residual.ensures.1

pub returns-in_err-host_path-clause-never_falls : goal.returns-in_err-host_path-clause-never_falls
returns-in_err-host_path-clause-never_falls g c = le_refl (g.H.Host.faults c.args.host.now)

pub returns-in_err-host_path-clause-count : goal.returns-in_err-host_path-clause-count
returns-in_err-host_path-clause-count g c = memory_counted c.from_residual.result (g.H.Host.faults c.args.host.now) c.from_residual.ensures.1

pub returns-clause-kept : goal.returns-clause-kept
returns-clause-kept g c = c.remove_file.ensures.kept

pub returns-clause-unrecorded : goal.returns-clause-unrecorded
returns-clause-unrecorded g c = c.remove_file.ensures.unrecorded

pub returns-clause-cause : goal.returns-clause-cause
returns-clause-cause g c = c.remove_file.ensures.cause

pub returns-clause-never_falls : goal.returns-clause-never_falls
returns-clause-never_falls g c = c.remove_file.ensures.never_falls

pub returns-clause-count : goal.returns-clause-count
returns-clause-count g c = c.remove_file.ensures.count
