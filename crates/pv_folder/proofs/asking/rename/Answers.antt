use Rattle.std.proofs.Common.{◌≡◌, ◌∙◌, ◌++◌, ◌∷◌, [], true, Option, sym, ap, subst, refl, le_refl}
use Rattle.std.specs.Option.{option_to_list}
use Rattle.std.specs.Prelude.{OnOk}
use Rattle.pv_path.specs.Paths.{Path}
use Rattle.pv_steps.specs.Trees.{places}
use Rattle.pv_folder.specs.Content.{Change, IsChanged, Rename, spelled}
use Rattle.pv_folder.specs.Folders.{real_of, tree_path}
use Rattle.pv_folder.specs.Keeping.{IsChangedBy}
use Rattle.pv_folder.specs.Made.{AreRecorded}
use Rattle.pv_folder.proofs.AskingLaws.{real_moved, memory_caused, memory_counted}
use Rattle.std.proofs.lemmas.Result.{IfOk-from_err}
use Rattle.pv_folder.proofs.MadeLaws.{anyhow}
use Rattle.pv_folder.proofs.asking.rename.Goals as goal

pub returns-clause-done : goal.returns-clause-done
returns-clause-done g c =
    let t = places c.args.tree.now.files in
    let top = tree_path (spelled c.args.folder.now) in
    let from = c.args.paths.from.now in
    let to = c.args.paths.to.now in
    let old = g.H.Host.content c.args.host.now in
    let new = g.H.Host.content c.rename.new.self in
    let yes : c.is_real.result ≡ true = (let no = c.if-not-is_real.false in cc) in
    subst (λ (change : Option Change). OnOk c.rename.result (IsChangedBy change old new))
    (sym (real_moved (top ++ from) (top ++ to) (real_of (t from)) (real_of (t to)) (sym c.is_real.ensures ∙ yes)))
    (subst (λ (p : Path). OnOk c.rename.result (IsChanged (Rename p (top ++ to)) old new)) (ap spelled c.deref.ensures.value ∙ c.in_ok-from.ensures)
    (subst (λ (p : Path). OnOk c.rename.result (IsChanged (Rename (spelled c.deref.result.now) p) old new)) (ap spelled c.deref-2.ensures.value ∙ c.in_ok-to.ensures) c.rename.ensures.done))

pub returns-clause-recorded : goal.returns-clause-recorded
returns-clause-recorded g c =
    let t = places c.args.tree.now.files in
    let top = tree_path (spelled c.args.folder.now) in
    let from = c.args.paths.from.now in
    let to = c.args.paths.to.now in
    let old = g.H.Host.changes c.args.host.now in
    let new = g.H.Host.changes c.rename.new.self in
    let yes : c.is_real.result ≡ true = (let no = c.if-not-is_real.false in cc) in
    subst (λ (change : Option Change). OnOk c.rename.result (AreRecorded (option_to_list change) old new))
    (sym (real_moved (top ++ from) (top ++ to) (real_of (t from)) (real_of (t to)) (sym c.is_real.ensures ∙ yes)))
    (subst (λ (p : Path). OnOk c.rename.result (AreRecorded (Rename p (top ++ to) ∷ []) old new)) (ap spelled c.deref.ensures.value ∙ c.in_ok-from.ensures)
    (subst (λ (p : Path). OnOk c.rename.result (AreRecorded (Rename (spelled c.deref.result.now) p ∷ []) old new)) (ap spelled c.deref-2.ensures.value ∙ c.in_ok-to.ensures) c.rename.ensures.recorded))

pub returns-in_err-from-clause-done : goal.returns-in_err-from-clause-done
returns-in_err-from-clause-done g c = IfOk-from_err c.from_residual.result _ c.from_residual.ensures.0

pub returns-in_err-from-clause-kept : goal.returns-in_err-from-clause-kept
returns-in_err-from-clause-kept g c = anyhow c.from_residual.result refl

pub returns-in_err-from-clause-recorded : goal.returns-in_err-from-clause-recorded
returns-in_err-from-clause-recorded g c = IfOk-from_err c.from_residual.result _ c.from_residual.ensures.0

pub returns-in_err-from-clause-unrecorded : goal.returns-in_err-from-clause-unrecorded
returns-in_err-from-clause-unrecorded g c = anyhow c.from_residual.result refl

pub returns-in_err-from-clause-cause : goal.returns-in_err-from-clause-cause
returns-in_err-from-clause-cause g c = memory_caused c.from_residual.result (g.H.Host.faults c.args.host.now) (g.H.Host.faults c.args.host.now) c.from_residual.ensures.1

pub returns-in_err-from-clause-never_falls : goal.returns-in_err-from-clause-never_falls
returns-in_err-from-clause-never_falls g c = le_refl (g.H.Host.faults c.args.host.now)

pub returns-in_err-from-clause-count : goal.returns-in_err-from-clause-count
returns-in_err-from-clause-count g c = memory_counted c.from_residual.result (g.H.Host.faults c.args.host.now) c.from_residual.ensures.1

pub returns-in_err-to-clause-done : goal.returns-in_err-to-clause-done
returns-in_err-to-clause-done g c = IfOk-from_err c.from_residual-in_err-to.result _ c.from_residual-in_err-to.ensures.0

pub returns-in_err-to-clause-kept : goal.returns-in_err-to-clause-kept
returns-in_err-to-clause-kept g c = anyhow c.from_residual-in_err-to.result refl

pub returns-in_err-to-clause-recorded : goal.returns-in_err-to-clause-recorded
returns-in_err-to-clause-recorded g c = IfOk-from_err c.from_residual-in_err-to.result _ c.from_residual-in_err-to.ensures.0

pub returns-in_err-to-clause-unrecorded : goal.returns-in_err-to-clause-unrecorded
returns-in_err-to-clause-unrecorded g c = anyhow c.from_residual-in_err-to.result refl

pub returns-in_err-to-clause-cause : goal.returns-in_err-to-clause-cause
returns-in_err-to-clause-cause g c = memory_caused c.from_residual-in_err-to.result (g.H.Host.faults c.args.host.now) (g.H.Host.faults c.args.host.now) c.from_residual-in_err-to.ensures.1

pub returns-in_err-to-clause-never_falls : goal.returns-in_err-to-clause-never_falls
returns-in_err-to-clause-never_falls g c = le_refl (g.H.Host.faults c.args.host.now)

pub returns-in_err-to-clause-count : goal.returns-in_err-to-clause-count
returns-in_err-to-clause-count g c = memory_counted c.from_residual-in_err-to.result (g.H.Host.faults c.args.host.now) c.from_residual-in_err-to.ensures.1

pub returns-then-not-is_real-clause-kept : goal.returns-then-not-is_real-clause-kept
returns-then-not-is_real-clause-kept g c = c.remove_file.ensures.kept

pub returns-then-not-is_real-clause-unrecorded : goal.returns-then-not-is_real-clause-unrecorded
returns-then-not-is_real-clause-unrecorded g c = c.remove_file.ensures.unrecorded

pub returns-then-not-is_real-clause-cause : goal.returns-then-not-is_real-clause-cause
returns-then-not-is_real-clause-cause g c = c.remove_file.ensures.cause

pub returns-then-not-is_real-clause-never_falls : goal.returns-then-not-is_real-clause-never_falls
returns-then-not-is_real-clause-never_falls g c = c.remove_file.ensures.never_falls

pub returns-then-not-is_real-clause-count : goal.returns-then-not-is_real-clause-count
returns-then-not-is_real-clause-count g c = c.remove_file.ensures.count

pub returns-clause-kept : goal.returns-clause-kept
returns-clause-kept g c = c.rename.ensures.kept

pub returns-clause-unrecorded : goal.returns-clause-unrecorded
returns-clause-unrecorded g c = c.rename.ensures.unrecorded

pub returns-clause-cause : goal.returns-clause-cause
returns-clause-cause g c = c.rename.ensures.cause

pub returns-clause-never_falls : goal.returns-clause-never_falls
returns-clause-never_falls g c = c.rename.ensures.never_falls

pub returns-clause-count : goal.returns-clause-count
returns-clause-count g c = c.rename.ensures.count
