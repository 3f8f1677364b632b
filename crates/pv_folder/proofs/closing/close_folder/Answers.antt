use Rattle.std.proofs.Common.{◌≡◌, ◌∙◌, ◌≤◌, List, ℕ, ap, subst, refl, le_refl}
use Rattle.std.specs.Prelude.{OnErr, take}
use Rattle.pv_path.proofs.Tests.{on_ok}
use Rattle.pv_image.specs.Emptied.{with_empty_files}
use Rattle.pv_image.specs.Images.{IsImage}
use Rattle.pv_tree.specs.Held.{Held}
use Rattle.pv_folder.specs.Content.{spelled}
use Rattle.pv_folder.specs.Made.{HasMade}
use Rattle.pv_folder.specs.Manifest.{IsManifest, manifest_of}
use Rattle.pv_folder.specs.Moments.{closing}
use Rattle.std.proofs.lemmas.Result.{IfOk-from_err}
use Rattle.pv_folder.proofs.AskingLaws.{memory_counted}
use Rattle.pv_folder.proofs.closing.close_folder.Goals as goal

pub returns-clause-image : goal.returns-clause-image
returns-clause-image g c =
    on_ok c.replace_manifest.result (λ done.
    subst (λ (h : Held). IsManifest c.args.facts.now h.files) c.tree.ensures
    (subst (λ (text : List ℕ). IsImage text c.args.facts.now (with_empty_files c.tree.result.now.files)) c.in_ok-text.ensures.text c.in_ok-text.ensures.image)) c.replace_manifest.ensures.done

pub returns-clause-part : goal.returns-clause-part
returns-clause-part g c =
    let is : c.deref.result.now ≡ manifest_of c.args.facts.now c.args.tree.now.tree.files =
    c.deref.ensures.value ∙ c.in_ok-text.ensures.text ∙ ap (λ (h : Held). manifest_of c.args.facts.now h.files) c.tree.ensures in
    subst (λ (text : List ℕ). OnErr c.replace_manifest.result ((k : ℕ) × ((k ≤ 1) × HasMade (take k (closing (spelled c.args.tree.now.folder.items) text))
    (g.H.Host.content c.args.tree.now.host.now) (g.H.Host.content c.replace_manifest.new.self.host.now) (g.H.Host.changes c.args.tree.now.host.now) (g.H.Host.changes c.replace_manifest.new.self.host.now)))) is
    c.replace_manifest.ensures.part

pub returns-in_err-text-clause-done : goal.returns-in_err-text-clause-done
returns-in_err-text-clause-done g c = IfOk-from_err c.from_residual.result _ c.from_residual.ensures.0

pub returns-in_err-text-clause-image : goal.returns-in_err-text-clause-image
returns-in_err-text-clause-image g c = IfOk-from_err c.from_residual.result _ c.from_residual.ensures.0

pub returns-in_err-text-clause-asked : goal.returns-in_err-text-clause-asked
returns-in_err-text-clause-asked g c = IfOk-from_err c.from_residual.result _ c.from_residual.ensures.0

pub returns-in_err-text-clause-never_falls : goal.returns-in_err-text-clause-never_falls
returns-in_err-text-clause-never_falls g c = le_refl (g.H.Host.faults c.args.tree.now.host.now)

pub returns-in_err-text-clause-count : goal.returns-in_err-text-clause-count
returns-in_err-text-clause-count g c = memory_counted c.from_residual.result (g.H.Host.faults c.args.tree.now.host.now) c.from_residual.ensures.1

pub returns-in_err-text-clause-host : goal.returns-in_err-text-clause-host
returns-in_err-text-clause-host g c = refl

pub returns-in_err-text-clause-folder : goal.returns-in_err-text-clause-folder
returns-in_err-text-clause-folder g c = refl

pub returns-in_err-text-clause-tree : goal.returns-in_err-text-clause-tree
returns-in_err-text-clause-tree g c = refl

pub returns-in_err-text-clause-pending : goal.returns-in_err-text-clause-pending
returns-in_err-text-clause-pending g c = refl

pub returns-clause-kept : goal.returns-clause-kept
returns-clause-kept g c = c.replace_manifest.ensures.kept

pub returns-clause-never_falls : goal.returns-clause-never_falls
returns-clause-never_falls g c = c.replace_manifest.ensures.never_falls

pub returns-clause-count : goal.returns-clause-count
returns-clause-count g c = c.replace_manifest.ensures.count

pub returns-clause-host : goal.returns-clause-host
returns-clause-host g c = c.replace_manifest.ensures.host

pub returns-clause-folder : goal.returns-clause-folder
returns-clause-folder g c = c.replace_manifest.ensures.folder

pub returns-clause-tree : goal.returns-clause-tree
returns-clause-tree g c = c.replace_manifest.ensures.tree

pub returns-clause-pending : goal.returns-clause-pending
returns-clause-pending g c = c.replace_manifest.ensures.pending
