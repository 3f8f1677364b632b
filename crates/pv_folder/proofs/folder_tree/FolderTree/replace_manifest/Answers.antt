use Rattle.std.proofs.Common.{OnErr, OnOk, ap, subst, ℕ, ◌≤◌}
use Rattle.std.specs.Prelude.{IfSome, take}
use Rattle.pv_path.specs.Paths.{Path}
use Rattle.pv_folder.specs.Content.{held, spelled}
use Rattle.pv_folder.specs.Keeping.{HasManifest, IsReady, IsSameButNew}
use Rattle.pv_folder.specs.Made.{HasMade}
use Rattle.pv_folder.specs.Moments.{closing}
use Rattle.pv_folder.proofs.ClosingLaws.{agrees_as}
use Rattle.pv_folder.proofs.folder_tree.FolderTree.replace_manifest.Goals as goal

pub invariant_of-self : goal.invariant_of-self
invariant_of-self g c =
    let old = g.H.Host.content c.args.self.now.host.now in
    let new = g.H.Host.content c.replace_manifest.new.host in
    let folder = spelled c.args.self.now.folder.items in
    let at = ap spelled c.deref.ensures.value in
    record {
      ready = subst (λ (f : Path). IfSome new (λ x. IsReady f (held x))) at c.replace_manifest.ensures.ready;
      agrees = λ settled.
          agrees_as folder c.args.text.now c.args.self.now.tree.files c.replace_manifest.result old new
          (subst (λ (f : Path). OnOk c.replace_manifest.result (HasManifest f c.args.text.now old new)) at c.replace_manifest.ensures.done)
          (subst (λ (f : Path). OnErr c.replace_manifest.result (IsSameButNew f old new)) at c.replace_manifest.ensures.kept)
          c.args.self.now.ready (c.args.self.now.agrees settled);
    }

pub returns-clause-asked : goal.returns-clause-asked
returns-clause-asked g c =
    subst (λ (f : Path). OnOk c.replace_manifest.result (HasMade (closing f c.args.text.now) (g.H.Host.content c.args.self.now.host.now) (g.H.Host.content c.replace_manifest.new.host) (g.H.Host.changes c.args.self.now.host.now) (g.H.Host.changes c.replace_manifest.new.host)))
    (ap spelled c.deref.ensures.value) c.replace_manifest.ensures.asked

pub returns-clause-part : goal.returns-clause-part
returns-clause-part g c =
    subst (λ (f : Path). OnErr c.replace_manifest.result ((k : ℕ) × ((k ≤ 1) × HasMade (take k (closing f c.args.text.now)) (g.H.Host.content c.args.self.now.host.now) (g.H.Host.content c.replace_manifest.new.host) (g.H.Host.changes c.args.self.now.host.now) (g.H.Host.changes c.replace_manifest.new.host))))
    (ap spelled c.deref.ensures.value) c.replace_manifest.ensures.part
