use Rattle.std.proofs.Common.{◌≡◌, Option, None, false, IfSome, subst}
use Rattle.pv_folder.specs.Content.{Content, spelled}
use Rattle.pv_folder.specs.Folders.{real_in}
use Rattle.pv_folder.specs.Opening.{IsOpened, IsRefused, fault_among, is_outer, objects_below}
use Rattle.pv_folder.proofs.GoingLaws.{passed_on, from_content}
use Rattle.pv_folder.proofs.OpeningLaws.{folder_opened, not_both, only_reason, real_refused}
use Rattle.pv_folder.proofs.reading.read_folder.Goals as goal

pub returns-in_err-manifest-clause-refuses : goal.returns-in_err-manifest-clause-refuses
returns-in_err-manifest-clause-refuses g c = λ fault.
    only_reason (g.H.Host.content c.args.host.now) (spelled c.args.folder.now) c.from_residual.result c.in_err-manifest.field-0.0 fault c.from_residual.ensures.1 c.in_err-manifest.ensures.refused

pub returns-in_err-real-clause-refused : goal.returns-in_err-real-clause-refused
returns-in_err-real-clause-refused g c =
    let content = g.H.Host.content c.args.host.now in
    let folder = spelled c.args.folder.now in
    let f = c.in_err-real.field-0.0 in
    let new_messages = c.in_ok-manifest.manifest in
    passed_on c.from_residual-in_err-real.result f (λ e. is_outer e ≡ false → IfSome content (λ k. IsRefused folder k e)) c.from_residual-in_err-real.ensures.1
    (real_refused content folder new_messages.facts new_messages.tree.files f _ c.manifest_in.ensures.kept c.in_ok-manifest.ensures.prepared c.in_ok-manifest.ensures.says c.in_err-real.ensures.fault)

pub returns-in_err-real-clause-refuses : goal.returns-in_err-real-clause-refuses
returns-in_err-real-clause-refuses g c = λ fault.
    let content = g.H.Host.content c.args.host.now in
    let folder = spelled c.args.folder.now in
    let f = c.in_err-real.field-0.0 in
    let new_messages = c.in_ok-manifest.manifest in
    only_reason content folder c.from_residual-in_err-real.result f fault c.from_residual-in_err-real.ensures.1
    (real_refused content folder new_messages.facts new_messages.tree.files f _ c.manifest_in.ensures.kept c.in_ok-manifest.ensures.prepared c.in_ok-manifest.ensures.says c.in_err-real.ensures.fault)

pub returns-clause-opened : goal.returns-clause-opened
returns-clause-opened g c =
    let content = g.H.Host.content c.args.host.now in
    let folder = spelled c.args.folder.now in
    let new_messages = c.in_ok-manifest.manifest in
    let image = c.in_ok-merge_with.field-0 in
    folder_opened content folder image.facts new_messages.facts image.tree.files new_messages.tree.files c.in_ok-real.real.files c.in_ok-merge_with.ensures.facts c.in_ok-merge_with.ensures.tree
    c.in_ok-manifest.ensures.prepared c.in_ok-manifest.ensures.says
    (subst (λ (o : Option Content). IfSome o (λ k. fault_among 0 0 (objects_below folder k) ≡ None)) c.manifest_in.ensures.kept c.in_ok-real.ensures.sound)
    (subst (λ (o : Option Content). IfSome o (λ k. c.in_ok-real.real.files ≡ real_in folder k)) c.manifest_in.ensures.kept c.in_ok-real.ensures.real)

pub returns-clause-refuses : goal.returns-clause-refuses
returns-clause-refuses g c = λ fault.
    let folder = spelled c.args.folder.now in
    let image = c.in_ok-merge_with.field-0 in
    from_content (λ k. IsOpened folder k image.facts image.tree.files) _ (g.H.Host.content c.args.host.now) (λ k o r. absurd (not_both folder k image.facts image.tree.files fault o r)) (returns-clause-opened g c)
