use Rattle.std.proofs.Common.{◌∙◌, ap, refl}
use Rattle.pv_path.proofs.Tests.{on_ok}
use Rattle.pv_folder.specs.Content.{spelled}
use Rattle.pv_folder.proofs.ClosingLaws.{has_manifest_as, kept_as, may_move_as, on_err, ready_as}
use Rattle.pv_folder.proofs.MadeLaws.{anyhow, closing_asked, closing_not_begun, closing_part}
use Rattle.pv_folder.proofs.closing.replace_manifest.Goals as goal

pub replace_file-requires : goal.replace_file-requires
replace_file-requires g c =
    may_move_as (spelled c.args.folder.now) (spelled c.deref.result.now) (spelled c.deref-2.result.now) (spelled c.deref-3.result.now) c.args.text.now (g.H.Host.content c.args.host.now) (g.H.Host.content c.write_file.new.self)
    (ap spelled c.deref.ensures.value ∙ c.in_ok-new.ensures) (ap spelled c.deref-2.ensures.value ∙ c.in_ok-new.ensures) (ap spelled c.deref-3.ensures.value ∙ c.in_ok-manifest.ensures) c.in_ok-write_file.ensures.done c.requires

pub returns-clause-done : goal.returns-clause-done
returns-clause-done g c =
    on_ok c.replace_file.result (has_manifest_as (spelled c.args.folder.now) (spelled c.deref.result.now) (spelled c.deref-2.result.now) (spelled c.deref-3.result.now) c.args.text.now (g.H.Host.content c.args.host.now) (g.H.Host.content c.write_file.new.self)
    (ap spelled c.deref.ensures.value ∙ c.in_ok-new.ensures) (ap spelled c.deref-2.ensures.value ∙ c.in_ok-new.ensures) (ap spelled c.deref-3.ensures.value ∙ c.in_ok-manifest.ensures) c.in_ok-write_file.ensures.done c.requires
    (g.H.Host.content c.replace_file.new.self)) c.replace_file.ensures.done

pub returns-clause-kept : goal.returns-clause-kept
returns-clause-kept g c =
    on_err c.replace_file.result (kept_as (spelled c.args.folder.now) (spelled c.deref.result.now) (spelled c.deref-2.result.now) (spelled c.deref-3.result.now) c.args.text.now (g.H.Host.content c.args.host.now) (g.H.Host.content c.write_file.new.self)
    (ap spelled c.deref.ensures.value ∙ c.in_ok-new.ensures) (ap spelled c.deref-2.ensures.value ∙ c.in_ok-new.ensures) (ap spelled c.deref-3.ensures.value ∙ c.in_ok-manifest.ensures) c.in_ok-write_file.ensures.done c.requires
    (g.H.Host.content c.replace_file.new.self)) c.replace_file.ensures.kept

pub returns-clause-ready : goal.returns-clause-ready
returns-clause-ready g c =
    ready_as (spelled c.args.folder.now) (spelled c.deref.result.now) (spelled c.deref-2.result.now) (spelled c.deref-3.result.now) c.args.text.now (g.H.Host.content c.args.host.now) (g.H.Host.content c.write_file.new.self)
    (ap spelled c.deref.ensures.value ∙ c.in_ok-new.ensures) (ap spelled c.deref-2.ensures.value ∙ c.in_ok-new.ensures) (ap spelled c.deref-3.ensures.value ∙ c.in_ok-manifest.ensures) c.in_ok-write_file.ensures.done c.requires
    (g.H.Host.content c.replace_file.new.self) c.replace_file.result c.replace_file.ensures.done c.replace_file.ensures.kept

pub returns-clause-asked : goal.returns-clause-asked
returns-clause-asked g c =
    closing_asked (spelled c.args.folder.now) (spelled c.deref.result.now) (spelled c.deref-2.result.now) (spelled c.deref-3.result.now) c.args.text.now (g.H.Host.content c.args.host.now) (g.H.Host.content c.write_file.new.self)
    (g.H.Host.changes c.args.host.now) (g.H.Host.changes c.write_file.new.self)
    (ap spelled c.deref.ensures.value ∙ c.in_ok-new.ensures) (ap spelled c.deref-2.ensures.value ∙ c.in_ok-new.ensures) (ap spelled c.deref-3.ensures.value ∙ c.in_ok-manifest.ensures)
    c.in_ok-write_file.ensures.done c.in_ok-write_file.ensures.recorded (g.H.Host.content c.replace_file.new.self) (g.H.Host.changes c.replace_file.new.self) c.replace_file.result c.replace_file.ensures.done c.replace_file.ensures.recorded

pub returns-clause-part : goal.returns-clause-part
returns-clause-part g c =
    closing_part (spelled c.args.folder.now) (spelled c.deref.result.now) (spelled c.deref-2.result.now) (spelled c.deref-3.result.now) c.args.text.now (g.H.Host.content c.args.host.now) (g.H.Host.content c.write_file.new.self)
    (g.H.Host.changes c.args.host.now) (g.H.Host.changes c.write_file.new.self)
    (ap spelled c.deref.ensures.value ∙ c.in_ok-new.ensures) (ap spelled c.deref-2.ensures.value ∙ c.in_ok-new.ensures) (ap spelled c.deref-3.ensures.value ∙ c.in_ok-manifest.ensures)
    c.in_ok-write_file.ensures.done c.in_ok-write_file.ensures.recorded (g.H.Host.content c.replace_file.new.self) (g.H.Host.changes c.replace_file.new.self) c.replace_file.result c.replace_file.ensures.kept c.replace_file.ensures.unrecorded

pub returns-in_err-new-clause-part : goal.returns-in_err-new-clause-part
returns-in_err-new-clause-part g c =
    anyhow c.from_residual.result (closing_not_begun (spelled c.args.folder.now) c.args.text.now (g.H.Host.content c.args.host.now) (g.H.Host.content c.args.host.now)
    (g.H.Host.changes c.args.host.now) (g.H.Host.changes c.args.host.now) refl refl)

pub returns-in_err-manifest-clause-part : goal.returns-in_err-manifest-clause-part
returns-in_err-manifest-clause-part g c =
    anyhow c.from_residual-in_err-manifest.result (closing_not_begun (spelled c.args.folder.now) c.args.text.now (g.H.Host.content c.args.host.now) (g.H.Host.content c.args.host.now)
    (g.H.Host.changes c.args.host.now) (g.H.Host.changes c.args.host.now) refl refl)

pub returns-in_err-write_file-clause-part : goal.returns-in_err-write_file-clause-part
returns-in_err-write_file-clause-part g c =
    anyhow c.from_residual-in_err-write_file.result (closing_not_begun (spelled c.args.folder.now) c.args.text.now (g.H.Host.content c.args.host.now) (g.H.Host.content c.write_file.new.self)
    (g.H.Host.changes c.args.host.now) (g.H.Host.changes c.write_file.new.self) c.in_err-write_file.ensures.kept c.in_err-write_file.ensures.unrecorded)
