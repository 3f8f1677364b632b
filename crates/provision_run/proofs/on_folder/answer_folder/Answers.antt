use Rattle.std.proofs.Common.{◌≡◌, false, IfSome, ap, rules, subst}
use Rattle.pv_path.specs.Paths.{Path}
use Rattle.pv_folder.specs.Content.{spelled}
use Rattle.pv_folder.specs.Opening.{IsRefused, is_outer}
use Rattle.provision_run.proofs.FolderLaws.{failed_opening, keeps_after, output_from, refused_output, short_from, short_opening, told}
use Rattle.provision_run.specs.OnFolder.{before_steps}
use Rattle.provision_run.proofs.on_folder.answer_folder.Goals as goal

pub run_opened-requires-clause-ready : goal.run_opened-requires-clause-ready
run_opened-requires-clause-ready g c =
    keeps_after (spelled c.as_slice.result.now) (spelled c.args.rooted.now.folder) (g.H.Host.content c.args.host.now) (g.H.Host.content c.read_folder.new.host) c.in-Ok.image.facts c.in-Ok.image.tree.files
    (ap spelled c.as_slice.ensures) c.read_folder.ensures.kept c.in-Ok.ensures.opened c.read_folder.ensures.content

pub returns-in-Err-HostFailed-clause-output : goal.returns-in-Err-HostFailed-clause-output
returns-in-Err-HostFailed-clause-output g c =
    failed_opening (spelled c.args.rooted.now.folder) c.args.rooted.now.options c.args.clock_micros (told g.H.Host.content g.H.Host.changes g.H.Host.faults c.args.host.now) (told g.H.Host.content g.H.Host.changes g.H.Host.faults c.read_folder.new.host)
    c.new.result.items c.new.ensures.items c.read_folder.ensures.kept c.read_folder.ensures.unasked (search rules)

pub returns-in-Err-clause-output : goal.returns-in-Err-clause-output
returns-in-Err-clause-output g c =
    let outer : is_outer c.in-Err.fault ≡ false = search rules in
    refused_output (spelled c.args.rooted.now.folder) c.args.rooted.now.options c.args.clock_micros (told g.H.Host.content g.H.Host.changes g.H.Host.faults c.args.host.now) (told g.H.Host.content g.H.Host.changes g.H.Host.faults c.read_folder.new.host) c.in-Err.fault outer
    (subst (λ (p : Path). IfSome (g.H.Host.content c.args.host.now) (λ k. IsRefused p k c.in-Err.fault)) (ap spelled c.as_slice.ensures) (c.in-Err.ensures.refused outer))
    c.read_folder.ensures.kept c.read_folder.ensures.unasked c.refuse_folder.result c.refuse_folder.ensures.outcome c.refuse_folder.ensures.output

pub returns-in-Err-clause-short : goal.returns-in-Err-clause-short
returns-in-Err-clause-short g c =
    short_opening (spelled c.args.rooted.now.folder) c.args.rooted.now.options c.args.clock_micros (told g.H.Host.content g.H.Host.changes g.H.Host.faults c.args.host.now) (told g.H.Host.content g.H.Host.changes g.H.Host.faults c.read_folder.new.host)
    c.read_folder.ensures.kept c.read_folder.ensures.unasked c.refuse_folder.result

pub returns-in-Err-Memory-clause-short : goal.returns-in-Err-Memory-clause-short
returns-in-Err-Memory-clause-short g c = before_steps c.read_folder.ensures.kept c.read_folder.ensures.unasked

pub returns-in-Ok-clause-output : goal.returns-in-Ok-clause-output
returns-in-Ok-clause-output g c =
    output_from (spelled c.args.rooted.now.folder) c.args.rooted.now.options c.args.clock_micros (told g.H.Host.content g.H.Host.changes g.H.Host.faults c.args.host.now) (told g.H.Host.content g.H.Host.changes g.H.Host.faults c.read_folder.new.host)
    (told g.H.Host.content g.H.Host.changes g.H.Host.faults c.run_opened.new.host) c.read_folder.ensures.kept c.read_folder.ensures.unasked c.read_folder.ensures.never_falls c.run_opened.result c.run_opened.ensures.output

pub returns-in-Ok-clause-short : goal.returns-in-Ok-clause-short
returns-in-Ok-clause-short g c =
    short_from (spelled c.args.rooted.now.folder) c.args.rooted.now.options c.args.clock_micros (told g.H.Host.content g.H.Host.changes g.H.Host.faults c.args.host.now) (told g.H.Host.content g.H.Host.changes g.H.Host.faults c.read_folder.new.host)
    (told g.H.Host.content g.H.Host.changes g.H.Host.faults c.run_opened.new.host) c.read_folder.ensures.kept c.read_folder.ensures.unasked c.read_folder.ensures.never_falls c.run_opened.result c.run_opened.ensures.short
