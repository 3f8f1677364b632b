use Rattle.std.proofs.Common.{◌≡◌, ◌∙◌, ap, rules}
use Rattle.pv_folder.specs.Content.{spelled}
use Rattle.provision_run.proofs.FolderLaws.{here_short, told, told_output, told_short}
use Rattle.provision_run.proofs.on_folder.run_opened.Goals as goal

pub returns-in-Ok-clause-output : goal.returns-in-Ok-clause-output
returns-in-Ok-clause-output g c =
    let tree = c.of-tree.result in
    let left = c.run_kept-ran.new.tree.host.now in
    let last : left ≡ c.host-1.given.0 = search rules in
    told_output c.args.rooted.now.options c.args.clock_micros (spelled tree.folder.items) (spelled c.args.rooted.now.folder)
    (told g.H.Host.content g.H.Host.changes g.H.Host.faults tree.host.now) (told g.H.Host.content g.H.Host.changes g.H.Host.faults c.args.host.now)
    (told g.H.Host.content g.H.Host.changes g.H.Host.faults left) (told g.H.Host.content g.H.Host.changes g.H.Host.faults c.host-1.given.0)
    (ap (λ v. spelled v.items) c.of-tree.ensures.folder ∙ ap spelled (c.in_ok-folder.ensures.items ∙ c.as_slice.ensures))
    (ap (told g.H.Host.content g.H.Host.changes g.H.Host.faults) c.of-tree.ensures.now) (ap (told g.H.Host.content g.H.Host.changes g.H.Host.faults) last)
    c.in-Ok.outcome c.run_kept-ran.new.messages c.in-Ok.ensures.answer
    c.with_messages.result c.with_messages.ensures.outcome c.with_messages.ensures.output

pub returns-in-Ok-clause-short : goal.returns-in-Ok-clause-short
returns-in-Ok-clause-short g c =
    let tree = c.of-tree.result in
    let left = c.run_kept-ran.new.tree.host.now in
    let last : left ≡ c.host-1.given.0 = search rules in
    told_short c.args.rooted.now.options c.args.clock_micros (spelled tree.folder.items) (spelled c.args.rooted.now.folder)
    (told g.H.Host.content g.H.Host.changes g.H.Host.faults tree.host.now) (told g.H.Host.content g.H.Host.changes g.H.Host.faults c.args.host.now)
    (told g.H.Host.content g.H.Host.changes g.H.Host.faults left) (told g.H.Host.content g.H.Host.changes g.H.Host.faults c.host-1.given.0)
    (ap (λ v. spelled v.items) c.of-tree.ensures.folder ∙ ap spelled (c.in_ok-folder.ensures.items ∙ c.as_slice.ensures))
    (ap (told g.H.Host.content g.H.Host.changes g.H.Host.faults) c.of-tree.ensures.now) (ap (told g.H.Host.content g.H.Host.changes g.H.Host.faults) last)
    c.in-Ok.outcome c.run_kept-ran.new.messages c.in-Ok.ensures.answer c.with_messages.result

pub returns-clause-short : goal.returns-clause-short
returns-clause-short g c =
    let tree = c.of-tree.result in
    let left = c.run_kept-ran.new.tree.host.now in
    let last : left ≡ c.host-1.given.0 = search rules in
    here_short c.args.rooted.now.options c.args.clock_micros (spelled tree.folder.items) (spelled c.args.rooted.now.folder)
    (told g.H.Host.content g.H.Host.changes g.H.Host.faults tree.host.now) (told g.H.Host.content g.H.Host.changes g.H.Host.faults c.args.host.now)
    (told g.H.Host.content g.H.Host.changes g.H.Host.faults left) (told g.H.Host.content g.H.Host.changes g.H.Host.faults c.host-1.given.0)
    (ap (λ v. spelled v.items) c.of-tree.ensures.folder ∙ ap spelled (c.in_ok-folder.ensures.items ∙ c.as_slice.ensures))
    (ap (told g.H.Host.content g.H.Host.changes g.H.Host.faults) c.of-tree.ensures.now) (ap (told g.H.Host.content g.H.Host.changes g.H.Host.faults) last)
    c.in-Err.ensures.short
