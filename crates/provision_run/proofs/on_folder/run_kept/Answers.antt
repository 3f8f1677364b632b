use Rattle.std.specs.Prelude.{◌≡◌, ◌⊎◌, Some, IfSome}
use Rattle.std.proofs.Common.{ap, subst, sym}
use Rattle.pv_io.specs.Faults.{HasRisen}
use Rattle.pv_steps.specs.Trees.{Files}
use Rattle.pv_tree.specs.Held.{Held}
use Rattle.pv_folder.specs.Content.{Content, File, held, spelled}
use Rattle.pv_folder.specs.Folders.{manifest_path}
use Rattle.pv_folder.specs.Manifest.{manifest_of}
use Rattle.provision_run.proofs.FolderLaws.{closed_less, kept_answer, kept_less, told}
use Rattle.provision_run.proofs.on_folder.run_kept.Goals as goal

pub returns-clause-answer : goal.returns-clause-answer
returns-clause-answer g c =
    let old = c.args.tree.now in
    let mid = c.run_limited-ran.new.tree in
    kept_answer (spelled old.folder.items) c.args.options.now c.args.clock_micros (told g.H.Host.content g.H.Host.changes g.H.Host.faults old.host.now) (told g.H.Host.content g.H.Host.changes g.H.Host.faults c.close_folder-closed.new.tree.host.now)
    c.args.facts.now old.tree.files mid.tree.files c.unwrap_or-moment.result c.run_limited-ran.result c.is_pending-pending.result c.close_folder-closed.result c.run_limited-ran.new.messages
    (spelled mid.folder.items) (g.H.Host.content mid.host.now) (g.H.Host.changes mid.host.now) (g.H.Host.faults mid.host.now) old.pending mid.pending old.tree.steps mid.tree.steps c.requires.fresh
    c.unwrap_or-moment.ensures (old.tree.tree, c.requires.opened) c.run_limited-ran.ensures.run c.run_limited-ran.ensures.failed c.run_limited-ran.ensures.left c.run_limited-ran.ensures.counted
    c.requires.settled c.run_limited-ran.ensures.reaches.1 c.is_pending-pending.ensures.pending c.is_pending-pending.ensures.agrees
    c.close_folder-closed.ensures.done c.close_folder-closed.ensures.image c.close_folder-closed.ensures.kept c.close_folder-closed.ensures.asked c.close_folder-closed.ensures.part c.close_folder-closed.ensures.never_falls c.close_folder-closed.ensures.count
    c.outcome_of.result c.outcome_of.ensures.ends

pub returns-clause-short : goal.returns-clause-short
returns-clause-short g c =
    let old = c.args.tree.now in
    let mid = c.run_limited-ran.new.tree in
    kept_less (spelled old.folder.items) c.args.options.now c.args.clock_micros (told g.H.Host.content g.H.Host.changes g.H.Host.faults old.host.now) (told g.H.Host.content g.H.Host.changes g.H.Host.faults c.close_folder-closed.new.tree.host.now)
    c.args.facts.now old.tree.files mid.tree.files c.unwrap_or-moment.result c.run_limited-ran.result c.is_pending-pending.result c.close_folder-closed.result c.run_limited-ran.new.messages
    (spelled mid.folder.items) (g.H.Host.content mid.host.now) (g.H.Host.changes mid.host.now) (g.H.Host.faults mid.host.now) old.pending mid.pending old.tree.steps mid.tree.steps c.requires.fresh
    c.unwrap_or-moment.ensures (old.tree.tree, c.requires.opened) c.run_limited-ran.ensures.run c.run_limited-ran.ensures.failed c.run_limited-ran.ensures.left c.run_limited-ran.ensures.counted
    c.requires.settled c.run_limited-ran.ensures.reaches.1 c.is_pending-pending.ensures.pending c.is_pending-pending.ensures.agrees
    c.close_folder-closed.ensures.done c.close_folder-closed.ensures.image c.close_folder-closed.ensures.kept c.close_folder-closed.ensures.asked c.close_folder-closed.ensures.part c.close_folder-closed.ensures.never_falls c.close_folder-closed.ensures.count
    c.outcome_of.result

pub returns-clause-closed : goal.returns-clause-closed
returns-clause-closed g c = λ in_run.
    let old = c.args.tree.now in
    let mid = c.run_limited-ran.new.tree in
    let new = told g.H.Host.content g.H.Host.changes g.H.Host.faults c.close_folder-closed.new.tree.host.now in
    subst (λ (t : Files). IfSome new.content (λ (x : Content). held x (manifest_path (spelled old.folder.items)) ≡ Some (File (manifest_of c.args.facts.now t)))
    ⊎ HasRisen (g.H.Host.faults old.host.now) new.faults)
    (sym (ap (λ (t : Held). t.files) c.close_folder-closed.ensures.tree))
    (closed_less (spelled old.folder.items) c.args.options.now c.args.clock_micros (told g.H.Host.content g.H.Host.changes g.H.Host.faults old.host.now) (told g.H.Host.content g.H.Host.changes g.H.Host.faults c.close_folder-closed.new.tree.host.now)
    c.args.facts.now old.tree.files mid.tree.files c.unwrap_or-moment.result c.run_limited-ran.result c.is_pending-pending.result c.close_folder-closed.result c.run_limited-ran.new.messages
    (spelled mid.folder.items) (g.H.Host.content mid.host.now) (g.H.Host.changes mid.host.now) (g.H.Host.faults mid.host.now) old.pending mid.pending old.tree.steps mid.tree.steps c.requires.fresh
    c.unwrap_or-moment.ensures (old.tree.tree, c.requires.opened) c.run_limited-ran.ensures.run c.run_limited-ran.ensures.failed c.run_limited-ran.ensures.left c.run_limited-ran.ensures.counted
    c.requires.settled c.run_limited-ran.ensures.reaches.1 c.is_pending-pending.ensures.pending c.is_pending-pending.ensures.agrees
    c.close_folder-closed.ensures.done c.close_folder-closed.ensures.image c.close_folder-closed.ensures.kept c.close_folder-closed.ensures.asked c.close_folder-closed.ensures.part c.close_folder-closed.ensures.never_falls c.close_folder-closed.ensures.count
    (c.outcome_of.ensures.in_run in_run))
