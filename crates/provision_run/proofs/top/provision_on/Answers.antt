use Rattle.std.proofs.Common.{List, ℕ, subst}
use Rattle.std.proofs.KnownBytes.{Appends-nil}
use Rattle.std.specs.Io.KnownBytes.{Appends}
use Rattle.pv_folder.specs.Content.{spelled}
use Rattle.provision_run.proofs.FolderLaws.{folder_front, folder_nothing, folder_written, output_blames}
use Rattle.provision_run.proofs.top.provision_on.Goals as goal

pub returns-in_default-clause-written : goal.returns-in_default-clause-written
returns-in_default-clause-written g c =
    folder_nothing (spelled c.args.rooted.now.folder) c.args.rooted.now.options c.args.clock_micros _ _ _ _ c.in_default.ensures.short (Appends-nil (g.K.Sink.written c.args.sink.now))

pub returns-in-Ok-write_all_of-clause-written : goal.returns-in-Ok-write_all_of-clause-written
returns-in-Ok-write_all_of-clause-written g c =
    let taken = subst (λ (bytes : List ℕ). Appends (g.K.Sink.written c.args.sink.now) (g.K.Sink.written c.write_all_of.new.sink) bytes) c.deref.ensures.value c.in-Ok-write_all_of.ensures.ok in
    folder_written (spelled c.args.rooted.now.folder) c.args.rooted.now.options c.args.clock_micros _ _ c.in-Ok.answer.outcome c.in-Ok.answer.output.items _ _ c.in-Ok.ensures.output taken

pub returns-in-Ok-write_all_of-clause-folder_failed : goal.returns-in-Ok-write_all_of-clause-folder_failed
returns-in-Ok-write_all_of-clause-folder_failed g c =
    output_blames (spelled c.args.rooted.now.folder) c.args.rooted.now.options c.args.clock_micros _ _ c.in-Ok.answer.outcome c.in-Ok.answer.output.items c.in-Ok.ensures.output

pub returns-in-Err-clause-written : goal.returns-in-Err-clause-written
returns-in-Err-clause-written g c =
    folder_front (spelled c.args.rooted.now.folder) c.args.rooted.now.options c.args.clock_micros _ _ c.in-Ok.answer.outcome c.in-Ok.answer.output.items c.deref.result.now _ _
    c.deref.ensures.value c.in-Ok.ensures.output c.in-Err.ensures.prefix
