use Rattle.std.proofs.Common.{map, string_bytes}
use Rattle.std.proofs.KnownBytes.{Appends-nil}
use Rattle.pv_folder.specs.Content.{spelled}
use Rattle.pv_words.specs.Rooted.{rooted_of}
use Rattle.provision_run.proofs.FolderLaws.{folder_not_read, folder_not_usage, told}
use Rattle.provision_run.proofs.RootedLaws.{generate_unrooted}
use Rattle.provision_run.proofs.TopLaws.{of_any, rooted_not_none}
use Rattle.provision_run.proofs.WrittenLaws.{generated_nothing}
use Rattle.provision_run.proofs.top.provision_all.Goals as goal

pub returns-in-Ok-clause-usage : goal.returns-in-Ok-clause-usage
returns-in-Ok-clause-usage g c = λ e.
    absurd (folder_not_usage (spelled c.in-Ok.rooted.folder) c.in-Ok.rooted.options c.args.clock_micros _ _ c.provision_on.result _ _ c.provision_on.ensures.written e)

pub returns-in-Ok-clause-generated : goal.returns-in-Ok-clause-generated
returns-in-Ok-clause-generated g c = λ seed count e.
    absurd (rooted_not_none (rooted_of (map string_bytes c.args.words.now)) c.in-Ok.rooted c.in-Ok.ensures (generate_unrooted (map string_bytes c.args.words.now) seed count e))

pub returns-in-Ok-clause-read_fault : goal.returns-in-Ok-clause-read_fault
returns-in-Ok-clause-read_fault g c = λ e.
    absurd (folder_not_read (spelled c.in-Ok.rooted.folder) c.in-Ok.rooted.options c.args.clock_micros _ _ c.provision_on.result _ _ c.provision_on.ensures.written e)

pub returns-in-Err-Memory-clause-on_folder : goal.returns-in-Err-Memory-clause-on_folder
returns-in-Err-Memory-clause-on_folder g c =
    of_any (rooted_of (map string_bytes c.args.words.now)) c.args.clock_micros (told g.H.Host.content g.H.Host.changes g.H.Host.faults c.args.host.now) _ _ (Appends-nil (g.K.Sink.written c.args.sink.now))

pub returns-in-Err-Memory-clause-generated : goal.returns-in-Err-Memory-clause-generated
returns-in-Err-Memory-clause-generated g c = λ seed count e. generated_nothing seed count _ _ (Appends-nil (g.K.Sink.written c.args.sink.now))
