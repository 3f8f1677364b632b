use Rattle.std.proofs.Common.{subst}
use Rattle.std.specs.Prelude.{OnOk}
use Rattle.pv_folder.specs.Content.{Change, WriteFile}
use Rattle.pv_folder.specs.Memory.{Becomes}
use Rattle.pv_folder.proofs.AskingLaws.{recorded_as}
use Rattle.pv_folder.proofs.mem_host.MemHostHost.write_file.Goals as goal

pub named_path-requires : goal.named_path-requires
named_path-requires c = c.requires.1.1

pub returns-clause-done : goal.returns-clause-done
returns-clause-done c = subst (λ (change : Change). OnOk c.do_recorded.result (Becomes change c.args.self.now.tree.files c.do_recorded.new.tree.files)) (λ j. WriteFile (c.in_ok-path.ensures j) (c.in_ok-bytes.ensures j)) c.do_recorded.ensures.done

pub returns-clause-recorded : goal.returns-clause-recorded
returns-clause-recorded c = recorded_as c.do_recorded.result _ _ _ _ c.do_recorded.ensures.recorded (λ j. WriteFile (c.in_ok-path.ensures j) (c.in_ok-bytes.ensures j))
