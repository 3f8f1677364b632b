use Rattle.std.proofs.Common.{sym, subst, ap}
use Rattle.pv_path.specs.Paths.{Path}
use Rattle.pv_folder.specs.Content.{May, MakeDir, held, Change}
use Rattle.pv_folder.specs.Memory.{content_of, Becomes}
use Rattle.std.specs.Prelude.{OnOk}
use Rattle.pv_folder.proofs.AskingLaws.{recorded_as}
use Rattle.pv_folder.proofs.mem_host.MemHostHost.make_dir.Goals as goal

pub named_path-requires : goal.named_path-requires
named_path-requires c = c.requires.1.1

pub do_recorded-requires : goal.do_recorded-requires
do_recorded-requires c = subst (λ (p : Path). May (held (content_of c.args.self.now.tree.files)) (MakeDir p)) (sym c.in_ok-path.ensures) c.requires

pub returns-clause-done : goal.returns-clause-done
returns-clause-done c = subst (λ (change : Change). OnOk c.do_recorded.result (Becomes change c.args.self.now.tree.files c.do_recorded.new.tree.files)) (ap MakeDir c.in_ok-path.ensures) c.do_recorded.ensures.done

pub returns-clause-recorded : goal.returns-clause-recorded
returns-clause-recorded c = recorded_as c.do_recorded.result _ _ _ _ c.do_recorded.ensures.recorded (ap MakeDir c.in_ok-path.ensures)
