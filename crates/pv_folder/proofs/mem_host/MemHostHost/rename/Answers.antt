use Rattle.std.proofs.Common.{sym, subst}
use Rattle.pv_path.specs.Paths.{Path}
use Rattle.pv_folder.specs.Content.{May, Rename, held, spelled, Change}
use Rattle.pv_folder.specs.Memory.{content_of, Becomes}
use Rattle.pv_folder.proofs.Held.{is_content}
use Rattle.std.specs.Prelude.{OnOk}
use Rattle.pv_folder.proofs.AskingLaws.{recorded_as}
use Rattle.pv_folder.proofs.mem_host.MemHostHost.rename.Goals as goal

pub named_path-requires : goal.named_path-requires
named_path-requires c = (is_content c.args.self.now.tree.files c.args.self.now.tree.tree).names (spelled c.args.from.now) c.requires.present

pub do_recorded-requires : goal.do_recorded-requires
do_recorded-requires c =
    subst (λ (p : Path). May (held (content_of c.args.self.now.tree.files)) (Rename p c.in_ok-to.to)) (sym c.in_ok-from.ensures)
    (subst (λ (p : Path). May (held (content_of c.args.self.now.tree.files)) (Rename (spelled c.args.from.now) p)) (sym c.in_ok-to.ensures) c.requires)

pub returns-clause-done : goal.returns-clause-done
returns-clause-done c = subst (λ (change : Change). OnOk c.do_recorded.result (Becomes change c.args.self.now.tree.files c.do_recorded.new.tree.files)) (λ j. Rename (c.in_ok-from.ensures j) (c.in_ok-to.ensures j)) c.do_recorded.ensures.done

pub returns-clause-recorded : goal.returns-clause-recorded
returns-clause-recorded c = recorded_as c.do_recorded.result _ _ _ _ c.do_recorded.ensures.recorded (λ j. Rename (c.in_ok-from.ensures j) (c.in_ok-to.ensures j))
