use Rattle.std.proofs.Common.{◌≡◌, ◌∷◌, [], Ok, OnOk, drop, length, refl, subst, sym}
use Rattle.pv_steps.specs.Courses.{HasGone}
use Rattle.pv_steps.specs.declared.carried.Carried.TheVariants.{Whole}
use Rattle.pv_steps.proofs.CourseLaws.{part_none}
use Rattle.pv_steps.specs.Acting.{refused, Acted}
use Rattle.pv_steps.proofs.ActingLaws.{acted_ended, acted_passed}
use Rattle.provision_run.specs.Phases.{is_step_of, RecoversBy, left_by, most_steps_of, on_way, phase_cut}
use Rattle.provision_run.specs.declared.phase.Phase.{Phase}
use Rattle.provision_run.specs.declared.phase.Phase.TheVariants.{Remove, Clean, Purge}
use Rattle.provision_run.proofs.PhaseLaws.{quiet_gone}
use Rattle.provision_run.proofs.phase.do_phase.Goals as goal

pub returns-in-Remove-clause-ok : goal.returns-in-Remove-clause-ok
returns-in-Remove-clause-ok g c =
    let t = g.T.Tree.state c.args.tree.now in
    let now = c.args.now in
    let table = c.args.table.now in
    subst (λ (p : Phase). OnOk c.remove_run.result (g.T.Tree.state c.remove_run.new.tree ≡ left_by table now p t)) (sym c.in-Remove.is)
    c.remove_run.ensures.run.ok

pub returns-in-Remove-clause-acted : goal.returns-in-Remove-clause-acted
returns-in-Remove-clause-acted g c =
    let t = g.T.Tree.state c.args.tree.now in
    let now = c.args.now in
    let table = c.args.table.now in
    subst (λ (p : Phase). Acted g.T.Tree (on_way table now p t) (is_step_of table now p t) (most_steps_of table now p t) now c.args.tree.now c.remove_run.new.tree c.remove_run.result) (sym c.in-Remove.is)
    c.remove_run.ensures.run.acted

pub returns-in-Remove-clause-recovers : goal.returns-in-Remove-clause-recovers
returns-in-Remove-clause-recovers g c =
    let t = g.T.Tree.state c.args.tree.now in
    let now = c.args.now in
    let table = c.args.table.now in
    subst (λ (p : Phase). RecoversBy (p ∷ []) table now t (drop (length (g.T.Tree.steps c.args.tree.now)) (g.T.Tree.steps c.remove_run.new.tree))) (sym c.in-Remove.is)
    c.remove_run.ensures.recovers

pub returns-in-Purge-clause-ok : goal.returns-in-Purge-clause-ok
returns-in-Purge-clause-ok g c =
    let t = g.T.Tree.state c.args.tree.now in
    let now = c.args.now in
    let table = c.args.table.now in
    subst (λ (p : Phase). OnOk c.purge_run.result (g.T.Tree.state c.purge_run.new.tree ≡ left_by table now p t)) (sym c.in-Purge.is)
    c.purge_run.ensures.run.ok

pub returns-in-Purge-clause-acted : goal.returns-in-Purge-clause-acted
returns-in-Purge-clause-acted g c =
    let t = g.T.Tree.state c.args.tree.now in
    let now = c.args.now in
    let table = c.args.table.now in
    subst (λ (p : Phase). Acted g.T.Tree (on_way table now p t) (is_step_of table now p t) (most_steps_of table now p t) now c.args.tree.now c.purge_run.new.tree c.purge_run.result) (sym c.in-Purge.is)
    c.purge_run.ensures.run.acted

pub returns-in-Purge-clause-recovers : goal.returns-in-Purge-clause-recovers
returns-in-Purge-clause-recovers g c =
    let t = g.T.Tree.state c.args.tree.now in
    let now = c.args.now in
    let table = c.args.table.now in
    subst (λ (p : Phase). RecoversBy (p ∷ []) table now t (drop (length (g.T.Tree.steps c.args.tree.now)) (g.T.Tree.steps c.purge_run.new.tree))) (sym c.in-Purge.is)
    c.purge_run.ensures.recovers

pub returns-in-Create-clause-acted : goal.returns-in-Create-clause-acted
returns-in-Create-clause-acted g c =
    let t = g.T.Tree.state c.args.tree.now in
    let now = c.args.now in
    let table = c.args.table.now in
    subst (λ (p : Phase). Acted g.T.Tree (on_way table now p t) (is_step_of table now p t) (most_steps_of table now p t) now c.args.tree.now c.create_run.new.tree c.create_run.result) (sym c.in-Create.is)
    c.create_run.ensures.acted

pub returns-in_err-clean_run-in-Clean-clause-acted : goal.returns-in_err-clean_run-in-Clean-clause-acted
returns-in_err-clean_run-in-Clean-clause-acted g c =
    let t = g.T.Tree.state c.args.tree.now in
    let now = c.args.now in
    let table = c.args.table.now in
    acted_passed g.T.Tree c.clean_run.result c.from_residual.result c.in_err-clean_run-in-Clean.was c.from_residual.ensures.1
    (subst (λ (p : Phase). Acted g.T.Tree (on_way table now p t) (is_step_of table now p t) (most_steps_of table now p t) now c.args.tree.now c.clean_run.new.tree c.clean_run.result) (sym c.in-Clean.is)
    c.clean_run.ensures.acted)

pub returns-in_ok-clean_run-in-Clean-clause-ok : goal.returns-in_ok-clean_run-in-Clean-clause-ok
returns-in_ok-clean_run-in-Clean-clause-ok g c =
    let t = g.T.Tree.state c.args.tree.now in
    let now = c.args.now in
    let table = c.args.table.now in
    subst (λ (p : Phase). g.T.Tree.state c.clean_run.new.tree ≡ left_by table now p t) (sym c.in-Clean.is)
    c.in_ok-clean_run-in-Clean.ensures.ok

pub returns-in_ok-clean_run-in-Clean-clause-acted : goal.returns-in_ok-clean_run-in-Clean-clause-acted
returns-in_ok-clean_run-in-Clean-clause-acted g c =
    let t = g.T.Tree.state c.args.tree.now in
    let now = c.args.now in
    let table = c.args.table.now in
    acted_ended g.T.Tree {x = c.in_ok-clean_run-in-Clean.field-0} _ refl
    (subst (λ (p : Phase). Acted g.T.Tree (on_way table now p t) (is_step_of table now p t) (most_steps_of table now p t) now c.args.tree.now c.clean_run.new.tree (Ok c.in_ok-clean_run-in-Clean.field-0)) (sym c.in-Clean.is)
    c.in_ok-clean_run-in-Clean.ensures.acted)

pub returns-in-Remove-clause-went : goal.returns-in-Remove-clause-went
returns-in-Remove-clause-went g c =
    let t = g.T.Tree.state c.args.tree.now in
    let now = c.args.now in
    let r = c.remove_run.result in
    let run = c.remove_run.ensures.run in
    subst (λ (p : Phase). HasGone g.T.Tree (phase_cut c.args.table.now now (refused r) p t) now c.args.tree.now c.remove_run.new.tree c.args.messages.now c.remove_run.new.messages) (sym c.in-Remove.is)
    (quiet_gone g.T.Tree c.args.table.now now Remove c.args.tree.now c.remove_run.new.tree c.args.messages.now c.remove_run.new.messages r run.silent run.part run.acted)

pub returns-in-Purge-clause-went : goal.returns-in-Purge-clause-went
returns-in-Purge-clause-went g c =
    let t = g.T.Tree.state c.args.tree.now in
    let now = c.args.now in
    let r = c.purge_run.result in
    let run = c.purge_run.ensures.run in
    subst (λ (p : Phase). HasGone g.T.Tree (phase_cut c.args.table.now now (refused r) p t) now c.args.tree.now c.purge_run.new.tree c.args.messages.now c.purge_run.new.messages) (sym c.in-Purge.is)
    (quiet_gone g.T.Tree c.args.table.now now Purge c.args.tree.now c.purge_run.new.tree c.args.messages.now c.purge_run.new.messages r run.silent run.part run.acted)

pub returns-in-Create-clause-went : goal.returns-in-Create-clause-went
returns-in-Create-clause-went g c =
    let t = g.T.Tree.state c.args.tree.now in
    let now = c.args.now in
    subst (λ (p : Phase). HasGone g.T.Tree (phase_cut c.args.table.now now (refused c.create_run.result) p t) now c.args.tree.now c.create_run.new.tree c.args.messages.now c.create_run.new.messages) (sym c.in-Create.is)
    c.create_run.ensures.went

pub returns-in_err-clean_run-in-Clean-clause-went : goal.returns-in_err-clean_run-in-Clean-clause-went
returns-in_err-clean_run-in-Clean-clause-went g c =
    let t = g.T.Tree.state c.args.tree.now in
    let now = c.args.now in
    let ms = c.args.messages.now in
    let r = c.from_residual.result in
    subst (λ (p : Phase). HasGone g.T.Tree (phase_cut c.args.table.now now (refused r) p t) now c.args.tree.now c.clean_run.new.tree ms ms) (sym c.in-Clean.is)
    (quiet_gone g.T.Tree c.args.table.now now Clean c.args.tree.now c.clean_run.new.tree ms ms r (λ failed. refl) (part_none [] ms)
    (acted_passed g.T.Tree c.clean_run.result r c.in_err-clean_run-in-Clean.was c.from_residual.ensures.1 c.clean_run.ensures.acted))

pub returns-in_ok-clean_run-in-Clean-clause-went : goal.returns-in_ok-clean_run-in-Clean-clause-went
returns-in_ok-clean_run-in-Clean-clause-went g c =
    let t = g.T.Tree.state c.args.tree.now in
    let now = c.args.now in
    let ms = c.args.messages.now in
    subst (λ (p : Phase). HasGone g.T.Tree (phase_cut c.args.table.now now 0 p t) now c.args.tree.now c.clean_run.new.tree ms ms) (sym c.in-Clean.is)
    (quiet_gone g.T.Tree c.args.table.now now Clean c.args.tree.now c.clean_run.new.tree ms ms (Ok Whole) (λ failed. refl) (part_none [] ms)
    (acted_ended g.T.Tree {x = c.in_ok-clean_run-in-Clean.field-0} (Ok Whole) refl c.in_ok-clean_run-in-Clean.ensures.acted))
