use Rattle.std.proofs.Common.{◌≡◌, ◌∙◌, ◌≤◌, List, drop, length, get_or, arith, refl, subst, sym}
use Rattle.std.proofs.lemmas.List.{get_or_default}
use Rattle.pv_steps.specs.Courses.{Cut, HasGone, IsStepOfSome, Partway}
use Rattle.pv_steps.specs.Acting.{refused, Acted}
use Rattle.pv_steps.specs.Doing.{taken_by_each}
use Rattle.pv_steps.proofs.ActingLaws.{Moves, acted_passed}
use Rattle.provision_run.specs.PhasesOnTheWay.{GiveBy, IsBetweenBy}
use Rattle.provision_run.specs.Phases.{falls_short, phases_course}
use Rattle.provision_run.specs.PhasesSwept.{IsSweptBy}
use Rattle.provision_run.specs.declared.phase.Phase.{Phase}
use Rattle.provision_run.specs.declared.phase.Phase.TheVariants.{Remove}
use Rattle.provision_run.proofs.PhaseFrameLaws.{phases_framed}
use Rattle.provision_run.proofs.PhaseLaws.{boot_is, phases_start, phases_part, phases_acted, phases_gone, phases_recovered, phases_recover, phases_next, phases_whole, phases_messages, phases_told, phases_ended, phases_done, phases_went}
use Rattle.provision_run.proofs.SweptLaws.{phases_swept}
use Rattle.provision_run.proofs.WayLaws.{phases_between, phases_give}
use Rattle.provision_run.proofs.phase.run_phases.Goals as goal

pub returns-then-is_boot-clause-acted : goal.returns-then-is_boot-clause-acted
returns-then-is_boot-clause-acted g c =
    let now = c.args.now in
    let lines = c.args.table.now in
    let t = g.T.Tree.state c.args.tree.now in
    subst (λ (ps : List Phase). Acted g.T.Tree (Partway (phases_course lines now) ps t) (IsStepOfSome (phases_course lines now) ps t) (taken_by_each (phases_course lines now).whole ps t) now c.args.tree.now c.boot_run.new.tree c.boot_run.result)
    (sym (boot_is c.args.phases.now (sym c.is_boot.ensures ∙ c.if-is_boot.true))) c.boot_run.ensures.acted

pub returns-then-is_boot-clause-went : goal.returns-then-is_boot-clause-went
returns-then-is_boot-clause-went g c =
    let now = c.args.now in
    let t = g.T.Tree.state c.args.tree.now in
    subst (λ (ps : List Phase). HasGone g.T.Tree (Cut (phases_course c.args.table.now now) now (refused c.boot_run.result) ps t) now c.args.tree.now c.boot_run.new.tree c.args.messages.now c.boot_run.new.messages)
    (sym (boot_is c.args.phases.now (sym c.is_boot.ensures ∙ c.if-is_boot.true))) c.boot_run.ensures.went

pub loop-phase-init : goal.loop-phase-init
loop-phase-init g c =
    let moves : Moves g.T.Tree = record { stays = g.met.T.Tree.reaches_self; goes_on = g.met.T.Tree.reaches_on; never_falls = g.met.T.Tree.never_falls } in
    phases_start g.T.Tree moves c.args.table.now c.args.now c.args.phases.now c.args.tree.now c.args.messages.now c.ranges.now.fits (g.met.T.Tree.is_tree c.args.tree.now)

pub returns-in_err-one-clause-part : goal.returns-in_err-one-clause-part
returns-in_err-one-clause-part g c =
    let moves : Moves g.T.Tree = record { stays = g.met.T.Tree.reaches_self; goes_on = g.met.T.Tree.reaches_on; never_falls = g.met.T.Tree.never_falls } in
    let i = c.loop-phase.phase-index in
    let phase : Phase = get_or c.args.phases.now i Remove in
    let is : phase ≡ get_or c.args.phases.now i phase = get_or_default c.args.phases.now i Remove phase c.loop-phase-test.true in
    phases_part g.T.Tree moves c.args.table.now c.args.now c.args.phases.now c.args.tree.now c.args.messages.now i phase c.loop-phase-test.true is c.loop-phase.carried c.loop-phase.tree c.loop-phase.messages c.loop-phase.invariant
    c.do_phase.new.messages c.do_phase.ensures.part

pub returns-in_err-one-clause-went : goal.returns-in_err-one-clause-went
returns-in_err-one-clause-went g c =
    let moves : Moves g.T.Tree = record { stays = g.met.T.Tree.reaches_self; goes_on = g.met.T.Tree.reaches_on; never_falls = g.met.T.Tree.never_falls } in
    let i = c.loop-phase.phase-index in
    let phase : Phase = get_or c.args.phases.now i Remove in
    let is : phase ≡ get_or c.args.phases.now i phase = get_or_default c.args.phases.now i Remove phase c.loop-phase-test.true in
    phases_gone g.T.Tree moves c.args.table.now c.args.now c.args.phases.now c.args.tree.now c.args.messages.now i phase c.loop-phase-test.true is c.loop-phase.carried c.loop-phase.tree c.loop-phase.messages c.loop-phase.invariant
    c.do_phase.new.tree c.do_phase.new.messages c.do_phase.result c.from_residual.result c.in_err-one.was c.from_residual.ensures.1 c.do_phase.ensures.went

pub returns-in_err-one-clause-acted : goal.returns-in_err-one-clause-acted
returns-in_err-one-clause-acted g c =
    let moves : Moves g.T.Tree = record { stays = g.met.T.Tree.reaches_self; goes_on = g.met.T.Tree.reaches_on; never_falls = g.met.T.Tree.never_falls } in
    let i = c.loop-phase.phase-index in
    let phase : Phase = get_or c.args.phases.now i Remove in
    let is : phase ≡ get_or c.args.phases.now i phase = get_or_default c.args.phases.now i Remove phase c.loop-phase-test.true in
    acted_passed g.T.Tree c.do_phase.result c.from_residual.result c.in_err-one.was c.from_residual.ensures.1
    (phases_acted g.T.Tree moves c.args.table.now c.args.now c.args.phases.now c.args.tree.now c.args.messages.now i phase c.loop-phase-test.true is c.loop-phase.carried c.loop-phase.tree c.loop-phase.messages c.loop-phase.invariant c.do_phase.ensures.acted)

pub returns-in_err-one-clause-recovers : goal.returns-in_err-one-clause-recovers
returns-in_err-one-clause-recovers g c =
    let moves : Moves g.T.Tree = record { stays = g.met.T.Tree.reaches_self; goes_on = g.met.T.Tree.reaches_on; never_falls = g.met.T.Tree.never_falls } in
    let i = c.loop-phase.phase-index in
    let phase : Phase = get_or c.args.phases.now i Remove in
    let is : phase ≡ get_or c.args.phases.now i phase = get_or_default c.args.phases.now i Remove phase c.loop-phase-test.true in
    phases_recover c.args.table.now c.args.now (g.T.Tree.state c.args.tree.now) (drop (length (g.T.Tree.steps c.args.tree.now)) (g.T.Tree.steps c.do_phase.new.tree)) c.args.phases.now (sym c.is_boot.ensures ∙ c.if-is_boot.false)
    (phases_recovered g.T.Tree moves c.args.table.now c.args.now c.args.phases.now c.args.tree.now c.args.messages.now i phase c.loop-phase-test.true is c.loop-phase.carried c.loop-phase.tree c.loop-phase.messages c.loop-phase.invariant
    c.do_phase.new.tree c.do_phase.ensures.recovers)

pub returns-in_err-one-clause-framed : goal.returns-in_err-one-clause-framed
returns-in_err-one-clause-framed g c =
    let moves : Moves g.T.Tree = record { stays = g.met.T.Tree.reaches_self; goes_on = g.met.T.Tree.reaches_on; never_falls = g.met.T.Tree.never_falls } in
    let i = c.loop-phase.phase-index in
    let phase : Phase = get_or c.args.phases.now i Remove in
    let is : phase ≡ get_or c.args.phases.now i phase = get_or_default c.args.phases.now i Remove phase c.loop-phase-test.true in
    let t = g.T.Tree.state c.args.tree.now in
    phases_framed c.args.table.now c.lines-lines.ensures.whole c.args.now c.args.phases.now (IsStepOfSome (phases_course c.args.table.now c.args.now) c.args.phases.now t) t
    (g.T.Tree.steps c.args.tree.now) (g.T.Tree.state c.do_phase.new.tree) (g.T.Tree.steps c.do_phase.new.tree) (g.met.T.Tree.is_tree c.args.tree.now)
    (phases_acted g.T.Tree moves c.args.table.now c.args.now c.args.phases.now c.args.tree.now c.args.messages.now i phase c.loop-phase-test.true is c.loop-phase.carried c.loop-phase.tree c.loop-phase.messages c.loop-phase.invariant c.do_phase.ensures.acted).ran

pub loop-phase-preserved : goal.loop-phase-preserved
loop-phase-preserved g c =
    let moves : Moves g.T.Tree = record { stays = g.met.T.Tree.reaches_self; goes_on = g.met.T.Tree.reaches_on; never_falls = g.met.T.Tree.never_falls } in
    let i = c.loop-phase.phase-index in
    let phase : Phase = get_or c.args.phases.now i Remove in
    let is : phase ≡ get_or c.args.phases.now i phase = get_or_default c.args.phases.now i Remove phase c.loop-phase-test.true in
    phases_next g.T.Tree moves c.args.table.now c.args.now c.args.phases.now c.args.tree.now c.args.messages.now i phase c.loop-phase-test.true is c.loop-phase.carried c.loop-phase.tree c.loop-phase.messages c.loop-phase.invariant
    c.do_phase.new.tree c.do_phase.new.messages c.and-carried.result c.in_ok-one.ensures.ok c.in_ok-one.ensures.new_messages c.in_ok-one.ensures.acted c.in_ok-one.ensures.went c.in_ok-one.ensures.recovers
    (λ yet ended. c.and-carried.ensures yet (falls_short c.args.table.now c.args.now phase (g.T.Tree.state c.loop-phase.tree)) ended c.in_ok-one.ensures.carried)

pub returns-clause-ok : goal.returns-clause-ok
returns-clause-ok g c =
    let moves : Moves g.T.Tree = record { stays = g.met.T.Tree.reaches_self; goes_on = g.met.T.Tree.reaches_on; never_falls = g.met.T.Tree.never_falls } in
    let past : length c.args.phases.now ≤ c.loop-phase.phase-index = omega (arith, c.loop-phase-test.false) in
    phases_whole g.T.Tree moves c.args.table.now c.args.now c.args.phases.now c.args.tree.now c.args.messages.now c.loop-phase.phase-index past c.loop-phase.carried c.loop-phase.tree c.loop-phase.messages c.loop-phase.invariant

pub returns-clause-new_messages : goal.returns-clause-new_messages
returns-clause-new_messages g c =
    let moves : Moves g.T.Tree = record { stays = g.met.T.Tree.reaches_self; goes_on = g.met.T.Tree.reaches_on; never_falls = g.met.T.Tree.never_falls } in
    let past : length c.args.phases.now ≤ c.loop-phase.phase-index = omega (arith, c.loop-phase-test.false) in
    phases_messages g.T.Tree moves c.args.table.now c.args.now c.args.phases.now c.args.tree.now c.args.messages.now c.loop-phase.phase-index past c.loop-phase.carried c.loop-phase.tree c.loop-phase.messages c.loop-phase.invariant

pub returns-clause-carried : goal.returns-clause-carried
returns-clause-carried g c =
    let moves : Moves g.T.Tree = record { stays = g.met.T.Tree.reaches_self; goes_on = g.met.T.Tree.reaches_on; never_falls = g.met.T.Tree.never_falls } in
    let past : length c.args.phases.now ≤ c.loop-phase.phase-index = omega (arith, c.loop-phase-test.false) in
    phases_ended g.T.Tree moves c.args.table.now c.args.now c.args.phases.now c.args.tree.now c.args.messages.now c.loop-phase.phase-index past c.loop-phase.carried c.loop-phase.tree c.loop-phase.messages c.loop-phase.invariant

pub returns-clause-staged : goal.returns-clause-staged
returns-clause-staged g c =
    let moves : Moves g.T.Tree = record { stays = g.met.T.Tree.reaches_self; goes_on = g.met.T.Tree.reaches_on; never_falls = g.met.T.Tree.never_falls } in
    let past : length c.args.phases.now ≤ c.loop-phase.phase-index = omega (arith, c.loop-phase-test.false) in
    let t = g.T.Tree.state c.args.tree.now in
    subst (IsSweptBy c.args.phases.now c.args.table.now c.args.now t)
    (sym (phases_whole g.T.Tree moves c.args.table.now c.args.now c.args.phases.now c.args.tree.now c.args.messages.now c.loop-phase.phase-index past c.loop-phase.carried c.loop-phase.tree c.loop-phase.messages c.loop-phase.invariant))
    (phases_swept c.args.table.now c.lines-lines.ensures.whole c.args.now c.args.phases.now t)

pub returns-clause-part : goal.returns-clause-part
returns-clause-part g c =
    let moves : Moves g.T.Tree = record { stays = g.met.T.Tree.reaches_self; goes_on = g.met.T.Tree.reaches_on; never_falls = g.met.T.Tree.never_falls } in
    let past : length c.args.phases.now ≤ c.loop-phase.phase-index = omega (arith, c.loop-phase-test.false) in
    phases_told g.T.Tree moves c.args.table.now c.args.now c.args.phases.now c.args.tree.now c.args.messages.now c.loop-phase.phase-index past c.loop-phase.carried c.loop-phase.tree c.loop-phase.messages c.loop-phase.invariant

pub returns-clause-acted : goal.returns-clause-acted
returns-clause-acted g c =
    let moves : Moves g.T.Tree = record { stays = g.met.T.Tree.reaches_self; goes_on = g.met.T.Tree.reaches_on; never_falls = g.met.T.Tree.never_falls } in
    let past : length c.args.phases.now ≤ c.loop-phase.phase-index = omega (arith, c.loop-phase-test.false) in
    phases_done g.T.Tree moves c.args.table.now c.args.now c.args.phases.now c.args.tree.now c.args.messages.now c.loop-phase.phase-index past c.loop-phase.carried c.loop-phase.tree c.loop-phase.messages c.loop-phase.invariant _ refl

pub returns-clause-went : goal.returns-clause-went
returns-clause-went g c =
    let moves : Moves g.T.Tree = record { stays = g.met.T.Tree.reaches_self; goes_on = g.met.T.Tree.reaches_on; never_falls = g.met.T.Tree.never_falls } in
    let past : length c.args.phases.now ≤ c.loop-phase.phase-index = omega (arith, c.loop-phase-test.false) in
    phases_went g.T.Tree moves c.args.table.now c.args.now c.args.phases.now c.args.tree.now c.args.messages.now c.loop-phase.phase-index past c.loop-phase.carried c.loop-phase.tree c.loop-phase.messages c.loop-phase.invariant

pub returns-clause-recovers : goal.returns-clause-recovers
returns-clause-recovers g c =
    phases_recover c.args.table.now c.args.now (g.T.Tree.state c.args.tree.now) (drop (length (g.T.Tree.steps c.args.tree.now)) (g.T.Tree.steps c.loop-phase.tree)) c.args.phases.now (sym c.is_boot.ensures ∙ c.if-is_boot.false) c.loop-phase.invariant.recovering.law

pub returns-clause-framed : goal.returns-clause-framed
returns-clause-framed g c =
    let t = g.T.Tree.state c.args.tree.now in
    phases_framed c.args.table.now c.lines-lines.ensures.whole c.args.now c.args.phases.now (IsStepOfSome (phases_course c.args.table.now c.args.now) c.args.phases.now t) t
    (g.T.Tree.steps c.args.tree.now) (g.T.Tree.state c.loop-phase.tree) (g.T.Tree.steps c.loop-phase.tree) (g.met.T.Tree.is_tree c.args.tree.now)
    c.loop-phase.invariant.going.acted.ran

pub returns-in_err-one-clause-between : goal.returns-in_err-one-clause-between
returns-in_err-one-clause-between g c =
    let moves : Moves g.T.Tree = record { stays = g.met.T.Tree.reaches_self; goes_on = g.met.T.Tree.reaches_on; never_falls = g.met.T.Tree.never_falls } in
    let i = c.loop-phase.phase-index in
    let phase : Phase = get_or c.args.phases.now i Remove in
    let is : phase ≡ get_or c.args.phases.now i phase = get_or_default c.args.phases.now i Remove phase c.loop-phase-test.true in
    phases_between c.args.table.now c.lines-lines.ensures.whole c.args.now (g.T.Tree.state c.args.tree.now)
    (g.T.Tree.steps c.args.tree.now) (g.T.Tree.state c.do_phase.new.tree) (g.T.Tree.steps c.do_phase.new.tree) c.ranges.now.fits (g.met.T.Tree.is_tree c.args.tree.now) c.args.phases.now
    (phases_acted g.T.Tree moves c.args.table.now c.args.now c.args.phases.now c.args.tree.now c.args.messages.now i phase c.loop-phase-test.true is c.loop-phase.carried c.loop-phase.tree c.loop-phase.messages c.loop-phase.invariant c.do_phase.ensures.acted).ran

pub returns-clause-between : goal.returns-clause-between
returns-clause-between g c =
    phases_between c.args.table.now c.lines-lines.ensures.whole c.args.now (g.T.Tree.state c.args.tree.now)
    (g.T.Tree.steps c.args.tree.now) (g.T.Tree.state c.loop-phase.tree) (g.T.Tree.steps c.loop-phase.tree) c.ranges.now.fits (g.met.T.Tree.is_tree c.args.tree.now) c.args.phases.now
    c.loop-phase.invariant.going.acted.ran

pub returns-in_err-one-clause-gives : goal.returns-in_err-one-clause-gives
returns-in_err-one-clause-gives g c =
    let moves : Moves g.T.Tree = record { stays = g.met.T.Tree.reaches_self; goes_on = g.met.T.Tree.reaches_on; never_falls = g.met.T.Tree.never_falls } in
    let i = c.loop-phase.phase-index in
    let phase : Phase = get_or c.args.phases.now i Remove in
    let is : phase ≡ get_or c.args.phases.now i phase = get_or_default c.args.phases.now i Remove phase c.loop-phase-test.true in
    phases_give c.args.table.now c.lines-lines.ensures.whole c.args.now (g.T.Tree.state c.args.tree.now)
    (g.T.Tree.steps c.args.tree.now) (g.T.Tree.state c.do_phase.new.tree) (g.T.Tree.steps c.do_phase.new.tree) c.ranges.now.fits (g.met.T.Tree.is_tree c.args.tree.now) c.args.phases.now
    (phases_acted g.T.Tree moves c.args.table.now c.args.now c.args.phases.now c.args.tree.now c.args.messages.now i phase c.loop-phase-test.true is c.loop-phase.carried c.loop-phase.tree c.loop-phase.messages c.loop-phase.invariant c.do_phase.ensures.acted).ran

pub returns-clause-gives : goal.returns-clause-gives
returns-clause-gives g c =
    phases_give c.args.table.now c.lines-lines.ensures.whole c.args.now (g.T.Tree.state c.args.tree.now)
    (g.T.Tree.steps c.args.tree.now) (g.T.Tree.state c.loop-phase.tree) (g.T.Tree.steps c.loop-phase.tree) c.ranges.now.fits (g.met.T.Tree.is_tree c.args.tree.now) c.args.phases.now
    c.loop-phase.invariant.going.acted.ran

pub returns-then-is_boot-clause-between : goal.returns-then-is_boot-clause-between
returns-then-is_boot-clause-between g c =
    subst (λ (ps : List Phase). IsBetweenBy ps c.args.table.now c.args.now (g.T.Tree.state c.args.tree.now) (drop (length (g.T.Tree.steps c.args.tree.now)) (g.T.Tree.steps c.boot_run.new.tree)))
    (sym (boot_is c.args.phases.now (sym c.is_boot.ensures ∙ c.if-is_boot.true))) c.boot_run.ensures.between

pub returns-then-is_boot-clause-gives : goal.returns-then-is_boot-clause-gives
returns-then-is_boot-clause-gives g c =
    subst (λ (ps : List Phase). GiveBy ps c.args.table.now c.args.now (g.T.Tree.state c.args.tree.now) (drop (length (g.T.Tree.steps c.args.tree.now)) (g.T.Tree.steps c.boot_run.new.tree)))
    (sym (boot_is c.args.phases.now (sym c.is_boot.ensures ∙ c.if-is_boot.true))) c.boot_run.ensures.gives
