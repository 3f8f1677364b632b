use Rattle.std.specs.Prelude.{Result, IsErrOf}
use Rattle.std.proofs.Common.{◌≡◌, ◌++◌, ◌∙◌, ℕ, List, Ok, ap, drop, length, refl, subst}
use Rattle.pv_read_config.specs.Known.{configured}
use Rattle.pv_steps.specs.Courses.{Cut, HasGone, Partway, IsStepOfSome, carried_of}
use Rattle.pv_lines.specs.declared.line.Line.{Line}
use Rattle.pv_steps.specs.declared.carried.Carried.{Carried}
use Rattle.pv_steps.specs.Acting.{refused, Acted}
use Rattle.pv_steps.specs.declared.tree.TreeFault.{TreeFault}
use Rattle.pv_steps.specs.declared.tree.TreeFault.TheVariants.{Failed}
use Rattle.pv_steps.proofs.ActingLaws.{Moves, no_memory, acted_ended, acted_none, acted_passed}
use Rattle.pv_steps.specs.Doing.{after_each, messages_for_each, one_is_refused, taken_by_each}
use Rattle.pv_text.specs.GivenMessages.{MessagesPart}
use Rattle.provision_run.specs.PhasesOnTheWay.{GiveBy, IsBetweenBy}
use Rattle.provision_run.specs.Phases.{RecoversBy, phases_course, phases_of}
use Rattle.provision_run.specs.PhasesSwept.{IsSweptBy}
use Rattle.pv_create.specs.OnTheWay.{IsFramed}
use Rattle.provision_run.specs.declared.phase.Phase.{Phase}
use Rattle.provision_run.specs.Ending.{end_of, is_uncarried}
use Rattle.provision_run.specs.Phased.{run_lines, phases_way, is_phases_step, lines_messages, phase_messages, phases_work}
use Rattle.provision_run.proofs.PhaseLaws.{both, failed_before, none_recovered}
use Rattle.provision_run.proofs.WayLaws.{none_between, none_give}
use Rattle.provision_run.proofs.FrameLaws.{none_stays}
use Rattle.provision_run.proofs.RereadingLaws.{recovered_anew, nothing_reread, run_anew, run_reread}
use Rattle.provision_run.proofs.RunLaws.{way_start}
use Rattle.pv_text.proofs.MessagesLaws.{messages_first, messages_then}
use Rattle.provision_run.proofs.configured_phases.run_configured_phases.Goals as goal

pub returns-in_err-read-clause-part : goal.returns-in_err-read-clause-part
returns-in_err-read-clause-part g c =
    messages_first (lines_messages c.args.options.now c.args.facts.now (g.T.Tree.state c.args.tree.now))
    (phase_messages c.args.options.now c.args.facts.now c.args.moment (g.T.Tree.state c.args.tree.now)) _ _ c.read_run.ensures.part

pub returns-in_err-read-clause-acted : goal.returns-in_err-read-clause-acted
returns-in_err-read-clause-acted g c =
    let moves : Moves g.T.Tree = record { stays = g.met.T.Tree.reaches_self; goes_on = g.met.T.Tree.reaches_on; never_falls = g.met.T.Tree.never_falls } in
    let t = g.T.Tree.state c.args.tree.now in
    let options = c.args.options.now in
    let facts = c.args.facts.now in
    acted_none g.T.Tree moves (phases_way options facts c.args.moment t) (is_phases_step options facts c.args.moment t) (phases_work options facts c.args.moment t) c.args.moment c.args.tree.now
    c.from_residual.result (no_memory c.from_residual.result c.from_residual.ensures.1) (way_start options facts c.args.moment t)

pub returns-in_err-read-clause-recovers : goal.returns-in_err-read-clause-recovers
returns-in_err-read-clause-recovers g c =
    let t = g.T.Tree.state c.args.tree.now in
    none_recovered (run_lines c.args.options.now c.args.facts.now t) c.args.moment t (g.T.Tree.steps c.args.tree.now) c.ranges.moment.fits (g.met.T.Tree.is_tree c.args.tree.now) (phases_of c.args.options.now)

pub returns-in_err-phases-clause-part : goal.returns-in_err-phases-clause-part
returns-in_err-phases-clause-part g c =
    messages_first (lines_messages c.args.options.now c.args.facts.now (g.T.Tree.state c.args.tree.now))
    (phase_messages c.args.options.now c.args.facts.now c.args.moment (g.T.Tree.state c.args.tree.now)) _ _ c.read_run.ensures.part

pub returns-in_err-phases-clause-acted : goal.returns-in_err-phases-clause-acted
returns-in_err-phases-clause-acted g c =
    let moves : Moves g.T.Tree = record { stays = g.met.T.Tree.reaches_self; goes_on = g.met.T.Tree.reaches_on; never_falls = g.met.T.Tree.never_falls } in
    let t = g.T.Tree.state c.args.tree.now in
    let options = c.args.options.now in
    let facts = c.args.facts.now in
    acted_none g.T.Tree moves (phases_way options facts c.args.moment t) (is_phases_step options facts c.args.moment t) (phases_work options facts c.args.moment t) c.args.moment c.args.tree.now
    c.from_residual-in_err-phases.result (no_memory c.from_residual-in_err-phases.result c.from_residual-in_err-phases.ensures.1) (way_start options facts c.args.moment t)

pub returns-in_err-phases-clause-recovers : goal.returns-in_err-phases-clause-recovers
returns-in_err-phases-clause-recovers g c =
    let t = g.T.Tree.state c.args.tree.now in
    none_recovered (run_lines c.args.options.now c.args.facts.now t) c.args.moment t (g.T.Tree.steps c.args.tree.now) c.ranges.moment.fits (g.met.T.Tree.is_tree c.args.tree.now) (phases_of c.args.options.now)

pub returns-in_err-carried-clause-part : goal.returns-in_err-carried-clause-part
returns-in_err-carried-clause-part g c =
    let t = g.T.Tree.state c.args.tree.now in
    let now = c.args.moment in
    messages_then (lines_messages c.args.options.now c.args.facts.now t) (phase_messages c.args.options.now c.args.facts.now now t) c.args.messages.now c.read_run.new.messages c.run_phases.new.messages c.in_ok-read.ensures.new_messages
    (both (λ (lines : List Line) (phases : List Phase). MessagesPart (messages_for_each (phases_course lines now).whole phases t) c.read_run.new.messages c.run_phases.new.messages) c.in_ok-read.ensures.lines (c.deref.ensures.value ∙ c.in_ok-phases.ensures) c.run_phases.ensures.part)

pub returns-in_err-carried-clause-stopped : goal.returns-in_err-carried-clause-stopped
returns-in_err-carried-clause-stopped g c =
    let t = g.T.Tree.state c.args.tree.now in
    let now = c.args.moment in
    λ failed.
    let was : IsErrOf c.run_phases.result Failed = failed_before c.run_phases.result c.from_residual-in_err-carried.result c.in_err-carried.was c.from_residual-in_err-carried.ensures.1 failed in
    let one : refused c.run_phases.result ≡ 1 = ap (λ (r : Result Carried TreeFault). refused r) was in
    both (λ (lines : List Line) (phases : List Phase). HasGone g.T.Tree (Cut (phases_course lines now) now 1 phases t) now c.args.tree.now c.run_phases.new.tree (c.args.messages.now ++ lines_messages c.args.options.now c.args.facts.now t) c.run_phases.new.messages)
    c.in_ok-read.ensures.lines (c.deref.ensures.value ∙ c.in_ok-phases.ensures)
    (subst (λ (old : List (List ℕ)). HasGone g.T.Tree (Cut (phases_course c.in_ok-read.read.table now) now 1 c.deref.result.now t) now c.args.tree.now c.run_phases.new.tree old c.run_phases.new.messages) c.in_ok-read.ensures.new_messages
    (subst (λ n. HasGone g.T.Tree (Cut (phases_course c.in_ok-read.read.table now) now n c.deref.result.now t) now c.args.tree.now c.run_phases.new.tree c.read_run.new.messages c.run_phases.new.messages) one c.run_phases.ensures.went))

pub returns-in_err-carried-clause-acted : goal.returns-in_err-carried-clause-acted
returns-in_err-carried-clause-acted g c =
    let t = g.T.Tree.state c.args.tree.now in
    let now = c.args.moment in
    acted_passed g.T.Tree c.run_phases.result c.from_residual-in_err-carried.result c.in_err-carried.was c.from_residual-in_err-carried.ensures.1
    (both (λ (lines : List Line) (phases : List Phase). Acted g.T.Tree (Partway (phases_course lines now) phases t) (IsStepOfSome (phases_course lines now) phases t) (taken_by_each (phases_course lines now).whole phases t) now c.args.tree.now c.run_phases.new.tree c.run_phases.result)
    c.in_ok-read.ensures.lines (c.deref.ensures.value ∙ c.in_ok-phases.ensures) c.run_phases.ensures.acted)

pub returns-in_err-carried-clause-recovers : goal.returns-in_err-carried-clause-recovers
returns-in_err-carried-clause-recovers g c =
    let t = g.T.Tree.state c.args.tree.now in
    let now = c.args.moment in
    both (λ (lines : List Line) (phases : List Phase). RecoversBy phases lines now t (drop (length (g.T.Tree.steps c.args.tree.now)) (g.T.Tree.steps c.run_phases.new.tree))) c.in_ok-read.ensures.lines (c.deref.ensures.value ∙ c.in_ok-phases.ensures) c.run_phases.ensures.recovers

pub returns-clause-part : goal.returns-clause-part
returns-clause-part g c =
    let t = g.T.Tree.state c.args.tree.now in
    let now = c.args.moment in
    messages_then (lines_messages c.args.options.now c.args.facts.now t) (phase_messages c.args.options.now c.args.facts.now now t) c.args.messages.now c.read_run.new.messages c.run_phases.new.messages c.in_ok-read.ensures.new_messages
    (both (λ (lines : List Line) (phases : List Phase). MessagesPart (messages_for_each (phases_course lines now).whole phases t) c.read_run.new.messages c.run_phases.new.messages) c.in_ok-read.ensures.lines (c.deref.ensures.value ∙ c.in_ok-phases.ensures) c.run_phases.ensures.part)

pub returns-clause-in_turn : goal.returns-clause-in_turn
returns-clause-in_turn g c =
    let t = g.T.Tree.state c.args.tree.now in
    let now = c.args.moment in
    both (λ (lines : List Line) (phases : List Phase). HasGone g.T.Tree (Cut (phases_course lines now) now 0 phases t) now c.args.tree.now c.run_phases.new.tree (c.args.messages.now ++ lines_messages c.args.options.now c.args.facts.now t) c.run_phases.new.messages)
    c.in_ok-read.ensures.lines (c.deref.ensures.value ∙ c.in_ok-phases.ensures)
    (subst (λ (old : List (List ℕ)). HasGone g.T.Tree (Cut (phases_course c.in_ok-read.read.table now) now 0 c.deref.result.now t) now c.args.tree.now c.run_phases.new.tree old c.run_phases.new.messages) c.in_ok-read.ensures.new_messages
    c.in_ok-carried.ensures.went)

pub returns-clause-acted : goal.returns-clause-acted
returns-clause-acted g c =
    let t = g.T.Tree.state c.args.tree.now in
    let now = c.args.moment in
    acted_ended g.T.Tree {x = c.in_ok-carried.carried} _ refl
    (both (λ (lines : List Line) (phases : List Phase). Acted g.T.Tree (Partway (phases_course lines now) phases t) (IsStepOfSome (phases_course lines now) phases t) (taken_by_each (phases_course lines now).whole phases t) now c.args.tree.now c.run_phases.new.tree (Ok c.in_ok-carried.carried))
    c.in_ok-read.ensures.lines (c.deref.ensures.value ∙ c.in_ok-phases.ensures) c.in_ok-carried.ensures.acted)

pub returns-clause-recovers : goal.returns-clause-recovers
returns-clause-recovers g c =
    let t = g.T.Tree.state c.args.tree.now in
    let now = c.args.moment in
    both (λ (lines : List Line) (phases : List Phase). RecoversBy phases lines now t (drop (length (g.T.Tree.steps c.args.tree.now)) (g.T.Tree.steps c.run_phases.new.tree))) c.in_ok-read.ensures.lines (c.deref.ensures.value ∙ c.in_ok-phases.ensures) c.run_phases.ensures.recovers

pub returns-clause-ok : goal.returns-clause-ok
returns-clause-ok g c =
    let t = g.T.Tree.state c.args.tree.now in
    let now = c.args.moment in
    both (λ (lines : List Line) (phases : List Phase). g.T.Tree.state c.run_phases.new.tree ≡ after_each (phases_course lines now).whole phases t) c.in_ok-read.ensures.lines (c.deref.ensures.value ∙ c.in_ok-phases.ensures) c.in_ok-carried.ensures.ok

pub returns-clause-staged : goal.returns-clause-staged
returns-clause-staged g c =
    let t = g.T.Tree.state c.args.tree.now in
    let now = c.args.moment in
    both (λ (lines : List Line) (phases : List Phase). IsSweptBy phases lines now t (g.T.Tree.state c.run_phases.new.tree)) c.in_ok-read.ensures.lines (c.deref.ensures.value ∙ c.in_ok-phases.ensures) c.in_ok-carried.ensures.staged

pub returns-clause-new_messages : goal.returns-clause-new_messages
returns-clause-new_messages g c =
    let t = g.T.Tree.state c.args.tree.now in
    let now = c.args.moment in
    let new_messages = phase_messages c.args.options.now c.args.facts.now now t in
    both (λ (lines : List Line) (phases : List Phase). c.run_phases.new.messages ≡ c.read_run.new.messages ++ messages_for_each (phases_course lines now).whole phases t) c.in_ok-read.ensures.lines (c.deref.ensures.value ∙ c.in_ok-phases.ensures) c.in_ok-carried.ensures.new_messages
    ∙ ap (λ (old : List (List ℕ)). old ++ new_messages) c.in_ok-read.ensures.new_messages

pub returns-clause-end : goal.returns-clause-end
returns-clause-end g c =
    let t = g.T.Tree.state c.args.tree.now in
    let now = c.args.moment in
    let carried = carried_of (one_is_refused (phases_course (run_lines c.args.options.now c.args.facts.now t) now).whole (phases_of c.args.options.now) t) in
    let missing = (configured t c.args.facts.now c.args.options.now.words).missing in
    c.end_of.ensures
    ∙ ap (λ k. end_of (is_uncarried k c.in_ok-read.read.missing) c.in_ok-read.read.invalid)
    (both (λ (lines : List Line) (phases : List Phase). c.in_ok-carried.carried ≡ carried_of (one_is_refused (phases_course lines now).whole phases t)) c.in_ok-read.ensures.lines (c.deref.ensures.value ∙ c.in_ok-phases.ensures) c.in_ok-carried.ensures.carried)
    ∙ ap (λ m. end_of (is_uncarried carried m) c.in_ok-read.read.invalid) c.in_ok-read.ensures.missing
    ∙ ap (λ i. end_of (is_uncarried carried missing) i) c.in_ok-read.ensures.invalid

pub returns-in_err-read-clause-anew : goal.returns-in_err-read-clause-anew
returns-in_err-read-clause-anew g c =
    let t = g.T.Tree.state c.args.tree.now in
    let stated = g.T.Tree.steps c.args.tree.now in
    recovered_anew c.args.options.now c.args.facts.now c.args.moment t (drop (length stated) stated) (nothing_reread c.args.options.now c.args.facts.now c.args.moment t stated)
    (none_recovered (run_lines c.args.options.now c.args.facts.now t) c.args.moment t stated c.ranges.moment.fits (g.met.T.Tree.is_tree c.args.tree.now) (phases_of c.args.options.now))

pub returns-in_err-phases-clause-anew : goal.returns-in_err-phases-clause-anew
returns-in_err-phases-clause-anew g c =
    let t = g.T.Tree.state c.args.tree.now in
    let stated = g.T.Tree.steps c.args.tree.now in
    recovered_anew c.args.options.now c.args.facts.now c.args.moment t (drop (length stated) stated) (nothing_reread c.args.options.now c.args.facts.now c.args.moment t stated)
    (none_recovered (run_lines c.args.options.now c.args.facts.now t) c.args.moment t stated c.ranges.moment.fits (g.met.T.Tree.is_tree c.args.tree.now) (phases_of c.args.options.now))

pub returns-in_err-carried-clause-anew : goal.returns-in_err-carried-clause-anew
returns-in_err-carried-clause-anew g c =
    run_anew c.args.options.now c.args.facts.now c.args.moment (g.T.Tree.state c.args.tree.now) c.ranges.moment.fits c.in_ok-read.read.table c.in_ok-read.ensures.lines c.deref.result.now (c.deref.ensures.value ∙ c.in_ok-phases.ensures)
    c.in_ok-read.ensures.whole (g.met.T.Tree.is_tree c.args.tree.now) (g.T.Tree.steps c.args.tree.now) _ (g.T.Tree.steps c.run_phases.new.tree) c.run_phases.ensures.acted.ran c.run_phases.ensures.recovers

pub returns-clause-anew : goal.returns-clause-anew
returns-clause-anew g c =
    run_anew c.args.options.now c.args.facts.now c.args.moment (g.T.Tree.state c.args.tree.now) c.ranges.moment.fits c.in_ok-read.read.table c.in_ok-read.ensures.lines c.deref.result.now (c.deref.ensures.value ∙ c.in_ok-phases.ensures)
    c.in_ok-read.ensures.whole (g.met.T.Tree.is_tree c.args.tree.now) (g.T.Tree.steps c.args.tree.now) _ (g.T.Tree.steps c.run_phases.new.tree) c.run_phases.ensures.acted.ran c.run_phases.ensures.recovers

pub returns-in_err-read-clause-reread : goal.returns-in_err-read-clause-reread
returns-in_err-read-clause-reread g c = nothing_reread c.args.options.now c.args.facts.now c.args.moment (g.T.Tree.state c.args.tree.now) (g.T.Tree.steps c.args.tree.now)

pub returns-in_err-phases-clause-reread : goal.returns-in_err-phases-clause-reread
returns-in_err-phases-clause-reread g c = nothing_reread c.args.options.now c.args.facts.now c.args.moment (g.T.Tree.state c.args.tree.now) (g.T.Tree.steps c.args.tree.now)

pub returns-in_err-carried-clause-reread : goal.returns-in_err-carried-clause-reread
returns-in_err-carried-clause-reread g c =
    run_reread c.args.options.now c.args.facts.now c.args.moment (g.T.Tree.state c.args.tree.now) c.ranges.moment.fits c.in_ok-read.read.table c.in_ok-read.ensures.lines c.deref.result.now (c.deref.ensures.value ∙ c.in_ok-phases.ensures)
    c.in_ok-read.ensures.whole (g.met.T.Tree.is_tree c.args.tree.now) (g.T.Tree.steps c.args.tree.now) _ (g.T.Tree.steps c.run_phases.new.tree) c.run_phases.ensures.acted.ran

pub returns-clause-reread : goal.returns-clause-reread
returns-clause-reread g c =
    run_reread c.args.options.now c.args.facts.now c.args.moment (g.T.Tree.state c.args.tree.now) c.ranges.moment.fits c.in_ok-read.read.table c.in_ok-read.ensures.lines c.deref.result.now (c.deref.ensures.value ∙ c.in_ok-phases.ensures)
    c.in_ok-read.ensures.whole (g.met.T.Tree.is_tree c.args.tree.now) (g.T.Tree.steps c.args.tree.now) _ (g.T.Tree.steps c.run_phases.new.tree) c.run_phases.ensures.acted.ran

pub returns-in_err-read-clause-framed : goal.returns-in_err-read-clause-framed
returns-in_err-read-clause-framed g c = λ n q plain free. none_stays c.args.moment (g.T.Tree.state c.args.tree.now) (g.T.Tree.steps c.args.tree.now) n q

pub returns-in_err-phases-clause-framed : goal.returns-in_err-phases-clause-framed
returns-in_err-phases-clause-framed g c = λ n q plain free. none_stays c.args.moment (g.T.Tree.state c.args.tree.now) (g.T.Tree.steps c.args.tree.now) n q

pub returns-in_err-carried-clause-framed : goal.returns-in_err-carried-clause-framed
returns-in_err-carried-clause-framed g c =
    subst (λ (lines : List Line). IsFramed lines c.args.moment (g.T.Tree.state c.args.tree.now) (drop (length (g.T.Tree.steps c.args.tree.now)) (g.T.Tree.steps c.run_phases.new.tree))) c.in_ok-read.ensures.lines c.run_phases.ensures.framed

pub returns-clause-framed : goal.returns-clause-framed
returns-clause-framed g c =
    subst (λ (lines : List Line). IsFramed lines c.args.moment (g.T.Tree.state c.args.tree.now) (drop (length (g.T.Tree.steps c.args.tree.now)) (g.T.Tree.steps c.run_phases.new.tree))) c.in_ok-read.ensures.lines c.run_phases.ensures.framed

pub returns-in_err-read-clause-between : goal.returns-in_err-read-clause-between
returns-in_err-read-clause-between g c =
    let t = g.T.Tree.state c.args.tree.now in
    none_between (run_lines c.args.options.now c.args.facts.now t) c.args.moment t (g.T.Tree.steps c.args.tree.now) (phases_of c.args.options.now)

pub returns-in_err-phases-clause-between : goal.returns-in_err-phases-clause-between
returns-in_err-phases-clause-between g c =
    let t = g.T.Tree.state c.args.tree.now in
    none_between (run_lines c.args.options.now c.args.facts.now t) c.args.moment t (g.T.Tree.steps c.args.tree.now) (phases_of c.args.options.now)

pub returns-in_err-carried-clause-between : goal.returns-in_err-carried-clause-between
returns-in_err-carried-clause-between g c =
    let t = g.T.Tree.state c.args.tree.now in
    both (λ (lines : List Line) (phases : List Phase). IsBetweenBy phases lines c.args.moment t (drop (length (g.T.Tree.steps c.args.tree.now)) (g.T.Tree.steps c.run_phases.new.tree))) c.in_ok-read.ensures.lines (c.deref.ensures.value ∙ c.in_ok-phases.ensures) c.run_phases.ensures.between

pub returns-clause-between : goal.returns-clause-between
returns-clause-between g c =
    let t = g.T.Tree.state c.args.tree.now in
    both (λ (lines : List Line) (phases : List Phase). IsBetweenBy phases lines c.args.moment t (drop (length (g.T.Tree.steps c.args.tree.now)) (g.T.Tree.steps c.run_phases.new.tree))) c.in_ok-read.ensures.lines (c.deref.ensures.value ∙ c.in_ok-phases.ensures) c.run_phases.ensures.between

pub returns-in_err-read-clause-gives : goal.returns-in_err-read-clause-gives
returns-in_err-read-clause-gives g c =
    let t = g.T.Tree.state c.args.tree.now in
    none_give (run_lines c.args.options.now c.args.facts.now t) c.args.moment t (g.T.Tree.steps c.args.tree.now) (phases_of c.args.options.now)

pub returns-in_err-phases-clause-gives : goal.returns-in_err-phases-clause-gives
returns-in_err-phases-clause-gives g c =
    let t = g.T.Tree.state c.args.tree.now in
    none_give (run_lines c.args.options.now c.args.facts.now t) c.args.moment t (g.T.Tree.steps c.args.tree.now) (phases_of c.args.options.now)

pub returns-in_err-carried-clause-gives : goal.returns-in_err-carried-clause-gives
returns-in_err-carried-clause-gives g c =
    let t = g.T.Tree.state c.args.tree.now in
    both (λ (lines : List Line) (phases : List Phase). GiveBy phases lines c.args.moment t (drop (length (g.T.Tree.steps c.args.tree.now)) (g.T.Tree.steps c.run_phases.new.tree))) c.in_ok-read.ensures.lines (c.deref.ensures.value ∙ c.in_ok-phases.ensures) c.run_phases.ensures.gives

pub returns-clause-gives : goal.returns-clause-gives
returns-clause-gives g c =
    let t = g.T.Tree.state c.args.tree.now in
    both (λ (lines : List Line) (phases : List Phase). GiveBy phases lines c.args.moment t (drop (length (g.T.Tree.steps c.args.tree.now)) (g.T.Tree.steps c.run_phases.new.tree))) c.in_ok-read.ensures.lines (c.deref.ensures.value ∙ c.in_ok-phases.ensures) c.run_phases.ensures.gives
