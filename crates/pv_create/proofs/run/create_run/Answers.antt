use Rattle.std.proofs.Common.{◌≡◌, ◌++◌, List, ℕ, OnOk, subst}
use Rattle.pv_steps.specs.Courses.{Partway, IsStepOfSome}
use Rattle.pv_steps.specs.Acting.{Acted}
use Rattle.pv_text.specs.GivenMessages.{MessagesPart}
use Rattle.pv_table.specs.Active.{in_create_order}
use Rattle.pv_create.specs.OnTheWay.{lines_course}
use Rattle.pv_create.proofs.RunLaws.{counting_says, counting_takes, none_staged}
use Rattle.pv_create.proofs.StepLaws.{given}
use Rattle.pv_create.proofs.StoppedLaws.{recovers, recovered_again, stopped, between, framed}
use Rattle.pv_create.proofs.run.create_run.Goals as goal

pub returns-clause-acted : goal.returns-clause-acted
returns-clause-acted g c =
    let lines = in_create_order c.args.table.now in
    let t = g.T.Tree.state c.args.tree.now in
    subst (λ most. Acted g.T.Tree (Partway (lines_course c.args.now) lines t) (IsStepOfSome (lines_course c.args.now) lines t) most c.args.now c.args.tree.now c.run_in_order.new.tree c.run_in_order.result)
    (counting_takes c.args.now lines t) c.run_in_order.ensures.acted

-- ---- what it leaves, says and tells; a refusal of a line with `-` changes neither the texts nor the bound

pub returns-clause-ok : goal.returns-clause-ok
returns-clause-ok g c = c.run_in_order.ensures.ok

pub returns-clause-new_messages : goal.returns-clause-new_messages
returns-clause-new_messages g c =
    subst (λ (says : List (List ℕ)). OnOk c.run_in_order.result (c.run_in_order.new.messages ≡ c.args.messages.now ++ says))
    (counting_says c.args.now (in_create_order c.args.table.now) (g.T.Tree.state c.args.tree.now)) c.run_in_order.ensures.new_messages

pub returns-clause-carried : goal.returns-clause-carried
returns-clause-carried g c = c.run_in_order.ensures.carried

pub returns-clause-staged : goal.returns-clause-staged
returns-clause-staged g c =
    let now = c.args.now in
    let t = g.T.Tree.state c.args.tree.now in
    none_staged c.args.table.now c.lines-lines.ensures.whole now t c.run_in_order.result (g.T.Tree.state c.run_in_order.new.tree) c.run_in_order.ensures.ok

pub returns-clause-part : goal.returns-clause-part
returns-clause-part g c =
    subst (λ (says : List (List ℕ)). MessagesPart says c.args.messages.now c.run_in_order.new.messages)
    (counting_says c.args.now (in_create_order c.args.table.now) (g.T.Tree.state c.args.tree.now)) c.run_in_order.ensures.part

pub returns-clause-went : goal.returns-clause-went
returns-clause-went g c = c.run_in_order.ensures.went

-- ---- the laws

pub returns-clause-recovers : goal.returns-clause-recovers
returns-clause-recovers g c =
    let table = c.args.table.now in
    let now = c.args.now in
    let t = g.T.Tree.state c.args.tree.now in
    recovers table c.lines-lines.ensures.whole (IsStepOfSome (lines_course now) (in_create_order table) t) now t (g.T.Tree.steps c.args.tree.now)
    (g.T.Tree.state c.run_in_order.new.tree) (g.T.Tree.steps c.run_in_order.new.tree) c.ranges.now.fits (g.met.T.Tree.is_tree c.args.tree.now) c.run_in_order.ensures.acted.ran c.lines-lines.ensures.distinct

pub returns-clause-again : goal.returns-clause-again
returns-clause-again g c =
    let table = c.args.table.now in
    let now = c.args.now in
    let t = g.T.Tree.state c.args.tree.now in
    recovered_again table c.lines-lines.ensures.whole (IsStepOfSome (lines_course now) (in_create_order table) t) now t (g.T.Tree.steps c.args.tree.now)
    (g.T.Tree.state c.run_in_order.new.tree) (g.T.Tree.steps c.run_in_order.new.tree) c.ranges.now.fits (g.met.T.Tree.is_tree c.args.tree.now) c.run_in_order.ensures.acted.ran c.lines-lines.ensures.distinct

pub returns-clause-stopped : goal.returns-clause-stopped
returns-clause-stopped g c =
    let table = c.args.table.now in
    let now = c.args.now in
    let t = g.T.Tree.state c.args.tree.now in
    stopped table c.lines-lines.ensures.whole (IsStepOfSome (lines_course now) (in_create_order table) t) now t (g.T.Tree.steps c.args.tree.now)
    (g.T.Tree.state c.run_in_order.new.tree) (g.T.Tree.steps c.run_in_order.new.tree) c.ranges.now.fits (g.met.T.Tree.is_tree c.args.tree.now) c.run_in_order.ensures.acted.ran

pub returns-clause-framed : goal.returns-clause-framed
returns-clause-framed g c =
    let table = c.args.table.now in
    let now = c.args.now in
    let t = g.T.Tree.state c.args.tree.now in
    framed table c.lines-lines.ensures.whole (IsStepOfSome (lines_course now) (in_create_order table) t) now t (g.T.Tree.steps c.args.tree.now)
    (g.T.Tree.state c.run_in_order.new.tree) (g.T.Tree.steps c.run_in_order.new.tree) c.ranges.now.fits (g.met.T.Tree.is_tree c.args.tree.now) c.run_in_order.ensures.acted.ran

pub returns-clause-between : goal.returns-clause-between
returns-clause-between g c =
    let table = c.args.table.now in
    let now = c.args.now in
    let t = g.T.Tree.state c.args.tree.now in
    between table c.lines-lines.ensures.whole (IsStepOfSome (lines_course now) (in_create_order table) t) now t (g.T.Tree.steps c.args.tree.now)
    (g.T.Tree.state c.run_in_order.new.tree) (g.T.Tree.steps c.run_in_order.new.tree) c.ranges.now.fits (g.met.T.Tree.is_tree c.args.tree.now) c.run_in_order.ensures.acted.ran

pub returns-clause-gives : goal.returns-clause-gives
returns-clause-gives g c =
    let table = c.args.table.now in
    let now = c.args.now in
    let t = g.T.Tree.state c.args.tree.now in
    given table c.lines-lines.ensures.whole (Partway (lines_course now) (in_create_order table) t) now t (g.T.Tree.steps c.args.tree.now)
    (g.T.Tree.state c.run_in_order.new.tree) (g.T.Tree.steps c.run_in_order.new.tree) (g.met.T.Tree.is_tree c.args.tree.now) c.run_in_order.ensures.acted.ran
