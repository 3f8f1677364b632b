use Rattle.std.proofs.Common.{◌≡◌, ◌++◌, [], IfOk, IfErr, OnOk, None, ℕ, ◌+◌, ◌≤◌, length, List, append_assoc, arith, ap, sym, subst, ◌∙◌}
use Rattle.std.specs.Prelude.{nat_lt}
use Rattle.pv_steps.specs.Acting.{Acted}
use Rattle.pv_steps.specs.Trees.{places}
use Rattle.pv_sysusers.specs.Lines.{lines_from, duplicate_messages}
use Rattle.pv_text.specs.GivenMessages.{MessagesPart}
use Rattle.pv_walk.specs.Staging.{count_at_all}
use Rattle.pv_sysusers.specs.declared.edit.Edit.{Edit}
use Rattle.pv_steps.specs.Courses.{carried_of}
use Rattle.pv_steps.specs.declared.carried.Carried.{Carried}
use Rattle.pv_sysusers.specs.Accounted.{edits_by, edits_unless, lacking_in, lacking_unless, plan_at, messages_unless, unusable_texts}
use Rattle.pv_sysusers.specs.FileWriting.{AccountWay, IsAccountStep, most_put, swept_names}
use Rattle.pv_sysusers.specs.Turns.{TurnWay}
use Rattle.pv_sysusers.specs.Running.{IfLacking, Lacks, in_steps}
use Rattle.pv_sysusers.proofs.RecoveryLaws.{none_recovered, run_recovered}
use Rattle.pv_sysusers.proofs.RunningLaws.{nil_of, ok_accounted, some_accounted, some_lacking, some_messages}
use Rattle.pv_sysusers.proofs.SweptLaws.{accounts_leave_none}
use Rattle.pv_sysusers.proofs.running.accounts_run.Goals as goal

pub returns-in_err-say_unusable-clause-part : goal.returns-in_err-say_unusable-clause-part
returns-in_err-say_unusable-clause-part g c =
    let s = places (g.T.Tree.state c.args.tree.now) in
    let some : 1 ≤ length (unusable_texts s) = subst (λ ys. 1 ≤ length ys) c.in_ok-unusable.ensures (omega (arith, c.len.ensures, c.if-len-gt0.true)) in
    let e = some_messages c.args.requests.now (unusable_texts s) (plan_at c.args.requests.now c.args.now s).new_messages some in
    subst (λ ys. MessagesPart ys c.args.messages.now c.say_unusable.new.messages) (ap (λ ys. duplicate_messages [] (lines_from [] 0 c.args.requests.now) ++ ys) c.in_ok-unusable.ensures ∙ sym e) c.say_unusable.ensures.part

pub returns-then-len-gt0-clause-ok : goal.returns-then-len-gt0-clause-ok
returns-then-len-gt0-clause-ok g c =
    let t = g.T.Tree.state c.args.tree.now in
    let some : 1 ≤ length (unusable_texts (places t)) = subst (λ ys. 1 ≤ length ys) c.in_ok-unusable.ensures (omega (arith, c.len.ensures, c.if-len-gt0.true)) in
    some_accounted c.args.requests.now c.args.now t some

pub returns-then-len-gt0-clause-new_messages : goal.returns-then-len-gt0-clause-new_messages
returns-then-len-gt0-clause-new_messages g c =
    let s = places (g.T.Tree.state c.args.tree.now) in
    let some : 1 ≤ length (unusable_texts s) = subst (λ ys. 1 ≤ length ys) c.in_ok-unusable.ensures (omega (arith, c.len.ensures, c.if-len-gt0.true)) in
    let e = some_messages c.args.requests.now (unusable_texts s) (plan_at c.args.requests.now c.args.now s).new_messages some in
    c.in_ok-say_unusable.ensures.ok
    ∙ append_assoc c.args.messages.now (duplicate_messages [] (lines_from [] 0 c.args.requests.now)) c.in_ok-unusable.unusable
    ∙ ap (λ ys. c.args.messages.now ++ ys) (ap (λ ys. duplicate_messages [] (lines_from [] 0 c.args.requests.now) ++ ys) c.in_ok-unusable.ensures ∙ sym e)

pub returns-then-len-gt0-clause-enough : goal.returns-then-len-gt0-clause-enough
returns-then-len-gt0-clause-enough g c =
    let s = places (g.T.Tree.state c.args.tree.now) in
    let some : 1 ≤ length (unusable_texts s) = subst (λ ys. 1 ≤ length ys) c.in_ok-unusable.ensures (omega (arith, c.len.ensures, c.if-len-gt0.true)) in
    some_lacking (unusable_texts s) (lacking_in (plan_at c.args.requests.now c.args.now s).texts) some

pub returns-then-len-gt0-clause-part : goal.returns-then-len-gt0-clause-part
returns-then-len-gt0-clause-part g c =
    let s = places (g.T.Tree.state c.args.tree.now) in
    let some : 1 ≤ length (unusable_texts s) = subst (λ ys. 1 ≤ length ys) c.in_ok-unusable.ensures (omega (arith, c.len.ensures, c.if-len-gt0.true)) in
    let e = some_messages c.args.requests.now (unusable_texts s) (plan_at c.args.requests.now c.args.now s).new_messages some in
    subst (λ ys. MessagesPart ys c.args.messages.now c.say_unusable.new.messages) (ap (λ ys. duplicate_messages [] (lines_from [] 0 c.args.requests.now) ++ ys) c.in_ok-unusable.ensures ∙ sym e) c.say_unusable.ensures.part

pub returns-then-len-gt0-clause-staged : goal.returns-then-len-gt0-clause-staged
returns-then-len-gt0-clause-staged g c =
    let t = g.T.Tree.state c.args.tree.now in
    let some : 1 ≤ length (unusable_texts (places t)) = subst (λ ys. 1 ≤ length ys) c.in_ok-unusable.ensures (omega (arith, c.len.ensures, c.if-len-gt0.true)) in
    λ usable enough. absurd (omega (arith, some, ap length usable))

pub returns-clause-ok : goal.returns-clause-ok
returns-clause-ok g c =
    let t = g.T.Tree.state c.args.tree.now in
    let none : unusable_texts (places t) ≡ [] = nil_of (unusable_texts (places t)) (subst (λ ys. length ys ≤ 0) c.in_ok-unusable.ensures (omega (arith, c.len.ensures, c.if-len-gt0.false))) in
    ok_accounted c.args.requests.now c.args.now t none c.run_usable.result (g.T.Tree.state c.run_usable.new.tree) c.run_usable.ensures.enough c.run_usable.ensures.ok

pub returns-clause-staged : goal.returns-clause-staged
returns-clause-staged g c =
    let t = g.T.Tree.state c.args.tree.now in
    let none : unusable_texts (places t) ≡ [] = nil_of (unusable_texts (places t)) (subst (λ ys. length ys ≤ 0) c.in_ok-unusable.ensures (omega (arith, c.len.ensures, c.if-len-gt0.false))) in
    accounts_leave_none c.args.requests.now c.args.now t (g.met.T.Tree.is_tree c.args.tree.now) c.run_usable.result (g.T.Tree.state c.run_usable.new.tree)
    (ok_accounted c.args.requests.now c.args.now t none c.run_usable.result (g.T.Tree.state c.run_usable.new.tree) c.run_usable.ensures.enough c.run_usable.ensures.ok)

pub returns-clause-carried : goal.returns-clause-carried
returns-clause-carried g c =
    let t = g.T.Tree.state c.args.tree.now in
    let none : unusable_texts (places t) ≡ [] = nil_of (unusable_texts (places t)) (subst (λ ys. length ys ≤ 0) c.in_ok-unusable.ensures (omega (arith, c.len.ensures, c.if-len-gt0.false))) in
    subst (λ (ys : List (List ℕ)). IfOk c.run_usable.result (λ (d : Carried). d ≡ carried_of (nat_lt 0 (length ys)))) (sym none) c.run_usable.ensures.carried

pub returns-clause-lacking : goal.returns-clause-lacking
returns-clause-lacking g c =
    let t = g.T.Tree.state c.args.tree.now in
    let none : unusable_texts (places t) ≡ [] = nil_of (unusable_texts (places t)) (subst (λ ys. length ys ≤ 0) c.in_ok-unusable.ensures (omega (arith, c.len.ensures, c.if-len-gt0.false))) in
    subst (λ (ys : List (List ℕ)). IfErr c.run_usable.result (Lacks (lacking_unless ys (lacking_in (plan_at c.args.requests.now c.args.now (places t)).texts)))) (sym none) c.run_usable.ensures.lacking

pub returns-in_err-unusable-clause-recovers : goal.returns-in_err-unusable-clause-recovers
returns-in_err-unusable-clause-recovers g c =
    none_recovered c.args.requests.now c.args.now c.ranges.now.fits (g.T.Tree.state c.args.tree.now) (g.T.Tree.steps c.args.tree.now) (g.met.T.Tree.is_tree c.args.tree.now)

pub returns-in_err-say_unusable-clause-recovers : goal.returns-in_err-say_unusable-clause-recovers
returns-in_err-say_unusable-clause-recovers g c =
    none_recovered c.args.requests.now c.args.now c.ranges.now.fits (g.T.Tree.state c.args.tree.now) (g.T.Tree.steps c.args.tree.now) (g.met.T.Tree.is_tree c.args.tree.now)

pub returns-then-len-gt0-clause-recovers : goal.returns-then-len-gt0-clause-recovers
returns-then-len-gt0-clause-recovers g c =
    none_recovered c.args.requests.now c.args.now c.ranges.now.fits (g.T.Tree.state c.args.tree.now) (g.T.Tree.steps c.args.tree.now) (g.met.T.Tree.is_tree c.args.tree.now)

pub returns-clause-recovers : goal.returns-clause-recovers
returns-clause-recovers g c =
    let t = g.T.Tree.state c.args.tree.now in
    let plan = plan_at c.args.requests.now c.args.now (places t) in
    let none : unusable_texts (places t) ≡ [] = nil_of (unusable_texts (places t)) (subst (λ ys. length ys ≤ 0) c.in_ok-unusable.ensures (omega (arith, c.len.ensures, c.if-len-gt0.false))) in
    run_recovered c.args.requests.now c.args.now c.ranges.now.fits (edits_by (places t) plan.texts) (IsAccountStep (edits_by (places t) plan.texts) t) t (g.T.Tree.steps c.args.tree.now)
    (g.T.Tree.state c.run_usable.new.tree) (g.T.Tree.steps c.run_usable.new.tree) (g.met.T.Tree.is_tree c.args.tree.now) (sym (ap (λ xs. edits_unless xs (edits_by (places t) plan.texts)) none)) c.run_usable.ensures.acted.ran

pub returns-clause-new_messages : goal.returns-clause-new_messages
returns-clause-new_messages g c =
    let t = g.T.Tree.state c.args.tree.now in
    let none : unusable_texts (places t) ≡ [] = nil_of (unusable_texts (places t)) (subst (λ ys. length ys ≤ 0) c.in_ok-unusable.ensures (omega (arith, c.len.ensures, c.if-len-gt0.false))) in
    subst (λ (ys : List (List ℕ)). OnOk c.run_usable.result (c.run_usable.new.messages ≡ c.args.messages.now ++ messages_unless c.args.requests.now ys (plan_at c.args.requests.now c.args.now (places t)).new_messages)) (sym none) c.run_usable.ensures.new_messages

pub returns-clause-lacking_messages : goal.returns-clause-lacking_messages
returns-clause-lacking_messages g c =
    let t = g.T.Tree.state c.args.tree.now in
    let none : unusable_texts (places t) ≡ [] = nil_of (unusable_texts (places t)) (subst (λ ys. length ys ≤ 0) c.in_ok-unusable.ensures (omega (arith, c.len.ensures, c.if-len-gt0.false))) in
    subst (λ (ys : List (List ℕ)). IfLacking c.run_usable.result (c.run_usable.new.messages ≡ c.args.messages.now ++ messages_unless c.args.requests.now ys (plan_at c.args.requests.now c.args.now (places t)).new_messages)) (sym none) c.run_usable.ensures.lacking_messages

pub returns-clause-failed_enough : goal.returns-clause-failed_enough
returns-clause-failed_enough g c =
    let t = g.T.Tree.state c.args.tree.now in
    let none : unusable_texts (places t) ≡ [] = nil_of (unusable_texts (places t)) (subst (λ ys. length ys ≤ 0) c.in_ok-unusable.ensures (omega (arith, c.len.ensures, c.if-len-gt0.false))) in
    λ failed. ap (λ ys. lacking_unless ys (lacking_in (plan_at c.args.requests.now c.args.now (places t)).texts)) none ∙ c.run_usable.ensures.failed_enough failed

pub returns-clause-failed_messages : goal.returns-clause-failed_messages
returns-clause-failed_messages g c =
    let t = g.T.Tree.state c.args.tree.now in
    let none : unusable_texts (places t) ≡ [] = nil_of (unusable_texts (places t)) (subst (λ ys. length ys ≤ 0) c.in_ok-unusable.ensures (omega (arith, c.len.ensures, c.if-len-gt0.false))) in
    λ failed. c.run_usable.ensures.failed_messages failed ∙ ap (λ ys. c.args.messages.now ++ messages_unless c.args.requests.now ys (plan_at c.args.requests.now c.args.now (places t)).new_messages) (sym none)

pub returns-clause-part : goal.returns-clause-part
returns-clause-part g c =
    let t = g.T.Tree.state c.args.tree.now in
    let none : unusable_texts (places t) ≡ [] = nil_of (unusable_texts (places t)) (subst (λ ys. length ys ≤ 0) c.in_ok-unusable.ensures (omega (arith, c.len.ensures, c.if-len-gt0.false))) in
    subst (λ (ys : List (List ℕ)). MessagesPart (messages_unless c.args.requests.now ys (plan_at c.args.requests.now c.args.now (places t)).new_messages) c.args.messages.now c.run_usable.new.messages) (sym none) c.run_usable.ensures.part

pub returns-clause-enough : goal.returns-clause-enough
returns-clause-enough g c =
    let t = g.T.Tree.state c.args.tree.now in
    let none : unusable_texts (places t) ≡ [] = nil_of (unusable_texts (places t)) (subst (λ ys. length ys ≤ 0) c.in_ok-unusable.ensures (omega (arith, c.len.ensures, c.if-len-gt0.false))) in
    subst (λ (ys : List (List ℕ)). OnOk c.run_usable.result (lacking_unless ys (lacking_in (plan_at c.args.requests.now c.args.now (places t)).texts) ≡ None)) (sym none) c.run_usable.ensures.enough

pub returns-clause-acted : goal.returns-clause-acted
returns-clause-acted g c =
    let t = g.T.Tree.state c.args.tree.now in
    let none : unusable_texts (places t) ≡ [] = nil_of (unusable_texts (places t)) (subst (λ ys. length ys ≤ 0) c.in_ok-unusable.ensures (omega (arith, c.len.ensures, c.if-len-gt0.false))) in
    subst (λ (es : List Edit). Acted g.T.Tree (AccountWay es t) (IsAccountStep es t) (count_at_all t swept_names + most_put es (places t)) c.args.now c.args.tree.now c.run_usable.new.tree (in_steps c.run_usable.result))
    (sym (ap (λ xs. edits_unless xs (edits_by (places t) (plan_at c.args.requests.now c.args.now (places t)).texts)) none)) c.run_usable.ensures.acted

pub returns-clause-idle : goal.returns-clause-idle
returns-clause-idle g c =
    let t = g.T.Tree.state c.args.tree.now in
    let none : unusable_texts (places t) ≡ [] = nil_of (unusable_texts (places t)) (subst (λ ys. length ys ≤ 0) c.in_ok-unusable.ensures (omega (arith, c.len.ensures, c.if-len-gt0.false))) in
    λ some. absurd (some none)

pub returns-clause-turn : goal.returns-clause-turn
returns-clause-turn g c =
    let t = g.T.Tree.state c.args.tree.now in
    let none : unusable_texts (places t) ≡ [] = nil_of (unusable_texts (places t)) (subst (λ ys. length ys ≤ 0) c.in_ok-unusable.ensures (omega (arith, c.len.ensures, c.if-len-gt0.false))) in
    subst (λ (es : List Edit). Acted g.T.Tree (TurnWay es t) (IsAccountStep es t) (count_at_all t swept_names + most_put es (places t)) c.args.now c.args.tree.now c.run_usable.new.tree (in_steps c.run_usable.result))
    (sym (ap (λ xs. edits_unless xs (edits_by (places t) (plan_at c.args.requests.now c.args.now (places t)).texts)) none)) c.run_usable.ensures.turn
