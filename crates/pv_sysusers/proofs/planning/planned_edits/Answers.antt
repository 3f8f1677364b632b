use Rattle.std.proofs.Common.{◌≡◌, ◌++◌, ◌/◌, ℕ, List, Option, sym, subst, Result, Ok, Err, IfErr}
use Rattle.std.specs.Prelude.{IsErrAnd}
use Rattle.pv_steps.specs.Trees.{places}
use Rattle.pv_text.specs.GivenMessages.{MessagesPart}
use Rattle.pv_sysusers.specs.declared.plan_fault.PlanFault.{PlanFault}
use Rattle.pv_sysusers.specs.declared.path_ids.PathId.{PathId}
use Rattle.pv_sysusers.specs.declared.planned.Texts.{Texts}
use Rattle.pv_sysusers.specs.Deciding.{UnlessMemory, UnlessMemoryBy}
use Rattle.pv_sysusers.specs.Planning.{Misses}
use Rattle.pv_sysusers.specs.Plans.{planned}
use Rattle.pv_sysusers.specs.Accounted.{files_at}
use Rattle.pv_sysusers.proofs.planning.planned_edits.Goals as goal

misses_on : {A : Type 0} (r : Result A PlanFault) (f : PlanFault) (texts : Result Texts (List ℕ)) → IsErrAnd r (λ e. e ≡ f) → Misses texts f → IfErr r (Misses texts)
misses_on (Ok x) f texts h m = absurd h
misses_on (Err e) f texts h m = subst (Misses texts) (sym h) m

told_on : {A : Type 0} (r : Result A PlanFault) (f : PlanFault) (P : Type 0) → IsErrAnd r (λ e. e ≡ f) → UnlessMemoryBy f P → UnlessMemory r P
told_on (Ok x) f P h t = absurd h
told_on (Err e) f P h t = subst (λ v. UnlessMemoryBy v P) (sym h) t

pub returns-in_err-texts-clause-lacking : goal.returns-in_err-texts-clause-lacking
returns-in_err-texts-clause-lacking g c =
    let s = places (g.T.Tree.state c.args.tree.now) in
    let f = c.in_err-texts.field-0.0 in
    misses_on c.from_residual-in_err-texts.result f _ c.from_residual-in_err-texts.ensures.1
    (subst (λ (taken : List (Option PathId)). Misses (planned c.args.requests.now taken (files_at s) (c.args.now / 86400000000)).texts f) c.in_ok-taken.ensures c.in_err-texts.ensures.lacking)

pub returns-in_err-texts-clause-new_messages : goal.returns-in_err-texts-clause-new_messages
returns-in_err-texts-clause-new_messages g c =
    let s = places (g.T.Tree.state c.args.tree.now) in
    let f = c.in_err-texts.field-0.0 in
    told_on c.from_residual-in_err-texts.result f _ c.from_residual-in_err-texts.ensures.1
    (subst (λ (taken : List (Option PathId)). UnlessMemoryBy f (c.planned_texts.new.messages ≡ c.args.messages.now ++ (planned c.args.requests.now taken (files_at s) (c.args.now / 86400000000)).new_messages)) c.in_ok-taken.ensures c.in_err-texts.ensures.new_messages)

pub returns-in_err-texts-clause-part : goal.returns-in_err-texts-clause-part
returns-in_err-texts-clause-part g c =
    let s = places (g.T.Tree.state c.args.tree.now) in
    subst (λ (taken : List (Option PathId)). MessagesPart (planned c.args.requests.now taken (files_at s) (c.args.now / 86400000000)).new_messages c.args.messages.now c.planned_texts.new.messages) c.in_ok-taken.ensures c.planned_texts.ensures.part

pub returns-in_err-edits-clause-part : goal.returns-in_err-edits-clause-part
returns-in_err-edits-clause-part g c =
    let s = places (g.T.Tree.state c.args.tree.now) in
    subst (λ (taken : List (Option PathId)). MessagesPart (planned c.args.requests.now taken (files_at s) (c.args.now / 86400000000)).new_messages c.args.messages.now c.planned_texts.new.messages) c.in_ok-taken.ensures c.planned_texts.ensures.part

pub returns-clause-part : goal.returns-clause-part
returns-clause-part g c =
    let s = places (g.T.Tree.state c.args.tree.now) in
    subst (λ (taken : List (Option PathId)). MessagesPart (planned c.args.requests.now taken (files_at s) (c.args.now / 86400000000)).new_messages c.args.messages.now c.planned_texts.new.messages) c.in_ok-taken.ensures c.planned_texts.ensures.part
