use Rattle.std.proofs.Common.{◌≡◌, ◌∙◌, ◌++◌, [], ap, subst, IfOk, IfErr, Ok, unwrap_or, option_map}
use Rattle.pv_path.specs.Paths.{Path}
use Rattle.pv_steps.specs.Trees.{places}
use Rattle.pv_text.specs.GivenMessages.{MessagesPart}
use Rattle.pv_sysusers.specs.Deciding.{UnlessMemory}
use Rattle.pv_sysusers.specs.Planning.{Misses, files_in}
use Rattle.pv_sysusers.specs.Plans.{AccountFiles, planned}
use Rattle.pv_sysusers.specs.Accounted.{files_at, text_at}
use Rattle.std.proofs.lemmas.Result.{IfOk-from_err}
use Rattle.pv_sysusers.proofs.PlanLaws.{memory_misses, memory_owes}
use Rattle.pv_sysusers.proofs.planning.planned_texts.Goals as goal

pub returns-clause-texts : goal.returns-clause-texts
returns-clause-texts g c =
    let s = places (g.T.Tree.state c.args.tree.now) in
    let passwd = c.text_at.ensures ∙ ap (λ (p : Path). unwrap_or (text_at s p) []) c.in_ok-passwd.ensures in
    let group = c.text_at-2.ensures ∙ ap (λ (p : Path). unwrap_or (text_at s p) []) c.in_ok-group.ensures in
    let shadow = c.text_at-3.ensures ∙ ap (λ (p : Path). unwrap_or (text_at s p) []) c.in_ok-shadow.ensures in
    let gshadow = c.own_text.ensures ∙ ap (text_at s) c.in_ok-gshadow.ensures in
    let files : files_in c.text_at.result.now c.text_at-2.result.now c.text_at-3.result.now (option_map (λ f. f.now) c.own_text.result) ≡ files_at s = λ i. files_in (passwd i) (group i) (shadow i) (gshadow i) in
    subst (λ (f : AccountFiles). IfOk c.plan.result (λ texts. (planned c.args.requests.now c.args.taken.now f c.args.day).texts ≡ Ok texts)) files c.plan.ensures.texts

pub returns-clause-lacking : goal.returns-clause-lacking
returns-clause-lacking g c =
    let s = places (g.T.Tree.state c.args.tree.now) in
    let passwd = c.text_at.ensures ∙ ap (λ (p : Path). unwrap_or (text_at s p) []) c.in_ok-passwd.ensures in
    let group = c.text_at-2.ensures ∙ ap (λ (p : Path). unwrap_or (text_at s p) []) c.in_ok-group.ensures in
    let shadow = c.text_at-3.ensures ∙ ap (λ (p : Path). unwrap_or (text_at s p) []) c.in_ok-shadow.ensures in
    let gshadow = c.own_text.ensures ∙ ap (text_at s) c.in_ok-gshadow.ensures in
    let files : files_in c.text_at.result.now c.text_at-2.result.now c.text_at-3.result.now (option_map (λ f. f.now) c.own_text.result) ≡ files_at s = λ i. files_in (passwd i) (group i) (shadow i) (gshadow i) in
    subst (λ (f : AccountFiles). IfErr c.plan.result (Misses (planned c.args.requests.now c.args.taken.now f c.args.day).texts)) files c.plan.ensures.lacking

pub returns-clause-new_messages : goal.returns-clause-new_messages
returns-clause-new_messages g c =
    let s = places (g.T.Tree.state c.args.tree.now) in
    let passwd = c.text_at.ensures ∙ ap (λ (p : Path). unwrap_or (text_at s p) []) c.in_ok-passwd.ensures in
    let group = c.text_at-2.ensures ∙ ap (λ (p : Path). unwrap_or (text_at s p) []) c.in_ok-group.ensures in
    let shadow = c.text_at-3.ensures ∙ ap (λ (p : Path). unwrap_or (text_at s p) []) c.in_ok-shadow.ensures in
    let gshadow = c.own_text.ensures ∙ ap (text_at s) c.in_ok-gshadow.ensures in
    let files : files_in c.text_at.result.now c.text_at-2.result.now c.text_at-3.result.now (option_map (λ f. f.now) c.own_text.result) ≡ files_at s = λ i. files_in (passwd i) (group i) (shadow i) (gshadow i) in
    subst (λ (f : AccountFiles). UnlessMemory c.plan.result (c.plan.new.messages ≡ c.args.messages.now ++ (planned c.args.requests.now c.args.taken.now f c.args.day).new_messages)) files c.plan.ensures.new_messages

pub returns-clause-part : goal.returns-clause-part
returns-clause-part g c =
    let s = places (g.T.Tree.state c.args.tree.now) in
    let passwd = c.text_at.ensures ∙ ap (λ (p : Path). unwrap_or (text_at s p) []) c.in_ok-passwd.ensures in
    let group = c.text_at-2.ensures ∙ ap (λ (p : Path). unwrap_or (text_at s p) []) c.in_ok-group.ensures in
    let shadow = c.text_at-3.ensures ∙ ap (λ (p : Path). unwrap_or (text_at s p) []) c.in_ok-shadow.ensures in
    let gshadow = c.own_text.ensures ∙ ap (text_at s) c.in_ok-gshadow.ensures in
    let files : files_in c.text_at.result.now c.text_at-2.result.now c.text_at-3.result.now (option_map (λ f. f.now) c.own_text.result) ≡ files_at s = λ i. files_in (passwd i) (group i) (shadow i) (gshadow i) in
    subst (λ (f : AccountFiles). MessagesPart (planned c.args.requests.now c.args.taken.now f c.args.day).new_messages c.args.messages.now c.plan.new.messages) files c.plan.ensures.part

pub returns-in_err-passwd-clause-texts : goal.returns-in_err-passwd-clause-texts
returns-in_err-passwd-clause-texts g c = IfOk-from_err c.from_residual.result _ c.from_residual.ensures.0

pub returns-in_err-passwd-clause-lacking : goal.returns-in_err-passwd-clause-lacking
returns-in_err-passwd-clause-lacking g c = memory_misses c.from_residual.result _ c.from_residual.ensures.1

pub returns-in_err-passwd-clause-new_messages : goal.returns-in_err-passwd-clause-new_messages
returns-in_err-passwd-clause-new_messages g c = memory_owes c.from_residual.result _ c.from_residual.ensures.1

pub returns-in_err-group-clause-texts : goal.returns-in_err-group-clause-texts
returns-in_err-group-clause-texts g c = IfOk-from_err c.from_residual-in_err-group.result _ c.from_residual-in_err-group.ensures.0

pub returns-in_err-group-clause-lacking : goal.returns-in_err-group-clause-lacking
returns-in_err-group-clause-lacking g c = memory_misses c.from_residual-in_err-group.result _ c.from_residual-in_err-group.ensures.1

pub returns-in_err-group-clause-new_messages : goal.returns-in_err-group-clause-new_messages
returns-in_err-group-clause-new_messages g c = memory_owes c.from_residual-in_err-group.result _ c.from_residual-in_err-group.ensures.1

pub returns-in_err-shadow-clause-texts : goal.returns-in_err-shadow-clause-texts
returns-in_err-shadow-clause-texts g c = IfOk-from_err c.from_residual-in_err-shadow.result _ c.from_residual-in_err-shadow.ensures.0

pub returns-in_err-shadow-clause-lacking : goal.returns-in_err-shadow-clause-lacking
returns-in_err-shadow-clause-lacking g c = memory_misses c.from_residual-in_err-shadow.result _ c.from_residual-in_err-shadow.ensures.1

pub returns-in_err-shadow-clause-new_messages : goal.returns-in_err-shadow-clause-new_messages
returns-in_err-shadow-clause-new_messages g c = memory_owes c.from_residual-in_err-shadow.result _ c.from_residual-in_err-shadow.ensures.1

pub returns-in_err-gshadow-clause-texts : goal.returns-in_err-gshadow-clause-texts
returns-in_err-gshadow-clause-texts g c = IfOk-from_err c.from_residual-in_err-gshadow.result _ c.from_residual-in_err-gshadow.ensures.0

pub returns-in_err-gshadow-clause-lacking : goal.returns-in_err-gshadow-clause-lacking
returns-in_err-gshadow-clause-lacking g c = memory_misses c.from_residual-in_err-gshadow.result _ c.from_residual-in_err-gshadow.ensures.1

pub returns-in_err-gshadow-clause-new_messages : goal.returns-in_err-gshadow-clause-new_messages
returns-in_err-gshadow-clause-new_messages g c = memory_owes c.from_residual-in_err-gshadow.result _ c.from_residual-in_err-gshadow.ensures.1
