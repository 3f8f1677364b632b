use Rattle.std.proofs.Common.{◌≡◌, ◌++◌, List, [], Ok, IfOk, IfErr, subst}
use Rattle.pv_sysusers.specs.Deciding.{UnlessMemory}
use Rattle.pv_sysusers.specs.Lines.{Line, lines_from, duplicate_messages}
use Rattle.pv_sysusers.specs.Planning.{Misses, files_of}
use Rattle.pv_sysusers.specs.Plans.{plan_of}
use Rattle.pv_sysusers.specs.Shown.{shown}
use Rattle.pv_sysusers.proofs.PlanLaws.{told_after}
use Rattle.pv_sysusers.proofs.planned.planned_texts.Goals as goal

pub returns-clause-texts : goal.returns-clause-texts
returns-clause-texts c =
    subst (λ (ls : List Line). IfOk c.plan_of.result (λ texts. (plan_of (files_of c.args.files.now) ls c.args.day).texts ≡ Ok texts)) c.in_ok-lines.ensures.kept c.plan_of.ensures.texts

pub returns-clause-lacking : goal.returns-clause-lacking
returns-clause-lacking c =
    subst (λ (ls : List Line). IfErr c.plan_of.result (Misses (plan_of (files_of c.args.files.now) ls c.args.day).texts)) c.in_ok-lines.ensures.kept c.plan_of.ensures.lacking

pub returns-clause-new_messages : goal.returns-clause-new_messages
returns-clause-new_messages c =
    subst (λ (ls : List Line). UnlessMemory c.plan_of.result (c.plan_of.new.new_messages ≡ c.args.new_messages.now ++ (duplicate_messages [] (lines_from c.args.taken.now 0 c.args.requests.now) ++ (plan_of (files_of c.args.files.now) ls c.args.day).new_messages))) c.in_ok-lines.ensures.kept
    (told_after c.plan_of.result c.plan_of.new.new_messages c.effective_lines.new.new_messages c.args.new_messages.now (duplicate_messages [] (lines_from c.args.taken.now 0 c.args.requests.now)) (plan_of (files_of c.args.files.now) (shown c.in_ok-lines.lines.kept.items) c.args.day).new_messages
    c.in_ok-lines.ensures.new_messages c.plan_of.ensures.new_messages)
