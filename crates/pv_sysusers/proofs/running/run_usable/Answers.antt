use Rattle.std.proofs.Common.{List, ap, sym, subst, ◌∙◌}
use Rattle.std.specs.List.{AllByRecursion}
use Rattle.pv_steps.specs.Trees.{places}
use Rattle.pv_sysusers.specs.declared.edit.Edit.{Edit}
use Rattle.pv_sysusers.specs.Edits.{AreEdits}
use Rattle.pv_sysusers.specs.FileWriting.{IsEditOf, carried_out}
use Rattle.pv_sysusers.specs.Accounted.{edits_by, plan_at}
use Rattle.pv_sysusers.proofs.EditingLaws.{all_usable, are_by, of_by}
use Rattle.pv_sysusers.proofs.RunningLaws.{carried_map, on_answer}
use Rattle.pv_sysusers.proofs.running.run_usable.Goals as goal

pub planned_edits-requires-clause-usable : goal.planned_edits-requires-clause-usable
planned_edits-requires-clause-usable g c = all_usable (places (g.T.Tree.state c.args.tree.now)) c.requires.usable

pub write_account_files-requires-clause-edits : goal.write_account_files-requires-clause-edits
write_account_files-requires-clause-edits g c =
    let s = places (g.T.Tree.state c.args.tree.now) in
    subst AreEdits (sym (c.deref.ensures.value ∙ c.in-Ok.ensures.edits)) (are_by s c.requires.tree (all_usable s c.requires.usable) (plan_at c.args.requests.now c.args.now s).texts)

pub write_account_files-requires-clause-files : goal.write_account_files-requires-clause-files
write_account_files-requires-clause-files g c =
    let s = places (g.T.Tree.state c.args.tree.now) in
    subst (AllByRecursion (IsEditOf s)) (sym (c.deref.ensures.value ∙ c.in-Ok.ensures.edits)) (of_by s c.requires.tree (all_usable s c.requires.usable) (plan_at c.args.requests.now c.args.now s).texts)

pub returns-in-Ok-clause-ok : goal.returns-in-Ok-clause-ok
returns-in-Ok-clause-ok g c =
    let t = g.T.Tree.state c.args.tree.now in
    on_answer c.write_account_files.result c.run_answer.result c.run_answer.ensures
    (λ e. carried_map c.args.now (edits_by (places t) (plan_at c.args.requests.now c.args.now (places t)).texts) t (g.T.Tree.state c.write_account_files.new.tree)
    (e ∙ ap (λ (es : List Edit). carried_out c.args.now es (places t)) (c.deref.ensures.value ∙ c.in-Ok.ensures.edits))) c.write_account_files.ensures.ok
