use Rattle.std.proofs.Common.{Ok}
use Rattle.pv_steps.proofs.ActingLaws.{Moves}
use Rattle.provision_run.proofs.BootCalls.{both_done, creating_failed, creating_out, removing_failed, removing_out}
use Rattle.provision_run.proofs.boot.remove_then_create.Goals as goal

pub returns-in_err-removing : goal.returns-in_err-removing
returns-in_err-removing g c =
    let moves : Moves g.T.Tree = record { stays = g.met.T.Tree.reaches_self; goes_on = g.met.T.Tree.reaches_on; never_falls = g.met.T.Tree.never_falls } in
    let lines = c.args.table.now in
    let now = c.args.now in
    removing_failed g.T.Tree lines now moves c.args.tree.now c.args.messages.now c.remove_run.new.tree c.remove_run.new.messages c.remove_run.result c.from_residual.result c.in_err-removing.was c.from_residual.ensures.1
    (removing_out g.T.Tree lines now c.args.tree.now c.remove_run.new.tree c.args.messages.now c.remove_run.new.messages c.remove_run.result c.remove_run.ensures.run)

pub returns-in_err-creating : goal.returns-in_err-creating
returns-in_err-creating g c =
    let moves : Moves g.T.Tree = record { stays = g.met.T.Tree.reaches_self; goes_on = g.met.T.Tree.reaches_on; never_falls = g.met.T.Tree.never_falls } in
    let lines = c.args.table.now in
    let now = c.args.now in
    creating_failed g.T.Tree lines now moves c.args.tree.now c.args.messages.now c.remove_run.new.tree c.remove_run.new.messages c.in_ok-removing.removing
    (removing_out g.T.Tree lines now c.args.tree.now c.remove_run.new.tree c.args.messages.now c.remove_run.new.messages (Ok c.in_ok-removing.removing) c.in_ok-removing.ensures.run)
    c.create_run.new.tree c.create_run.new.messages c.create_run.result c.from_residual-in_err-creating.result c.in_err-creating.was c.from_residual-in_err-creating.ensures.1
    (creating_out g.T.Tree lines now c.remove_run.new.tree c.create_run.new.tree c.remove_run.new.messages c.create_run.new.messages c.create_run.result
    c.create_run.ensures.ok c.create_run.ensures.new_messages c.create_run.ensures.carried c.create_run.ensures.part c.create_run.ensures.acted c.create_run.ensures.went)

pub returns : goal.returns
returns g c =
    let moves : Moves g.T.Tree = record { stays = g.met.T.Tree.reaches_self; goes_on = g.met.T.Tree.reaches_on; never_falls = g.met.T.Tree.never_falls } in
    let lines = c.args.table.now in
    let now = c.args.now in
    both_done g.T.Tree lines now moves c.args.tree.now c.args.messages.now c.remove_run.new.tree c.remove_run.new.messages c.in_ok-removing.removing
    (removing_out g.T.Tree lines now c.args.tree.now c.remove_run.new.tree c.args.messages.now c.remove_run.new.messages (Ok c.in_ok-removing.removing) c.in_ok-removing.ensures.run)
    c.create_run.new.tree c.create_run.new.messages c.in_ok-creating.creating c.and.result
    (creating_out g.T.Tree lines now c.remove_run.new.tree c.create_run.new.tree c.remove_run.new.messages c.create_run.new.messages (Ok c.in_ok-creating.creating)
    c.in_ok-creating.ensures.ok c.in_ok-creating.ensures.new_messages c.in_ok-creating.ensures.carried c.in_ok-creating.ensures.part c.in_ok-creating.ensures.acted c.in_ok-creating.ensures.went)
    c.and.ensures
