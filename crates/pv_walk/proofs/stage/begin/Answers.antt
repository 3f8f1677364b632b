use Rattle.std.proofs.Common.{sym, arith}
use Rattle.pv_steps.specs.declared.step.Step.TheVariants.{Write}
use Rattle.pv_steps.proofs.ActingLaws.{Moves, well, no_memory, acted_none, acted_tried, acted_then, acted_within, acted_passed, acted_ended}
use Rattle.pv_walk.specs.Making.{make_step, Beginning, BeginsNew}
use Rattle.pv_walk.proofs.StageLaws.{begun_start, begin_asks, begin_holds, can_write, write_asks, write_holds}
use Rattle.pv_walk.proofs.stage.begin.Goals as goal

pub returns-in_err-make_step-clause-acted : goal.returns-in_err-make_step-clause-acted
returns-in_err-make_step-clause-acted g c =
    let moves : Moves g.T.Tree = record { stays = g.met.T.Tree.reaches_self; goes_on = g.met.T.Tree.reaches_on; never_falls = g.met.T.Tree.never_falls } in
    acted_none g.T.Tree moves (Beginning c.args.path.now c.args.what (g.T.Tree.state c.args.tree.now)) (BeginsNew c.args.path.now c.args.what) 2 c.args.now c.args.tree.now
    c.from_residual.result (no_memory c.from_residual.result c.from_residual.ensures.1) (begun_start c.args.path.now c.requires.not_root c.args.now (g.T.Tree.state c.args.tree.now) c.requires.room c.args.what)

pub try_step-requires : goal.try_step-requires
try_step-requires g c = rw c.in_ok-make_step.ensures (begin_asks c.args.path.now c.requires.not_root c.args.now (g.T.Tree.state c.args.tree.now) c.requires.room c.args.what c.requires.target).can

pub returns-in_err-try_step-clause-acted : goal.returns-in_err-try_step-clause-acted
returns-in_err-try_step-clause-acted g c =
    let t = g.T.Tree.state c.args.tree.now in
    acted_passed g.T.Tree c.try_step.result c.from_residual-in_err-try_step.result c.in_err-try_step.was c.from_residual-in_err-try_step.ensures.1
    (acted_within g.T.Tree 1 2 (omega arith) (acted_tried g.T.Tree (Beginning c.args.path.now c.args.what t) (BeginsNew c.args.path.now c.args.what) (make_step c.args.path.now c.args.what) c.args.now
    c.args.tree.now c.try_step.new.tree c.try_step.result (rw c.in_ok-make_step.ensures at c.try_step.ensures) (begin_asks c.args.path.now c.requires.not_root c.args.now (g.T.Tree.state c.args.tree.now) c.requires.room c.args.what c.requires.target)))

pub returns-in_err-write_step-in-Some-clause-acted : goal.returns-in_err-write_step-in-Some-clause-acted
returns-in_err-write_step-in-Some-clause-acted g c =
    let t = g.T.Tree.state c.args.tree.now in
    acted_ended g.T.Tree c.from_residual-in_err-write_step-in-Some.result (no_memory c.from_residual-in_err-write_step-in-Some.result c.from_residual-in_err-write_step-in-Some.ensures.1)
    (acted_within g.T.Tree 1 2 (omega arith) (acted_tried g.T.Tree (Beginning c.args.path.now c.args.what t) (BeginsNew c.args.path.now c.args.what) (make_step c.args.path.now c.args.what) c.args.now
    c.args.tree.now c.try_step.new.tree well (rw c.in_ok-make_step.ensures at c.in_ok-try_step.ensures) (begin_asks c.args.path.now c.requires.not_root c.args.now (g.T.Tree.state c.args.tree.now) c.requires.room c.args.what c.requires.target)))

pub try_step-requires-in-Some : goal.try_step-requires-in-Some
try_step-requires-in-Some g c =
    rw c.in_ok-write_step-in-Some.ensures (can_write c.args.path.now c.requires.not_root c.args.now (g.T.Tree.state c.args.tree.now) c.requires.room c.args.what (g.T.Tree.state c.try_step.new.tree) (rw c.in_ok-make_step.ensures at c.in_ok-try_step.ensures.state) c.in-Some.content c.in-Some.ensures)

pub returns-in_ok-write_step-in-Some-clause-acted : goal.returns-in_ok-write_step-in-Some-clause-acted
returns-in_ok-write_step-in-Some-clause-acted g c =
    let moves : Moves g.T.Tree = record { stays = g.met.T.Tree.reaches_self; goes_on = g.met.T.Tree.reaches_on; never_falls = g.met.T.Tree.never_falls } in
    let t = g.T.Tree.state c.args.tree.now in
    acted_then g.T.Tree moves (Beginning c.args.path.now c.args.what t) (BeginsNew c.args.path.now c.args.what) (acted_tried g.T.Tree (Beginning c.args.path.now c.args.what t) (BeginsNew c.args.path.now c.args.what) (make_step c.args.path.now c.args.what) c.args.now
    c.args.tree.now c.try_step.new.tree well (rw c.in_ok-make_step.ensures at c.in_ok-try_step.ensures) (begin_asks c.args.path.now c.requires.not_root c.args.now (g.T.Tree.state c.args.tree.now) c.requires.room c.args.what c.requires.target))
    (acted_tried g.T.Tree (Beginning c.args.path.now c.args.what t) (BeginsNew c.args.path.now c.args.what) (Write c.args.path.now c.in-Some.content) c.args.now
    c.try_step.new.tree c.try_step-in-Some.new.tree c.try_step-in-Some.result (rw c.in_ok-write_step-in-Some.ensures at c.try_step-in-Some.ensures)
    (write_asks c.args.path.now c.requires.not_root c.args.now (g.T.Tree.state c.args.tree.now) c.requires.room c.args.what (g.T.Tree.state c.try_step.new.tree) (rw c.in_ok-make_step.ensures at c.in_ok-try_step.ensures.state) c.in-Some.content c.in-Some.ensures))

pub returns-in_ok-write_step-in-Some-clause-ok : goal.returns-in_ok-write_step-in-Some-clause-ok
returns-in_ok-write_step-in-Some-clause-ok g c =
    write_holds c.args.path.now c.requires.not_root c.args.now (g.T.Tree.state c.args.tree.now) c.requires.room c.args.what (g.T.Tree.state c.try_step.new.tree) (rw c.in_ok-make_step.ensures at c.in_ok-try_step.ensures.state) c.in-Some.content c.in-Some.ensures
    c.try_step-in-Some.result (g.T.Tree.state c.try_step-in-Some.new.tree) (rw c.in_ok-write_step-in-Some.ensures at c.try_step-in-Some.ensures.state)

pub returns-in-None-clause-acted : goal.returns-in-None-clause-acted
returns-in-None-clause-acted g c =
    let t = g.T.Tree.state c.args.tree.now in
    acted_within g.T.Tree 1 2 (omega arith) (acted_tried g.T.Tree (Beginning c.args.path.now c.args.what t) (BeginsNew c.args.path.now c.args.what) (make_step c.args.path.now c.args.what) c.args.now
    c.args.tree.now c.try_step.new.tree well (rw c.in_ok-make_step.ensures at c.in_ok-try_step.ensures) (begin_asks c.args.path.now c.requires.not_root c.args.now (g.T.Tree.state c.args.tree.now) c.requires.room c.args.what c.requires.target))

pub returns-in-None-clause-ok : goal.returns-in-None-clause-ok
returns-in-None-clause-ok g c =
    begin_holds c.args.path.now c.requires.not_root c.args.now (g.T.Tree.state c.args.tree.now) c.requires.room c.args.what (g.T.Tree.state c.try_step.new.tree) (rw c.in_ok-make_step.ensures at c.in_ok-try_step.ensures.state) (sym c.in-None.ensures)
