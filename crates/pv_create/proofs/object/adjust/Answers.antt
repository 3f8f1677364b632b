use Rattle.std.proofs.Common.{refl}
use Rattle.pv_steps.specs.Trees.{places}
use Rattle.pv_steps.proofs.ActingLaws.{Moves, acted_none, acted_passed, no_memory}
use Rattle.pv_table.specs.Created.{change_work}
use Rattle.pv_create.specs.Adjusting.{Adjusting, GivesSet}
use Rattle.pv_create.proofs.AdjustLaws.{standing, adjusting_start, file_wanted, can_wear, adjusted_on, bytes_acted, all_acted}
use Rattle.pv_create.proofs.KeptLaws.{stays_so}
use Rattle.pv_create.proofs.object.adjust.Goals as goal

pub returns-in_default-clause-ok : goal.returns-in_default-clause-ok
returns-in_default-clause-ok g c =
    stays_so c.args.path.now c.args.sets.now c.requires.sets c.args.now (g.T.Tree.state c.args.tree.now) c.requires.present (rw c.in_default.is at c.in_ok-new.ensures.kept)

pub returns-in_default-clause-acted : goal.returns-in_default-clause-acted
returns-in_default-clause-acted g c =
    let moves : Moves g.T.Tree = record { stays = g.met.T.Tree.reaches_self; goes_on = g.met.T.Tree.reaches_on; never_falls = g.met.T.Tree.never_falls } in
    let t = g.T.Tree.state c.args.tree.now in
    acted_none g.T.Tree moves (Adjusting c.args.path.now c.args.sets.now t) (GivesSet c.args.path.now c.args.sets.now t) (change_work c.args.sets.now (places t c.args.path.now)) c.args.now c.args.tree.now _ refl
    (adjusting_start c.args.path.now c.args.sets.now t)

pub set_metadata-requires : goal.set_metadata-requires
set_metadata-requires g c =
    let t = g.T.Tree.state c.args.tree.now in
    let o = standing t c.args.path.now c.requires.present in
    can_wear c.args.path.now c.args.sets.now c.requires.sets t c.wanted_at.ensures.tree o.0 o.1 c.in-Some.new ((rw c.in-Some.is at c.in_ok-new.ensures.wanted) o.0 o.1) c.args.now (g.T.Tree.state c.give_bytes.new.tree) c.in_ok-give_bytes.ensures.ok

pub returns-in_err-give_bytes-clause-acted : goal.returns-in_err-give_bytes-clause-acted
returns-in_err-give_bytes-clause-acted g c =
    let moves : Moves g.T.Tree = record { stays = g.met.T.Tree.reaches_self; goes_on = g.met.T.Tree.reaches_on; never_falls = g.met.T.Tree.never_falls } in
    let t = g.T.Tree.state c.args.tree.now in
    let o = standing t c.args.path.now c.requires.present in
    acted_passed g.T.Tree c.give_bytes.result c.from_residual-in_err-give_bytes.result c.in_err-give_bytes.was c.from_residual-in_err-give_bytes.ensures.1
    (bytes_acted g.T.Tree moves c.args.path.now c.args.sets.now c.requires.sets c.args.tree.now c.give_bytes.new.tree c.wanted_at.ensures.tree o.0 o.1 c.in-Some.new ((rw c.in-Some.is at c.in_ok-new.ensures.wanted) o.0 o.1) c.args.now
    c.give_bytes.result c.give_bytes.ensures.acted c.give_bytes.ensures.idle)

pub returns-clause-ok : goal.returns-clause-ok
returns-clause-ok g c =
    let t = g.T.Tree.state c.args.tree.now in
    let o = standing t c.args.path.now c.requires.present in
    adjusted_on c.args.path.now c.args.sets.now c.requires.sets t c.wanted_at.ensures.tree o.0 o.1 c.in-Some.new ((rw c.in-Some.is at c.in_ok-new.ensures.wanted) o.0 o.1) c.args.now (g.T.Tree.state c.give_bytes.new.tree) c.in_ok-give_bytes.ensures.ok
    c.set_metadata.result (g.T.Tree.state c.set_metadata.new.tree) c.set_metadata.ensures.ok

pub returns-clause-acted : goal.returns-clause-acted
returns-clause-acted g c =
    let moves : Moves g.T.Tree = record { stays = g.met.T.Tree.reaches_self; goes_on = g.met.T.Tree.reaches_on; never_falls = g.met.T.Tree.never_falls } in
    let t = g.T.Tree.state c.args.tree.now in
    let o = standing t c.args.path.now c.requires.present in
    all_acted g.T.Tree moves c.args.path.now c.args.sets.now c.requires.sets c.args.tree.now c.give_bytes.new.tree c.wanted_at.ensures.tree o.0 o.1 c.in-Some.new ((rw c.in-Some.is at c.in_ok-new.ensures.wanted) o.0 o.1) c.args.now
    c.set_metadata.new.tree c.in_ok-give_bytes.ensures.ok tt c.in_ok-give_bytes.ensures.acted c.in_ok-give_bytes.ensures.idle c.set_metadata.result c.set_metadata.ensures.acted c.set_metadata.ensures.few c.set_metadata.ensures.two c.set_metadata.ensures.idle

pub give_bytes-requires : goal.give_bytes-requires
give_bytes-requires g c =
    let t = g.T.Tree.state c.args.tree.now in
    let o = standing t c.args.path.now c.requires.present in
    file_wanted c.args.path.now t c.args.sets.now o.0 o.1 c.in-Some.new ((rw c.in-Some.is at c.in_ok-new.ensures.wanted) o.0 o.1)

pub returns-in_err-new-clause-acted : goal.returns-in_err-new-clause-acted
returns-in_err-new-clause-acted g c =
    let moves : Moves g.T.Tree = record { stays = g.met.T.Tree.reaches_self; goes_on = g.met.T.Tree.reaches_on; never_falls = g.met.T.Tree.never_falls } in
    let t = g.T.Tree.state c.args.tree.now in
    let path = c.args.path.now in
    let sets = c.args.sets.now in
    acted_none g.T.Tree moves (Adjusting path sets t) (GivesSet path sets t) (change_work sets (places t path)) c.args.now c.args.tree.now c.from_residual.result
    (no_memory c.from_residual.result c.from_residual.ensures.1) (adjusting_start path sets t)
