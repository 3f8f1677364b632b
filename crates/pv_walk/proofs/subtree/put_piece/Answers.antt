use Rattle.pv_steps.proofs.ActingLaws.{Moves, no_memory, acted_none}
use Rattle.pv_walk.specs.Pieces.{GivesPiece, PieceWay, piece_cost}
use Rattle.pv_walk.proofs.CopyingLaws.{way_start}
use Rattle.pv_walk.proofs.subtree.put_piece.Goals as goal

pub begin-requires-clause-not_root : goal.begin-requires-clause-not_root
begin-requires-clause-not_root g c =
    let can = rw c.in-Make.is at c.requires in
    rw (c.in_ok-followed_by-in-Make.ensures, c.names.ensures.value) can.0

pub begin-requires-clause-room : goal.begin-requires-clause-room
begin-requires-clause-room g c =
    let can = rw c.in-Make.is at c.requires in
    rw (c.in_ok-followed_by-in-Make.ensures, c.names.ensures.value) can.1.0

pub begin-requires-clause-target : goal.begin-requires-clause-target
begin-requires-clause-target g c =
    let can = rw c.in-Make.is at c.requires in
    can.1.1

pub set_metadata-requires : goal.set_metadata-requires
set_metadata-requires g c =
    let can = rw c.in-Give.is at c.requires in
    rw (c.in_ok-followed_by-in-Give.ensures, c.names-in-Give.ensures.value) can

pub returns-in_err-followed_by-in-Make-clause-acted : goal.returns-in_err-followed_by-in-Make-clause-acted
returns-in_err-followed_by-in-Make-clause-acted g c =
    let moves : Moves g.T.Tree = record { stays = g.met.T.Tree.reaches_self; goes_on = g.met.T.Tree.reaches_on; never_falls = g.met.T.Tree.never_falls } in
    let t = g.T.Tree.state c.args.tree.now in
    acted_none g.T.Tree moves (PieceWay c.args.stage.now c.args.piece t) (GivesPiece c.args.stage.now c.args.piece t) (piece_cost c.args.piece) c.args.now c.args.tree.now
    c.from_residual.result (no_memory c.from_residual.result c.from_residual.ensures.1) (way_start c.args.stage.now c.args.piece t c.requires)

pub returns-in_err-followed_by-in-Give-clause-acted : goal.returns-in_err-followed_by-in-Give-clause-acted
returns-in_err-followed_by-in-Give-clause-acted g c =
    let moves : Moves g.T.Tree = record { stays = g.met.T.Tree.reaches_self; goes_on = g.met.T.Tree.reaches_on; never_falls = g.met.T.Tree.never_falls } in
    let t = g.T.Tree.state c.args.tree.now in
    acted_none g.T.Tree moves (PieceWay c.args.stage.now c.args.piece t) (GivesPiece c.args.stage.now c.args.piece t) (piece_cost c.args.piece) c.args.now c.args.tree.now
    c.from_residual-in_err-followed_by-in-Give.result (no_memory c.from_residual-in_err-followed_by-in-Give.result c.from_residual-in_err-followed_by-in-Give.ensures.1) (way_start c.args.stage.now c.args.piece t c.requires)

pub returns-in_ok-followed_by-in-Make-clause-acted : goal.returns-in_ok-followed_by-in-Make-clause-acted
returns-in_ok-followed_by-in-Make-clause-acted g c =
    let made = rw (c.in_ok-followed_by-in-Make.ensures, c.names.ensures.value) at c.begin-in-Make.ensures.acted in
    rw c.in-Make.is made

pub returns-in_ok-followed_by-in-Make-clause-ok : goal.returns-in_ok-followed_by-in-Make-clause-ok
returns-in_ok-followed_by-in-Make-clause-ok g c =
    let made = rw (c.in_ok-followed_by-in-Make.ensures, c.names.ensures.value) at c.begin-in-Make.ensures.ok in
    rw c.in-Make.is made

pub returns-in_ok-followed_by-in-Give-clause-acted : goal.returns-in_ok-followed_by-in-Give-clause-acted
returns-in_ok-followed_by-in-Give-clause-acted g c =
    let worn = rw (c.in_ok-followed_by-in-Give.ensures, c.names-in-Give.ensures.value) at c.set_metadata-in-Give.ensures.acted in
    rw c.in-Give.is worn

pub returns-in_ok-followed_by-in-Give-clause-ok : goal.returns-in_ok-followed_by-in-Give-clause-ok
returns-in_ok-followed_by-in-Give-clause-ok g c =
    let worn = rw (c.in_ok-followed_by-in-Give.ensures, c.names-in-Give.ensures.value) at c.set_metadata-in-Give.ensures.ok in
    rw c.in-Give.is worn
