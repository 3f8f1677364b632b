-- make_subtree
use Rattle.std.proofs.Common.{◌≡◌, ◌-◌, ◌++◌, [], refl, sym, ◌∙◌, arith}
use Rattle.std.proofs.lemmas.List.{nil_from_length}
use Rattle.pv_path.specs.Paths.{Path}
use Rattle.pv_path.proofs.PathLaws.{is_prefix-append}
use Rattle.pv_steps.specs.Trees.{places}
use Rattle.pv_steps.proofs.ActingLaws.{Moves, well, acted_none, acted_within, acted_passed}
use Rattle.pv_walk.specs.Copying.{GivesPart}
use Rattle.pv_walk.specs.Pieces.{cost_of, made_of}
use Rattle.pv_walk.specs.Stages.{Staging}
use Rattle.pv_walk.proofs.CopyListing.{cost-push}
use Rattle.pv_walk.proofs.CopyingLaws.{doing_start, doing_can, doing_end, one_more, next_done}
use Rattle.pv_walk.proofs.PuttingLaws.{none_under}
use Rattle.pv_walk.proofs.StagedLaws.{staged_start}
use Rattle.pv_walk.proofs.subtree.make_subtree.Goals as goal

pub returns-in_err-put_piece-clause-acted : goal.returns-in_err-put_piece-clause-acted
returns-in_err-put_piece-clause-acted g c =
    let moves : Moves g.T.Tree = record { stays = g.met.T.Tree.reaches_self; goes_on = g.met.T.Tree.reaches_on; never_falls = g.met.T.Tree.never_falls } in
    let t = g.T.Tree.state c.args.tree.now in
    let path = c.args.path.now in
    let pieces = c.args.pieces.items in
    let up = c.requires.parent in
    let some = c.requires.not_root in
    let u = g.T.Tree.state c.loop-piece.tree in
    let piece = c.in-Some.piece in
    let one = cost-push c.pop.new.self.items piece c.in-Some.ensures.items in
    acted_passed g.T.Tree c.put_piece.result c.from_residual.result c.in_err-put_piece.was c.from_residual.ensures.1
    (one_more g.T.Tree moves path some pieces c.pop.new.self.items piece up (rw c.in-Some.ensures.items at c.loop-piece.invariant.here)
    (cost_of pieces) (omega (arith, c.loop-piece.invariant.room, one)) c.loop-piece.invariant.acted
    c.put_piece.ensures.acted)

pub loop-piece-init : goal.loop-piece-init
loop-piece-init g c =
    let moves : Moves g.T.Tree = record { stays = g.met.T.Tree.reaches_self; goes_on = g.met.T.Tree.reaches_on; never_falls = g.met.T.Tree.never_falls } in
    let t = g.T.Tree.state c.args.tree.now in
    let path = c.args.path.now in
    let pieces = c.args.pieces.items in
    let up = c.requires.parent in
    let some = c.requires.not_root in
    let free = λ (rest : Path). none_under (places t) (g.met.T.Tree.is_tree c.args.tree.now) path (path ++ rest) c.requires.free (is_prefix-append path rest) in
    record {
      here = doing_start c.args.now path some t up pieces free c.requires.plan;
      room = omega arith;
      acted =
          acted_none g.T.Tree moves (Staging path (made_of pieces) t) (GivesPart path (made_of pieces)) (cost_of pieces - cost_of pieces) c.args.now c.args.tree.now well refl
          (staged_start path (made_of pieces) t (g.met.T.Tree.is_tree c.args.tree.now) c.requires.free);
    }

pub put_piece-requires : goal.put_piece-requires
put_piece-requires g c =
    let t = g.T.Tree.state c.args.tree.now in
    let path = c.args.path.now in
    let pieces = c.args.pieces.items in
    let up = c.requires.parent in
    let some = c.requires.not_root in
    doing_can c.args.now path some t up pieces c.pop.new.self.items (g.T.Tree.state c.loop-piece.tree) c.in-Some.piece (rw c.in-Some.ensures.items at c.loop-piece.invariant.here)

pub loop-piece-preserved : goal.loop-piece-preserved
loop-piece-preserved g c =
    let moves : Moves g.T.Tree = record { stays = g.met.T.Tree.reaches_self; goes_on = g.met.T.Tree.reaches_on; never_falls = g.met.T.Tree.never_falls } in
    let t = g.T.Tree.state c.args.tree.now in
    let path = c.args.path.now in
    let pieces = c.args.pieces.items in
    let up = c.requires.parent in
    let some = c.requires.not_root in
    let u = g.T.Tree.state c.loop-piece.tree in
    let piece = c.in-Some.piece in
    let next =
    next_done g.T.Tree moves c.args.now path some pieces c.loop-piece.left.items c.pop.new.self.items piece c.in-Some.ensures.items c.args.tree.now c.loop-piece.tree c.put_piece.new.tree
    up c.loop-piece.invariant.here c.loop-piece.invariant.room c.loop-piece.invariant.acted
    c.in_ok-put_piece.ensures.ok c.in_ok-put_piece.ensures.acted in
    record { here = next.0; room = next.1.0; acted = next.1.1 }

pub returns-clause-ok : goal.returns-clause-ok
returns-clause-ok g c =
    let t = g.T.Tree.state c.args.tree.now in
    let path = c.args.path.now in
    let pieces = c.args.pieces.items in
    let up = c.requires.parent in
    let some = c.requires.not_root in
    let none : c.loop-piece.left.items ≡ [] = nil_from_length c.loop-piece.left.items (sym c.loop-piece.left.ok.0 ∙ c.in_default.ensures.cases.0) in
    doing_end c.args.now path some t up pieces (g.T.Tree.state c.loop-piece.tree) (rw none at c.loop-piece.invariant.here) c.requires.top

pub returns-clause-acted : goal.returns-clause-acted
returns-clause-acted g c =
    let most = cost_of c.args.pieces.items in
    acted_within g.T.Tree (most - cost_of c.loop-piece.left.items) most (omega arith) c.loop-piece.invariant.acted
