use Rattle.std.proofs.Common.{◌+◌, ◌∷◌, [], take, refl, ap, arith}
use Rattle.std.specs.Prelude.{◌&&◌, not, map, sum}
use Rattle.pv_path.specs.Paths.{has_staging}
use Rattle.pv_steps.specs.Trees.{places}
use Rattle.pv_steps.proofs.ActingLaws.{Moves, well, acted_none, acted_within}
use Rattle.pv_table.specs.Created.{change_work, adjust_work}
use Rattle.pv_create.specs.Reached.{AdjustingInOrder, GivesReached}
use Rattle.pv_create.proofs.ReachedLaws.{acted_more, all_alone, at_most, order_start, reached_alone}
use Rattle.pv_create.proofs.reached.adjust_reached.Goals as goal

pub returns-else-adjustment-clause-acted : goal.returns-else-adjustment-clause-acted
returns-else-adjustment-clause-acted g c =
    let moves : Moves g.T.Tree = record { stays = g.met.T.Tree.reaches_self; goes_on = g.met.T.Tree.reaches_on; never_falls = g.met.T.Tree.never_falls } in
    let adjustment = c.args.adjustment.now in
    let path = c.args.path.now in
    let t = g.T.Tree.state c.args.tree.now in
    let reached = reached_alone adjustment path t c.requires.present (ap (λ d. d && not (has_staging path)) c.if-adjustment.false) in
    acted_within g.T.Tree (sum (map (λ q. change_work adjustment.sets (places t q)) (take (0 + 1) (path ∷ [])))) (adjust_work adjustment path t)
    (at_most adjustment path t (path ∷ []) reached c.args.now (0 + 1))
    (acted_more adjustment path t (path ∷ []) reached c.args.now 0 path (omega arith) refl t refl
    (λ k d from within. absurd (omega (arith, within))) c.requires.sets g.T.Tree moves c.args.tree.now c.args.tree.now c.adjust.new.tree refl refl c.adjust.result
    (acted_none g.T.Tree moves (AdjustingInOrder adjustment path t) (GivesReached adjustment path t) 0 c.args.now c.args.tree.now well refl (order_start c.args.adjustment.now c.args.path.now (g.T.Tree.state c.args.tree.now) (g.T.Tree.state c.args.tree.now) (λ q. refl)))
    (rw c.as_slice.ensures at c.adjust.ensures.acted))

pub adjust-requires-clause-sets : goal.adjust-requires-clause-sets
adjust-requires-clause-sets g c = rw c.as_slice.ensures c.requires.sets

pub returns-else-adjustment-clause-ok : goal.returns-else-adjustment-clause-ok
returns-else-adjustment-clause-ok g c =
    let adjustment = c.args.adjustment.now in
    let path = c.args.path.now in
    let t = g.T.Tree.state c.args.tree.now in
    all_alone adjustment path t (reached_alone adjustment path t c.requires.present (ap (λ d. d && not (has_staging path)) c.if-adjustment.false)) c.args.now
    c.adjust.result (g.T.Tree.state c.adjust.new.tree) (rw c.as_slice.ensures at c.adjust.ensures.ok)
