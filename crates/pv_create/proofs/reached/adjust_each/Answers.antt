use Rattle.std.proofs.Common.{◌≡◌, ◌+◌, ◌++◌, ◌∷◌, [], List, length, take, refl, sym, ap, subst, ◌∙◌, arith, add-one}
use Rattle.std.proofs.lemmas.Iterator.{YieldsList}
use Rattle.std.specs.Vec.Iter.{into_iter_steps}
use Rattle.std.proofs.lemmas.List.{map-id}
use Rattle.std.proofs.lemmas.Iterator.Adapters.{YieldsList-from_vec}
use Rattle.std.proofs.lemmas.Iterator.Consumers.{YieldsList-so_far, YieldsList-turn, YieldsList-end}
use Rattle.std.proofs.Math.Seq.{take-suc}
use Rattle.std.specs.Prelude.{IsSorted, map, sum}
use Rattle.pv_path.specs.Paths.{Path, path_cmp}
use Rattle.pv_steps.specs.Acting.{Acted}
use Rattle.pv_table.specs.Effects.{become}
use Rattle.pv_steps.specs.Trees.{places}
use Rattle.pv_steps.proofs.ActingLaws.{Moves, well, acted_none, acted_passed, acted_within, no_memory}
use Rattle.pv_table.specs.Created.{change_work, adjust_work}
use Rattle.pv_create.specs.Reached.{AdjustingInOrder, GivesReached, IsReached}
use Rattle.pv_create.proofs.ReachedLaws.{order_start, still_present, here_more, acted_more, at_most, all_done, each_at}
use Rattle.pv_create.proofs.reached.adjust_each.Goals as goal

pub returns-in_err-adjust-clause-acted : goal.returns-in_err-adjust-clause-acted
returns-in_err-adjust-clause-acted g c =
    let paths = c.in_ok-paths.paths.items in
    let road : YieldsList into_iter_steps (λ y. y) c.into_iter-at-iterator.result paths = YieldsList-from_vec paths c.into_iter-at-iterator.ensures.into_iter_gives.0 (c.into_iter-at-iterator.ensures.into_iter_gives.1 ∙ c.in_ok-paths.paths.ok.0) in
    let far : c.loop-at.yielded ≡ take (length c.loop-at.yielded) paths = sym (map-id c.loop-at.yielded) ∙ YieldsList-so_far road c.loop-at.yielded c.loop-at.at-iterator c.loop-at.yielded_by in
    let here = subst (λ (v : List Path). places (g.T.Tree.state c.loop-at.tree) ≡ each_at (become c.args.now c.args.adjustment.now.sets) v (places (g.T.Tree.state c.args.tree.now))) far c.loop-at.invariant.here in
    let acted = subst (λ (v : List Path). Acted g.T.Tree (AdjustingInOrder c.args.adjustment.now c.args.path.now (g.T.Tree.state c.args.tree.now)) (GivesReached c.args.adjustment.now c.args.path.now (g.T.Tree.state c.args.tree.now))
    (sum (map (λ q. change_work c.args.adjustment.now.sets (places (g.T.Tree.state c.args.tree.now) q)) v)) c.args.now c.args.tree.now c.loop-at.tree well) far c.loop-at.invariant.acted in
    let turn = YieldsList-turn road c.loop-at.yielded c.loop-at.at-iterator c.loop-at.yielded_by c.next.result c.next.new.self c.in-Some.at c.in-Some.is c.next.ensures.steps in
    let moves : Moves g.T.Tree = record { stays = g.met.T.Tree.reaches_self; goes_on = g.met.T.Tree.reaches_on; never_falls = g.met.T.Tree.never_falls } in
    let adjustment = c.args.adjustment.now in
    let path = c.args.path.now in
    let t = g.T.Tree.state c.args.tree.now in
    let u = g.T.Tree.state c.loop-at.tree in
    let i = (length c.loop-at.yielded) in
    acted_passed g.T.Tree c.adjust.result c.from_residual-in_err-adjust.result c.in_err-adjust.was c.from_residual-in_err-adjust.ensures.1
    (acted_within g.T.Tree (sum (map (λ q. change_work adjustment.sets (places t q)) (take (i + 1) c.in_ok-paths.paths.items))) (adjust_work adjustment path t)
    (at_most adjustment path t c.in_ok-paths.paths.items c.in_ok-paths.ensures.reached c.args.now (i + 1))
    (acted_more adjustment path t c.in_ok-paths.paths.items c.in_ok-paths.ensures.reached c.args.now i c.in-Some.at turn.0 turn.1 u here
    c.in_ok-paths.ensures.order c.requires.sets g.T.Tree moves c.args.tree.now c.loop-at.tree c.adjust.new.tree refl refl c.adjust.result acted (rw c.as_slice.ensures at c.adjust.ensures.acted)))

pub returns-in_err-paths-clause-acted : goal.returns-in_err-paths-clause-acted
returns-in_err-paths-clause-acted g c =
    let moves : Moves g.T.Tree = record { stays = g.met.T.Tree.reaches_self; goes_on = g.met.T.Tree.reaches_on; never_falls = g.met.T.Tree.never_falls } in
    let t = g.T.Tree.state c.args.tree.now in
    acted_none g.T.Tree moves (AdjustingInOrder c.args.adjustment.now c.args.path.now t) (GivesReached c.args.adjustment.now c.args.path.now t) (adjust_work c.args.adjustment.now c.args.path.now t) c.args.now c.args.tree.now
    c.from_residual.result (no_memory c.from_residual.result c.from_residual.ensures.1) (order_start c.args.adjustment.now c.args.path.now (g.T.Tree.state c.args.tree.now) (g.T.Tree.state c.args.tree.now) (λ q. refl))

pub adjust-requires-clause-present : goal.adjust-requires-clause-present
adjust-requires-clause-present g c =
    let paths = c.in_ok-paths.paths.items in
    let road : YieldsList into_iter_steps (λ y. y) c.into_iter-at-iterator.result paths = YieldsList-from_vec paths c.into_iter-at-iterator.ensures.into_iter_gives.0 (c.into_iter-at-iterator.ensures.into_iter_gives.1 ∙ c.in_ok-paths.paths.ok.0) in
    let far : c.loop-at.yielded ≡ take (length c.loop-at.yielded) paths = sym (map-id c.loop-at.yielded) ∙ YieldsList-so_far road c.loop-at.yielded c.loop-at.at-iterator c.loop-at.yielded_by in
    let here = subst (λ (v : List Path). places (g.T.Tree.state c.loop-at.tree) ≡ each_at (become c.args.now c.args.adjustment.now.sets) v (places (g.T.Tree.state c.args.tree.now))) far c.loop-at.invariant.here in
    let acted = subst (λ (v : List Path). Acted g.T.Tree (AdjustingInOrder c.args.adjustment.now c.args.path.now (g.T.Tree.state c.args.tree.now)) (GivesReached c.args.adjustment.now c.args.path.now (g.T.Tree.state c.args.tree.now))
    (sum (map (λ q. change_work c.args.adjustment.now.sets (places (g.T.Tree.state c.args.tree.now) q)) v)) c.args.now c.args.tree.now c.loop-at.tree well) far c.loop-at.invariant.acted in
    let turn = YieldsList-turn road c.loop-at.yielded c.loop-at.at-iterator c.loop-at.yielded_by c.next.result c.next.new.self c.in-Some.at c.in-Some.is c.next.ensures.steps in
    still_present c.args.adjustment.now c.args.path.now (g.T.Tree.state c.args.tree.now) c.in_ok-paths.paths.items c.in_ok-paths.ensures.reached c.args.now (length c.loop-at.yielded) c.in-Some.at turn.0 turn.1
    (g.T.Tree.state c.loop-at.tree) here

pub adjust-requires-clause-sets : goal.adjust-requires-clause-sets
adjust-requires-clause-sets g c = rw c.as_slice.ensures c.requires.sets

pub loop-at-preserved : goal.loop-at-preserved
loop-at-preserved g c =
    let paths = c.in_ok-paths.paths.items in
    let road : YieldsList into_iter_steps (λ y. y) c.into_iter-at-iterator.result paths = YieldsList-from_vec paths c.into_iter-at-iterator.ensures.into_iter_gives.0 (c.into_iter-at-iterator.ensures.into_iter_gives.1 ∙ c.in_ok-paths.paths.ok.0) in
    let far : c.loop-at.yielded ≡ take (length c.loop-at.yielded) paths = sym (map-id c.loop-at.yielded) ∙ YieldsList-so_far road c.loop-at.yielded c.loop-at.at-iterator c.loop-at.yielded_by in
    let here = subst (λ (v : List Path). places (g.T.Tree.state c.loop-at.tree) ≡ each_at (become c.args.now c.args.adjustment.now.sets) v (places (g.T.Tree.state c.args.tree.now))) far c.loop-at.invariant.here in
    let acted = subst (λ (v : List Path). Acted g.T.Tree (AdjustingInOrder c.args.adjustment.now c.args.path.now (g.T.Tree.state c.args.tree.now)) (GivesReached c.args.adjustment.now c.args.path.now (g.T.Tree.state c.args.tree.now))
    (sum (map (λ q. change_work c.args.adjustment.now.sets (places (g.T.Tree.state c.args.tree.now) q)) v)) c.args.now c.args.tree.now c.loop-at.tree well) far c.loop-at.invariant.acted in
    let turn = YieldsList-turn road c.loop-at.yielded c.loop-at.at-iterator c.loop-at.yielded_by c.next.result c.next.new.self c.in-Some.at c.in-Some.is c.next.ensures.steps in
    let more : take (length c.loop-at.yielded + 1) paths ≡ c.loop-at.yielded ++ c.in-Some.at ∷ [] =
    ap (λ k. take k paths) (add-one (length c.loop-at.yielded)) ∙ take-suc paths (length c.loop-at.yielded) c.in-Some.at turn.0 ∙ ap (λ (n : Path). take (length c.loop-at.yielded) paths ++ n ∷ []) (sym turn.1)
    ∙ ap (λ (v : List Path). v ++ c.in-Some.at ∷ []) (sym far) in
    let moves : Moves g.T.Tree = record { stays = g.met.T.Tree.reaches_self; goes_on = g.met.T.Tree.reaches_on; never_falls = g.met.T.Tree.never_falls } in
    let t = g.T.Tree.state c.args.tree.now in
    let u = g.T.Tree.state c.loop-at.tree in
    record {
      here = subst (λ (v : List Path). places (g.T.Tree.state c.adjust.new.tree) ≡ each_at (become c.args.now c.args.adjustment.now.sets) v (places (g.T.Tree.state c.args.tree.now))) more (here_more c.args.adjustment.now c.args.path.now t c.in_ok-paths.paths.items c.in_ok-paths.ensures.reached c.args.now (length c.loop-at.yielded) c.in-Some.at turn.0 turn.1 u here
          (g.T.Tree.state c.adjust.new.tree) (rw c.as_slice.ensures at c.in_ok-adjust.ensures.ok));
      acted = subst (λ (v : List Path). Acted g.T.Tree (AdjustingInOrder c.args.adjustment.now c.args.path.now t) (GivesReached c.args.adjustment.now c.args.path.now t)
          (sum (map (λ q. change_work c.args.adjustment.now.sets (places t q)) v)) c.args.now c.args.tree.now c.adjust.new.tree well) more (acted_more c.args.adjustment.now c.args.path.now t c.in_ok-paths.paths.items c.in_ok-paths.ensures.reached c.args.now (length c.loop-at.yielded) c.in-Some.at turn.0 turn.1 u here
          c.in_ok-paths.ensures.order c.requires.sets g.T.Tree moves c.args.tree.now c.loop-at.tree c.adjust.new.tree refl refl well acted (rw c.as_slice.ensures at c.in_ok-adjust.ensures.acted));
    }

pub returns-clause-ok : goal.returns-clause-ok
returns-clause-ok g c =
    let paths = c.in_ok-paths.paths.items in
    let road : YieldsList into_iter_steps (λ y. y) c.into_iter-at-iterator.result paths = YieldsList-from_vec paths c.into_iter-at-iterator.ensures.into_iter_gives.0 (c.into_iter-at-iterator.ensures.into_iter_gives.1 ∙ c.in_ok-paths.paths.ok.0) in
    let far : c.loop-at.yielded ≡ take (length c.loop-at.yielded) paths = sym (map-id c.loop-at.yielded) ∙ YieldsList-so_far road c.loop-at.yielded c.loop-at.at-iterator c.loop-at.yielded_by in
    let here = subst (λ (v : List Path). places (g.T.Tree.state c.loop-at.tree) ≡ each_at (become c.args.now c.args.adjustment.now.sets) v (places (g.T.Tree.state c.args.tree.now))) far c.loop-at.invariant.here in
    let acted = subst (λ (v : List Path). Acted g.T.Tree (AdjustingInOrder c.args.adjustment.now c.args.path.now (g.T.Tree.state c.args.tree.now)) (GivesReached c.args.adjustment.now c.args.path.now (g.T.Tree.state c.args.tree.now))
    (sum (map (λ q. change_work c.args.adjustment.now.sets (places (g.T.Tree.state c.args.tree.now) q)) v)) c.args.now c.args.tree.now c.loop-at.tree well) far c.loop-at.invariant.acted in
    let ended = YieldsList-end road c.loop-at.yielded c.loop-at.at-iterator c.loop-at.yielded_by c.next.result c.next.new.self c.in-None.is c.next.ensures.steps in
    all_done c.args.adjustment.now c.args.path.now (g.T.Tree.state c.args.tree.now) c.in_ok-paths.paths.items c.in_ok-paths.ensures.reached c.args.now (length c.loop-at.yielded) (omega (arith, ended.1)) (g.T.Tree.state c.loop-at.tree) here

pub returns-clause-acted : goal.returns-clause-acted
returns-clause-acted g c =
    let paths = c.in_ok-paths.paths.items in
    let road : YieldsList into_iter_steps (λ y. y) c.into_iter-at-iterator.result paths = YieldsList-from_vec paths c.into_iter-at-iterator.ensures.into_iter_gives.0 (c.into_iter-at-iterator.ensures.into_iter_gives.1 ∙ c.in_ok-paths.paths.ok.0) in
    let far : c.loop-at.yielded ≡ take (length c.loop-at.yielded) paths = sym (map-id c.loop-at.yielded) ∙ YieldsList-so_far road c.loop-at.yielded c.loop-at.at-iterator c.loop-at.yielded_by in
    let here = subst (λ (v : List Path). places (g.T.Tree.state c.loop-at.tree) ≡ each_at (become c.args.now c.args.adjustment.now.sets) v (places (g.T.Tree.state c.args.tree.now))) far c.loop-at.invariant.here in
    let acted = subst (λ (v : List Path). Acted g.T.Tree (AdjustingInOrder c.args.adjustment.now c.args.path.now (g.T.Tree.state c.args.tree.now)) (GivesReached c.args.adjustment.now c.args.path.now (g.T.Tree.state c.args.tree.now))
    (sum (map (λ q. change_work c.args.adjustment.now.sets (places (g.T.Tree.state c.args.tree.now) q)) v)) c.args.now c.args.tree.now c.loop-at.tree well) far c.loop-at.invariant.acted in
    let adjustment = c.args.adjustment.now in
    let path = c.args.path.now in
    let t = g.T.Tree.state c.args.tree.now in
    acted_within g.T.Tree (sum (map (λ q. change_work adjustment.sets (places t q)) (take (length c.loop-at.yielded) c.in_ok-paths.paths.items))) (adjust_work adjustment path t)
    (at_most adjustment path t c.in_ok-paths.paths.items c.in_ok-paths.ensures.reached c.args.now (length c.loop-at.yielded)) acted

pub loop-at-init : goal.loop-at-init
loop-at-init g c =
    let moves : Moves g.T.Tree = record { stays = g.met.T.Tree.reaches_self; goes_on = g.met.T.Tree.reaches_on; never_falls = g.met.T.Tree.never_falls } in
    let t = g.T.Tree.state c.args.tree.now in
    record {
      here = refl;
      acted = acted_none g.T.Tree moves (AdjustingInOrder c.args.adjustment.now c.args.path.now t) (GivesReached c.args.adjustment.now c.args.path.now t) 0 c.args.now c.args.tree.now well refl
          (order_start c.args.adjustment.now c.args.path.now t t (λ q. refl));
    }
