use Rattle.std.proofs.Common.{◌≡◌, ◌∷◌, ◌+◌, true, refl, sym, ap, subst, ◌∙◌, arith, map, List, Ok}
use Rattle.std.specs.List.{AllByRecursion}
use Rattle.pv_path.specs.Paths.{Path, staging_of}
use Rattle.pv_steps.specs.Trees.{IsAbsentIn, places}
use Rattle.pv_steps.specs.Acting.{Acted}
use Rattle.pv_steps.specs.Content.{Removes}
use Rattle.pv_steps.proofs.ActingLaws.{Moves, acted_none, acted_within, acted_passed, acted_end, no_memory}
use Rattle.pv_walk.specs.Edits.{Pruned, all_taken}
use Rattle.pv_walk.specs.Staging.{can_stage, count_at_all, is_under_any, staging_names}
use Rattle.pv_walk.proofs.SweepLaws.{pruned-none}
use Rattle.pv_walk.proofs.PreparingSweep.{swept_along}
use Rattle.pv_layers.specs.Places.{etc}
use Rattle.pv_sysusers.specs.FileWriting.{IsSweptPath, account_paths, swept_names}
use Rattle.pv_sysusers.proofs.SweepingLaws.{all_swept, count_all, count_fewer, etc_among, swept_then, swept_within}
use Rattle.pv_sysusers.proofs.sweeping.sweep_all.Goals as goal
use Rattle.pv_path.proofs.Tests.{on_ok}

pub sweep-requires : goal.sweep-requires
sweep-requires g c = subst (λ (p : Path). can_stage p ≡ true) (sym c.in_ok-etc.ensures) refl

pub returns-in_err-sweep-clause-acted : goal.returns-in_err-sweep-clause-acted
returns-in_err-sweep-clause-acted g c =
    let moves : Moves g.T.Tree = record { stays = g.met.T.Tree.reaches_self; goes_on = g.met.T.Tree.reaches_on; never_falls = g.met.T.Tree.never_falls } in
    let s = g.T.Tree.state c.args.tree.now in
    acted_passed g.T.Tree c.sweep.result c.from_residual-in_err-sweep.result c.in_err-sweep.was c.from_residual-in_err-sweep.ensures.1
    (acted_within g.T.Tree (count_at_all s (staging_names etc)) (count_at_all s swept_names) (omega (arith, count_all s))
    (swept_within g.T.Tree moves (is_under_any (staging_names etc)) etc_among
    (subst (λ (p : Path). Acted g.T.Tree (Pruned (is_under_any (staging_names p)) s) (Removes (is_under_any (staging_names p))) (count_at_all s (staging_names p)) c.args.now c.args.tree.now c.sweep.new.tree c.sweep.result) c.in_ok-etc.ensures c.sweep.ensures.acted)))

pub sweep_files-requires-clause-paths : goal.sweep_files-requires-clause-paths
sweep_files-requires-clause-paths g c = subst (AllByRecursion IsSweptPath) (sym (c.deref.ensures.value ∙ c.in_ok-paths.ensures)) all_swept

pub sweep_files-requires-clause-above : goal.sweep_files-requires-clause-above
sweep_files-requires-clause-above g c =
    let s = g.T.Tree.state c.args.tree.now in
    let u = g.T.Tree.state c.sweep.new.tree in
    swept_along c.args.now etc s u (c.in_ok-sweep.ensures.taken ∙ ap (λ (p : Path). all_taken c.args.now (staging_names p) (places s)) c.in_ok-etc.ensures) etc (λ e. cc) refl

pub returns-clause-ok : goal.returns-clause-ok
returns-clause-ok g c =
    let s = g.T.Tree.state c.args.tree.now in
    let u = g.T.Tree.state c.sweep.new.tree in
    on_ok c.sweep_files.result (λ e. e ∙ ap (λ (ps : List Path). all_taken c.args.now (map staging_of ps) (places u)) (c.deref.ensures.value ∙ c.in_ok-paths.ensures)
    ∙ ap (all_taken c.args.now (map staging_of account_paths)) (c.in_ok-sweep.ensures.taken ∙ ap (λ (p : Path). all_taken c.args.now (staging_names p) (places s)) c.in_ok-etc.ensures)) c.sweep_files.ensures.ok

pub returns-clause-free : goal.returns-clause-free
returns-clause-free g c =
    let v = g.T.Tree.state c.sweep_files.new.tree in
    on_ok c.sweep_files.result (λ h. subst (λ (ps : List Path). AllByRecursion (λ (p : Path). IsAbsentIn (places v) (staging_of p)) (etc ∷ ps)) (c.deref.ensures.value ∙ c.in_ok-paths.ensures) h) c.sweep_files.ensures.free

pub returns-clause-acted : goal.returns-clause-acted
returns-clause-acted g c =
    let moves : Moves g.T.Tree = record { stays = g.met.T.Tree.reaches_self; goes_on = g.met.T.Tree.reaches_on; never_falls = g.met.T.Tree.never_falls } in
    let s = g.T.Tree.state c.args.tree.now in
    let u = g.T.Tree.state c.sweep.new.tree in
    let inside = is_under_any swept_names in
    let first : Acted g.T.Tree (Pruned inside s) (Removes inside) (count_at_all s (staging_names etc)) c.args.now c.args.tree.now c.sweep.new.tree (Ok c.in_ok-sweep.field-0) =
    swept_within g.T.Tree moves (is_under_any (staging_names etc)) etc_among
    (subst (λ (p : Path). Acted g.T.Tree (Pruned (is_under_any (staging_names p)) s) (Removes (is_under_any (staging_names p))) (count_at_all s (staging_names p)) c.args.now c.args.tree.now c.sweep.new.tree (Ok c.in_ok-sweep.field-0)) c.in_ok-etc.ensures c.in_ok-sweep.ensures.acted) in
    let pruned = acted_end g.T.Tree (Pruned inside s) (Removes inside) first in
    let last : Acted g.T.Tree (Pruned inside u) (Removes inside) (count_at_all u (map staging_of account_paths)) c.args.now c.sweep.new.tree c.sweep_files.new.tree c.sweep_files.result =
    subst (λ (ps : List Path). Acted g.T.Tree (Pruned inside u) (Removes inside) (count_at_all u (map staging_of ps)) c.args.now c.sweep.new.tree c.sweep_files.new.tree c.sweep_files.result) (c.deref.ensures.value ∙ c.in_ok-paths.ensures) c.sweep_files.ensures.acted in
    acted_within g.T.Tree (count_at_all s (staging_names etc) + count_at_all s (map staging_of account_paths)) (count_at_all s swept_names) (omega (arith, count_all s))
    (swept_then g.T.Tree moves (count_fewer inside s u pruned (map staging_of account_paths)) first last)

pub returns-in_err-paths-clause-acted : goal.returns-in_err-paths-clause-acted
returns-in_err-paths-clause-acted g c =
    let moves : Moves g.T.Tree = record { stays = g.met.T.Tree.reaches_self; goes_on = g.met.T.Tree.reaches_on; never_falls = g.met.T.Tree.never_falls } in
    let s = g.T.Tree.state c.args.tree.now in
    acted_none g.T.Tree moves (Pruned (is_under_any swept_names) s) (Removes (is_under_any swept_names)) (count_at_all s swept_names) c.args.now c.args.tree.now c.from_residual.result
    (no_memory c.from_residual.result c.from_residual.ensures.1) (pruned-none (is_under_any swept_names) s)

pub returns-in_err-etc-clause-acted : goal.returns-in_err-etc-clause-acted
returns-in_err-etc-clause-acted g c =
    let moves : Moves g.T.Tree = record { stays = g.met.T.Tree.reaches_self; goes_on = g.met.T.Tree.reaches_on; never_falls = g.met.T.Tree.never_falls } in
    let s = g.T.Tree.state c.args.tree.now in
    acted_none g.T.Tree moves (Pruned (is_under_any swept_names) s) (Removes (is_under_any swept_names)) (count_at_all s swept_names) c.args.now c.args.tree.now c.from_residual-in_err-etc.result
    (no_memory c.from_residual-in_err-etc.result c.from_residual-in_err-etc.ensures.1) (pruned-none (is_under_any swept_names) s)
